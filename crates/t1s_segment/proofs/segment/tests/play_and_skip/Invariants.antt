use Rattle.t1s_segment.specs.Stands.{ticks_left}
use Rattle.t1s_segment.proofs.segment.tests.play_and_skip.Given as goal

abbrev pub decreases-loop-segment : goal.decreases-loop-segment
decreases-loop-segment l = ticks_left l.segment
