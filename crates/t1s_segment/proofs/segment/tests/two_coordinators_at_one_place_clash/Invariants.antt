use Rattle.t1s_segment.specs.Stands.{ticks_left}
use Rattle.t1s_segment.proofs.segment.tests.two_coordinators_at_one_place_clash.Given as goal

abbrev pub decreases-loop-segment : goal.decreases-loop-segment
decreases-loop-segment g l = ticks_left l.segment
