use Rattle.t1s_segment.specs.Stands.{ticks_left}
use Rattle.t1s_segment.proofs.segment.tests.a_run_with_skips_is_the_same_run.Given as goal

abbrev pub decreases-loop-plain : goal.decreases-loop-plain
decreases-loop-plain g l = ticks_left l.plain
