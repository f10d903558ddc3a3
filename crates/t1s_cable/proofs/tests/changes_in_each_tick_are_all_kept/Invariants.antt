use Rattle.std.proofs.Common.{◌≡◌, length}
use Rattle.t1s_cable.proofs.tests.changes_in_each_tick_are_all_kept.Given as goal

abbrev pub invariant-loop-round : goal.invariant-loop-round
invariant-loop-round g l = length l.cable.taps ≡ 3
