use Rattle.std.proofs.Common.{◌≡◌, length}
use Rattle.t1s_cable.proofs.tests.commit.Given as goal

abbrev pub invariant-loop-tick : goal.invariant-loop-tick
invariant-loop-tick l = length l.cable.taps ≡ 3
