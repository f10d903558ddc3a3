use Rattle.std.proofs.Common.{◌≡◌, length}
use Rattle.t1s_cable.proofs.tests.wait.Given as goal

abbrev pub invariant-loop : goal.invariant-loop
invariant-loop l = length l.cable.taps ≡ 3
