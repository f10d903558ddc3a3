use Rattle.std.proofs.Common.{◌≡◌, length}
use Rattle.t1s_cable.proofs.tests.what_goes_on_is_heard_while_ticks_are_counted_anew.Given as goal

abbrev pub invariant-loop-tick : goal.invariant-loop-tick
invariant-loop-tick g l = length l.cable.taps ≡ 3
