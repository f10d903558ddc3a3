use Rattle.std.proofs.Common.{◌≡◌, take}
use Rattle.t1s_cable.specs.Taps.{taps_of}
use Rattle.t1s_cable.proofs.kept.taps_of.Given as goal

abbrev pub invariant-loop-i : goal.invariant-loop-i
invariant-loop-i l = l.taps.items ≡ taps_of (take l.i l.places) (take l.i l.stubs)
