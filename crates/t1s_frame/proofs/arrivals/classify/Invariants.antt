use Rattle.std.proofs.Common.{◌≡◌, take}
use Rattle.t1s_frame.proofs.arrivals.classify.Given as goal

abbrev pub invariant-loop-nibble : goal.invariant-loop-nibble
invariant-loop-nibble l = l.piece ≡ take l.nibble-index l.nibbles
