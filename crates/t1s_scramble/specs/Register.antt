-- A register of seventeen bits as a history.
use Rattle.std.specs.Prelude.{ℕ, zero, suc, Bool, List, [], ◌∷◌}
use Rattle.t1s_scramble.specs.Bits.{bit}

-- the bits of a number below bit n, the highest first
abbrev pub bits_below : ℕ → ℕ → List Bool
bits_below zero r = []
bits_below (suc n) r = bit r n ∷ bits_below n r

-- the newest bit is bit 16
unfoldable pub history_of : ℕ → List Bool
history_of r = bits_below 17 r
