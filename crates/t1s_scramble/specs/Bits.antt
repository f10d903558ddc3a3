-- Nibbles as bits, the low bit first.
use Rattle.std.specs.Prelude.{ℕ, ◌+◌, ◌*◌, ◌==◌, Bool, List, [], ◌∷◌, if◌then◌else◌}
use Rattle.std.specs.Int.{bit_at}
use Rattle.std.specs.List.{flat_map}

-- whether bit i of a number is set
abbrev pub bit : ℕ → ℕ → Bool
bit n i = bit_at n i == 1

unfoldable pub bits_of : ℕ → List Bool
bits_of nibble = bit nibble 0 ∷ bit nibble 1 ∷ bit nibble 2 ∷ bit nibble 3 ∷ []

-- the number whose bits these are
abbrev pub number_of : List Bool → ℕ
number_of [] = 0
number_of (b ∷ bs) = (if b then 1 else 0) + 2 * number_of bs

-- the bits of a list of nibbles, one nibble after the other
abbrev pub all_bits : List ℕ → List Bool
all_bits nibbles = flat_map bits_of nibbles

-- the nibbles of a list of bits, four bits a nibble; what is left at the end is no nibble
abbrev pub nibbles_of : List Bool → List ℕ
nibbles_of (a ∷ b ∷ c ∷ d ∷ rest) = number_of (a ∷ b ∷ c ∷ d ∷ []) ∷ nibbles_of rest
nibbles_of _ = []
