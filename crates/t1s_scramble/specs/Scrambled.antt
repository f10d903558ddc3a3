-- The scrambled and the descrambled list: s(n) = d(n) xor s(n-14) xor s(n-17), and back.
use Rattle.std.specs.Prelude.{ℕ, Bool, false, List, [], ◌∷◌, ◌++◌, take, reverse, replicate, slice_index_or}
use Rattle.std.specs.Bool.{xor}
use Rattle.t1s_scramble.specs.Bits.{bits_of, all_bits, number_of, nibbles_of}

-- a bit with those of 14 and 17 bits ago on it. The past is s(n-1), s(n-2), .., the newest first
abbrev pub mixed : List Bool → Bool → Bool
mixed past b = xor (xor b (slice_index_or past 13 false)) (slice_index_or past 16 false)

-- the scrambled list of d(1), d(2), .., where the past is s(0), s(-1), ..
unfoldable pub scrambled : List Bool → List Bool → List Bool
scrambled past [] = []
scrambled past (d ∷ ds) = mixed past d ∷ scrambled (mixed past d ∷ past) ds

-- the descrambled list of s(1), s(2), .., where the past is s(0), s(-1), ..
unfoldable pub descrambled : List Bool → List Bool → List Bool
descrambled past [] = []
descrambled past (s ∷ ss) = mixed past s ∷ descrambled (s ∷ past) ss

-- the history after these bits: the newest seventeen of all, and the past as it was where there are none
unfoldable pub history_after : List Bool → List Bool → List Bool
history_after past [] = past
history_after past (b ∷ bs) = take 17 (reverse (b ∷ bs) ++ past)

-- the history at the start
unfoldable pub start_history : List Bool
start_history = replicate 17 false

-- the same for nibbles: one, and a list of them
unfoldable pub scrambled_nibble : List Bool → ℕ → ℕ
scrambled_nibble past nibble = number_of (scrambled past (bits_of nibble))

unfoldable pub descrambled_nibble : List Bool → ℕ → ℕ
descrambled_nibble past nibble = number_of (descrambled past (bits_of nibble))

unfoldable pub scrambled_nibbles : List Bool → List ℕ → List ℕ
scrambled_nibbles past nibbles = nibbles_of (scrambled past (all_bits nibbles))

unfoldable pub descrambled_nibbles : List Bool → List ℕ → List ℕ
descrambled_nibbles past nibbles = nibbles_of (descrambled past (all_bits nibbles))

-- the history of a scrambler that has scrambled these nibbles, and of a descrambler that has heard them
unfoldable pub scrambler_after : List Bool → List ℕ → List Bool
scrambler_after past nibbles = history_after past (scrambled past (all_bits nibbles))

unfoldable pub descrambler_after : List Bool → List ℕ → List Bool
descrambler_after past nibbles = history_after past (all_bits nibbles)
