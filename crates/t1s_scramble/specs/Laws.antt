-- A descrambler finds its step by itself.
use Rattle.std.specs.Prelude.{◌≡◌, ℕ, ◌<◌, Bool, List, drop, All}
use Rattle.t1s_scramble.specs.Scrambled.{scrambled, descrambled, scrambled_nibbles, descrambled_nibbles}

-- whatever was heard before and whatever was sent before, the descrambled list of a scrambled list is its
-- source from the 18th bit on
abbrev pub BitsFindTheirStep : Type 0
BitsFindTheirStep = (heard sent bits : List Bool) → drop 17 (descrambled heard (scrambled sent bits)) ≡ drop 17 bits

-- and so from the sixth nibble on
abbrev pub NibblesFindTheirStep : Type 0
NibblesFindTheirStep =
    (heard sent : List Bool) (nibbles : List ℕ) → All (λ n. n < 16) nibbles
    → drop 5 (descrambled_nibbles heard (scrambled_nibbles sent nibbles)) ≡ drop 5 nibbles
