-- Nibbles that are packed into octets.
use Rattle.std.specs.Prelude.{ℕ, ◌≤◌, ◌+◌, ◌*◌, ◌/◌, ◌%◌, ◌==◌, ◌&&◌, Bool, List, take, drop, if◌then◌else◌}
use Rattle.t1s_frame.specs.Frame.{nibbles_of}

-- the nibbles of octets, the low nibble of each first, up to an end and without the very first
unfoldable pub packed_nibbles : List ℕ → ℕ → List ℕ
packed_nibbles packed end = drop 1 (take end (nibbles_of packed))

pub record IsEnd (end : ℕ) : Type 0 where
  pub least : 1 ≤ end
  pub most : end ≤ 3048

-- an octet with the nibble of this place: the low one at an even place, and the high one at an odd place
abbrev pub packed_octet : ℕ → ℕ → ℕ → ℕ
packed_octet octet place nibble = if place % 2 == 0 then nibble else octet % 16 + 16 * nibble

-- whether the second nibble of one octet and both of the next are 5, 5 and D
abbrev pub is_delimiter : ℕ → ℕ → Bool
is_delimiter first second = (first / 16 == 5) && ((second % 16 == 5) && (second / 16 == 13))
