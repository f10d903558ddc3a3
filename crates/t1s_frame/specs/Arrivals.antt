-- How a received piece is classified, by its nibbles from the tenth on.
use Rattle.std.specs.Prelude.{ℕ, ◌+◌, ◌-◌, ◌*◌, ◌/◌, ◌%◌, ◌==◌, if◌then◌else◌, Bool, not, nat_eq, nat_lt, List, [], ◌∷◌, length, take, drop}
use Rattle.std.specs.List.{starts_with, ends_with}
use Rattle.t1s_frame.specs.FrameCheck.{frame_check, check_octets}
use Rattle.t1s_frame.specs.declared.arrivals.Arrival.{Arrival}
use Rattle.t1s_frame.specs.declared.arrivals.Arrival.TheVariants.{Good, BadFcs, Odd, Runt, NoSfd}

-- the octets of nibbles, the low nibble of each first; an odd last nibble is left out
abbrev pub octets_of : List ℕ → List ℕ
octets_of [] = []
octets_of (low ∷ []) = []
octets_of (low ∷ high ∷ rest) = (low + 16 * high) ∷ octets_of rest

-- whether the last four octets are the frame check sequence of those before, the low octet first
abbrev pub ends_with_check : List ℕ → Bool
ends_with_check octets =
    ends_with nat_eq octets (check_octets (frame_check (take (length octets - 4) octets)))

-- the class of a piece: the first row that holds
unfoldable pub arrival_of : List ℕ → Arrival
arrival_of nibbles =
    if not (starts_with nat_eq nibbles (5 ∷ 5 ∷ 13 ∷ [])) then NoSfd
    else if length (drop 3 nibbles) % 2 == 1 then Odd
    else if nat_lt (length (drop 3 nibbles) / 2) 64 then Runt
    else if not (ends_with_check (octets_of (drop 3 nibbles))) then BadFcs
    else Good
