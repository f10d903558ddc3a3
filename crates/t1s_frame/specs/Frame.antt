-- What a frame is, as the list of its octets (IEEE 802.3 clause 3), and the nibbles that carry it.
use Rattle.std.specs.Prelude.{◌≡◌, ℕ, ◌-◌, ◌/◌, ◌%◌, ◌<◌, ◌≤◌, List, [], ◌∷◌, ◌++◌, length, take, drop, replicate, All}
use Rattle.t1s_frame.specs.FrameCheck.{frame_check, check_octets}

-- the last four octets are the frame check sequence of those before, the low octet first
abbrev pub EndsWithCheck : List ℕ → Type 0
EndsWithCheck octets =
    drop (length octets - 4) octets ≡ check_octets (frame_check (take (length octets - 4) octets))

-- 64 to 1522 octets, of which the last four are the frame check sequence of those before
pub record IsFrame (octets : List ℕ) : Type 0 where
  pub shortest : 64 ≤ length octets
  pub longest : length octets ≤ 1522
  pub ranges : All (λ x. x < 256) octets
  pub checked : EndsWithCheck octets

-- the octets of an offer, with zero octets up to 60
abbrev pub padded : List ℕ → List ℕ
padded octets = octets ++ replicate (60 - length octets) 0

-- the frame of an offer: its padded octets, and their frame check sequence, the low octet first
unfoldable pub frame_of : List ℕ → List ℕ
frame_of octets = padded octets ++ check_octets (frame_check (padded octets))

-- the nibbles of octets, the low nibble of each first
abbrev pub nibbles_of : List ℕ → List ℕ
nibbles_of [] = []
nibbles_of (x ∷ xs) = x % 16 ∷ x / 16 ∷ nibbles_of xs

-- the nibbles that carry a frame: the preamble of fifteen nibbles 5, the nibble D that ends the
-- start-of-frame delimiter, and the nibbles of its octets
unfoldable pub nibble_list : List ℕ → List ℕ
nibble_list octets = replicate 15 5 ++ 13 ∷ nibbles_of octets
