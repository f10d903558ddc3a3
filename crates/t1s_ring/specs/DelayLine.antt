-- The line of nibbles that the data path delays.
use Rattle.std.specs.Prelude.{ℕ, ◌<◌, ◌≤◌, List, length}
use Rattle.std.specs.List.{All}

-- the most nibbles that a line holds
abbrev pub line_room : ℕ
line_room = 97

-- A line is a list of at most 97 nibbles, each below 16, the oldest first.
pub record IsLine (nibbles : List ℕ) : Type 0 where
  pub room : length nibbles ≤ line_room
  pub nibble : All (λ x. x < 16) nibbles
