-- How the nibbles of pieces are read.
use Rattle.std.specs.Prelude.{ℕ, Bool, List, [], ◌∷◌, ◌++◌, ◌<◌, length, nat_lt, if◌then◌else◌}
use Rattle.t1s_symbols.specs.declared.Symbol.{Symbol}
use Rattle.t1s_symbols.specs.declared.Symbol.TheVariants.{Nibble, H}
use Rattle.t1s_scramble.specs.Scrambled.{start_history, descrambled_nibble, descrambler_after}

-- the history of the descrambler, and the nibbles of the piece from the tenth on
pub record PieceReading : Type 0 where
  pub history : List Bool
  pub nibbles : List ℕ

abbrev pub reading_start : PieceReading
reading_start = record { history = start_history; nibbles = [] }

-- the descrambler takes each nibble
abbrev pub history_after : List Bool → Symbol → List Bool
history_after past (Nibble n) = descrambler_after past (n ∷ [])
history_after past _ = past

-- the nibbles of a piece begin after its two H, and those from the tenth on are taken, descrambled. The number
-- counts the nibbles of the piece so far
abbrev pub nibbles_after : ℕ → List Bool → List ℕ → Symbol → List ℕ
nibbles_after count past heard H = []
nibbles_after count past heard (Nibble n) =
    if nat_lt count 9 then heard else heard ++ descrambled_nibble past n ∷ []
nibbles_after count past heard _ = heard

-- a symbol that is taken, after so many nibbles of its piece
abbrev pub reading_after : ℕ → PieceReading → Symbol → PieceReading
reading_after count r s = record {
  history = history_after r.history s;
  nibbles = nibbles_after count r.history r.nibbles s;
}

-- no nibbles of a piece
abbrev pub without_nibbles : PieceReading → PieceReading
without_nibbles r = record { history = r.history; nibbles = [] }

-- there is room for a nibble
abbrev pub HasRoom : Symbol → List ℕ → Type 0
HasRoom (Nibble n) heard = length heard < 3047
HasRoom _ heard = Unit {0}
