-- The grammar of a burst, over whole lists of symbols.
use Rattle.std.specs.Prelude.{◌≡◌, ℕ, ◌<◌, ◌≤◌, List, [], ◌∷◌, ◌++◌, length, map, replicate, All}
use Rattle.std.specs.List.{flat_map}
use Rattle.t1s_symbols.specs.declared.Symbol.{Symbol}
use Rattle.t1s_symbols.specs.declared.Symbol.TheVariants.{Nibble, J, K, T, R, H, N, S}

-- a piece: how many J lead it, its nibbles as they stand on the line, and its closer
pub record Piece : Type 0 where
  pub lead : ℕ
  pub nibbles : List ℕ
  pub closer : Symbol

-- R closes a good piece, K a bad one, and S one that was cut for jabber
abbrev pub IsCloser : Symbol → Type 0
IsCloser R = Unit {0}
IsCloser K = Unit {0}
IsCloser S = Unit {0}
IsCloser _ = ⊥

-- the counts and ranges of a piece
pub record IsPieceInRange (piece : Piece) : Type 0 where
  pub least_lead : 2 ≤ piece.lead
  pub most_lead : piece.lead ≤ 4096
  pub least_nibbles : 9 ≤ length piece.nibbles
  pub most_nibbles : length piece.nibbles ≤ 3056
  pub nibbles : All (λ n. n < 16) piece.nibbles
  pub closer : IsCloser piece.closer

-- the symbols of a piece up to its last nibble
abbrev pub open_symbols : ℕ → List ℕ → List Symbol
open_symbols lead nibbles = replicate lead J ++ H ∷ H ∷ map Nibble nibbles

-- the symbols of a piece
abbrev pub piece_symbols : Piece → List Symbol
piece_symbols piece = open_symbols piece.lead piece.nibbles ++ T ∷ piece.closer ∷ []

-- the symbols of pieces, one after another
abbrev pub pieces_symbols : List Piece → List Symbol
pieces_symbols pieces = flat_map piece_symbols pieces

abbrev pub IsPiece : List Symbol → Type 0
IsPiece symbols = (piece : Piece) × IsPieceInRange piece × (symbols ≡ piece_symbols piece)

abbrev pub IsBeacon : List Symbol → Type 0
IsBeacon symbols = symbols ≡ N ∷ N ∷ N ∷ N ∷ N ∷ []

-- 1 to 4096 pieces, and then up to 4096 J
pub record IsRun (symbols : List Symbol) : Type 0 where
  pub pieces : List Piece
  pub rest : ℕ
  pub least_pieces : 1 ≤ length pieces
  pub most_pieces : length pieces ≤ 4096
  pub in_range : All IsPieceInRange pieces
  pub most_rest : rest ≤ 4096
  pub spelled : symbols ≡ pieces_symbols pieces ++ replicate rest J

-- 1 to 4096 J
abbrev pub IsBare : List Symbol → Type 0
IsBare symbols = (count : ℕ) × (1 ≤ count) × (count ≤ 4096) × (symbols ≡ replicate count J)

-- a burst is a beacon, a run or a bare commit
pub data IsBurst (symbols : List Symbol) : Type 0 where
  beacon : IsBeacon symbols → IsBurst symbols
  run : IsRun symbols → IsBurst symbols
  bare : IsBare symbols → IsBurst symbols

-- a list with which some burst begins
abbrev pub BeginsBurst : List Symbol → Type 0
BeginsBurst symbols = (rest : List Symbol) × IsBurst (symbols ++ rest)
