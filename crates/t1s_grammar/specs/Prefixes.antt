-- How a list with which a burst begins is made up, and what a `Place` keeps of it.
use Rattle.std.specs.Prelude.{◌≡◌, ℕ, ◌<◌, ◌≤◌, List, [], ◌∷◌, ◌++◌, length, map, replicate, All}
use Rattle.t1s_symbols.specs.declared.Symbol.{Symbol}
use Rattle.t1s_symbols.specs.declared.Symbol.TheVariants.{Nibble, J, T, H, N}
use Rattle.t1s_grammar.specs.Burst.{Piece, IsPieceInRange, open_symbols, pieces_symbols}
use Rattle.t1s_grammar.specs.declared.place.Phase.{Phase}
use Rattle.t1s_grammar.specs.declared.place.Phase.TheVariants.{Beacon, Between, Opened, Within, Ended}

-- the beginning of a burst: some N of a beacon; or whole pieces, and then some J, or the lead of a piece with
-- its first H, with both H and its nibbles so far, or with all its nibbles and T
pub data Beginning : Type 0 where
  beacon : ℕ → Beginning
  between : List Piece → ℕ → Beginning
  opened : List Piece → ℕ → Beginning
  within : List Piece → ℕ → List ℕ → Beginning
  ended : List Piece → ℕ → List ℕ → Beginning

abbrev pub beginning_symbols : Beginning → List Symbol
beginning_symbols (beacon count) = replicate count N
beginning_symbols (between pieces lead) = pieces_symbols pieces ++ replicate lead J
beginning_symbols (opened pieces lead) = pieces_symbols pieces ++ replicate lead J ++ H ∷ []
beginning_symbols (within pieces lead nibbles) = pieces_symbols pieces ++ open_symbols lead nibbles
beginning_symbols (ended pieces lead nibbles) = pieces_symbols pieces ++ open_symbols lead nibbles ++ T ∷ []

-- whole pieces, no more than a run may have
pub record ArePieces (pieces : List Piece) (most : ℕ) : Type 0 where
  pub count : length pieces ≤ most
  pub in_range : All IsPieceInRange pieces

-- the lead of a piece that has been opened
pub record IsLead (lead : ℕ) : Type 0 where
  pub least : 2 ≤ lead
  pub most : lead ≤ 4096

-- the nibbles of a piece so far, or all of them
pub record AreNibbles (nibbles : List ℕ) (least : ℕ) : Type 0 where
  pub fewest : least ≤ length nibbles
  pub most : length nibbles ≤ 3056
  pub ranges : All (λ n. n < 16) nibbles

-- the counts and ranges of a beginning
abbrev pub IsBeginning : Beginning → Type 0
IsBeginning (beacon count) = (1 ≤ count) × (count ≤ 5)
IsBeginning (between pieces lead) = ArePieces pieces 4096 × (lead ≤ 4096)
IsBeginning (opened pieces lead) = ArePieces pieces 4095 × IsLead lead
IsBeginning (within pieces lead nibbles) = ArePieces pieces 4095 × IsLead lead × AreNibbles nibbles 0
IsBeginning (ended pieces lead nibbles) = ArePieces pieces 4095 × IsLead lead × AreNibbles nibbles 9

-- the whole pieces of a beginning, the J after these, and the nibbles after these
abbrev pub whole_pieces : Beginning → List Piece
whole_pieces (beacon count) = []
whole_pieces (between pieces lead) = pieces
whole_pieces (opened pieces lead) = pieces
whole_pieces (within pieces lead nibbles) = pieces
whole_pieces (ended pieces lead nibbles) = pieces

abbrev pub last_lead : Beginning → ℕ
last_lead (beacon count) = 0
last_lead (between pieces lead) = lead
last_lead (opened pieces lead) = lead
last_lead (within pieces lead nibbles) = lead
last_lead (ended pieces lead nibbles) = lead

abbrev pub last_nibbles : Beginning → List ℕ
last_nibbles (beacon count) = []
last_nibbles (between pieces lead) = []
last_nibbles (opened pieces lead) = []
last_nibbles (within pieces lead nibbles) = nibbles
last_nibbles (ended pieces lead nibbles) = nibbles

-- what a `Place` keeps of a beginning: counts alone
abbrev pub phase_of : Beginning → Phase
phase_of (beacon count) = Beacon count
phase_of (between pieces lead) = Between (length pieces) lead
phase_of (opened pieces lead) = Opened (length pieces) lead
phase_of (within pieces lead nibbles) = Within (length pieces) lead (length nibbles)
phase_of (ended pieces lead nibbles) = Ended (length pieces) lead (length nibbles)

-- a `Place` stands for a list of symbols: the list is the beginning of a burst, with the counts that it keeps
pub record Stands (symbols : List Symbol) (place : Phase) : Type 0 where
  pub beginning : Beginning
  pub in_range : IsBeginning beginning
  pub spelled : symbols ≡ beginning_symbols beginning
  pub counted : place ≡ phase_of beginning

-- the next symbol would be one too many: the 3057th nibble of a piece, the 4097th J of a string of J, or the
-- first H of the 4097th piece, with at least two J directly before it
abbrev pub IsTooLong : List Symbol → Symbol → Type 0
IsTooLong symbols (Nibble n) =
    (before : List Symbol) × (nibbles : List ℕ) × (length nibbles ≡ 3056) × (symbols ≡ before ++ H ∷ H ∷ map Nibble nibbles)
IsTooLong symbols J = (before : List Symbol) × (count : ℕ) × (count ≡ 4096) × (symbols ≡ before ++ replicate count J)
IsTooLong symbols H =
    (pieces : List Piece) × (lead : ℕ) × (length pieces ≡ 4096) × All IsPieceInRange pieces
    × (2 ≤ lead) × (symbols ≡ pieces_symbols pieces ++ replicate lead J)
IsTooLong symbols _ = ⊥
