-- What the table says over whole runs.
use Rattle.std.specs.Prelude.{◌≡◌, ℕ, ◌+◌, ◌≤◌, Bool, true, false, ◌&&◌, IsTrue, List, [], ◌∷◌, ◌++◌, drop, take, Option, Some}
use Rattle.t1s_symbols.specs.declared.Quarter.{Quarter}
use Rattle.t1s_symbols.specs.declared.Symbol.TheVariants.{T}
use Rattle.t1s_scramble.specs.Scrambled.{scrambled_nibbles}
use Rattle.t1s_frame.specs.Frame.{IsFrame, nibble_list}
use Rattle.t1s_grammar.specs.Burst.{Piece, piece_symbols}
use Rattle.t1s_grammar.specs.Sent.{sent_closer, sent_piece}
use Rattle.t1s_grammar.specs.Laws.{IsRead}
use Rattle.t1s_pcs_tx.specs.declared.TxReport.TheVariants.{Closed}
use Rattle.t1s_pcs_tx.specs.State.{Stage, Quiet, Beaconing, Committing, Starting, Sending, ClosingEnd, ClosingCloser, TxState, symbol_of, is_closed}
use Rattle.t1s_pcs_tx.specs.TransmitTable.{at_boundary, report_of}
use Rattle.t1s_pcs_tx.specs.Runs.{Tick, turn, after, driven_ticks, popped_nibbles, all_quarters, lead_of}

-- a closer ends in the last of these ticks, with that report, and none ends before
abbrev pub ClosesLast : TxState → List Tick → Bool → Type 0
ClosesLast s [] good = ⊥
ClosesLast s (tick ∷ []) good = report_of (turn s tick).state ≡ Closed good
ClosesLast s (tick ∷ next ∷ ticks) good =
    (is_closed (report_of (turn s tick).state) ≡ false) × ClosesLast (turn s tick).state (next ∷ ticks) good

-- whether the symbol after this stage is one for which a nibble of the piece is popped
abbrev pub takes_nibble : Stage → Bool
takes_nibble Quiet = false
takes_nibble Beaconing = false
takes_nibble Committing = false
takes_nibble (Starting place) = true
takes_nibble (Sending nibble) = true
takes_nibble (ClosingEnd good) = false
takes_nibble (ClosingCloser good) = false

-- no pop of these ticks, but the one that ends a piece with T, finds the line empty
abbrev pub IsFed : TxState → List Tick → Type 0
IsFed s [] = Unit {0}
IsFed s (tick ∷ ticks) =
    (IsTrue (at_boundary s && takes_nibble s.stage) → tick.line ≡ [] → symbol_of (turn s tick).state.stage ≡ Some T)
    × IsFed (turn s tick).state ticks

-- these ticks are those of one piece, from its first J for which a nibble is popped to the end of its closer, and it is fed
pub record IsPieceRun (s : TxState) (ticks : List Tick) (good : Bool) : Type 0 where
  pub boundary : IsTrue (at_boundary s)
  pub begins : (after s (take 1 ticks)).stage ≡ Starting 0
  pub closes : ClosesLast s ticks good
  pub fed : IsFed s ticks

-- how many J lead a piece that begins after these ticks: those that ended in a row before it, and two of its own
abbrev pub lead_after : TxState → List Tick → ℕ
lead_after s before = lead_of (driven_ticks s before) + 2

-- the piece of popped nibbles: the first four are not among those that it carries
abbrev pub spelled_piece : ℕ → List Bool → List ℕ → Bool → Piece
spelled_piece lead past nibbles good = record {
  lead = lead;
  nibbles = scrambled_nibbles past (drop 4 nibbles);
  closer = sent_closer good;
}

-- what is driven ends with the four quarters of each symbol of a piece, and no J ended directly before them
pub record EndsWithPiece (ticks : List (Option Quarter)) (piece : Piece) : Type 0 where
  pub earlier : List (Option Quarter)
  pub apart : lead_of earlier ≡ 0
  pub spelled : ticks ≡ earlier ++ all_quarters (piece_symbols piece)

-- Over every run from a symbol boundary: let the last ticks of it be those of a piece that is fed. What is driven
-- ends with this piece: the J that ended in a row before it and two of its own, two H, the popped nibbles from the
-- fifth on, scrambled from the scrambler as it stood, T, and R where the piece is closed as good, else K.
abbrev pub SpellsWhatItPops : Type 0
SpellsWhatItPops =
    (s : TxState) (before ticks : List Tick) (good : Bool)
    → IsTrue (at_boundary s) → IsPieceRun (after s before) ticks good
    → EndsWithPiece (driven_ticks s (before ++ ticks))
    (spelled_piece (lead_after s before) (after s before).past (popped_nibbles (after s before) ticks) good)

-- Where the popped nibbles are those of a frame, and the lead is one that a piece may have, this piece is a piece of
-- the grammar and a burst by itself; where it is good, it stands for the frame whatever was heard before it.
abbrev pub SendsFrames : Type 0
SendsFrames =
    (s : TxState) (before ticks : List Tick) (good : Bool) (octets : List ℕ) (heard : List Bool)
    → IsTrue (at_boundary s) → IsPieceRun (after s before) ticks good
    → IsFrame octets → popped_nibbles (after s before) ticks ≡ nibble_list octets → lead_after s before ≤ 4096
    → EndsWithPiece (driven_ticks s (before ++ ticks)) (sent_piece (lead_after s before) (after s before).past octets good)
    × IsRead (lead_after s before) (after s before).past heard octets good
