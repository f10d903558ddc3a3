-- The pieces that a capture shows, and the ticks in which they are completed.
use Rattle.std.specs.Prelude.{◌≡◌, ℕ, ◌+◌, ◌-◌, ◌*◌, Bool, List, [], ◌∷◌, ◌++◌, length, map}
use Rattle.t1s_scramble.specs.Scrambled.{start_history, descrambler_after}
use Rattle.t1s_grammar.specs.Burst.{Piece, piece_symbols}
use Rattle.t1s_pcs_rx.specs.Views.{View, view_of}
use Rattle.t1s_capture.specs.Captures.{CaptureItem, item_ticks}
use Rattle.t1s_capture.specs.Cut.{Tick, cut}
use Rattle.t1s_capture.specs.Pieces.{item_nibbles, item_pieces}
use Rattle.t1s_reception.specs.Receptions.{Reception, receptions}

-- a piece that is shown: the tick of the first J of its lead, and what it is
pub record ShownPiece : Type 0 where
  pub start : ℕ
  pub view : View

-- the pieces of a burst, one after another: the first starts at this tick, and the descrambler had this history before it
abbrev pub shown_pieces : ℕ → List Bool → List Piece → List ShownPiece
shown_pieces start past [] = []
shown_pieces start past (p ∷ ps) =
    record { start = start; view = view_of past p }
    ∷ shown_pieces (start + 4 * length (piece_symbols p)) (descrambler_after past p.nibbles) ps

-- the pieces of items, those of torn bursts too. The descrambler goes on from item to item
abbrev pub shown_from : ℕ → List Bool → List CaptureItem → List ShownPiece
shown_from start past [] = []
shown_from start past (x ∷ xs) =
    shown_pieces start past (item_pieces x) ++ shown_from (start + item_ticks x) (descrambler_after past (item_nibbles x)) xs

-- the pieces of a capture with these items
abbrev pub shown_in : List CaptureItem → List ShownPiece
shown_in items = shown_from 0 start_history items

-- A piece of m J and g nibbles is completed in the last tick of its closer. With two H, T and the closer it has m + g + 4 symbols.
abbrev pub completed : ShownPiece → Reception
completed p = record { tick = p.start + 4 * (p.view.lead + p.view.groups + 4) - 1; view = p.view }

-- what is cut from ticks shows exactly the pieces that a receiver completes in them, in their order
abbrev pub CutsShowReceptions : Type 0
CutsShowReceptions = (ticks : List Tick) → map completed (shown_in (cut ticks)) ≡ receptions ticks
