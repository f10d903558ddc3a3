-- The lines of a decoded capture. Numbers are plain decimal.
use Rattle.std.specs.Prelude.{◌≡◌, ℕ, ◌≤◌, List, [], ◌∷◌, length, codes, decimal}
use Rattle.t1s_pcs_rx.specs.declared.piece.Closer.{Closer}
use Rattle.t1s_pcs_rx.specs.declared.piece.Closer.TheVariants.{R, K, S}
use Rattle.t1s_pcs_rx.specs.declared.piece.Kind.TheVariants.{Good}
use Rattle.t1s_pcs_rx.specs.Views.{View}
use Rattle.t1s_capture.specs.declared.items.Counts.{Counts}
use Rattle.t1s_capture.specs.DecodedItems.{DecodedItem, PieceItem, BeaconItem, RunItem, BareItem, TornItem}
use Rattle.t1s_report.specs.ArrivalTexts.{kind_text}
use Rattle.t1s_report.specs.Lines.{line}

-- the letter of a closer
abbrev pub closer_name : Closer → List ℕ
closer_name R = codes "R"
closer_name K = codes "K"
closer_name S = codes "S"

-- the line of a piece that starts at this tick: its J, its nibbles, its closer, and what it is
abbrev pub piece_line : ℕ → View → List ℕ
piece_line start view = line (
    codes "piece" ∷ decimal start ∷ decimal view.lead ∷ decimal view.groups ∷
    closer_name view.closer ∷ kind_text view.kind view.frame ∷ [])

-- the line of an item: its first tick, and for all but a beacon and a piece the tick after its last
abbrev pub item_line : DecodedItem → List ℕ
item_line (PieceItem start view) = piece_line start view
item_line (BeaconItem start) = line (codes "beacon" ∷ decimal start ∷ [])
item_line (RunItem start end pieces) = line (codes "run" ∷ decimal start ∷ decimal end ∷ decimal pieces ∷ [])
item_line (BareItem start end) = line (codes "bare" ∷ decimal start ∷ decimal end ∷ [])
item_line (TornItem start end symbols blur) =
    line (codes "torn" ∷ decimal start ∷ decimal end ∷ decimal symbols ∷ decimal blur ∷ [])

-- the line of the end of a capture
abbrev pub end_line : Counts → List ℕ
end_line n = line (
    codes "end" ∷ decimal n.ticks ∷
    codes "beacons" ∷ decimal n.beacons ∷
    codes "runs" ∷ decimal n.runs ∷
    codes "bare" ∷ decimal n.bare ∷
    codes "torn" ∷ decimal n.torn ∷
    codes "pieces" ∷ decimal n.pieces ∷
    codes "good" ∷ decimal n.good ∷ [])

-- a good piece has a frame of at most 1522 octets; the frame of any other item is not shown
abbrev pub IsShowable : DecodedItem → Type 0
IsShowable (PieceItem start view) = view.kind ≡ Good → length view.frame ≤ 1522
IsShowable (BeaconItem start) = Unit {0}
IsShowable (RunItem start end pieces) = Unit {0}
IsShowable (BareItem start end) = Unit {0}
IsShowable (TornItem start end symbols blur) = Unit {0}
