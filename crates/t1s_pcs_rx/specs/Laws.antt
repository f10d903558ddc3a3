-- What the definitions say together.
use Rattle.std.specs.Prelude.{◌≡◌, ℕ, ◌-◌, ◌*◌, Bool, false, List, [], ◌∷◌, ◌++◌, length, replicate, Option, Some, None}
use Rattle.std.specs.List.{flat_map}
use Rattle.t1s_symbols.specs.declared.Symbol.{Symbol}
use Rattle.t1s_symbols.specs.declared.Heard.{Heard}
use Rattle.t1s_symbols.specs.declared.Heard.TheVariants.{Nothing, One}
use Rattle.t1s_scramble.specs.Scrambled.{descrambler_after}
use Rattle.t1s_grammar.specs.Burst.{Piece, piece_symbols, IsBurst, beacon, run, bare}
use Rattle.t1s_grammar.specs.Reading.{StandsForFrame}
use Rattle.t1s_frame.specs.Frame.{IsFrame}
use Rattle.t1s_pcs_rx.specs.declared.piece.Closer.TheVariants.{R}
use Rattle.t1s_pcs_rx.specs.declared.piece.Kind.TheVariants.{Good}
use Rattle.t1s_pcs_rx.specs.Receiver.{Receiver}
use Rattle.t1s_pcs_rx.specs.ReceiveTable.{receive_step, receive_event}
use Rattle.t1s_pcs_rx.specs.Views.{View, view_of}

-- a symbol, as it is heard alone: its four quarters
abbrev pub quarters : Symbol → List Heard
quarters s =
    One (record { sym = s; part = 0 })
    ∷ One (record { sym = s; part = 1 })
    ∷ One (record { sym = s; part = 2 })
    ∷ One (record { sym = s; part = 3 })
    ∷ []

-- a burst, as it is heard: a tick of nothing, and then its quarters
abbrev pub heard_burst : List Symbol → List Heard
heard_burst symbols = Nothing ∷ flat_map quarters symbols

-- the events of ticks in which the node does not drive, one a tick
abbrev pub events_heard : Receiver → List Heard → List (Option View)
events_heard r [] = []
events_heard r (h ∷ hs) = receive_event r h false ∷ events_heard (receive_step r h false) hs

-- so many symbols without an event
abbrev pub no_events : ℕ → List (Option View)
no_events symbols = replicate (4 * symbols) None

-- a piece is told in the last tick of its closer
abbrev pub piece_events : List Bool → Piece → List (Option View)
piece_events past piece = replicate (4 * length (piece_symbols piece) - 1) None ++ Some (view_of past piece) ∷ []

-- each piece is read by a descrambler that has heard those before it
abbrev pub run_events : List Bool → List Piece → ℕ → List (Option View)
run_events past [] rest = no_events rest
run_events past (piece ∷ pieces) rest =
    piece_events past piece ++ run_events (descrambler_after past piece.nibbles) pieces rest

abbrev pub burst_events : (past : List Bool) {symbols : List Symbol} → IsBurst symbols → List (Option View)
burst_events past (beacon h) = no_events 5
burst_events past (run h) = run_events past h.pieces h.rest
burst_events past (bare h) = no_events h.0

-- From any state, over a burst that is heard whole, with nothing in the tick before it, and while the node does not
-- drive: the events are exactly the burst's pieces, each in the last tick of its closer, as they are read by the
-- descrambler as it stands.
abbrev pub PiecesAreHandedOn : Type 0
PiecesAreHandedOn =
    (r : Receiver) (symbols : List Symbol) (burst : IsBurst symbols)
    → events_heard r (heard_burst symbols) ≡ None ∷ burst_events r.history burst

-- The view of a piece that stands for a frame: closed by R, of kind Good, with the octets of the frame.
abbrev pub FramesAreShown : Type 0
FramesAreShown =
    (past : List Bool) (piece : Piece) (octets : List ℕ)
    → IsFrame octets → StandsForFrame past piece octets
    → view_of past piece
    ≡ record { lead = piece.lead; groups = length piece.nibbles; closer = R; kind = Good; frame = octets }
