-- What a receiver tells of a burst that it hears from any of its ticks on, and up to any of them.
use Rattle.std.specs.Prelude.{◌≡◌, ℕ, ◌+◌, ◌-◌, ◌*◌, ◌/◌, ◌%◌, ◌<◌, ◌≤◌, Bool, false, ◌&&◌, ◌==◌, nat_le, List, [], ◌∷◌, ◌++◌, length, replicate, take, drop, slice_get, Option, Some, None, if◌then◌else◌}
use Rattle.std.specs.List.{flat_map}
use Rattle.t1s_symbols.specs.declared.Symbol.{Symbol}
use Rattle.t1s_symbols.specs.declared.Heard.{Heard}
use Rattle.t1s_symbols.specs.declared.Heard.TheVariants.{Nothing, One, Many}
use Rattle.t1s_scramble.specs.Scrambled.{descrambler_after}
use Rattle.t1s_frame.specs.Frame.{IsFrame}
use Rattle.t1s_grammar.specs.Reading.{StandsForFrame}
use Rattle.t1s_grammar.specs.Burst.{Piece, piece_symbols, pieces_symbols, IsBurst, beacon, run, bare}
use Rattle.t1s_pcs_rx.specs.declared.reader.Burst.TheVariants.{Outside, Ended}
use Rattle.t1s_pcs_rx.specs.declared.piece.Kind.TheVariants.{Good}
use Rattle.t1s_pcs_rx.specs.Receiver.{Receiver}
use Rattle.t1s_pcs_rx.specs.ReceiveTable.{cleared, receive_step, receive_event}
use Rattle.t1s_pcs_rx.specs.Views.{View, view_of}
use Rattle.t1s_pcs_rx.specs.Laws.{quarters, events_heard, run_events}

-- ---- a burst whose reading has ended

-- something is heard
abbrev pub IsSignal : Heard → Type 0
IsSignal Nothing = ⊥
IsSignal (One q) = Unit {0}
IsSignal Many = Unit {0}

-- Once the reading of a burst has ended, a tick in which something is heard has no event, whatever that is and whether
-- the node drives or not. It leaves the receiver as it was, but that own drive clears the class.
abbrev pub EndedGivesNoEvent : Type 0
EndedGivesNoEvent =
    (r : Receiver) (h : Heard) (own : Bool) → r.burst ≡ Ended → IsSignal h
    → (receive_event r h own ≡ None) × (receive_step r h own ≡ cleared r own)

-- A tick in which nothing is heard has no event. It ends the burst, and nothing else but own drive's clearing of the
-- class comes with it.
abbrev pub NothingEndsBurst : Type 0
NothingEndsBurst =
    (r : Receiver) (own : Bool)
    → (receive_event r Nothing own ≡ None) × (receive_step r Nothing own ≡ record (cleared r own) { burst = Outside })

-- ---- the events of a tail

-- so many ticks without an event
abbrev pub quiet : ℕ → List (Option View)
quiet ticks = replicate ticks None

-- how many ticks a piece takes, and pieces with so many J after them
abbrev pub piece_ticks : Piece → ℕ
piece_ticks piece = 4 * length (piece_symbols piece)

abbrev pub run_ticks : List Piece → ℕ → ℕ
run_ticks [] rest = 4 * rest
run_ticks (piece ∷ pieces) rest = piece_ticks piece + run_ticks pieces rest

-- a piece without the first so many J of its lead
abbrev pub shortened : Piece → ℕ → Piece
shortened piece skipped = record piece { lead = piece.lead - skipped }

-- whether a piece is read that is heard from its tick `from` on: that is the first tick of a J, and two J or more are
-- left before the first H
abbrev pub is_read_from : ℕ → Piece → Bool
is_read_from from piece = ((from % 4) == 0) && nat_le (from / 4 + 2) piece.lead

-- The events of pieces, and so many J after them, that are heard from a tick `from` of the first piece on. Where this
-- piece is read from there on, it and all after it are read as a run, in which the first has fewer J; else there is no
-- event at all.
abbrev pub piece_tail_events : List Bool → ℕ → Piece → List Piece → ℕ → List (Option View)
piece_tail_events past from piece pieces rest =
    if is_read_from from piece then run_events past (shortened piece (from / 4) ∷ pieces) rest
    else quiet (run_ticks (piece ∷ pieces) rest - from)

-- The same, from any tick on: pieces that have gone by before it give none.
abbrev pub run_tail_events : List Bool → ℕ → List Piece → ℕ → List (Option View)
run_tail_events past from [] rest = quiet (4 * rest - from)
run_tail_events past from (piece ∷ pieces) rest =
    if nat_le (piece_ticks piece) from then run_tail_events past (from - piece_ticks piece) pieces rest
    else piece_tail_events past from piece pieces rest

-- the events of a burst that is heard from its tick `from` on
abbrev pub tail_events : (past : List Bool) (from : ℕ) {symbols : List Symbol} → IsBurst symbols → List (Option View)
tail_events past from (beacon h) = quiet (20 - from)
tail_events past from (run h) = run_tail_events past from h.pieces h.rest
tail_events past from (bare h) = quiet (4 * h.0 - from)

-- what is heard of symbols from tick `from` on, for at most so many ticks
abbrev pub heard_part : ℕ → ℕ → List Symbol → List Heard
heard_part from ticks symbols = take ticks (drop from (flat_map quarters symbols))

-- A receiver that is outside of a burst, as a tick of nothing and its start leave it, hears a burst from any tick of the
-- burst on and up to any tick of it, while the node does not drive. The events are exactly those of the tail, as many as
-- there are ticks.
abbrev pub TailsAreRead : Type 0
TailsAreRead =
    (r : Receiver) (symbols : List Symbol) (burst : IsBurst symbols) (from ticks : ℕ) → r.burst ≡ Outside
    → events_heard r (heard_part from ticks symbols) ≡ take ticks (tail_events r.history from burst)

-- ---- the same, tick by tick

-- the pieces of a burst
abbrev pub pieces_of : {symbols : List Symbol} → IsBurst symbols → List Piece
pieces_of (beacon h) = []
pieces_of (run h) = h.pieces
pieces_of (bare h) = []

-- the history of a descrambler that has heard these pieces
abbrev pub past_after : List Bool → List Piece → List Bool
past_after past [] = past
past_after past (piece ∷ pieces) = past_after (descrambler_after past piece.nibbles) pieces

-- a piece among others, whose closer ends with tick `tick` of them
pub record EndsAt (pieces : List Piece) (tick : ℕ) : Type 0 where
  pub before : List Piece
  pub piece : Piece
  pub after : List Piece
  pub among : pieces ≡ before ++ piece ∷ after
  pub ends : tick + 1 ≡ 4 * (length (pieces_symbols before) + length (piece_symbols piece))

-- A view is that of a piece that ends with a tick, in what is heard of pieces from their tick `from` on: with as many J
-- as were heard of its lead, two at least, and read by a descrambler that has heard the last ones before it, those that
-- are not gone.
pub record ShowsPiece (past : List Bool) (pieces : List Piece) (from tick : ℕ) (view : View) : Type 0 where
  pub ending : EndsAt pieces tick
  pub skipped : ℕ
  pub led : skipped + 2 ≤ ending.piece.lead
  pub heard : from ≤ 4 * (length (pieces_symbols ending.before) + skipped)
  pub gone : List Piece
  pub read : List Piece
  pub earlier : ending.before ≡ gone ++ read
  pub shows : view ≡ view_of (past_after past read) (shortened ending.piece skipped)

-- Ticks of a receiver, one after another, in which its node does not drive: the first finds it outside of a burst, and
-- in each it hears the next quarter of these symbols, from their tick `from` on.
pub record HearsPart (receivers : ℕ → Receiver) (heard : ℕ → Heard) (symbols : List Symbol) (from ticks : ℕ) : Type 0 where
  pub outside : (receivers 0).burst ≡ Outside
  pub hears : (m : ℕ) → m < ticks → slice_get (flat_map quarters symbols) (from + m) ≡ Some (heard m)
  pub goes_on : (m : ℕ) → m < ticks → receivers (m + 1) ≡ receive_step (receivers m) (heard m) false

-- Nothing is told of such a burst but its pieces, each in the last tick of its closer.
abbrev pub OnlyPiecesGiveEvents : Type 0
OnlyPiecesGiveEvents =
    (receivers : ℕ → Receiver) (heard : ℕ → Heard) (symbols : List Symbol) (burst : IsBurst symbols) (from ticks : ℕ)
    → HearsPart receivers heard symbols from ticks
    → (m : ℕ) (view : View) → m < ticks → receive_event (receivers m) (heard m) false ≡ Some view
    → ShowsPiece (receivers 0).history (pieces_of burst) from (from + m) view

-- A run is heard from a tick on from which it is read: the first tick of a J, after which another J stands. The pieces
-- before are gone, and of the first one so many J are missing.
pub record ReadsFrom (pieces : List Piece) (from : ℕ) : Type 0 where
  pub gone : List Piece
  pub first : Piece
  pub later : List Piece
  pub among : pieces ≡ gone ++ first ∷ later
  pub skipped : ℕ
  pub led : skipped + 2 ≤ first.lead
  pub begins : from ≡ 4 * (length (pieces_symbols gone) + skipped)

-- the pieces that are read then
abbrev pub pieces_read : {pieces : List Piece} {from : ℕ} → ReadsFrom pieces from → List Piece
pieces_read reading = shortened reading.first reading.skipped ∷ reading.later

-- Each of these is told, in the last tick of its closer, read by a descrambler that has heard those before it.
abbrev pub EachPieceGivesEvent : Type 0
EachPieceGivesEvent =
    (receivers : ℕ → Receiver) (heard : ℕ → Heard) (symbols : List Symbol) (burst : IsBurst symbols) (from ticks : ℕ)
    → HearsPart receivers heard symbols from ticks → (reading : ReadsFrom (pieces_of burst) from)
    → (m : ℕ) → m < ticks → (ending : EndsAt (pieces_read reading) m)
    → receive_event (receivers m) (heard m) false
    ≡ Some (view_of (past_after (receivers 0).history ending.before) ending.piece)

-- So is each piece of a burst that is heard from its first tick on, and it is told whole.
abbrev pub WholePiecesGiveEvents : Type 0
WholePiecesGiveEvents =
    (receivers : ℕ → Receiver) (heard : ℕ → Heard) (symbols : List Symbol) (burst : IsBurst symbols) (ticks : ℕ)
    → HearsPart receivers heard symbols 0 ticks
    → (m : ℕ) → m < ticks → (ending : EndsAt (pieces_of burst) m)
    → receive_event (receivers m) (heard m) false
    ≡ Some (view_of (past_after (receivers 0).history ending.before) ending.piece)

-- No two pieces end with one tick.
abbrev pub PiecesEndApart : Type 0
PiecesEndApart =
    (pieces : List Piece) (tick : ℕ) (one other : EndsAt pieces tick)
    → (one.before ≡ other.before) × (one.piece ≡ other.piece)

-- Where the piece stands for a frame, whatever was heard before it, the view is of kind Good and has the octets of that
-- frame, from whatever tick on the burst was heard.
abbrev pub TailsShowFrames : Type 0
TailsShowFrames =
    (past : List Bool) (pieces : List Piece) (from tick : ℕ) (view : View) (shown : ShowsPiece past pieces from tick view)
    (octets : List ℕ) → IsFrame octets → ((heard : List Bool) → StandsForFrame heard shown.ending.piece octets)
    → (view.kind ≡ Good) × (view.frame ≡ octets)
