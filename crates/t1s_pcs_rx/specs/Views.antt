-- What a receiver tells of a piece.
use Rattle.std.specs.Prelude.{ℕ, Bool, List, [], drop, length}
use Rattle.t1s_symbols.specs.declared.Symbol.{Symbol}
use Rattle.t1s_symbols.specs.declared.Symbol.TheVariants.{K as Bad, R as Fine, S as Cut}
use Rattle.t1s_frame.specs.Arrivals.{octets_of}
use Rattle.t1s_frame.specs.declared.arrivals.Arrival.{Arrival}
use Rattle.t1s_frame.specs.declared.arrivals.Arrival.TheVariants.{Good as WholeFrame, BadFcs as WrongCheck, Odd as OddNibbles, Runt as TooShort, NoSfd as NoDelimiter}
use Rattle.t1s_grammar.specs.Burst.{Piece}
use Rattle.t1s_grammar.specs.Reading.{heard_nibbles, kind_by, classified, errored, jabber}
use Rattle.t1s_grammar.specs.Reading as reading
use Rattle.t1s_pcs_rx.specs.declared.piece.Closer.{Closer}
use Rattle.t1s_pcs_rx.specs.declared.piece.Closer.TheVariants.{R, K, S}
use Rattle.t1s_pcs_rx.specs.declared.piece.Kind.{Kind}
use Rattle.t1s_pcs_rx.specs.declared.piece.Kind.TheVariants.{Good, BadFcs, Odd, Runt, NoSfd, Errored, Jabber}
use Rattle.t1s_pcs_rx.specs.declared.piece.PieceView.{PieceView}

-- the closer that a symbol is, where it is one
abbrev pub closer_of : Symbol → Closer
closer_of Bad = K
closer_of Cut = S
closer_of _ = R

-- a closer as a symbol
abbrev pub closer_symbol : Closer → Symbol
closer_symbol R = Fine
closer_symbol K = Bad
closer_symbol S = Cut

-- the kind of a piece that R closes, by what its heard nibbles are
abbrev pub kind_of_arrival : Arrival → Kind
kind_of_arrival WholeFrame = Good
kind_of_arrival WrongCheck = BadFcs
kind_of_arrival OddNibbles = Odd
kind_of_arrival TooShort = Runt
kind_of_arrival NoDelimiter = NoSfd

abbrev pub kind_shown : reading.Kind → Kind
kind_shown (classified arrival) = kind_of_arrival arrival
kind_shown errored = Errored
kind_shown jabber = Jabber

-- the kind of a piece, by its closer and its heard nibbles
abbrev pub kind_of : Closer → List ℕ → Kind
kind_of closer heard = kind_shown (kind_by (closer_symbol closer) heard)

-- the frame of a piece, frame check sequence included: the octets after the start-of-frame delimiter where the
-- kind is Good, and none elsewhere
abbrev pub frame_of : Kind → List ℕ → List ℕ
frame_of Good heard = octets_of (drop 3 heard)
frame_of _ heard = []

-- a view without its loan
pub record View : Type 0 where
  pub lead : ℕ
  pub groups : ℕ
  pub closer : Closer
  pub kind : Kind
  pub frame : List ℕ

-- the view of a piece with so many J before it and so many nibbles, by its closer and its heard nibbles
abbrev pub view_by : ℕ → ℕ → Closer → List ℕ → View
view_by lead groups closer heard = record {
  lead = lead;
  groups = groups;
  closer = closer;
  kind = kind_of closer heard;
  frame = frame_of (kind_of closer heard) heard;
}

-- the view of a piece, read by a descrambler that had this history before the piece's first nibble
abbrev pub view_of : List Bool → Piece → View
view_of past piece =
    view_by piece.lead (length piece.nibbles) (closer_of piece.closer) (heard_nibbles past piece)

-- what a view shows
abbrev pub view_shown : PieceView → View
view_shown v = record { lead = v.lead; groups = v.groups; closer = v.closer; kind = v.kind; frame = v.frame.now }
