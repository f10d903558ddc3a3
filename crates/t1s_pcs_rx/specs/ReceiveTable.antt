-- What a receiver makes of one tick: the class, the reading of a burst, and its pieces.
use Rattle.std.specs.Prelude.{ℕ, Bool, true, false, ◌&&◌, ◌==◌, List, Option, Some, None, Result, Ok, Err, if◌then◌else◌}
use Rattle.t1s_symbols.specs.declared.Quarter.{Quarter}
use Rattle.t1s_symbols.specs.declared.Heard.{Heard}
use Rattle.t1s_symbols.specs.declared.Heard.TheVariants.{Nothing, One, Many}
use Rattle.t1s_symbols.specs.declared.Symbol.{Symbol}
use Rattle.t1s_symbols.specs.declared.Symbol.TheVariants.{J, K as Bad, R as Fine, N, S as Cut}
use Rattle.t1s_symbols.specs.declared.Class.{Class}
use Rattle.t1s_symbols.specs.declared.Class.TheVariants.{None as Unread, Beacon, Run, Other}
use Rattle.t1s_symbols.specs.Quarters.{continues_last}
use Rattle.t1s_grammar.specs.declared.place.Phase.{Phase}
use Rattle.t1s_grammar.specs.declared.place.PlaceFault.{PlaceFault}
use Rattle.t1s_grammar.specs.PlaceTable.{start_phase, place_step, lead_at, nibbles_at}
use Rattle.t1s_pcs_rx.specs.declared.piece.Closer.TheVariants.{R, K, S}
use Rattle.t1s_pcs_rx.specs.declared.reader.Burst.{Burst}
use Rattle.t1s_pcs_rx.specs.declared.reader.Burst.TheVariants.{Outside, Reading, Ended}
use Rattle.t1s_pcs_rx.specs.declared.reader.PieceEnd.{PieceEnd}
use Rattle.t1s_pcs_rx.specs.PieceReading.{history_after, nibbles_after}
use Rattle.t1s_pcs_rx.specs.Receiver.{Receiver}
use Rattle.t1s_pcs_rx.specs.Views.{View, view_by}

-- ---- what is heard

-- in a tick in which the node drives, anything heard counts as Many
abbrev pub counted : Heard → Bool → Heard
counted Nothing own = Nothing
counted (One q) own = if own then Many else One q
counted Many own = Many

-- ---- the class

-- a node that drives has no class
abbrev pub class_in : Class → Bool → Class
class_in class own = if own then Unread else class

-- the class that the first symbol of a burst sets
abbrev pub class_of : Symbol → Class
class_of N = Beacon
class_of J = Run
class_of _ = Other

abbrev pub class_after : Class → Bool → Symbol → Class
class_after class fresh s = if fresh then class_of s else class

-- what ends the reading of a burst makes Other of no class, unless the node drives
abbrev pub class_at_end : Class → Bool → Class
class_at_end Unread own = if own then Unread else Other
class_at_end class own = class

-- ---- a tick

-- where something is heard outside a burst, a burst begins: no class, and reading begins
abbrev pub entered_from : Receiver → Burst → Receiver
entered_from r Outside = record r { class = Unread; burst = Reading None true start_phase }
entered_from r _ = r

abbrev pub entered : Receiver → Receiver
entered r = entered_from r r.burst

-- the reading of a burst ends, where it has not ended before
abbrev pub ended_from : Receiver → Bool → Burst → Receiver
ended_from r own (Reading last fresh place) = record r { class = class_at_end r.class own; burst = Ended }
ended_from r own _ = r

abbrev pub ended : Receiver → Bool → Receiver
ended r own = ended_from r own r.burst

-- a symbol that is complete is judged: it is taken, or it ends the reading of the burst
abbrev pub after_judgement : Receiver → Quarter → Class → Phase → Result Phase PlaceFault → Receiver
after_judgement r q class place (Ok next) = record {
  class = class;
  burst = Reading (Some q) false next;
  history = history_after r.history q.sym;
  nibbles = nibbles_after (nibbles_at place) r.history r.nibbles q.sym;
}
after_judgement r q class place (Err fault) = record r { class = class; burst = Ended }

-- a quarter of part 3 completes a symbol
abbrev pub quarter_taken : Receiver → Quarter → Bool → Phase → Receiver
quarter_taken r q fresh place =
    if q.part == 3 then after_judgement r q (class_after r.class fresh q.sym) place (place_step place q.sym)
    else record r { burst = Reading (Some q) fresh place }

abbrev pub quarter_from : Receiver → Quarter → Bool → Burst → Receiver
quarter_from r q own (Reading last fresh place) =
    if continues_last last q then quarter_taken r q fresh place else ended r own
quarter_from r q own _ = r

abbrev pub quarter_heard : Receiver → Quarter → Bool → Receiver
quarter_heard r q own = quarter_from r q own r.burst

abbrev pub heard_by : Receiver → Heard → Bool → Receiver
heard_by r Nothing own = record r { burst = Outside }
heard_by r (One q) own = quarter_heard (entered r) q own
heard_by r Many own = ended (entered r) own

abbrev pub cleared : Receiver → Bool → Receiver
cleared r own = record r { class = class_in r.class own }

-- the receiver after one tick. The truth value tells that the node drives in it
unfoldable pub receive_step : Receiver → Heard → Bool → Receiver
receive_step r h own = heard_by (cleared r own) (counted h own) own

-- ---- the piece that a tick closes

abbrev pub closed_by : ℕ → ℕ → Symbol → Option PieceEnd
closed_by lead groups Fine = Some (record { lead = lead; groups = groups; closer = R })
closed_by lead groups Bad = Some (record { lead = lead; groups = groups; closer = K })
closed_by lead groups Cut = Some (record { lead = lead; groups = groups; closer = S })
closed_by lead groups _ = None

-- a closer that is taken closes the piece
abbrev pub closing_at : Phase → Symbol → Result Phase PlaceFault → Option PieceEnd
closing_at place s (Ok next) = closed_by (lead_at place) (nibbles_at place) s
closing_at place s (Err fault) = None

abbrev pub closing_from : Quarter → Burst → Option PieceEnd
closing_from q (Reading last fresh place) =
    if continues_last last q && (q.part == 3) then closing_at place q.sym (place_step place q.sym) else None
closing_from q _ = None

abbrev pub closing_by : Receiver → Heard → Option PieceEnd
closing_by r (One q) = closing_from q (entered r).burst
closing_by r _ = None

unfoldable pub closing_in : Receiver → Heard → Bool → Option PieceEnd
closing_in r h own = closing_by (cleared r own) (counted h own)

-- its view, by the nibbles that were kept of it
abbrev pub view_closed : List ℕ → Option PieceEnd → Option View
view_closed nibbles (Some c) = Some (view_by c.lead c.groups c.closer nibbles)
view_closed nibbles None = None

-- the event of one tick
abbrev pub receive_event : Receiver → Heard → Bool → Option View
receive_event r h own = view_closed r.nibbles (closing_in r h own)
