-- What becomes of the offers of a tick, one after another, over any kind of node.
use Rattle.std.specs.Prelude.{ℕ, ◌==◌, ◌-◌, Bool, false, List, [], ◌∷◌, ◌++◌, map, Option, None, Some, if◌then◌else◌}
use Rattle.std.specs.List.{flat_map, list_any}
use Rattle.t1s_script.specs.Script.{number_in}
use Rattle.t1s_script.specs.declared.script.Act.{Act}
use Rattle.t1s_line.specs.declared.offers.OfferOutcome.{OfferOutcome}
use Rattle.t1s_line.specs.declared.offers.OfferOutcome.TheVariants.{Taken, Full, Off}
use Rattle.t1s_line.specs.declared.offers.OfferState.{OfferState}
use Rattle.t1s_line.specs.declared.offers.OfferState.TheVariants.{Unknown, Expected, Off as StateOff, Full as StateFull, Taken as StateTaken, Left}
use Rattle.t1s_line.specs.declared.offers.Wait.{Wait}
use Rattle.t1s_line.specs.declared.offers.Wait.TheVariants.{Off as WaitOff, Full as WaitFull, Open, Left as WaitLeft}
use Rattle.t1s_line.specs.Acts.{Offer}
use Rattle.t1s_line.specs.EventRecords.{EventRecord, TakenRecord, FullRecord, OffRecord}
use Rattle.t1s_line.specs.Outcomes.{NodePhases, DriveOutcome}

-- what became of an offer: its tick, the number of its node, its own number
pub record OfferRecord : Type 0 where
  pub tick : ℕ
  pub node : ℕ
  pub number : ℕ
  pub outcome : OfferOutcome

abbrev pub outcome_event : ℕ → ℕ → ℕ → OfferOutcome → EventRecord
outcome_event tick node number Taken = TakenRecord tick node number
outcome_event tick node number Full = FullRecord tick node number
outcome_event tick node number Off = OffRecord tick node number

abbrev pub offer_event : OfferRecord → EventRecord
offer_event r = outcome_event r.tick r.node r.number r.outcome

module _ {N : Type 0} (p : NodePhases N) (t : ℕ) where
  -- all nodes after one offer, which the node of its number is given
  abbrev pub after_offer : Offer → List N → List N
  after_offer o nodes = map (λ n. if p.number n == o.node then (p.offer t o.queued n).0 else n) nodes

  -- what becomes of that offer
  abbrev pub offer_record : Offer → N → OfferRecord
  offer_record o n = record { tick = t; node = o.node; number = o.queued.number; outcome = (p.offer t o.queued n).1 }

  abbrev pub records_of_offer : Offer → List N → List OfferRecord
  records_of_offer o nodes = flat_map (λ n. if p.number n == o.node then offer_record o n ∷ [] else []) nodes

  -- all nodes after these offers, the first one first
  abbrev pub after_offers : List Offer → List N → List N
  after_offers [] nodes = nodes
  after_offers (o ∷ os) nodes = after_offers os (after_offer o nodes)

  -- what becomes of them, each at the nodes that the ones before it leave
  abbrev pub records_of : List Offer → List N → List OfferRecord
  records_of [] nodes = []
  records_of (o ∷ os) nodes = records_of_offer o nodes ++ records_of os (after_offer o nodes)

-- ---- how an offer stands

-- a number is given, and is this one
abbrev pub is_number : ℕ → Option ℕ → Bool
is_number number None = false
is_number number (Some n) = n == number

-- whether these acts offer a frame of this number
abbrev pub is_offered : List Act → ℕ → Bool
is_offered acts number = list_any (λ (a : Act). is_number number (number_in a.deed)) acts

abbrev pub first_state : List Act → ℕ → OfferState
first_state acts number = if is_offered acts number then Expected else Unknown

-- after its tick
abbrev pub after_outcome : ℕ → OfferOutcome → OfferState → OfferState
after_outcome t outcome Unknown = Unknown
after_outcome t Taken _ = StateTaken t
after_outcome t Full _ = StateFull
after_outcome t Off _ = StateOff

abbrev pub after_record : ℕ → OfferState → OfferRecord → OfferState
after_record number state r = if r.number == number then after_outcome r.tick r.outcome state else state

abbrev pub after_records : ℕ → OfferState → List OfferRecord → OfferState
after_records number state [] = state
after_records number state (r ∷ rs) = after_records number (after_record number state r) rs

-- after its first H began in tick t
abbrev pub after_leave : ℕ → OfferState → OfferState
after_leave t (StateTaken at) = Left (t - at)
after_leave t state = state

abbrev pub leaves_number : ℕ → DriveOutcome → Bool
leaves_number number d = is_number number d.leaves

abbrev pub after_leaves : ℕ → ℕ → OfferState → List DriveOutcome → OfferState
after_leaves t number state [] = state
after_leaves t number state (d ∷ ds) = after_leaves t number (if leaves_number number d then after_leave t state else state) ds

-- what is told of it
abbrev pub wait_of : OfferState → Option Wait
wait_of Unknown = None
wait_of Expected = Some Open
wait_of StateOff = Some WaitOff
wait_of StateFull = Some WaitFull
wait_of (StateTaken at) = Some Open
wait_of (Left wait) = Some (WaitLeft wait)
