-- What happens in a run, and what is counted in it, over any kind of node and any acts.
use Rattle.std.specs.Prelude.{ℕ, zero, suc, ◌==◌, Bool, false, List, ◌++◌, Option, None, map, get_or, position}
use Rattle.std.specs.Option.{option_map}
use Rattle.std.specs.List.{flat_map, list_all}
use Rattle.t1s_harness.specs.declared.Tap.{Tap}
use Rattle.t1s_symbols.specs.declared.Heard.{Heard}
use Rattle.t1s_symbols.specs.declared.Heard.TheVariants.{Nothing}
use Rattle.t1s_world.specs.Events.{first_below}
use Rattle.t1s_world.specs.Lists.{each_with}
use Rattle.t1s_world.specs.World.{past, drive_outcomes, hear_outcomes_at}
use Rattle.t1s_script.specs.declared.script.Act.{Act}
use Rattle.t1s_script.specs.declared.script.NodeLine.{NodeLine}
use Rattle.t1s_script.specs.Taps.{tap_of}
use Rattle.t1s_line.specs.declared.offers.OfferState.{OfferState}
use Rattle.t1s_line.specs.declared.totals.NodeTotals.{NodeTotals}
use Rattle.t1s_line.specs.Acts.{offers_at}
use Rattle.t1s_line.specs.EventRecords.{EventRecord}
use Rattle.t1s_line.specs.Offers.{OfferRecord, offer_event, records_of, first_state, after_records, after_leaves}
use Rattle.t1s_line.specs.Outcomes.{DriveOutcome, HearOutcome, NodePhases, machine_with}
use Rattle.t1s_line.specs.Totals.{no_totals, after_refusals, after_driving, after_hearing}

-- where the nodes hang on the pair
abbrev pub taps_in : List NodeLine → List Tap
taps_in lines = map tap_of lines

-- what a node heard in a tick, and whether it drove in it
abbrev pub heard_tick : HearOutcome → Heard × Bool
heard_tick d = (d.heard, d.drove)

abbrev pub drive_events_of : List DriveOutcome → List EventRecord
drive_events_of ds = flat_map (λ (d : DriveOutcome). d.events) ds

abbrev pub hear_events_of : List HearOutcome → List EventRecord
hear_events_of ds = flat_map (λ (d : HearOutcome). d.events) ds

abbrev pub are_ok : List DriveOutcome → Bool
are_ok ds = list_all (λ (d : DriveOutcome). d.ok) ds

-- the run of the nodes in these lines, from what they keep at first, among these acts
module _ {N : Type 0} (p : NodePhases N) (acts : List Act) (lines : List NodeLine) (first : List N) where
  -- what the nodes keep before tick t
  abbrev pub nodes_in : ℕ → List N
  nodes_in t = (past (machine_with p acts) (taps_in lines) first t).nodes

  -- what becomes of the offers of tick t, in the order of their lines
  unfoldable pub records_in : ℕ → List OfferRecord
  records_in t = records_of p t (offers_at acts t) (nodes_in t)

  -- what comes of the drive phase of tick t, node by node, and of its hear phase
  unfoldable pub drives_in : ℕ → List DriveOutcome
  drives_in t = drive_outcomes (machine_with p acts) t (nodes_in t)

  unfoldable pub hearings_in : ℕ → List HearOutcome
  hearings_in t = hear_outcomes_at (machine_with p acts) (taps_in lines) first t

  -- the events of tick t: of the offers in the order of their lines, then of the nodes ascending, and then their arrivals
  unfoldable pub events_in : ℕ → List EventRecord
  events_in t = map offer_event (records_in t) ++ drive_events_of (drives_in t) ++ hear_events_of (hearings_in t)

  -- the status of every node is OK after the drive phase of tick t
  unfoldable pub all_ok_in : ℕ → Bool
  all_ok_in t = are_ok (drives_in t)

  -- the first tick below t in which every status was OK, if there is one
  abbrev pub settled_in : ℕ → Option ℕ
  settled_in t = first_below all_ok_in t

  -- what is counted at each node over the ticks below t
  unfoldable pub totals_in : ℕ → List NodeTotals
  totals_in zero = map (λ (n : NodeLine). no_totals n.no) lines
  totals_in (suc t) = each_with after_hearing (each_with after_driving (after_refusals (totals_in t) (records_in t)) (drives_in t)) (hearings_in t)

  -- how the offer of this number stands before tick t
  unfoldable pub state_in : ℕ → ℕ → OfferState
  state_in number zero = first_state acts number
  state_in number (suc t) = after_leaves t number (after_records number (state_in number t) (records_in t)) (drives_in t)

  -- what each node heard in the last of the ticks below t, and whether it drove in it
  unfoldable pub heard_below : ℕ → List (Heard × Bool)
  heard_below zero = map (λ _. (Nothing, false)) lines
  heard_below (suc t) = map heard_tick (hearings_in t)

  -- the same of the node with this number. None where there is no such node, and where there is no tick below t
  abbrev pub last_heard_in : ℕ → ℕ → Option (Heard × Bool)
  last_heard_in node zero = None
  last_heard_in node (suc t) =
      option_map (λ j. get_or (heard_below (suc t)) j (Nothing, false)) (position (λ (n : NodeLine). n.no == node) lines)
