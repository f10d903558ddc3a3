-- What a contract sees of an engine, and of the segment that it plays.
use Rattle.std.specs.Prelude.{ℕ, Bool, false, List, get_or, Option, Some, None, if◌then◌else◌}
use Rattle.std.specs.Option.{option_or}
use Rattle.t1s_symbols.specs.declared.Heard.{Heard}
use Rattle.t1s_symbols.specs.declared.Heard.TheVariants.{Nothing, Many}
use Rattle.t1s_symbols.specs.Ranges.{IsHeard}
use Rattle.t1s_world.specs.World.{Machine}
use Rattle.t1s_cable.specs.State.{CableState}
use Rattle.t1s_pcs_rx.specs.declared.piece.Kind.{Kind}
use Rattle.t1s_pcs_rx.specs.Views.{View}
use Rattle.t1s_script.specs.declared.script.Act.{Act}
use Rattle.t1s_line.specs.declared.offers.OfferState.{OfferState}
use Rattle.t1s_line.specs.declared.totals.NodeTotals.{NodeTotals}
use Rattle.t1s_line.specs.declared.track.Track.{Track}
use Rattle.t1s_line.specs.Outcomes.{DriveOutcome, HearOutcome, NodePhases}

-- the tick that is played next, and the end; the first tick in which every status was OK; the acts that are still to come,
-- and the tick after the noises that have begun; the nodes and their cable; what was counted at each node; how each offer
-- stands, at its number; and what each node heard in the last tick, and whether it drove in it
pub record EngineState (N : Type 0) : Type 0 where
  pub tick : ℕ
  pub end : ℕ
  pub settled : Option ℕ
  pub upcoming : List Act
  pub noise_until : ℕ
  pub nodes : List N
  pub cable : CableState
  pub totals : List NodeTotals
  pub states : List OfferState
  pub heard : List (Heard × Bool)

abbrev pub SegmentState : Type 0
SegmentState = EngineState Track

-- the first tick in which every status was OK, after one more tick
abbrev pub settled_after : Option ℕ → ℕ → Bool → Option ℕ
settled_after settled tick ok = option_or settled (if ok then Some tick else None)

-- whatever was heard is in range
abbrev pub AreHeard : List (Heard × Bool) → Type 0
AreHeard ticks = (k : ℕ) → IsHeard (get_or ticks k (Nothing, false)).0

-- the kind of a piece that a receiver completes
abbrev pub arrival_kind : Option View → Option Kind
arrival_kind None = None
arrival_kind (Some view) = Some view.kind

-- the two phases of a tick alone, as a machine: without offers and noise
abbrev pub two_phases : {N : Type 0} → NodePhases N → Machine N DriveOutcome HearOutcome
two_phases p = record { drive = p.drive; quarter = λ (d : DriveOutcome). d.quarter; hear = p.hear }

-- what a node hears where the cable brings it this: many signals while there is a noise
abbrev pub under_noise : Bool → Heard → Heard
under_noise noisy h = if noisy then Many else h
