-- What leaves a node of a script, and what it drives, as the core of the node tells it, on every script.
use Rattle.std.proofs.Common.{◌≡◌, inl, inr, ℕ, ◌+◌, ◌-◌, ◌<◌, ◌≤◌, List, length, get_or, map, Some, None, refl, sym, ◌∙◌, ap, ap₂, arith}
use Rattle.std.specs.Prelude.{slice_get}
use Rattle.std.proofs.lemmas.Bool.{cases_lt}
use Rattle.std.proofs.lemmas.List.{length-map, get_or_past}
use Rattle.std.proofs.lemmas.Option.{slice_get_cases}
use Rattle.t1s_ring.specs.declared.queued.Queued.{Queued}
use Rattle.t1s_mac.specs.PickedDraws.{picked_answer, picked_after}
use Rattle.t1s_mac.specs.declared.picked_draws.PickedDraws.{PickedDraws}
use Rattle.t1s_node.specs.Core.{Core, CoreDrive, core_drive}
use Rattle.t1s_node.specs.Node.{NodeState, node_drive, reading_of}
use Rattle.t1s_node.specs.NodeRuns.{node_after_offers, node_at, core_ticks}
use Rattle.t1s_node.specs.Runs.{CoreTick, drive_at, leaves_at}
use Rattle.t1s_node.proofs.NodeCore.{core_same, driven_same}
use Rattle.t1s_world.proofs.ListLemmas.{get_or-map, slice_get-map}
use Rattle.t1s_script.specs.declared.script.NodeLine.{NodeLine}
use Rattle.t1s_script.specs.declared.script.Script.{Script}
use Rattle.t1s_line.specs.declared.track.Track.{Track}
use Rattle.t1s_line.specs.Acts.{offers_to}
use Rattle.t1s_line.specs.Happenings.{IsLeaving}
use Rattle.t1s_line.specs.Outcomes.{DriveOutcome, with_offers}
use Rattle.t1s_line.specs.Runs.{drives_in}
use Rattle.t1s_line.specs.Track.{track_phases, drive_track}
use Rattle.t1s_line.specs.World.{machine_of, world, first_track, drives_at, driven_in}
use Rattle.t1s_line.proofs.HeardTicks.{drive_before, drive_started}
use Rattle.t1s_line.proofs.ScriptNodes.{length-drives}
use Rattle.t1s_schedule.proofs.NodeRuns.{given, start_node, runs_at, offers_before, offers_from, with_node, waits_until, drives_from}

no_leaving_past : (s : Script) (i : ℕ) → length s.nodes ≤ i → (t number : ℕ) → IsLeaving s t i number → ⊥
unfolding IsLeaving
no_leaving_past s i past t number e =
    let none = get_or_past (map (λ (d : DriveOutcome). d.leaves) (drives_at s t)) i None
    (omega (arith, past, length-map (drives_at s t) (λ (d : DriveOutcome). d.leaves), length-drives s t)) in
    absurd (cc)

module _ (s : Script) (i : ℕ) (line : NodeLine) (found : slice_get s.nodes i ≡ Some line) where
  abbrev pub start_core : Core PickedDraws
  start_core = (start_node s i line found).core

  abbrev pub ticks : ℕ → CoreTick
  ticks u = core_ticks (start_node s i line found) (given s i line found) u

  abbrev pub drive : ℕ → CoreDrive PickedDraws
  drive u = drive_at picked_answer picked_after start_core ticks u

  abbrev offered : ℕ → NodeState
  offered u = node_after_offers (node_at (start_node s i line found) (given s i line found) u) (given s i line found u).offers

  drive_is : (u : ℕ) → core_drive picked_answer picked_after (reading_of (offered u)) (offered u).core ≡ drive u
  drive_is u = driven_same (start_node s i line found) (given s i line found) u (core_same (start_node s i line found) (given s i line found) u)

  pub quarter_at : (u : ℕ) → driven_in s i (line.start + u) ≡ (drive u).quarter
  quarter_at u = drives_from s i line found u ∙ ap (λ (d : CoreDrive PickedDraws). d.quarter) (drive_is u)

  leaves_from : (t : ℕ) (k : Track) → k.start ≤ t → (drive_track t (with_offers track_phases t (offers_to s.acts t k.no) k)).1.leaves
      ≡ (node_drive (node_after_offers k.node (offers_to s.acts t k.no))).1.leaves
  leaves_from t k from =
      let offers : List Queued = offers_to s.acts t k.no in
      rw (offers_from t offers k from, drive_started t (with_node (node_after_offers k.node offers) k) from) refl

  leaves_before : (t : ℕ) (k : Track) → t < k.start → (drive_track t (with_offers track_phases t (offers_to s.acts t k.no) k)).1.leaves ≡ None
  leaves_before t k lt = rw (offers_before t (offers_to s.acts t k.no) k lt, drive_before t k lt) refl

  no_leaving_before : (t number : ℕ) → t < line.start → IsLeaving s t i number → ⊥
  unfolding IsLeaving drives_in
  no_leaving_before t number lt e =
      let k : Track = first_track s line in
      let outcome = slice_get-map (λ (x : Track). ((machine_of s).drive t x).1) (world s t).nodes i k (waits_until s i line found t (omega (arith, lt))) in
      let none = get_or-map (λ (d : DriveOutcome). d.leaves) (drives_at s t) i _ None outcome ∙ leaves_before t k lt in
      absurd (cc)

  leaves_is : (u : ℕ) → get_or (map (λ (d : DriveOutcome). d.leaves) (drives_at s (line.start + u))) i None ≡ (drive u).leaves
  unfolding drives_in
  leaves_is u =
      let r = runs_at s i line found u in
      let t : ℕ = line.start + u in
      let outcome = slice_get-map (λ (k : Track). ((machine_of s).drive t k).1) (world s t).nodes i r.track r.found in
      get_or-map (λ (d : DriveOutcome). d.leaves) (drives_at s t) i _ None outcome
      ∙ (leaves_from t r.track (omega (arith, r.start))
      ∙ (ap₂ (λ (x : NodeState) (number : ℕ). (node_drive (node_after_offers x (offers_to s.acts t number))).1.leaves) r.node r.no
      ∙ ap (λ (d : CoreDrive PickedDraws). d.leaves) (drive_is u)))

  leaving_is : (u number : ℕ) → IsLeaving s (line.start + u) i number → leaves_at picked_answer picked_after start_core ticks u ≡ Some number
  unfolding IsLeaving
  leaving_is u number e = sym (leaves_is u) ∙ e

-- a leaving, by the node's own ticks
pub record NodeLeaving (s : Script) (v i number : ℕ) : Type 0 where
  pub line : NodeLine
  pub found : slice_get s.nodes i ≡ Some line
  pub u : ℕ
  pub now : line.start + u ≡ v
  pub leaves : leaves_at picked_answer picked_after (start_core s i line found) (ticks s i line found) u ≡ Some number

pub node_leaving : (s : Script) (v i number : ℕ) → IsLeaving s v i number → NodeLeaving s v i number
node_leaving s v i number leaving = elim (slice_get_cases s.nodes i).1 [
  | inr past ↦ absurd (no_leaving_past s i past.0 v number leaving)
  | inl here ↦ elim (cases_lt v here.0.start) [
    | inl before ↦ absurd (no_leaving_before s i here.0 here.2 v number before leaving)
    | inr from ↦ started here.0 here.2 (v - here.0.start) (omega (arith, from))
  ]
]
  where
    started : (line : NodeLine) (found : slice_get s.nodes i ≡ Some line) (u : ℕ) → line.start + u ≡ v → NodeLeaving s v i number
    started line found u now = record { line = line; found = found; u = u; now = now; leaves = leaving_is s i line found u number (rw now leaving) }
