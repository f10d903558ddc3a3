-- Once every status has been OK, each node has started and takes part in the cycle.
use Rattle.std.proofs.Common.{◌≡◌, ℕ, zero, suc, ◌+◌, ◌-◌, ◌<◌, ◌≤◌, inl, inr, Bool, true, false, cond, List, Option, Some, None, slice_get, refl, sym, ◌∙◌, ap, ap₂, arith}
use Rattle.std.specs.Option.{option_or}
use Rattle.std.proofs.lemmas.Bool.{cases_lt, true≢false}
use Rattle.std.proofs.lemmas.List.Folds.{list_all_at}
use Rattle.std.proofs.lemmas.Option.{get_or_from_slice_get, slice_get_within}
use Rattle.t1s_ring.specs.declared.queued.Queued.{Queued}
use Rattle.t1s_mac.specs.PickedDraws.{picked_answer, picked_after}
use Rattle.t1s_node.specs.Node.{NodeState, node_drive}
use Rattle.t1s_node.specs.NodeRuns.{node_after_offers}
use Rattle.t1s_node.specs.Runs.{active_at}
use Rattle.t1s_world.specs.Events.{first_below}
use Rattle.t1s_world.specs.Schedule.{Drive}
use Rattle.t1s_world.proofs.ListLemmas.{slice_get-map}
use Rattle.t1s_script.specs.declared.script.NodeLine.{NodeLine}
use Rattle.t1s_script.specs.declared.script.Script.{Script}
use Rattle.t1s_line.specs.declared.track.Track.{Track}
use Rattle.t1s_line.specs.Acts.{offers_to}
use Rattle.t1s_line.specs.Outcomes.{DriveOutcome, with_offers}
use Rattle.t1s_line.specs.Runs.{are_ok, all_ok_in, drives_in}
use Rattle.t1s_line.specs.Track.{track_phases, drive_track}
use Rattle.t1s_line.specs.World.{machine_of, world, first_track, first_tracks, drives_at, settled_below}
use Rattle.t1s_line.proofs.HeardTicks.{drive_before, drive_started}
use Rattle.t1s_schedule.proofs.NodeRuns.{runs_at, offers_before, offers_from, with_node, waits_until}
use Rattle.t1s_schedule.proofs.NodeTurns.{start_core, ticks, kept}
use Rattle.t1s_schedule.proofs.SharedState.{FitCable, SharedAt}

first_below_some : (p : ℕ → Bool) (n k : ℕ) → first_below p n ≡ Some k → (k < n) × (p k ≡ true)
unfolding first_below
first_below_some p zero k e = absurd (cc)
first_below_some p (suc n) k e = by (first_below p n) (p n) refl e (λ before. first_below_some p n k before)
  where
    by : (o : Option ℕ) (b : Bool) → p n ≡ b → option_or o (cond b (Some n) None) ≡ Some k → (o ≡ Some k → (k < n) × (p k ≡ true))
        → (k < suc n) × (p k ≡ true)
    by (Some x) b is f before = let (less, passes) = before f in (omega (arith, less), passes)
    by None true is f before = let same : n ≡ k = cc in (omega (arith, same), ap p (sym same) ∙ is)
    by None false is f before = absurd (cc)

each_ok : (ds : List DriveOutcome) (i : ℕ) (d : DriveOutcome) → are_ok ds ≡ true → slice_get ds i ≡ Some d → d.ok ≡ true
each_ok ds i d all at = by d.ok refl
  where
    by : (b : Bool) → d.ok ≡ b → d.ok ≡ true
    by true e = e
    by false e =
        let here = get_or_from_slice_get ds i d d at in
        let fails = list_all_at (λ (x : DriveOutcome). x.ok) ds i d (slice_get_within ds i d at) (ap (λ (x : DriveOutcome). x.ok) here ∙ e) in
        absurd (true≢false (sym all ∙ fails))

module _ (s : Script) (z : ℕ) (fit : FitCable s z) (known : (t : ℕ) → (ds : List Drive) × SharedAt s z t ds) (few : s.burst ≤ 255)
    (j : ℕ) (line : NodeLine) (found : slice_get s.nodes j ≡ Some line) where
  ok_before : (t : ℕ) (qs : List Queued) (k : Track) → t < k.start → (drive_track t (with_offers track_phases t qs k)).1.ok ≡ false
  ok_before t qs k lt = rw (offers_before t qs k lt, drive_before t k lt) refl

  ok_from : (t : ℕ) (qs : List Queued) (k : Track) → k.start ≤ t
      → (drive_track t (with_offers track_phases t qs k)).1.ok ≡ (node_drive (node_after_offers k.node qs)).1.ok
  ok_from t qs k ge = rw (offers_from t qs k ge, drive_started t (with_node (node_after_offers k.node qs) k) ge) refl

  outcome_at : (t : ℕ) (k : Track) → slice_get (world s t).nodes j ≡ Some k
      → slice_get (drives_at s t) j ≡ Some (drive_track t (with_offers track_phases t (offers_to s.acts t k.no) k)).1
  unfolding drives_in
  outcome_at t k at = slice_get-map (λ (x : Track). ((machine_of s).drive t x).1) (world s t).nodes j k at

  -- the node has started by tick t, and is active in it
  pub record IsActive (t : ℕ) : Type 0 where
    pub u : ℕ
    pub now : line.start + u ≡ t
    pub active : active_at picked_answer picked_after (start_core s z fit known few j line found) (ticks s z fit known few j line found) u ≡ true

  active_own : (u : ℕ) → are_ok (drives_at s (line.start + u)) ≡ true → IsActive (line.start + u)
  active_own u all =
      let t : ℕ = line.start + u in
      let r = runs_at s j line found u in
      let ok = each_ok (drives_at s t) j _ all (outcome_at t r.track r.found) in
      let same = ok_from t (offers_to s.acts t r.track.no) r.track (omega (arith, r.start))
      ∙ ap₂ (λ (x : NodeState) (number : ℕ). (node_drive (node_after_offers x (offers_to s.acts t number))).1.ok) r.node r.no in
      record { u = u; now = refl; active = sym (kept s z fit known few j line found u).ok ∙ (sym same ∙ ok) }

  pub settled_active : (t settled : ℕ) → settled_below s (t + 1) ≡ Some settled → (settled ≤ t) × IsActive settled
  unfolding all_ok_in
  settled_active t settled e =
      let (before, all) = first_below_some (λ v. all_ok_in track_phases s.acts s.nodes (first_tracks s) v) (t + 1) settled e in (
        omega (arith, before),
        elim (cases_lt settled line.start) [
          | inl early ↦
              let k : Track = first_track s line in
              let ok = each_ok (drives_at s settled) j _ all (outcome_at settled k (waits_until s j line found settled (omega (arith, early)))) in
              absurd (true≢false (sym ok ∙ ok_before settled (offers_to s.acts settled k.no) k early))
          | inr from ↦
              let now : line.start + (settled - line.start) ≡ settled = omega (arith, from) in
              let own = active_own (settled - line.start) (ap (λ (v : ℕ). are_ok (drives_at s v)) now ∙ all) in
              record { u = own.u; now = own.now ∙ now; active = own.active }
        ],
      )
