-- What happens at a node of the world, by the node's own ticks: the pieces that its receiver completes, and what leaves it.
use Rattle.std.proofs.Common.{◌≡◌, ℕ, suc, ◌+◌, ◌-◌, ◌==◌, ◌<◌, ◌≤◌, inl, inr, Bool, true, ◌&&◌, List, [], ◌∷◌, length, map, Some, None, is_some, slice_get, refl, sym, ◌∙◌, ap, ap₂, arith}
use Rattle.std.proofs.lemmas.Bool.{cases_lt, and_parts}
use Rattle.std.proofs.lemmas.Bool.Decides.{nat_tests}
use Rattle.std.proofs.lemmas.List.{length-map, get_or_past}
use Rattle.std.proofs.lemmas.Option.{slice_get_cases, slice_get_within}
use Rattle.t1s_symbols.specs.declared.Heard.{Heard}
use Rattle.t1s_symbols.specs.declared.Quarter.{Quarter}
use Rattle.t1s_symbols.specs.declared.Symbol.TheVariants.{H}
use Rattle.t1s_ring.specs.declared.queued.Queued.{Queued}
use Rattle.t1s_pcs_tx.specs.State.{Stage, Quiet, Beaconing, Committing, Starting, Sending, ClosingEnd, ClosingCloser, is_first_h, symbol_of, quarter_in}
use Rattle.t1s_pcs_rx.specs.Receiver.{Receiver, receive_start}
use Rattle.t1s_pcs_rx.specs.ReceiveTable.{receive_step, receive_event}
use Rattle.t1s_mac.specs.PickedDraws.{picked_answer, picked_after}
use Rattle.t1s_node.specs.Node.{NodeState, node_after_offer, node_drive}
use Rattle.t1s_node.specs.NodeRuns.{node_after_offers, node_at, node_drive_at}
use Rattle.t1s_node.specs.Runs.{leaves_at}
use Rattle.t1s_world.specs.Schedule.{Drive}
use Rattle.t1s_world.proofs.ListLemmas.{get_or-map, slice_get-map}
use Rattle.t1s_world.proofs.WorldLemmas.{hear_outcome_is}
use Rattle.t1s_script.specs.declared.script.NodeLine.{NodeLine}
use Rattle.t1s_script.specs.declared.script.Script.{Script}
use Rattle.t1s_script.specs.Taps.{taps_of}
use Rattle.t1s_line.specs.declared.track.Track.{Track}
use Rattle.t1s_line.specs.Acts.{offers_to}
use Rattle.t1s_line.specs.Happenings.{IsLeaving}
use Rattle.t1s_line.specs.Outcomes.{DriveOutcome, HearOutcome, with_offers}
use Rattle.t1s_line.specs.Runs.{drives_in, hearings_in}
use Rattle.t1s_line.specs.Track.{track_phases, drive_track, driven_track, hear_track}
use Rattle.t1s_line.specs.World.{machine_of, world, first_track, first_tracks, drives_at, hearings_at, piece_at, driven_in}
use Rattle.t1s_line.proofs.HeardTicks.{drive_before, drive_started, hear_before, hear_started}
use Rattle.t1s_line.proofs.ScriptNodes.{length-world, length-drives, length-hearings}
use Rattle.t1s_node.proofs.FrameWays.{leaves_is}
use Rattle.t1s_turns.proofs.DrawBounds.{picked_draws}
use Rattle.t1s_turns.proofs.LeavingsOnce.{first_of}
use Rattle.t1s_turns.proofs.OwnRunSteps.{quarter_left}
use Rattle.t1s_schedule.proofs.NodeRuns.{given, hears_in, start_node, runs_at, offers_before, offers_from, with_node, waits_until}
use Rattle.t1s_schedule.proofs.NodeTurns.{start_core, ticks, undisturbed, quarter_at, leaving_is}
use Rattle.t1s_schedule.proofs.SharedState.{FitCable, SharedAt}

offers_receiver : (n : NodeState) (qs : List Queued) → (node_after_offers n qs).receiver ≡ n.receiver
offers_receiver n [] = refl
offers_receiver n (q ∷ qs) = offers_receiver (node_after_offer n q) qs

-- ---- a position that no node has

module _ (s : Script) (i : ℕ) (past : length s.nodes ≤ i) where
  pub no_piece_past : (t : ℕ) → piece_at s i t ≡ None
  unfolding piece_at
  no_piece_past t =
      get_or_past (map (λ (d : HearOutcome). d.event) (hearings_at s t)) i None
      (omega (arith, past, length-map (hearings_at s t) (λ (d : HearOutcome). d.event), length-hearings s t))

  pub no_node : (t : ℕ) (k : Track) → slice_get (world s t).nodes i ≡ Some k → ⊥
  no_node t k at =
      let within = slice_get_within (world s t).nodes i k at in
      omega (arith, past, within, length-world s t)

  no_leaving_past : (t number : ℕ) → IsLeaving s t i number → ⊥
  unfolding IsLeaving
  no_leaving_past t number e =
      let none = get_or_past (map (λ (d : DriveOutcome). d.leaves) (drives_at s t)) i None
      (omega (arith, past, length-map (drives_at s t) (λ (d : DriveOutcome). d.leaves), length-drives s t)) in
      absurd (cc)

module _ (s : Script) (j : ℕ) (line : NodeLine) (found : slice_get s.nodes j ≡ Some line) where
  abbrev node : ℕ → NodeState
  node u = node_at (start_node s j line found) (given s j line found) u

  -- its receiver as its own tick u finds it, and whether it drives in this tick
  abbrev pub receiver : ℕ → Receiver
  receiver u = (node u).receiver

  abbrev pub drove : ℕ → Bool
  drove u = is_some (node_drive_at (start_node s j line found) (given s j line found) u).quarter

  pub receiver_first : receiver 0 ≡ receive_start
  unfolding node_at
  receiver_first = refl

  pub receiver_next : (u : ℕ) → receiver (suc u) ≡ receive_step (receiver u) (given s j line found u).heard (drove u)
  unfolding node_at
  receiver_next u =
      ap (λ (r : Receiver). receive_step r (given s j line found u).heard (drove u)) (offers_receiver (node u) (given s j line found u).offers)

  -- ---- the pieces that it completes

  module _ (t : ℕ) (qs : List Queued) (k : Track) where
    abbrev with_offered : Track
    with_offered = with_node (node_after_offers k.node qs) k

    event_from : (x : Heard) → k.start ≤ t → (hear_track t x (drive_track t (with_offers track_phases t qs k)).0).1.event
        ≡ receive_event k.node.receiver x (is_some (node_drive (node_after_offers k.node qs)).1.quarter)
    event_from x ge =
        let same = offers_receiver k.node qs in
        rw (offers_from t qs k ge, drive_started t with_offered ge, hear_started t x (driven_track with_offered) ge)
        (ap (λ (r : Receiver). receive_event r x (is_some (node_drive (node_after_offers k.node qs)).1.quarter)) same)

    event_before : (x : Heard) → t < k.start → (hear_track t x (drive_track t (with_offers track_phases t qs k)).0).1.event ≡ None
    event_before x lt = rw (offers_before t qs k lt, drive_before t k lt, hear_before t x k lt) refl

    leaves_before : t < k.start → (drive_track t (with_offers track_phases t qs k)).1.leaves ≡ None
    leaves_before lt = rw (offers_before t qs k lt, drive_before t k lt) refl

  piece_by : (t : ℕ) (k : Track) → slice_get (world s t).nodes j ≡ Some k
      → piece_at s j t
      ≡ (hear_track t (hears_in s j line found t) (drive_track t (with_offers track_phases t (offers_to s.acts t k.no) k)).0).1.event
  unfolding piece_at hearings_in
  piece_by t k at =
      get_or-map (λ (d : HearOutcome). d.event) (hearings_at s t) j _ None (hear_outcome_is (machine_of s) (taps_of s) (first_tracks s) t j k at)

  pub piece_is : (u : ℕ) → piece_at s j (line.start + u) ≡ receive_event (receiver u) (given s j line found u).heard (drove u)
  piece_is u =
      let r = runs_at s j line found u in
      let t : ℕ = line.start + u in
      piece_by t r.track r.found
      ∙ (event_from t (offers_to s.acts t r.track.no) r.track (hears_in s j line found t) (omega (arith, r.start))
      ∙ ap₂ (λ (x : NodeState) (no : ℕ). receive_event x.receiver (hears_in s j line found t)
      (is_some (node_drive (node_after_offers x (offers_to s.acts t no))).1.quarter))
      r.node r.no)

  pub no_piece_before : (t : ℕ) → t < line.start → piece_at s j t ≡ None
  no_piece_before t lt =
      let k : Track = first_track s line in
      piece_by t k (waits_until s j line found t (omega (arith, lt))) ∙ event_before t (offers_to s.acts t k.no) k (hears_in s j line found t) lt

  no_leaving_before : (t number : ℕ) → t < line.start → IsLeaving s t j number → ⊥
  unfolding IsLeaving drives_in
  no_leaving_before t number lt e =
      let k : Track = first_track s line in
      let outcome = slice_get-map (λ (x : Track). ((machine_of s).drive t x).1) (world s t).nodes j k
      (waits_until s j line found t (omega (arith, lt))) in
      let none = get_or-map (λ (d : DriveOutcome). d.leaves) (drives_at s t) j _ None outcome ∙ leaves_before t (offers_to s.acts t k.no) k lt in
      absurd (cc)

-- ---- what leaves begins with H

h_begins : (stage : Stage) (part : ℕ) → (is_first_h stage && (part == 0)) ≡ true
    → (q : Quarter) × (quarter_in (symbol_of stage) part ≡ Some q) × (q.sym ≡ H)
h_begins Quiet part e = absurd (cc)
h_begins Beaconing part e = absurd (cc)
h_begins Committing part e = absurd (cc)
h_begins (Sending nibble) part e = absurd (cc)
h_begins (ClosingEnd good) part e = absurd (cc)
h_begins (ClosingCloser good) part e = absurd (cc)
h_begins (Starting place) part e =
    let parts = and_parts (place == 2) (part == 0) e in
    let two : place ≡ 2 = grind (arith, nat_tests, parts.0) in
    (record { sym = H; part = part }, rw two refl, refl)

module _ (s : Script) (z : ℕ) (fit : FitCable s z) (known : (t : ℕ) → (ds : List Drive) × SharedAt s z t ds) (few : s.burst ≤ 255) where
  -- a leaving of a node, which has started then and drives H
  pub record LeavesNode (v i number : ℕ) : Type 0 where
    pub line : NodeLine
    pub found : slice_get s.nodes i ≡ Some line
    pub u : ℕ
    pub now : line.start + u ≡ v
    pub leaves : leaves_at picked_answer picked_after (start_core s z fit known few i line found) (ticks s z fit known few i line found) u
        ≡ Some number
    pub quarter : Quarter
    pub drives : driven_in s i v ≡ Some quarter
    pub begins : quarter.sym ≡ H

  pub leaves_node : (v i number : ℕ) → IsLeaving s v i number → LeavesNode v i number
  leaves_node v i number leaving = elim (slice_get_cases s.nodes i).1 [
    | inr past ↦ absurd (no_leaving_past s i past.0 v number leaving)
    | inl here ↦ elim (cases_lt v here.0.start) [
      | inl before ↦ absurd (no_leaving_before s i here.0 here.2 v number before leaving)
      | inr from ↦ started here.0 here.2 (v - here.0.start) (omega (arith, from)) leaving
    ]
  ]
    where
      started : (line : NodeLine) (found : slice_get s.nodes i ≡ Some line) (u : ℕ) → line.start + u ≡ v → IsLeaving s v i number
          → LeavesNode v i number
      started line found u now leaving =
          let leaves = leaving_is s z fit known few i line found u number (rw now leaving) in
          let form = leaves_is picked_answer picked_after picked_draws (start_core s z fit known few i line found)
          (ticks s z fit known few i line found) u (undisturbed s z fit known few i line found u) u in
          let first = first_of _ _ number (sym form ∙ leaves) in
          let (q, is, h) = h_begins _ _ first in
          let quarter = quarter_left picked_answer picked_after picked_draws (start_core s z fit known few i line found)
          (ticks s z fit known few i line found) u (undisturbed s z fit known few i line found u) u in
          record {
            line = line;
            found = found;
            u = u;
            now = now;
            leaves = leaves;
            quarter = q;
            drives = ap (driven_in s i) (sym now) ∙ (quarter_at s z fit known few i line found u ∙ (quarter ∙ is));
            begins = h;
          }
