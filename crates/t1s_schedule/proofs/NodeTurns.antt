-- A node of a fit script's run, tick by tick: its core is undisturbed, and a drive of it that is no beacon begins where its own
-- opportunity does.
use Rattle.std.proofs.Common.{◌≡◌, ◌≢◌, ℕ, suc, ◌+◌, ◌<◌, ◌≤◌, ◌⊎◌, inl, inr, Bool, true, false, List, ◌∷◌, get_or, map, Option, Some, None, is_some, slice_get, refl, sym, ◌∙◌, ap, ap₂, subst, arith}
use Rattle.std.proofs.lemmas.Bool.{true≢false}
use Rattle.t1s_symbols.specs.declared.Heard.{Heard}
use Rattle.t1s_symbols.specs.declared.Quarter.{Quarter}
use Rattle.t1s_symbols.specs.declared.Symbol.TheVariants.{N}
use Rattle.t1s_ring.specs.declared.queued.Queued.{Queued}
use Rattle.t1s_pcs_tx.specs.State.{Stage, Quiet, Beaconing, TxState, quarter_of}
use Rattle.plca_control.specs.ControlTable.{is_own}
use Rattle.plca_control.specs.declared.State.{State}
use Rattle.t1s_mac.specs.PickedDraws.{picked_answer, picked_after}
use Rattle.t1s_mac.specs.declared.picked_draws.PickedDraws.{PickedDraws}
use Rattle.t1s_node.specs.Core.{Core, CoreDrive, core_drive}
use Rattle.t1s_node.specs.Node.{NodeState, node_drive, reading_of}
use Rattle.t1s_node.specs.NodeRuns.{node_after_offers, node_at, node_drive_at, core_ticks}
use Rattle.t1s_node.specs.Runs.{CoreTick, IsUndisturbed, core_at, drive_at, own_at, leaves_at}
use Rattle.t1s_node.proofs.NodeCore.{core_same, driven_same}
use Rattle.t1s_world.specs.Waves.{CycleSettings, Wave, AreWaves, arrived}
use Rattle.t1s_world.specs.Schedule.{Drive}
use Rattle.t1s_world.proofs.ListLemmas.{get_or-map, slice_get-map}
use Rattle.t1s_turns.specs.ControlOverWaves.{ControlOverWaves, WaitingControl, recovers, waits_for_beacon, hears_first_wave, owns_beacon, owns_run, waits, listens, fades, syncs, counts}
use Rattle.t1s_turns.specs.NodeOverWaves.{HasOpportunity, NodeOverWaves}
use Rattle.t1s_turns.specs.OwnRun.{longest_run, IsOwnRun}
use Rattle.t1s_turns.specs.ReceiverOverWaves.{HeardOverWaves, nobody, drives, rests, theirs}
use Rattle.t1s_turns.proofs.DrawBounds.{picked_draws}
use Rattle.t1s_turns.proofs.OwnRunLaw.{owns_a_run}
use Rattle.t1s_turns.proofs.OwnRunSteps.{quarter_left}
use Rattle.t1s_turns.proofs.TurnLaw.{turn_at}
use Rattle.t1s_script.specs.declared.script.NodeLine.{NodeLine}
use Rattle.t1s_script.specs.declared.script.Script.{Script}
use Rattle.t1s_line.specs.declared.track.Track.{Track}
use Rattle.t1s_line.specs.Acts.{offers_to}
use Rattle.t1s_line.specs.Happenings.{IsLeaving}
use Rattle.t1s_line.specs.Outcomes.{DriveOutcome, with_offers}
use Rattle.t1s_line.specs.Runs.{drives_in}
use Rattle.t1s_line.specs.Track.{track_phases, drive_track}
use Rattle.t1s_line.specs.World.{machine_of, world, node_set_of, draws_of, set_of, drives_at, driven_in}
use Rattle.t1s_line.proofs.HeardTicks.{drive_started}
use Rattle.t1s_schedule.proofs.NodeRuns.{given, start_node, runs_at, drives_from, offers_from, with_node}
use Rattle.t1s_schedule.proofs.SharedState.{FitCable, cycle_with, SharedAt}
use Rattle.t1s_schedule.proofs.ScriptWaves.{waves, waves_are, hears_waves}

-- ---- what control says of its own opportunity

waiting_rests : (n : CycleSettings) (t : ℕ) (a : Wave) (st : State) → WaitingControl n t a st → is_own st ≡ false
waiting_rests n t _ _ (listens {a = a} other within) = refl
waiting_rests n t _ _ (fades {a = a} own run mine over within) = refl
waiting_rests n t _ _ (syncs {a = a} own beacon over within) = refl
waiting_rests n t _ _ (counts {a = a} c m over at some few order low coord) = refl

-- a transmitter that drives no beacon does so in the node's own opportunity
pub stage_cases : (n : CycleSettings) (begin t : ℕ) (ws : List Wave) (st : State) (stage : Stage) (part : ℕ)
    → ControlOverWaves HasOpportunity n begin t ws st stage part → (stage ≡ Quiet) ⊎ ((stage ≡ Beaconing) ⊎ (is_own st ≡ true))
stage_cases n begin t ws _ _ _ (recovers coord at low) = inl refl
stage_cases n begin t ws _ _ _ (waits_for_beacon coord none) = inl refl
stage_cases n begin t ws _ _ _ (hears_first_wave coord none at rose long within) = inl refl
stage_cases n begin t ws _ _ _ (owns_beacon symbols coord at own flag from within time low left_is some) = inr (inl refl)
stage_cases n begin t ws st stage part (owns_run at own flag from within time sends) = inr (inr sends)
stage_cases n begin t ws _ _ _ (waits newest there state) = inl refl

-- and holds it only while a wave of its own goes on
pub rest_cases : (n : CycleSettings) (begin t : ℕ) (ws : List Wave) (st : State) (stage : Stage) (part : ℕ)
    → ControlOverWaves HasOpportunity n begin t ws st stage part
    → (is_own st ≡ false) ⊎ ((a : Wave) × (rest : List Wave) × (arrived t ws ≡ a ∷ rest) × (a.own ≡ true) × (t ≤ a.till))
rest_cases n begin t ws _ _ _ (recovers coord at low) = inl refl
rest_cases n begin t ws _ _ _ (waits_for_beacon coord none) = inl refl
rest_cases n begin t ws _ _ _ (hears_first_wave coord none at rose long within) = inl refl
rest_cases n begin t ws _ _ _ (owns_beacon symbols coord at own flag from within time low left_is some) = inl refl
rest_cases n begin t ws st stage part (owns_run {a = a} {rest = rest} at own flag from within time sends) = inr (a, rest, at, own, within)
rest_cases n begin t ws st _ _ (waits {a = a} newest there state) = inl (waiting_rests n t a st state)

-- in the ticks of its own wave a node drives
own_heard : (t : ℕ) (xs : List Wave) (h : Heard) (b : Bool) → HeardOverWaves t xs h b
    → (a : Wave) (rest : List Wave) → xs ≡ a ∷ rest → a.own ≡ true → t < a.till → b ≡ true
own_heard t _ _ _ nobody a rest e own lasts = absurd (cc)
own_heard t _ _ _ (drives mine on) a rest e own lasts = refl
own_heard t _ _ _ (rests {w = w} over) a rest e own lasts =
    let same : w ≡ a = cc in absurd (omega (arith, over, lasts, ap (λ (x : Wave). x.till) same))
own_heard t _ _ _ (theirs {w = w} k other on at spells) a rest e own lasts =
    let same : w ≡ a = cc in absurd (true≢false (sym own ∙ (ap (λ (x : Wave). x.own) (sym same) ∙ other)))

module _ (s : Script) (z : ℕ) (fit : FitCable s z) (known : (t : ℕ) → (ds : List Drive) × SharedAt s z t ds) (few : s.burst ≤ 255)
    (i : ℕ) (line : NodeLine) (found : slice_get s.nodes i ≡ Some line) where
  abbrev node : ℕ → NodeState
  node u = node_at (start_node s i line found) (given s i line found) u

  abbrev pub start_core : Core PickedDraws
  start_core = (start_node s i line found).core

  abbrev pub ticks : ℕ → CoreTick
  ticks u = core_ticks (start_node s i line found) (given s i line found) u

  abbrev pub drive : ℕ → CoreDrive PickedDraws
  drive u = drive_at picked_answer picked_after start_core ticks u

  abbrev waves_by : ℕ → List Wave
  waves_by u = waves s z fit i line found (known (line.start + u)).0

  -- ---- what it keeps

  pub kept : (u : ℕ) → NodeOverWaves (node_set_of s line) s.room (draws_of s line) (given s i line found) line.start u (waves_by u)
  kept u =
      let now : ℕ = line.start + u in
      let shared = (known now).1 in
      let these = subst (λ (to : ℕ). AreWaves (cycle_with s line to) line.start now (waves_by u)) (sym (fit.timers i line found))
      (waves_are s z fit i line found now (known now).0 shared) in
      turn_at picked_draws (node_set_of s line) (fit.node_sets i line found) (fit.low_ids i line found)
      s.room (draws_of s line) (given s i line found)
      (λ v. fit.frames (line.start + v) line.no) line.start now (waves_by u) these (hears_waves s z fit i line found now (known now).0 shared) u refl

  pub undisturbed : (u : ℕ) → IsUndisturbed picked_answer picked_after start_core ticks u
  undisturbed u = (kept u).undisturbed

  -- ---- its core

  next_core : (u : ℕ) → (node (suc u)).core ≡ (drive u).core
  unfolding core_at
  next_core u = core_same (start_node s i line found) (given s i line found) (suc u)

  abbrev offered : ℕ → NodeState
  offered u = node_after_offers (node u) (given s i line found u).offers

  drive_is : (u : ℕ) → core_drive picked_answer picked_after (reading_of (offered u)) (offered u).core ≡ drive u
  drive_is u = driven_same (start_node s i line found) (given s i line found) u (core_same (start_node s i line found) (given s i line found) u)

  pub quarter_at : (u : ℕ) → driven_in s i (line.start + u) ≡ (drive u).quarter
  quarter_at u = drives_from s i line found u ∙ ap (λ (d : CoreDrive PickedDraws). d.quarter) (drive_is u)

  pub quarter_by : (u : ℕ) → (drive u).quarter ≡ quarter_of (node (suc u)).core.tx
  quarter_by u =
      quarter_left picked_answer picked_after picked_draws start_core ticks u (undisturbed u) u
      ∙ ap (λ (c : Core PickedDraws). quarter_of c.tx) (sym (next_core u))

  own_state : (u : ℕ) → own_at picked_answer picked_after start_core ticks u ≡ is_own (drive u).core.control.state
  unfolding core_drive
  own_state u = refl

  own_by : (u : ℕ) → own_at picked_answer picked_after start_core ticks u ≡ is_own (node (suc u)).core.control.state
  own_by u = own_state u ∙ ap (λ (c : Core PickedDraws). is_own c.control.state) (sym (next_core u))

  -- ---- where a run begins

  pub owns_at : (u : ℕ) (q : Quarter) → (drive u).quarter ≡ Some q → q.sym ≢ N → own_at picked_answer picked_after start_core ticks u ≡ true
  owns_at u q e other = by (node (suc u)).core.tx refl (stage_cases _ _ _ _ _ _ _ (kept (suc u)).control)
    where
      by : (tx : TxState) → (node (suc u)).core.tx ≡ tx
          → (tx.stage ≡ Quiet) ⊎ ((tx.stage ≡ Beaconing) ⊎ (is_own (node (suc u)).core.control.state ≡ true))
          → own_at picked_answer picked_after start_core ticks u ≡ true
      by tx at (inl silent) =
          let is : quarter_of tx ≡ Some q = ap quarter_of (sym at) ∙ (sym (quarter_by u) ∙ e) in
          let none : quarter_of tx ≡ None = rw silent refl in
          absurd (cc)
      by tx at (inr (inl beacons)) =
          let is : quarter_of tx ≡ Some q = ap quarter_of (sym at) ∙ (sym (quarter_by u) ∙ e) in
          let first : quarter_of tx ≡ Some (record { sym = N; part = tx.part }) = rw beacons refl in
          let same : record { sym = N; part = tx.part } ≡ q = cc in
          absurd (other (ap (λ (r : Quarter). r.sym) (sym same)))
      by tx at (inr (inr own)) = own_by u ∙ own

  pub rests_at : (u : ℕ) → (drive u).quarter ≡ None → own_at picked_answer picked_after start_core ticks u ≡ false
  rests_at u none = elim (rest_cases _ _ _ _ _ _ _ (kept (suc u)).control) [
    | inl away ↦ own_by u ∙ away
    | inr (a, rest, at, own, lasts) ↦
        let now : line.start + suc u ≡ line.start + u + 1 = omega arith in
        let shared = (known (line.start + suc u)).1 in
        let heard = hears_waves s z fit i line found (line.start + suc u) (known (line.start + suc u)).0 shared u (omega arith) in
        let come : arrived (line.start + u + 1) (waves_by (suc u)) ≡ a ∷ rest = rw (sym now) at in
        let drove = own_heard (line.start + u) _ _ _ heard a rest come own (omega (arith, lasts)) in
        let silent : (node_drive_at (start_node s i line found) (given s i line found) u).quarter ≡ None =
        ap (λ (d : CoreDrive PickedDraws). d.quarter) (drive_is u) ∙ none in
        absurd (true≢false (sym drove ∙ ap (λ (o : Option Quarter). is_some o) silent))
  ]

  pub run_at : (u : ℕ) (q : Quarter) → (drive u).quarter ≡ Some q → q.sym ≢ N → ((v : ℕ) → v + 1 ≡ u → (drive v).quarter ≡ None)
      → (e : ℕ) × IsOwnRun picked_answer picked_after start_core ticks s.burst u e
  run_at u q e other before =
      let end : ℕ = u + longest_run s.burst in
      owns_a_run picked_answer picked_after (set_of s line) s.room (draws_of s line) ticks end (undisturbed end) u few
      (omega arith) (owns_at u q e other)
      (λ v is. rests_at v (before v is))

  -- ---- what leaves

  leaves_from : (t : ℕ) (k : Track) → k.start ≤ t → (drive_track t (with_offers track_phases t (offers_to s.acts t k.no) k)).1.leaves
      ≡ (node_drive (node_after_offers k.node (offers_to s.acts t k.no))).1.leaves
  leaves_from t k from =
      let offers : List Queued = offers_to s.acts t k.no in
      rw (offers_from t offers k from, drive_started t (with_node (node_after_offers k.node offers) k) from) refl

  leaves_is : (u : ℕ) → get_or (map (λ (d : DriveOutcome). d.leaves) (drives_at s (line.start + u))) i None ≡ (drive u).leaves
  unfolding drives_in
  leaves_is u =
      let r = runs_at s i line found u in
      let t : ℕ = line.start + u in
      let outcome = slice_get-map (λ (k : Track). ((machine_of s).drive t k).1) (world s t).nodes i r.track r.found in
      get_or-map (λ (d : DriveOutcome). d.leaves) (drives_at s t) i _ None outcome
      ∙ (leaves_from t r.track (omega (arith, r.start))
      ∙ (ap₂ (λ (x : NodeState) (number : ℕ). (node_drive (node_after_offers x (offers_to s.acts t number))).1.leaves) r.node r.no
      ∙ ap (λ (d : CoreDrive PickedDraws). d.leaves) (drive_is u)))

  pub leaving_from : (u number : ℕ) → leaves_at picked_answer picked_after start_core ticks u ≡ Some number → IsLeaving s (line.start + u) i number
  unfolding IsLeaving
  leaving_from u number e = leaves_is u ∙ e

  pub leaving_is : (u number : ℕ) → IsLeaving s (line.start + u) i number → leaves_at picked_answer picked_after start_core ticks u ≡ Some number
  unfolding IsLeaving
  leaving_is u number e = sym (leaves_is u) ∙ e
