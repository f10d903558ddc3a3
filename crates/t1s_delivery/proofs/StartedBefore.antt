-- A node that takes part in the cycle had started before the drive of another node that passes it then, or comes later.
use Rattle.std.proofs.Common.{◌≡◌, ◌≢◌, ℕ, suc, ◌+◌, ◌<◌, ◌≤◌, inl, inr, true, false, nat_lt, ◌==◌, List, [], ◌∷◌, Some, slice_get, refl, sym, ◌∙◌, ap, subst, arith}
use Rattle.std.proofs.lemmas.Bool.{cases_lt, true≢false}
use Rattle.std.proofs.lemmas.Bool.Decides.{nat_tests}
use Rattle.plca_control.specs.ControlTable.{is_active}
use Rattle.plca_control.specs.declared.State.{State}
use Rattle.t1s_pcs_tx.specs.State.{Stage}
use Rattle.t1s_mac.specs.PickedDraws.{picked_answer, picked_after}
use Rattle.t1s_mac.specs.declared.picked_draws.PickedDraws.{PickedDraws}
use Rattle.t1s_node.specs.Core.{Core, core_drive}
use Rattle.t1s_node.specs.NodeRuns.{node_at, core_ticks}
use Rattle.t1s_node.specs.Runs.{CoreTick, core_at, active_at, left_at}
use Rattle.t1s_node.proofs.NodeCore.{core_same}
use Rattle.t1s_world.specs.Schedule.{Drive}
use Rattle.t1s_world.specs.Waves.{CycleSettings, IsCycleSettings, Wave, Behind, AreBehind, arrived}
use Rattle.t1s_world.proofs.SeenWaves.{NewestArrived, is_seen, still_rises, standing, head_is}
use Rattle.t1s_script.specs.declared.script.NodeLine.{NodeLine}
use Rattle.t1s_script.specs.declared.script.Script.{Script}
use Rattle.t1s_line.specs.World.{node_set_of, draws_of}
use Rattle.t1s_turns.specs.ControlOverWaves.{WasThere, from_start, from_within, ControlOverWaves, recovers, waits_for_beacon, hears_first_wave, owns_beacon, owns_run, waits}
use Rattle.t1s_turns.specs.NodeOverWaves.{HasOpportunity, NodeOverWaves, cycle_of}
use Rattle.t1s_turns.proofs.DrawBounds.{picked_draws}
use Rattle.t1s_turns.proofs.TurnLaw.{turn_at}
use Rattle.t1s_turns.proofs.TurnTaken.{told_by}
use Rattle.t1s_schedule.proofs.ExactDrives.{Has, contains_from as has_contained}
use Rattle.t1s_schedule.proofs.NodeRuns.{given, start_node}
use Rattle.t1s_schedule.proofs.ScriptWaves.{waves_are, hears_waves}
use Rattle.t1s_schedule.proofs.SharedState.{FitCable, SharedAt, cycle_in}
use Rattle.t1s_delivery.proofs.Members.{Among, among_from}
use Rattle.t1s_delivery.proofs.PassingDrives.{late, wave_of, waves_of, before_newest, set_waves}

-- ---- by the waves alone

was_there : (n : CycleSettings) (begin t : ℕ) (a w : Wave) → 1 ≤ n.rise → WasThere n begin t a → Behind n a w → begin ≤ w.from
was_there n begin t a w some (from_start from) behind = omega (arith, from, behind.gap, behind.long)
was_there n begin t a w some (from_within over long) behind = omega (arith, long, behind.gap)

-- a wave of the node's own is not another's
other_own : (w a : Wave) (rest older : List Wave) → w ∷ rest ≡ a ∷ older → w.own ≡ false → a.own ≡ true → ⊥
other_own w a rest older e other own = true≢false (sym own ∙ (ap (λ (x : Wave). x.own) (sym (head_is w a rest older e).0) ∙ other))

started_before : (n : CycleSettings) → IsCycleSettings n → (begin t : ℕ) (ws : List Wave) → AreBehind n ws → (w : Wave) (rest : List Wave)
    → arrived t ws ≡ w ∷ rest → w.own ≡ false → t ≤ w.till → (st : State) (stage : Stage) (part : ℕ) → is_active st ≡ true
    → ControlOverWaves HasOpportunity n begin t ws st stage part → begin ≤ w.from
started_before n is begin t ws behind w rest newest other on _ _ _ active (recovers coord at low) = absurd (true≢false (sym active))
started_before n is begin t ws behind w rest newest other on _ _ _ active (waits_for_beacon coord none) = absurd (true≢false (sym active))
started_before n is begin t ws behind w rest newest other on _ _ _ active (hears_first_wave coord none at rose long within) =
    absurd (true≢false (sym active))
started_before n is begin t ws behind w rest newest other on _ _ _ active
    (owns_beacon {a = a} {rest = older} symbols coord at own flag from within time low left_is least) =
    absurd (other_own w a rest older (sym newest ∙ at) other own)
started_before n is begin t ws behind w rest newest other on _ _ _ active (owns_run {a = a} {rest = older} at own flag from within time sends) =
    absurd (other_own w a rest older (sym newest ∙ at) other own)
started_before n is begin t ws behind w rest newest other on _ _ _ active (waits {a = a} {rest = older} seen there state) =
    by (standing n is t ws a older behind seen)
  where
    here : (x : Wave) → x ≡ w → WasThere n begin t x → begin ≤ w.from
    here x same (from_start from) = omega (arith, from, ap (λ (y : Wave). y.from) same)
    here x same (from_within over long) = absurd (omega (arith, over, on, ap (λ (y : Wave). y.till) same))

    by : NewestArrived n t ws a older → begin ≤ w.from
    by (is_seen at past) = here a (sym (head_is w a rest older (sym newest ∙ at)).0) there
    by (still_rises v at foreign before rising close) =
        let same : v ≡ w = sym (head_is w v rest (a ∷ older) (sym newest ∙ at)).0 in
        was_there n begin t a w is.rise_low there (subst (λ (x : Wave). Behind n a x) same close)

-- ---- in the run of a fit script

module _ (s : Script) (z : ℕ) (fit : FitCable s z) (j : ℕ) (line : NodeLine) (found : slice_get s.nodes j ≡ Some line) where
  abbrev waves : List Drive → List Wave
  waves ds = waves_of s z fit j line found ds

  abbrev way : ℕ → ℕ
  way i = late s z fit j line found i

  -- the core of the node at its start, and what comes to it
  abbrev start : Core PickedDraws
  start = (start_node s j line found).core

  abbrev told : ℕ → CoreTick
  told = core_ticks (start_node s j line found) (given s j line found)

  newest_is : (t : ℕ) (ds : List Drive) → AreBehind (cycle_in s line) (waves ds) → (d : Drive) → Among ds d → d.start + way d.node < t
      → t ≤ d.stop + way d.node
      → (rest : List Wave) × (arrived t (waves ds) ≡ wave_of s z fit j line found d ∷ rest)
  unfolding Among
  newest_is t [] behind d has come on = absurd has
  newest_is t (a ∷ ds) behind d (inl same) come on =
      let from : a.start + way a.node ≡ d.start + way d.node = ap (λ (x : Drive). x.start + way x.node) same in
      let b : nat_lt (a.start + way a.node) t ≡ true = grind (arith, nat_tests, from, come) in
      (waves ds, rw b (ap (λ (x : Drive). wave_of s z fit j line found x ∷ waves ds) same))
  newest_is t (a ∷ ds) behind d (inr has) come on =
      let gap = before_newest s z fit j line found a ds behind d has in
      let b : nat_lt (a.start + way a.node) t ≡ false = grind (arith, nat_tests, gap, on) in
      let (rest, e) = newest_is t ds (rest_behind a ds behind) d has come on in
      (rest, rw b e)
    where
      rest_behind : (x : Drive) (xs : List Drive) → AreBehind (cycle_in s line) (waves (x ∷ xs)) → AreBehind (cycle_in s line) (waves xs)
      rest_behind x [] h = tt
      rest_behind x (y ∷ xs) h = h.2

  module _ (T : ℕ) (ds : List Drive) (shared : SharedAt s z T ds) where
    kept_at : (u : ℕ) → line.start + u ≤ T
        → NodeOverWaves (node_set_of s line) s.room (draws_of s line) (given s j line found) line.start u (waves ds)
    kept_at u within =
        turn_at picked_draws (node_set_of s line) (fit.node_sets j line found) (fit.low_ids j line found) s.room (draws_of s line)
        (given s j line found) (λ v. fit.frames (line.start + v) line.no) line.start (line.start + u) (waves ds)
        (told_by (cycle_of (node_set_of s line)) line.start (line.start + u) T (waves ds) within (set_waves s z fit j line found T ds shared))
        (λ v before. hears_waves s z fit j line found T ds shared v (omega (arith, before, within))) u refl

    active_next : (u : ℕ)
        → active_at picked_answer picked_after start told u ≡ is_active (left_at picked_answer picked_after start told u).control.state
    unfolding core_drive
    active_next u = refl

    kept_next : (u : ℕ)
        → left_at picked_answer picked_after start told u ≡ (node_at (start_node s j line found) (given s j line found) (suc u)).core
    unfolding core_at
    kept_next u = sym (core_same (start_node s j line found) (given s j line found) (suc u))

    pub had_started : (u : ℕ) → line.start + suc u ≤ T → active_at picked_answer picked_after start told u ≡ true
        → (d : Drive) → Has ds d → d.node ≢ j → line.start + u < d.stop + way d.node → line.start ≤ d.start + way d.node
    had_started u within active d has other on = elim (cases_lt (line.start + u) (d.start + way d.node)) [
      | inl later ↦ omega (arith, later)
      | inr come ↦
          let n : CycleSettings = cycle_of (node_set_of s line) in
          let (rest, newest) = newest_is (line.start + suc u) ds (waves_are s z fit j line found T ds shared).behind d
          (among_from ds d (has_contained ds d has)) (omega (arith, come)) (omega (arith, on)) in
          let flag : (d.node == j) ≡ false = grind (arith, nat_tests, other) in
          started_before n (fit.settings j line found) line.start (line.start + suc u) (waves ds)
          (set_waves s z fit j line found T ds shared).behind (wave_of s z fit j line found d)
          rest newest flag (omega (arith, on)) _ _ _
          (ap (λ (c : Core PickedDraws). is_active c.control.state) (sym (kept_next u)) ∙ (sym (active_next u) ∙ active))
          (kept_at (suc u) within).control
    ]
