-- A node keeps its turn in every tick: induction over the ticks of one list of waves.
use Rattle.std.proofs.Common.{◌≡◌, ℕ, zero, suc, ◌+◌, ◌-◌, ◌==◌, ◌<◌, ◌≤◌, inl, inr, Bool, true, false, nat_lt, List, [], ◌∷◌, refl, sym, ◌∙◌, ap, subst, arith, rules}
use Rattle.std.specs.List.{All}
use Rattle.std.proofs.lemmas.Bool.{cases_lt}
use Rattle.std.proofs.lemmas.Bool.Decides.{nat_tests}
use Rattle.t1s_base.specs.NodeIds.{has_id}
use Rattle.t1s_frame.specs.Frame.{IsFrame}
use Rattle.t1s_ring.specs.declared.queued.Queued.{Queued}
use Rattle.t1s_pcs_tx.specs.State.{Stage, Quiet}
use Rattle.plca_control.specs.declared.State.{State}
use Rattle.plca_control.specs.ControlTable.{coord, is_out, control_start, is_active}
use Rattle.plca_control.specs.StatusTable.{status_is_ok}
use Rattle.plca_data.specs.declared.data_path.State.{State as PathState}
use Rattle.plca_data.specs.DataPathTable.{ready}
use Rattle.t1s_turns.specs.DriveOverWaves.{DriveOverWaves}
use Rattle.t1s_mac.specs.PickedDraws.{picked_answer, picked_after}
use Rattle.t1s_mac.specs.declared.picked_draws.PickedDraws.{PickedDraws}
use Rattle.t1s_node.specs.declared.settings.NodeSet.{NodeSet}
use Rattle.t1s_node.specs.CarrierTable.{carrier_start}
use Rattle.t1s_node.specs.Core.{CoreDrive}
use Rattle.t1s_node.specs.Node.{NodeState, IsNodeSet, node_after_offer}
use Rattle.t1s_pcs_rx.specs.Receiver.{receive_start}
use Rattle.t1s_node.specs.NodeRuns.{NodeTick, node_after_offers, node_at, node_drive_at, core_ticks}
use Rattle.t1s_node.specs.Runs.{DrawsAreBounded, IsUndisturbed, active_at}
use Rattle.t1s_node.proofs.CoreSteps.{start_stands}
use Rattle.t1s_node.proofs.JointPlaces.{Asleep}
use Rattle.t1s_node.proofs.NodeCore.{core_same, driven_same}
use Rattle.t1s_world.specs.Waves.{CycleSettings, Wave, AreWaves, arrived}
use Rattle.t1s_turns.specs.CarrierOverWaves.{CarrierOverWaves, silent, missed, rising}
use Rattle.t1s_turns.specs.ReceiverOverWaves.{ReceiverOverWaves, silent as none_heard, unheard}
use Rattle.t1s_turns.specs.ControlOverWaves.{ControlOverWaves, recovers, waits_for_beacon, hears_first_wave, owns_beacon, owns_run, waits}
use Rattle.t1s_turns.specs.NodeOverWaves.{cycle_of, HasLowIds, HasOpportunity, started, HearsWaves, NodeOverWaves}
use Rattle.t1s_turns.proofs.DriveTurns.{drive_of}
use Rattle.t1s_turns.proofs.NodeInvariant.{NodeInvariant, kept_offers, kept_next, drive, drive_is, active_is, stays_active, status_next}
use Rattle.t1s_turns.proofs.RunTurns.{SendsRun, sends_own}

-- a wave that has come
pub come : (t : ℕ) (w : Wave) (rest ws : List Wave) → arrived t ws ≡ w ∷ rest → w.from < t
come t w rest [] e = absurd (cc)
come t w rest (v ∷ ws) e = elim (cases_lt v.from t) [
  | inl lt ↦
      let b : nat_lt v.from t ≡ true = search (rules, nat_tests) in
      let same : v ∷ ws ≡ w ∷ rest = rw b at e in
      let head : v ≡ w = cc in
      omega (arith, lt, ap (λ (x : Wave). x.from) head)
  | inr ge ↦ let b : nat_lt v.from t ≡ false = search (rules, nat_tests) in come t w rest ws (rw b at e)
]

module _ (n : CycleSettings) (begin : ℕ) (ws : List Wave) (some : 1 ≤ n.rise) where
  carrier_first : CarrierOverWaves n begin begin (arrived begin ws) carrier_start
  carrier_first = go (arrived begin ws) refl
    where
      go : (xs : List Wave) → arrived begin ws ≡ xs → CarrierOverWaves n begin begin xs carrier_start
      go [] e = silent
      go (w ∷ rest) e = elim (cases_lt begin w.till) [
        | inl on ↦ let before = come begin w rest ws e in rising {w = w} {e = 0} (omega (arith, on)) (omega (arith, before)) (omega (arith, some))
        | inr gone ↦ missed {w = w} gone
      ]

  receiver_first : (xs : List Wave) → ReceiverOverWaves n begin begin xs receive_start.class receive_start.burst
  receiver_first [] = none_heard
  receiver_first (w ∷ rest) = unheard {w = w} {ws = rest} (inr (inl (omega arith)))

-- offers change nothing of control
offers_control : (x : NodeState) (qs : List Queued) → (node_after_offers x qs).core.control ≡ x.core.control
offers_control x [] = refl
offers_control x (q ∷ qs) = offers_control (node_after_offer x q) qs

offers_path : (x : NodeState) (qs : List Queued) → (node_after_offers x qs).core.path ≡ x.core.path
offers_path x [] = refl
offers_path x (q ∷ qs) = offers_path (node_after_offer x q) qs

-- what is kept of a run says that the opportunity is the node's own
public_control : (n : CycleSettings) (begin t : ℕ) (ws : List Wave) (st : State) (stage : Stage) (part : ℕ) → ControlOverWaves SendsRun n begin t ws st stage part
    → ControlOverWaves HasOpportunity n begin t ws st stage part
public_control n begin t ws _ _ _ (recovers coord at low) = recovers coord at low
public_control n begin t ws _ _ _ (waits_for_beacon coord none) = waits_for_beacon coord none
public_control n begin t ws _ _ _ (hears_first_wave {w = w} {rest = rest} coord none at rose long within) = hears_first_wave {w = w} {rest = rest} coord none at rose long within
public_control n begin t ws _ _ _ (owns_beacon {a = a} {rest = rest} {left = left} {part = part} symbols coord at own flag from within time low left_is some) =
    owns_beacon {a = a} {rest = rest} {left = left} {part = part} symbols coord at own flag from within time low left_is some
public_control n begin t ws st stage part (owns_run {a = a} {rest = rest} {e = e} at own flag from within time sends) =
    owns_run {a = a} {rest = rest} {e = e} at own flag from within time (sends_own a.place e st stage part sends)
public_control n begin t ws _ _ _ (waits {a = a} {rest = rest} newest there state) = waits {a = a} {rest = rest} newest there state

-- a node that has an ID 255 has one that is not below the count
not_out : (ids : List ℕ) (count : ℕ) → ((x : ℕ) → has_id ids x ≡ true → x < count) → count ≤ 254 → is_out ids ≡ false
not_out [] count low high = refl
not_out (id ∷ ids) count low high = go (id == 255) refl
  where
    go : (b : Bool) → (id == 255) ≡ b → b ≡ false
    go false e = refl
    go true e = let below = low 255 (rw e refl) in absurd (omega (arith, below, high))

start_control : (set : NodeSet) → HasLowIds set → set.control.count ≤ 254 → (begin : ℕ) (ws : List Wave)
    → ControlOverWaves SendsRun (cycle_of set) begin begin ws (control_start set.control).state Quiet 0 × (is_active (control_start set.control).state ≡ false)
start_control set low high begin ws =
    go (coord set.control) refl
  where
    Start : State → Type 0
    Start st = ControlOverWaves SendsRun (cycle_of set) begin begin ws st Quiet 0 × (is_active st ≡ false)

    go : (b : Bool) → coord set.control ≡ b → Start (control_start set.control).state
    go true owns = rw (not_out set.control.ids set.control.count low high, owns) (recovers {q = 0} {part = 0} owns (omega arith) (omega arith), refl)
    go false owns =
        rw (not_out set.control.ids set.control.count low high, owns)
        (waits_for_beacon {part = 0} owns (λ w rest e own from. let before = come begin w rest ws e in absurd (omega (arith, before, from))), refl)

module _ (bounded : DrawsAreBounded picked_answer) (set : NodeSet) (is_set : IsNodeSet set) (low_ids : HasLowIds set) (room : ℕ) (draws : PickedDraws) (given : ℕ → NodeTick)
    (frames : (u : ℕ) → All (λ (q : Queued). IsFrame q.frame) (given u).offers) (begin now : ℕ) (ws : List Wave) (waves : AreWaves (cycle_of set) begin now ws)
    (hears : HearsWaves set room draws given begin now ws) where
  abbrev node : ℕ → NodeState
  node u = node_at (started set room draws given begin) given u

  abbrev offered : ℕ → NodeState
  offered u = node_after_offers (node u) (given u).offers

  abbrev Kept : ℕ → NodeState → Type 0
  Kept t x = NodeInvariant set is_set low_ids begin ws t x

  at_zero : node zero ≡ started set room draws given begin
  unfolding node_at
  at_zero = refl

  kept_start : Kept begin (started set room draws given begin)
  kept_start =
      let (control, asleep) = start_control set low_ids is_set.control.count_high begin ws in
      record {
        set_is = refl;
        rise_is = refl;
        fall_is = refl;
        carrier = carrier_first (cycle_of set) begin ws is_set.rise_low;
        receiver = receiver_first (cycle_of set) begin ws is_set.rise_low (arrived begin ws);
        no_hit = refl;
        control = control;
        status = sym asleep;
        place = Asleep;
        stands = start_stands set.control room draws;
        awake = inl refl;
      }

  kept_at : (u : ℕ) → begin + u ≤ now → Kept (begin + u) (node u)
  unfolding node_at
  kept_at zero within = let e : begin + zero ≡ begin = omega arith in rw e kept_start
  kept_at (suc u) within =
      let x = offered u in
      let h : Kept (begin + u) x = kept_offers set is_set low_ids begin ws (begin + u) (node u) (given u).offers (frames u) (kept_at u (omega (arith, within))) in
      let next = kept_next set is_set low_ids begin ws (begin + u) now (omega (arith, within)) waves x h bounded (omega arith) (omega (arith, within)) (given u).heard (hears u (omega (arith, within))) in
      let e : begin + suc u ≡ begin + u + 1 = omega arith in
      rw e next

  kept_offered : (u : ℕ) → begin + u ≤ now → Kept (begin + u) (offered u)
  kept_offered u within = kept_offers set is_set low_ids begin ws (begin + u) (node u) (given u).offers (frames u) (kept_at u within)

  -- ---- control goes on to take part

  abbrev active : ℕ → Bool
  active u = active_at picked_answer picked_after (started set room draws given begin).core (core_ticks (started set room draws given begin) given) u

  abbrev drives_at : (u : ℕ) → begin + u ≤ now → CoreDrive PickedDraws
  drives_at u within = drive set is_set low_ids begin ws (begin + u) now within waves (offered u) (kept_offered u within)

  active_drive : (u : ℕ) (within : begin + u ≤ now) → active u ≡ (drives_at u within).active
  active_drive u within = ap (λ (d : CoreDrive PickedDraws). d.active) (sym (driven_same (started set room draws given begin) given u (core_same (started set room draws given begin) given u)))

  active_next : (u : ℕ) → begin + u ≤ now → active u ≡ is_active (node (suc u)).core.control.state
  unfolding node_at
  active_next u within = active_drive u within ∙ active_is set is_set low_ids begin ws (begin + u) now within waves (offered u) (kept_offered u within)

  stays_one : (u : ℕ) → begin + u ≤ now → is_active (node u).core.control.state ≡ true → active u ≡ true
  stays_one u within on =
      active_drive u within
      ∙ (active_is set is_set low_ids begin ws (begin + u) now within waves (offered u) (kept_offered u within)
      ∙ stays_active set is_set low_ids begin ws (begin + u) now within waves (offered u) (kept_offered u within) (rw (offers_control (node u) (given u).offers) on))

  stays_after : (t k : ℕ) → begin + (t + k) ≤ now → active t ≡ true → active (t + k) ≡ true
  stays_after t zero within on = let e : t + zero ≡ t = omega arith in rw e on
  stays_after t (suc k) within on =
      let e : t + suc k ≡ suc (t + k) = omega arith in
      let before = stays_after t k (omega (arith, within)) on in
      rw e (stays_one (suc (t + k)) (omega (arith, within)) (sym (active_next (t + k) (omega (arith, within))) ∙ before))

  undisturbed_at : (u : ℕ) → begin + u ≤ now → IsUndisturbed picked_answer picked_after (started set room draws given begin).core (core_ticks (started set room draws given begin) given) u
  undisturbed_at u within = record {
    draws = bounded;
    frames = λ t low. frames t;
    no_hit = λ t low. (kept_at t (omega (arith, low, within))).no_hit;
    stays_active = λ t v low high on. later t v low high on;
  }
    where
      later : (t v : ℕ) → t ≤ v → v ≤ u → active t ≡ true → active v ≡ true
      later t v low high on =
          let e : t + (v - t) ≡ v = omega (arith, low) in
          let stays = stays_after t (v - t) (omega (arith, low, high, within)) on in
          rw e at stays

  pub turn_at : (u : ℕ) → begin + u ≡ now → NodeOverWaves set room draws given begin u ws
  turn_at u e =
      let within : begin + u ≤ now = omega (arith, e) in
      let h = kept_at u within in
      let o = kept_offered u within in
      let status : status_is_ok (offered u).status ≡ is_active (offered u).core.control.state = o.status in
      record {
        carrier = h.carrier;
        receiver = h.receiver;
        no_hit = h.no_hit;
        control = public_control (cycle_of set) begin (begin + u) ws _ _ _ h.control;
        drives = subst (λ (p : PathState). DriveOverWaves (cycle_of set) begin (begin + u) ws (ready p) (node_drive_at (started set room draws given begin) given u).quarter) (offers_path (node u) (given u).offers)
            (drive_of SendsRun (cycle_of set) begin (begin + u) ws (ready (offered u).core.path) _ _ _ _ (drive_is set is_set low_ids begin ws (begin + u) now within waves (offered u) o));
        ok = status_next (offered u).status (is_active (offered u).core.control.state) (drives_at u within).active status
            (λ on. active_is set is_set low_ids begin ws (begin + u) now within waves (offered u) o ∙ stays_active set is_set low_ids begin ws (begin + u) now within waves (offered u) o on)
            ∙ sym (active_drive u within);
        undisturbed = undisturbed_at u within;
      }
