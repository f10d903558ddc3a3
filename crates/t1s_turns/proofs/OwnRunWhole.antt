-- The own run as a whole: from the tick in which the opportunity begins, piece by piece, to its end.
use Rattle.std.proofs.Common.{◌≡◌, ℕ, zero, suc, ◌+◌, ◌*◌, ◌≤◌, Bool, true, false, IsTrue, refl, sym, ◌∙◌, ap, subst, arith}
use Rattle.t1s_pcs_tx.specs.State.{TxState, Stage, Quiet, Committing, is_closed}
use Rattle.t1s_pcs_tx.specs.TransmitTable.{at_boundary, report_of}
use Rattle.plca_control.specs.State.{ControlState}
use Rattle.plca_control.specs.ControlTable.{is_own}
use Rattle.plca_control.proofs.Rows.{own_from}
use Rattle.plca_data.specs.DataPathTable.{ready, begun}
use Rattle.t1s_node.specs.Core.{Core, control_in}
use Rattle.t1s_node.specs.Runs.{CoreTick, DrawsAreBounded, IsUndisturbed, found_at, left_at, drive_at, own_at}
use Rattle.t1s_node.proofs.CoreSteps.{At}
use Rattle.t1s_node.proofs.JointPlaces.{Place, Goes}
use Rattle.t1s_node.proofs.MacTurns.{count_of}
use Rattle.t1s_node.proofs.NoPiece.{Free}
use Rattle.t1s_node.proofs.RunPlaces.{RunAt, Since, ticks, run_at, after_tick, after_place}
use Rattle.t1s_node.proofs.View.{View, Away, InTransmit, InPause, view_of, own_of, view_own, Turns, own_begins}
use Rattle.t1s_turns.proofs.OwnRunTx.{TxAt, ended_away}
use Rattle.t1s_turns.proofs.OwnRunTicks.{own_is, control_left, turns_at, TxFound, TxLeft, tx_leaves}
use Rattle.t1s_turns.proofs.OwnRunLead.{LeadWay, pause_way, Begins, begins_lead, begins_pop, begins, GoesOn, goes_on, goes_on_after, budget, budget_falls, sync_quarter}
use Rattle.t1s_turns.proofs.OwnRunSteps.{Silent, LeadAt, LeadPops, LeadEnd, pops_at, lapses_at, lead_on, own_state, tx_kept, control_kept, tx_found_next, at_committing, at_quiet, part_next, drives_more, quarter_left, silent_tick}
use Rattle.t1s_turns.proofs.OwnRunClose.{AtClose, closes_here, closed_view}
use Rattle.t1s_turns.proofs.OwnRunParts.{OwnPart, later, no_part, lapsed_part, long_enough, pop, stands, awake, fits, with_piece}

-- the opportunity begins from outside, where a frame is ready
own_starts : (ready sending closed : Bool) (v v' : View) → Turns ready sending closed v v' → own_of v' ≡ true → own_of v ≡ false → (v ≡ Away) × (ready ≡ true)
own_starts ready sending closed _ _ (own_begins e) own outside = (refl, e)
own_starts ready sending closed _ _ _ own outside = absurd (cc)

quiet_boundary : (v : View) (s : TxState) → TxAt v s.stage s.part → v ≡ Away → at_boundary s ≡ true
quiet_boundary v s tx away = let quiet : s.stage ≡ Quiet = at_quiet v s.stage s.part tx away in rw quiet refl

module _ {D : Type 0} (answer : D → ℕ → ℕ) (after : D → D) (bounded : DrawsAreBounded answer) (start : Core D) (given : ℕ → CoreTick) (end : ℕ)
    (calm : IsUndisturbed answer after start given end) where
  abbrev Run : ℕ → Type 0
  Run t = RunAt answer after bounded start given end calm t

  abbrev found : ℕ → Core D
  found t = found_at answer after start given t

  abbrev left : ℕ → Core D
  left t = left_at answer after start given t

  abbrev Part : ℕ → ℕ → ℕ → Type 0
  Part from few most = OwnPart answer after bounded start given end calm from 0 few most

  -- the transmitter in every tick
  pub tx_found : Run zero → TxFound answer after start given zero → (t : ℕ) → t ≤ end → TxFound answer after start given t
  tx_found begin first zero within = first
  tx_found begin first (suc t) within =
      let run = run_at answer after bounded start given end calm begin t (omega arith) in
      let tick = ticks answer after bounded start given end calm t (omega arith) run in
      tx_found_next answer after bounded start given end calm t (tx_leaves answer after start given t run.place tick.found (tx_found begin first t (omega arith)))

  -- a lead begins
  lead_from : (from b : ℕ) → own_at answer after start given from ≡ true → (left from).tx.stage ≡ Committing → (left from).tx.part ≡ 0 → budget (left from).control.state ≡ b
      → LeadAt answer after bounded start given end calm from b (suc from)
  lead_from from b own stage part budgeted = record {
    y = 0;
    p = 0;
    low = omega arith;
    time = omega arith;
    stage = ap (λ (s : TxState). s.stage) (tx_kept answer after bounded start given end calm from) ∙ stage;
    part = ap (λ (s : TxState). s.part) (tx_kept answer after bounded start given end calm from) ∙ part;
    drives = drives_more answer after bounded start given end calm from 0 from 0 0 (omega arith) (omega arith) refl (quarter_left answer after bounded start given end calm from ∙ sync_quarter (left from).tx 0 stage part);
    quiet = λ u low high. (let same : u ≡ from = omega (arith, low, high) in subst (λ t. Silent answer after bounded start given end calm t) (sym same) now);
    own = ap (λ (c : ControlState). is_own c.state) (control_kept answer after bounded start given end calm from) ∙ (sym (own_state answer after bounded start given end calm from) ∙ own);
    budgeted = ap (λ (c : ControlState). budget c.state) (control_kept answer after bounded start given end calm from) ∙ budgeted;
  }
    where
      now : Silent answer after bounded start given end calm from
      now = silent_tick answer after bounded start given end calm from (sym (own_is answer after start given from) ∙ own) stage

  -- a piece with its lead, and what comes after its closer
  abbrev Later : ℕ → Type 0
  Later b = (t : ℕ) → AtClose answer after bounded start given end calm t b → t + b * 12384 + 136 ≤ end → Part t b (t + b * 12384 + 136)

  piece_on : (from b most : ℕ) (lead : LeadPops answer after bounded start given end calm from b most) → most ≤ from + 132 → from + (b + 1) * 12384 + 136 ≤ end
      → IsTrue (at_boundary (found from).tx) → Later b
      → OwnPart answer after bounded start given end calm from 1 (suc b) (suc (lead.first + (4 * count_of lead.f + 7)) + b * 12384 + 136) × (suc (lead.first + (4 * count_of lead.f + 7)) + b * 12384 + 136 ≤ from + (b + 1) * 12384 + 136)
  piece_on from b most lead near within opens again =
      let room : most + 12248 ≤ end = omega (arith, near, within) in
      let count = long_enough answer after bounded start given end calm from b most lead near room opens in
      let at_most : suc (lead.first + (4 * count_of lead.f + 7)) + b * 12384 + 136 ≤ from + (b + 1) * 12384 + 136 = omega (arith, lead.near, near, count.1) in (
        with_piece answer after bounded start given end calm from b most lead near room opens b (suc (lead.first + (4 * count_of lead.f + 7)) + b * 12384 + 136)
            (again (suc (lead.first + (4 * count_of lead.f + 7)))
            (closes_here answer after bounded start given end calm lead.f lead.first b (pop answer after bounded start given end calm from b most lead near room opens) (stands answer after bounded start given end calm from b most lead near room opens)
            (awake answer after bounded start given end calm from b most lead near room opens) (fits answer after bounded start given end calm from b most lead near room opens) lead.budgeted)
            (omega (arith, at_most, within))),
        at_most,
      )

  -- one opportunity more, after a closer
  module _ (begin : Run zero) (first_tx : TxFound answer after start given zero) where
    after_close : (t b : ℕ) (at : AtClose answer after bounded start given end calm t b) → t + b * 12384 + 136 ≤ end
        → ((b' : ℕ) → b ≡ suc b' → Later b') → (own : Bool) → own_at answer after start given t ≡ own → Part t b (t + b * 12384 + 136)
    after_close t b at within again false out =
        let tick = ticks answer after bounded start given end calm t (omega (arith, within)) at.run in
        let joint = subst (λ (p : Place). At p (found t)) at.place tick.found.joint in
        let view : view_of (found t).control.state ≡ InTransmit = closed_view at.f _ _ _ _ _ _ _ _ _ joint in
        let turns = turns_at answer after start given t at.run.place tick.found in
        let gone : view_of (left t).control.state ≡ Away =
        ended_away (ready (found t).path) (begun (found t).path) (is_closed (report_of (found t).tx)) (view_of (found t).control.state) (view_of (left t).control.state) turns (ap own_of view) (sym (own_is answer after start given t) ∙ out) in
        let tx = tx_leaves answer after start given t at.run.place tick.found (tx_found begin first_tx t (omega (arith, within))) in
        later answer after bounded start given end calm t 0 0 t b (t + b * 12384 + 136) (omega arith) (omega arith)
        (no_part answer after bounded start given end calm t out (at_quiet (view_of (left t).control.state) (left t).tx.stage (left t).tx.part tx gone))
    after_close t b at within again true own =
        let tick = ticks answer after bounded start given end calm t (omega (arith, within)) at.run in
        let next : Run (suc t) = after_tick answer after bounded start given end calm t at.run tick in
        let same : tick.step.to ≡ next.place = sym (after_place answer after bounded start given end calm t at.run tick) in
        let joint = subst (λ (p : Place). At p (found t)) at.place tick.found.joint in
        let view : view_of (found t).control.state ≡ InTransmit = closed_view at.f _ _ _ _ _ _ _ _ _ joint in
        let goes = subst (λ (p : Place). Goes p (drive_at answer after start given t).step.note tick.step.popped tick.step.to) at.place tick.step.goes in
        let turns = turns_at answer after start given t at.run.place tick.found in
        let owned : own_of (view_of (left t).control.state) ≡ true = sym (own_is answer after start given t) ∙ own in
        let tx = tx_leaves answer after start given t at.run.place tick.found (tx_found begin first_tx t (omega (arith, within))) in
        let onward = goes_on_after at.f (ready (found t).path) (begun (found t).path) (is_closed (report_of (found t).tx)) tick.step.to _ _ _ _ _ _ _ _ _ _ _ _ _ _ _ _ _ _ _ _
        joint at.closed goes tick.step.stands.joint turns owned in
        pause_on next view tx owned tick.step.to _ _ _ onward same refl refl refl
      where
        lead_ended : (b' : ℕ) → b ≡ suc b' → LeadEnd answer after bounded start given end calm true t b' (t + 132) → Part t b (t + b * 12384 + 136)
        lead_ended b' fewer (pops_at lead) =
            let (part, near) = piece_on t b' (t + 132) lead (omega arith) (omega (arith, within, fewer)) at.boundary (again b' fewer) in
            later answer after bounded start given end calm t 1 (suc b') _ b (t + b * 12384 + 136) (omega (arith, fewer)) (omega (arith, near, fewer)) part
        lead_ended b' fewer (lapses_at may lapse) =
            later answer after bounded start given end calm t 0 0 (t + 132) b (t + b * 12384 + 136) (omega arith) (omega (arith, fewer))
            (lapsed_part answer after bounded start given end calm t (t + 132) (omega arith) lapse)

        pause_on : (next : Run (suc t)) → view_of (found t).control.state ≡ InTransmit → TxLeft answer after start given t → own_of (view_of (left t).control.state) ≡ true
            → (to : Place) (v : View) (stage : Stage) (part : ℕ) → GoesOn to v stage part → to ≡ next.place → v ≡ view_of (left t).control.state → stage ≡ (left t).tx.stage → part ≡ (left t).tx.part
            → Part t b (t + b * 12384 + 136)
        pause_on next view tx owned _ _ stage part (goes_on {r = r} free) place v_is stage_is part_is =
            let committing : (left t).tx.stage ≡ Committing =
            at_committing (view_of (left t).control.state) (left t).tx.stage (left t).tx.part r part tx owned (subst (λ st. Free st part r) stage_is free) in
            let none : (left t).tx.part ≡ 0 = part_next answer after bounded start given end calm t true at.boundary in
            let state = control_left answer after start given t in
            let b' : ℕ = budget (left t).control.state in
            let falls : budget (found t).control.state ≡ suc b' =
            budget_falls (found t).control.set (found t).control.state (control_in (given t).reading (found t)) 128 view (ap view_of (sym state) ∙ sym v_is) ∙ ap (λ st. suc (budget st)) (sym state) in
            let fewer : b ≡ suc b' = sym at.budgeted ∙ falls in
            let lead = lead_from t b' own committing none refl in
            let shown : InPause 128 ≡ view_of (found (suc t)).control.state = v_is ∙ ap (λ (c : ControlState). view_of c.state) (sym (control_kept answer after bounded start given end calm t)) in
            let way = subst (λ (v : View). LeadWay true 131 next.place v) shown (subst (λ (p : Place). LeadWay true 131 p (InPause 128)) place (pause_way {m = 128} refl (omega arith))) in
            let over = lead_on answer after bounded start given end calm true t b' (t + 132) 131 (suc t) next (tx_found begin first_tx (suc t) (omega (arith, within, fewer))) lead way (omega arith) (omega (arith, within, fewer)) in
            lead_ended b' fewer over

    pub all_after : (b : ℕ) → Later b
    all_after zero t at within = after_close t 0 at within (λ b' e. absurd (omega (arith, e))) (own_at answer after start given t) refl
    all_after (suc n) t at within =
        after_close t (suc n) at within (λ b' e. (let same : n ≡ b' = omega (arith, e) in subst Later same (all_after n))) (own_at answer after start given t) refl

    -- the opportunity begins
    abbrev pub Whole : ℕ → ℕ → Type 0
    Whole t burst = (most : ℕ) × OwnPart answer after bounded start given end calm t 1 (suc burst) most × (most ≤ t + (burst + 1) * 12384 + 136)

    pub whole_run : (t burst : ℕ) → t + (burst + 1) * 12384 + 136 ≤ end → own_at answer after start given t ≡ true → own_of (view_of (found t).control.state) ≡ false → (found t).control.set.burst ≡ burst
        → Whole t burst
    whole_run t burst within own outside set_burst =
        let run = run_at answer after bounded start given end calm begin t (omega (arith, within)) in
        let tick = ticks answer after bounded start given end calm t (omega (arith, within)) run in
        let next : Run (suc t) = after_tick answer after bounded start given end calm t run tick in
        let same : tick.step.to ≡ next.place = sym (after_place answer after bounded start given end calm t run tick) in
        let owned : own_of (view_of (left t).control.state) ≡ true = sym (own_is answer after start given t) ∙ own in
        let starts = own_starts (ready (found t).path) (begun (found t).path) (is_closed (report_of (found t).tx)) (view_of (found t).control.state) (view_of (left t).control.state) (turns_at answer after start given t run.place tick.found) owned outside in
        let tx_here = tx_found begin first_tx t (omega (arith, within)) in
        let tx = tx_leaves answer after start given t run.place tick.found tx_here in
        let edge = quiet_boundary (view_of (found t).control.state) (found t).tx tx_here starts.0 in
        let onward = begins run.place tick.step.to _ _ _ _ _ _ _ _ _ _ _ _ _ _ _ _ _ _ _ _ tick.found.joint starts.1 tick.step.goes tick.step.stands.joint owned in
        first_on next tx edge owned tick.step.to _ _ onward same refl refl
      where
        budgeted : budget (left t).control.state ≡ burst
        budgeted =
            let away = view_own (found t).control.state ∙ outside in
            let next_own = sym (ap is_own (control_left answer after start given t)) ∙ (sym (own_state answer after bounded start given end calm t) ∙ own) in
            ap budget (control_left answer after start given t ∙ (own_from (found t).control.set (control_in (given t).reading (found t)) (found t).control.state away next_own).1.1) ∙ set_burst

        lead_whole : IsTrue (at_boundary (found t).tx) → LeadEnd answer after bounded start given end calm false t burst (t + 101) → Whole t burst
        lead_whole edge (pops_at lead) =
            let (part, near) = piece_on t burst (t + 101) lead (omega arith) within edge (all_after burst) in
            (suc (lead.first + (4 * count_of lead.f + 7)) + burst * 12384 + 136, part, near)
        lead_whole edge (lapses_at may lapse) = absurd (cc)

        first_on : (next : Run (suc t)) → TxLeft answer after start given t → IsTrue (at_boundary (found t).tx) → own_of (view_of (left t).control.state) ≡ true
            → (to : Place) (stage : Stage) (part : ℕ) → Begins to stage part → to ≡ next.place → stage ≡ (left t).tx.stage → part ≡ (left t).tx.part → Whole t burst
        first_on next tx edge owned to stage part (begins_lead {r = r} way free) place stage_is part_is =
            let committing : (left t).tx.stage ≡ Committing =
            at_committing (view_of (left t).control.state) (left t).tx.stage (left t).tx.part r part tx owned (subst (λ st. Free st part r) stage_is free) in
            let none : (left t).tx.part ≡ 0 = part_next answer after bounded start given end calm t true edge in
            let lead = lead_from t burst own committing none budgeted in
            let on_way = subst (λ (p : Place). LeadWay false 100 p (view_of (found (suc t)).control.state)) place (way (view_of (found (suc t)).control.state)) in
            lead_whole edge (lead_on answer after bounded start given end calm false t burst (t + 101) 100 (suc t) next (tx_found begin first_tx (suc t) (omega (arith, within))) lead on_way (omega arith) (omega (arith, within)))
        first_on next tx edge owned _ stage part (begins_pop {f = f}) place stage_is part_is =
            lead_whole edge (pops_at (record {
              a = 0;
              first = t;
              is = omega arith;
              near = omega arith;
              f = f;
              began = subst (λ (p : Place). Since answer after bounded start given end calm (suc t) p) (sym place) next.since;
              drives = refl;
              boundary = edge;
              quiet = λ u low high. absurd (omega (arith, low, high));
              own = own;
              budgeted = budgeted;
            }))
