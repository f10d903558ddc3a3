-- A lead of an own run, tick by tick along a run of the core.
use Rattle.std.proofs.Common.{◌≡◌, ℕ, zero, suc, ◌+◌, ◌*◌, ◌==◌, ◌<◌, ◌≤◌, ◌⊎◌, inl, inr, Bool, true, false, IsTrue, if◌then◌else◌, None, [], ◌∷◌, ◌++◌, replicate, refl, sym, ◌∙◌, ap, subst, arith, append-nil}
use Rattle.std.proofs.lemmas.Bool.{cases_lt, cases_eq, false≢true}
use Rattle.std.proofs.lemmas.Bool.Decides.{nat_tests}
use Rattle.t1s_symbols.specs.declared.Symbol.TheVariants.{J}
use Rattle.t1s_ring.specs.declared.queued.Queued.{Queued}
use Rattle.t1s_pcs_tx.specs.State.{TxState, Stage, Quiet, Committing, is_closed, quarter_of, first_h_begins}
use Rattle.t1s_pcs_tx.specs.TransmitTable.{at_boundary, report_of}
use Rattle.t1s_pcs_tx.specs.Runs.{all_quarters}
use Rattle.plca_control.specs.State.{ControlState}
use Rattle.plca_control.specs.ControlTable.{is_own}
use Rattle.plca_data.specs.DataPathTable.{ready, begun, ended, bad}
use Rattle.t1s_mac.specs.State.{number_of}
use Rattle.t1s_node.specs.Core.{Core, control_in}
use Rattle.t1s_node.specs.Runs.{CoreTick, DrawsAreBounded, IsUndisturbed, found_at, left_at, drive_at, own_at, leaves_at}
use Rattle.t1s_node.proofs.FrameWays.{leaves_is}
use Rattle.t1s_node.proofs.JointPlaces.{Place}
use Rattle.t1s_node.proofs.NoPiece.{Free}
use Rattle.t1s_node.proofs.RunPlaces.{RunAt, Began, Since, ticks, after_tick, after_place}
use Rattle.t1s_node.proofs.View.{View, Away, view_of, own_of, view_own}
use Rattle.t1s_turns.specs.OwnRun.{quarters_from}
use Rattle.t1s_turns.proofs.TransmitterTurns.{drives_state}
use Rattle.t1s_turns.proofs.OwnRunTx.{TxAt, silent, in_beacon, in_own, late_free}
use Rattle.t1s_turns.proofs.OwnRunTicks.{tx_in, tx_left, quarter_is, own_is, control_left, next_keep, turns_at, TxFound, TxLeft, tx_leaves}
use Rattle.t1s_turns.proofs.OwnRunPiece.{quarters_from-append}
use Rattle.t1s_turns.proofs.OwnRunLead.{LeadWay, LeadStep, nearer, pops, lapses, lead_step, boundary_next, inner_next, inner_stage, budget, budget_stays, syncs, sync_at, syncs_more, whole_next, sync_quarter, commit_boundary}

no_first_h : (s : TxState) → s.stage ≡ Committing → first_h_begins s ≡ false
no_first_h s e = rw e refl

not_closed : (s : TxState) → s.stage ≡ Committing → is_closed (report_of s) ≡ false
not_closed s e = rw e refl

pub at_committing : (v : View) (stage : Stage) (part r p : ℕ) → TxAt v stage part → own_of v ≡ true → Free stage p r → stage ≡ Committing
at_committing _ _ part r p silent own free = absurd (false≢true own)
at_committing _ _ part r p (in_beacon m low at) own free = absurd (false≢true own)
at_committing v stage part r p (in_own e is driving) own free = late_free driving.y stage p r driving.late free

pub at_quiet : (v : View) (stage : Stage) (part : ℕ) → TxAt v stage part → v ≡ Away → stage ≡ Quiet
at_quiet _ _ part silent e = refl
at_quiet _ _ part (in_beacon m low at) e = absurd (cc)
at_quiet v stage part (in_own n is driving) e = let own : own_of v ≡ false = ap own_of e in absurd (false≢true (sym own ∙ is))

module _ {D : Type 0} (answer : D → ℕ → ℕ) (after : D → D) (bounded : DrawsAreBounded answer) (start : Core D) (given : ℕ → CoreTick) (end : ℕ)
    (calm : IsUndisturbed answer after start given end) where
  abbrev Run : ℕ → Type 0
  Run t = RunAt answer after bounded start given end calm t

  abbrev found : ℕ → Core D
  found t = found_at answer after start given t

  abbrev left : ℕ → Core D
  left t = left_at answer after start given t

  -- the opportunity is the node's own, and no frame leaves
  pub record Silent (t : ℕ) : Type 0 where
    pub own : own_at answer after start given t ≡ true
    pub none : leaves_at answer after start given t ≡ None

  -- a lead that began with tick from, as tick t finds it
  pub record LeadAt (from b t : ℕ) : Type 0 where
    pub y : ℕ
    pub p : ℕ
    pub low : p ≤ 3
    pub time : t ≡ from + 4 * y + p + 1
    pub stage : (found t).tx.stage ≡ Committing
    pub part : (found t).tx.part ≡ p
    pub drives : quarters_from answer after start given from (4 * y + p + 1) ≡ syncs y (p + 1)
    pub quiet : (u : ℕ) → from ≤ u → u < t → Silent u
    pub own : is_own (found t).control.state ≡ true
    pub budgeted : budget (found t).control.state ≡ b

  -- its first pop
  pub record LeadPops (from b most : ℕ) : Type 0 where
    pub a : ℕ
    pub first : ℕ
    pub is : from + 4 * a ≡ first
    pub near : first ≤ most
    pub f : Queued
    pub began : Began answer after bounded start given end calm f 0 (suc first)
    pub drives : quarters_from answer after start given from (4 * a) ≡ all_quarters (replicate a J)
    pub boundary : IsTrue (at_boundary (found first).tx)
    pub quiet : (u : ℕ) → from ≤ u → u < first → Silent u
    pub own : own_at answer after start given first ≡ true
    pub budgeted : budget (left first).control.state ≡ b

  -- or the end of the opportunity
  pub record LeadLapses (from most : ℕ) : Type 0 where
    pub a : ℕ
    pub over : ℕ
    pub is : from + 4 * a ≡ over
    pub near : over ≤ most
    pub drives : quarters_from answer after start given from (4 * a) ≡ all_quarters (replicate a J)
    pub quiet : (u : ℕ) → from ≤ u → u < over → Silent u
    pub out : own_at answer after start given over ≡ false
    pub stage : (left over).tx.stage ≡ Quiet

  pub data LeadEnd (pausing : Bool) (from b most : ℕ) : Type 0 where
    pops_at : LeadPops from b most → LeadEnd pausing from b most
    lapses_at : pausing ≡ true → LeadLapses from most → LeadEnd pausing from b most

  pub own_state : (t : ℕ) → own_at answer after start given t ≡ is_own (left t).control.state
  own_state t = own_is answer after start given t ∙ sym (view_own (left t).control.state)

  pub quarter_left : (t : ℕ) → (drive_at answer after start given t).quarter ≡ quarter_of (left t).tx
  quarter_left t =
      quarter_is answer after start given t ∙ drives_state (found t).tx.part (found t).tx.past (ended (found t).path) (bad (found t).path) (found t).line (found t).tx.stage (drive_at answer after start given t).cmd
      ∙ ap quarter_of (sym (tx_left answer after start given t))

  pub silent_tick : (t : ℕ) → own_of (view_of (left t).control.state) ≡ true → (left t).tx.stage ≡ Committing → Silent t
  silent_tick t own stage = record {
    own = own_is answer after start given t ∙ own;
    none = leaves_is answer after bounded start given end calm t ∙ ap (λ b. if b then number_of (left t).mac else None) (no_first_h (left t).tx stage);
  }

  pub more_quiet : (from t : ℕ) → ((u : ℕ) → from ≤ u → u < t → Silent u) → Silent t → (u : ℕ) → from ≤ u → u < suc t → Silent u
  more_quiet from t earlier now u low high = elim (cases_eq u t) [ inl same ↦ subst Silent (sym same) now | inr other ↦ earlier u low (omega arith) ]

  pub tx_kept : (t : ℕ) → (found (suc t)).tx ≡ (left t).tx
  tx_kept t = next_keep answer after start given (λ _ tx _ _. tx ≡ (left t).tx) t refl

  pub control_kept : (t : ℕ) → (found (suc t)).control ≡ (left t).control
  control_kept t = next_keep answer after start given (λ c _ _ _. c ≡ (left t).control) t refl

  pub tx_found_next : (t : ℕ) → TxLeft answer after start given t → TxFound answer after start given (suc t)
  tx_found_next t h = next_keep answer after start given (λ c tx _ _. TxAt (view_of c.state) tx.stage tx.part) t h

  pub drives_more : (from n t y p : ℕ) → from + n ≡ t → p ≤ 3 → quarters_from answer after start given from n ≡ syncs y p → (drive_at answer after start given t).quarter ≡ sync_at p
      → quarters_from answer after start given from (n + 1) ≡ syncs y (p + 1)
  drives_more from n t y p is low earlier now =
      quarters_from-append answer after start given n 1 from
      ∙ ap (λ qs. qs ++ quarters_from answer after start given (from + n) 1) earlier
      ∙ ap (λ u. syncs y p ++ quarters_from answer after start given u 1) is
      ∙ ap (λ q. syncs y p ++ q ∷ []) now
      ∙ syncs_more y p low

  pub budget_kept : (t : ℕ) → is_own (found t).control.state ≡ true → own_at answer after start given t ≡ true → is_closed (report_of (found t).tx) ≡ false
      → budget (left t).control.state ≡ budget (found t).control.state
  budget_kept t own next going =
      let state = control_left answer after start given t in
      let still = sym (ap is_own state) ∙ (sym (own_state t) ∙ next) in
      ap budget state ∙ budget_stays (found t).control.set (found t).control.state (control_in (given t).reading (found t)) own still going

  pub part_next : (t : ℕ) (b : Bool) → at_boundary (found t).tx ≡ b → (left t).tx.part ≡ (if b then 0 else (found t).tx.part + 1)
  part_next t true e = ap (λ (s : TxState). s.part) (tx_left answer after start given t) ∙ boundary_next (found t).tx (tx_in answer after start given t) (found t).line e
  part_next t false e = ap (λ (s : TxState). s.part) (tx_left answer after start given t) ∙ inner_next (found t).tx (tx_in answer after start given t) (found t).line e

  at_end_of : (from b t : ℕ) (at : LeadAt from b t) → (at_boundary (found t).tx ≡ (at.p == 3))
  at_end_of from b t at = commit_boundary (found t).tx at.stage ∙ ap (λ p. p == 3) at.part

  -- a tick of a lead that goes on
  next_at : (from b t : ℕ) → LeadAt from b t → own_of (view_of (left t).control.state) ≡ true → (left t).tx.stage ≡ Committing → LeadAt from b (suc t)
  next_at from b t at own stage =
      let owned = own_is answer after start given t ∙ own in
      let here = silent_tick t own stage in
      let kept = tx_kept t in
      let same_budget : budget (found (suc t)).control.state ≡ b =
      ap (λ (c : ControlState). budget c.state) (control_kept t) ∙ (budget_kept t at.own owned (not_closed (found t).tx at.stage) ∙ at.budgeted) in
      let still : is_own (found (suc t)).control.state ≡ true = ap (λ (c : ControlState). is_own c.state) (control_kept t) ∙ (sym (own_state t) ∙ owned) in
      elim (cases_lt at.p 3) [
        | inl less ↦
            let inner : at_boundary (found t).tx ≡ false = at_end_of from b t at ∙ grind (arith, nat_tests, less) in
            let part : (left t).tx.part ≡ at.p + 1 = part_next t false inner ∙ ap (λ p. p + 1) at.part in
            record {
              y = at.y;
              p = at.p + 1;
              low = omega (arith, less);
              time = omega (arith, at.time);
              stage = ap (λ (s : TxState). s.stage) kept ∙ stage;
              part = ap (λ (s : TxState). s.part) kept ∙ part;
              drives =
                  let n_is : 4 * at.y + (at.p + 1) + 1 ≡ (4 * at.y + at.p + 1) + 1 = omega arith in
                  ap (λ n. quarters_from answer after start given from n) n_is
                  ∙ drives_more from (4 * at.y + at.p + 1) t at.y (at.p + 1) (omega (arith, at.time)) (omega (arith, less)) at.drives (quarter_left t ∙ sync_quarter (left t).tx (at.p + 1) stage part);
              quiet = more_quiet from t at.quiet here;
              own = still;
              budgeted = same_budget;
            }
        | inr more ↦
            let three : at.p ≡ 3 = omega (arith, more, at.low) in
            let edge : at_boundary (found t).tx ≡ true = at_end_of from b t at ∙ grind (arith, nat_tests, three) in
            let part : (left t).tx.part ≡ 0 = part_next t true edge in
            let earlier : quarters_from answer after start given from (4 * at.y + at.p + 1) ≡ syncs (suc at.y) 0 =
            at.drives ∙ (ap (λ p. syncs at.y (p + 1)) three ∙ whole_next at.y) in
            record {
              y = at.y + 1;
              p = 0;
              low = omega arith;
              time = omega (arith, at.time, three);
              stage = ap (λ (s : TxState). s.stage) kept ∙ stage;
              part = ap (λ (s : TxState). s.part) kept ∙ part;
              drives =
                  let n_is : 4 * (at.y + 1) + 0 + 1 ≡ (4 * at.y + at.p + 1) + 1 = omega (arith, three) in
                  let y_is : suc at.y ≡ at.y + 1 = omega arith in
                  ap (λ n. quarters_from answer after start given from n) n_is
                  ∙ drives_more from (4 * at.y + at.p + 1) t (suc at.y) 0 (omega (arith, at.time)) (omega arith) earlier (quarter_left t ∙ sync_quarter (left t).tx 0 stage part)
                  ∙ ap (λ y. syncs y 1) y_is;
              quiet = more_quiet from t at.quiet here;
              own = still;
              budgeted = same_budget;
            }
      ]

  -- a tick in which the symbol of a lead ends
  ended_part : (from b t : ℕ) (at : LeadAt from b t) → ((left t).tx.part ≡ 0) ⊎ ((left t).tx.stage ≡ Quiet) → at.p ≡ 3
  ended_part from b t at over = elim (cases_lt at.p 3) [
    | inl less ↦
        let inner : at_boundary (found t).tx ≡ false = at_end_of from b t at ∙ grind (arith, nat_tests, less) in
        let part : (left t).tx.part ≡ (found t).tx.part + 1 = part_next t false inner in
        let stage : (left t).tx.stage ≡ Committing =
        ap (λ (s : TxState). s.stage) (tx_left answer after start given t) ∙ (inner_stage (found t).tx (tx_in answer after start given t) (found t).line inner ∙ at.stage) in
        elim over [ inl none ↦ absurd (omega (arith, part, none)) | inr quiet ↦ absurd (cc) ]
    | inr more ↦ omega (arith, more, at.low)
  ]

  whole_lead : (from b t : ℕ) (at : LeadAt from b t) → at.p ≡ 3 → quarters_from answer after start given from (4 * (at.y + 1)) ≡ all_quarters (replicate (at.y + 1) J)
  whole_lead from b t at three =
      let n_is : 4 * (at.y + 1) ≡ 4 * at.y + at.p + 1 = omega (arith, three) in
      let y_is : suc at.y ≡ at.y + 1 = omega arith in
      ap (λ n. quarters_from answer after start given from n) n_is ∙ at.drives
      ∙ (ap (λ p. syncs at.y (p + 1)) three ∙ whole_next at.y) ∙ append-nil (all_quarters (replicate (suc at.y) J)) ∙ ap (λ y. all_quarters (replicate y J)) y_is

  lead_now : (pausing : Bool) (from b most n t : ℕ) (to : Place) (v : View) (stage : Stage) (part : ℕ) → LeadAt from b t → t + n ≤ most
      → v ≡ view_of (left t).control.state → stage ≡ (left t).tx.stage → part ≡ (left t).tx.part → TxLeft answer after start given t
      → Since answer after bounded start given end calm (suc t) to → LeadStep pausing n to v stage part
      → ((m : ℕ) → n ≡ m + 1 → LeadWay pausing m to v → LeadAt from b (suc t) → LeadEnd pausing from b most) → LeadEnd pausing from b most
  lead_now pausing from b most n t to v stage part at low v_is stage_is part_is tx since (nearer {m = m} {r = r} less way own free) again =
      let own_here = ap own_of (sym v_is) ∙ own in
      let committing : (left t).tx.stage ≡ Committing = at_committing (view_of (left t).control.state) (left t).tx.stage (left t).tx.part r part tx own_here (subst (λ st. Free st part r) stage_is free) in
      again m less way (next_at from b t at own_here committing)
  lead_now pausing from b most n t _ v stage part at low v_is stage_is part_is tx since (pops {f = f} own none) again =
      let three = ended_part from b t at (inl (sym part_is ∙ none)) in
      let edge : at_boundary (found t).tx ≡ true = at_end_of from b t at ∙ grind (arith, nat_tests, three) in
      let owned = own_is answer after start given t ∙ (ap own_of (sym v_is) ∙ own) in
      pops_at (record {
        a = at.y + 1;
        first = t;
        is = omega (arith, at.time, three);
        near = omega (arith, low);
        f = f;
        began = since;
        drives = whole_lead from b t at three;
        boundary = edge;
        quiet = at.quiet;
        own = owned;
        budgeted = budget_kept t at.own owned (not_closed (found t).tx at.stage) ∙ at.budgeted;
      })
  lead_now pausing from b most n t to v stage part at low v_is stage_is part_is tx since (lapses may away) again =
      let gone : view_of (left t).control.state ≡ Away = sym v_is ∙ away in
      let quiet : (left t).tx.stage ≡ Quiet = at_quiet (view_of (left t).control.state) (left t).tx.stage (left t).tx.part tx gone in
      let three = ended_part from b t at (inr quiet) in
      lapses_at may (record {
        a = at.y + 1;
        over = t;
        is = omega (arith, at.time, three);
        near = omega (arith, low);
        drives = whole_lead from b t at three;
        quiet = at.quiet;
        out = own_is answer after start given t ∙ ap own_of gone;
        stage = quiet;
      })

  -- one tick, and what comes after it
  lead_tick : (pausing : Bool) (from b most n t : ℕ) (run : Run t) → TxFound answer after start given t → LeadAt from b t → LeadWay pausing n run.place (view_of (found t).control.state)
      → t + n ≤ most → most ≤ end
      → ((next : Run (suc t)) → TxFound answer after start given (suc t) → (m : ℕ) → n ≡ m + 1 → LeadWay pausing m next.place (view_of (found (suc t)).control.state) → LeadAt from b (suc t) → LeadEnd pausing from b most)
      → LeadEnd pausing from b most
  lead_tick pausing from b most n t run tx at way low within again =
      let tick = ticks answer after bounded start given end calm t (omega (arith, low, within)) run in
      let next : Run (suc t) = after_tick answer after bounded start given end calm t run tick in
      let same : tick.step.to ≡ next.place = sym (after_place answer after bounded start given end calm t run tick) in
      let tx_left_at = tx_leaves answer after start given t run.place tick.found tx in
      let step = lead_step pausing (ready (found t).path) (begun (found t).path) (is_closed (report_of (found t).tx)) n run.place tick.step.to _ _ _ _ _ _ _ _ _ _ _ _ _ _ _ _ _ _ _ _
      way tick.found.joint refl tick.step.goes tick.step.stands.joint (turns_at answer after start given t run.place tick.found) in
      let since = subst (λ (p : Place). Since answer after bounded start given end calm (suc t) p) (sym same) next.since in
      let view : view_of (left t).control.state ≡ view_of (found (suc t)).control.state = ap (λ (c : ControlState). view_of c.state) (sym (control_kept t)) in
      lead_now pausing from b most n t tick.step.to _ _ _ at low refl refl refl tx_left_at since step
      (λ m less way' at'. again next (tx_found_next t tx_left_at) m less
      (subst (λ (v : View). LeadWay pausing m next.place v) view (subst (λ (p : Place). LeadWay pausing m p (view_of (left t).control.state)) same way')) at')

  pub lead_on : (pausing : Bool) (from b most n t : ℕ) (run : Run t) → TxFound answer after start given t → LeadAt from b t → LeadWay pausing n run.place (view_of (found t).control.state)
      → t + n ≤ most → most ≤ end → LeadEnd pausing from b most
  lead_on pausing from b most zero t run tx at way low within =
      lead_tick pausing from b most zero t run tx at way low within (λ next tx' m less way' at'. absurd (omega (arith, less)))
  lead_on pausing from b most (suc n) t run tx at way low within =
      lead_tick pausing from b most (suc n) t run tx at way low within
      (λ next tx' m less way' at'. (let same : m ≡ n = omega (arith, less) in
      lead_on pausing from b most n (suc t) next tx' at' (subst (λ k. LeadWay pausing k next.place (view_of (found (suc t)).control.state)) same way') (omega (arith, low)) within))
