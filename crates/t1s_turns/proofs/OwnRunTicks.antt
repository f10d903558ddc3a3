-- The transmitter along a run of the core: what each tick tells it, and how it stands by control's view.
use Rattle.std.proofs.Common.{◌≡◌, ℕ, zero, suc, ◌+◌, List, [], ◌∷◌, ◌++◌, refl, sym, ◌∙◌, ap, subst, arith}
use Rattle.t1s_ring.specs.declared.queued.Queued.{Queued}
use Rattle.t1s_pcs_tx.specs.declared.TxCmd.{TxCmd}
use Rattle.t1s_pcs_tx.specs.declared.TxIn.{TxIn}
use Rattle.t1s_pcs_tx.specs.State.{TxState, is_closed}
use Rattle.t1s_pcs_tx.specs.TransmitTable.{TxTurn, transmit_step, report_of}
use Rattle.t1s_pcs_tx.specs.Runs.{Tick, after, driven_ticks, popped_nibbles}
use Rattle.plca_control.specs.State.{ControlState}
use Rattle.plca_control.specs.ControlTable.{control_row}
use Rattle.plca_data.specs.declared.data_path.State.{State}
use Rattle.plca_data.specs.DataPathTable.{ready, begun, ended, bad}
use Rattle.t1s_node.specs.Core.{Core, CoreDrive, control_in, core_drive, core_after_offer}
use Rattle.t1s_node.specs.Runs.{CoreTick, core_after_offers, core_at, found_at, left_at, drive_at, own_at, popped_at}
use Rattle.t1s_node.proofs.CoreSteps.{Stands}
use Rattle.t1s_node.proofs.JointPlaces.{Place}
use Rattle.t1s_node.proofs.View.{view_of, cmd_of, own_of, Turns, row_turns, view_cmd, view_own}
use Rattle.t1s_turns.specs.OwnRun.{quarters_from}
use Rattle.t1s_turns.proofs.OwnRunTx.{TxAt, tx_turned, joint_unbegun}

module _ {D : Type 0} where
  -- an offer leaves all but the MAC
  pub offers_keep : (P : ControlState → TxState → State → List ℕ → Type 0) (c : Core D) (qs : List Queued) → P c.control c.tx c.path c.line
      → P (core_after_offers c qs).control (core_after_offers c qs).tx (core_after_offers c qs).path (core_after_offers c qs).line
  offers_keep P c [] h = h
  offers_keep P c (q ∷ qs) h = offers_keep P (core_after_offer c q) qs h

module _ {D : Type 0} (answer : D → ℕ → ℕ) (after : D → D) (start : Core D) (given : ℕ → CoreTick) where
  abbrev found : ℕ → Core D
  found t = found_at answer after start given t

  abbrev left : ℕ → Core D
  left t = left_at answer after start given t

  abbrev drive : ℕ → CoreDrive D
  drive t = drive_at answer after start given t

  -- what the transmitter is told in a tick
  abbrev pub tx_in : ℕ → TxIn
  tx_in t = record { cmd = (drive t).cmd; ended = ended (found t).path; bad = bad (found t).path }

  pub tx_left : (t : ℕ) → (left t).tx ≡ (transmit_step (found t).tx (tx_in t) (found t).line).state
  unfolding core_drive
  tx_left t = refl

  pub quarter_is : (t : ℕ) → (drive t).quarter ≡ (transmit_step (found t).tx (tx_in t) (found t).line).driven
  unfolding core_drive
  quarter_is t = refl

  pub control_left : (t : ℕ) → (left t).control.state ≡ (control_row (found t).control.set (found t).control.state (control_in (given t).reading (found t))).0
  unfolding core_drive
  control_left t = refl

  pub set_left : (t : ℕ) → (left t).control.set ≡ (found t).control.set
  unfolding core_drive
  set_left t = refl

  pub own_is : (t : ℕ) → own_at answer after start given t ≡ own_of (view_of (left t).control.state)
  unfolding core_drive
  own_is t = view_own (left t).control.state

  pub cmd_is : (t : ℕ) → (drive t).cmd ≡ cmd_of (view_of (left t).control.state)
  unfolding core_drive
  cmd_is t = view_cmd (found t).control.set (found t).control.state (control_in (given t).reading (found t))

  -- the next tick finds what this one left, but for the offers to the MAC
  pub next_keep : (P : ControlState → TxState → State → List ℕ → Type 0) (t : ℕ) → P (left t).control (left t).tx (left t).path (left t).line
      → P (found (suc t)).control (found (suc t)).tx (found (suc t)).path (found (suc t)).line
  unfolding core_at
  next_keep P t h = offers_keep P (core_at answer after start given (suc t)) (given (suc t)).offers h

  pub first_keep : (P : ControlState → TxState → State → List ℕ → Type 0) → P start.control start.tx start.path start.line
      → P (found zero).control (found zero).tx (found zero).path (found zero).line
  unfolding core_at
  first_keep P h = offers_keep P (core_at answer after start given zero) (given zero).offers h

  -- how control's view turns in a tick
  pub turns_at : (t : ℕ) (place : Place) → Stands place (found t)
      → Turns (ready (found t).path) (begun (found t).path) (is_closed (report_of (found t).tx)) (view_of (found t).control.state) (view_of (left t).control.state)
  turns_at t place h =
      subst (λ st. Turns (ready (found t).path) (begun (found t).path) (is_closed (report_of (found t).tx)) (view_of (found t).control.state) (view_of st)) (sym (control_left t))
      (row_turns (found t).control.set (control_in (given t).reading (found t)) (found t).control.state h.counted)

  abbrev pub TxFound : ℕ → Type 0
  TxFound t = TxAt (view_of (found t).control.state) (found t).tx.stage (found t).tx.part

  abbrev pub TxLeft : ℕ → Type 0
  TxLeft t = TxAt (view_of (left t).control.state) (left t).tx.stage (left t).tx.part

  pub tx_leaves : (t : ℕ) (place : Place) → Stands place (found t) → TxFound t → TxLeft t
  tx_leaves t place h tx =
      let turned = tx_turned (ready (found t).path) (begun (found t).path) (is_closed (report_of (found t).tx)) (found t).tx.part (found t).tx.past (ended (found t).path) (bad (found t).path) (found t).line
      (found t).path refl (found t).tx.stage (view_of (found t).control.state) (view_of (left t).control.state) tx (turns_at t place h) refl
      (joint_unbegun place _ _ _ _ _ _ _ _ _ h.joint) in
      let told : TxTurn = transmit_step (found t).tx (record { cmd = cmd_of (view_of (left t).control.state); ended = ended (found t).path; bad = bad (found t).path }) (found t).line in
      let same : (left t).tx ≡ told.state = tx_left t ∙ ap (λ (cmd : TxCmd). (transmit_step (found t).tx (record { cmd = cmd; ended = ended (found t).path; bad = bad (found t).path }) (found t).line).state) (cmd_is t) in
      subst (λ (tx : TxState). TxAt (view_of (left t).control.state) tx.stage tx.part) (sym same) turned

-- ---- a run of the transmitter alone

module _ {D : Type 0} (answer : D → ℕ → ℕ) (after_draw : D → D) (start : Core D) (given : ℕ → CoreTick) where
  abbrev found_tx : ℕ → TxState
  found_tx t = (found_at answer after_draw start given t).tx

  -- what comes to it in n ticks from tick t on
  abbrev pub tx_ticks : ℕ → ℕ → List Tick
  tx_ticks t zero = []
  tx_ticks t (suc n) = record { inp = tx_in answer after_draw start given t; line = (found_at answer after_draw start given t).line } ∷ tx_ticks (suc t) n

  abbrev pub popped_from : ℕ → ℕ → List ℕ
  popped_from t zero = []
  popped_from t (suc n) = popped_at answer after_draw start given t ++ popped_from (suc t) n

  pub tx_next : (t : ℕ) → (transmit_step (found_tx t) (tx_in answer after_draw start given t) (found_at answer after_draw start given t).line).state ≡ found_tx (suc t)
  tx_next t = sym (tx_left answer after_draw start given t) ∙ sym (next_keep answer after_draw start given (λ _ tx _ _. tx ≡ (left_at answer after_draw start given t).tx) t refl)

  pub after-ticks : (n t : ℕ) → after (found_tx t) (tx_ticks t n) ≡ found_tx (t + n)
  after-ticks zero t = let e : t ≡ t + 0 = omega arith in ap found_tx e
  after-ticks (suc n) t =
      let e : suc t + n ≡ t + suc n = omega arith in
      ap (λ (s : TxState). after s (tx_ticks (suc t) n)) (tx_next t) ∙ (after-ticks n (suc t) ∙ ap found_tx e)

  pub driven-ticks : (n t : ℕ) → driven_ticks (found_tx t) (tx_ticks t n) ≡ quarters_from answer after_draw start given t n
  driven-ticks zero t = refl
  driven-ticks (suc n) t =
      let rest = ap (λ (s : TxState). driven_ticks s (tx_ticks (suc t) n)) (tx_next t) ∙ driven-ticks n (suc t) in
      let here = sym (quarter_is answer after_draw start given t) in
      ap (λ qs. (transmit_step (found_tx t) (tx_in answer after_draw start given t) (found_at answer after_draw start given t).line).driven ∷ qs) rest
      ∙ ap (λ q. q ∷ quarters_from answer after_draw start given (suc t) n) here

  pub popped-ticks : (n t : ℕ) → popped_nibbles (found_tx t) (tx_ticks t n) ≡ popped_from t n
  popped-ticks zero t = refl
  popped-ticks (suc n) t =
      let rest = ap (λ (s : TxState). popped_nibbles s (tx_ticks (suc t) n)) (tx_next t) ∙ popped-ticks n (suc t) in
      ap (λ xs. popped_at answer after_draw start given t ++ xs) rest
