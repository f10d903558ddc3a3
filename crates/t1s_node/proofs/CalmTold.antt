-- What a calm tick of a node tells: nothing.
use Rattle.std.proofs.Common.{◌≡◌, Bool, false, None, refl, rules, ap, sym, subst, ◌∙◌}
use Rattle.t1s_symbols.specs.declared.Heard.TheVariants.{Nothing}
use Rattle.t1s_pcs_tx.specs.TransmitTable.{transmit_step}
use Rattle.t1s_pcs_rx.specs.ReceiveTable.{receive_event, closing_in}
use Rattle.plca_control.specs.declared.StatusState.{StatusState}
use Rattle.plca_control.specs.StatusTable.{status_step, status_is_ok}
use Rattle.plca_control.specs.ControlTable.{is_active}
use Rattle.plca_control.specs.CalmControl.{status_uncounted}
use Rattle.plca_data.specs.DataPathTable.{carrier, collision}
use Rattle.t1s_mac.specs.declared.outcome.MacNote.{MacNote}
use Rattle.t1s_mac.specs.declared.outcome.MacNote.TheVariants.{None as NoNote}
use Rattle.t1s_mac.specs.PickedDraws.{picked_answer, picked_after}
use Rattle.t1s_mac.specs.MacTable.{mac_step}
use Rattle.t1s_node.specs.declared.settings.Driven.{Driven}
use Rattle.t1s_node.specs.Core.{core_drive}
use Rattle.t1s_node.specs.Node.{NodeState, node_drive, node_hear, is_clash}
use Rattle.t1s_node.specs.CalmNode.{node_after_silence, IsCalmNode, TellsNothing}
use Rattle.t1s_node.proofs.CalmTick.{Setting, Parts, still_node, AllCalm, NoCommand, control_left, active_kept, calm_apart}
use Rattle.t1s_node.proofs.CalmStill.{setting_of, parts_of, still_is, calm_still, and_false}

-- what a tick of silence leaves
pub after_silence : (n : NodeState) → node_after_silence n ≡ node_hear (node_drive n).0 Nothing
unfolding node_after_silence
after_silence n = refl

-- in silence no piece is completed, and no signals meet
silent_event : (n : NodeState) → receive_event (node_drive n).0.receiver Nothing (node_drive n).0.drove ≡ None
unfolding closing_in
silent_event n = refl

silent_clash : (n : NodeState) → is_clash (node_drive n).0 Nothing ≡ false
silent_clash n = and_false (node_drive n).0.drove

ok_uncounted : (st : StatusState) → status_is_ok (status_uncounted st) ≡ status_is_ok st
ok_uncounted _ = search rules

module _ (b : Setting) (p : Parts) where
  -- what the drive phase of a still node tells, by what becomes of a frame and whether the status is OK
  abbrev told : MacNote → Bool → Driven
  told note ok = record { quarter = None; note = note; ok = ok; leaves = None }

  told_silence : NoCommand b p → (node_drive (still_node b p)).1
      ≡ told (mac_step picked_answer picked_after p.mac (carrier p.path.0 false) (collision p.path.0)).1.note
      (status_is_ok (status_step p.status (is_active (control_left b p).state)))
  unfolding core_drive transmit_step
  told_silence none = rw none refl

  silent_drove : NoCommand b p → (node_drive (still_node b p)).0.drove ≡ false
  unfolding core_drive transmit_step
  silent_drove none = rw none refl

  still_tells_nothing : AllCalm b p → TellsNothing (still_node b p)
  still_tells_nothing all =
      let ok_by : Bool → Bool = λ active. status_is_ok (status_step p.status active) in
      let ok_stays = sym (ok_uncounted (status_step p.status (is_active p.control.state))) ∙ (ap status_is_ok all.status ∙ ok_uncounted p.status) in
      record {
        drive = told_silence all.control.0
            ∙ (ap (λ (note : MacNote). told note (ok_by (is_active (control_left b p).state))) all.mac.1
            ∙ ap (told NoNote) (ap ok_by (active_kept p.control (control_left b p) all.control.1) ∙ ok_stays));
        event = silent_event (still_node b p);
        clash = silent_clash (still_node b p);
        drove = silent_drove all.control.0;
        drove_before = refl;
      }

pub tells_nothing : (n : NodeState) → IsCalmNode n → TellsNothing n
tells_nothing n calm =
    let is = still_is n (calm_still n calm) in
    subst TellsNothing (sym is) (still_tells_nothing (setting_of n) (parts_of n) (calm_apart (setting_of n) (parts_of n) (subst IsCalmNode is calm)))
