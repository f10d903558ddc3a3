-- Calm ticks of a node: for how many ticks in which it hears nothing and is offered nothing it does nothing but count.
use Rattle.std.specs.Prelude.{◌≡◌, Bool, true, false, not, ◌&&◌, ◌||◌, ◌==◌, None}
use Rattle.t1s_symbols.specs.declared.Heard.TheVariants.{Nothing}
use Rattle.t1s_pcs_tx.specs.declared.TxReport.{TxReport}
use Rattle.t1s_pcs_tx.specs.declared.TxReport.TheVariants.{Quiet, Leading, Framing, Closed}
use Rattle.t1s_pcs_tx.specs.State.{TxState}
use Rattle.t1s_pcs_tx.specs.TransmitTable.{is_quiet, report_of}
use Rattle.t1s_pcs_rx.specs.Receiver.{is_inside}
use Rattle.t1s_pcs_rx.specs.ReceiveTable.{receive_event}
use Rattle.plca_control.specs.StatusTable.{status_is_ok}
use Rattle.plca_control.specs.CalmControl.{control_uncounted, status_uncounted}
use Rattle.plca_data.specs.CalmData.{uncounted}
use Rattle.t1s_mac.specs.declared.outcome.MacNote.TheVariants.{None as NoNote}
use Rattle.t1s_mac.specs.State.{is_sending}
use Rattle.t1s_mac.specs.CalmMac.{mac_uncounted}
use Rattle.t1s_node.specs.CarrierTable.{carrier_start}
use Rattle.t1s_node.specs.Core.{Core}
use Rattle.t1s_node.specs.Node.{NodeState, node_drive, node_hear, is_clash}

-- the parts that drive without the counts that a calm tick may move: those of control, of the MAC and its deference, and
-- of the data path
abbrev pub core_uncounted : {D : Type 0} → Core D → Core D
core_uncounted c = record c { control = control_uncounted c.control; mac = mac_uncounted c.mac; path = uncounted c.path }

-- a node without these, and without the count of its status
abbrev pub node_uncounted : NodeState → NodeState
node_uncounted n = record n { core = core_uncounted n.core; status = status_uncounted n.status }

-- the node after a tick in which it hears nothing
unfoldable pub node_after_silence : NodeState → NodeState
node_after_silence n = node_hear (node_drive n).0 Nothing

-- no carrier is read, nor about to be, and the MAC neither sends nor jams
pub record IsAtRest (n : NodeState) : Type 0 where
  pub carrier : n.carrier ≡ carrier_start
  pub mac : is_sending n.core.mac.phase ≡ false

-- a tick in which the node hears nothing is calm: it drives nothing, is at rest before and after, and changes nothing
-- but those counts. So each machine, and deference, keeps the name of its state
pub record IsCalmNode (n : NodeState) : Type 0 where
  pub drives : (node_drive n).1.quarter ≡ None
  pub before : IsAtRest n
  pub after : IsAtRest (node_after_silence n)
  pub same : node_uncounted (node_after_silence n) ≡ node_uncounted n

-- ---- what is looked at first

-- the transmitter is in Quiet
abbrev pub is_quiet_report : TxReport → Bool
is_quiet_report Quiet = true
is_quiet_report Leading = false
is_quiet_report Framing = false
is_quiet_report (Closed good) = false

-- whether a node neither drove nor was hit in the last tick, reads no carrier and is not about to, is inside no burst,
-- and has its transmitter in Quiet: in no other node is a tick calm
abbrev pub is_still : NodeState → Bool
is_still n =
    not n.drove && not n.hit && not n.carrier.on && (n.carrier.run == 0) && not (is_inside n.receiver.burst)
    && is_quiet_report (report_of n.core.tx)

-- a transmitter in Quiet is in no part of a symbol
abbrev pub quiet_has_no_part : TxState → Bool
quiet_has_no_part s = not (is_quiet s.stage) || (s.part == 0)

-- ---- what a calm tick tells

-- A calm tick tells of nothing: the node drives nothing, nothing becomes of a frame, no frame leaves, the status is what
-- it was, no piece is completed, and no signals meet. The node drove nothing in the tick before it either.
pub record TellsNothing (n : NodeState) : Type 0 where
  pub drive : (node_drive n).1 ≡ record { quarter = None; note = NoNote; ok = status_is_ok n.status; leaves = None }
  pub event : receive_event (node_drive n).0.receiver Nothing (node_drive n).0.drove ≡ None
  pub clash : is_clash (node_drive n).0 Nothing ≡ false
  pub drove : (node_drive n).0.drove ≡ false
  pub drove_before : n.drove ≡ false

abbrev pub CalmTellsNothing : Type 0
CalmTellsNothing = (n : NodeState) → IsCalmNode n → TellsNothing n
