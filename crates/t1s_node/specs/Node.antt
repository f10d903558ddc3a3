-- A node as plain data, and its two phases of a tick: the core drives, and what is heard sets what the core finds in the
-- next tick.
use Rattle.std.specs.Prelude.{ℕ, ◌≤◌, Bool, true, false, ◌&&◌, ◌||◌, [], Option, Some, None, is_some}
use Rattle.t1s_symbols.specs.declared.Heard.{Heard}
use Rattle.t1s_symbols.specs.declared.Heard.TheVariants.{Nothing, One, Many}
use Rattle.t1s_ring.specs.Queue.{Queue, empty_queue}
use Rattle.t1s_ring.specs.declared.queued.Queued.{Queued}
use Rattle.t1s_pcs_rx.specs.Receiver.{Receiver, receive_start}
use Rattle.t1s_pcs_rx.specs.ReceiveTable.{receive_step}
use Rattle.plca_control.specs.Ranges.{IsControlSet}
use Rattle.plca_control.specs.declared.StatusState.{StatusState}
use Rattle.plca_control.specs.StatusTable.{status_start, status_step, status_is_ok}
use Rattle.t1s_mac.specs.PickedDraws.{picked_answer, picked_after}
use Rattle.t1s_mac.specs.State.{MacState, mac_start}
use Rattle.t1s_mac.specs.declared.picked_draws.PickedDraws.{PickedDraws}
use Rattle.t1s_mac.specs.declared.picked_draws.PickedDraws.TheVariants.{List as Listed}
use Rattle.t1s_node.specs.declared.carrier.Carrier.{Carrier}
use Rattle.t1s_node.specs.declared.settings.NodeSet.{NodeSet}
use Rattle.t1s_node.specs.declared.settings.Driven.{Driven}
use Rattle.t1s_node.specs.CarrierTable.{carrier_start, carrier_step}
use Rattle.t1s_node.specs.Core.{Core, CoreDrive, LineReading, core_start, core_after_offer, core_drive}

-- after how many ticks carrier is read and no longer read, the parts that drive, the status, the carrier reading, the
-- receiver, whether the node drove and heard another signal in the last tick, and whether it drove in it
pub record NodeState : Type 0 where
  pub rise : ℕ
  pub fall : ℕ
  pub core : Core PickedDraws
  pub status : StatusState
  pub carrier : Carrier
  pub receiver : Receiver
  pub hit : Bool
  pub drove : Bool

-- what a node can be set to
pub record IsNodeSet (s : NodeSet) : Type 0 where
  pub control : IsControlSet s.control
  pub rise_low : 1 ≤ s.rise
  pub rise_high : s.rise ≤ 16
  pub fall_low : 1 ≤ s.fall
  pub fall_high : s.fall ≤ 16

-- the MAC that a node holds between its calls, which is always there
abbrev pub spare_mac : MacState PickedDraws
spare_mac = mac_start (empty_queue 1) (Listed [])

abbrev pub mac_in : Option (MacState PickedDraws) → MacState PickedDraws
mac_in (Some mac) = mac
mac_in None = spare_mac

-- a node at its start
abbrev pub node_start : NodeSet → Queue → PickedDraws → NodeState
node_start set queue draws = record {
  rise = set.rise;
  fall = set.fall;
  core = core_start set.control queue draws;
  status = status_start;
  carrier = carrier_start;
  receiver = receive_start;
  hit = false;
  drove = false;
}

-- the node after an offer, which a full queue does not take
abbrev pub node_after_offer : NodeState → Queued → NodeState
node_after_offer n q = record n { core = core_after_offer n.core q }

-- ---- the drive phase

-- what the drive phase finds, as the last tick left it
abbrev pub reading_of : NodeState → LineReading
reading_of n = record { crs = n.carrier.on; class = n.receiver.class; hit = n.hit }

-- the node after its drive phase, and what it tells of it
abbrev pub node_after : NodeState → CoreDrive PickedDraws → NodeState × Driven
node_after n d =
    let status : StatusState = status_step n.status d.active in (
      record n { core = d.core; status = status; drove = is_some d.quarter },
      record { quarter = d.quarter; note = d.step.note; ok = status_is_ok status; leaves = d.leaves },
    )

abbrev pub node_drive : NodeState → NodeState × Driven
node_drive n = node_after n (core_drive picked_answer picked_after (reading_of n) n.core)

-- ---- the hear phase

abbrev pub is_heard : Heard → Bool
is_heard Nothing = false
is_heard (One q) = true
is_heard Many = true

abbrev pub is_many : Heard → Bool
is_many Nothing = false
is_many (One q) = false
is_many Many = true

-- the node with this tick's energy in its carrier reading, and the hit of this tick
abbrev pub node_sense : NodeState → Heard → NodeState
node_sense n h =
    record n { carrier = carrier_step n.carrier (n.drove || is_heard h) n.rise n.fall; hit = n.drove && is_heard h }

-- the node after its hear phase
abbrev pub node_hear : NodeState → Heard → NodeState
node_hear n h = record (node_sense n h) { receiver = receive_step n.receiver h n.drove }

-- several signals meet: the node hears more than one, or anything while it drives
abbrev pub is_clash : NodeState → Heard → Bool
is_clash n h = is_many h || (n.drove && is_heard h)
