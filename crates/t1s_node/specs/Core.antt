-- The parts of a node that drive the line, as plain data, and the drive phase of one tick of them: the tables of
-- control, MAC, transmitter and data path in this order, each fed with what the last tick left.
use Rattle.std.specs.Prelude.{ℕ, Bool, if◌then◌else◌, List, [], Option, None}
use Rattle.t1s_symbols.specs.declared.Class.{Class}
use Rattle.t1s_symbols.specs.declared.Quarter.{Quarter}
use Rattle.t1s_ring.specs.Queue.{Queue}
use Rattle.t1s_ring.specs.declared.queued.Queued.{Queued}
use Rattle.t1s_pcs_tx.specs.declared.TxCmd.{TxCmd}
use Rattle.t1s_pcs_tx.specs.State.{TxState, tx_start, first_h_begins, is_closed}
use Rattle.t1s_pcs_tx.specs.TransmitTable.{TxTurn, transmit_step, report_of}
use Rattle.plca_control.specs.declared.ControlSet.{ControlSet}
use Rattle.plca_control.specs.declared.ControlIn.{ControlIn}
use Rattle.plca_control.specs.declared.ControlOut.{ControlOut}
use Rattle.plca_control.specs.State.{ControlState}
use Rattle.plca_control.specs.ControlTable.{control_start, control_step}
use Rattle.plca_data.specs.declared.DataIn.{DataIn}
use Rattle.plca_data.specs.declared.data_path.State.{State}
use Rattle.plca_data.specs.DataPathTable.{data_path_start, data_path_step, carrier, collision, ready, begun, ended, bad}
use Rattle.t1s_mac.specs.Laws.{mac_after_offer}
use Rattle.t1s_mac.specs.State.{MacState, mac_start, number_of}
use Rattle.t1s_mac.specs.MacTable.{mac_step}
use Rattle.t1s_mac.specs.declared.outcome.MacStep.{MacStep}

-- control, the MAC, the transmitter, the data path, and the nibbles of the delay line, the oldest first
pub record Core (D : Type 0) : Type 0 where
  pub control : ControlState
  pub mac : MacState D
  pub tx : TxState
  pub path : State
  pub line : List ℕ

-- what a drive phase finds beside the core, as the last tick left it: the carrier, what the receiver takes the last
-- burst for, and whether the node drove and heard another signal
pub record LineReading : Type 0 where
  pub crs : Bool
  pub class : Class
  pub hit : Bool

-- what a drive phase comes to: the core that it leaves, what control gives out, what the MAC tells, the quarter that
-- is driven, and the number of the frame that the MAC gives where a first H begins in this tick
pub record CoreDrive (D : Type 0) : Type 0 where
  pub core : Core D
  pub cmd : TxCmd
  pub active : Bool
  pub own : Bool
  pub step : MacStep
  pub quarter : Option Quarter
  pub leaves : Option ℕ

module _ {D : Type 0} where
  -- the core of a node that has just started
  abbrev pub core_start : ControlSet → Queue → D → Core D
  core_start set queue draws =
      record { control = control_start set; mac = mac_start queue draws; tx = tx_start; path = data_path_start; line = [] }

  -- the core after an offer, which a full queue does not take
  abbrev pub core_after_offer : Core D → Queued → Core D
  core_after_offer c q = record c { mac = mac_after_offer c.mac q }

  -- what control is told: all of it as the last tick left it
  abbrev pub control_in : LineReading → Core D → ControlIn
  control_in s c =
      record { crs = s.crs; class = s.class; ready = ready c.path; begun = begun c.path; tx = report_of c.tx }

  abbrev pub control_turn : LineReading → Core D → ControlState × ControlOut
  control_turn s c = control_step c.control (control_in s c)

  -- the MAC is shown the carrier and the collision of the data path as the last tick left it
  abbrev pub mac_turn : (D → ℕ → ℕ) → (D → D) → LineReading → Core D → MacState D × MacStep
  mac_turn answer after s c = mac_step answer after c.mac (carrier c.path s.crs) (collision c.path)

  -- the transmitter takes the new command, and pops from the line before this tick's nibble is pushed
  abbrev pub tx_turn : TxCmd → Core D → TxTurn
  tx_turn cmd c = transmit_step c.tx (record { cmd = cmd; ended = ended c.path; bad = bad c.path }) c.line

  -- the data path takes what control and the MAC gave out in this tick
  abbrev pub path_in : LineReading → Core D → ControlOut → MacStep → DataIn
  path_in s c given told = record {
    active = given.active;
    own = given.own;
    closed = is_closed (report_of c.tx);
    crs = s.crs;
    class = s.class;
    hit = s.hit;
    mac = told.out;
  }

  abbrev pub path_turn : LineReading → Core D → ControlOut → MacStep → List ℕ → State × List ℕ
  path_turn s c given told line = data_path_step c.path (path_in s c given told) line

  -- the drive phase of a tick; `answer` is the number that draws would answer for an attempt, and `after` what stands
  -- after one draw
  unfoldable pub core_drive : (D → ℕ → ℕ) → (D → D) → LineReading → Core D → CoreDrive D
  core_drive answer after s c =
      let control : ControlState × ControlOut = control_turn s c in
      let mac : MacState D × MacStep = mac_turn answer after s c in
      let tx : TxTurn = tx_turn control.1.cmd c in
      let path : State × List ℕ = path_turn s c control.1 mac.1 tx.line in
      record {
        core = record { control = control.0; mac = mac.0; tx = tx.state; path = path.0; line = path.1 };
        cmd = control.1.cmd;
        active = control.1.active;
        own = control.1.own;
        step = mac.1;
        quarter = tx.driven;
        leaves = if first_h_begins tx.state then number_of mac.0 else None;
      }
