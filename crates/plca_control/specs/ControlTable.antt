-- The table of PLCA control (IEEE Std 802.3 148.4.4): its start, its rows in order, and what it gives out.
-- In each state the first row whose condition holds decides. A number in a state is a count of ticks, of
-- the opportunity (`c`), or of the further frames that a burst may still have (`b`).
use Rattle.std.specs.Prelude.{ℕ, ◌+◌, ◌-◌, ◌*◌, Bool, true, false, not, ◌&&◌, nat_le, nat_lt, ◌==◌, if◌then◌else◌, List, [], ◌∷◌}
use Rattle.t1s_base.specs.NodeIds.{has_id}
use Rattle.t1s_symbols.specs.declared.Class.{Class}
use Rattle.t1s_symbols.specs.declared.Class.TheVariants.{None as Unread, Beacon as BeaconHeard, Run as RunHeard, Other as OtherHeard}
use Rattle.t1s_pcs_tx.specs.declared.TxCmd.{TxCmd}
use Rattle.t1s_pcs_tx.specs.declared.TxCmd.TheVariants.{None as NoCmd, Beacon as BeaconCmd, Commit as CommitCmd}
use Rattle.t1s_pcs_tx.specs.declared.TxReport.{TxReport}
use Rattle.t1s_pcs_tx.specs.declared.TxReport.TheVariants.{Quiet, Leading, Framing, Closed}
use Rattle.t1s_pcs_tx.specs.State.{is_closed}
use Rattle.plca_control.specs.declared.ControlSet.{ControlSet}
use Rattle.plca_control.specs.declared.ControlIn.{ControlIn}
use Rattle.plca_control.specs.declared.ControlOut.{ControlOut}
use Rattle.plca_control.specs.declared.State.{State}
use Rattle.plca_control.specs.declared.State.TheVariants.{Disabled, Recover, Resync, Early, Beacon, Syncing, WaitTo, Receive, Commit, Transmit, Burst, Drain}
use Rattle.plca_control.specs.State.{ControlState}

-- the receiver has heard a beacon
abbrev pub is_beacon : Class → Bool
is_beacon Unread = false
is_beacon BeaconHeard = true
is_beacon RunHeard = false
is_beacon OtherHeard = false

-- the transmitter has just ended the closer of a good piece
abbrev pub is_closed_good : TxReport → Bool
is_closed_good Quiet = false
is_closed_good Leading = false
is_closed_good Framing = false
is_closed_good (Closed good) = good

-- the ID is one of the node's own
abbrev pub mine : ControlSet → ℕ → Bool
mine s c = has_id s.ids c

-- the node gives the beacons: ID 0 is one of its own
abbrev pub coord : ControlSet → Bool
coord s = mine s 0

-- the node takes no part: its first ID is 255
abbrev pub is_out : List ℕ → Bool
is_out [] = false
is_out (id ∷ further) = id == 255

-- the state in which control starts
abbrev pub control_start : ControlSet → ControlState
control_start s = record {
  set = s;
  state = if is_out s.ids then Disabled else (if coord s then Recover 0 else Resync);
}

-- the instant at which the opportunity of ID c begins
abbrev pub reach : ControlSet → Bool → ℕ → State × TxCmd
reach s ready c =
    if coord s && nat_le s.count c then (Beacon 20, BeaconCmd)
    else (if mine s c && ready then (Commit c 288 s.burst, CommitCmd)
    else (if not (coord s) && nat_le 255 c then (Resync, NoCmd)
    else (WaitTo c s.to, NoCmd)))

-- the rows: the new state and the command
abbrev pub control_row : ControlSet → State → ControlIn → State × TxCmd
control_row s Disabled i = (Disabled, NoCmd)
control_row s (Recover q) i =
    if i.crs then (Recover 0, NoCmd)
    else (if q == 258 * s.to then (Beacon 20, BeaconCmd)
    else (Recover (q + 1), NoCmd))
control_row s Resync i =
    if i.crs then (Early, NoCmd)
    else (Resync, NoCmd)
control_row s Early i =
    if i.crs then (Early, NoCmd)
    else (if is_beacon i.class then reach s i.ready 0
    else (Resync, NoCmd))
control_row s (Beacon n) i =
    if n == 1 then (Syncing, NoCmd)
    else (Beacon (n - 1), BeaconCmd)
control_row s Syncing i =
    if i.crs then (Syncing, NoCmd)
    else reach s i.ready 0
control_row s (WaitTo c n) i =
    if i.crs then (Receive c, NoCmd)
    else (if n == 1 then reach s i.ready (c + 1)
    else (WaitTo c (n - 1), NoCmd))
control_row s (Receive c) i =
    if i.crs then (Receive c, NoCmd)
    else (if is_beacon i.class && not (coord s) then reach s i.ready 0
    else (if is_beacon i.class && coord s then (Recover 0, NoCmd)
    else reach s i.ready (c + 1)))
control_row s (Commit c n b) i =
    if i.begun then (Transmit c b, CommitCmd)
    else (if n == 1 then (Drain c, NoCmd)
    else (Commit c (n - 1) b, CommitCmd))
control_row s (Transmit c b) i =
    if is_closed_good i.tx && nat_lt 0 b then (Burst c 128 (b - 1), CommitCmd)
    else (if is_closed i.tx then (Drain c, NoCmd)
    else (Transmit c b, CommitCmd))
control_row s (Burst c n b) i =
    if i.begun then (Transmit c b, CommitCmd)
    else (if n == 1 then (Drain c, NoCmd)
    else (Burst c (n - 1) b, CommitCmd))
control_row s (Drain c) i =
    if i.crs then (Drain c, NoCmd)
    else reach s i.ready (c + 1)

-- control takes part in the cycle of opportunities
abbrev pub is_active : State → Bool
is_active Disabled = false
is_active (Recover q) = false
is_active Resync = false
is_active Early = false
is_active (Beacon n) = true
is_active Syncing = true
is_active (WaitTo c n) = true
is_active (Receive c) = true
is_active (Commit c n b) = true
is_active (Transmit c b) = true
is_active (Burst c n b) = true
is_active (Drain c) = true

-- the node holds an opportunity of its own
abbrev pub is_own : State → Bool
is_own Disabled = false
is_own (Recover q) = false
is_own Resync = false
is_own Early = false
is_own (Beacon n) = false
is_own Syncing = false
is_own (WaitTo c n) = false
is_own (Receive c) = false
is_own (Commit c n b) = true
is_own (Transmit c b) = true
is_own (Burst c n b) = true
is_own (Drain c) = false

-- one step: the row, and `active` and `own` of the new state
abbrev pub control_step : ControlState → ControlIn → ControlState × ControlOut
control_step c i =
    let next : State × TxCmd = control_row c.set c.state i in (
      record { set = c.set; state = next.0 },
      record { cmd = next.1; active = is_active next.0; own = is_own next.0 },
    )
