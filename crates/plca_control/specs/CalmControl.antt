-- Calm ticks of control and of status: for how many ticks of the same input they do nothing but count.
use Rattle.std.specs.Prelude.{◌≡◌, ℕ, ◌+◌, ◌-◌, ◌*◌, ◌==◌, Bool, if◌then◌else◌, min}
use Rattle.t1s_pcs_tx.specs.declared.TxCmd.TheVariants.{None as NoCmd}
use Rattle.plca_control.specs.declared.ControlSet.{ControlSet}
use Rattle.plca_control.specs.declared.ControlIn.{ControlIn}
use Rattle.plca_control.specs.declared.State.{State}
use Rattle.plca_control.specs.declared.State.TheVariants.{Disabled, Recover, Resync, Early, Beacon, Syncing, WaitTo, Receive, Commit, Transmit, Burst, Drain}
use Rattle.plca_control.specs.declared.StatusState.{StatusState}
use Rattle.plca_control.specs.declared.StatusState.TheVariants.{Inactive, Active, Hysteresis}
use Rattle.plca_control.specs.ControlTable.{control_step}
use Rattle.plca_control.specs.State.{ControlState}
use Rattle.plca_control.specs.StatusTable.{status_step}

-- ---- control

-- a state without the count that a calm tick may move: the ticks of Recover and of WaitTo
abbrev pub state_uncounted : State → State
state_uncounted (Recover q) = Recover 0
state_uncounted (WaitTo c n) = WaitTo c 0
state_uncounted st = st

abbrev pub control_uncounted : ControlState → ControlState
control_uncounted c = record c { state = state_uncounted c.state }

-- control after a tick with this input
abbrev pub control_after : ControlIn → ControlState → ControlState
control_after i c = (control_step c i).0

-- a tick with this input is calm: the command is None, and nothing is changed but that count
abbrev pub IsCalmControl : ControlIn → ControlState → Type 0
IsCalmControl i c = ((control_step c i).1.cmd ≡ NoCmd) × (control_uncounted (control_after i c) ≡ control_uncounted c)

-- how many ticks are calm, up to `most`
abbrev pub calm_ticks : ControlSet → State → ControlIn → ℕ → ℕ
calm_ticks s Disabled i most = most
calm_ticks s (Recover q) i most = if i.crs then most else min (258 * s.to - q) most
calm_ticks s Resync i most = if i.crs then 0 else most
calm_ticks s Early i most = if i.crs then most else 0
calm_ticks s (Beacon n) i most = 0
calm_ticks s Syncing i most = if i.crs then most else 0
calm_ticks s (WaitTo c n) i most = if i.crs then 0 else min (n - 1) most
calm_ticks s (Receive c) i most = if i.crs then most else 0
calm_ticks s (Commit c n b) i most = 0
calm_ticks s (Transmit c b) i most = 0
calm_ticks s (Burst c n b) i most = 0
calm_ticks s (Drain c) i most = if i.crs then most else 0

-- the ticks of Recover after n calm ticks, by the carrier: the first one under carrier lets them begin again
abbrev pub recover_passed : ℕ → Bool → ℕ → ℕ
recover_passed q crs n = if crs then (if n == 0 then q else 0) else q + n

-- the state that n calm ticks leave
abbrev pub passed : State → ControlIn → ℕ → State
passed (Recover q) i n = Recover (recover_passed q i.crs n)
passed (WaitTo c left) i n = WaitTo c (left - n)
passed st i n = st

-- ---- status

-- a state without the count that a calm tick may move: the ticks of Hysteresis
abbrev pub status_uncounted : StatusState → StatusState
status_uncounted Inactive = Inactive
status_uncounted Active = Active
status_uncounted (Hysteresis n) = Hysteresis 0

-- status after a tick with this `active`
abbrev pub status_after : Bool → StatusState → StatusState
status_after active st = status_step st active

-- a tick with this `active` is calm: nothing is changed but that count
abbrev pub IsCalmStatus : Bool → StatusState → Type 0
IsCalmStatus active st = status_uncounted (status_after active st) ≡ status_uncounted st

-- how many ticks are calm, up to `most`
abbrev pub status_calm_ticks : StatusState → Bool → ℕ → ℕ
status_calm_ticks Inactive active most = if active then 0 else most
status_calm_ticks Active active most = if active then most else 0
status_calm_ticks (Hysteresis n) active most = if active then 0 else min (n - 1) most

-- the state that n calm ticks leave
abbrev pub status_passed : StatusState → ℕ → StatusState
status_passed Inactive n = Inactive
status_passed Active n = Active
status_passed (Hysteresis left) n = Hysteresis (left - n)
