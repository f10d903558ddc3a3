-- Runs of control from its start, tick by tick.
use Rattle.std.specs.Prelude.{◌≡◌, ℕ, zero, suc, ◌+◌, ◌<◌, ◌≤◌, Bool, true, false}
use Rattle.t1s_pcs_tx.specs.declared.TxCmd.{TxCmd}
use Rattle.t1s_pcs_tx.specs.declared.TxCmd.TheVariants.{Commit as CommitCmd}
use Rattle.plca_control.specs.declared.ControlSet.{ControlSet}
use Rattle.plca_control.specs.declared.ControlIn.{ControlIn}
use Rattle.plca_control.specs.declared.ControlOut.{ControlOut}
use Rattle.plca_control.specs.declared.State.{State}
use Rattle.plca_control.specs.declared.State.TheVariants.{Transmit}
use Rattle.plca_control.specs.State.{ControlState}
use Rattle.t1s_pcs_tx.specs.State.{is_closed}
use Rattle.plca_control.specs.ControlTable.{control_start, control_step}

-- control as tick t finds it, where `given k` is what it is told in tick k
unfoldable pub state_at : ControlSet → (ℕ → ControlIn) → ℕ → ControlState
state_at s given zero = control_start s
state_at s given (suc t) = (control_step (state_at s given t) (given t)).0

-- what it gives out in tick t
abbrev pub out_at : ControlSet → (ℕ → ControlIn) → ℕ → ControlOut
out_at s given t = (control_step (state_at s given t) (given t)).1

abbrev pub cmd_at : ControlSet → (ℕ → ControlIn) → ℕ → TxCmd
cmd_at s given t = (out_at s given t).cmd

abbrev pub own_at : ControlSet → (ℕ → ControlIn) → ℕ → Bool
own_at s given t = (out_at s given t).own

-- tick t leaves it in Transmit
abbrev pub is_transmit : State → Bool
is_transmit (Transmit c b) = true
is_transmit _ = false

abbrev pub transmits_at : ControlSet → (ℕ → ControlIn) → ℕ → Bool
transmits_at s given t = is_transmit (control_step (state_at s given t) (given t)).0.state

-- in tick t it holds its opportunity, by the command Commit
pub record Holds (s : ControlSet) (given : ℕ → ControlIn) (t : ℕ) : Type 0 where
  pub own : own_at s given t ≡ true
  pub commits : cmd_at s given t ≡ CommitCmd

-- in tick t `own` is true, and in the tick before, if there is one, it is not
pub record OwnBegins (s : ControlSet) (given : ℕ → ControlIn) (t : ℕ) : Type 0 where
  pub own : own_at s given t ≡ true
  pub before : (u : ℕ) → u + 1 ≡ t → own_at s given u ≡ false

-- `begun` is false in each tick after a, up to and with b
abbrev pub NoneBegun : (ℕ → ControlIn) → ℕ → ℕ → Type 0
NoneBegun given a b = (j : ℕ) → a < j → j ≤ b → (given j).begun ≡ false

-- the report is not Closed in any tick after a, up to and with b
abbrev pub NoneClosed : (ℕ → ControlIn) → ℕ → ℕ → Type 0
NoneClosed given a b = (j : ℕ) → a < j → j ≤ b → is_closed (given j).tx ≡ false
