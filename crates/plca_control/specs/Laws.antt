-- What holds in every run of control from its start.
use Rattle.std.specs.Prelude.{◌≡◌, ◌≢◌, ℕ, ◌+◌, ◌<◌, ◌≤◌, ◌⊎◌, true, false, IsTrue}
use Rattle.t1s_pcs_tx.specs.declared.TxCmd.TheVariants.{None as NoCmd, Beacon as BeaconCmd}
use Rattle.plca_control.specs.declared.ControlSet.{ControlSet}
use Rattle.plca_control.specs.declared.ControlIn.{ControlIn}
use Rattle.t1s_pcs_tx.specs.State.{is_closed}
use Rattle.plca_control.specs.Ranges.{IsControlSet, in_range}
use Rattle.plca_control.specs.Runs.{state_at, cmd_at, own_at, transmits_at, Holds, OwnBegins, NoneBegun, NoneClosed}

-- Where `own` is true the command is Commit; where it is false the command is None or Beacon.
abbrev pub CommandTellsOwn : Type 0
CommandTellsOwn = (s : ControlSet) (given : ℕ → ControlIn) (t : ℕ) →
    (own_at s given t ≡ true → Holds s given t) ×
    (own_at s given t ≡ false → (cmd_at s given t ≡ NoCmd) ⊎ (cmd_at s given t ≡ BeaconCmd))

-- The ticks from b on, exactly 20 of them, are those of one beacon.
pub record IsBeaconFrom (s : ControlSet) (given : ℕ → ControlIn) (b : ℕ) : Type 0 where
  pub all : (j : ℕ) → b ≤ j → j < b + 20 → cmd_at s given j ≡ BeaconCmd
  pub before : (j : ℕ) → j + 1 ≡ b → cmd_at s given j ≢ BeaconCmd
  pub after : cmd_at s given (b + 20) ≢ BeaconCmd

-- Each command Beacon is one of exactly 20 in a row.
abbrev pub BeaconsLastTwenty : Type 0
BeaconsLastTwenty = (s : ControlSet) (given : ℕ → ControlIn) (t : ℕ) → cmd_at s given t ≡ BeaconCmd →
    (b : ℕ) × (b ≤ t) × (t < b + 20) × IsBeaconFrom s given b

-- `own` begins only in a tick in which `ready` is true.
abbrev pub OwnBeginsReady : Type 0
OwnBeginsReady = (s : ControlSet) (given : ℕ → ControlIn) (t : ℕ) → OwnBegins s given t → (given t).ready ≡ true

-- Once begun, `own` stays, by the command Commit and not yet in Transmit, until `begun` is seen or 288
-- ticks have passed.
abbrev pub HoldsUntilBegun : Type 0
HoldsUntilBegun = (s : ControlSet) (given : ℕ → ControlIn) (t : ℕ) → OwnBegins s given t →
    (k : ℕ) → NoneBegun given t (t + k) →
    (k < 288 → (transmits_at s given (t + k) ≡ false) × Holds s given (t + k)) × (k ≡ 288 → own_at s given (t + k) ≡ false)

-- Where `begun` is seen while `own` is true, control is in Transmit; it stays there, and `own` with it,
-- until a tick in which the report is Closed.
abbrev pub TransmitsUntilClosed : Type 0
TransmitsUntilClosed = (s : ControlSet) (given : ℕ → ControlIn) (t : ℕ) → own_at s given t ≡ true →
    (transmits_at s given t ≡ false → (given (t + 1)).begun ≡ true → transmits_at s given (t + 1) ≡ true) ×
    (transmits_at s given t ≡ true → (k : ℕ) → NoneClosed given t (t + k) →
    (transmits_at s given (t + k) ≡ true) × Holds s given (t + k))

-- Where `own` stays after a Closed, it does so, not in Transmit, until `begun` is seen again or 128 ticks
-- have passed.
abbrev pub PausesUntilBegun : Type 0
PausesUntilBegun = (s : ControlSet) (given : ℕ → ControlIn) (t : ℕ) → transmits_at s given t ≡ true →
    is_closed (given (t + 1)).tx ≡ true → own_at s given (t + 1) ≡ true →
    (k : ℕ) → NoneBegun given (t + 1) (t + 1 + k) →
    (k < 128 → (transmits_at s given (t + 1 + k) ≡ false) × Holds s given (t + 1 + k)) × (k ≡ 128 → own_at s given (t + 1 + k) ≡ false)

-- Control keeps what it is set to, and its counts stay in their ranges.
abbrev pub StaysInRange : Type 0
StaysInRange = (s : ControlSet) (given : ℕ → ControlIn) → IsControlSet s → (t : ℕ) →
    ((state_at s given t).set ≡ s) × IsTrue (in_range s (state_at s given t).state)
