-- The transmitter of a node that holds no frame: nothing or a beacon, quarter by quarter.
use Rattle.std.proofs.Common.{◌≡◌, ℕ, ◌+◌, ◌<◌, inl, inr, Bool, true, false, cond, ltb, lt-ltb, le-ltb, List, [], refl, ◌∙◌, arith}
use Rattle.std.specs.Prelude.{is_some, ◌||◌}
use Rattle.std.proofs.lemmas.Bool.{cases_lt}
use Rattle.t1s_pcs_tx.specs.declared.TxCmd.{TxCmd}
use Rattle.t1s_pcs_tx.specs.declared.TxCmd.TheVariants.{None as NoCmd, Beacon as BeaconCmd, Commit as CommitCmd}
use Rattle.t1s_pcs_tx.specs.State.{Quiet, Beaconing, TxState, quarter_of}
use Rattle.t1s_pcs_tx.specs.TransmitTable.{transmit_step, turn_to, chosen_turn, command_choice}
use Rattle.t1s_node.specs.Node.{NodeState, reading_of}
use Rattle.t1s_line.proofs.Frameless.{IsFrameless, DrivesTo, drives_to, given, told_alone, quiet_told, beacon_told, beacon_on}

-- what the node drives: nothing, or the quarter of a beacon's symbol
pub data Signal : Type 0 where
  quiet : Signal
  beacon : (part : ℕ) → Signal

abbrev pub signal_tx : Signal → List Bool → TxState
signal_tx quiet past = record { stage = Quiet; part = 0; past = past }
signal_tx (beacon part) past = record { stage = Beaconing; part = part; past = past }

abbrev pub sounds : Signal → Bool
sounds quiet = false
sounds (beacon part) = true

-- the signal after one more tick, by what is told
abbrev pub signal_chosen : TxCmd → Signal
signal_chosen NoCmd = quiet
signal_chosen BeaconCmd = beacon 0
signal_chosen CommitCmd = quiet

abbrev pub signal_step : Signal → TxCmd → Signal
signal_step quiet cmd = signal_chosen cmd
signal_step (beacon part) cmd = cond (ltb part 3) (beacon (part + 1)) (signal_chosen cmd)

abbrev pub InRange : Signal → Type 0
InRange quiet = Unit {0}
InRange (beacon part) = part < 4

abbrev pub IsSpare : TxCmd → Type 0
IsSpare NoCmd = Unit {0}
IsSpare BeaconCmd = Unit {0}
IsSpare CommitCmd = ⊥

chosen_low : (cmd : TxCmd) → InRange (signal_chosen cmd)
chosen_low NoCmd = tt
chosen_low BeaconCmd = omega arith
chosen_low CommitCmd = tt

-- the part of a symbol stays below 4
pub step_low : (x : Signal) (cmd : TxCmd) → InRange x → IsSpare cmd → InRange (signal_step x cmd)
step_low quiet cmd low spare = chosen_low cmd
step_low (beacon part) cmd low spare = elim (cases_lt part 3) [
  | inl lt ↦ rw (lt-ltb part 3 lt) (omega arith)
  | inr ge ↦ rw (le-ltb part 3 ge) (chosen_low cmd)
]

chosen_is : (cmd : TxCmd) (past : List Bool) → IsSpare cmd → chosen_turn (command_choice cmd past []) ≡ turn_to (signal_tx (signal_chosen cmd) past) []
chosen_is NoCmd past spare = refl
chosen_is BeaconCmd past spare = refl
chosen_is CommitCmd past spare = absurd spare

signal_steps : (x : Signal) (past : List Bool) (cmd : TxCmd) → InRange x → IsSpare cmd → transmit_step (signal_tx x past) (told_alone cmd) [] ≡ turn_to (signal_tx (signal_step x cmd) past) []
signal_steps quiet past cmd low spare = quiet_told 0 past cmd ∙ chosen_is cmd past spare
signal_steps (beacon part) past cmd low spare = elim (cases_lt part 3) [
  | inl lt ↦ rw (lt-ltb part 3 lt) (beacon_on part past cmd lt)
  | inr ge ↦ rw (le-ltb part 3 ge) (beacon_told part past cmd (omega arith) ∙ chosen_is cmd past spare)
]

pub sounds_is : (y : Signal) (past : List Bool) → (is_some (quarter_of (signal_tx y past)) || false) ≡ sounds y
sounds_is quiet past = refl
sounds_is (beacon part) past = refl

pub record HasSignal (n : NodeState) (x : Signal) : Type 0 where
  pub past : List Bool
  pub tx : n.core.tx ≡ signal_tx x past
  pub frameless : IsFrameless n.core

-- its drive phase leaves it in the next signal, by what control tells
pub signal_drives : (n : NodeState) (x y : Signal) (cmd : TxCmd) (has : HasSignal n x) → InRange x → IsSpare cmd → (given (reading_of n) n.core).1.cmd ≡ cmd → signal_step x cmd ≡ y → DrivesTo (reading_of n) n.core (signal_tx y has.past)
signal_drives n x y cmd has low spare told step =
    let turn : transmit_step n.core.tx (told_alone (given (reading_of n) n.core).1.cmd) [] ≡ turn_to (signal_tx y has.past) [] = rw (told, has.tx, ← step) (signal_steps x has.past cmd low spare) in
    drives_to (reading_of n) n.core (signal_tx y has.past) has.frameless turn
