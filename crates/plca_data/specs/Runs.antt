-- Runs of the data path and its line from their start.
use Rattle.std.specs.Prelude.{ℕ, Bool, true, false, List, [], ◌∷◌, drop}
use Rattle.plca_data.specs.declared.DataIn.{DataIn}
use Rattle.plca_data.specs.declared.data_path.State.{State}
use Rattle.plca_data.specs.declared.data_path.State.TheVariants.{Silent, Idle, Hold, Collide, DelayPending, Pending, WaitMac, Transmit}
use Rattle.plca_data.specs.DataPathTable.{data_path_start, data_path_step}
use Rattle.plca_data.specs.Ranges.{IsMacOut}

-- what happens to a data path and its line: a tick, or that the transmitter takes the oldest nibble, if there is one
pub data PathEvent : Type 0 where
  Tick : DataIn → PathEvent
  Pop : PathEvent

-- a nibble that the MAC gives out in the tick is below 16
abbrev pub IsPathEvent : PathEvent → Type 0
IsPathEvent (Tick i) = IsMacOut i.mac
IsPathEvent Pop = Unit {0}

-- a state and its line after one more event
abbrev pub after_event : State × List ℕ → PathEvent → State × List ℕ
after_event kept (Tick i) = data_path_step kept.0 i kept.1
after_event kept Pop = (kept.0, drop 1 kept.1)

-- a state and its line after all of these events, the newest first
abbrev pub run_of : List PathEvent → State × List ℕ
run_of [] = (data_path_start, [])
run_of (newest ∷ earlier) = after_event (run_of earlier) newest

-- a frame waits in the line, or goes through it
abbrev pub uses_line : State → Bool
uses_line Silent = false
uses_line Idle = false
uses_line Hold = true
uses_line Collide = false
uses_line (DelayPending n) = false
uses_line Pending = false
uses_line WaitMac = false
uses_line (Transmit ended bad) = true
