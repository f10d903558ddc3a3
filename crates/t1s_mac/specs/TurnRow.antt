-- What a typed state's step leaves, as a row of the table.
use Rattle.std.specs.Prelude.{◌≤◌, Bool, IsTrue}
use Rattle.plca_data.specs.Ranges.{IsMacOut}
use Rattle.t1s_mac.specs.MacTable.{Row}
use Rattle.t1s_mac.specs.State.{phase_of, queue_of, holds_frame}
use Rattle.t1s_mac.specs.declared.states.Turn.{Turn}

-- the row of a turn, in which a number was drawn or not
abbrev pub row_left : Turn → Bool → Row
row_left turn drew =
    record {
      phase = phase_of turn.state;
      queue = queue_of turn.state;
      attempts = turn.attempts;
      starts = turn.starts;
      draws = drew;
      out = turn.step.out;
      note = turn.step.note;
    }

-- what holds of every turn
abbrev pub IsTurn : Turn → Type 0
IsTurn turn =
    IsTrue (holds_frame (phase_of turn.state) (queue_of turn.state))
    × (turn.attempts ≤ 15)
    × IsMacOut turn.step.out
