-- What holds in every run of the data path from its start.
use Rattle.std.specs.Prelude.{◌≡◌, false, IsTrue, List, [], All}
use Rattle.t1s_ring.specs.DelayLine.{IsLine}
use Rattle.plca_data.specs.Ranges.{in_range}
use Rattle.plca_data.specs.Runs.{PathEvent, IsPathEvent, run_of, uses_line}

-- The count of a wait stays from 1 to 512, and the line is a line: at most 97 nibbles, each below 16.
abbrev pub KeepsRanges : Type 0
KeepsRanges = (past : List PathEvent) → All IsPathEvent past →
    IsTrue (in_range (run_of past).0) × IsLine (run_of past).1

-- The line is empty in each state in which no frame waits in it or goes through it.
abbrev pub KeepsLineEmpty : Type 0
KeepsLineEmpty = (past : List PathEvent) → uses_line (run_of past).0 ≡ false → (run_of past).1 ≡ []
