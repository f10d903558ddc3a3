-- What every run of the data path keeps.
use Rattle.std.proofs.Common.{◌≡◌, false, List, [], ◌∷◌, drop, refl, ap}
use Rattle.std.specs.Prelude.{IsTrue}
use Rattle.std.specs.List.{All}
use Rattle.std.proofs.lemmas.List.Elements.{All-head, All-tail}
use Rattle.t1s_ring.specs.DelayLine.{IsLine}
use Rattle.plca_data.specs.Ranges.{in_range}
use Rattle.plca_data.specs.Runs.{PathEvent, Tick, Pop, IsPathEvent, run_of, uses_line}
use Rattle.plca_data.proofs.Rows.{step_in_range, step_is_line, popped_is_line, no_nibble_is_line, step_empties}

pub keeps_ranges : (past : List PathEvent) → All IsPathEvent past → IsTrue (in_range (run_of past).0) × IsLine (run_of past).1
keeps_ranges [] all = (refl, no_nibble_is_line)
keeps_ranges (Tick i ∷ earlier) all =
    let (count, held) = keeps_ranges earlier (All-tail IsPathEvent (Tick i) earlier all) in (
      step_in_range (run_of earlier).0 i (run_of earlier).1 count,
      step_is_line (run_of earlier).0 i (run_of earlier).1 (All-head IsPathEvent (Tick i) earlier all) held,
    )
keeps_ranges (Pop ∷ earlier) all =
    let (count, held) = keeps_ranges earlier (All-tail IsPathEvent Pop earlier all) in
    (count, popped_is_line (run_of earlier).1 held)

pub keeps_line_empty : (past : List PathEvent) → uses_line (run_of past).0 ≡ false → (run_of past).1 ≡ []
keeps_line_empty [] unused = refl
keeps_line_empty (Tick i ∷ earlier) unused =
    step_empties (run_of earlier).0 i (run_of earlier).1 (keeps_line_empty earlier) unused
keeps_line_empty (Pop ∷ earlier) unused = ap (drop 1) (keeps_line_empty earlier unused)
