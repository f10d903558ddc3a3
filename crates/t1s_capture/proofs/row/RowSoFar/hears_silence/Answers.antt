use Rattle.std.proofs.Common.{ℕ, ◌+◌, List, ap, sym, ◌∙◌, arith}
use Rattle.t1s_capture.specs.declared.row.RowSoFar.TheVariants.{Silent}
use Rattle.t1s_capture.specs.WriterTable.{silent_step}
use Rattle.t1s_capture.proofs.QuietRows.{quiet_from}
use Rattle.t1s_capture.proofs.row.RowSoFar.hears_silence.Goals as goal

pub returns-in-Empty-clause-step : goal.returns-in-Empty-clause-step
returns-in-Empty-clause-step c =
    let first = ap silent_step c.in-Empty.is ∙ ap (λ (o : List ℕ). (Silent 1, o)) (sym c.new.ensures) in
    sym (quiet_from c.args.self 1 c.new.result c.args.ticks c.args.ticks first c.requires.some (omega arith))

pub returns-in-Silent-clause-step : goal.returns-in-Silent-clause-step
returns-in-Silent-clause-step c =
    let before : ℕ = c.in-Silent.before in
    let first = ap silent_step c.in-Silent.is ∙ ap (λ (o : List ℕ). (Silent (before + 1), o)) (sym c.new-in-Silent.ensures) in
    sym (quiet_from c.args.self (before + 1) c.new-in-Silent.result c.args.ticks (before + c.args.ticks) first c.requires.some (omega arith))

pub returns-in-Reading-clause-step : goal.returns-in-Reading-clause-step
returns-in-Reading-clause-step c =
    let first = ap silent_step c.in-Reading.is ∙ ap (λ (o : List ℕ). (Silent 1, o)) (sym c.end.ensures) in
    sym (quiet_from c.args.self 1 c.end.result c.args.ticks c.args.ticks first c.requires.some (omega arith))

pub returns-in-Torn-clause-step : goal.returns-in-Torn-clause-step
returns-in-Torn-clause-step c =
    let first = ap silent_step c.in-Torn.is ∙ ap (λ (o : List ℕ). (Silent 1, o)) (sym c.counted.ensures) in
    sym (quiet_from c.args.self 1 c.counted.result c.args.ticks c.args.ticks first c.requires.some (omega arith))
