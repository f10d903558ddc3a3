use Rattle.std.proofs.Common.{List, ◌++◌, ap, codes, decimal, ℕ}
use Rattle.t1s_report.specs.EventLines.{status_word}
use Rattle.t1s_report.proofs.Counts.{fourth_field}
use Rattle.t1s_report.proofs.event_lines.status_line.Goals as goal

pub returns : goal.returns
returns c =
    rw (c.text-3.ensures.value, c.text-2.ensures.value, c.status_word.ensures.value, c.text.ensures.value, c.node_fields.ensures.value)
    (ap (λ (r : List ℕ). r ++ codes "\n") (fourth_field (decimal c.args.tick) (codes "status") (decimal c.args.node) (status_word c.args.ok)))
