use Rattle.std.proofs.Common.{List, ◌++◌, ap, codes, decimal, ℕ}
use Rattle.t1s_report.proofs.Counts.{fourth_field}
use Rattle.t1s_report.proofs.event_lines.frame_event_line.Goals as goal

pub returns : goal.returns
returns c =
    rw (c.text.ensures.value, c.count.ensures.value, c.node_fields.ensures.value, c.from.ensures)
    (ap (λ (r : List ℕ). r ++ codes "\n") (fourth_field (decimal c.args.tick) c.args.what.now (decimal c.args.node) (decimal c.args.frame)))
