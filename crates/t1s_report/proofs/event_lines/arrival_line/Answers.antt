use Rattle.std.proofs.Common.{List, ◌++◌, ap, codes, decimal, ℕ}
use Rattle.t1s_report.specs.ArrivalTexts.{kind_text}
use Rattle.t1s_report.proofs.Counts.{fourth_field}
use Rattle.t1s_report.proofs.event_lines.arrival_line.Goals as goal

pub returns : goal.returns
returns c =
    rw (c.text-2.ensures.value, c.kind_text.ensures.value, c.text.ensures.value, c.node_fields.ensures.value)
    (ap (λ (r : List ℕ). r ++ codes "\n") (fourth_field (decimal c.args.tick) (codes "arrive") (decimal c.args.node) (kind_text c.args.kind c.args.frame.now)))
