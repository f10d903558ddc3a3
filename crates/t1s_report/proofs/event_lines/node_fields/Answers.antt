use Rattle.std.proofs.Common.{decimal}
use Rattle.t1s_report.proofs.Counts.{three_fields}
use Rattle.t1s_report.proofs.event_lines.node_fields.Goals as goal

pub returns-clause-value : goal.returns-clause-value
returns-clause-value c =
    rw (c.count.ensures.value, c.text-2.ensures.value, c.text.ensures.value, c.number.ensures.value, c.clear.ensures, c.from.ensures)
    (three_fields (decimal c.args.tick) c.args.what.now (decimal c.args.node))
