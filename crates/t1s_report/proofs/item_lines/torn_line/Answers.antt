use Rattle.std.proofs.Common.{codes, decimal}
use Rattle.t1s_report.proofs.Counts.{four_counts}
use Rattle.t1s_report.proofs.item_lines.torn_line.Goals as goal

pub returns : goal.returns
returns c =
    rw (c.text.ensures.value, c.count-4.ensures.value, c.count-3.ensures.value, c.count-2.ensures.value, c.count.ensures.value, c.clear.ensures)
    (four_counts (codes "torn ") (decimal c.args.start) (codes " ") (decimal c.args.end) (codes " ") (decimal c.args.symbols) (codes " ") (decimal c.args.blur) (codes "\n"))
