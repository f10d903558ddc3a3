use Rattle.std.proofs.Common.{codes, decimal}
use Rattle.t1s_report.proofs.Counts.{three_counts}
use Rattle.t1s_report.proofs.item_lines.run_line.Goals as goal

pub returns : goal.returns
returns c =
    rw (c.text.ensures.value, c.count-3.ensures.value, c.count-2.ensures.value, c.count.ensures.value, c.clear.ensures)
    (three_counts (codes "run ") (decimal c.args.start) (codes " ") (decimal c.args.end) (codes " ") (decimal c.args.pieces) (codes "\n"))
