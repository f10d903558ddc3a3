use Rattle.std.proofs.Common.{codes, decimal}
use Rattle.t1s_report.specs.ArrivalTexts.{kind_text}
use Rattle.t1s_report.specs.ItemLines.{closer_name}
use Rattle.t1s_report.proofs.Counts.{five_counts}
use Rattle.t1s_report.proofs.item_lines.piece_line.Goals as goal

pub returns : goal.returns
returns c =
    let v = c.args.view.now in
    rw (c.text-4.ensures.value, c.kind_text.ensures.value, c.text-3.ensures.value, c.text-2.ensures.value, c.closer_name.ensures.value, c.text.ensures.value, c.count-3.ensures.value, c.count-2.ensures.value, c.count.ensures.value, c.clear.ensures, c.from.ensures, c.from-2.ensures)
    (five_counts (codes "piece ") (decimal c.args.start) (codes " ") (decimal v.lead) (codes " ") (decimal v.groups) (codes " ") (closer_name v.closer) (codes " ") (kind_text v.kind v.frame.now) (codes "\n"))
