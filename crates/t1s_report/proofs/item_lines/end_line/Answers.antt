use Rattle.std.proofs.Common.{codes, decimal}
use Rattle.t1s_report.proofs.Counts.{seven_counts}
use Rattle.t1s_report.proofs.item_lines.end_line.Goals as goal

pub returns : goal.returns
returns c =
    let n = c.args.n.now in
    rw (c.text.ensures.value, c.count-7.ensures.value, c.count-6.ensures.value, c.count-5.ensures.value, c.count-4.ensures.value, c.count-3.ensures.value, c.count-2.ensures.value, c.count.ensures.value, c.clear.ensures)
    (seven_counts (codes "end ") (decimal n.ticks) (codes " beacons ") (decimal n.beacons) (codes " runs ") (decimal n.runs) (codes " bare ") (decimal n.bare) (codes " torn ") (decimal n.torn) (codes " pieces ") (decimal n.pieces) (codes " good ") (decimal n.good) (codes "\n"))
