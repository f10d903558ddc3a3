use Rattle.std.proofs.Common.{codes, decimal}
use Rattle.t1s_report.proofs.Counts.{eight_counts}
use Rattle.t1s_report.proofs.summary_lines.node_line.Goals as goal

pub returns : goal.returns
returns c =
    let n = c.args.t.now in
    rw (c.text.ensures.value, c.count-8.ensures.value, c.count-7.ensures.value, c.count-6.ensures.value, c.count-5.ensures.value, c.count-4.ensures.value, c.count-3.ensures.value, c.count-2.ensures.value, c.count.ensures.value, c.clear.ensures, c.from.ensures)
    (eight_counts (codes "node ") (decimal n.node) (codes " sent ") (decimal n.sent) (codes " full ") (decimal n.full) (codes " jam ") (decimal n.jam) (codes " drop ") (decimal n.drop) (codes " good ") (decimal n.good) (codes " bad ") (decimal n.bad) (codes " clash ") (decimal n.clash) (codes "\n"))
