use Rattle.std.proofs.Common.{ap, ◌∙◌, List}
use Rattle.std.specs.Prelude.{◌==◌, find}
use Rattle.t1s_line.specs.declared.totals.NodeTotals.{NodeTotals}
use Rattle.t1s_line.proofs.TotalsTold.{totals_are}
use Rattle.t1s_segment.proofs.segment.Segment.totals.Goals as goal

pub returns : goal.returns
returns c s t stands =
    let before = rw (← c.self.view_is) at stands in
    c.totals.ensures ∙ ap (λ (ns : List NodeTotals). find (λ (n : NodeTotals). n.node == c.args.node) ns) (before.plays.totals ∙ totals_are s t before.valid before.in_time)
