use Rattle.std.proofs.Common.{◌≡◌, true, false, length, sym, ap, ◌∙◌, arith}
use Rattle.std.specs.Option.{is_some}
use Rattle.t1s_base.specs.Limits.{most_nodes}
use Rattle.t1s_line.specs.World.{totals_below}
use Rattle.t1s_report.proofs.Ascending.{keyed_at, none_below, counts_one, counts_none}
use Rattle.t1s_report.proofs.NodeTotals.{number_of, totals_ascend, totals_all_below}
use Rattle.t1s_report.proofs.summary_lines.node_count.Goals as goal
use Rattle.t1s_report.proofs.summary_lines.node_count.Goals.{then-is_some, else-is_some}

pub loop-node-init : goal.loop-node-init
loop-node-init c = record {
  counted = λ s t stands. sym (ap length (none_below number_of 0 0 (totals_below s t) (totals_ascend s t stands.valid) (omega arith)));
  few = omega arith;
}

pub loop-node-preserved : goal.loop-node-preserved
loop-node-preserved c = elim c.if-is_some.branch [
  | then-is_some w ↦ record {
    counted = λ s t stands.
        let so_far = c.loop-node.invariant.counted s t stands in
        let found : is_some (keyed_at number_of c.loop-node.node (totals_below s t)) ≡ true = ap is_some (sym (c.totals.ensures s t stands)) ∙ (sym c.is_some.ensures ∙ w.if-is_some.true) in
        let more = counts_one number_of 0 c.loop-node.node (totals_below s t) (totals_ascend s t stands.valid) found in
        omega (arith, w.nodes-is);
    few = omega (arith, w.nodes-is);
  }
  | else-is_some w ↦ record {
    counted = λ s t stands.
        let so_far = c.loop-node.invariant.counted s t stands in
        let missed : is_some (keyed_at number_of c.loop-node.node (totals_below s t)) ≡ false = ap is_some (sym (c.totals.ensures s t stands)) ∙ (sym c.is_some.ensures ∙ w.if-is_some.false) in
        let same = counts_none number_of 0 c.loop-node.node (totals_below s t) (totals_ascend s t stands.valid) missed in
        omega (arith, w.nodes-is);
    few = omega (arith, w.nodes-is);
  }
]

pub returns-clause-nodes : goal.returns-clause-nodes
returns-clause-nodes c s t stands =
    let so_far = c.loop-node.invariant.counted s t stands in
    let last : c.loop-node.node ≡ most_nodes = omega arith in
    so_far ∙ ap length (rw last (totals_all_below s t stands.valid))
