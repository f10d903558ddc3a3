use Rattle.std.proofs.Common.{◌≡◌, sym, ap, ◌∙◌, map, arith}
use Rattle.t1s_base.specs.Limits.{most_nodes}
use Rattle.t1s_line.specs.World.{totals_below}
use Rattle.t1s_report.specs.JsonSummary.{node_value}
use Rattle.t1s_report.proofs.Ascending.{keyed_below}
use Rattle.t1s_report.proofs.JsonValues.{no_value, value_found, value_missed}
use Rattle.t1s_report.proofs.NodeTotals.{number_of, totals_ascend, totals_all_below}
use Rattle.t1s_report.proofs.json_summary.node_values.Goals as goal
use Rattle.t1s_report.proofs.json_summary.node_values.Goals.{in-Some+in_ok-node_value+in_ok-push, in_default}

pub loop-node-init : goal.loop-node-init
loop-node-init c s t stands = rw c.new-nodes.ensures.items (no_value number_of node_value (totals_below s t) 0 (totals_ascend s t stands.valid) 0 (omega arith))

pub loop-node-preserved : goal.loop-node-preserved
loop-node-preserved c = elim c.match-totals.branch [
  | in-Some+in_ok-node_value+in_ok-push w ↦ λ s t stands.
      rw (w.nodes-is, w.in_ok-push.ensures.items)
      (value_found number_of node_value (totals_below s t) 0 (totals_ascend s t stands.valid) c.loop-node.node w.in-Some.totals c.loop-node.nodes.items w.in_ok-node_value.field-0
      (sym (c.totals.ensures s t stands) ∙ w.in-Some.is) w.in_ok-node_value.ensures (c.loop-node.invariant s t stands))
  | in_default w ↦ λ s t stands.
      rw w.nodes-is
      (value_missed number_of node_value (totals_below s t) 0 (totals_ascend s t stands.valid) c.loop-node.node c.loop-node.nodes.items
      (sym (c.totals.ensures s t stands) ∙ w.in_default.is) (c.loop-node.invariant s t stands))
]

pub returns : goal.returns
returns c s t stands =
    let last : c.loop-node.node ≡ most_nodes = omega arith in
    let all : keyed_below number_of c.loop-node.node (totals_below s t) ≡ totals_below s t = rw last (totals_all_below s t stands.valid) in
    c.loop-node.invariant s t stands ∙ ap (map node_value) all
