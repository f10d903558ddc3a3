use Rattle.std.proofs.Common.{◌≡◌, ◌≤◌, length, sym, ap, ◌∙◌, arith}
use Rattle.std.proofs.lemmas.Option.{slice_get_past}
use Rattle.t1s_base.specs.Limits.{most_nodes}
use Rattle.t1s_line.specs.World.{totals_below}
use Rattle.t1s_report.proofs.Ascending.{keyed_below, none_below, found_after, count_found, count_missed}
use Rattle.t1s_report.proofs.NodeTotals.{number_of, totals_ascend, totals_all_below}
use Rattle.t1s_report.proofs.summary_lines.totals_at.Goals as goal
use Rattle.t1s_report.proofs.summary_lines.totals_at.Goals.{in-Some+else-nodes-k, in_default}

pub loop-node-init : goal.loop-node-init
loop-node-init c = record {
  counted = λ s t stands. sym (ap length (none_below number_of 0 0 (totals_below s t) (totals_ascend s t stands.valid) (omega arith)));
  few = omega arith;
  before = omega arith;
}

pub loop-node-preserved : goal.loop-node-preserved
loop-node-preserved c = elim c.match-totals.branch [
  | in-Some+else-nodes-k w ↦ record {
    counted = λ s t stands.
        let so_far = c.loop-node.invariant.counted s t stands in
        let more = count_found number_of 0 c.loop-node.node w.in-Some.totals (totals_below s t) (totals_ascend s t stands.valid) (sym (c.totals.ensures s t stands) ∙ w.in-Some.is) in
        omega arith;
    few = omega arith;
    before = omega arith;
  }
  | in_default w ↦ record {
    counted = λ s t stands.
        let so_far = c.loop-node.invariant.counted s t stands in
        let same = count_missed number_of 0 c.loop-node.node (totals_below s t) (totals_ascend s t stands.valid) (sym (c.totals.ensures s t stands) ∙ w.in_default.is) in
        omega arith;
    few = omega arith;
    before = omega arith;
  }
]

pub returns-then-nodes-k-clause-totals : goal.returns-then-nodes-k-clause-totals
returns-then-nodes-k-clause-totals c s t stands =
    let so_far = c.loop-node.invariant.counted s t stands in
    let here : c.args.k ≡ length (keyed_below number_of c.loop-node.node (totals_below s t)) = omega arith in
    rw here (sym (found_after number_of 0 c.loop-node.node c.in-Some.totals (totals_below s t) (totals_ascend s t stands.valid) (sym (c.totals.ensures s t stands) ∙ c.in-Some.is)))

pub returns-clause-totals : goal.returns-clause-totals
returns-clause-totals c s t stands =
    let so_far = c.loop-node.invariant.counted s t stands in
    let last : c.loop-node.node ≡ most_nodes = omega arith in
    let all : keyed_below number_of c.loop-node.node (totals_below s t) ≡ totals_below s t = rw last (totals_all_below s t stands.valid) in
    let few : length (totals_below s t) ≤ c.args.k = omega (arith, ap length all) in
    sym (slice_get_past (totals_below s t) c.args.k few)
