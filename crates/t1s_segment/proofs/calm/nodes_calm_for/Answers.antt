use Rattle.std.proofs.Common.{arith}
use Rattle.std.proofs.lemmas.List.{take_all}
use Rattle.t1s_segment.proofs.NodeStretches.{calm_more, ends_more}
use Rattle.t1s_segment.proofs.calm.nodes_calm_for.Goals as goal

pub loop-node-preserved : goal.loop-node-preserved
loop-node-preserved g c =
    let m = g.N.NodeMachine in
    let before = c.loop-node.invariant in
    let xs = c.args.nodes.now in
    let i = c.loop-node.node-index in
    let x = c.node-item.result in
    let long = c.calm_for-calm.ensures in
    record {
      within = omega (arith, before.within, long.within);
      calm = calm_more m.phases m.calm c.args.tick xs i x c.loop-node-test.true c.node-item.is c.loop-node.calm c.calm_for-calm.result long before.calm;
      ends = ends_more m.phases m.calm c.args.tick xs i x c.loop-node-test.true c.node-item.is c.loop-node.calm c.calm_for-calm.result long c.args.most before.within before.ends;
    }

pub returns-then-calm-eq0-clause-ends : goal.returns-then-calm-eq0-clause-ends
returns-then-calm-eq0-clause-ends g c =
    let m = g.N.NodeMachine in
    let before = c.loop-node.invariant in
    rw c.if-calm-eq0.true at
    (ends_more m.phases m.calm c.args.tick c.args.nodes.now c.loop-node.node-index c.node-item.result c.loop-node-test.true c.node-item.is c.loop-node.calm c.calm_for-calm.result
    c.calm_for-calm.ensures c.args.most before.within before.ends)

pub returns : goal.returns
returns g c =
    let before = c.loop-node.invariant in
    record {
      within = before.within;
      calm = rw (take_all c.loop-node.node-index c.args.nodes.now c.loop-node-test.false) at before.calm;
      ends = before.ends;
    }
