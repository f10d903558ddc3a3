use Rattle.std.proofs.Common.{◌<◌, ◌≤◌, take}
use Rattle.t1s_segment.specs.Stretches.{AllCalm, OneActs}
use Rattle.t1s_segment.proofs.calm.nodes_calm_for.Given as goal

abbrev pub invariant-loop-node : goal.invariant-loop-node
invariant-loop-node g l =
    let m = g.N.NodeMachine in
    record {
      within : l.calm ≤ l.most;
      calm : AllCalm m.phases m.calm l.tick l.calm (take l.node-index l.nodes);
      ends : l.calm < l.most → OneActs m.phases m.calm l.tick l.calm l.nodes;
    }
