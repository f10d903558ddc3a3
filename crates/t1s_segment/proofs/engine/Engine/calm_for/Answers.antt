use Rattle.t1s_segment.specs.State.{EngineState}
use Rattle.t1s_segment.proofs.EngineStretches.{all_calm, node_first}
use Rattle.t1s_segment.proofs.engine.Engine.calm_for.Goals as goal

pub returns-then-calm-eq0 : goal.returns-then-calm-eq0
returns-then-calm-eq0 g c =
    let m = g.N.NodeMachine in
    let old = c.self.inside in
    let before : EngineState g.row.N.Denot = record {
      tick = old.tick;
      end = old.end;
      settled = old.settled;
      upcoming = old.upcoming;
      noise_until = old.noise_until;
      nodes = old.nodes.items;
      cable = old.cable;
      totals = old.totals.items;
      states = old.states.items;
      heard = old.heard.items;
    } in
    rw (← c.self.view_is)
    (node_first m.phases m.calm before c.args.most c.self.invariant.in_time c.if-noisy.false c.min-most.result c.min-most.ensures c.nodes_calm_for-calm.result c.if-calm-eq0.true
    (rw c.as_slice.ensures.value at c.nodes_calm_for-calm.ensures.ends))

pub returns : goal.returns
returns g c =
    let m = g.N.NodeMachine in
    let old = c.self.inside in
    let before : EngineState g.row.N.Denot = record {
      tick = old.tick;
      end = old.end;
      settled = old.settled;
      upcoming = old.upcoming;
      noise_until = old.noise_until;
      nodes = old.nodes.items;
      cable = old.cable;
      totals = old.totals.items;
      states = old.states.items;
      heard = old.heard.items;
    } in
    let silent = c.calm_for.ensures in
    rw (← c.self.view_is)
    (all_calm m.phases m.calm before c.args.most c.self.invariant.in_time c.if-noisy.false c.min-most.result c.min-most.ensures c.nodes_calm_for-calm.result c.free_for-free.result
    c.calm_for.result c.nodes_calm_for-calm.ensures.within
    (rw c.as_slice.ensures.value at c.nodes_calm_for-calm.ensures.calm)
    (rw c.as_slice.ensures.value at c.nodes_calm_for-calm.ensures.ends)
    c.free_for-free.ensures silent.most silent.calm (λ short rows stands. silent.greatest rows stands short))
