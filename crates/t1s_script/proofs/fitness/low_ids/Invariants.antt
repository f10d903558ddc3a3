use Rattle.std.proofs.Common.{◌≡◌, drop}
use Rattle.t1s_script.specs.Fit.{with_high_id}
use Rattle.t1s_script.proofs.fitness.low_ids.Given as goal

-- all IDs are low so far, so what is left tells the first that isn't
abbrev pub invariant-loop-node : goal.invariant-loop-node
invariant-loop-node l = with_high_id l.count (drop l.node-index l.nodes) ≡ with_high_id l.count l.nodes
