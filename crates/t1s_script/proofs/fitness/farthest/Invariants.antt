use Rattle.std.proofs.Common.{◌≡◌, max, drop, map}
use Rattle.t1s_harness.specs.Distances.{farthest}
use Rattle.t1s_script.specs.Taps.{tap_of}
use Rattle.t1s_script.proofs.fitness.farthest.Given as goal

-- the most so far, or what the nodes that are left give, is what all nodes give
abbrev pub invariant-loop-node : goal.invariant-loop-node
invariant-loop-node l = max l.most (farthest l.tap (map tap_of (drop l.node-index l.nodes))) ≡ farthest l.tap (map tap_of l.nodes)
