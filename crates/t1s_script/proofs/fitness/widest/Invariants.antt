use Rattle.std.proofs.Common.{◌≡◌, max, drop, map}
use Rattle.t1s_harness.specs.Distances.{span}
use Rattle.t1s_script.specs.Taps.{tap_of}
use Rattle.t1s_script.proofs.fitness.widest.Given as goal

-- the most so far, or what the nodes that are left give, is what all nodes give
abbrev pub invariant-loop-i : goal.invariant-loop-i
invariant-loop-i l = max l.most (span (map tap_of (drop l.i l.nodes))) ≡ span (map tap_of l.nodes)
