use Rattle.std.proofs.Common.{◌≡◌, max, drop}
use Rattle.t1s_harness.specs.Distances.{farthest}
use Rattle.t1s_harness.proofs.farthest.Given as goal

-- the most so far, or what the nodes that are left give, is what all nodes give
abbrev pub invariant-loop-other : goal.invariant-loop-other
invariant-loop-other l = max l.most (farthest l.tap (drop l.other-index l.taps)) ≡ farthest l.tap l.taps
