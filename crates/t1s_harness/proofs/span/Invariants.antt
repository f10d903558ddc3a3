use Rattle.std.proofs.Common.{◌≡◌, max, drop}
use Rattle.t1s_harness.specs.Distances.{span}
use Rattle.t1s_harness.proofs.span.Given as goal

-- the most so far, or what the nodes that are left give, is what all nodes give
abbrev pub invariant-loop-i : goal.invariant-loop-i
invariant-loop-i l = max l.most (span (drop l.i l.taps)) ≡ span l.taps
