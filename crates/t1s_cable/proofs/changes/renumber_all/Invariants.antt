use Rattle.std.proofs.Common.{◌≡◌, ◌+◌, ℕ, ◌<◌, ◌≤◌, length}
use Rattle.t1s_cable.specs.Changes.{SameRing, lap, ring_at}
use Rattle.t1s_cable.proofs.changes.renumber_all.Given as goal

abbrev pub invariant-loop-i : goal.invariant-loop-i
invariant-loop-i l =
    record {
      sizes : length l.rings ≡ length l.initial.rings;
      told : (k : ℕ) → k < l.i → SameRing (lap + lap) lap (ring_at l.initial.rings k) (ring_at l.rings k);
      left : (k : ℕ) → l.i ≤ k → ring_at l.rings k ≡ ring_at l.initial.rings k;
    }
