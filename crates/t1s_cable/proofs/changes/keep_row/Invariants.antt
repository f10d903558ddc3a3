use Rattle.std.proofs.Common.{◌≡◌, ◌++◌, ℕ, ◌<◌, ◌≤◌, drop, replicate, None, length, get_or}
use Rattle.t1s_cable.specs.Changes.{KeepsTick, ring_at}
use Rattle.t1s_cable.proofs.changes.keep_row.Given as goal

abbrev pub invariant-loop-i : goal.invariant-loop-i
invariant-loop-i l =
    record {
      row : l.row ≡ replicate l.i None ++ drop l.i l.initial.row;
      sizes : length l.rings ≡ length l.initial.rings;
      kept : (k : ℕ) → k < l.i → KeepsTick l.tick (get_or l.initial.row k None) (ring_at l.initial.rings k) (ring_at l.rings k);
      left : (k : ℕ) → l.i ≤ k → ring_at l.rings k ≡ ring_at l.initial.rings k;
    }
