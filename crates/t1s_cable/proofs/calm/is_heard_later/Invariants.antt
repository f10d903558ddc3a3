use Rattle.std.proofs.Common.{◌≡◌, ℕ, ◌<◌, false, is_some, length}
use Rattle.t1s_harness.specs.Distances.{tap_at}
use Rattle.t1s_world.specs.Hearing.{arriving}
use Rattle.t1s_cable.specs.Calm.{later}
use Rattle.t1s_cable.specs.Rings.{put_at}
use Rattle.t1s_cable.proofs.calm.is_heard_later.Given as goal

abbrev pub invariant-loop-i : goal.invariant-loop-i
invariant-loop-i l =
    (i : ℕ) → i < l.i → (j : ℕ) → j < length l.taps
    → is_some (arriving (later l.ticks (put_at l.row l.rings l.clock)) j (tap_at l.taps j) i (tap_at l.taps i)) ≡ false
