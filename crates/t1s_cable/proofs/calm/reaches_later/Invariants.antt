use Rattle.std.proofs.Common.{◌≡◌, ℕ, ◌<◌, false, is_some}
use Rattle.t1s_harness.specs.Distances.{tap_at}
use Rattle.t1s_world.specs.Hearing.{arriving}
use Rattle.t1s_cable.specs.Calm.{later}
use Rattle.t1s_cable.specs.Rings.{put_at}
use Rattle.t1s_cable.proofs.calm.reaches_later.Given as goal

abbrev pub invariant-loop-j : goal.invariant-loop-j
invariant-loop-j l =
    (k : ℕ) → k < l.j → is_some (arriving (later l.ticks (put_at l.row l.rings l.clock)) k (tap_at l.taps k) l.i (tap_at l.taps l.i)) ≡ false
