use Rattle.std.proofs.Common.{◌≡◌, take}
use Rattle.t1s_harness.specs.Distances.{tap_at}
use Rattle.t1s_world.specs.Hearing.{heard_of, arriving_from}
use Rattle.t1s_cable.specs.Rings.{put_at}
use Rattle.t1s_cable.proofs.kept.hear_at.Given as goal

abbrev pub invariant-loop-i : goal.invariant-loop-i
invariant-loop-i l = l.heard ≡ heard_of (arriving_from (put_at l.row l.rings l.clock) l.j (tap_at l.taps l.j) 0 (take l.i l.taps))
