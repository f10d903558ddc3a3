use Rattle.std.proofs.Common.{ℕ, ◌<◌}
use Rattle.t1s_cable.specs.Calm.{AllHearNothing, later}
use Rattle.t1s_cable.specs.Rings.{put_at}
use Rattle.t1s_cable.proofs.calm.calm_ticks.Given as goal

abbrev pub invariant-loop-n : goal.invariant-loop-n
invariant-loop-n l = (m : ℕ) → m < l.n → AllHearNothing l.taps (later m (put_at l.row l.rings l.clock))
