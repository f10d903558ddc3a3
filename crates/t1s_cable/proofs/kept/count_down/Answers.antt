use Rattle.std.proofs.Common.{arith}
use Rattle.t1s_cable.proofs.Silence.{counted_more}
use Rattle.t1s_cable.proofs.kept.count_down.Goals as goal

pub loop-left-preserved : goal.loop-left-preserved
loop-left-preserved c =
    rw (c.saturating_sub.ensures, c.loop-left.invariant)
    (counted_more c.args.ticks.now c.loop-left.left-index (omega arith))
