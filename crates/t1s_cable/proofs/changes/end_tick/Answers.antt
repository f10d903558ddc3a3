use Rattle.std.proofs.Common.{refl}
use Rattle.t1s_cable.proofs.changes.end_tick.Goals as goal

pub returns-clause-rings : goal.returns-clause-rings
returns-clause-rings c =
    record { tick = c.low_tick-tick.result; told = c.low_tick-tick.new.rings; next = refl; same = c.low_tick-tick.ensures; kept = c.keep_row.ensures.rings }
