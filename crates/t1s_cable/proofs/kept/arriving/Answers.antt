use Rattle.std.proofs.Common.{ℕ, get_or, sym}
use Rattle.t1s_cable.specs.Rings.{put_at}
use Rattle.t1s_cable.proofs.Silence.{arriving_none}
use Rattle.t1s_cable.proofs.kept.arriving.Goals as goal

pub returns-then-carried-i-eq0 : goal.returns-then-carried-i-eq0
returns-then-carried-i-eq0 c =
    let a = c.args in
    sym (arriving_none a.taps.now (λ (k : ℕ). get_or a.carried.now k 0) (put_at a.row.now a.rings.now a.clock) c.requires.quiet a.j a.i
    c.requires.in_range c.requires.other_in_range c.if-carried-i-eq0.true)
