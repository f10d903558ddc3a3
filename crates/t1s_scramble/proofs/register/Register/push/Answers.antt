use Rattle.t1s_scramble.proofs.Taps.{history-pushed}
use Rattle.t1s_scramble.proofs.register.Register.push.Goals as goal

pub returns : goal.returns
returns c =
    rw (c.from.ensures, ← c.self.view_is) (history-pushed c.self.inside.bits c.args.nibble c.self.invariant c.requires)
