use Rattle.t1s_scramble.specs.Scrambled.{scrambled_nibble, descrambled_nibble}
use Rattle.t1s_scramble.proofs.Taps.{tapped_is, tapped-below, same_four}
use Rattle.t1s_scramble.proofs.register.Register.mixed.Goals as goal

pub returns-clause-scrambled : goal.returns-clause-scrambled
unfolding scrambled_nibble
returns-clause-scrambled c = rw (c.from.ensures, ← c.self.view_is) (tapped_is c.self.inside.bits c.args.nibble c.requires)

pub returns-clause-descrambled : goal.returns-clause-descrambled
unfolding descrambled_nibble
returns-clause-descrambled c =
    rw (c.from.ensures, ← c.self.view_is, ← same_four) (tapped_is c.self.inside.bits c.args.nibble c.requires)

pub returns-clause-range : goal.returns-clause-range
returns-clause-range c = rw c.from.ensures (tapped-below c.self.inside.bits c.args.nibble c.requires)
