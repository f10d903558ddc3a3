use Rattle.t1s_scramble.proofs.Nibbles.{descrambler_after-one}
use Rattle.t1s_scramble.proofs.Descrambler.descramble.Goals as goal

pub returns-clause-history : goal.returns-clause-history
returns-clause-history c = rw (c.push.ensures, c.self.view_is, descrambler_after-one)
