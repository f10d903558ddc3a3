use Rattle.t1s_scramble.proofs.Nibbles.{scrambler_after-one}
use Rattle.t1s_scramble.proofs.Scrambler.scramble.Goals as goal

pub returns-clause-history : goal.returns-clause-history
returns-clause-history c =
    rw (c.push.ensures, c.mixed-scrambled.ensures.scrambled, c.self.view_is, scrambler_after-one)
