use Rattle.t1s_scramble.proofs.Nibbles.{nibbles_find_step}
use Rattle.t1s_scramble.proofs.laws.nibbles_find_their_step.Goals as goal

pub returns : goal.returns
returns c = nibbles_find_step
