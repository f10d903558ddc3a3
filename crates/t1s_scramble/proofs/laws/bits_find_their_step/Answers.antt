use Rattle.t1s_scramble.proofs.InStep.{finds_step}
use Rattle.t1s_scramble.proofs.laws.bits_find_their_step.Goals as goal

pub returns : goal.returns
returns c = finds_step
