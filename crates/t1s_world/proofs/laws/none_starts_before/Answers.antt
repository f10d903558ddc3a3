use Rattle.t1s_world.proofs.ChainWaves.{window}
use Rattle.t1s_world.proofs.laws.none_starts_before.Goals as goal

pub returns : goal.returns
returns g c next far at n nodes span is_far rise short = window next far at n nodes span is_far rise short
