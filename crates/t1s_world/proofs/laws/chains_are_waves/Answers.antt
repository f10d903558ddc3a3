use Rattle.t1s_world.proofs.ChainWaves.{are_behind}
use Rattle.t1s_world.proofs.laws.chains_are_waves.Goals as goal

pub returns : goal.returns
returns g c next far at n nodes span z first is_far rise short ds chain j here = are_behind next far at n nodes span is_far rise short z first j here ds chain
