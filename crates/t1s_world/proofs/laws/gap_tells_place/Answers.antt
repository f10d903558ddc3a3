use Rattle.t1s_world.proofs.ChainWaves.{gap_tells}
use Rattle.t1s_world.proofs.laws.gap_tells_place.Goals as goal

pub returns : goal.returns
returns c = gap_tells
