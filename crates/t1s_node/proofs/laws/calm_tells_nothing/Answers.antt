use Rattle.t1s_node.proofs.CalmTold.{tells_nothing}
use Rattle.t1s_node.proofs.laws.calm_tells_nothing.Goals as goal

pub returns : goal.returns
returns c n calm = tells_nothing n calm
