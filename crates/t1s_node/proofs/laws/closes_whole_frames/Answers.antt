use Rattle.t1s_node.proofs.AnyClosed.{closes_whole_frames}
use Rattle.t1s_node.proofs.laws.closes_whole_frames.Goals as goal

pub returns : goal.returns
returns g c = closes_whole_frames g.D.Draws.answer g.D.Draws.after
