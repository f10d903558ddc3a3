use Rattle.t1s_capture.proofs.Whole.{nothing_more}
use Rattle.t1s_capture.proofs.laws.ends_itself.Goals as goal

pub returns : goal.returns
returns c octets more h k = nothing_more octets more h k
