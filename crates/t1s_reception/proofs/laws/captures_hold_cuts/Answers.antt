use Rattle.t1s_reception.proofs.CaptureOfNode.{captures_hold_cuts}
use Rattle.t1s_reception.proofs.laws.captures_hold_cuts.Goals as goal

pub returns : goal.returns
returns c = captures_hold_cuts
