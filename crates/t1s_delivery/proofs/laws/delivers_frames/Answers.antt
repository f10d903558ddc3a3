use Rattle.t1s_delivery.proofs.FitRuns.{delivers}
use Rattle.t1s_delivery.proofs.laws.delivers_frames.Goals as goal

pub returns : goal.returns
returns c = delivers
