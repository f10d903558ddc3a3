use Rattle.t1s_line.proofs.FramelessRuns.{frameless_nodes_beacon as it_holds}
use Rattle.t1s_line.proofs.laws.frameless_nodes_beacon.Goals as goal

pub returns : goal.returns
returns c = it_holds
