use Rattle.t1s_reception.proofs.LeavingHeard.{leavings_heard_alone_arrive}
use Rattle.t1s_reception.proofs.laws.leavings_heard_alone_arrive.Goals as goal

pub returns : goal.returns
returns c = leavings_heard_alone_arrive
