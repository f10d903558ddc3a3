use Rattle.t1s_reception.proofs.HeardAlone.{heard_alone_arrives}
use Rattle.t1s_reception.proofs.laws.heard_alone_arrives.Goals as goal

pub returns : goal.returns
returns c = heard_alone_arrives
