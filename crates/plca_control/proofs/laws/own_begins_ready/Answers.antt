use Rattle.plca_control.proofs.RunLaws.{begins_ready}
use Rattle.plca_control.proofs.laws.own_begins_ready.Goals as goal

pub returns : goal.returns
returns c s given t = begins_ready s given t
