use Rattle.plca_control.proofs.RunLaws.{transmits_once_begun, transmits_until_closed}
use Rattle.plca_control.proofs.laws.transmits_until_closed.Goals as goal

pub returns : goal.returns
returns c s given t own = (transmits_once_begun s given t own, transmits_until_closed s given t)
