use Rattle.plca_control.proofs.RunLaws.{pause_until_begun}
use Rattle.plca_control.proofs.laws.pauses_until_begun.Goals as goal

pub returns : goal.returns
returns c s given t = pause_until_begun s given t
