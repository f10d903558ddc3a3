use Rattle.plca_control.proofs.RunLaws.{commit_until_begun}
use Rattle.plca_control.proofs.laws.holds_until_begun.Goals as goal

pub returns : goal.returns
returns c s given t = commit_until_begun s given t
