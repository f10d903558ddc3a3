use Rattle.plca_control.proofs.RunLaws.{holds, not_own}
use Rattle.plca_control.proofs.laws.command_tells_own.Goals as goal

pub returns : goal.returns
returns c s given t = (holds s given t, not_own s given t)
