use Rattle.t1s_line.proofs.CalmScripts.{calm_quiet}
use Rattle.t1s_line.proofs.laws.calm_ticks_are_quiet.Goals as goal

pub returns : goal.returns
returns c = calm_quiet
