use Rattle.t1s_schedule.proofs.FitRuns.{shares_line}
use Rattle.t1s_schedule.proofs.laws.shares_the_line.Goals as goal

pub returns : goal.returns
returns c = shares_line
