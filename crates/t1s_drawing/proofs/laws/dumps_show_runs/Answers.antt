use Rattle.t1s_drawing.proofs.DumpRuns.{dumps_show_runs as law}
use Rattle.t1s_drawing.proofs.laws.dumps_show_runs.Goals as goal

pub returns : goal.returns
returns c = law
