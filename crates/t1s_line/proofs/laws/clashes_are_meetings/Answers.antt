use Rattle.t1s_line.proofs.Meetings.{clashes_are_meetings as it_holds}
use Rattle.t1s_line.proofs.laws.clashes_are_meetings.Goals as goal

pub returns : goal.returns
returns c = it_holds
