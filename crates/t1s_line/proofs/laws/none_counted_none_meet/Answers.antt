use Rattle.t1s_line.proofs.Meetings.{none_counted_none_meet as it_holds}
use Rattle.t1s_line.proofs.laws.none_counted_none_meet.Goals as goal

pub returns : goal.returns
returns c = it_holds
