use Rattle.std.proofs.Common.{◌≡◌, take}
use Rattle.t1s_acts.proofs.upcoming.UpcomingActs.new.Given as goal

abbrev pub invariant-loop-act : goal.invariant-loop-act
invariant-loop-act l = l.upcoming.items ≡ take l.act-index l.acts
