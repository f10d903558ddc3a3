use Rattle.std.proofs.Common.{take}
use Rattle.t1s_acts.specs.Upcoming.{AreWithin}
use Rattle.t1s_acts.proofs.offer_states.last_number.Given as goal

abbrev pub invariant-loop-act : goal.invariant-loop-act
invariant-loop-act l = AreWithin (take l.act-index l.acts) l.last
