use Rattle.std.proofs.Common.{add-one}
use Rattle.t1s_turns.proofs.FirstFrameQuiet.{waits_for_quiet}
use Rattle.t1s_turns.proofs.laws.waits_for_quiet.Goals as goal

pub returns : goal.returns
returns g c set room draws given end calm t within active out =
    rw (add-one t) (waits_for_quiet g.D.Draws.answer g.D.Draws.after set room draws given end calm t within active out)
