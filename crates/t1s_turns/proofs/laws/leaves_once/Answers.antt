use Rattle.t1s_turns.proofs.LeavingsOnce.{leaves_once}
use Rattle.t1s_turns.proofs.laws.leaves_once.Goals as goal

pub returns : goal.returns
returns g c set room draws given end calm rank ascends =
    leaves_once g.D.Draws.answer g.D.Draws.after set room draws given end calm rank ascends
