use Rattle.t1s_turns.proofs.OwnRunLaw.{owns_a_run}
use Rattle.t1s_turns.proofs.laws.owns_a_run.Goals as goal

pub returns : goal.returns
returns g c set room draws given t end small calm within own before =
    owns_a_run g.D.Draws.answer g.D.Draws.after set room draws given end calm t small within own before
