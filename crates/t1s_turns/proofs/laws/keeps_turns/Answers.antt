use Rattle.std.proofs.Common.{refl, ◌+◌}
use Rattle.t1s_turns.proofs.DrawBounds.{picked_draws}
use Rattle.t1s_turns.proofs.TurnLaw.{turn_at}
use Rattle.t1s_turns.proofs.laws.keeps_turns.Goals as goal

pub returns : goal.returns
returns c set room draws given begin ws is_set low_ids frames u waves hears =
    turn_at picked_draws set is_set low_ids room draws given frames begin (begin + u) ws waves hears u refl
