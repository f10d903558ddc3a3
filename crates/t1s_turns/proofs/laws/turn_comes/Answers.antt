use Rattle.std.proofs.Common.{arith}
use Rattle.t1s_turns.proofs.NextTurn.{next_turn}
use Rattle.t1s_turns.proofs.laws.turn_comes.Goals as goal

pub returns : goal.returns
returns c n begin now ws longest unit is waves most big mine owned r a rest e within =
    next_turn n is now longest unit mine r (omega (arith, big)) owned within begin ws a rest waves most e
