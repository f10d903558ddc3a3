use Rattle.t1s_grammar.proofs.Beginnings.{Stands-start}
use Rattle.t1s_grammar.proofs.place.Place.start.Goals as goal

pub returns-clause-stands : goal.returns-clause-stands
returns-clause-stands c = Stands-start
