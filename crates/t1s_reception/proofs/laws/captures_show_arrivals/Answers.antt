use Rattle.t1s_reception.proofs.HeardPieces.{captures_show_arrivals}
use Rattle.t1s_reception.proofs.laws.captures_show_arrivals.Goals as goal

pub returns : goal.returns
returns c = captures_show_arrivals
