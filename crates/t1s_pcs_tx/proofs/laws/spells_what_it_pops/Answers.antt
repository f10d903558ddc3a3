use Rattle.t1s_pcs_tx.proofs.PieceWithLead.{spells_what_it_pops as it_holds}
use Rattle.t1s_pcs_tx.proofs.laws.spells_what_it_pops.Goals as goal

pub returns : goal.returns
returns c = it_holds
