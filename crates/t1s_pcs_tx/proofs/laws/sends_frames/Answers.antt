use Rattle.t1s_pcs_tx.proofs.PieceWithLead.{sends_frames as it_holds}
use Rattle.t1s_pcs_tx.proofs.laws.sends_frames.Goals as goal

pub returns : goal.returns
returns c = it_holds
