use Rattle.t1s_pcs_rx.proofs.Bursts.{pieces_are_handed_on as handed_on}
use Rattle.t1s_pcs_rx.proofs.laws.pieces_are_handed_on.Goals as goal

pub returns : goal.returns
returns c = handed_on
