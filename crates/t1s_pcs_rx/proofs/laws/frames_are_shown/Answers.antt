use Rattle.t1s_pcs_rx.proofs.Frames.{frames_are_shown as are_shown}
use Rattle.t1s_pcs_rx.proofs.laws.frames_are_shown.Goals as goal

pub returns : goal.returns
returns c = are_shown
