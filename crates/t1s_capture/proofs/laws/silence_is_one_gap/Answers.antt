use Rattle.t1s_capture.proofs.CutRows.{silence_is_one_gap as proved}
use Rattle.t1s_capture.proofs.laws.silence_is_one_gap.Goals as goal

pub returns : goal.returns
returns c row some silent = proved row some silent
