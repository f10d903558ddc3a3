use Rattle.t1s_capture.proofs.CutRows.{cuts_read_what_is_heard as proved}
use Rattle.t1s_capture.proofs.laws.cuts_read_what_is_heard.Goals as goal

pub returns : goal.returns
returns c row some sound heard = proved row some sound heard
