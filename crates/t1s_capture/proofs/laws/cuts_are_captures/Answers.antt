use Rattle.t1s_capture.proofs.CutItems.{cuts_are_captures as proved}
use Rattle.t1s_capture.proofs.laws.cuts_are_captures.Goals as goal

pub returns : goal.returns
returns c ticks heard few = proved ticks heard few
