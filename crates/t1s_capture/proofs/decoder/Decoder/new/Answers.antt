use Rattle.t1s_capture.proofs.Steps.{stands_new}
use Rattle.t1s_capture.proofs.decoder.Decoder.new.Goals as goal

pub returns-clause-stands : goal.returns-clause-stands
returns-clause-stands c = rw c.new.ensures stands_new
