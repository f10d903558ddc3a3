use Rattle.t1s_capture.proofs.Whole.{readings_agree}
use Rattle.t1s_capture.proofs.laws.one_reading.Goals as goal

pub returns : goal.returns
returns c octets node node' items items' a b = readings_agree octets node node' items items' a b
