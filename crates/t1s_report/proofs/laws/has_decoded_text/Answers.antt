use Rattle.t1s_report.proofs.DecodeSteps.{has_text}
use Rattle.t1s_report.proofs.laws.has_decoded_text.Goals as goal

pub returns : goal.returns
returns c octets = has_text octets
