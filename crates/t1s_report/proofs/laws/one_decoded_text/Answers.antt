use Rattle.t1s_report.proofs.DecodedTexts.{one_text}
use Rattle.t1s_report.proofs.laws.one_decoded_text.Goals as goal

pub returns : goal.returns
returns c octets text text' h k = one_text octets text text' h k
