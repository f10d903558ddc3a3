use Rattle.t1s_grammar.proofs.Sent.{sent_pieces_are_read as sent_are_read}
use Rattle.t1s_grammar.proofs.laws.sent_pieces_are_read.Goals as goal

pub returns : goal.returns
returns c = sent_are_read
