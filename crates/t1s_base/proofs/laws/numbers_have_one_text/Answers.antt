use Rattle.t1s_base.proofs.Digits.{number_of-decimal, decimal-number_of}
use Rattle.t1s_base.proofs.laws.numbers_have_one_text.Goals as goal

pub returns : goal.returns
returns c = (number_of-decimal, decimal-number_of)
