use Rattle.t1s_scramble.proofs.Taps.{history-start}
use Rattle.t1s_scramble.proofs.register.Register.new.Goals as goal

pub returns : goal.returns
returns c = history-start
