use Rattle.t1s_symbols.proofs.Pairs.{symbol-group, group-symbol}
use Rattle.t1s_symbols.proofs.laws.undo_each_other.Goals as goal

pub returns : goal.returns
returns c = record { of_symbol = symbol-group; of_group = group-symbol }
