use Rattle.std.proofs.Common.{sym, ◌∙◌}
use Rattle.t1s_symbols.proofs.Pairs.{symbol-of_pair}
use Rattle.t1s_symbols.proofs.laws.no_shared_group.Goals as goal

pub returns : goal.returns
returns c s t g p q =
    let e = sym (symbol-of_pair s g p) ∙ symbol-of_pair t g q in cc
