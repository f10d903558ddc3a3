use Rattle.std.proofs.Common.{sym, ◌∙◌}
use Rattle.t1s_cable.proofs.ChangeLists.{keeps_on, keeps_change}
use Rattle.t1s_cable.proofs.changes.keep.Goals as goal

pub returns-then-is_same : goal.returns-then-is_same
returns-then-is_same c =
    keeps_on c.args.tick c.args.quarter c.args.ring.now c.requires.ring (sym c.drove.ensures ∙ c.is_same.ensures c.if-is_same.true)

pub returns : goal.returns
returns c =
    rw c.push_front.ensures.items (keeps_change c.args.tick c.args.quarter c.args.ring.now c.requires.ring c.requires.quarter)
