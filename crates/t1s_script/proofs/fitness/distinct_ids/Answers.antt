use Rattle.std.proofs.Common.{arith, sym, ◌∙◌}
use Rattle.std.proofs.lemmas.Grind.{common_steps}
use Rattle.t1s_script.proofs.Premises.{repeat_found, repeat_later}
use Rattle.t1s_script.proofs.fitness.distinct_ids.Goals as goal

pub returns-in-Some : goal.returns-in-Some
returns-in-Some c =
    let found = repeat_found c.args.nodes.now c.loop-i.i c.index-nodes-i.result (omega arith) c.index-nodes-i.is c.in-Some.earlier (sym c.first_owner.ensures ∙ c.in-Some.is) in
    grind (arith, common_steps)

pub loop-i-preserved : goal.loop-i-preserved
loop-i-preserved c =
    let later = repeat_later c.args.nodes.now c.loop-i.i c.index-nodes-i.result (omega arith) c.index-nodes-i.is (sym c.first_owner.ensures ∙ c.in_default.is) in
    sym later ∙ c.loop-i.invariant
