use Rattle.std.proofs.Common.{◌≡◌, Some, None, ap, sym, ◌∙◌}
use Rattle.std.specs.Prelude.{slice_get}
use Rattle.t1s_script.specs.Fit.{first_owner}
use Rattle.t1s_script.proofs.Premises.{number_in, owner_here, no_next_id}
use Rattle.t1s_script.proofs.fitness.first_owner.Goals as goal

pub returns-then-is_some : goal.returns-then-is_some
returns-then-is_some c =
    let at : slice_get c.args.ids.now c.loop-id.place ≡ Some c.in-Some.id = sym c.get.ensures.place ∙ c.in-Some.is in
    sym (owner_here c.args.ids.now c.loop-id.place c.args.nodes.now c.in-Some.id c.owner_among-owner.result at c.owner_among-owner.ensures (sym c.is_some.ensures ∙ c.if-is_some.true)) ∙ c.loop-id.invariant

pub returns : goal.returns
returns c =
    let at : slice_get c.args.ids.now c.loop-id.place ≡ None = sym c.get.ensures.place ∙ c.in_default.is in
    sym (ap (λ ids. number_in (first_owner c.args.nodes.now ids)) (no_next_id c.args.ids.now c.loop-id.place at)) ∙ c.loop-id.invariant
