use Rattle.std.proofs.Common.{◌≡◌, ◌<◌, Some, None, true, length, leb, ap, sym, ◌∙◌, arith}
use Rattle.std.specs.Prelude.{slice_get}
use Rattle.std.proofs.lemmas.Bool.Decides.{nat_tests}
use Rattle.std.proofs.lemmas.Option.{slice_get_within}
use Rattle.t1s_script.specs.Fit.{high_among}
use Rattle.t1s_script.proofs.Premises.{high_on, no_next_id}
use Rattle.t1s_script.proofs.fitness.high_among.Goals as goal

pub returns-then-count-id : goal.returns-then-count-id
returns-then-count-id c =
    let at : slice_get c.args.ids.now c.loop-id.place ≡ Some c.in-Some.id = sym c.get.ensures.place ∙ c.in-Some.is in
    let high : leb c.args.count c.in-Some.id ≡ true = (let test = c.if-count-id.true in grind (arith, nat_tests)) in
    sym (high_on c.args.ids.now c.loop-id.place c.args.count c.in-Some.id true at high) ∙ c.loop-id.invariant

pub loop-id-smaller : goal.loop-id-smaller
loop-id-smaller c =
    let at : slice_get c.args.ids.now c.loop-id.place ≡ Some c.in-Some.id = sym c.get.ensures.place ∙ c.in-Some.is in
    let below : c.loop-id.place < length c.args.ids.now = slice_get_within c.args.ids.now c.loop-id.place c.in-Some.id at in
    omega arith

pub returns : goal.returns
returns c =
    let at : slice_get c.args.ids.now c.loop-id.place ≡ None = sym c.get.ensures.place ∙ c.in_default.is in
    sym (ap (high_among c.args.count) (no_next_id c.args.ids.now c.loop-id.place at)) ∙ c.loop-id.invariant
