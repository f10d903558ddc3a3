use Rattle.std.proofs.Common.{arith, ◌==◌, sym}
use Rattle.std.proofs.lemmas.Grind.{common_steps}
use Rattle.t1s_script.proofs.Cuts.{slice_split-found, slice_split-lacks}
use Rattle.t1s_script.proofs.text.cut.Goals as goal

pub returns-in-Some-clause-parts : goal.returns-in-Some-clause-parts
returns-in-Some-clause-parts c =
    let parts = slice_split-found (λ x. x == c.args.octet) c.args.text.now c.in-Some.place (sym c.in-Some.ensures) in
    grind (arith, common_steps)

pub returns-in-None-clause-parts : goal.returns-in-None-clause-parts
returns-in-None-clause-parts c = slice_split-lacks _ _ (sym c.in-None.ensures)
