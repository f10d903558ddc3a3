use Rattle.std.proofs.Common.{arith, ◌==◌, sym}
use Rattle.std.proofs.lemmas.Grind.{common_steps}
use Rattle.t1s_drawing.proofs.Cuts.{slice_split-found, slice_split-lacks}
use Rattle.t1s_drawing.proofs.fields.cut.Goals as goal

pub returns-in-Some : goal.returns-in-Some
returns-in-Some c =
    let parts = slice_split-found (λ x. x == 32) c.args.text.now c.in-Some.place (sym c.in-Some.ensures) in
    grind (arith, common_steps)

pub returns-in-None : goal.returns-in-None
returns-in-None c = slice_split-lacks _ _ (sym c.in-None.ensures)
