use Rattle.t1s_capture.proofs.CutRows.{rows_are_cut_apart as proved}
use Rattle.t1s_capture.proofs.laws.rows_are_cut_apart.Goals as goal

pub returns : goal.returns
returns c before with_items x y apart = proved before with_items x y apart
