use Rattle.t1s_drawing.proofs.Bars.{bars_are_drives as law}
use Rattle.t1s_drawing.proofs.laws.bars_are_drives.Goals as goal

pub returns : goal.returns
returns c = law
