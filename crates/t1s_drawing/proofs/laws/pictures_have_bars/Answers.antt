use Rattle.t1s_drawing.proofs.PictureBars.{pictures_have_bars as law}
use Rattle.t1s_drawing.proofs.laws.pictures_have_bars.Goals as goal

pub returns : goal.returns
returns c = law
