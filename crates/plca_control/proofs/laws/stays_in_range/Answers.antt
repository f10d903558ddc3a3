use Rattle.plca_control.proofs.RunRanges.{stays_in_range}
use Rattle.plca_control.proofs.laws.stays_in_range.Goals as goal

pub returns : goal.returns
returns c s given fits t = stays_in_range s given fits t
