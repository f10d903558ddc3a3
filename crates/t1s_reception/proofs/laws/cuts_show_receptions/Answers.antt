use Rattle.t1s_reception.proofs.CutReceptions.{cuts_show_receptions}
use Rattle.t1s_reception.proofs.laws.cuts_show_receptions.Goals as goal

pub returns : goal.returns
returns c = cuts_show_receptions
