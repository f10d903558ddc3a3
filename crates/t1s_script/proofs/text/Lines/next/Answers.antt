use Rattle.std.proofs.Common.{refl, arith}
use Rattle.t1s_script.proofs.Cuts.{lines_of-cut}
use Rattle.t1s_script.proofs.text.Lines.next.Goals as goal

pub returns-clause-line : goal.returns-clause-line
returns-clause-line c = rw c.unwrap_or-self.ensures (lines_of-cut _ _ c.cut.result.1 _ refl (grind arith) c.cut.ensures.parts c.cut.ensures.lengths)
