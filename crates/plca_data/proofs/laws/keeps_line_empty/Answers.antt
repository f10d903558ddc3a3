use Rattle.plca_data.proofs.RunLaws.{keeps_line_empty}
use Rattle.plca_data.proofs.laws.keeps_line_empty.Goals as goal

pub returns : goal.returns
returns c past unused = keeps_line_empty past unused
