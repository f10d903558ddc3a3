use Rattle.plca_data.proofs.RunLaws.{keeps_ranges}
use Rattle.plca_data.proofs.laws.keeps_ranges.Goals as goal

pub returns : goal.returns
returns c past all = keeps_ranges past all
