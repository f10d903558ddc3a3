use Rattle.t1s_script.proofs.Validity.{read_valid}
use Rattle.t1s_script.proofs.laws.read_scripts_are_valid.Goals as goal

pub returns : goal.returns
returns c = read_valid
