use Rattle.t1s_generator.proofs.GeneratedScripts.{generated_fit}
use Rattle.t1s_generator.proofs.laws.generated_scripts_are_fit.Goals as goal

pub returns : goal.returns
returns c = generated_fit
