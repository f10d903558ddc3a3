use Rattle.t1s_script.proofs.ThinScripts.{thin_scripts}
use Rattle.t1s_script.proofs.laws.thin_scripts_have_defaults.Goals as goal

pub returns : goal.returns
returns c = thin_scripts
