use Rattle.std.proofs.Common.{◌≡◌, drop}
use Rattle.t1s_script.specs.Fit.{with_noise}
use Rattle.t1s_script.proofs.fitness.no_noise.Given as goal

-- no noise has begun so far, so what is left tells the first
abbrev pub invariant-loop-act : goal.invariant-loop-act
invariant-loop-act l = with_noise (drop l.act-index l.acts) ≡ with_noise l.acts
