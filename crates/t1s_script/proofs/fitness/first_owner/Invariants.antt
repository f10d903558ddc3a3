use Rattle.std.proofs.Common.{◌≡◌, ◌-◌, drop, length}
use Rattle.t1s_script.specs.Fit.{first_owner}
use Rattle.t1s_script.proofs.Premises.{number_in}
use Rattle.t1s_script.proofs.fitness.first_owner.Given as goal

-- no node owns an ID so far, so what is left tells the first that one does
abbrev pub invariant-loop-id : goal.invariant-loop-id
invariant-loop-id l = number_in (first_owner l.nodes (drop l.place l.ids)) ≡ number_in (first_owner l.nodes l.ids)

abbrev pub decreases-loop-id : goal.decreases-loop-id
decreases-loop-id l = length l.ids - l.place
