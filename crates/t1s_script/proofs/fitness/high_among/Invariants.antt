use Rattle.std.proofs.Common.{◌≡◌, ◌-◌, drop, length}
use Rattle.t1s_script.specs.Fit.{high_among}
use Rattle.t1s_script.proofs.fitness.high_among.Given as goal

-- all IDs are low so far, so what is left tells the first that isn't
abbrev pub invariant-loop-id : goal.invariant-loop-id
invariant-loop-id l = high_among l.count (drop l.place l.ids) ≡ high_among l.count l.ids

abbrev pub decreases-loop-id : goal.decreases-loop-id
decreases-loop-id l = length l.ids - l.place
