use Rattle.std.proofs.Common.{◌≡◌, take, drop}
use Rattle.t1s_script.specs.Fit.{with_repeat, with_repeat_after}
use Rattle.t1s_script.proofs.fitness.distinct_ids.Given as goal

-- no ID has stood twice so far, so what is left tells the first that does
abbrev pub invariant-loop-i : goal.invariant-loop-i
invariant-loop-i l = with_repeat_after (take l.i l.nodes) (drop l.i l.nodes) ≡ with_repeat l.nodes
