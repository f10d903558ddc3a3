use Rattle.std.proofs.Common.{◌≡◌, ◌-◌, ◌++◌, ℕ, drop, map, take}
use Rattle.t1s_cable.proofs.kept.count_down.Given as goal

abbrev pub invariant-loop-left : goal.invariant-loop-left
invariant-loop-left l = l.ticks ≡ map (λ (n : ℕ). n - 1) (take l.left-index l.initial.ticks) ++ drop l.left-index l.initial.ticks
