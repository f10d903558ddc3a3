use Rattle.std.proofs.Common.{◌≡◌}
use Rattle.t1s_cable.specs.Changes.{drove}
use Rattle.t1s_cable.proofs.changes.drove.Given as goal

-- the changes that are left tell it
abbrev pub invariant-loop-change : goal.invariant-loop-change
invariant-loop-change l = drove l.change-iterator l.tick ≡ drove l.ring.items l.tick
