use Rattle.std.proofs.Common.{◌≡◌, ◌++◌, drop, map, take}
use Rattle.t1s_cable.specs.Changes.{renumbered}
use Rattle.t1s_cable.proofs.changes.renumber.Given as goal

-- the newest changes have come to the back, each told anew
abbrev pub invariant-loop-told : goal.invariant-loop-told
invariant-loop-told l =
    record {
      capacity : l.ring.capacity ≡ l.initial.ring.capacity;
      items : l.ring.items ≡ drop l._told l.initial.ring.items ++ map renumbered (take l._told l.initial.ring.items);
    }
