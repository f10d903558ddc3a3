use Rattle.std.proofs.Common.{◌≡◌, ◌++◌, ◌+◌, length}
use Rattle.std.specs.Array.Iter.{array_into_iter_items}  -- The elements that are left. It is shut, since how the iterator keeps them may change.
use Rattle.t1s_script.specs.Draft.{nodes_from}
use Rattle.t1s_script.proofs.draft.nodes_in.Given as goal

-- the nodes so far, and those of the slots that are left, are all nodes
abbrev pub invariant-loop-slot : goal.invariant-loop-slot
invariant-loop-slot l =
    (goal.iterator-loop-slot).can_next l.slot-iterator ×
    (goal.iterator-loop-slot).is_finite l.slot-iterator ×
    (l.no + length (array_into_iter_items l.slot-iterator) ≡ 32) ×
    (l.nodes.items ++ nodes_from l.to l.no (array_into_iter_items l.slot-iterator) ≡ nodes_from l.to 0 l.fn.slots)
