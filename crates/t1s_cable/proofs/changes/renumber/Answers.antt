use Rattle.std.proofs.Common.{◌≡◌, ◌++◌, ◌∷◌, ◌<◌, ◌≤◌, [], None, Some, arith, get_or, length, refl, slice_get, sym, ◌∙◌}
use Rattle.circular_buffer.specs.Buffer.{buffer, keep_last}
use Rattle.t1s_cable.specs.declared.changes.Change.{Change}
use Rattle.t1s_cable.specs.Changes.{renumbered}
use Rattle.t1s_cable.proofs.ChangeLists.{first_left, told_more}
use Rattle.t1s_cable.proofs.changes.renumber.Goals as goal
use Rattle.t1s_cable.proofs.changes.renumber.Goals.{in-Some, in_default}

pub loop-told-preserved : goal.loop-told-preserved
loop-told-preserved c =
    let cs = c.args.ring.now.items in
    let k = c.loop-told._told in
    let ring = c.loop-told.ring in
    let before = c.loop-told.invariant in
    let popped = c.pop_front.new.self in
    let left : k < length cs = omega (arith, c.loop-told-test.true, c.len-told-end.ensures.len) in
    let sized : length cs ≤ ring.capacity = omega (arith, c.len-told-end.ensures.len, c.len-told-end.ensures.within.0, before.capacity) in
    elim c.match-pop_front.branch [
      | in-Some w ↦
          let x = w.in-Some.change in
          let first : slice_get ring.items 0 ≡ Some x = sym c.pop_front.ensures.value ∙ w.in-Some.is in
          let push : w.push_back.new.self ≡ buffer (keep_last popped.capacity (popped.items ++ renumbered x ∷ [])) popped.capacity =
          rw w.renumbered.ensures at w.push_back.ensures.items in
          let told = told_more cs k left ring sized before.items popped w.push_back.new.self x first c.pop_front.ensures.items push in
          record { capacity = rw (w.ring-is, told) before.capacity; items = rw (w.ring-is, told) refl }
      | in_default w ↦
          let none : Change = record { tick = 0; begins = None } in
          let there : slice_get ring.items 0 ≡ Some (get_or cs k none) = rw (first_left cs k left ring sized before.items none) refl in
          absurd (w.in_default.not-Some (get_or cs k none) (c.pop_front.ensures.value ∙ there))
    ]
