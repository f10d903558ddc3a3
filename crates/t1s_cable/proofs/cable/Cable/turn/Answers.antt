use Rattle.std.proofs.Common.{ℕ, List, Option, None, arith, length, refl, replicate, rules, ◌+◌, ◌∙◌}
use Rattle.std.specs.Vec.{with_items}
use Rattle.std.proofs.lemmas.List.{with_items_is}
use Rattle.t1s_harness.specs.Distances.{span}
use Rattle.t1s_symbols.specs.declared.Quarter.{Quarter}
use Rattle.t1s_cable.specs.Rings.{put_at}
use Rattle.t1s_cable.specs.State.{CableState}
use Rattle.t1s_cable.proofs.Histories.{Shifts, none_put, quarters-new, rings_turn, shifts_turn, stands_next}
use Rattle.t1s_cable.proofs.Silence.{quiet-turn, quiet_nodes-turn, row_silent, stands_silent}
use Rattle.t1s_cable.proofs.cable.Cable.turn.Goals as goal

pub invariant_of-self : goal.invariant_of-self
invariant_of-self c =
    let old = c.self.inside in
    let reach = span old.taps.items in
    let row = with_items_is old.row c.end_tick-self-inside.new.row (omega arith) in
    let rowed = rw c.as_mut_slice.ensures.value at c.end_tick-self-inside.ensures.row in
    let ends = rw (c.as_mut_slice.ensures.value, c.as_mut_slice-2.ensures.value) at c.end_tick-self-inside.ensures.rings in
    let sized = ends.kept.sizes ∙ ends.same.sizes in
    let rings = with_items_is old.rings c.end_tick-self-inside.new.rings (omega (arith, sized)) in
    let carried = with_items_is old.carried c.count_down.new.ticks (omega arith) in
    let counted = rw c.as_mut_slice-3.ensures.value at c.count_down.ensures in
    let none : List (Option Quarter) = replicate (length old.row.items) None in
    let shifts = shifts_turn reach old.clock ends.tick old.row.items old.rings.items ends.told c.end_tick-self-inside.new.rings (omega (arith, c.self.invariant.rings_len, c.self.invariant.row_len)) c.self.invariant.rings ends.same ends.kept none in
    record {
      row_len = search rules;
      rings_len = rw rings (sized ∙ c.self.invariant.rings_len);
      carried_len = search rules;
      reach = c.self.invariant.reach;
      short = c.self.invariant.short;
      clock = omega (arith, ends.next, ends.same.low);
      quarters = rw (row, rowed) (quarters-new (length old.row.items));
      rings = rw (rings, ends.next)
          (rings_turn reach old.clock ends.tick old.row.items old.rings.items ends.told c.end_tick-self-inside.new.rings (omega (arith, c.self.invariant.rings_len, c.self.invariant.row_len)) c.self.invariant.rings ends.same ends.kept);
      quiet_nodes = rw (row, rings, rowed, ends.next, carried, counted)
          (quiet_nodes-turn reach (put_at old.row.items old.rings.items old.clock) (put_at none c.end_tick-self-inside.new.rings (ends.tick + 1)) shifts (none_put (length old.row.items)) old.carried.items c.self.invariant.quiet_nodes);
      quiet = rw (row, rings, rowed, ends.next)
          (quiet-turn reach (put_at old.row.items old.rings.items old.clock) (put_at none c.end_tick-self-inside.new.rings (ends.tick + 1)) shifts (none_put (length old.row.items)) (λ (i : ℕ). old.busy) c.self.invariant.quiet);
    }

pub returns-clause-row : goal.returns-clause-row
returns-clause-row c =
    let row = with_items_is c.self.inside.row c.end_tick-self-inside.new.row (omega arith) in
    rw (← c.self.view_is) (row ∙ rw (c.as_mut_slice.ensures.value, c.self.invariant.row_len) at c.end_tick-self-inside.ensures.row)

pub returns-clause-stands : goal.returns-clause-stands
returns-clause-stands c rows stands =
    let old = c.self.inside in
    let reach = span old.taps.items in
    let before = rw (← c.self.view_is) at stands in
    let ends = rw (c.as_mut_slice.ensures.value, c.as_mut_slice-2.ensures.value) at c.end_tick-self-inside.ensures.rings in
    let sized = ends.kept.sizes ∙ ends.same.sizes in
    let rings = with_items_is old.rings c.end_tick-self-inside.new.rings (omega (arith, sized)) in
    let row = rw (← c.self.view_is) at (returns-clause-row c) in
    let was : CableState = record { taps = old.taps.items; row = old.row.items; clock = old.clock; rings = old.rings.items } in
    let is : CableState = record { taps = old.taps.items; row = (with_items old.row c.end_tick-self-inside.new.row).items; clock = c.end_tick-self-inside.result; rings = (with_items old.rings c.end_tick-self-inside.new.rings).items } in
    let shifts : Shifts reach (put_at was.row was.rings was.clock) (put_at is.row is.rings is.clock) = rw (rings, ends.next)
    (shifts_turn reach old.clock ends.tick old.row.items old.rings.items ends.told c.end_tick-self-inside.new.rings (omega (arith, c.self.invariant.rings_len, c.self.invariant.row_len)) c.self.invariant.rings ends.same ends.kept is.row) in
    rw (← c.self.view_is)
    (stands_next was is (rw rings sized) refl row shifts rows before)

pub returns-then-self-eq0-clause-row : goal.returns-then-self-eq0-clause-row
returns-then-self-eq0-clause-row c =
    let old = c.self.inside in
    let quiet = rw c.if-self-eq0.true at c.self.invariant.quiet in
    let silent = rw c.self.invariant.row_len at (row_silent old.taps.items old.row.items old.rings.items old.clock quiet) in
    rw (← c.self.view_is) silent

pub returns-then-self-eq0-clause-stands : goal.returns-then-self-eq0-clause-stands
returns-then-self-eq0-clause-stands c rows stands =
    let old = c.self.inside in
    let before = rw (← c.self.view_is) at stands in
    let quiet = rw c.if-self-eq0.true at c.self.invariant.quiet in
    let was : CableState = record { taps = old.taps.items; row = old.row.items; clock = old.clock; rings = old.rings.items } in
    rw (← c.self.view_is) (stands_silent was c.self.invariant.row_len c.self.invariant.rings_len quiet rows before)
