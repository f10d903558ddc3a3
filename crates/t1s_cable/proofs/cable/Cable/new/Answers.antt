use Rattle.std.proofs.Common.{◌≡◌, ℕ, ◌+◌, [], Option, None, arith, get_or, length, refl}
use Rattle.std.proofs.lemmas.List.{length-replicate}
use Rattle.t1s_harness.specs.Distances.{span}
use Rattle.t1s_symbols.specs.declared.Quarter.{Quarter}
use Rattle.circular_buffer.specs.Buffer.{Buffer, buffer}
use Rattle.t1s_cable.specs.declared.changes.Change.{Change}
use Rattle.t1s_cable.specs.Taps.{taps_of}
use Rattle.t1s_cable.proofs.Histories.{none_kept, quarters-new, rings-new}
use Rattle.t1s_cable.proofs.Silence.{quiet-new}
use Rattle.t1s_cable.proofs.Taps.{length-taps_of}
use Rattle.t1s_cable.proofs.cable.Cable.new.Goals as goal

pub invariant_of-result : goal.invariant_of-result
invariant_of-result c =
    let places = c.args.places.now in
    let stubs = c.args.stubs.now in
    let all = c.loop-node.invariant in
    let n = c.loop-node._node in
    let count : n ≡ length places = omega arith in
    let taps = c.in_ok-taps.ensures.taps in
    let sized : length c.in_ok-taps.taps.items ≡ length places = rw taps (length-taps_of places stubs c.requires.paired) in
    let reach : c.span-reach.result ≡ span c.in_ok-taps.taps.items = rw c.as_slice.ensures.value at c.span-reach.ensures in
    let none : Option Quarter = None in
    let far : ℕ = span (taps_of places stubs) in
    let short = rw taps at c.in_ok-taps.ensures.short in
    let empty : Buffer Change = buffer [] (far + 1) in
    let row_len : length c.loop-node.row.items ≡ n = rw all.row (length-replicate n none) in
    let rings_len : length c.loop-node.rings.items ≡ n = rw all.rings (length-replicate n empty) in
    let carried_len : length c.loop-node.carried.items ≡ n = rw all.carried (length-replicate n 0) in
    record {
      row_len = omega (arith, row_len, count, sized);
      rings_len = omega (arith, rings_len, count, sized);
      carried_len = omega (arith, carried_len, count, sized);
      reach = reach;
      short = omega (arith, reach, c.in_ok-taps.ensures.short);
      clock = omega (arith, c.from.ensures, reach, c.in_ok-taps.ensures.short);
      quarters = rw all.row (quarters-new n);
      rings = rw (c.from.ensures, reach, taps, all.rings) (rings-new n far short);
      quiet_nodes = rw (taps, all.row, all.rings) (quiet-new n (far + 1) c.from.result far (λ (i : ℕ). get_or c.loop-node.carried.items i 0));
      quiet = rw (taps, all.row, all.rings) (quiet-new n (far + 1) c.from.result far (λ (i : ℕ). 0));
    }

pub returns-clause-row : goal.returns-clause-row
returns-clause-row c =
    let count : c.loop-node._node ≡ length c.args.places.now = omega arith in
    rw (c.loop-node.invariant.row, count, length-taps_of c.args.places.now c.args.stubs.now c.requires.paired) refl

pub returns-clause-stands : goal.returns-clause-stands
returns-clause-stands c = (
  returns-clause-row c,
  λ i d here near.
      rw c.loop-node.invariant.rings (none_kept c.loop-node._node i _ (span (taps_of c.args.places.now c.args.stubs.now) + 1)),
)
