use Rattle.std.proofs.Common.{ℕ, ◌+◌, [], arith, le_refl, length-set, ◌∙◌}
use Rattle.circular_buffer.specs.Buffer.{Buffer, buffer}
use Rattle.t1s_cable.specs.declared.changes.Change.{Change}
use Rattle.t1s_cable.specs.Changes.{IsRing, SameRing, lap, ring_at}
use Rattle.t1s_cable.proofs.ChangeLists.{each_more, left_more, read_at, renumbered_ring}
use Rattle.t1s_cable.proofs.changes.renumber_all.Goals as goal

pub loop-i-preserved : goal.loop-i-preserved
loop-i-preserved c =
    let old = c.args.rings.now in
    let now = c.loop-i.rings in
    let i = c.loop-i.i in
    let b = c.renumber.new.ring in
    let before = c.loop-i.invariant in
    let P : ℕ → Buffer Change → Buffer Change → Type 0 = λ k was is. SameRing (lap + lap) lap was is in
    let here = read_at now i c.index-rings-i.result (buffer [] 0) (omega arith) in
    let ring : IsRing (lap + lap) (ring_at now i) = rw (before.left i (le_refl i)) (c.requires i (omega arith)) in
    let told : SameRing (lap + lap) lap (ring_at now i) b = rw (c.renumber.ensures, here) (renumbered_ring (ring_at now i) ring) in
    record {
      sizes = length-set now i b ∙ before.sizes;
      told = each_more P old now i b (omega arith) before.left before.told told;
      left = left_more P old now i b (omega arith) before.left;
    }
