use Rattle.std.proofs.Common.{ℕ, [], Option, None, arith, get_or, length-set, replicate, ◌∙◌}
use Rattle.std.proofs.lemmas.List.{length-replicate}
use Rattle.circular_buffer.specs.Buffer.{Buffer, buffer}
use Rattle.t1s_symbols.specs.declared.Quarter.{Quarter}
use Rattle.t1s_world.proofs.ListLemmas.{get_or-unwritten}
use Rattle.t1s_cable.specs.declared.changes.Change.{Change}
use Rattle.t1s_cable.specs.Changes.{KeepsTick, ring_at}
use Rattle.t1s_cable.proofs.ChangeLists.{each_more, left_more, read_at}
use Rattle.t1s_cable.proofs.Histories.{row_more}
use Rattle.t1s_cable.proofs.changes.keep_row.Goals as goal

pub loop-i-preserved : goal.loop-i-preserved
loop-i-preserved c =
    let row = c.args.row.now in
    let old = c.args.rings.now in
    let now = c.loop-i.rings in
    let i = c.loop-i.i in
    let b = c.keep.new.ring in
    let before = c.loop-i.invariant in
    let none : Option Quarter = None in
    let same = get_or-unwritten (replicate i none) row c.loop-i.row i none (length-replicate i none) (omega arith) before.row in
    let P : ℕ → Buffer Change → Buffer Change → Type 0 = λ k was is. KeepsTick c.args.tick (get_or row k None) was is in
    let here = read_at now i c.index-rings-i.result (buffer [] 0) (omega arith) in
    let kept : KeepsTick c.args.tick (get_or row i None) (ring_at now i) b = rw (← same, ← here) c.keep.ensures in
    record {
      row = row_more row c.loop-i.row i (omega arith) before.row;
      sizes = length-set now i b ∙ before.sizes;
      kept = each_more P old now i b (omega arith) before.left before.kept kept;
      left = left_more P old now i b (omega arith) before.left;
    }
