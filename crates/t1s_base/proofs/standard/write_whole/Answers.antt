use Rattle.std.proofs.Common.{◌≡◌, ◌+◌, ◌-◌, ◌++◌, length, length-drop, take, drop, subst, sym, ap, ◌∙◌, arith}
use Rattle.std.proofs.lemmas.List.{take_rest}
use Rattle.std.proofs.Math.Seq.{take-add}
use Rattle.std.proofs.KnownBytes.{Appends-trans}
use Rattle.std.specs.Io.KnownBytes.{Appends}
use Rattle.t1s_base.proofs.standard.write_whole.Goals as goal

pub loop-taken-preserved : goal.loop-taken-preserved
loop-taken-preserved g c =
    let contents = g.W.Write.contents in
    let before = c.loop-taken.taken in
    let count = c.in-Ok.count in
    let piece = c.args.piece.now in
    let rest = take_rest piece before in
    let longer : take before piece ++ take count (take (length piece - before) (drop before piece)) ≡ take (before + count) piece =
    ap (λ xs. take before piece ++ take count xs) rest ∙ sym (take-add before count piece) in
    record {
      within = omega (arith, c.in-Ok.ensures.bound, ap length rest, length-drop before piece);
      prefix = subst (Appends (contents c.args.writer.now) (contents c.write.new.self)) longer (Appends-trans _ _ _ _ _ c.loop-taken.invariant.prefix c.in-Ok.ensures.bytes);
    }
