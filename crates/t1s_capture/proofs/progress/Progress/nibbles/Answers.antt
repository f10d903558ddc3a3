use Rattle.std.proofs.Common.{◌≡◌, ◌-◌, ℕ, get_or, ap, sym, subst, ◌∙◌, arith}
use Rattle.t1s_capture.specs.declared.stage.OctetKind.{OctetKind}
use Rattle.t1s_capture.specs.declared.stage.Stage.TheVariants.{InBurst}
use Rattle.t1s_capture.specs.DecoderTable.{burst_step_by, octet_kind}
use Rattle.t1s_capture.specs.StepAnswers.{IsSteppedTo, decoder_at, step_next}
use Rattle.t1s_capture.proofs.Feeding.{stepped_at}
use Rattle.t1s_capture.proofs.progress.Progress.nibbles.Goals as goal

pub returns-in-None-clause-next : goal.returns-in-None-clause-next
returns-in-None-clause-next c =
    let start = decoder_at c.args.self.now (InBurst c.args.burst) in
    let before = c.loop-place.self in
    let burst = c.loop-place.burst in
    stepped_at start c.args.octets.now c.loop-place.place before (InBurst burst) c.loop-place.invariant.so_far _
    (omega (arith, c.loop-place-test.true, c.min-last.ensures))
    (λ full. omega (arith, full, c.loop-place.invariant.taken, c.loop-place-test.true, c.min-last.ensures))
    (c.in_burst.ensures.next ∙ ap (λ (k : OctetKind). burst_step_by k before burst) c.kind_of_octet.ensures.octet_kind)

pub returns-clause-next : goal.returns-clause-next
returns-clause-next c =
    let start = decoder_at c.args.self.now (InBurst c.args.burst) in
    let before = c.loop-place.self in
    let burst = c.loop-place.burst in
    let ends : c.loop-place.place ≡ c.min-last.result - 1 = omega (arith, c.loop-place-test.false, c.loop-place.auto.place-end) in
    subst (λ (n : ℕ). IsSteppedTo start c.args.octets.now n (step_next c.in_burst-2.result c.in_burst-2.new.self)) ends
    (stepped_at start c.args.octets.now c.loop-place.place before (InBurst burst) c.loop-place.invariant.so_far _
    (omega (arith, ends, c.min-last.ensures)) (λ full. omega (arith, full, ends, c.loop-place.invariant.taken, c.min-last.ensures))
    (c.in_burst-2.ensures.next ∙ ap (λ (k : OctetKind). burst_step_by k before burst)
    (c.kind_of_octet-2.ensures.octet_kind ∙ ap (λ (n : ℕ). octet_kind (get_or c.args.octets.now n 0)) (sym ends))))
