use Rattle.std.proofs.Common.{◌≡◌, ◌+◌, ℕ, List, length, ap, subst, arith, length-drop}
use Rattle.std.proofs.lemmas.List.{take_rest}
use Rattle.t1s_capture.specs.declared.progress.Step.{Step}
use Rattle.t1s_capture.specs.StepAnswers.{IsSteppedTo, StepFits, counted, decoder_at, step_next}
use Rattle.t1s_capture.proofs.Feeding.{IsFedTo, limit_at, more_at, stepped_on}
use Rattle.t1s_capture.proofs.progress.Progress.run.Goals as goal

pub returns-then-self-eq-LIMIT-clause-next : goal.returns-then-self-eq-LIMIT-clause-next
returns-then-self-eq-LIMIT-clause-next c =
    limit_at (decoder_at c.args.self.now c.args.stage) c.args.octets.now c.loop-at.at c.loop-at.self c.loop-at.stage c.loop-at.invariant.so_far
    c.loop-at-test.true c.if-self-eq-LIMIT.true

pub loop-at-preserved : goal.loop-at-preserved
loop-at-preserved c =
    let at = c.loop-at.at in
    let piece = c.args.octets.now in
    let last = c.stretch-last.result.0 in
    let after = c.stretch-last.new.self in
    let start = decoder_at c.args.self.now c.args.stage in
    let here = decoder_at c.loop-at.self c.loop-at.stage in
    let rest = take_rest piece at in
    let stepped =
    subst (λ (os : List ℕ). IsSteppedTo here os last (step_next c.stretch-last.result.1 after)) rest c.stretch-last.ensures.next in
    let goes =
    subst (λ (s : Step). IsSteppedTo start piece (at + last) (step_next s after)) c.in-Goes.is
    (stepped_on start piece at c.loop-at.self c.loop-at.stage c.loop-at.invariant.so_far last _ stepped) in
    let places : at + last + 1 ≡ at + (last + 1) = omega arith in
    record {
      within = omega (arith, c.stretch-last.ensures.within, ap length rest, length-drop at piece);
      fits = subst (λ (s : Step). StepFits s after) c.in-Goes.is c.stretch-last.ensures.fits;
      so_far =
          subst (λ (n : ℕ). IsFedTo start piece n (counted after) c.in-Goes.next) places
          (more_at start piece (at + last) (counted after) c.in-Goes.next goes);
    }
