use Rattle.std.proofs.Common.{refl, sym, subst, arith}
use Rattle.t1s_capture.specs.declared.stage.CountSoFar.TheVariants.{Nothing}
use Rattle.t1s_capture.specs.declared.stage.Stage.TheVariants.{InGap}
use Rattle.t1s_capture.specs.declared.decoder.Next.{Next}
use Rattle.t1s_capture.specs.StepAnswers.{IsSteppedTo, decoder_at}
use Rattle.t1s_capture.proofs.Beacons.{beacon_at}
use Rattle.t1s_capture.proofs.progress.Progress.gap.Goals as goal

pub returns-then-is_beacon-clause-next : goal.returns-then-is_beacon-clause-next
returns-then-is_beacon-clause-next c =
    let octets = c.args.octets.now in
    let before = c.args.self.now in
    subst (λ (next : Next). IsSteppedTo (decoder_at before (InGap Nothing)) octets 9 next) (sym c.beacon.ensures.next)
    (beacon_at before octets c.count_of-ticks.result (c.if-is_beacon.ensures refl) (omega (arith, c.if-self-ge10.true)) c.count_of-ticks.ensures
    c.if-ticks-ne0.true)
