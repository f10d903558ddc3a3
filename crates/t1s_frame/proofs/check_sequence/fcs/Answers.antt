use Rattle.std.proofs.Common.{◌-◌, ◌^◌, ap, ◌∙◌, sym, take, get_or}
use Rattle.std.proofs.lemmas.List.{take_more, take_all}
use Rattle.std.specs.List.{fold}
use Rattle.t1s_frame.specs.FrameCheck.{check_bit, frame_check, octet_bits, low_bits}
use Rattle.t1s_frame.proofs.CheckSteps.{fold-octet_bits-push}
use Rattle.t1s_frame.proofs.check_sequence.fcs.Goals as goal

pub loop-octet-preserved : goal.loop-octet-preserved
loop-octet-preserved c =
    let xs = c.args.octets.now in
    let i = c.loop-octet.octet-index in
    c.next_remainder-remainder.ensures
    ∙ ap (λ r. fold check_bit r (low_bits 8 (get_or xs i 0))) c.loop-octet.invariant
    ∙ sym (fold-octet_bits-push (2 ^ 32 - 1) (take i xs) (get_or xs i 0))
    ∙ ap (λ ys. fold check_bit (2 ^ 32 - 1) (octet_bits ys)) (sym (take_more xs i 0 c.loop-octet-test.true))

pub returns : goal.returns
unfolding frame_check
returns c =
    ap (λ r. 2 ^ 32 - 1 - r)
    (c.loop-octet.invariant
    ∙ ap (λ ys. fold check_bit (2 ^ 32 - 1) (octet_bits ys))
    (take_all c.loop-octet.octet-index c.args.octets.now c.loop-octet-test.false))
