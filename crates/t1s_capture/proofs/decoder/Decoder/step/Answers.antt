-- The table of the decoder is right for all octets that it stands for.
use Rattle.std.proofs.Common.{◌<◌, ◌∙◌, ap, arith, ℕ}
use Rattle.t1s_capture.specs.declared.decoder.Next.{Next}
use Rattle.t1s_capture.proofs.Feeding.{fed-one}
use Rattle.t1s_capture.proofs.Steps.{begins, step_item, step_refused, step_stands}
use Rattle.t1s_capture.proofs.decoder.Decoder.step.Goals as goal

pub returns-clause-prefix : goal.returns-clause-prefix
returns-clause-prefix c before stands = begins before c.args.self stands

pub returns-clause-item : goal.returns-clause-item
returns-clause-item c before item stands =
    let low : c.args.octet < 256 = omega arith in
    let is = ap (λ (x : ℕ × Next). x.1) c.run-next.ensures ∙ fed-one c.args.self c.args.octet in
    rw is (step_item before c.args.octet c.args.self stands low item)

pub returns-clause-refused : goal.returns-clause-refused
returns-clause-refused c before r stands =
    let low : c.args.octet < 256 = omega arith in
    let is = ap (λ (x : ℕ × Next). x.1) c.run-next.ensures ∙ fed-one c.args.self c.args.octet in
    rw is (step_refused before c.args.octet c.args.self stands low r)

pub returns-clause-goes_on : goal.returns-clause-goes_on
returns-clause-goes_on c before stands =
    let low : c.args.octet < 256 = omega arith in
    let is = ap (λ (x : ℕ × Next). x.1) c.run-next.ensures ∙ fed-one c.args.self c.args.octet in
    rw is (step_stands before c.args.octet c.args.self stands low)
