use Rattle.std.proofs.Common.{◌≤◌, ◌<◌, ℕ, length, sym, subst}
use Rattle.std.proofs.lemmas.List.Elements.{All-from_get_or}
use Rattle.t1s_capture.specs.declared.decoder.Next.{Next}
use Rattle.t1s_capture.specs.Answers.{IsFed}
use Rattle.t1s_capture.proofs.Feeding.{fed-least, fed-most, fed_is}
use Rattle.t1s_capture.proofs.decoder.Decoder.feed.Goals as goal

pub returns-clause-some : goal.returns-clause-some
returns-clause-some c =
    subst (λ (x : ℕ × Next). 1 ≤ x.0) (sym c.run.ensures) (fed-least c.args.self c.args.piece.now c.requires)

pub returns-clause-within : goal.returns-clause-within
returns-clause-within c =
    subst (λ (x : ℕ × Next). x.0 ≤ length c.args.piece.now) (sym c.run.ensures) (fed-most c.args.piece.now c.args.self)

pub returns-clause-fed : goal.returns-clause-fed
returns-clause-fed c before stands =
    subst (λ (x : ℕ × Next). IsFed before c.args.piece.now x.0 x.1) (sym c.run.ensures)
    (fed_is c.args.piece.now before c.args.self stands c.requires
    (All-from_get_or (λ o. o < 256) c.args.piece.now 0 (λ i lt. (c.type_inv.piece i).fits)))
