use Rattle.std.proofs.Common.{◌≡◌, refl, is_ok, sym, ap, ◌∙◌}
use Rattle.t1s_grammar.specs.PlaceTable.{place_step}
use Rattle.t1s_grammar.specs.declared.place.PlaceFault.TheVariants.{TooLong}
use Rattle.t1s_grammar.proofs.Judgements.{taken, refused}
use Rattle.t1s_grammar.proofs.Beginnings.{Stands-take, BeginsBurst-stands, taken-begins}
use Rattle.t1s_grammar.proofs.Faults.{IsTooLong-stands, stands-too_long, taken-refused}
use Rattle.t1s_grammar.proofs.place.Place.take.Goals as goal

module _ (c : goal.In-Ok) where
  took : place_step c.args.self c.args.s ≡ taken c.in-Ok.phase
  took = sym (c.next.ensures.step ∙ ap (λ p. place_step p c.args.s) c.self.view_is) ∙ c.in-Ok.is

module _ (c : goal.In-Err) where
  refuses : place_step c.args.self c.args.s ≡ refused c.in-Err.fault
  refuses = sym (c.next.ensures.step ∙ ap (λ p. place_step p c.args.s) c.self.view_is) ∙ c.in-Err.is

pub returns-in-Ok-clause-stands : goal.returns-in-Ok-clause-stands
returns-in-Ok-clause-stands c symbols h =
    Stands-take symbols c.args.self c.in-Ok.phase c.args.s c.requires h (took c)

pub returns-in-Ok-clause-ok : goal.returns-in-Ok-clause-ok
returns-in-Ok-clause-ok c symbols h = (
  λ _. BeginsBurst-stands _ c.in-Ok.phase (Stands-take symbols c.args.self c.in-Ok.phase c.args.s c.requires h (took c)),
  λ _. refl,
)

pub returns-in-Ok-clause-too_long : goal.returns-in-Ok-clause-too_long
returns-in-Ok-clause-too_long c symbols h = (
  λ e. absurd (taken-refused c.in-Ok.phase TooLong e),
  λ e. sym (took c) ∙ stands-too_long symbols c.args.self c.args.s h e,
)

pub returns-in-Err-clause-ok : goal.returns-in-Err-clause-ok
returns-in-Err-clause-ok c symbols h =
    (λ e. absurd cc, λ b. sym (ap is_ok (refuses c)) ∙ taken-begins symbols c.args.self c.args.s h b)

pub returns-in-Err-clause-too_long : goal.returns-in-Err-clause-too_long
returns-in-Err-clause-too_long c symbols h = (
  λ e. IsTooLong-stands symbols c.args.self c.args.s h (refuses c ∙ e),
  λ e. sym (refuses c) ∙ stands-too_long symbols c.args.self c.args.s h e,
)
