use Rattle.std.proofs.Common.{ℕ, sym, subst}
use Rattle.t1s_symbols.specs.CalmSteps.{IsCalmFor}
use Rattle.plca_control.specs.declared.StatusState.{StatusState}
use Rattle.plca_control.specs.CalmControl.{status_after, IsCalmStatus}
use Rattle.plca_control.proofs.CalmTicks.{status_calm_for}
use Rattle.plca_control.proofs.Status.calm_for.Goals as goal

pub returns : goal.returns
returns c =
    let state = c.self.inside.state in
    let Calm : StatusState → ℕ → Type 0 = λ st n. IsCalmFor (status_after c.args.active) (IsCalmStatus c.args.active) st c.args.most n in
    let CalmInside : ℕ → Type 0 = Calm state in
    let CalmBy : StatusState → Type 0 = λ st. Calm st c.status_calm_ticks.result in
    subst CalmBy c.self.view_is (subst CalmInside (sym c.status_calm_ticks.ensures) (status_calm_for state c.args.active c.self.invariant c.args.most))
