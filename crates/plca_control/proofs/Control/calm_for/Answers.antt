use Rattle.std.proofs.Common.{ℕ, sym, subst}
use Rattle.t1s_symbols.specs.CalmSteps.{IsCalmFor}
use Rattle.plca_control.specs.State.{ControlState}
use Rattle.plca_control.specs.CalmControl.{control_after, IsCalmControl}
use Rattle.plca_control.proofs.CalmTicks.{control_calm_for}
use Rattle.plca_control.proofs.Control.calm_for.Goals as goal

pub returns : goal.returns
returns c =
    let inside = c.self.inside in
    let Calm : ControlState → ℕ → Type 0 = λ m n. IsCalmFor (control_after c.args.inp) (IsCalmControl c.args.inp) m c.args.most n in
    let CalmInside : ℕ → Type 0 = Calm (record { set = inside.set; state = inside.state }) in
    let CalmBy : ControlState → Type 0 = λ m. Calm m c.calm_ticks.result in
    subst CalmBy c.self.view_is (subst CalmInside (sym c.calm_ticks.ensures) (control_calm_for inside.set inside.state c.args.inp c.self.invariant c.args.most))
