use Rattle.std.proofs.Common.{ap, sym, subst, ◌∙◌}
use Rattle.std.specs.Fn.{iterate}
use Rattle.t1s_symbols.specs.CalmSteps.{AreCalm}
use Rattle.plca_control.specs.State.{ControlState}
use Rattle.plca_control.specs.CalmControl.{control_after, IsCalmControl}
use Rattle.plca_control.proofs.CalmTicks.{at, control_calm_ticks, control_pass}
use Rattle.plca_control.proofs.Control.pass.Goals as goal

pub passed-state-requires-clause-calm : goal.passed-state-requires-clause-calm
passed-state-requires-clause-calm c =
    let inside = c.self.inside in
    let CalmFrom : ControlState → Type 0 = λ m. AreCalm (control_after c.args.inp) (IsCalmControl c.args.inp) m c.args.n in
    control_calm_ticks inside.set inside.state c.args.inp c.self.invariant c.args.n (subst CalmFrom (sym c.self.view_is) c.requires)

pub returns-clause-steps : goal.returns-clause-steps
returns-clause-steps c =
    let inside = c.self.inside in
    let CalmFrom : ControlState → Type 0 = λ m. AreCalm (control_after c.args.inp) (IsCalmControl c.args.inp) m c.args.n in
    ap (at inside.set) c.passed-state.ensures.state
    ∙ (control_pass inside.set inside.state c.args.inp c.self.invariant c.args.n (subst CalmFrom (sym c.self.view_is) c.requires)
    ∙ ap (iterate (control_after c.args.inp) c.args.n) c.self.view_is)
