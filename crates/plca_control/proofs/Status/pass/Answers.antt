use Rattle.std.proofs.Common.{ap, sym, subst, ◌∙◌}
use Rattle.std.specs.Fn.{iterate}
use Rattle.t1s_symbols.specs.CalmSteps.{AreCalm}
use Rattle.plca_control.specs.declared.StatusState.{StatusState}
use Rattle.plca_control.specs.CalmControl.{status_after, IsCalmStatus}
use Rattle.plca_control.proofs.CalmTicks.{status_ticks, status_pass}
use Rattle.plca_control.proofs.Status.pass.Goals as goal

pub status_passed-state-requires-clause-calm : goal.status_passed-state-requires-clause-calm
status_passed-state-requires-clause-calm c =
    let state = c.self.inside.state in
    let CalmFrom : StatusState → Type 0 = λ st. AreCalm (status_after c.args.active) (IsCalmStatus c.args.active) st c.args.n in
    status_ticks state c.args.active c.self.invariant c.args.n (subst CalmFrom (sym c.self.view_is) c.requires)

pub returns-clause-steps : goal.returns-clause-steps
returns-clause-steps c =
    let state = c.self.inside.state in
    let CalmFrom : StatusState → Type 0 = λ st. AreCalm (status_after c.args.active) (IsCalmStatus c.args.active) st c.args.n in
    c.status_passed-state.ensures.state
    ∙ (status_pass state c.args.active c.self.invariant c.args.n (subst CalmFrom (sym c.self.view_is) c.requires)
    ∙ ap (iterate (status_after c.args.active) c.args.n) c.self.view_is)
