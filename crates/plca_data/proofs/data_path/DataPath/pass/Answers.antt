use Rattle.std.proofs.Common.{ℕ, List, [], ap, sym, subst, ◌∙◌}
use Rattle.std.specs.Fn.{iterate}
use Rattle.t1s_symbols.specs.CalmSteps.{AreCalm}
use Rattle.plca_data.specs.declared.data_path.State.{State}
use Rattle.plca_data.specs.CalmData.{path_after, IsCalmData}
use Rattle.plca_data.proofs.CalmTicks.{data_calm_ticks, data_pass}
use Rattle.plca_data.proofs.data_path.DataPath.pass.Goals as goal

pub passed-state-requires-clause-calm : goal.passed-state-requires-clause-calm
passed-state-requires-clause-calm c =
    let state = c.self.inside.state in
    let CalmFrom : State → Type 0 = λ st. AreCalm (path_after c.args.inp) (IsCalmData c.args.inp) (st, []) c.args.n in
    data_calm_ticks state c.args.inp [] c.self.invariant c.args.n (subst CalmFrom (sym c.self.view_is) (c.requires []))

pub returns-clause-steps : goal.returns-clause-steps
returns-clause-steps c line =
    let state = c.self.inside.state in
    let with_line : State → State × List ℕ = λ st. (st, line) in
    let CalmFrom : State → Type 0 = λ st. AreCalm (path_after c.args.inp) (IsCalmData c.args.inp) (with_line st) c.args.n in
    ap with_line c.passed-state.ensures.state
    ∙ (data_pass state c.args.inp line c.self.invariant c.args.n (subst CalmFrom (sym c.self.view_is) (c.requires line))
    ∙ ap (λ st. iterate (path_after c.args.inp) c.args.n (with_line st)) c.self.view_is)
