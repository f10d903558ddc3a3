use Rattle.std.proofs.Common.{ℕ, sym, subst}
use Rattle.t1s_symbols.specs.CalmSteps.{IsCalmFor}
use Rattle.plca_data.specs.declared.data_path.State.{State}
use Rattle.plca_data.specs.CalmData.{path_after, IsCalmData}
use Rattle.plca_data.proofs.CalmTicks.{data_calm_for}
use Rattle.plca_data.proofs.data_path.DataPath.calm_for.Goals as goal

pub returns : goal.returns
returns c line =
    let state = c.self.inside.state in
    let Calm : State → ℕ → Type 0 = λ st n. IsCalmFor (path_after c.args.inp) (IsCalmData c.args.inp) (st, line) c.args.most n in
    let CalmInside : ℕ → Type 0 = Calm state in
    let CalmBy : State → Type 0 = λ st. Calm st c.calm_ticks.result in
    subst CalmBy c.self.view_is (subst CalmInside (sym c.calm_ticks.ensures) (data_calm_for state c.args.inp line c.self.invariant c.args.most))
