use Rattle.std.proofs.Common.{◌≡◌, rules}
use Rattle.t1s_script.specs.Fit.{fitness_of, unmet}
use Rattle.t1s_script.proofs.Premises.{ok_where_fit}
use Rattle.t1s_script.proofs.fitness.fit.Goals as goal

pub returns-in_err-distinct_ids-clause-fit : goal.returns-in_err-distinct_ids-clause-fit
returns-in_err-distinct_ids-clause-fit c =
    let value : c.from_residual-in_err-distinct_ids.result ≡ fitness_of (unmet c.args.s.now) = search rules in
    ok_where_fit c.args.s.now c.from_residual-in_err-distinct_ids.result value

pub returns-in_err-low_ids-clause-fit : goal.returns-in_err-low_ids-clause-fit
returns-in_err-low_ids-clause-fit c =
    let value : c.from_residual-in_err-low_ids.result ≡ fitness_of (unmet c.args.s.now) = search rules in
    ok_where_fit c.args.s.now c.from_residual-in_err-low_ids.result value

pub returns-in_err-one_timer-clause-fit : goal.returns-in_err-one_timer-clause-fit
returns-in_err-one_timer-clause-fit c =
    let value : c.from_residual-in_err-one_timer.result ≡ fitness_of (unmet c.args.s.now) = search rules in
    ok_where_fit c.args.s.now c.from_residual-in_err-one_timer.result value

pub returns-in_err-no_noise-clause-fit : goal.returns-in_err-no_noise-clause-fit
returns-in_err-no_noise-clause-fit c =
    let value : c.from_residual-in_err-no_noise.result ≡ fitness_of (unmet c.args.s.now) = search rules in
    ok_where_fit c.args.s.now c.from_residual-in_err-no_noise.result value

pub returns-clause-fit : goal.returns-clause-fit
returns-clause-fit c =
    let value : c.short_cable.result ≡ fitness_of (unmet c.args.s.now) = search rules in
    ok_where_fit c.args.s.now c.short_cable.result value
