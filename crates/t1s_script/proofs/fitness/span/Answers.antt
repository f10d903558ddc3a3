use Rattle.std.proofs.Common.{◌≡◌, ◌≤◌, rules, subst, sym}
use Rattle.t1s_script.specs.Limits.{most_span}
use Rattle.t1s_script.specs.Taps.{span_of}
use Rattle.t1s_script.proofs.ScriptSpans.{span-small}
use Rattle.t1s_script.proofs.fitness.span.Goals as goal

pub returns-clause-narrow : goal.returns-clause-narrow
returns-clause-narrow c valid =
    let value : c.from.result ≡ span_of c.args.s.now = search rules in
    subst (λ n. n ≤ most_span) (sym value) (span-small c.args.s.now.nodes valid.nodes)
