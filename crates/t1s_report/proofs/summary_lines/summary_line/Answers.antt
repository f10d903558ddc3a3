use Rattle.std.proofs.Common.{◌≡◌, ◌-◌, ◌<◌, [], length, sym, ap, ◌∙◌, arith, lt-ltb, le-ltb}
use Rattle.std.proofs.lemmas.List.{get_or_past}
use Rattle.t1s_line.specs.World.{totals_below}
use Rattle.t1s_report.specs.SummaryLines.{summary_lines_below}
use Rattle.t1s_report.proofs.SummaryTexts.{node_at, offer_at, none_left}
use Rattle.t1s_report.proofs.summary_lines.summary_line.Goals as goal

pub returns-in-Some-clause-line : goal.returns-in-Some-clause-line
returns-in-Some-clause-line c s t stands =
    let some : 0 < c.args.k = omega arith in
    c.node_line.ensures ∙ sym (node_at s t c.args.k some c.in-Some.totals (sym (c.totals_at.ensures.totals s t stands) ∙ c.in-Some.is)).0

pub returns-in-Some-clause-answer : goal.returns-in-Some-clause-answer
returns-in-Some-clause-answer c s t stands =
    let some : 0 < c.args.k = omega arith in
    sym (lt-ltb c.args.k (length (summary_lines_below s t)) (node_at s t c.args.k some c.in-Some.totals (sym (c.totals_at.ensures.totals s t stands) ∙ c.in-Some.is)).1)

pub returns-in-Some-wait_at-clause-line : goal.returns-in-Some-wait_at-clause-line
returns-in-Some-wait_at-clause-line c s t stands =
    let some : 0 < c.args.k = omega arith in
    let place : c.saturating_sub.result ≡ c.args.k - 1 - length (totals_below s t) = c.saturating_sub.ensures ∙ ap (λ n. c.args.k - 1 - n) (c.node_count.ensures.nodes s t stands) in
    c.offer_line.ensures ∙
    sym (offer_at s t c.args.k some c.in-Some-wait_at.number c.in-Some-wait_at.wait (sym (c.totals_at.ensures.totals s t stands) ∙ c.in_default.is)
    (rw place at (sym (c.wait_at.ensures.waits s t stands) ∙ c.in-Some-wait_at.is))).0

pub returns-in-Some-wait_at-clause-answer : goal.returns-in-Some-wait_at-clause-answer
returns-in-Some-wait_at-clause-answer c s t stands =
    let some : 0 < c.args.k = omega arith in
    let place : c.saturating_sub.result ≡ c.args.k - 1 - length (totals_below s t) = c.saturating_sub.ensures ∙ ap (λ n. c.args.k - 1 - n) (c.node_count.ensures.nodes s t stands) in
    sym (lt-ltb c.args.k (length (summary_lines_below s t)) (offer_at s t c.args.k some c.in-Some-wait_at.number c.in-Some-wait_at.wait (sym (c.totals_at.ensures.totals s t stands) ∙ c.in_default.is)
    (rw place at (sym (c.wait_at.ensures.waits s t stands) ∙ c.in-Some-wait_at.is))).1)

pub returns-clause-line : goal.returns-clause-line
returns-clause-line c s t stands =
    let some : 0 < c.args.k = omega arith in
    let place : c.saturating_sub.result ≡ c.args.k - 1 - length (totals_below s t) = c.saturating_sub.ensures ∙ ap (λ n. c.args.k - 1 - n) (c.node_count.ensures.nodes s t stands) in
    let few = none_left s t c.args.k some (sym (c.totals_at.ensures.totals s t stands) ∙ c.in_default.is) (rw place at (sym (c.wait_at.ensures.waits s t stands) ∙ c.in_default-wait_at.is)) in
    c.clear.ensures ∙ sym (get_or_past (summary_lines_below s t) c.args.k [] few)

pub returns-clause-answer : goal.returns-clause-answer
returns-clause-answer c s t stands =
    let some : 0 < c.args.k = omega arith in
    let place : c.saturating_sub.result ≡ c.args.k - 1 - length (totals_below s t) = c.saturating_sub.ensures ∙ ap (λ n. c.args.k - 1 - n) (c.node_count.ensures.nodes s t stands) in
    let few = none_left s t c.args.k some (sym (c.totals_at.ensures.totals s t stands) ∙ c.in_default.is) (rw place at (sym (c.wait_at.ensures.waits s t stands) ∙ c.in_default-wait_at.is)) in
    sym (le-ltb c.args.k (length (summary_lines_below s t)) few)
