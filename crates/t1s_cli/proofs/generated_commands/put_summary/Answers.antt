use Rattle.std.proofs.Common.{◌≡◌, true, false, take, rules}
use Rattle.t1s_report.specs.Report.{summary_below}
use Rattle.t1s_cli.proofs.TextEnds.{lent_back}
use Rattle.t1s_cli.proofs.generated_commands.put_summary.Goals as goal

pub returns-then-stopped-clause-prefix : goal.returns-then-stopped-clause-prefix
returns-then-stopped-clause-prefix g c s t stands =
    let stop : c.write_summary.new.writer.stopped ≡ true = search rules in
    let step = c.write_summary.ensures s t stands in
    let same = step.same_reference in
    let (count, wrote) = rw c.new-writer.ensures.sink at (step.prefix c.new-writer.ensures.goes_on stop).0 in
    (count, lent_back g.K.Sink.written c.args.sink.now c.write_summary.new.writer.sink.now _ (take count (summary_below s t)) (search (rules, same)) wrote)

pub returns-then-stopped-clause-cause : goal.returns-then-stopped-clause-cause
returns-then-stopped-clause-cause g c s t stands =
    let stop : c.write_summary.new.writer.stopped ≡ true = search rules in
    let step = c.write_summary.ensures s t stands in
    let rose = rw c.new-writer.ensures.sink at (step.prefix c.new-writer.ensures.goes_on stop).1 in
    let later = rw c.new-writer.ensures.sink at step.later in
    search (rules, rose, later)

pub returns-else-stopped-clause-text : goal.returns-else-stopped-clause-text
returns-else-stopped-clause-text g c s t stands =
    let on : c.write_summary.new.writer.stopped ≡ false = search rules in
    let step = c.write_summary.ensures s t stands in
    let same = step.same_reference in
    let wrote = rw c.new-writer.ensures.sink at (step.whole c.new-writer.ensures.goes_on on).0 in
    lent_back g.K.Sink.written c.args.sink.now c.write_summary.new.writer.sink.now _ (summary_below s t) (search (rules, same)) wrote

pub returns-else-stopped-clause-cause : goal.returns-else-stopped-clause-cause
returns-else-stopped-clause-cause g c s t stands =
    let on : c.write_summary.new.writer.stopped ≡ false = search rules in
    let step = c.write_summary.ensures s t stands in
    let kept = rw c.new-writer.ensures.sink at (step.whole c.new-writer.ensures.goes_on on).1 in
    let later = rw c.new-writer.ensures.sink at step.later in
    search (rules, kept, later)
