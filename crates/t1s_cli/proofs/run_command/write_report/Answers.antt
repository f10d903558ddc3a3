use Rattle.std.proofs.Common.{◌≡◌, ℕ, ◌+◌, add-zero, ◌⊎◌, inl, inr, true, subst, rules}
use Rattle.t1s_line.specs.World.{events_at}
use Rattle.t1s_segment.specs.Stands.{Stands}
use Rattle.t1s_report.proofs.WriterSteps.{step_no_tick, step_tick, step_report}
use Rattle.t1s_cli.proofs.CalmTicks.{none_added}
use Rattle.t1s_cli.proofs.run_command.write_report.Goals as goal

pub loop-seg-init : goal.loop-seg-init
loop-seg-init g c s stands = (0, stands, step_no_tick g.K.Sink.written g.K.Sink.faults g.K.Sink.finished s c.args.writer.now)

pub loop-seg-preserved-then-skip-eq0 : goal.loop-seg-preserved-then-skip-eq0
loop-seg-preserved-then-skip-eq0 g c s first =
    let (t, found, so_far) = c.loop-seg.invariant s first in
    let none : c.skip.result ≡ 0 = search rules in
    let stands : Stands s t c.skip.new.self = rw (none, add-zero) at (c.skip.ensures.stands s t found) in
    (t + 1, c.tick.ensures.stands s t stands, step_tick g.K.Sink.written g.K.Sink.faults g.K.Sink.finished s t c.args.writer.now c.loop-seg.writer c.tick.new.watch so_far (c.tick.ensures.events s t stands))

pub loop-seg-preserved : goal.loop-seg-preserved
loop-seg-preserved g c s first =
    let (t, found, so_far) = c.loop-seg.invariant s first in
    (t + c.skip.result, c.skip.ensures.stands s t found, rw (none_added (events_at s) t c.skip.result (c.skip.ensures.quiet s t found)) so_far)

pub returns-clause-text : goal.returns-clause-text
returns-clause-text g c s first =
    let (t, stands, so_far) = c.loop-seg.invariant s first in
    let why : (c.loop-seg.writer.stopped ≡ true) ⊎ (t ≡ s.end) = c.goes_on.ensures.no_more s t stands (search rules) in
    step_report g.K.Sink.written g.K.Sink.faults g.K.Sink.finished s t c.args.writer.now c.loop-seg.writer c.write_summary.new.writer stands.in_time why so_far (c.write_summary.ensures s t stands)

pub returns-clause-at_end : goal.returns-clause-at_end
returns-clause-at_end g c s first on =
    let (t, stands, so_far) = c.loop-seg.invariant s first in
    let why : (c.loop-seg.writer.stopped ≡ true) ⊎ (t ≡ s.end) = c.goes_on.ensures.no_more s t stands (search rules) in
    elim why [
      | inl stop ↦ absurd (let still = ((c.write_summary.ensures s t stands).idle stop).0 in cc)
      | inr e ↦ subst (λ (u : ℕ). Stands s u c.loop-seg.seg) e stands
    ]
