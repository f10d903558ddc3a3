use Rattle.std.proofs.Common.{◌+◌, ap}
use Rattle.t1s_base.specs.declared.sources.Failed.{Failed}
use Rattle.std.proofs.Common.{Ok, Err, ℕ}
use Rattle.t1s_drawing.specs.Calls.{Wrote}
use Rattle.t1s_drawing.specs.Written.{told_text}
use Rattle.t1s_drawing.specs.declared.status.Status.TheVariants.{Done}
use Rattle.t1s_drawing.proofs.Draws.{line_refused, line_stopped, line_taken}
use Rattle.t1s_drawing.proofs.Writes.{outcome_failed}
use Rattle.t1s_drawing.proofs.drawing.Drawing.take_line.Goals as goal

pub returns-in-Ok-write_told-clause-ok : goal.returns-in-Ok-write_told-clause-ok
returns-in-Ok-write_told-clause-ok g c first octets h =
    let wrote : Wrote {T = Unit {0}} {E = Failed} g.K.Sink.written g.K.Sink.faults (told_text c.args.w.now c.args.self.now.line c.in-Ok.told) c.args.sink.now c.write_told.new.sink (Ok c.in-Ok-write_told.field-0) =
    rw (c.as_slice.ensures.value, c.step.ensures.line) at c.in-Ok-write_told.ensures in
    line_taken g.K.Sink.written g.K.Sink.faults g.K.Sink.finished c.args.w.now octets c.args.self.now first c.args.sink.now h
    (record { line = c.clear.new.self; number = c.step.new.self.number + 1; progress = c.step.new.self.progress }) c.in-Ok.told c.write_told.new.sink c.in-Ok.ensures.ok c.clear.ensures (ap (λ (n : ℕ). n + 1) c.step.ensures.number) wrote.whole wrote.cause.kept

pub returns-in-Err-write_told-clause-err : goal.returns-in-Err-write_told-clause-err
returns-in-Err-write_told-clause-err g c first octets h =
    let wrote : Wrote {T = Unit {0}} {E = Failed} g.K.Sink.written g.K.Sink.faults (told_text c.args.w.now c.args.self.now.line c.in-Ok.told) c.args.sink.now c.write_told.new.sink (Err c.in-Err-write_told.field-0) =
    rw (c.as_slice.ensures.value, c.step.ensures.line) at c.in-Err-write_told.ensures in
    line_stopped g.K.Sink.written g.K.Sink.faults g.K.Sink.finished c.args.w.now octets c.args.self.now first c.args.sink.now h c.step.new.self.progress c.in-Ok.told c.write_told.new.sink c.in-Ok.ensures.ok
    (outcome_failed g.K.Sink.written g.K.Sink.faults g.K.Sink.finished Done (told_text c.args.w.now c.args.self.now.line c.in-Ok.told) c.args.sink.now c.write_told.new.sink c.in-Err-write_told.field-0 (λ e. cc) wrote)

pub returns-in-Err-clause-err : goal.returns-in-Err-clause-err
returns-in-Err-clause-err g c first octets h =
    line_refused g.K.Sink.written g.K.Sink.faults g.K.Sink.finished c.args.w.now octets c.args.self.now first c.args.sink.now h c.in-Err.reason c.refuse.new.sink c.refuse.result c.in-Err.ensures.err
    (rw c.step.ensures.number at c.refuse.ensures)
