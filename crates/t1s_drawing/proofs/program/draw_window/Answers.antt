use Rattle.t1s_drawing.proofs.DrawCalls.{calls_unopened}
use Rattle.t1s_drawing.proofs.Draws.{begun}
use Rattle.t1s_drawing.proofs.program.draw_window.Goals as goal

pub returns-in-Ok : goal.returns-in-Ok
returns-in-Ok g c =
    c.read_report.ensures c.args.sink.now
    (begun g.K.Sink.written g.K.Sink.faults g.K.Sink.finished c.args.w.now c.new-drawing.result c.args.sink.now c.write_opening.new.sink
    c.new-drawing.ensures.line c.new-drawing.ensures.progress c.new-drawing.ensures.number c.in-Ok.ensures.whole c.in-Ok.ensures.cause.kept)

pub returns-in-Err : goal.returns-in-Err
returns-in-Err g c =
    calls_unopened g.S.Source.left g.S.Source.faults g.K.Sink.written g.K.Sink.faults g.K.Sink.finished c.args.w.now c.args.source.now c.args.sink.now c.write_opening.new.sink c.in-Err.field-0 c.in-Err.ensures
