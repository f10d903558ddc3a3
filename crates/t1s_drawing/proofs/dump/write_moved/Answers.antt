use Rattle.t1s_drawing.specs.Dump.{falls_text, time_after}
use Rattle.t1s_drawing.proofs.Writes.{wrote_part, wrote_then}
use Rattle.t1s_drawing.proofs.dump.write_moved.Goals as goal

pub returns-in-Ok : goal.returns-in-Ok
returns-in-Ok g c =
    wrote_then g.K.Sink.written g.K.Sink.faults c.args.sink.now c.write_falls.new.sink c.write_time_after.new.sink (falls_text c.args.w.now c.args.progress.now) (time_after c.args.progress.now c.args.tick) c.in-Ok.field-0 c.write_time_after.result
    c.in-Ok.ensures c.write_time_after.ensures

pub returns-in-Err : goal.returns-in-Err
returns-in-Err g c =
    wrote_part g.K.Sink.written g.K.Sink.faults c.args.sink.now c.write_falls.new.sink (falls_text c.args.w.now c.args.progress.now) (time_after c.args.progress.now c.args.tick) c.in-Err.failed c.in-Err.failed c.in-Err.ensures
