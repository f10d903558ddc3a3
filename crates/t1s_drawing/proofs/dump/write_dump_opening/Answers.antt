use Rattle.t1s_drawing.specs.Dump.{heard_start_text, with_starts}
use Rattle.t1s_drawing.proofs.Writes.{wrote_part, wrote_then}
use Rattle.t1s_drawing.proofs.dump.write_dump_opening.Goals as goal

pub returns-in-Ok : goal.returns-in-Ok
returns-in-Ok g c =
    wrote_then g.K.Sink.written g.K.Sink.faults c.args.sink.now c.write_starts.new.sink c.write_heard_start.new.sink (with_starts c.args.w.now) (heard_start_text c.args.w.now.heard) c.in-Ok.field-0 c.write_heard_start.result
    c.in-Ok.ensures c.write_heard_start.ensures

pub returns-in-Err : goal.returns-in-Err
returns-in-Err g c =
    wrote_part g.K.Sink.written g.K.Sink.faults c.args.sink.now c.write_starts.new.sink (with_starts c.args.w.now) (heard_start_text c.args.w.now.heard) c.in-Err.failed c.in-Err.failed c.in-Err.ensures
