use Rattle.t1s_drawing.specs.Dump.{heard_scope_text, with_scopes}
use Rattle.t1s_drawing.proofs.Writes.{wrote_part, wrote_then}
use Rattle.t1s_drawing.proofs.dump.write_wires.Goals as goal

pub returns-in-Ok : goal.returns-in-Ok
returns-in-Ok g c =
    wrote_then g.K.Sink.written g.K.Sink.faults c.args.sink.now c.write_scopes.new.sink c.write_heard_wire.new.sink (with_scopes c.args.w.now) (heard_scope_text c.args.w.now.heard) c.in-Ok.field-0 c.write_heard_wire.result
    c.in-Ok.ensures c.write_heard_wire.ensures

pub returns-in-Err : goal.returns-in-Err
returns-in-Err g c =
    wrote_part g.K.Sink.written g.K.Sink.faults c.args.sink.now c.write_scopes.new.sink (with_scopes c.args.w.now) (heard_scope_text c.args.w.now.heard) c.in-Err.failed c.in-Err.failed c.in-Err.ensures
