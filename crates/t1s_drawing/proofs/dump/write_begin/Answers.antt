use Rattle.std.proofs.Common.{codes}
use Rattle.t1s_drawing.specs.Dump.{with_wires}
use Rattle.t1s_drawing.proofs.Writes.{wrote_part, wrote_then}
use Rattle.t1s_drawing.proofs.dump.write_begin.Goals as goal

pub returns-in-Ok : goal.returns-in-Ok
returns-in-Ok g c =
    wrote_then g.K.Sink.written g.K.Sink.faults c.args.sink.now c.write_wires.new.sink c.write_octets.new.sink (with_wires c.args.w.now) (codes "$enddefinitions $end\n#0\n") c.in-Ok.field-0 c.write_octets.result
    c.in-Ok.ensures c.write_octets.ensures

pub returns-in-Err : goal.returns-in-Err
returns-in-Err g c =
    wrote_part g.K.Sink.written g.K.Sink.faults c.args.sink.now c.write_wires.new.sink (with_wires c.args.w.now) (codes "$enddefinitions $end\n#0\n") c.in-Err.failed c.in-Err.failed c.in-Err.ensures
