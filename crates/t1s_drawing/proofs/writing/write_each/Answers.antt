use Rattle.std.proofs.Common.{arith}
use Rattle.t1s_drawing.specs.Pieces.{piece_text}
use Rattle.t1s_drawing.proofs.Pieces.{each_part, each_then}
use Rattle.t1s_drawing.proofs.Writes.{wrote_nothing}
use Rattle.t1s_drawing.proofs.writing.write_each.Goals as goal

pub loop-row-init : goal.loop-row-init
loop-row-init g c = wrote_nothing g.K.Sink.written g.K.Sink.faults tt c.args.sink.now

pub loop-row-preserved : goal.loop-row-preserved
loop-row-preserved g c =
    each_then g.K.Sink.written g.K.Sink.faults (piece_text c.args.piece c.args.w.now c.args.progress.now) c.args.sink.now c.loop-row.sink c.write_piece.new.sink c.loop-row.row tt tt c.loop-row.invariant c.in-Ok.ensures

pub returns-in-Err : goal.returns-in-Err
returns-in-Err g c =
    each_part g.K.Sink.written g.K.Sink.faults (piece_text c.args.piece c.args.w.now c.args.progress.now) c.args.sink.now c.loop-row.sink c.write_piece.new.sink c.loop-row.row c.args.count tt c.in-Err.failed (omega arith) c.loop-row.invariant c.in-Err.ensures
