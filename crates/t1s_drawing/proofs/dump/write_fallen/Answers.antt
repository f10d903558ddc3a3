use Rattle.std.proofs.Common.{◌+◌}
use Rattle.t1s_waveform.specs.Dumps.{time_text}
use Rattle.t1s_drawing.specs.Pieces.{each_text, piece_text}
use Rattle.t1s_drawing.specs.declared.writing.Piece.TheVariants.{Falls}
use Rattle.t1s_drawing.proofs.Writes.{wrote_part, wrote_then}
use Rattle.t1s_drawing.proofs.dump.write_fallen.Goals as goal

pub returns-in-Ok : goal.returns-in-Ok
returns-in-Ok g c =
    wrote_then g.K.Sink.written g.K.Sink.faults c.args.sink.now c.write_time.new.sink c.write_each.new.sink (time_text (c.args.progress.now.tick + 1)) (each_text (piece_text Falls c.args.w.now c.args.progress.now) c.args.w.now.nodes) c.in-Ok.field-0 c.write_each.result
    (rw c.from.ensures at c.in-Ok.ensures) c.write_each.ensures

pub returns-in-Err : goal.returns-in-Err
returns-in-Err g c =
    wrote_part g.K.Sink.written g.K.Sink.faults c.args.sink.now c.write_time.new.sink (time_text (c.args.progress.now.tick + 1)) (each_text (piece_text Falls c.args.w.now c.args.progress.now) c.args.w.now.nodes) c.in-Err.failed c.in-Err.failed (rw c.from.ensures at c.in-Err.ensures)
