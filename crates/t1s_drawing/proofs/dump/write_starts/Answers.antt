use Rattle.t1s_drawing.specs.Dump.{with_begin}
use Rattle.t1s_drawing.specs.Pieces.{each_text, piece_text}
use Rattle.t1s_drawing.specs.Progress.{at_start}
use Rattle.t1s_drawing.specs.declared.writing.Piece.TheVariants.{Starts}
use Rattle.t1s_drawing.proofs.Writes.{wrote_part, wrote_then}
use Rattle.t1s_drawing.proofs.dump.write_starts.Goals as goal

pub returns-in-Ok : goal.returns-in-Ok
returns-in-Ok g c =
    wrote_then g.K.Sink.written g.K.Sink.faults c.args.sink.now c.write_begin.new.sink c.write_each.new.sink (with_begin c.args.w.now) (each_text (piece_text Starts c.args.w.now at_start) c.args.w.now.nodes) c.in-Ok.field-0 c.write_each.result
    c.in-Ok.ensures c.write_each.ensures

pub returns-in-Err : goal.returns-in-Err
returns-in-Err g c =
    wrote_part g.K.Sink.written g.K.Sink.faults c.args.sink.now c.write_begin.new.sink (with_begin c.args.w.now) (each_text (piece_text Starts c.args.w.now at_start) c.args.w.now.nodes) c.in-Err.failed c.in-Err.failed c.in-Err.ensures
