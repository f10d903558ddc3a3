use Rattle.std.proofs.Common.{codes}
use Rattle.t1s_drawing.specs.Pieces.{each_text, piece_text}
use Rattle.t1s_drawing.specs.declared.writing.Piece.TheVariants.{Ends}
use Rattle.t1s_drawing.proofs.Writes.{wrote_part, wrote_then}
use Rattle.t1s_drawing.proofs.writing.write_picture_closing.Goals as goal

pub returns-in-Ok : goal.returns-in-Ok
returns-in-Ok g c =
    wrote_then g.K.Sink.written g.K.Sink.faults c.args.sink.now c.write_each.new.sink c.write_tail.new.sink (each_text (piece_text Ends c.args.w.now c.args.progress.now) c.args.w.now.nodes) (codes "</svg>\n") c.in-Ok.field-0 c.write_tail.result
    c.in-Ok.ensures c.write_tail.ensures

pub returns-in-Err : goal.returns-in-Err
returns-in-Err g c =
    wrote_part g.K.Sink.written g.K.Sink.faults c.args.sink.now c.write_each.new.sink (each_text (piece_text Ends c.args.w.now c.args.progress.now) c.args.w.now.nodes) (codes "</svg>\n") c.in-Err.failed c.in-Err.failed c.in-Err.ensures
