use Rattle.t1s_drawing.specs.Pieces.{each_text, piece_text}
use Rattle.t1s_drawing.specs.Picture.{with_grid}
use Rattle.t1s_drawing.specs.Progress.{at_start}
use Rattle.t1s_drawing.specs.declared.writing.Piece.TheVariants.{Legend}
use Rattle.t1s_drawing.proofs.Writes.{wrote_part, wrote_then}
use Rattle.t1s_drawing.proofs.writing.write_picture_opening.Goals as goal

pub returns-in-Ok : goal.returns-in-Ok
returns-in-Ok g c =
    wrote_then g.K.Sink.written g.K.Sink.faults c.args.sink.now c.write_grid.new.sink c.write_each.new.sink (with_grid c.args.w.now) (each_text (piece_text Legend c.args.w.now at_start) 5) c.in-Ok.field-0 c.write_each.result
    c.in-Ok.ensures c.write_each.ensures

pub returns-in-Err : goal.returns-in-Err
returns-in-Err g c =
    wrote_part g.K.Sink.written g.K.Sink.faults c.args.sink.now c.write_grid.new.sink (with_grid c.args.w.now) (each_text (piece_text Legend c.args.w.now at_start) 5) c.in-Err.failed c.in-Err.failed c.in-Err.ensures
