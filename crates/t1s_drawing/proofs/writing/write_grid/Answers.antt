use Rattle.std.proofs.Common.{◌+◌, ◌/◌}
use Rattle.t1s_drawing.specs.Pieces.{each_text, piece_text}
use Rattle.t1s_drawing.specs.Picture.{with_lanes}
use Rattle.t1s_drawing.specs.Progress.{at_start}
use Rattle.t1s_drawing.specs.declared.writing.Piece.TheVariants.{Grid}
use Rattle.t1s_drawing.proofs.Writes.{wrote_part, wrote_then}
use Rattle.t1s_drawing.proofs.writing.write_grid.Goals as goal

pub returns-in-Ok : goal.returns-in-Ok
returns-in-Ok g c =
    wrote_then g.K.Sink.written g.K.Sink.faults c.args.sink.now c.write_lanes.new.sink c.write_each.new.sink (with_lanes c.args.w.now) (each_text (piece_text Grid c.args.w.now at_start) (c.args.w.now.until / 100 + 1)) c.in-Ok.field-0 c.write_each.result
    c.in-Ok.ensures (rw c.requires at c.write_each.ensures)

pub returns-in-Err : goal.returns-in-Err
returns-in-Err g c =
    wrote_part g.K.Sink.written g.K.Sink.faults c.args.sink.now c.write_lanes.new.sink (with_lanes c.args.w.now) (each_text (piece_text Grid c.args.w.now at_start) (c.args.w.now.until / 100 + 1)) c.in-Err.failed c.in-Err.failed c.in-Err.ensures
