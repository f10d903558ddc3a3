-- The parts of a picture or a dump that have a text for each number from 0 on.
use Rattle.std.specs.Prelude.{ℕ, zero, suc, ◌*◌, ◌&&◌, false, List, [], ◌++◌, get_or, nat_le, Option, Some, None, if◌then◌else◌}
use Rattle.t1s_waveform.specs.Dumps.{Item, items_text, scope_text}
use Rattle.t1s_waveform.specs.Wires.{fall_changes, scope_of, start_changes}
use Rattle.t1s_drawing.specs.Shapes.{bar}
use Rattle.t1s_drawing.specs.Progress.{drive_at}
use Rattle.t1s_drawing.specs.ShapeTexts.{optional_text}
use Rattle.t1s_drawing.specs.declared.shapes.Shape.{Shape}
use Rattle.t1s_drawing.specs.declared.shapes.Shape.TheVariants.{Lane, Grid, Legend}
use Rattle.t1s_drawing.specs.declared.progress.Progress.{Progress}
use Rattle.t1s_drawing.specs.declared.writing.Piece.{Piece}
use Rattle.t1s_drawing.specs.declared.writing.Piece.TheVariants.{Lanes, Grid as GridPiece, Legend as LegendPiece, Ends, Scopes, Starts, Falls}
use Rattle.t1s_drawing.specs.declared.window.Window.{Window}

-- the texts of the first numbers, one after the other
abbrev pub each_text : (ℕ → List ℕ) → ℕ → List ℕ
each_text text zero = []
each_text text (suc count) = each_text text count ++ text count

-- the line at a hundred of ticks, where the window shows it
abbrev pub grid_at : Window → ℕ → Option Shape
grid_at w row = if nat_le w.from (100 * row) && nat_le (100 * row) w.until then Some (Grid (100 * row)) else None

-- the shape of a part of a picture that has this number
abbrev pub piece_shape : Piece → Window → Progress → ℕ → Option Shape
piece_shape Lanes w p row = Some (Lane row)
piece_shape GridPiece w p row = grid_at w row
piece_shape LegendPiece w p row = Some (Legend row)
piece_shape Ends w p row = bar w row (drive_at p row) w.until
piece_shape Scopes w p row = None
piece_shape Starts w p row = None
piece_shape Falls w p row = None

-- the changes by which the pulses of a node fall, if it has one
abbrev pub falls_of : Progress → ℕ → List Item
falls_of p node = if get_or p.pulses.nodes node false then fall_changes node else []

-- the text of a part that has this number
abbrev pub piece_text : Piece → Window → Progress → ℕ → List ℕ
piece_text Scopes w p row = scope_text (scope_of row)
piece_text Starts w p row = items_text (start_changes row)
piece_text Falls w p row = items_text (falls_of p row)
piece_text piece w p row = optional_text [] w [] (piece_shape piece w p row)
