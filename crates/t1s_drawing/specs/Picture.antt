-- The picture of a report: what is written before, for and after its lines.
use Rattle.std.specs.Prelude.{ℕ, ◌+◌, ◌*◌, ◌-◌, ◌/◌, List, [], ◌++◌, max, codes, decimal}
use Rattle.t1s_drawing.specs.Pieces.{each_text, piece_text}
use Rattle.t1s_drawing.specs.Progress.{at_start}
use Rattle.t1s_drawing.specs.ShapeTexts.{box_text, label_text, optional_text, summary_y}
use Rattle.t1s_drawing.specs.declared.progress.Progress.{Progress}
use Rattle.t1s_drawing.specs.declared.progress.Told.{Told}
use Rattle.t1s_drawing.specs.declared.writing.Piece.TheVariants.{Lanes, Grid as GridPiece, Legend as LegendPiece, Ends}
use Rattle.t1s_drawing.specs.declared.window.Window.{Window}

abbrev pub width : Window → ℕ
width w = 170 + max (w.until - w.from) 850

abbrev pub height : Window → ℕ
height w = summary_y w + 16 * w.nodes + 30

-- the start of the element that holds all others, and how its classes look
unfoldable pub head : Window → List ℕ
head w =
    codes "<svg xmlns='http://www.w3.org/2000/svg' width='" ++ decimal (width w) ++ codes "' height='" ++ decimal (height w) ++ codes "'>\n"
    ++ codes "<style>text{font:11px sans-serif}.paper{fill:white}.lane{fill:#f1f3f5}.grid{fill:#dde1e6}.cycle{fill:#9aa5b1}"
    ++ codes ".beacon{fill:#3b6fb6}.commit{fill:#f2b134}.frame{fill:#4f9d69}.good{fill:#1b7340}.bad{fill:#c62828}"
    ++ codes ".number{fill:white}.taken{fill:#3b6fb6}.jam{fill:#c05a00}.ok{fill:#1b7340}.tick{fill:#666}</style>\n"

-- it, and the white paper below all else: not every reader shows the background of the element itself
abbrev pub with_paper : Window → List ℕ
with_paper w = box_text (head w) (codes "paper") (0, 0) (width w, height w)

-- then a note
abbrev pub head_text : Window → List ℕ
head_text w = label_text (with_paper w) (codes "note") 70 14 (codes "ticks of 100 ns; +K is offer K, taken into the queue; signs of one tick stand side by side")

-- then the lanes, the ticks and the legend
abbrev pub with_lanes : Window → List ℕ
with_lanes w = head_text w ++ each_text (piece_text Lanes w at_start) w.nodes

abbrev pub with_grid : Window → List ℕ
with_grid w = with_lanes w ++ each_text (piece_text GridPiece w at_start) (w.until / 100 + 1)

abbrev pub picture_opening : Window → List ℕ
picture_opening w = with_grid w ++ each_text (piece_text LegendPiece w at_start) 5

-- what is driven when the run ends is shown up to the end of the window
abbrev pub picture_closing : Window → Progress → List ℕ
picture_closing w p = each_text (piece_text Ends w p) w.nodes ++ codes "</svg>\n"

-- the text of the shapes that a line gives
abbrev pub shapes_text : Window → List ℕ → Told → List ℕ
shapes_text w line told = optional_text (optional_text [] w line told.bar) w line told.mark
