-- The text of each shape, after the text before it.
use Rattle.std.specs.Prelude.{ℕ, ◌+◌, ◌-◌, ◌*◌, ◌/◌, ◌==◌, List, [], ◌++◌, length, min, take, drop, codes, decimal, Option, Some, None, if◌then◌else◌}
use Rattle.std.specs.Str.{bytes_eq}
use Rattle.t1s_drawing.specs.Elements.{begin_words, end_words, begin_box, end_box}
use Rattle.t1s_drawing.specs.declared.report.Event.{Event}
use Rattle.t1s_drawing.specs.declared.report.Happening.{Happening}
use Rattle.t1s_drawing.specs.declared.report.Happening.TheVariants.{Taken, Full, Off, InStep, LostStep, Jam, Drop, Beacon, Commit, Quiet, Leave, Good, Bad, Hears}
use Rattle.t1s_drawing.specs.declared.shapes.Part.{Part}
use Rattle.t1s_drawing.specs.declared.shapes.Part.TheVariants.{Beacon as BeaconPart, Commit as CommitPart, Frame}
use Rattle.t1s_drawing.specs.declared.shapes.Shape.{Shape}
use Rattle.t1s_drawing.specs.declared.shapes.Shape.TheVariants.{Bar, Mark, Settled, Totals, Lane, Grid, Legend}
use Rattle.t1s_drawing.specs.declared.window.Window.{Window}

-- ---- where things stand: a tick is one wide, a lane is 48 high

abbrev pub column_x : Window → ℕ → ℕ
column_x w tick = 70 + (tick - w.from)

abbrev pub lane_y : ℕ → ℕ
lane_y node = 50 + 48 * node

abbrev pub bottom : Window → ℕ
bottom w = lane_y w.nodes

-- ---- elements

abbrev pub label_text : List ℕ → List ℕ → ℕ → ℕ → List ℕ → List ℕ
label_text before class x y words = end_words (begin_words before class x y ++ words)

abbrev pub numbered_text : List ℕ → List ℕ → ℕ → ℕ → List ℕ → ℕ → List ℕ
numbered_text before class x y words n = end_words (begin_words before class x y ++ words ++ decimal n)

abbrev pub box_text : List ℕ → List ℕ → ℕ × ℕ → ℕ × ℕ → List ℕ
box_text before class place size = end_box (begin_box before class place size)

abbrev pub title_text : List ℕ → List ℕ → ℕ → ℕ → List ℕ
title_text before class start stop =
    before ++ codes "<title>" ++ class ++ codes " " ++ decimal start ++ codes " to " ++ decimal stop ++ codes "</title>"

-- ---- bars

abbrev pub part_class : Part → List ℕ
part_class BeaconPart = codes "beacon"
part_class CommitPart = codes "commit"
part_class (Frame number) = codes "frame"

-- the number of the offer on a frame
abbrev pub part_number : List ℕ → Part → ℕ → ℕ → List ℕ
part_number before BeaconPart x y = before
part_number before CommitPart x y = before
part_number before (Frame number) x y = numbered_text before (codes "number") (x + 3) (y + 13) [] number

-- as wide as it has ticks, which its title tells too
abbrev pub bar_text : List ℕ → Window → ℕ → Part → ℕ → ℕ → List ℕ
bar_text before w node part start stop =
    part_number
    (end_box (title_text (begin_box before (part_class part) (column_x w start, lane_y node + 16) (stop - start, 18)) (part_class part) start stop))
    part (column_x w start) (lane_y node + 16)

-- ---- marks

abbrev pub mark_of : List ℕ → Window → Happening → ℕ → ℕ → List ℕ
mark_of before w (Taken n) x y = numbered_text before (codes "taken") x (y + 11) (codes "+") n
mark_of before w (Full n) x y = numbered_text before (codes "bad") x (y + 11) (codes "full ") n
mark_of before w (Off n) x y = numbered_text before (codes "bad") x (y + 11) (codes "off ") n
mark_of before w InStep x y = label_text before (codes "ok") x (y + 11) (codes "ok")
mark_of before w LostStep x y = label_text before (codes "bad") x (y + 11) (codes "lost")
mark_of before w (Jam n) x y = numbered_text before (codes "jam") x (y + 11) (codes "jam ") n
mark_of before w (Drop n) x y = numbered_text before (codes "bad") x (y + 11) (codes "drop ") n
mark_of before w Beacon x y = box_text before (codes "cycle") (x, 44) (1, bottom w - 44)
mark_of before w Good x y = box_text before (codes "good") (x, y + 36) (4, 8)
mark_of before w Bad x y = box_text before (codes "bad") (x, y + 36) (4, 8)
mark_of before w Commit x y = before
mark_of before w Quiet x y = before
mark_of before w (Leave n) x y = before
mark_of before w (Hears heard) x y = before

-- a sign has 36 ticks of room, and the others of its tick stand before it
abbrev pub mark_text : List ℕ → Window → Event → ℕ → List ℕ
mark_text before w event beside = mark_of before w event.what (column_x w event.tick + 36 * beside) (lane_y event.node)

-- ---- lines of the summary

-- the first 256 octets are shown; no line of a summary has more
abbrev pub shown : List ℕ → List ℕ
shown line = take (min (length line) 256) line

-- a line that tells of a clash, or of what no line of a report tells, is one of its own
abbrev pub totals_class : List ℕ → List ℕ
totals_class line = if bytes_eq (drop (length line - 8) line) (codes " clash 0") then codes "totals" else codes "bad"

abbrev pub summary_y : Window → ℕ
summary_y w = bottom w + 50

-- ---- lanes, ticks and legend

abbrev pub lane_text : List ℕ → Window → ℕ → List ℕ
lane_text before w node =
    numbered_text (box_text before (codes "lane") (70, lane_y node) (w.until - w.from, 44)) (codes "name") 8 (lane_y node + 29) (codes "node ") node

-- a line over all lanes, and at its top the tick and its microseconds; the tick is a hundred times a number
abbrev pub grid_text : List ℕ → Window → ℕ → List ℕ
grid_text before w tick =
    end_words (begin_words (box_text before (codes "grid") (column_x w tick, 34) (1, bottom w - 34)) (codes "tick") (column_x w tick) 30
    ++ decimal tick ++ codes " = " ++ decimal (tick / 10) ++ codes " us")

abbrev pub legend_class : ℕ → List ℕ
legend_class row =
    if row == 0 then codes "beacon" else if row == 1 then codes "commit" else if row == 2 then codes "frame"
    else if row == 3 then codes "good" else codes "bad"

abbrev pub legend_words : ℕ → List ℕ
legend_words row =
    if row == 0 then codes "drives a beacon" else if row == 1 then codes "drives a commit" else if row == 2 then codes "drives a frame"
    else if row == 3 then codes "hears a good frame" else codes "hears a piece that is broken"

abbrev pub legend_text : List ℕ → Window → ℕ → List ℕ
legend_text before w row =
    label_text (box_text before (legend_class row) (70 + 170 * row, bottom w + 12) (24, 12)) (codes "note") (70 + 170 * row + 30) (bottom w + 12 + 10) (legend_words row)

-- ---- shapes

-- the text of a shape, which the line of the report gives
abbrev pub shape_text : List ℕ → Window → List ℕ → Shape → List ℕ
shape_text before w line (Bar node part start stop) = bar_text before w node part start stop
shape_text before w line (Mark event beside) = mark_text before w event beside
shape_text before w line Settled = label_text before (codes "note") 70 (summary_y w) (shown line)
shape_text before w line (Totals node) = label_text before (totals_class line) 70 (summary_y w + 16 * (1 + node)) (shown line)
shape_text before w line (Lane node) = lane_text before w node
shape_text before w line (Grid tick) = grid_text before w tick
shape_text before w line (Legend row) = legend_text before w row

abbrev pub optional_text : List ℕ → Window → List ℕ → Option Shape → List ℕ
optional_text before w line (Some shape) = shape_text before w line shape
optional_text before w line None = before
