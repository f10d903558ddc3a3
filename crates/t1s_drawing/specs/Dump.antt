-- The value change dump of a report: what is written before, for and after its lines.
use Rattle.std.specs.Prelude.{ℕ, ◌+◌, false, true, List, [], ◌∷◌, ◌++◌, nat_lt, codes, Option, Some, None, if◌then◌else◌}
use Rattle.t1s_waveform.specs.Dumps.{Item, item_text, items_text, scope_text, time_text}
use Rattle.t1s_waveform.specs.Wires.{change, drive_changes, heard_change, heard_scope}
use Rattle.t1s_waveform.specs.declared.heard.Heard.TheVariants.{Silence}
use Rattle.t1s_drawing.specs.Pieces.{each_text, piece_text}
use Rattle.t1s_drawing.specs.Progress.{at_start}
use Rattle.t1s_drawing.specs.declared.report.Event.{Event}
use Rattle.t1s_drawing.specs.declared.report.Happening.{Happening}
use Rattle.t1s_drawing.specs.declared.report.Happening.TheVariants.{Taken, Full, Off, InStep, LostStep, Jam, Drop, Beacon, Commit, Quiet, Leave, Good, Bad, Hears}
use Rattle.t1s_drawing.specs.declared.progress.Progress.{Progress}
use Rattle.t1s_drawing.specs.declared.writing.Piece.TheVariants.{Scopes, Starts, Falls}
use Rattle.t1s_drawing.specs.declared.window.Window.{Window}

-- ---- before the lines: the wires of each node, and at tick 0 their values

abbrev pub with_scopes : Window → List ℕ
with_scopes w = codes "$timescale 100 ns $end\n" ++ each_text (piece_text Scopes w at_start) w.nodes

-- the wire of what a node hears, where the dump shows that
abbrev pub heard_scope_text : Option ℕ → List ℕ
heard_scope_text (Some node) = scope_text (heard_scope node)
heard_scope_text None = []

abbrev pub with_wires : Window → List ℕ
with_wires w = with_scopes w ++ heard_scope_text w.heard

abbrev pub with_begin : Window → List ℕ
with_begin w = with_wires w ++ codes "$enddefinitions $end\n#0\n"

abbrev pub with_starts : Window → List ℕ
with_starts w = with_begin w ++ each_text (piece_text Starts w at_start) w.nodes

-- at first it hears nothing
abbrev pub heard_start_text : Option ℕ → List ℕ
heard_start_text (Some node) = item_text (heard_change Silence)
heard_start_text None = []

abbrev pub dump_opening : Window → List ℕ
dump_opening w = with_starts w ++ heard_start_text w.heard

-- ---- times

-- the pulses of the latest tick fall one tick later
abbrev pub fallen_text : Window → Progress → List ℕ
fallen_text w p = time_text (p.tick + 1) ++ each_text (piece_text Falls w p) w.nodes

abbrev pub falls_text : Window → Progress → List ℕ
falls_text w p = if p.pulses.any then fallen_text w p else []

-- the latest time, once the pulses have fallen
abbrev pub last_time : Progress → ℕ
last_time p = if p.pulses.any then p.tick + 1 else p.tick

-- a tick, if it is later
abbrev pub time_after : Progress → ℕ → List ℕ
time_after p tick = if nat_lt (last_time p) tick then time_text tick else []

-- time goes on from the latest tick to a later one
abbrev pub moved_text : Window → Progress → ℕ → List ℕ
moved_text w p tick = falls_text w p ++ time_after p tick

-- ---- the lines

-- what changes at a node
abbrev pub happening_changes : ℕ → Happening → List Item
happening_changes node Beacon = drive_changes node true false false
happening_changes node Commit = drive_changes node false true false
happening_changes node (Leave number) = drive_changes node false false true
happening_changes node Quiet = drive_changes node false false false
happening_changes node InStep = change node 101 true ∷ []
happening_changes node LostStep = change node 101 false ∷ []
happening_changes node (Taken number) = change node 102 true ∷ []
happening_changes node (Full number) = change node 103 true ∷ []
happening_changes node (Off number) = change node 103 true ∷ []
happening_changes node Good = change node 104 true ∷ []
happening_changes node Bad = change node 105 true ∷ []
happening_changes node (Jam number) = change node 106 true ∷ []
happening_changes node (Drop number) = change node 107 true ∷ []
happening_changes node (Hears what) = heard_change what ∷ []

abbrev pub event_changes : Event → List Item
event_changes event = happening_changes event.node event.what

-- the time of an event, if it is a new one
abbrev pub before_text : Window → Progress → Event → List ℕ
before_text w p event = if nat_lt p.tick event.tick then moved_text w p event.tick else []

abbrev pub event_text : Window → Progress → Event → List ℕ
event_text w p event = before_text w p event ++ items_text (event_changes event)

-- the text of what a line tells
abbrev pub changes_text : Window → Progress → Option Event → List ℕ
changes_text w p (Some event) = event_text w p event
changes_text w p None = []

-- ---- after the lines: the tick after the last one

abbrev pub dump_closing : Window → Progress → List ℕ
dump_closing w p = moved_text w p w.until
