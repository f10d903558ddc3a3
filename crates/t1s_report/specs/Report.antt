-- The report of a script: the lines of the events of its run, and then the summary.
use Rattle.std.specs.Prelude.{ℕ, List, ◌++◌}
use Rattle.std.specs.List.{concat, flat_map}
use Rattle.t1s_world.specs.Events.{events_below}
use Rattle.t1s_script.specs.declared.script.Script.{Script}
use Rattle.t1s_line.specs.World.{events_at}
use Rattle.t1s_report.specs.EventLines.{event_line}
use Rattle.t1s_report.specs.SummaryLines.{summary_lines_below}

-- the lines of the events of the ticks below t, the oldest tick first
abbrev pub event_lines_below : Script → ℕ → List ℕ
event_lines_below s t = flat_map event_line (events_below (events_at s) t)

-- the summary of the ticks below t, all its lines
abbrev pub summary_below : Script → ℕ → List ℕ
summary_below s t = concat (summary_lines_below s t)

-- the lines of all events of the run
abbrev pub event_lines : Script → List ℕ
event_lines s = event_lines_below s s.end

-- the summary of the whole run
abbrev pub summary : Script → List ℕ
summary s = summary_below s s.end

-- the report of the whole run
abbrev pub report : Script → List ℕ
report s = event_lines s ++ summary s
