-- How far a report has come, and what each of its lines gives.
use Rattle.std.specs.Prelude.{ℕ, ◌&&◌, ◌||◌, ◌==◌, Bool, true, false, not, List, replicate, nat_lt, get_or, slice_set, Option, Some, None, Result, Ok, Err, if◌then◌else◌}
use Rattle.t1s_drawing.specs.Shapes.{bar, mark, turn_of}
use Rattle.t1s_drawing.specs.Pulses.{no_pulses, pulses_left, risen}
use Rattle.t1s_drawing.specs.Signs.{beside, no_signs, signs_left, with_sign}
use Rattle.t1s_drawing.specs.declared.signs.Signs.{Signs}
use Rattle.t1s_drawing.specs.declared.report.Event.{Event}
use Rattle.t1s_drawing.specs.declared.report.Happening.{Happening}
use Rattle.t1s_drawing.specs.declared.report.Happening.TheVariants.{Hears}
use Rattle.t1s_drawing.specs.declared.report.ReportLine.{ReportLine}
use Rattle.t1s_drawing.specs.declared.report.ReportLine.TheVariants.{Event as EventLine, Settled as SettledLine, Totals as TotalsLine, Offer as OfferLine}
use Rattle.t1s_drawing.specs.declared.shapes.Part.{Part}
use Rattle.t1s_drawing.specs.declared.shapes.Drive.{Drive}
use Rattle.t1s_drawing.specs.declared.shapes.Shape.{Shape}
use Rattle.t1s_drawing.specs.declared.shapes.Shape.TheVariants.{Settled, Totals}
use Rattle.t1s_drawing.specs.declared.progress.Progress.{Progress}
use Rattle.t1s_drawing.specs.declared.progress.Reason.{Reason}
use Rattle.t1s_drawing.specs.declared.progress.Reason.TheVariants.{Order, Node}
use Rattle.t1s_drawing.specs.declared.progress.Told.{Told}
use Rattle.t1s_drawing.specs.declared.window.Window.{Window}

-- nothing was read, nobody drives, and no node has a pulse or a sign
abbrev pub at_start : Progress
at_start = record { driven = replicate 32 None; pulses = no_pulses; signs = no_signs; tick = 0; in_summary = false }

-- what a node drives
abbrev pub drive_at : Progress → ℕ → Option Drive
drive_at p node = get_or p.driven node None

-- what is driven from this tick on
abbrev pub drive_from : ℕ → Option Part → Option Drive
drive_from tick (Some part) = Some (record { part = part; since = tick })
drive_from tick None = None

-- what each node drives after an event that tells what its node drives
abbrev pub opened : List (Option Drive) → Event → Option (Option Part) → List (Option Drive)
opened driven event (Some part) = slice_set driven event.node (drive_from event.tick part)
opened driven event None = driven

abbrev pub turned : Progress → Event → Progress
turned p event = record p { driven = opened p.driven event (turn_of event.what) }

-- the signs that stand in the tick of the event, before it
abbrev pub signs_before : Progress → Event → Signs
signs_before p event = signs_left p.signs (nat_lt p.tick event.tick)

-- how far the report has come after an event
abbrev pub after_event : Progress → Event → Progress
after_event p event = record (turned p event) {
  tick = event.tick;
  pulses = risen (pulses_left p.pulses (nat_lt p.tick event.tick)) event;
  signs = with_sign (signs_before p event) event;
}

-- the bar that ends at the event
abbrev pub ended_bar : Window → Progress → Event → Option (Option Part) → Option Shape
ended_bar w p event (Some part) = bar w event.node (get_or p.driven event.node None) event.tick
ended_bar w p event None = None

abbrev pub told_bar : Window → Progress → Event → Option Shape
told_bar w p event = ended_bar w p event (turn_of event.what)

-- the picture has a lane for the node
abbrev pub is_lane : Window → ℕ → Bool
is_lane w node = nat_lt node w.nodes && nat_lt node 32

-- the dump shows what the node hears
abbrev pub hears_at : Option ℕ → ℕ → Bool
hears_at (Some other) node = other == node
hears_at None node = false

abbrev pub wired : Option ℕ → ℕ → Happening → Bool
wired heard node (Hears what) = hears_at heard node
wired heard node _ = true

-- it does, where the event tells that
abbrev pub has_wire : Window → Event → Bool
has_wire w event = wired w.heard event.node event.what

abbrev pub Stepped : Type 0
Stepped = Result (Progress × Told) Reason

-- an event stands before the summary, at no earlier tick than the one before it, at a node of the picture, and tells what a node
-- hears only where the dump shows that
abbrev pub event_step : Window → Progress → Event → Stepped
event_step w p event =
    if p.in_summary || nat_lt event.tick p.tick then Err Order
    else if not (is_lane w event.node) then Err Node
    else if not (has_wire w event) then Err Node
    else Ok (after_event p event, record { bar = told_bar w p event; mark = mark w event (beside (signs_before p event) event); event = Some event; before = p })

-- what a line gives, and how far the report has come after it
abbrev pub step : Window → Progress → ReportLine → Stepped
step w p (EventLine event) = event_step w p event
step w p SettledLine = if p.in_summary then Err Order else Ok (record p { in_summary = true }, record { bar = None; mark = Some Settled; event = None; before = p })
step w p (TotalsLine node) =
    if not p.in_summary then Err Order
    else if not (is_lane w node) then Err Node
    else Ok (p, record { bar = None; mark = Some (Totals node); event = None; before = p })
step w p OfferLine = if not p.in_summary then Err Order else Ok (p, record { bar = None; mark = None; event = None; before = p })
