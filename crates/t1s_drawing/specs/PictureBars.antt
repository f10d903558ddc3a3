-- Which bars a picture has, and which events its lines tell.
use Rattle.std.specs.Prelude.{◌≡◌, ℕ, ◌+◌, false, List, [], ◌∷◌, ◌++◌, Option, Some, None, Ok, Err}
use Rattle.std.specs.Option.{option_to_list}
use Rattle.t1s_drawing.specs.BarLaws.{HaveLanes, bars_from, last_bars}
use Rattle.t1s_drawing.specs.Lines.{parts_of}
use Rattle.t1s_drawing.specs.Written.{line_step, drawing_of}
use Rattle.t1s_drawing.specs.Progress.{Stepped, at_start}
use Rattle.t1s_drawing.specs.ReadLines.{line_of}
use Rattle.t1s_drawing.specs.declared.report.Event.{Event}
use Rattle.t1s_drawing.specs.declared.report.ReportLine.{ReportLine}
use Rattle.t1s_drawing.specs.declared.report.ReportLine.TheVariants.{Event as EventLine, Settled, Totals, Offer}
use Rattle.t1s_drawing.specs.declared.shapes.Shape.{Shape}
use Rattle.t1s_drawing.specs.declared.progress.Progress.{Progress}
use Rattle.t1s_drawing.specs.declared.window.Window.{Window}

-- the event that a line tells, if it tells one
abbrev pub event_of : Option ReportLine → List Event
event_of (Some (EventLine event)) = event ∷ []
event_of (Some Settled) = []
event_of (Some (Totals node)) = []
event_of (Some Offer) = []
event_of None = []

-- the events that the lines tell; what stands after the last line feed is no line
abbrev pub events_of : List (List ℕ) → List Event
events_of [] = []
events_of (part ∷ []) = []
events_of (part ∷ next ∷ parts) = event_of (line_of part) ++ events_of (next ∷ parts)

-- the bar of what a line gives, and then those of what follows it
abbrev pub bars_after : Stepped → (Progress → List Shape) → List Shape
bars_after (Ok stepped) next = option_to_list stepped.1.bar ++ next stepped.0
bars_after (Err reason) next = []

-- the bars whose text is written for the lines from the one with this number on, as `drawn` writes them
unfoldable pub drawn_bars : Window → List (List ℕ) → Progress → ℕ → List Shape
drawn_bars w [] p number = []
drawn_bars w (part ∷ []) p number = last_bars w p w.nodes
drawn_bars w (part ∷ next ∷ parts) p number = bars_after (line_step w p number part) (λ q. drawn_bars w (next ∷ parts) q (number + 1))

-- The bars of a picture that isn't refused are those of the events that its lines tell, which are at nodes of the picture.
abbrev pub PicturesHaveBars : Type 0
PicturesHaveBars = (w : Window) (octets : List ℕ) → (drawing_of w octets).refused ≡ false →
    (drawn_bars w (parts_of octets) at_start 1 ≡ bars_from w at_start (events_of (parts_of octets))) × HaveLanes w (events_of (parts_of octets))
