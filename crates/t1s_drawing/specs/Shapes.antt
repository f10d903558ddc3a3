-- What a picture is made of, and what an event gives.
use Rattle.std.specs.Prelude.{ℕ, ◌&&◌, Bool, true, false, min, max, nat_lt, nat_le, Option, Some, None, if◌then◌else◌}
use Rattle.t1s_drawing.specs.declared.report.Happening.{Happening}
use Rattle.t1s_drawing.specs.declared.report.Happening.TheVariants.{Beacon, Commit, Quiet, Leave, Hears}
use Rattle.t1s_drawing.specs.declared.report.Event.{Event}
use Rattle.t1s_drawing.specs.declared.shapes.Part.{Part}
use Rattle.t1s_drawing.specs.declared.shapes.Part.TheVariants.{Beacon as BeaconPart, Commit as CommitPart, Frame}
use Rattle.t1s_drawing.specs.declared.shapes.Drive.{Drive}
use Rattle.t1s_drawing.specs.declared.shapes.Shape.{Shape}
use Rattle.t1s_drawing.specs.declared.shapes.Shape.TheVariants.{Bar, Mark}
use Rattle.t1s_drawing.specs.declared.window.Window.{Window}

-- the bar from one tick up to another, as far as the window shows it
abbrev pub clipped : Window → ℕ → Drive → ℕ → Option Shape
clipped w node drive stop =
    if nat_lt (max drive.since w.from) (min stop w.until) then Some (Bar node drive.part (max drive.since w.from) (min stop w.until)) else None

-- the bar of what a node drove up to a tick
abbrev pub bar : Window → ℕ → Option Drive → ℕ → Option Shape
bar w node (Some drive) stop = clipped w node drive stop
bar w node None stop = None

-- What a node drives from the tick of the event on, where the event tells it: a part, or nothing. A frame goes on up to
-- the next one of the drive.
abbrev pub turn_of : Happening → Option (Option Part)
turn_of Beacon = Some (Some BeaconPart)
turn_of Commit = Some (Some CommitPart)
turn_of (Leave number) = Some (Some (Frame number))
turn_of Quiet = Some None
turn_of _ = None

-- what only begins or ends a bar has no mark of its own, nor what a node hears
abbrev pub has_mark : Happening → Bool
has_mark Commit = false
has_mark (Leave number) = false
has_mark Quiet = false
has_mark (Hears heard) = false
has_mark _ = true

-- the mark of an event in the window, beside as many others
abbrev pub mark : Window → Event → ℕ → Option Shape
mark w event beside = if has_mark event.what && nat_le w.from event.tick && nat_lt event.tick w.until then Some (Mark event beside) else None
