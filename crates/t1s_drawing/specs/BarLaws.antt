-- The bars of a picture are the parts of the drives that the lines of its report tell.
use Rattle.std.specs.Prelude.{◌≡◌, ◌≢◌, ◌⊎◌, ◌↔◌, ℕ, zero, suc, ◌≤◌, true, List, [], ◌∷◌, ◌++◌, Some, None}
use Rattle.std.specs.Option.{option_to_list}
use Rattle.t1s_drawing.specs.Shapes.{bar, clipped, turn_of}
use Rattle.t1s_drawing.specs.Progress.{at_start, after_event, drive_at, is_lane, told_bar}
use Rattle.t1s_drawing.specs.declared.report.Event.{Event}
use Rattle.t1s_drawing.specs.declared.shapes.Part.{Part}
use Rattle.t1s_drawing.specs.declared.shapes.Shape.{Shape}
use Rattle.t1s_drawing.specs.declared.progress.Progress.{Progress}
use Rattle.t1s_drawing.specs.declared.window.Window.{Window}

-- ---- what the events tell

-- no event tells that what the node drives begins, changes or ends
abbrev pub StaysAt : ℕ → List Event → Type 0
StaysAt node [] = Unit {0}
StaysAt node (e ∷ events) = (e.node ≡ node → turn_of e.what ≡ None) × StaysAt node events

-- what the node drives goes on up to this tick: that of the first event that tells otherwise, or the end of the window
pub record EndsAtEvent (events : List Event) (node stop : ℕ) : Type 0 where
  pub between : List Event
  pub last : Event
  pub rest : List Event
  pub events_are : events ≡ between ++ last ∷ rest
  pub stays : StaysAt node between
  pub at : last.node ≡ node
  pub ends : turn_of last.what ≢ None
  pub tick : last.tick ≡ stop

abbrev pub GoesOnTo : Window → List Event → ℕ → ℕ → Type 0
GoesOnTo w events node stop = EndsAtEvent events node stop ⊎ (StaysAt node events × (stop ≡ w.until))

-- the events tell that the node drives this part from the one tick up to the other
pub record TellsDrive (w : Window) (events : List Event) (node : ℕ) (part : Part) (start stop : ℕ) : Type 0 where
  pub before : List Event
  pub first : Event
  pub rest : List Event
  pub events_are : events ≡ before ++ first ∷ rest
  pub at : first.node ≡ node
  pub begins : turn_of first.what ≡ Some (Some part)
  pub tick : first.tick ≡ start
  pub goes_on : GoesOnTo w rest node stop

-- ---- the bars

-- the bars of the first nodes at the end of the run
abbrev pub last_bars : Window → Progress → ℕ → List Shape
last_bars w p zero = []
last_bars w p (suc count) = last_bars w p count ++ option_to_list (bar w count (drive_at p count) w.until)

-- the bars that a picture shows of these events, from how far the report has come: each one where it ends
abbrev pub bars_from : Window → Progress → List Event → List Shape
bars_from w p [] = last_bars w p w.nodes
bars_from w p (e ∷ events) = option_to_list (told_bar w p e) ++ bars_from w (after_event p e) events

-- the shape is one of the list
abbrev pub IsOneOf : List Shape → Shape → Type 0
IsOneOf [] shape = ⊥
IsOneOf (s ∷ shapes) shape = (s ≡ shape) ⊎ IsOneOf shapes shape

-- the events are at nodes of the picture
abbrev pub HaveLanes : Window → List Event → Type 0
HaveLanes w [] = Unit {0}
HaveLanes w (e ∷ events) = (is_lane w e.node ≡ true) × HaveLanes w events

-- The bars are exactly the parts of drives that the events tell, as far as the window shows them: none is lost, and none is
-- made up.
abbrev pub BarsAreDrives : Type 0
BarsAreDrives = (w : Window) (events : List Event) (shape : Shape) → w.nodes ≤ 32 → HaveLanes w events →
    IsOneOf (bars_from w at_start events) shape
    ↔ ((node : ℕ) × (part : Part) × (start : ℕ) × (stop : ℕ) × TellsDrive w events node part start stop × (clipped w node (record { part = part; since = start }) stop ≡ Some shape))
