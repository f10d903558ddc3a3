-- What a dump shows is what the lines of its report tell.
use Rattle.std.specs.Prelude.{◌≡◌, ◌↔◌, ℕ, ◌<◌, ◌≤◌, true, false, List, [], ◌∷◌, nat_le, Some, if◌then◌else◌}
use Rattle.t1s_waveform.specs.Dumps.{IsDump, Time}
use Rattle.t1s_waveform.specs.Values.{value_at}
use Rattle.t1s_waveform.specs.Wires.{code, heard_bits, heard_code}
use Rattle.t1s_waveform.specs.declared.heard.Heard.{Heard}
use Rattle.t1s_waveform.specs.declared.heard.Heard.TheVariants.{Silence}
use Rattle.t1s_drawing.specs.BarLaws.{TellsDrive}
use Rattle.t1s_drawing.specs.Lines.{parts_of}
use Rattle.t1s_drawing.specs.PictureBars.{events_of}
use Rattle.t1s_drawing.specs.Written.{drawing_of}
use Rattle.t1s_drawing.specs.declared.report.Event.{Event}
use Rattle.t1s_drawing.specs.declared.report.Happening.{Happening}
use Rattle.t1s_drawing.specs.declared.report.Happening.TheVariants.{Hears}
use Rattle.t1s_drawing.specs.declared.shapes.Part.{Part}
use Rattle.t1s_drawing.specs.declared.window.Form.TheVariants.{Waveform}
use Rattle.t1s_drawing.specs.declared.window.Window.{Window}

-- the events tell that the node drives in the tick: a part of a drive that has begun and not ended
abbrev pub DrivesAt : Window → List Event → ℕ → ℕ → Type 0
DrivesAt w events node tick = (part : Part) × (start : ℕ) × (stop : ℕ) × TellsDrive w events node part start stop × (start ≤ tick) × (tick < stop)

-- what is heard from an event on
abbrev pub hears_from : Happening → Heard → Heard
hears_from (Hears what) before = what
hears_from _ before = before

-- what is heard in a tick: what the last event that tells it and is not later tells
abbrev pub heard_at : List Event → ℕ → Heard → Heard
heard_at [] tick before = before
heard_at (e ∷ events) tick before = heard_at events tick (if nat_le e.tick tick then hears_from e.what before else before)

-- The text is a dump. Its wire `drives` of each node is 1 in exactly the ticks of the drives that the events tell: none is lost,
-- and none is made up. With a node whose hearing it shows, the wire `hears` has in each tick the bits of what the events tell.
pub record ShowsRun (w : Window) (events : List Event) (text : List ℕ) : Type 0 where
  pub dump : IsDump text
  pub drives : (node tick : ℕ) → node < w.nodes → tick < w.until → (value_at (Time 0 ∷ dump.items) (code node 97) tick ≡ true ∷ []) ↔ DrivesAt w events node tick
  pub hears : (node tick : ℕ) → w.heard ≡ Some node → value_at (Time 0 ∷ dump.items) heard_code tick ≡ heard_bits (heard_at events tick Silence)

-- A dump that is written for a report shows the run that its lines tell.
abbrev pub DumpsShowRuns : Type 0
DumpsShowRuns = (w : Window) (octets : List ℕ) → w.form ≡ Waveform → w.nodes ≤ 32 → (drawing_of w octets).refused ≡ false → ShowsRun w (events_of (parts_of octets)) (drawing_of w octets).text
