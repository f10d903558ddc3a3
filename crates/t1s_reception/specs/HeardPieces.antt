-- The capture of what a node hears in the run of a script, and what its receiver completes there.
use Rattle.std.specs.Prelude.{◌≡◌, ℕ, List, map, Some}
use Rattle.t1s_world.specs.Events.{events_below}
use Rattle.t1s_script.specs.declared.script.Script.{Script}
use Rattle.t1s_line.specs.World.{piece_at, position_of}
use Rattle.t1s_capture.specs.Cut.{cut}
use Rattle.t1s_report.specs.HeardText.{ticks_heard}
use Rattle.t1s_reception.specs.Receptions.{Reception, in_tick}
use Rattle.t1s_reception.specs.ShownPieces.{shown_in, completed}

-- the pieces that the receiver of the node at position j completes in the ticks below t, each with its tick
abbrev pub arrivals_below : Script → ℕ → ℕ → List Reception
arrivals_below s j t = events_below (λ u. in_tick u (piece_at s j u)) t

-- The capture of what the node with this number hears in the ticks below T shows exactly the pieces that arrive at it in them.
abbrev pub ShowsArrivals : Script → ℕ → ℕ → ℕ → Type 0
ShowsArrivals s T node j = map completed (shown_in (cut (ticks_heard s node T))) ≡ arrivals_below s j T

-- it is so for each node of a script, and however many ticks
abbrev pub CapturesShowArrivals : Type 0
CapturesShowArrivals = (s : Script) (T node j : ℕ) → position_of s node ≡ Some j → ShowsArrivals s T node j
