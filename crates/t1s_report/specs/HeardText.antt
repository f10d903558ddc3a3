-- The capture of what a node hears in the run of a script.
use Rattle.std.specs.Prelude.{ℕ, List}
use Rattle.std.specs.Option.{option_to_list}
use Rattle.t1s_world.specs.Events.{events_below}
use Rattle.t1s_script.specs.declared.script.Script.{Script}
use Rattle.t1s_line.specs.World.{heard_by}
use Rattle.t1s_capture.specs.Captures.{capture_text}
use Rattle.t1s_capture.specs.Cut.{Tick, cut}

-- what the node with this number hears in the ticks below t, the oldest tick first, and whether it drives in them
abbrev pub ticks_heard : Script → ℕ → ℕ → List Tick
ticks_heard s node t = events_below (λ u. option_to_list (heard_by s node u)) t

-- the text of the items that are cut from what it hears in all ticks of the run
abbrev pub heard_text : Script → ℕ → List ℕ
heard_text s node = capture_text node (cut (ticks_heard s node s.end))
