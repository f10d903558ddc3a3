-- The capture of a node: its items are those that are cut from what the node hears.
use Rattle.std.specs.Prelude.{◌≡◌, ℕ, List, Some}
use Rattle.t1s_script.specs.Script.{IsScript}
use Rattle.t1s_script.specs.declared.script.Script.{Script}
use Rattle.t1s_line.specs.World.{position_of}
use Rattle.t1s_capture.specs.Captures.{CaptureItem, IsCaptureOf}
use Rattle.t1s_capture.specs.Cut.{cut}
use Rattle.t1s_report.specs.HeardText.{ticks_heard, heard_text}

-- The text of what the node with this number hears is a capture of it, of what is cut from the ticks of the run, and of nothing else.
pub record HoldsTheCut (s : Script) (node : ℕ) : Type 0 where
  pub capture : IsCaptureOf (heard_text s node) node (cut (ticks_heard s node s.end))
  pub only : (other : ℕ) (items : List CaptureItem) → IsCaptureOf (heard_text s node) other items
      → (other ≡ node) × (items ≡ cut (ticks_heard s node s.end))

-- it is so for each node of a script
abbrev pub CapturesHoldCuts : Type 0
CapturesHoldCuts = (s : Script) (node j : ℕ) → IsScript s → position_of s node ≡ Some j → HoldsTheCut s node
