-- Where the nodes of a script hang on the pair, and how far apart they are, in whole bit times.
use Rattle.std.specs.Prelude.{ℕ, List, map}
use Rattle.t1s_harness.specs.Distances.{span}
use Rattle.t1s_harness.specs.declared.Tap.{Tap}
use Rattle.t1s_script.specs.declared.script.NodeLine.{NodeLine}
use Rattle.t1s_script.specs.declared.script.Script.{Script}

abbrev pub tap_of : NodeLine → Tap
tap_of n = record { place = n.place; stub = n.stub }

-- in the order of the nodes
abbrev pub taps_of : Script → List Tap
taps_of s = map tap_of s.nodes

-- the greatest distance of two nodes
abbrev pub span_of : Script → ℕ
span_of s = span (taps_of s)
