use Rattle.std.proofs.Common.{ℕ}
use Rattle.t1s_script.specs.declared.script.Script.{Script}
use Rattle.t1s_segment.specs.Stands.{Stands}
use Rattle.t1s_line.specs.World.{totals_below}
use Rattle.t1s_report.specs.JsonSummary.{node_value}
use Rattle.t1s_report.proofs.JsonValues.{ValuesBelow}
use Rattle.t1s_report.proofs.NodeTotals.{number_of}
use Rattle.t1s_report.proofs.json_summary.node_values.Given as goal

abbrev pub invariant-loop-node : goal.invariant-loop-node
invariant-loop-node l = (s : Script) (t : ℕ) → Stands s t l.seg → ValuesBelow number_of node_value (totals_below s t) l.node l.nodes.items
