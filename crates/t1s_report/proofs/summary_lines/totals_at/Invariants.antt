use Rattle.std.proofs.Common.{◌≡◌, ◌≤◌, ℕ, length}
use Rattle.t1s_script.specs.declared.script.Script.{Script}
use Rattle.t1s_segment.specs.Stands.{Stands}
use Rattle.t1s_line.specs.World.{totals_below}
use Rattle.t1s_report.proofs.Ascending.{keyed_below}
use Rattle.t1s_report.proofs.NodeTotals.{number_of}
use Rattle.t1s_report.proofs.summary_lines.totals_at.Given as goal

abbrev pub invariant-loop-node : goal.invariant-loop-node
invariant-loop-node l = record {
  counted : (s : Script) (t : ℕ) → Stands s t l.seg → l.nodes ≡ length (keyed_below number_of l.node (totals_below s t));
  few : l.nodes ≤ l.node;
  before : l.nodes ≤ l.k;
}
