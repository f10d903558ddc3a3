use Rattle.std.proofs.Common.{◌-◌, ◌≤◌, ℕ, take}
use Rattle.std.specs.List.{concat}
use Rattle.t1s_script.specs.declared.script.Script.{Script}
use Rattle.t1s_segment.specs.Stands.{Stands}
use Rattle.t1s_report.specs.SummaryLines.{most_summary_lines, summary_lines_below}
use Rattle.t1s_report.specs.WriterStep.{WriterStep}
use Rattle.t1s_cli.proofs.run_command.write_summary.Given as goal

abbrev pub decreases-loop-line : goal.decreases-loop-line
decreases-loop-line g l = most_summary_lines - l.k

abbrev pub invariant-loop-line : goal.invariant-loop-line
invariant-loop-line g l = record {
  few : l.k ≤ most_summary_lines;
  lines : (s : Script) (t : ℕ) → Stands s t l.seg → WriterStep g.K.Sink.written g.K.Sink.faults g.K.Sink.finished l.fn.writer (concat (take l.k (summary_lines_below s t))) l.writer;
}
