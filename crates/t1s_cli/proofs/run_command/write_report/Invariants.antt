use Rattle.std.proofs.Common.{ℕ}
use Rattle.t1s_script.specs.declared.script.Script.{Script}
use Rattle.t1s_segment.specs.Stands.{Stands, ticks_left}
use Rattle.t1s_report.specs.Report.{event_lines_below}
use Rattle.t1s_report.specs.WriterStep.{WriterStep}
use Rattle.t1s_cli.proofs.run_command.write_report.Given as goal

abbrev pub decreases-loop-seg : goal.decreases-loop-seg
decreases-loop-seg g l = ticks_left l.seg

abbrev pub invariant-loop-seg : goal.invariant-loop-seg
invariant-loop-seg g l =
    (s : Script) → Stands s 0 l.initial.seg → (t : ℕ) × Stands s t l.seg × WriterStep g.K.Sink.written g.K.Sink.faults g.K.Sink.finished l.fn.writer (event_lines_below s t) l.writer
