use Rattle.std.proofs.Common.{ℕ, List, length}
use Rattle.t1s_report.specs.WriterStep.{WriterStep}
use Rattle.t1s_cli.proofs.GivenLines.{GivenLines}
use Rattle.t1s_cli.proofs.generated_commands.write_lines.Given as goal

abbrev pub decreases-loop-line : goal.decreases-loop-line
decreases-loop-line g l = length l.lines

abbrev pub invariant-loop-line : goal.invariant-loop-line
invariant-loop-line g l =
    (text : List ℕ) × GivenLines l.fn.lines l.lines text × WriterStep g.K.Sink.written g.K.Sink.faults g.K.Sink.finished l.fn.writer text l.writer
