use Rattle.std.proofs.Common.{◌≡◌, ◌<◌, true, length, sym, ◌∙◌, arith, rules}
use Rattle.std.proofs.lemmas.Bool.{ltb-true}
use Rattle.t1s_report.specs.SummaryLines.{summary_lines_below}
use Rattle.t1s_report.proofs.WriterSteps.{step_line}
use Rattle.t1s_cli.proofs.run_command.write_summary.Goals as goal

pub loop-line-preserved : goal.loop-line-preserved
loop-line-preserved g c =
    let true_here : c.summary_line.result ≡ true = search rules in
    record {
      few = omega (arith, c.summary_line.ensures.few (search rules));
      lines = λ s t stands.
          let more : c.loop-line.k < length (summary_lines_below s t) = ltb-true c.loop-line.k (length (summary_lines_below s t)) (sym (c.summary_line.ensures.answer s t stands) ∙ true_here) in
          step_line g.K.Sink.written g.K.Sink.faults g.K.Sink.finished c.args.writer.now c.loop-line.writer c.put.new.self (summary_lines_below s t) c.loop-line.k more
          (c.loop-line.invariant.lines s t stands) (rw (c.summary_line.ensures.line s t stands) at c.put.ensures);
    }
