use Rattle.std.proofs.Common.{◌≡◌, ◌++◌, true, rules}
use Rattle.t1s_report.proofs.WriterSteps.{step_more}
use Rattle.t1s_cli.proofs.GivenLines.{lines_go_on}
use Rattle.t1s_cli.proofs.generated_commands.write_lines.Goals as goal

pub loop-line-preserved : goal.loop-line-preserved
loop-line-preserved g c =
    let (text, given, so_far) = c.loop-line.invariant in
    let true_here : c.line.result ≡ true = search rules in (
      text ++ c.line.new.out,
      lines_go_on c.args.lines.now c.loop-line.lines c.line.new.self c.line.new.out text (c.line.ensures.given true_here) given,
      step_more g.K.Sink.written g.K.Sink.faults g.K.Sink.finished c.args.writer.now c.loop-line.writer c.put.new.self text c.line.new.out so_far c.put.ensures,
    )
