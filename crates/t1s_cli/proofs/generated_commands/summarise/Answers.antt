use Rattle.t1s_report.specs.Report.{summary}
use Rattle.t1s_cli.specs.declared.status.Status.TheVariants.{Done}
use Rattle.t1s_cli.proofs.TextEnds.{text_finished}
use Rattle.t1s_cli.proofs.generated_commands.summarise.Goals as goal

pub returns-in-Ok-put_summary : goal.returns-in-Ok-put_summary
returns-in-Ok-put_summary g c =
    let script = c.args.script.now in
    let ended = c.play_unread.ensures script c.in-Ok.ensures in
    text_finished g.K.Sink.written g.K.Sink.faults g.K.Sink.finished Done (summary script) c.args.sink.now c.put_summary.new.sink c.finish.new.sink c.finish.result
    (λ e. cc) (λ e. cc) (c.in-Ok-put_summary.ensures.text script script.end ended) (c.in-Ok-put_summary.ensures.cause script script.end ended).kept c.finish.ensures.answer c.finish.ensures.end c.finish.ensures.octets c.finish.ensures.cause
