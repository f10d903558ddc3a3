use Rattle.t1s_report.specs.Report.{report}
use Rattle.t1s_cli.specs.declared.status.Status.TheVariants.{Done}
use Rattle.t1s_cli.proofs.TextEnds.{text_finished}
use Rattle.t1s_cli.proofs.run_command.run_script.Goals as goal

pub returns-in-Ok-play : goal.returns-in-Ok-play
returns-in-Ok-play g c =
    let script = c.args.script.now in
    let stands = c.in-Ok.ensures in
    text_finished g.K.Sink.written g.K.Sink.faults g.K.Sink.finished Done (report script) c.args.sink.now c.play.new.sink c.finish.new.sink c.finish.result
    (λ e. cc) (λ e. cc) (c.in-Ok-play.ensures.text script stands) (c.in-Ok-play.ensures.cause script stands).kept c.finish.ensures.answer c.finish.ensures.end c.finish.ensures.octets c.finish.ensures.cause
