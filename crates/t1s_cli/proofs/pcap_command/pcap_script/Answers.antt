use Rattle.t1s_report.specs.PcapText.{node_pcap}
use Rattle.t1s_cli.specs.declared.status.Status.TheVariants.{Done}
use Rattle.t1s_cli.proofs.TextEnds.{text_finished}
use Rattle.t1s_cli.proofs.pcap_command.pcap_script.Goals as goal

pub returns-in-Ok-record : goal.returns-in-Ok-record
returns-in-Ok-record g c =
    let script = c.args.script.now in
    let stands = c.in-Ok.ensures in
    text_finished g.K.Sink.written g.K.Sink.faults g.K.Sink.finished Done (node_pcap script c.args.node) c.args.sink.now c.record.new.sink c.finish.new.sink c.finish.result
    (λ e. cc) (λ e. cc) (c.in-Ok-record.ensures.text script stands) (c.in-Ok-record.ensures.cause script stands).kept c.finish.ensures.answer c.finish.ensures.end c.finish.ensures.octets c.finish.ensures.cause
