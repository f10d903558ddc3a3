use Rattle.t1s_cli.proofs.TextEnds.{text_finished}
use Rattle.t1s_cli.proofs.text_end.write_text.Goals as goal

pub returns-in-Ok-clause-outcome : goal.returns-in-Ok-clause-outcome
returns-in-Ok-clause-outcome g c =
    text_finished g.K.Sink.written g.K.Sink.faults g.K.Sink.finished c.args.whole c.args.octets.now c.args.sink.now c.write.new.self c.finish.new.sink c.finish.result
    c.requires.no_fault c.requires.no_memory c.in-Ok.ensures.whole c.in-Ok.ensures.cause.kept c.finish.ensures.answer c.finish.ensures.end c.finish.ensures.octets c.finish.ensures.cause
