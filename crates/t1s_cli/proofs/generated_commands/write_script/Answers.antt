use Rattle.t1s_cli.specs.Generated.{script_text}
use Rattle.t1s_cli.specs.declared.status.Status.TheVariants.{Done}
use Rattle.t1s_cli.proofs.TextEnds.{text_finished}
use Rattle.t1s_cli.proofs.generated_commands.write_script.Goals as goal

pub returns-in-Ok-clause-outcome : goal.returns-in-Ok-clause-outcome
returns-in-Ok-clause-outcome g c =
    text_finished g.K.Sink.written g.K.Sink.faults g.K.Sink.finished Done (script_text c.args.numbers) c.args.sink.now c.put_script.new.sink c.finish.new.sink c.finish.result
    (λ e. cc) (λ e. cc) c.in-Ok.ensures.text c.in-Ok.ensures.cause.kept c.finish.ensures.answer c.finish.ensures.end c.finish.ensures.octets c.finish.ensures.cause
