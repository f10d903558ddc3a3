use Rattle.t1s_cli.proofs.GeneratedCalls.{load_memory}
use Rattle.t1s_cli.proofs.generated_commands.generated_command.Goals as goal

pub returns-in-Err : goal.returns-in-Err
returns-in-Err g c =
    let range = rw c.in-Load.is at c.requires in
    rw c.in-Load.is (load_memory g.K.Sink.written g.K.Sink.faults g.K.Sink.finished c.in-Load.numbers c.args.sink.now range)
