use Rattle.std.proofs.Common.{◌≡◌, ap, ◌∙◌}
use Rattle.t1s_script.specs.Reading.{script_of}
use Rattle.t1s_cli.specs.Answers.{answer_of}
use Rattle.t1s_cli.proofs.TaskAnswers.{outcome_no_read_fault}
use Rattle.t1s_cli.proofs.WholeInput.{same_reading, rest_of_reading}
use Rattle.t1s_cli.proofs.script_commands.script_command.Goals as goal

pub returns-in-Ok : goal.returns-in-Ok
returns-in-Ok g c =
    let octets = c.as_slice.result.now in
    let read : octets ≡ c.in-Ok.bytes.items = c.as_slice.ensures.value in
    let same = c.in-Ok.ensures.kept (λ e. cc) in
    record {
      octets = octets;
      cause = record {
        later = c.in-Ok.ensures.later;
        rose = λ e. absurd (outcome_no_read_fault g.K.Sink.written g.K.Sink.faults g.K.Sink.finished c.args.sink.now c.do_task_on.new.sink c.do_task_on.result (answer_of c.args.task octets) c.do_task_on.ensures e);
        kept = λ n. same;
      };
      unwritten = λ e. absurd (outcome_no_read_fault g.K.Sink.written g.K.Sink.faults g.K.Sink.finished c.args.sink.now c.do_task_on.new.sink c.do_task_on.result (answer_of c.args.task octets) c.do_task_on.ensures e);
      outcome = λ n. c.do_task_on.ensures;
      all = λ whole n m told. (
        ap script_of read ∙ same_reading (g.S.Source.left c.args.source.now) (g.S.Source.left c.read_whole.new.source) c.in-Ok.bytes.items whole c.in-Ok.ensures.octets c.in-Ok.ensures.whole told,
        rest_of_reading (g.S.Source.left c.args.source.now) (g.S.Source.left c.read_whole.new.source) c.in-Ok.bytes.items whole c.in-Ok.ensures.octets c.in-Ok.ensures.whole c.in-Ok.ensures.bound told,
      );
    }
