use Rattle.std.proofs.Common.{Ok, Err}
use Rattle.t1s_cli.proofs.ScriptCalls.{answer_by_reading}
use Rattle.t1s_cli.proofs.script_commands.do_task_on.Goals as goal

pub returns-in-Ok : goal.returns-in-Ok
returns-in-Ok g c = rw (answer_by_reading c.args.task c.args.bytes.now (Ok c.in-Ok.script) c.in-Ok.ensures.answer) c.do_task.ensures

pub returns-in-Err-Refused : goal.returns-in-Err-Refused
returns-in-Err-Refused g c =
    rw (answer_by_reading c.args.task c.args.bytes.now (Err c.in-Err-Refused.refusal) (rw c.in-Err-Refused.field-0-is at c.in-Err-Refused.ensures.answer))
    (rw c.in-Err-Refused.refusal-is at c.refuse.ensures.outcome)
