use Rattle.std.proofs.Common.{refl}
use Rattle.t1s_base.specs.Octets.{Grows, GrowsByPrefix}
use Rattle.t1s_capture.specs.HeldItems.{decoded_item}
use Rattle.t1s_report.specs.ItemLines.{item_line}
use Rattle.t1s_cli.proofs.DecodeEnds.{silent_on, handed_on, stopped_at_item, stopped_at_offence}
use Rattle.t1s_cli.proofs.decode_command.write_answer.Goals as goal

pub returns-in-More-clause-ok : goal.returns-in-More-clause-ok
returns-in-More-clause-ok g c first octets octet decoder answers shown =
    let here = rw c.in-More.is at answers in
    silent_on g.K.Sink.written g.K.Sink.faults g.K.Sink.finished octets first c.args.sink.now shown octet decoder here.goes_on (λ item k. (here.item item).1 k)

pub returns-in-Ok-clause-ok : goal.returns-in-Ok-clause-ok
returns-in-Ok-clause-ok g c first octets octet decoder answers shown =
    let here = rw c.in-Held.is at answers in
    let grows : Grows (g.K.Sink.written c.args.sink.now) (g.K.Sink.written c.write.new.self) (item_line (decoded_item c.in-Held.item)) = rw (c.as_slice.ensures.value, c.item_line.ensures) at c.in-Ok.ensures.whole in
    handed_on g.K.Sink.written g.K.Sink.faults g.K.Sink.finished octets first c.args.sink.now shown octet decoder (decoded_item c.in-Held.item) c.write.new.self
    here.goes_on ((here.item (decoded_item c.in-Held.item)).0 refl) grows c.in-Ok.ensures.cause.kept

pub returns-in-Err-clause-err : goal.returns-in-Err-clause-err
returns-in-Err-clause-err g c first octets octet decoder answers shown =
    let here = rw c.in-Held.is at answers in
    let prefix : GrowsByPrefix (g.K.Sink.written c.args.sink.now) (g.K.Sink.written c.write.new.self) (item_line (decoded_item c.in-Held.item)) =
    (c.in-Err.field-0.taken, rw (c.as_slice.ensures.value, c.item_line.ensures) at c.in-Err.ensures.prefix) in
    stopped_at_item g.K.Sink.written g.K.Sink.faults g.K.Sink.finished octets first c.args.sink.now shown octet decoder (decoded_item c.in-Held.item) c.write.new.self
    here.goes_on ((here.item (decoded_item c.in-Held.item)).0 refl) prefix c.in-Err.ensures.cause.later c.in-Err.ensures.cause.failed

pub returns-in-Refused-clause-err : goal.returns-in-Refused-clause-err
returns-in-Refused-clause-err g c first octets octet decoder answers shown =
    let here = rw c.in-Refused.is at answers in
    stopped_at_offence g.K.Sink.written g.K.Sink.faults g.K.Sink.finished octets first c.args.sink.now shown octet c.in-Refused.refusal c.write_last.new.sink c.write_last.result
    ((here.refused c.in-Refused.refusal).0 refl) (rw c.offence_line.ensures at c.write_last.ensures.outcome) c.write_last.ensures.takes_none
