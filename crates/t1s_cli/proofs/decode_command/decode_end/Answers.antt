use Rattle.std.proofs.Common.{refl}
use Rattle.t1s_cli.proofs.DecodeEnds.{ends_whole, ends_short}
use Rattle.t1s_cli.proofs.decode_command.decode_end.Goals as goal

pub returns-in-Ok : goal.returns-in-Ok
returns-in-Ok g c first octets h =
    ends_whole g.K.Sink.written g.K.Sink.faults g.K.Sink.finished octets c.args.decoder first c.args.sink.now h c.in-Ok.counts c.write_last.new.sink c.write_last.result
    ((c.in-Ok.ensures.ok octets c.in-Ok.counts h.stands).0 refl) (rw c.end_line.ensures at c.write_last.ensures.outcome) c.write_last.ensures.takes_none

pub returns-in-Err : goal.returns-in-Err
returns-in-Err g c first octets h =
    ends_short g.K.Sink.written g.K.Sink.faults g.K.Sink.finished octets c.args.decoder first c.args.sink.now h c.in-Err.refusal c.write_last-in-Err.new.sink c.write_last-in-Err.result
    ((c.in-Err.ensures.truncated octets c.in-Err.refusal h.stands).0 refl) (rw c.offence_line.ensures at c.write_last-in-Err.ensures.outcome) c.write_last-in-Err.ensures.takes_none
