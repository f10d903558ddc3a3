use Rattle.std.proofs.Common.{◌+◌, ◌<◌, length, refl, inl, inr}
use Rattle.std.proofs.lemmas.Bool.{cases_lt}
use Rattle.t1s_drawing.proofs.Draws.{octet_refused, octet_taken}
use Rattle.t1s_drawing.proofs.drawing.Drawing.take.Goals as goal

pub returns-in-Ok-clause-ok : goal.returns-in-Ok-clause-ok
returns-in-Ok-clause-ok g c first octets h =
    octet_taken g.K.Sink.written g.K.Sink.faults g.K.Sink.finished c.args.w.now octets c.args.self.now first c.args.sink.now h c.args.octet
    (record { line = c.put_text.new.out; number = c.args.self.now.number; progress = c.args.self.now.progress }) c.if-octet-eq-LINE_FEED.false c.in-Ok.ensures.ok refl refl

pub returns-in-Err-clause-err : goal.returns-in-Err-clause-err
returns-in-Err-clause-err g c first octets h =
    let long : 4096 < length c.args.self.now.line + 1 = elim (cases_lt 4096 (length c.args.self.now.line + 1)) [ inl lt ↦ lt | inr le ↦ absurd (let fits = c.in-Err.ensures.answer.1 le in cc) ] in
    octet_refused g.K.Sink.written g.K.Sink.faults g.K.Sink.finished c.args.w.now octets c.args.self.now first c.args.sink.now h c.args.octet c.refuse.new.sink c.refuse.result c.if-octet-eq-LINE_FEED.false long c.refuse.ensures
