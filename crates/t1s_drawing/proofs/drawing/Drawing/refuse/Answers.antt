use Rattle.t1s_drawing.specs.Written.{refused_line}
use Rattle.t1s_drawing.specs.declared.status.Status.TheVariants.{Refused}
use Rattle.t1s_drawing.proofs.Writes.{outcome_finished}
use Rattle.t1s_drawing.proofs.drawing.Drawing.refuse.Goals as goal

pub returns-in-Ok : goal.returns-in-Ok
returns-in-Ok g c =
    outcome_finished g.K.Sink.written g.K.Sink.faults g.K.Sink.finished Refused (refused_line c.args.self.now.number c.args.reason) c.args.sink.now c.write_refusal.new.sink c.finish.new.sink c.in-Ok.field-0 c.finish.result
    (λ e. cc) c.in-Ok.ensures c.finish.ensures.answer c.finish.ensures.end c.finish.ensures.octets c.finish.ensures.cause
