use Rattle.std.proofs.Common.{ap, sym, subst}
use Rattle.t1s_ring.specs.Queue.{Queue}
use Rattle.t1s_mac.specs.MacTable.{Row, LeavesByNote}
use Rattle.t1s_mac.specs.State.{phase_of, queue_of}
use Rattle.t1s_mac.proofs.Rows.{leaves_row}
use Rattle.t1s_mac.proofs.mac.Mac.step.Goals as goal

pub returns-clause-leaves : goal.returns-clause-leaves
returns-clause-leaves g c =
    let inside = c.self.inside in
    let after = queue_of c.step-turn.result.state in
    let row = leaves_row (phase_of inside.state) (queue_of inside.state) inside.attempts c.may_start-may_start.result c.args.collision _ c.self.invariant.0 in
    let LeavesRow : Row → Type 0 = λ left. LeavesByNote left.note (queue_of inside.state) left.queue in
    let LeavesFrom : Queue → Type 0 = λ before. LeavesByNote c.step-turn.result.step.note before after in
    subst LeavesFrom (ap (λ m. m.queue) c.self.view_is) (subst LeavesRow (sym c.step-turn.ensures.row) row)
