use Rattle.t1s_ring.specs.Queue.{empty_queue}
use Rattle.t1s_node.specs.Core.{core_start}
use Rattle.t1s_node.proofs.Deferral.{defers_briefly}
use Rattle.t1s_node.proofs.laws.defers_briefly.Goals as goal

pub returns : goal.returns
returns g c set room draws given =
    let answer = g.D.Draws.answer in
    let after = g.D.Draws.after in
    let start = core_start set (empty_queue room) draws in
    defers_briefly answer after start given tt
