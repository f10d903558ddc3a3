use Rattle.t1s_ring.specs.Queue.{empty_queue}
use Rattle.t1s_node.specs.Core.{core_start}
use Rattle.t1s_node.proofs.RunPlaces.{begin_at}
use Rattle.t1s_node.proofs.CoreSteps.{start_stands}
use Rattle.t1s_node.proofs.FrameWays.{leaves_or_pends}
use Rattle.t1s_node.proofs.laws.leaves_or_pends.Goals as goal

pub returns : goal.returns
returns g c set room draws given end calm =
    let answer = g.D.Draws.answer in
    let after = g.D.Draws.after in
    let start = core_start set (empty_queue room) draws in
    let begin = begin_at answer after calm.draws start given end calm (start_stands set room draws) in
    leaves_or_pends answer after calm.draws start given end calm begin
