use Rattle.std.proofs.Common.{ap}
use Rattle.t1s_ring.specs.Queue.{empty_queue}
use Rattle.t1s_mac.specs.declared.picked_draws.PickedDraws.{PickedDraws}
use Rattle.t1s_node.specs.Core.{CoreDrive}
use Rattle.t1s_node.specs.Node.{node_start}
use Rattle.t1s_node.proofs.NodeCore.{core_same, driven_same}
use Rattle.t1s_node.proofs.laws.runs_as_core.Goals as goal

pub returns : goal.returns
returns c set room draws given t =
    let start = node_start set (empty_queue room) draws in
    let same = core_same start given t in
    let drives = driven_same start given t same in (
      same,
      ap (λ (d : CoreDrive PickedDraws). d.quarter) drives,
      ap (λ (d : CoreDrive PickedDraws). d.step.note) drives,
      ap (λ (d : CoreDrive PickedDraws). d.leaves) drives,
    )
