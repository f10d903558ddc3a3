-- What holds of one node over the waves that pass it, whatever the cable.
use Rattle.std.specs.Prelude.{ℕ, ◌+◌, List, All}
use Rattle.t1s_frame.specs.Frame.{IsFrame}
use Rattle.t1s_ring.specs.declared.queued.Queued.{Queued}
use Rattle.t1s_mac.specs.declared.picked_draws.PickedDraws.{PickedDraws}
use Rattle.t1s_node.specs.declared.settings.NodeSet.{NodeSet}
use Rattle.t1s_node.specs.Node.{IsNodeSet}
use Rattle.t1s_node.specs.NodeRuns.{NodeTick}
use Rattle.t1s_world.specs.Waves.{Wave, AreWaves}
use Rattle.t1s_turns.specs.NodeOverWaves.{cycle_of, HasLowIds, HearsWaves, NodeOverWaves}

-- A node whose IDs are below the count, and that is offered frames, keeps its turn: where the waves that pass it up to a tick
-- are those of a cycle, and it has heard them and has driven in its own, then in this tick it keeps and drives what they say.
abbrev pub KeepsTurns : Type 0
KeepsTurns =
    (set : NodeSet) (room : ℕ) (draws : PickedDraws) (given : ℕ → NodeTick) (begin : ℕ) (ws : List Wave)
    → IsNodeSet set → HasLowIds set → ((u : ℕ) → All (λ (q : Queued). IsFrame q.frame) (given u).offers)
    → (u : ℕ) → AreWaves (cycle_of set) begin (begin + u) ws → HearsWaves set room draws given begin (begin + u) ws
    → NodeOverWaves set room draws given begin u ws
