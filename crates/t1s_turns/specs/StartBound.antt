-- How soon a frame of a node's queue leaves, by the waves that pass the node.
use Rattle.std.specs.Prelude.{◌≡◌, ℕ, ◌+◌, ◌*◌, ◌≤◌, true, List, All, slice_get, Some}
use Rattle.t1s_frame.specs.Frame.{IsFrame}
use Rattle.t1s_ring.specs.Queue.{empty_queue}
use Rattle.t1s_ring.specs.declared.queued.Queued.{Queued}
use Rattle.plca_control.specs.ControlTable.{mine}
use Rattle.t1s_mac.specs.PickedDraws.{picked_answer, picked_after}
use Rattle.t1s_mac.specs.declared.picked_draws.PickedDraws.{PickedDraws}
use Rattle.t1s_node.specs.declared.settings.NodeSet.{NodeSet}
use Rattle.t1s_node.specs.Laws.{LeavesAt}
use Rattle.t1s_node.specs.Node.{NodeState, IsNodeSet, node_start}
use Rattle.t1s_node.specs.NodeRuns.{NodeTick, core_ticks}
use Rattle.t1s_node.specs.Runs.{active_at, found_at}
use Rattle.t1s_world.specs.Waves.{CycleSettings, Wave, EachWave, AreWaves}
use Rattle.t1s_turns.specs.NextOpportunity.{LastsAtMost}
use Rattle.t1s_turns.specs.NodeOverWaves.{cycle_of, HasLowIds, HearsWaves}
use Rattle.t1s_turns.specs.OwnRun.{longest_run}

-- The most ticks of an opportunity that is used, and the bound of a start, as they are written of a script: the timer, the
-- longest drive, the way to the farthest node and back, and the carrier reading; and 1300, with one such opportunity and 20
-- ticks of a beacon for each ID and three more.
abbrev pub longest_opportunity : CycleSettings → ℕ → ℕ → ℕ
longest_opportunity n longest span = n.to + longest + 2 * span + n.rise + n.fall

abbrev pub start_bound : CycleSettings → ℕ → ℕ → ℕ
start_bound n longest span = 1300 + (n.count + 3) * (longest_opportunity n longest span + 20)

-- A node that has an ID, and whose IDs are below the count, keeps no frame that it is offered for long: in any tick in which
-- it takes part in the cycle, a frame that stands behind q others in its queue leaves within q + 1 times the bound of a
-- start, or has left before, as far as the waves that pass the node are told, where none lasts longer than the longest run.
-- It may be anywhere on its way in that tick.
abbrev pub LeavesInTime : Type 0
LeavesInTime =
    (set : NodeSet) (room : ℕ) (draws : PickedDraws) (given : ℕ → NodeTick) (begin end : ℕ) (ws : List Wave)
    → let start : NodeState = node_start set (empty_queue room) draws in
    IsNodeSet set → HasLowIds set → (own_id : ℕ) → mine set.control own_id ≡ true → ((u : ℕ) → All (λ (q : Queued). IsFrame q.frame) (given u).offers)
    → AreWaves (cycle_of set) begin (begin + end) ws → HearsWaves set room draws given begin (begin + end) ws
    → (burst span : ℕ) → EachWave (LastsAtMost (longest_run burst)) ws
    → (f : Queued) (q u : ℕ) → active_at picked_answer picked_after start.core (core_ticks start given) u ≡ true
    → slice_get (found_at picked_answer picked_after start.core (core_ticks start given) u).mac.queue.frames q ≡ Some f
    → u + (q + 1) * start_bound (cycle_of set) (longest_run burst) span ≤ end
    → (v : ℕ) × (v ≤ u + (q + 1) * start_bound (cycle_of set) (longest_run burst) span)
    × LeavesAt picked_answer picked_after start.core (core_ticks start given) f v
