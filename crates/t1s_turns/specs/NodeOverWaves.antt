-- One node over the waves that pass it: what it hears of them, and what it keeps as a tick finds it.
use Rattle.std.specs.Prelude.{◌≡◌, ℕ, ◌+◌, ◌<◌, true, false, List, is_some}
use Rattle.t1s_ring.specs.Queue.{empty_queue}
use Rattle.t1s_pcs_tx.specs.State.{Stage}
use Rattle.plca_control.specs.declared.State.{State}
use Rattle.plca_control.specs.ControlTable.{mine, is_own}
use Rattle.plca_data.specs.DataPathTable.{ready}
use Rattle.t1s_mac.specs.PickedDraws.{picked_answer, picked_after}
use Rattle.t1s_mac.specs.declared.picked_draws.PickedDraws.{PickedDraws}
use Rattle.t1s_node.specs.declared.settings.NodeSet.{NodeSet}
use Rattle.t1s_node.specs.Node.{NodeState, node_start}
use Rattle.t1s_node.specs.NodeRuns.{NodeTick, node_at, node_drive_at, core_ticks}
use Rattle.t1s_node.specs.Runs.{IsUndisturbed, active_at}
use Rattle.t1s_world.specs.Waves.{CycleSettings, Wave, arrived}
use Rattle.t1s_turns.specs.CarrierOverWaves.{CarrierOverWaves}
use Rattle.t1s_turns.specs.ReceiverOverWaves.{ReceiverOverWaves, HeardOverWaves}
use Rattle.t1s_turns.specs.ControlOverWaves.{ControlOverWaves}
use Rattle.t1s_turns.specs.DriveOverWaves.{DriveOverWaves}

-- what a node is set to for the cycle
abbrev pub cycle_of : NodeSet → CycleSettings
cycle_of s = record { owns = λ x. mine s.control x; count = s.control.count; to = s.control.to; rise = s.rise; fall = s.fall }

-- each ID of the node is below the count
abbrev pub HasLowIds : NodeSet → Type 0
HasLowIds s = (x : ℕ) → mine s.control x ≡ true → x < s.control.count

-- in an opportunity of its own control is in Commit, Transmit or Burst
abbrev pub HasOpportunity : ℕ → ℕ → State → Stage → ℕ → Type 0
HasOpportunity x e state stage part = is_own state ≡ true

module _ (set : NodeSet) (room : ℕ) (draws : PickedDraws) (given : ℕ → NodeTick) (begin : ℕ) where
  -- the node that starts in tick `begin` of the world, which is its own tick 0
  abbrev pub started : NodeState
  started = node_start set (empty_queue room) draws

  -- the node as its own tick u finds it
  abbrev pub node_in : ℕ → NodeState
  node_in u = node_at started given u

  -- In each tick below `now` it hears what the newest wave spells, if that is another's, and drives exactly in its own.
  abbrev pub HearsWaves : ℕ → List Wave → Type 0
  HearsWaves now ws =
      (u : ℕ) → begin + u < now
      → HeardOverWaves (begin + u) (arrived (begin + u + 1) ws) (given u).heard (is_some (node_drive_at started given u).quarter)

  -- What it keeps as its own tick u finds it, and what the drive phase of this tick tells: carrier, receiver and control are as
  -- the waves say, nothing has met its drive; it drives what the waves say, and its status is OK exactly where control takes
  -- part in the cycle.
  pub record NodeOverWaves (u : ℕ) (ws : List Wave) : Type 0 where
    pub carrier : CarrierOverWaves (cycle_of set) begin (begin + u) (arrived (begin + u) ws) (node_in u).carrier
    pub receiver : ReceiverOverWaves (cycle_of set) begin (begin + u) (arrived (begin + u) ws) (node_in u).receiver.class (node_in u).receiver.burst
    pub no_hit : (node_in u).hit ≡ false
    pub control : ControlOverWaves HasOpportunity (cycle_of set) begin (begin + u) ws (node_in u).core.control.state (node_in u).core.tx.stage
        (node_in u).core.tx.part
    pub drives : DriveOverWaves (cycle_of set) begin (begin + u) ws (ready (node_in u).core.path) (node_drive_at started given u).quarter
    pub ok : (node_drive_at started given u).ok ≡ active_at picked_answer picked_after started.core (core_ticks started given) u
    pub undisturbed : IsUndisturbed picked_answer picked_after started.core (core_ticks started given) u
