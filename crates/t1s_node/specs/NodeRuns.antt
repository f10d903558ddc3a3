-- Runs of one node, tick by tick, by what it is offered and hears.
use Rattle.std.specs.Prelude.{◌≡◌, ℕ, zero, suc, List, [], ◌∷◌}
use Rattle.t1s_symbols.specs.declared.Heard.{Heard}
use Rattle.t1s_ring.specs.Queue.{empty_queue}
use Rattle.t1s_ring.specs.declared.queued.Queued.{Queued}
use Rattle.t1s_mac.specs.PickedDraws.{picked_answer, picked_after}
use Rattle.t1s_mac.specs.declared.picked_draws.PickedDraws.{PickedDraws}
use Rattle.t1s_node.specs.declared.settings.NodeSet.{NodeSet}
use Rattle.t1s_node.specs.declared.settings.Driven.{Driven}
use Rattle.t1s_node.specs.Node.{NodeState, node_start, node_after_offer, reading_of, node_drive, node_hear}
use Rattle.t1s_node.specs.Runs.{CoreTick, core_at, drive_at}

-- what comes to a node in a tick: the frames that are offered before its drive phase, and what it hears after it
pub record NodeTick : Type 0 where
  pub offers : List Queued
  pub heard : Heard

-- the node after offers, the first one first
abbrev pub node_after_offers : NodeState → List Queued → NodeState
node_after_offers n [] = n
node_after_offers n (q ∷ qs) = node_after_offers (node_after_offer n q) qs

module _ (start : NodeState) (given : ℕ → NodeTick) where
  -- the node as tick t finds it, where `given k` is what comes to it in tick k
  unfoldable pub node_at : ℕ → NodeState
  node_at zero = start
  node_at (suc t) = node_hear (node_drive (node_after_offers (node_at t) (given t).offers)).0 (given t).heard

  -- what its drive phase tells in tick t
  abbrev pub node_drive_at : ℕ → Driven
  node_drive_at t = (node_drive (node_after_offers (node_at t) (given t).offers)).1

  -- what comes to the core of the node in tick t
  abbrev pub core_ticks : ℕ → CoreTick
  core_ticks t = record { offers = (given t).offers; reading = reading_of (node_at t) }

-- The core of a node runs as a core does that finds in each tick what the node keeps, and the node tells what its core
-- does. So each law of a core is one of a node.
abbrev pub RunsAsCore : Type 0
RunsAsCore =
    (set : NodeSet) (room : ℕ) (draws : PickedDraws) (given : ℕ → NodeTick) (t : ℕ)
    → let start : NodeState = node_start set (empty_queue room) draws in
    ((node_at start given t).core ≡ core_at picked_answer picked_after start.core (core_ticks start given) t)
    × ((node_drive_at start given t).quarter ≡ (drive_at picked_answer picked_after start.core (core_ticks start given) t).quarter)
    × ((node_drive_at start given t).note ≡ (drive_at picked_answer picked_after start.core (core_ticks start given) t).step.note)
    × ((node_drive_at start given t).leaves ≡ (drive_at picked_answer picked_after start.core (core_ticks start given) t).leaves)
