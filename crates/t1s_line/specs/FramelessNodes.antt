-- A node that is never offered a frame.
use Rattle.std.specs.Prelude.{◌≡◌, ℕ, [], Some}
use Rattle.t1s_symbols.specs.declared.Heard.{Heard}
use Rattle.t1s_symbols.specs.declared.Quarter.{Quarter}
use Rattle.t1s_symbols.specs.declared.Symbol.TheVariants.{N}
use Rattle.t1s_ring.specs.Queue.{empty_queue}
use Rattle.t1s_mac.specs.declared.picked_draws.PickedDraws.{PickedDraws}
use Rattle.t1s_node.specs.declared.settings.NodeSet.{NodeSet}
use Rattle.t1s_node.specs.Node.{node_start}
use Rattle.t1s_node.specs.NodeRuns.{NodeTick, node_drive_at}

-- what comes to it in a tick
abbrev pub without_offers : (ℕ → Heard) → ℕ → NodeTick
without_offers heard t = record { offers = []; heard = heard t }

-- Whatever it is set to and hears, each quarter that it drives is one of a beacon: it never commits.
abbrev pub FramelessNodesBeacon : Type 0
FramelessNodesBeacon =
    (set : NodeSet) (room : ℕ) (draws : PickedDraws) (heard : ℕ → Heard) (t : ℕ) (q : Quarter)
    → (node_drive_at (node_start set (empty_queue room) draws) (without_offers heard) t).quarter ≡ Some q → q.sym ≡ N
