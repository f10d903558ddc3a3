-- The calm ticks of a script.
use Rattle.std.specs.Prelude.{◌≡◌, ◌≢◌, ℕ, ◌<◌, ◌≤◌, nat_lt, false, All, [], None, length, if◌then◌else◌}
use Rattle.std.specs.Fn.{iterate}
use Rattle.t1s_symbols.specs.declared.Heard.TheVariants.{Nothing}
use Rattle.t1s_world.specs.World.{heard_at}
use Rattle.plca_control.specs.StatusTable.{status_is_ok}
use Rattle.t1s_node.specs.CalmNode.{IsCalmNode, node_after_silence}
use Rattle.t1s_script.specs.declared.script.Script.{Script}
use Rattle.t1s_script.specs.Taps.{taps_of}
use Rattle.t1s_line.specs.declared.track.Track.{Track}
use Rattle.t1s_line.specs.Acts.{has_act, is_noisy}
use Rattle.t1s_line.specs.World.{driven_in, events_at, first_tracks, machine_of, start_of, world}

-- A tick is calm where all of these hold. No act has it, no noise lasts in it, and no node starts in it. No node drives in it, and no
-- node, started or not, is reached by a quarter that another node drove. To each node that has started nothing happens: it is at rest
-- before and after, each of its machines keeps the name of its state, and nothing else that it keeps is changed but their counts.
pub record IsCalm (s : Script) (t : ℕ) : Type 0 where
  pub no_act : has_act s.acts t ≡ false
  pub no_noise : is_noisy s.acts t ≡ false
  pub no_start : (j : ℕ) → j < length s.nodes → start_of s j ≢ t
  pub no_drive : (i : ℕ) → driven_in s i t ≡ None
  pub unreached : (j : ℕ) → j < length s.nodes → heard_at (machine_of s) (taps_of s) (first_tracks s) t j ≡ Nothing
  pub nodes : All (λ (k : Track). k.start ≤ t → IsCalmNode k.node) (world s t).nodes

-- In a calm tick nothing happens.
abbrev pub CalmTicksAreQuiet : Type 0
CalmTicksAreQuiet = (s : Script) (t : ℕ) → IsCalm s t → events_at s t ≡ []

-- ---- node by node

-- a track tells of the last drive phase of its node: whether the status was OK, and whether the node drove
pub record IsTold (k : Track) : Type 0 where
  pub ok : k.ok ≡ status_is_ok k.node.status
  pub driving : k.driving ≡ k.node.drove

-- a tick is calm for a node of a segment: it doesn't start in it, and once it has started nothing happens to it
pub record IsCalmTrack (t : ℕ) (k : Track) : Type 0 where
  pub no_start : k.start ≢ t
  pub node : k.start ≤ t → IsCalmNode k.node

-- it passes n ticks from tick t on
abbrev pub passed_track : ℕ → ℕ → Track → Track
passed_track t n k = if nat_lt t k.start then k else record k { node = iterate node_after_silence n k.node }
