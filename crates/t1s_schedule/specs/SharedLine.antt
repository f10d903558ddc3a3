-- What the drives of a run are on a fit script: a schedule (IEEE 802.3 clause 148: opportunities follow one another in the order
-- of the IDs).
use Rattle.std.specs.Prelude.{◌≡◌, ◌↔◌, ℕ, ◌+◌, ◌*◌, Bool, true, false, List, length, Option, None, Some, Contains, slice_get}
use Rattle.t1s_base.specs.NodeIds.{has_id}
use Rattle.t1s_harness.specs.Distances.{Point, far, point_at}
use Rattle.t1s_symbols.specs.declared.Quarter.{Quarter}
use Rattle.t1s_symbols.specs.declared.Symbol.{Symbol}
use Rattle.t1s_symbols.specs.declared.Symbol.TheVariants.{N}
use Rattle.t1s_world.specs.Drives.{IsDrive}
use Rattle.t1s_world.specs.Schedule.{Drive, EachDrive, IsChain, IsPlaced, IsSilent, next_after}
use Rattle.t1s_script.specs.declared.script.Script.{Script}
use Rattle.t1s_script.specs.declared.script.NodeLine.{NodeLine}
use Rattle.t1s_script.specs.Taps.{taps_of}
use Rattle.t1s_line.specs.World.{driven_in, start_of}

-- ---- the cable and the IDs of a script

-- how far a point of the cable, of the trunk or of a stub, is from the node at position i, in bit times
abbrev pub far_in : (s : Script) → ℕ → Point (taps_of s) → ℕ
far_in s i p = far (taps_of s) i p

-- the point of the node at position i
abbrev pub at_in : (s : Script) → ℕ → Point (taps_of s)
at_in s i = point_at (taps_of s) i

-- whether the node at position i has the ID x among its IDs
abbrev pub owns_id : ℕ → Option NodeLine → Bool
owns_id x None = false
owns_id x (Some line) = has_id line.ids x

abbrev pub owner_in : Script → ℕ → ℕ → Bool
owner_in s i x = owns_id x (slice_get s.nodes i)

-- the node at position z has the ID 0
abbrev pub IsCoordinator : Script → ℕ → Type 0
IsCoordinator s z = owner_in s z 0 ≡ true

-- the tick of the first beacon: that node's start, and 258 opportunities of silence
abbrev pub first_beacon : Script → ℕ → ℕ
first_beacon s z = start_of s z + 258 * s.to

-- ---- the schedule

-- a symbol that begins a drive makes it a beacon, or not
abbrev pub is_beacon_symbol : Symbol → Bool
is_beacon_symbol N = true
is_beacon_symbol _ = false

abbrev pub begins_beacon : Option Quarter → Bool
begins_beacon None = false
begins_beacon (Some q) = is_beacon_symbol q.sym

-- These are the drives of the first T ticks, the newest first.
-- * They are exactly the maximal intervals of ticks below T in which a node drives, and each is a beacon exactly where its first
--   symbol is N.
-- * The first is the beacon of the node with ID 0 at its tick, and there is none only where T is at most that tick; each later one
--   begins in the opportunity of its place behind the one before it: as its node hears it, the gap between the two is `fall` and
--   a multiple of `to`, and its place is the ID from which all count behind the one before, and one more for each `to` in the gap.
-- * A beacon is that node's and has the count for its place, any other drive has an ID of its node.
-- * Where the newest has ended below T, T is at most the tick in which the next beacon is due.
pub record IsSchedule (s : Script) (z T : ℕ) (ds : List Drive) : Type 0 where
  pub exact : (i a e : ℕ) → IsDrive (driven_in s i) T a e ↔ ((d : Drive) × Contains ds d × (d.node ≡ i) × (d.start ≡ a) × (d.stop ≡ e))
  pub beacons : EachDrive (λ (d : Drive). d.beacon ≡ begins_beacon (driven_in s d.node d.start)) ds
  pub chain : IsChain next_after (far_in s) (at_in s) s.rise s.fall s.to (length s.nodes) z (first_beacon s z) ds
  pub placed : EachDrive (IsPlaced (owner_in s) s.count z) ds
  pub lasts : IsSilent next_after (far_in s) (at_in s) s.fall s.to s.count z (first_beacon s z) T ds
