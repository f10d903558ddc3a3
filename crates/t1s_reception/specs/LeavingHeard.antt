-- A frame that leaves in a piece that is closed by R, and that another node hears alone.
use Rattle.std.specs.Prelude.{◌≡◌, ℕ, ◌+◌, ◌-◌, ◌*◌, ◌<◌, ◌≤◌, length}
use Rattle.t1s_frame.specs.Frame.{nibble_list}
use Rattle.t1s_ring.specs.declared.queued.Queued.{Queued}
use Rattle.t1s_pcs_rx.specs.declared.piece.Kind.TheVariants.{Good}
use Rattle.t1s_node.specs.ClosedPieces.{IsClosedByR}
use Rattle.t1s_world.specs.Drives.{IsDrive}
use Rattle.t1s_script.specs.Script.{IsScript}
use Rattle.t1s_script.specs.declared.script.Script.{Script}
use Rattle.t1s_line.specs.Happenings.{IsLeaving, IsArrival}
use Rattle.t1s_line.specs.World.{driven_in}
use Rattle.t1s_schedule.specs.DriveContents.{IsOfferTo}
use Rattle.t1s_reception.specs.HeardAlone.{way, HearsAlone}

-- The offer of this number leaves the node at position i in tick v, in a drive of the ticks below T: the piece whose first H begins
-- then is closed by R, within the drive.
pub record LeavesInPiece (s : Script) (T i v number : ℕ) : Type 0 where
  pub start : ℕ
  pub stop : ℕ
  pub last : ℕ
  pub drive : IsDrive (driven_in s i) T start stop
  pub from : start ≤ v
  pub leaves : IsLeaving s v i number
  pub closed : IsClosedByR (driven_in s i) v last
  pub till : last < stop

-- the frame of an offer of this number to the node at position i arrives at the node at position j, as late as its piece takes from
-- tick v on, its first H, and the nodes are apart
pub record ArrivesFrom (s : Script) (v i number j : ℕ) : Type 0 where
  pub offer : Queued
  pub numbered : offer.number ≡ number
  pub offered : IsOfferTo s i v offer
  pub arrives : IsArrival s (v + 4 * length (nibble_list offer.frame) - 1 + way s j i) j Good offer.frame

-- It does at each node that hears all of the drive alone, on every valid script, fit or not: what came before in the drive, what
-- comes after, and what met the node's earlier drives does not matter.
abbrev pub LeavingsHeardAloneArrive : Type 0
LeavingsHeardAloneArrive =
    (s : Script) (T i j v number : ℕ) → IsScript s → (l : LeavesInPiece s T i v number) → HearsAlone s i j l.start (l.stop - l.start)
    → ArrivesFrom s v i number j
