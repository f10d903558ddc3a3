-- Where signals meet on the cable: the drives of a run, as they pass the point of a node, which is the end of its stub.
use Rattle.std.specs.Prelude.{◌≡◌, ◌≢◌, ◌⊎◌, ℕ, ◌<◌, ◌≤◌, true, slice_get, Some}
use Rattle.t1s_harness.specs.Distances.{Point, far, point_at}
use Rattle.t1s_world.specs.Drives.{IsDrive}
use Rattle.t1s_world.specs.Events.{IsNumberBelow}
use Rattle.t1s_world.specs.Schedule.{Drive, IsOver}
use Rattle.t1s_script.specs.declared.script.Script.{Script}
use Rattle.t1s_script.specs.Taps.{taps_of}
use Rattle.t1s_line.specs.declared.totals.NodeTotals.{NodeTotals}
use Rattle.t1s_line.specs.Acts.{is_noisy}
use Rattle.t1s_line.specs.World.{driven_in, start_of, totals_below}

-- two drives are not one: they are of two nodes, or begin in two ticks
abbrev pub AreTwo : Drive → Drive → Type 0
AreTwo a b = (a.node ≢ b.node) ⊎ (a.start ≢ b.start)

module _ (s : Script) where
  -- the point of the node at position j, and how far a point of the cable is from the node at position i
  abbrev pub point_of : ℕ → Point (taps_of s)
  point_of j = point_at (taps_of s) j

  abbrev pub far_from : ℕ → Point (taps_of s) → ℕ
  far_from i p = far (taps_of s) i p

  -- In the first T ticks of the run this is a drive of its node, which goes on up to the tick `stop` or up to T. What else the record
  -- tells of it is left open.
  abbrev pub IsDriveBelow : ℕ → Drive → Type 0
  IsDriveBelow T a = IsDrive (driven_in s a.node) T a.start a.stop

  -- two drives of the first T ticks are over the point of the node at position j in tick t, each from as many ticks after its start on
  -- and below as many after its end as its node is away: one of them may be that node's own
  pub record DrivesMeet (T j t : ℕ) : Type 0 where
    pub one : Drive
    pub other : Drive
    pub two : AreTwo one other
    pub is_one : IsDriveBelow T one
    pub is_other : IsDriveBelow T other
    pub one_over : IsOver far_from one (point_of j) t
    pub other_over : IsOver far_from other (point_of j) t

  -- the node at position j has started by tick t, and in this tick a noise lasts, or two drives meet at its point
  pub record SignalsMeet (T j t : ℕ) : Type 0 where
    pub started : start_of s j ≤ t
    pub cause : (is_noisy s.acts t ≡ true) ⊎ DrivesMeet T j t

-- of each node of each script, whether it is fit or not: what its counter has after the first T ticks is in how many of them signals met
-- there
abbrev pub ClashesAreMeetings : Type 0
ClashesAreMeetings =
    (s : Script) (T j : ℕ) (n : NodeTotals) → slice_get (totals_below s T) j ≡ Some n → IsNumberBelow (SignalsMeet s T j) T n.clash

-- So where it has counted none, no two drives are over its point in one of these ticks from its start on.
abbrev pub NoneCountedNoneMeet : Type 0
NoneCountedNoneMeet =
    (s : Script) (T j : ℕ) (n : NodeTotals) → slice_get (totals_below s T) j ≡ Some n → n.clash ≡ 0
    → (t : ℕ) → start_of s j ≤ t → t < T → DrivesMeet s T j t → ⊥
