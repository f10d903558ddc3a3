-- The schedule of a cable, on numbers alone: its drives, how they follow one another, and where they overlap.
-- Of the cable it has how far a point is from a node, `far i p`, and the point of a node, `at i`; of the cycle the ticks
-- `fall` and `to`; and `next a`, the ID with which all go on to count behind drive a.
use Rattle.std.specs.Prelude.{◌≡◌, ℕ, ◌+◌, ◌-◌, ◌*◌, ◌<◌, ◌≤◌, Bool, true, false, List, [], ◌∷◌, ◌==◌, if◌then◌else◌}
use Rattle.t1s_world.specs.Waves.{Wave}

-- a drive: its node, whether it is spelled as a beacon, the ID in whose opportunity it begins (for a beacon the count of
-- IDs), and its ticks, from `start` on and below `stop`
pub record Drive : Type 0 where
  pub node : ℕ
  pub beacon : Bool
  pub place : ℕ
  pub start : ℕ
  pub stop : ℕ

-- behind a beacon all count from 0, behind a run from the next ID, where each drive is heard whole
abbrev pub next_after : Drive → ℕ
next_after a = if a.beacon then 0 else a.place + 1

-- `far` tells distances: a node is at no distance from its own point, a point is no farther than by way of another node,
-- and no two of the nodes, of which there are `nodes`, are farther apart than `span`
pub record IsFar {Point : Type 0} (far : ℕ → Point → ℕ) (at : ℕ → Point) (nodes span : ℕ) : Type 0 where
  pub self : (i : ℕ) → far i (at i) ≡ 0
  pub triangle : (i k : ℕ) (p : Point) → far i p ≤ far i (at k) + far k p
  pub near : (i k : ℕ) → i < nodes → k < nodes → far i (at k) ≤ span

-- in tick t a drive is over a point, which it reaches as late as the point is far from its node
pub record IsOver {Point : Type 0} (far : ℕ → Point → ℕ) (a : Drive) (p : Point) (t : ℕ) : Type 0 where
  pub reached : a.start + far a.node p ≤ t
  pub lasts : t < a.stop + far a.node p

-- two drives are over one point in one tick
abbrev pub Overlap : {Point : Type 0} → (ℕ → Point → ℕ) → Point → Drive → Drive → Type 0
Overlap far p a b = (t : ℕ) × IsOver far a p t × IsOver far b p t

-- no two of these drives overlap at a point
abbrev pub NoneOverlaps : {Point : Type 0} → (ℕ → Point → ℕ) → Point → Drive → List Drive → Type 0
NoneOverlaps far p b [] = Unit {0}
NoneOverlaps far p b (a ∷ ds) = (Overlap far p a b → ⊥) × NoneOverlaps far p b ds

abbrev pub NoOverlap : {Point : Type 0} → (ℕ → Point → ℕ) → Point → List Drive → Type 0
NoOverlap far p [] = Unit {0}
NoOverlap far p (b ∷ ds) = NoneOverlaps far p b ds × NoOverlap far p ds

-- the drive that a node starts in tick t, as that tick leaves it
abbrev pub started_drive : ℕ → Bool → ℕ → ℕ → Drive
started_drive j beacon x t = record { node = j; beacon = beacon; place = x; start = t; stop = t + 1 }

-- each drive of a list
abbrev pub EachDrive : (Drive → Type 0) → List Drive → Type 0
EachDrive P [] = Unit {0}
EachDrive P (a ∷ ds) = P a × EachDrive P ds

-- a drive of one of the nodes, some ticks long
pub record IsOfNode (nodes : ℕ) (a : Drive) : Type 0 where
  pub node : a.node < nodes
  pub some : a.start < a.stop

-- the first drive: a beacon of node z that begins in tick `first`
pub record IsFirst (z first : ℕ) (a : Drive) : Type 0 where
  pub beacon : a.beacon ≡ true
  pub node : a.node ≡ z
  pub start : a.start ≡ first

-- which node has which IDs: each ID is below the count, and no two nodes have one; node z has ID 0
pub record AreOwners (owner : ℕ → ℕ → Bool) (count z : ℕ) : Type 0 where
  pub low : (i x : ℕ) → owner i x ≡ true → x < count
  pub one : (i k x : ℕ) → owner i x ≡ true → owner k x ≡ true → i ≡ k
  pub coordinator : (i : ℕ) → owner i 0 ≡ true → i ≡ z
  pub has_zero : owner z 0 ≡ true

-- a beacon is node z's and has the count of IDs for its place, a run has an ID of its node
pub record IsPlaced (owner : ℕ → ℕ → Bool) (count z : ℕ) (a : Drive) : Type 0 where
  pub beacon : a.beacon ≡ true → (a.place ≡ count) × (a.node ≡ z)
  pub run : a.beacon ≡ false → owner a.node a.place ≡ true

-- in tick t a drive goes on, or it had at least the 20 ticks that a beacon has
abbrev pub IsWhole : ℕ → Drive → Type 0
IsWhole t a = a.stop < t → a.start + 20 ≤ a.stop

module _ {Point : Type 0} (next : Drive → ℕ) (far : ℕ → Point → ℕ) (at : ℕ → Point) where
  -- what a drive is at a point, where `own` tells whether the point is that of its own node
  abbrev pub wave_at : Point → Bool → Drive → Wave
  wave_at p own a = record { own = own; beacon = a.beacon; place = a.place; next = next a; from = a.start + far a.node p; till = a.stop + far a.node p }

  -- what the drives are at the place of node j
  abbrev pub waves_at : ℕ → List Drive → List Wave
  waves_at j [] = []
  waves_at j (a ∷ ds) = wave_at (at j) (a.node == j) a ∷ waves_at j ds

  -- b follows a: it begins in the opportunity of its place, which all nodes count from the end of a as it passes them
  pub record Follows (fall to : ℕ) (a b : Drive) : Type 0 where
    pub order : next a ≤ b.place
    pub start : b.start ≡ a.stop + far a.node (at b.node) + fall + (b.place - next a) * to

  -- a newer drive b behind a, which is long enough for carrier
  pub record IsNext (rise fall to : ℕ) (a b : Drive) : Type 0 where
    pub follows : Follows fall to a b
    pub long : a.start + rise ≤ a.stop

  -- the drives of a chain, the newest first: each follows the one before it, and the oldest is the first drive
  abbrev pub IsChain : ℕ → ℕ → ℕ → ℕ → ℕ → ℕ → List Drive → Type 0
  IsChain rise fall to nodes z first [] = Unit {0}
  IsChain rise fall to nodes z first (a ∷ []) = IsOfNode nodes a × IsFirst z first a
  IsChain rise fall to nodes z first (b ∷ a ∷ ds) = IsOfNode nodes b × IsNext rise fall to a b × IsChain rise fall to nodes z first (a ∷ ds)

  -- Up to tick t the next beacon of node z is not due: none has ended its count behind the newest drive, if that has
  -- ended, and before the first drive not all ticks of recovery have passed.
  abbrev pub IsSilent : ℕ → ℕ → ℕ → ℕ → ℕ → ℕ → List Drive → Type 0
  IsSilent fall to count z first t [] = t ≤ first
  IsSilent fall to count z first t (a ∷ ds) = a.stop < t → t ≤ a.stop + far a.node (at z) + fall + (count - next a) * to
