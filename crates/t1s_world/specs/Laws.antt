-- What holds of every chain of drives, whatever the cable and its points are: `far i p` is how far point p is from node i,
-- nodes are told apart by numbers, and `at i` is the point of node i.
use Rattle.std.specs.Prelude.{◌≡◌, ℕ, ◌+◌, ◌-◌, ◌*◌, ◌<◌, ◌≤◌, ◌⊎◌, Bool, true, List, ◌∷◌}
use Rattle.t1s_world.specs.Waves.{CycleSettings, IsCycleSettings, Wave, opportunity_start, Behind, AreBehind, BeginsBehind, AreWaves}
use Rattle.t1s_world.specs.Schedule.{Drive, IsFar, NoOverlap, AreOwners, IsPlaced, EachDrive, IsWhole, started_drive, next_after, Follows, IsChain, IsSilent, wave_at, waves_at}

-- No two drives of a chain are over one point in one tick.
abbrev pub DrivesNeverOverlap : Type 0 → Type 0
DrivesNeverOverlap Point =
    (next : Drive → ℕ) (far : ℕ → Point → ℕ) (at : ℕ → Point) (rise fall to nodes span z first : ℕ) → IsFar far at nodes span
    → (ds : List Drive) → IsChain next far at rise fall to nodes z first ds → (p : Point) → NoOverlap far p ds

-- Where twice the span and the rise of carrier fit into an opportunity, the drives of a chain are waves at the place of
-- each node, each behind the one before.
abbrev pub ChainsAreWaves : Type 0 → Type 0
ChainsAreWaves Point =
    (next : Drive → ℕ) (far : ℕ → Point → ℕ) (at : ℕ → Point) (n : CycleSettings) (nodes span z first : ℕ) → IsFar far at nodes span
    → 1 ≤ n.rise → 2 * span + n.rise ≤ n.to
    → (ds : List Drive) → IsChain next far at n.rise n.fall n.to nodes z first ds → (j : ℕ) → j < nodes → AreBehind n (waves_at next far at j ds)

-- Behind one drive the opportunities of two IDs never begin in one tick, wherever each is counted.
abbrev pub OpportunitiesAreAlone : Type 0 → Type 0
OpportunitiesAreAlone Point =
    (next : Drive → ℕ) (far : ℕ → Point → ℕ) (at : ℕ → Point) (n : CycleSettings) (nodes span : ℕ) → IsFar far at nodes span
    → 1 ≤ n.rise → 2 * span + n.rise ≤ n.to
    → (p q : Point) (own other : Bool) (a : Drive) (x y : ℕ) → far a.node p ≤ span → far a.node q ≤ span → next a ≤ x → next a ≤ y
    → opportunity_start n (wave_at next far at p own a) x ≡ opportunity_start n (wave_at next far at q other a) y → x ≡ y

-- While a drive b that follows a is on its way to a point, or too short there for carrier, no opportunity begins there
-- behind a but that of b.
abbrev pub NoneStartsBefore : Type 0 → Type 0
NoneStartsBefore Point =
    (next : Drive → ℕ) (far : ℕ → Point → ℕ) (at : ℕ → Point) (n : CycleSettings) (nodes span : ℕ) → IsFar far at nodes span
    → 1 ≤ n.rise → 2 * span + n.rise ≤ n.to
    → (p : Point) (own : Bool) (a b : Drive) (x t : ℕ) → Follows next far at n.fall n.to a b
    → far a.node (at b.node) ≤ span → far b.node p ≤ span → far a.node p ≤ span → next a ≤ x
    → b.start < t → t < b.start + far b.node p + n.rise → t ≡ opportunity_start n (wave_at next far at p own a) x → x ≡ b.place

-- The gap between two waves tells how many opportunities lapsed in it: as many whole timers as it holds, less fall.
abbrev pub GapTellsPlace : Type 0
GapTellsPlace =
    (n : CycleSettings) → 1 ≤ n.rise → (a b : Wave) → Behind n a b
    → (a.till + n.fall + (b.place - a.next) * n.to ≤ b.from) × (b.from < a.till + n.fall + (b.place - a.next) * n.to + n.to)

-- A node that starts a drive in tick t, in its own opportunity or with the next beacon, behind the newest wave that it has
-- seen, starts it behind the newest drive of the chain: what it starts follows that.
abbrev pub StartsFollow : Type 0 → Type 0
StartsFollow Point =
    (next : Drive → ℕ) (far : ℕ → Point → ℕ) (at : ℕ → Point) (n : CycleSettings) → IsCycleSettings n → (nodes span z first : ℕ) → IsFar far at nodes span
    → 2 * span + n.rise ≤ n.to
    → (owner : ℕ → ℕ → Bool) → AreOwners owner n.count z
    → (ds : List Drive) → IsChain next far at n.rise n.fall n.to nodes z first ds → EachDrive (IsPlaced owner n.count z) ds
    → (t : ℕ) → EachDrive (λ (a : Drive). a.start < t) ds → (j : ℕ) → j < nodes
    → (a : Wave) (rest : List Wave) (x : ℕ) → BeginsBehind n t (waves_at next far at j ds) a rest x → (owner j x ≡ true) ⊎ ((x ≡ n.count) × (j ≡ z))
    → (beacon : Bool) → (newest : Drive) × (older : List Drive) × (ds ≡ newest ∷ older) × Follows next far at n.fall n.to newest (started_drive j beacon x t)

-- The drives of a chain so far are the waves of a cycle at the place of each node: where those that are over were whole, and
-- the next beacon is not yet due.
abbrev pub ChainsPassAsCycles : Type 0 → Type 0
ChainsPassAsCycles Point =
    (far : ℕ → Point → ℕ) (at : ℕ → Point) (n : CycleSettings) → IsCycleSettings n → (nodes span z first : ℕ) → IsFar far at nodes span
    → 2 * span + n.rise ≤ n.to
    → (owner : ℕ → ℕ → Bool) → AreOwners owner n.count z → z < nodes
    → (ds : List Drive) → IsChain next_after far at n.rise n.fall n.to nodes z first ds → EachDrive (IsPlaced owner n.count z) ds
    → (t : ℕ) → EachDrive (IsWhole t) ds → IsSilent next_after far at n.fall n.to n.count z first t ds
    → (j : ℕ) → j < nodes → ((x : ℕ) → n.owns x ≡ owner j x) → (begin : ℕ) → (j ≡ z → first ≡ begin + 258 * n.to)
    → AreWaves n begin t (waves_at next_after far at j ds)
