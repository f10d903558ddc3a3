-- Waves: the drives as they pass the place of one node, its own among them, in ticks of the world.
use Rattle.std.specs.Prelude.{◌≡◌, ℕ, ◌+◌, ◌-◌, ◌*◌, ◌<◌, ◌≤◌, ◌⊎◌, Bool, true, false, List, [], ◌∷◌, nat_lt, nat_le, ◌&&◌, if◌then◌else◌}

-- what the cycle of opportunities is set to at a node: which IDs are its own, the count of IDs, the ticks of an
-- opportunity, and after how many ticks carrier is read and no longer read
pub record CycleSettings : Type 0 where
  pub owns : ℕ → Bool
  pub count : ℕ
  pub to : ℕ
  pub rise : ℕ
  pub fall : ℕ

pub record IsCycleSettings (n : CycleSettings) : Type 0 where
  pub low_ids : (x : ℕ) → n.owns x ≡ true → x < n.count
  pub count_high : n.count ≤ 254
  pub rise_low : 1 ≤ n.rise
  pub rise_high : n.rise ≤ 16
  pub fall_low : 1 ≤ n.fall
  pub to_high : n.rise ≤ n.to

-- A drive at the node's place: whether it is the node's own, whether it is spelled as a beacon, the ID in whose
-- opportunity it began, and the ID with which all go on to count behind it. It is over the place in the ticks from
-- `from` on and below `till`.
pub record Wave : Type 0 where
  pub own : Bool
  pub beacon : Bool
  pub place : ℕ
  pub next : ℕ
  pub from : ℕ
  pub till : ℕ

-- it is read as a beacon: a whole symbol of it has come
abbrev pub reads_beacon : Wave → Bool
reads_beacon w = w.beacon && nat_le (w.from + 4) w.till

-- the ID with which a node goes on to count that has heard it
abbrev pub next_heard : Wave → ℕ
next_heard w = if reads_beacon w then 0 else w.place + 1

-- the tick in which the opportunity of ID x begins behind a wave
unfoldable pub opportunity_start : CycleSettings → Wave → ℕ → ℕ
opportunity_start n w x = w.till + n.fall + (x - w.next) * n.to

-- after how many ticks control sees a wave
abbrev pub lag : CycleSettings → Wave → ℕ
lag n w = if w.own then 0 else n.rise

-- the waves that have come before tick t, the newest first, and those that control has seen by then
abbrev pub arrived : ℕ → List Wave → List Wave
arrived t [] = []
arrived t (w ∷ ws) = if nat_lt w.from t then w ∷ ws else arrived t ws

abbrev pub seen : CycleSettings → ℕ → List Wave → List Wave
seen n t [] = []
seen n t (w ∷ ws) = if nat_lt (w.from + lag n w) t then w ∷ ws else seen n t ws

-- there is energy in tick t, by the waves that have come up to it: the newest of them still goes on
abbrev pub sounds_in : ℕ → List Wave → Bool
sounds_in t [] = false
sounds_in t (w ∷ ws) = nat_lt t w.till

-- In tick t the opportunity of ID x begins behind a, the newest wave that control has seen, and no newer one has risen.
pub record BeginsBehind (n : CycleSettings) (t : ℕ) (ws : List Wave) (a : Wave) (rest : List Wave) (x : ℕ) : Type 0 where
  pub newest : seen n t ws ≡ a ∷ rest
  pub order : a.next ≤ x
  pub now : t ≡ opportunity_start n a x
  pub none_risen : (v : Wave) → arrived t ws ≡ v ∷ a ∷ rest → t < v.from + n.rise

-- ---- neighbours

-- A newer wave b behind a. It comes in its own opportunity behind a, or late by the way between the two nodes, which is
-- short enough for control to see it before that opportunity has lapsed.
pub record Behind (n : CycleSettings) (a b : Wave) : Type 0 where
  pub order : a.next ≤ b.place
  pub gap : a.till + n.fall ≤ b.from
  pub long : a.from + n.rise ≤ a.till
  pub own : b.own ≡ true → b.from ≡ opportunity_start n a b.place
  pub low : opportunity_start n a b.place ≤ b.from
  pub high : b.from + n.rise ≤ opportunity_start n a b.place + n.to

-- a wave, and the next one that is energy: waves too short for carrier need only be told apart
pub record Apart (n : CycleSettings) (a b : Wave) : Type 0 where
  pub still : a.till + 1 ≤ b.from
  pub fades : a.from + n.rise ≤ a.till → a.till + n.fall ≤ b.from

-- of a list of waves, the newest first: each is some ticks long, and apart from the one before, or behind it
abbrev pub AreApart : CycleSettings → List Wave → Type 0
AreApart n [] = Unit {0}
AreApart n (a ∷ []) = a.from < a.till
AreApart n (b ∷ a ∷ ws) = (b.from < b.till) × Apart n a b × AreApart n (a ∷ ws)

abbrev pub AreBehind : CycleSettings → List Wave → Type 0
AreBehind n [] = Unit {0}
AreBehind n (a ∷ []) = a.from < a.till
AreBehind n (b ∷ a ∷ ws) = (b.from < b.till) × Behind n a b × AreBehind n (a ∷ ws)

-- ---- the waves of a cycle

-- A wave among those that are told up to tick `now`. One that is over by then is long enough for carrier, and is counted
-- from as its hearers read it. A beacon has the place behind all IDs, and the node's own are beacons only where it owns
-- ID 0, which no other beacon passes then; a run has the ID of its node.
pub record IsWave (n : CycleSettings) (now : ℕ) (w : Wave) : Type 0 where
  pub over : (now ≤ w.till) ⊎ (w.from + n.rise ≤ w.till)
  pub next : w.till < now → w.next ≡ next_heard w
  pub low : w.next ≤ n.count
  pub beacon : w.beacon ≡ true → w.place ≡ n.count
  pub run : w.beacon ≡ false → (w.place < n.count) × (n.owns w.place ≡ w.own)
  pub by_owner : w.beacon ≡ true → n.owns 0 ≡ w.own

-- each wave of a list
abbrev pub EachWave : (Wave → Type 0) → List Wave → Type 0
EachWave P [] = Unit {0}
EachWave P (w ∷ ws) = P w × EachWave P ws

-- the oldest wave of a list, if there is one
abbrev pub OldestWave : (Wave → Type 0) → List Wave → Type 0
OldestWave P [] = Unit {0}
OldestWave P (w ∷ []) = P w
OldestWave P (w ∷ v ∷ ws) = OldestWave P (v ∷ ws)

-- the first beacon of a coordinator that starts at tick `begin`
pub record IsFirstBeacon (n : CycleSettings) (begin : ℕ) (w : Wave) : Type 0 where
  pub own : w.own ≡ true
  pub beacon : w.beacon ≡ true
  pub from : w.from ≡ begin + 258 * n.to

-- the newest wave is not so long ago that a node which counts behind it passes all IDs
abbrev pub IsAlive : CycleSettings → ℕ → List Wave → Type 0
IsAlive n now [] = Unit {0}
IsAlive n now (w ∷ ws) = now < opportunity_start n w n.count + n.to

-- The waves at the place of a node that starts at tick `begin`, told up to tick `now`, the newest first.
pub record AreWaves (n : CycleSettings) (begin now : ℕ) (ws : List Wave) : Type 0 where
  pub behind : AreBehind n ws
  pub each : EachWave (IsWave n now) ws
  pub first : n.owns 0 ≡ true → OldestWave (IsFirstBeacon n begin) ws
  pub alive : IsAlive n now ws
