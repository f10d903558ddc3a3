-- What a node drove, told by its changes: the ticks in which something else began than what would have gone on.
use Rattle.std.specs.Prelude.{◌≡◌, ℕ, ◌+◌, ◌-◌, ◌%◌, ◌<◌, ◌≤◌, nat_lt, List, [], ◌∷◌, length, get_or, Option, None, Some, IfSome, if◌then◌else◌}
use Rattle.circular_buffer.specs.Buffer.{Buffer, buffer}
use Rattle.t1s_symbols.specs.declared.Quarter.{Quarter}
use Rattle.t1s_symbols.specs.Ranges.{IsQuarter}
use Rattle.t1s_cable.specs.declared.changes.Change.{Change}
use Rattle.t1s_cable.specs.Taps.{most_span}

-- what goes on from this for so many ticks: silence stays silence, and a symbol is repeated after its last part
abbrev pub advanced : Option Quarter → ℕ → Option Quarter
advanced None ticks = None
advanced (Some q) ticks = Some (record { sym = q.sym; part = (q.part + ticks) % 4 })

-- what a node drove in tick t by its changes, the newest first: what began in the newest that is not after t, and went
-- on since; nothing before the oldest
abbrev pub drove : List Change → ℕ → Option Quarter
drove [] t = None
drove (c ∷ older) t = if nat_lt t c.tick then drove older t else advanced c.begins (t - c.tick)

-- the changes of ticks before n, the newest first, each in a tick of its own and in range
abbrev pub AreChanges : ℕ → List Change → Type 0
AreChanges n [] = Unit {0}
AreChanges n (c ∷ older) = (c.tick < n) × IfSome c.begins IsQuarter × AreChanges (n - 1) older

-- a ring of changes in tick n: it has room for a change in each tick that is kept before n, as many as the cable spans,
-- and one more
pub record IsRing (n : ℕ) (b : Buffer Change) : Type 0 where
  pub some : 1 ≤ b.capacity
  pub short : b.capacity ≤ most_span + 1
  pub past : b.capacity ≤ n + 1
  pub held : length b.items ≤ b.capacity
  pub changes : AreChanges n b.items

-- the ring of node i
abbrev pub ring_at : List (Buffer Change) → ℕ → Buffer Change
ring_at rings i = get_or rings i (buffer [] 0)

-- a ring that keeps tick n too, in which its node drove q
pub record KeepsTick (n : ℕ) (q : Option Quarter) (old new : Buffer Change) : Type 0 where
  pub ring : IsRing (n + 1) new
  pub room : new.capacity ≡ old.capacity
  pub now : drove new.items n ≡ q
  pub before : (t : ℕ) → t < n → n < t + old.capacity → drove new.items t ≡ drove old.items t

-- the same of all rings, and of the row of what all nodes drove
pub record KeepsRow (n : ℕ) (row : List (Option Quarter)) (old new : List (Buffer Change)) : Type 0 where
  pub sizes : length new ≡ length old
  pub each : (i : ℕ) → i < length old → KeepsTick n (get_or row i None) (ring_at old i) (ring_at new i)

-- ---- ticks are counted anew now and then

-- so many ticks are taken off then: a number that four divides
abbrev pub lap : ℕ
lap = 32768

-- a change whose tick is told so many ticks less. One in a tick before those is told in one of the first ticks, in which
-- its symbol has the same part
abbrev pub renumbered : Change → Change
renumbered c = record { tick = (if nat_lt c.tick lap then c.tick % 4 else c.tick - lap); begins = c.begins }

-- a ring in tick n that is told as one in tick m
pub record SameRing (n m : ℕ) (old new : Buffer Change) : Type 0 where
  pub ring : IsRing m new
  pub room : new.capacity ≡ old.capacity
  pub same : (d : ℕ) → 1 ≤ d → d < old.capacity → drove new.items (m - d) ≡ drove old.items (n - d)

pub record SameRings (n m : ℕ) (old new : List (Buffer Change)) : Type 0 where
  pub sizes : length new ≡ length old
  pub low : m < lap + lap
  pub each : (i : ℕ) → i < length old → SameRing n m (ring_at old i) (ring_at new i)

-- tick n ends, and tick m begins: the rings keep the row of what was driven in tick n, perhaps by another number of it
pub record EndsTick (n m : ℕ) (row : List (Option Quarter)) (old new : List (Buffer Change)) : Type 0 where
  pub tick : ℕ
  pub told : List (Buffer Change)
  pub next : m ≡ tick + 1
  pub same : SameRings n tick old told
  pub kept : KeepsRow tick row told new
