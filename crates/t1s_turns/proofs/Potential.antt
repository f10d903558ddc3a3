-- The potential of a node that waits for the opportunity of an ID: no wave raises it.
use Rattle.std.proofs.Common.{◌≡◌, ℕ, ◌+◌, ◌-◌, ◌*◌, ◌<◌, ◌≤◌, ◌⊎◌, inl, inr, refl, ap, arith}
use Rattle.std.proofs.Math.Nat.{mul-le-mul_right}
use Rattle.t1s_world.specs.Waves.{CycleSettings, Wave, opportunity_start}

-- more of a product
pub times : (x y unit : ℕ) → x ≤ y → x * unit ≤ y * unit
times x y unit h = mul-le-mul_right unit h

-- opportunities that are not used fit into as many units
pub lapsed : (m to unit : ℕ) → to ≤ unit → m * to ≤ m * unit
lapsed m to unit h =
    let spare : m * (to + (unit - to)) ≡ m * unit = ap (λ (x : ℕ). m * x) (omega (arith, h)) in
    omega (arith, spare)

-- m + 1 opportunities, one of them used, fit into m + 1 units
pub units : (m to used unit : ℕ) → to + used ≤ unit → (m + 1) * to + used ≤ (m + 1) * unit
units m to used unit h =
    let spare : (m + 1) * (to + (unit - to)) ≡ (m + 1) * unit = ap (λ (x : ℕ). (m + 1) * x) (omega (arith, h)) in
    let more : 1 * (unit - to) ≤ (m + 1) * (unit - to) = mul-le-mul_right (unit - to) (omega arith) in
    omega (arith, spare, more, h)

-- how many units are left from a wave on, until the opportunity of ID `mine` has begun
pub data UnitsLeft (n : CycleSettings) (mine : ℕ) (w : Wave) : ℕ → Type 0 where
  this_cycle : w.next ≤ mine → UnitsLeft n mine w (mine - w.next)
  next_cycle : mine < w.next → UnitsLeft n mine w (n.count - w.next + 1 + mine)

-- with which ID all go on to count behind a beacon, and behind a run
abbrev pub CountsOn : CycleSettings → Wave → Type 0
CountsOn n w = ((w.next ≡ 0) × (w.place ≡ n.count)) ⊎ ((w.next ≡ w.place + 1) × (w.place < n.count))

module _ (n : CycleSettings) (mine longest unit : ℕ) (big : n.to + (longest + n.fall) ≤ unit) where
  -- a newer wave b behind a, in whose gap the opportunity has not begun, leaves no more than was left
  pub falls : (a b : Wave) (x y : ℕ) → UnitsLeft n mine a x → UnitsLeft n mine b y → b.from ≤ opportunity_start n a b.place + n.to → b.till ≤ b.from + longest → a.next ≤ b.place
      → CountsOn n b → mine < n.count → (a.next ≤ mine → b.place < mine)
      → b.till + n.fall + y * unit ≤ a.till + n.fall + x * unit
  unfolding opportunity_start
  falls a b _ _ (this_cycle first) (this_cycle again) from till order (inl (flag, last)) low crossing = absurd (omega (arith, last, low, crossing first))
  falls a b _ _ (this_cycle first) (next_cycle gone) from till order (inl (flag, last)) low crossing = absurd (omega (arith, last, low, crossing first))
  falls a b _ _ (next_cycle first) (this_cycle again) from till order (inl (flag, last)) low crossing =
      let zero_next : b.next ≡ 0 = flag in
      let m : ℕ = b.place - a.next in
      let room = units m n.to (longest + n.fall) unit big in
      let whole : (n.count - a.next + 1 + mine) * unit ≡ (m + 1) * unit + mine * unit = (let e : n.count - a.next + 1 + mine ≡ (m + 1) + mine = omega (arith, last) in rw e (omega arith)) in
      let back : (mine - b.next) * unit ≡ mine * unit = (let e : mine - b.next ≡ mine = omega (arith, zero_next) in rw e refl) in
      omega (arith, from, till, room, whole, back)
  falls a b _ _ (next_cycle first) (next_cycle gone) from till order (inl (flag, last)) low crossing = let zero_next : b.next ≡ 0 = flag in absurd (omega (arith, gone, zero_next))
  falls a b _ _ (this_cycle first) (this_cycle again) from till order (inr (flag, few)) low crossing =
      let next : b.next ≡ b.place + 1 = flag in
      let m : ℕ = b.place - a.next in
      let room = units m n.to (longest + n.fall) unit big in
      let whole : (mine - a.next) * unit ≡ (m + 1) * unit + (mine - b.next) * unit = (let e : mine - a.next ≡ (m + 1) + (mine - b.next) = omega (arith, next, order, again) in rw e (omega arith)) in
      omega (arith, from, till, room, whole)
  falls a b _ _ (this_cycle first) (next_cycle gone) from till order (inr (flag, few)) low crossing = let next : b.next ≡ b.place + 1 = flag in absurd (omega (arith, gone, next, crossing first))
  falls a b _ _ (next_cycle first) (this_cycle again) from till order (inr (flag, few)) low crossing = let next : b.next ≡ b.place + 1 = flag in absurd (omega (arith, first, next, order, again))
  falls a b _ _ (next_cycle first) (next_cycle gone) from till order (inr (flag, few)) low crossing =
      let next : b.next ≡ b.place + 1 = flag in
      let m : ℕ = b.place - a.next in
      let room = units m n.to (longest + n.fall) unit big in
      let whole : (n.count - a.next + 1 + mine) * unit ≡ (m + 1) * unit + (n.count - b.next + 1 + mine) * unit = (let e : n.count - a.next + 1 + mine ≡ (m + 1) + (n.count - b.next + 1 + mine) = omega (arith, next, order, few) in rw e (omega arith)) in
      omega (arith, from, till, room, whole)

  -- and is over by then
  pub over_by : (a b : Wave) (x : ℕ) → UnitsLeft n mine a x → b.from ≤ opportunity_start n a b.place + n.to → b.till ≤ b.from + longest → a.next ≤ b.place
      → b.place ≤ n.count → (a.next ≤ mine → b.place < mine) → b.till + n.fall ≤ a.till + n.fall + x * unit
  unfolding opportunity_start
  over_by a b _ (this_cycle first) from till order most crossing =
      let m : ℕ = b.place - a.next in
      let room = units m n.to (longest + n.fall) unit big in
      let less = times (m + 1) (mine - a.next) unit (omega (arith, crossing first, order)) in
      omega (arith, from, till, room, less)
  over_by a b _ (next_cycle gone) from till order most crossing =
      let m : ℕ = b.place - a.next in
      let room = units m n.to (longest + n.fall) unit big in
      let less = times (m + 1) (n.count - a.next + 1 + mine) unit (omega (arith, most, order)) in
      omega (arith, from, till, room, less)

  -- Where the opportunity behind a has begun before tick r, the next wave b leaves no more than a whole cycle from r on.
  pub passed_by : (a b : Wave) (r y : ℕ) → UnitsLeft n mine b y → b.from ≤ opportunity_start n a b.place + n.to → b.till ≤ b.from + longest → a.next ≤ mine → mine < b.place
      → CountsOn n b → opportunity_start n a mine < r → b.till + n.fall + y * unit ≤ r + (n.count + 1) * unit
  unfolding opportunity_start
  passed_by a b r _ (this_cycle again) from till order past (inr (flag, few)) began = let next : b.next ≡ b.place + 1 = flag in absurd (omega (arith, next, again, past))
  passed_by a b r _ (next_cycle gone) from till order past (inl (flag, last)) began = let next : b.next ≡ 0 = flag in absurd (omega (arith, next, gone))
  passed_by a b r _ (this_cycle again) from till order past (inl (flag, last)) began =
      let next : b.next ≡ 0 = flag in
      let k : ℕ = b.place - mine in
      let room = units k n.to (longest + n.fall) unit big in
      let split : (b.place - a.next) * n.to ≡ (mine - a.next) * n.to + k * n.to = (let e : b.place - a.next ≡ (mine - a.next) + k = omega (arith, order, past) in rw e (omega arith)) in
      let whole : (n.count + 1) * unit ≡ (k + 1) * unit + (mine - b.next) * unit = (let e : n.count + 1 ≡ (k + 1) + (mine - b.next) = omega (arith, next, last, past) in rw e (omega arith)) in
      omega (arith, from, till, room, split, whole, began)
  passed_by a b r _ (next_cycle gone) from till order past (inr (flag, few)) began =
      let next : b.next ≡ b.place + 1 = flag in
      let k : ℕ = b.place - mine in
      let room = units k n.to (longest + n.fall) unit big in
      let split : (b.place - a.next) * n.to ≡ (mine - a.next) * n.to + k * n.to = (let e : b.place - a.next ≡ (mine - a.next) + k = omega (arith, order, past) in rw e (omega arith)) in
      let whole : (n.count + 1) * unit ≡ (k + 1) * unit + (n.count - b.next + 1 + mine) * unit = (let e : n.count + 1 ≡ (k + 1) + (n.count - b.next + 1 + mine) = omega (arith, next, few, past) in rw e (omega arith)) in
      omega (arith, from, till, room, split, whole, began)

  -- and is over by then
  pub over_after : (a b : Wave) (r : ℕ) → b.from ≤ opportunity_start n a b.place + n.to → b.till ≤ b.from + longest → a.next ≤ mine → mine < b.place
      → b.place ≤ n.count → opportunity_start n a mine < r → b.till + n.fall ≤ r + (n.count + 1) * unit
  unfolding opportunity_start
  over_after a b r from till order past most began =
      let k : ℕ = b.place - mine in
      let room = units k n.to (longest + n.fall) unit big in
      let split : (b.place - a.next) * n.to ≡ (mine - a.next) * n.to + k * n.to = (let e : b.place - a.next ≡ (mine - a.next) + k = omega (arith, order, past) in rw e (omega arith)) in
      let less = times (k + 1) (n.count + 1) unit (omega (arith, most, past)) in
      omega (arith, from, till, room, split, less, began)
