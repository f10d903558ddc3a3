-- The drives of a chain at a point: neighbours are behind one another everywhere.
use Rattle.std.proofs.Common.{◌≡◌, ℕ, ◌+◌, ◌-◌, ◌*◌, ◌==◌, ◌<◌, ◌≤◌, inl, inr, Bool, true, List, [], ◌∷◌, sym, ap, subst, arith}
use Rattle.std.proofs.lemmas.Bool.{cases_lt, cases_eq}
use Rattle.std.proofs.lemmas.Bool.Decides.{nat_tests}
use Rattle.t1s_world.specs.Waves.{CycleSettings, Wave, opportunity_start, Behind, AreBehind}
use Rattle.t1s_world.specs.Schedule.{Drive, IsFar, Follows, IsOfNode, IsChain, wave_at, waves_at}
use Rattle.t1s_world.proofs.Opportunities.{opportunity_far, opportunity_low, mul_far}

-- what the gap at a place tells: between two waves as many opportunities lapsed as the gap, less fall, holds whole timers
pub gap_tells : (n : CycleSettings) → 1 ≤ n.rise → (a b : Wave) → Behind n a b
    → (a.till + n.fall + (b.place - a.next) * n.to ≤ b.from) × (b.from < a.till + n.fall + (b.place - a.next) * n.to + n.to)
unfolding opportunity_start
gap_tells n rise a b h = (omega (arith, h.low), omega (arith, h.high, rise))

module _ {Point : Type 0} (next : Drive → ℕ) (far : ℕ → Point → ℕ) (at : ℕ → Point) (n : CycleSettings) (nodes span : ℕ)
    (is_far : IsFar far at nodes span) (rise : 1 ≤ n.rise) (short : 2 * span + n.rise ≤ n.to) where
  abbrev wave : Point → Bool → Drive → Wave
  wave p own a = wave_at next far at p own a

  abbrev Chained : ℕ → ℕ → List Drive → Type 0
  Chained z first ds = IsChain next far at n.rise n.fall n.to nodes z first ds

  opportunity_at : (p : Point) (own : Bool) (a b : Drive) → Follows next far at n.fall n.to a b
      → b.start + far a.node p ≡ opportunity_start n (wave p own a) b.place + far a.node (at b.node)
  unfolding opportunity_start
  opportunity_at p own a b h = omega (arith, h.start)

  -- of one drive and the next, at a point that is within the span of the next one's node
  pub behind : (p : Point) (own mine : Bool) (a b : Drive) → Follows next far at n.fall n.to a b → a.start + n.rise ≤ a.stop
      → far a.node (at b.node) ≤ span → far b.node p ≤ span
      → (mine ≡ true → (far b.node p ≡ 0) × (far a.node p ≡ far a.node (at b.node)))
      → Behind n (wave p own a) (wave p mine b)
  behind p own mine a b h long near there here =
      let is = opportunity_at p own a b h in
      let way = is_far.triangle a.node b.node p in
      let low = opportunity_low n (wave p own a) b.place in
      record {
        order = h.order;
        gap = omega (arith, is, way, low);
        long = omega (arith, long);
        own = λ e. omega (arith, is, (here e).0, (here e).1);
        low = omega (arith, is, way);
        high = omega (arith, is, near, there, short);
      }

  here_of : (j : ℕ) (a b : Drive) → (b.node == j) ≡ true → (far b.node (at j) ≡ 0) × (far a.node (at j) ≡ far a.node (at b.node))
  here_of j a b e =
      let same : b.node ≡ j = grind (arith, nat_tests, e) in
      (subst (λ k. far b.node (at k) ≡ 0) same (is_far.self b.node), ap (λ k. far a.node (at k)) (sym same))

  pub node_of : (z first : ℕ) (a : Drive) (ds : List Drive) → Chained z first (a ∷ ds) → IsOfNode nodes a
  node_of z first a [] h = h.0
  node_of z first a (b ∷ ds) h = h.0

  -- what a chain is at the place of a node
  pub are_behind : (z first j : ℕ) → j < nodes → (ds : List Drive) → Chained z first ds → AreBehind n (waves_at next far at j ds)
  are_behind z first j here [] h = tt
  are_behind z first j here (a ∷ []) h = omega (arith, h.0.some)
  are_behind z first j here (b ∷ a ∷ ds) h =
      let older = node_of z first a ds h.2 in (
        omega (arith, h.0.some),
        behind (at j) (a.node == j) (b.node == j) a b h.1.follows h.1.long (is_far.near a.node b.node older.node h.0.node) (is_far.near b.node j h.0.node here) (here_of j a b),
        are_behind z first j here (a ∷ ds) h.2,
      )

  -- while a newer drive b is on its way to p, or rises there, no opportunity begins there behind a but that of b
  pub window : (p : Point) (own : Bool) (a b : Drive) (x t : ℕ) → Follows next far at n.fall n.to a b
      → far a.node (at b.node) ≤ span → far b.node p ≤ span → far a.node p ≤ span → next a ≤ x
      → b.start < t → t < b.start + far b.node p + n.rise → t ≡ opportunity_start n (wave p own a) x → x ≡ b.place
  window p own a b x t h near there past first began before is =
      let at_b = opportunity_at p own a b h in
      elim (cases_eq x b.place) [
        | inl same ↦ same
        | inr other ↦ elim (cases_lt x b.place) [
          | inl lt ↦ let room = opportunity_far n (wave p own a) x b.place first lt in absurd (omega (arith, room, at_b, is, began, past, short))
          | inr ge ↦ let room = opportunity_far n (wave p own a) b.place x h.order (omega (arith, ge, other)) in absurd (omega (arith, room, at_b, is, before, near, there, short))
        ]
      ]

  -- no two opportunities behind one drive begin in one tick, wherever
  pub one_starts : (p q : Point) (own other : Bool) (a : Drive) (x y : ℕ) → far a.node p ≤ span → far a.node q ≤ span
      → next a ≤ x → next a ≤ y → opportunity_start n (wave p own a) x ≡ opportunity_start n (wave q other a) y → x ≤ y
  unfolding opportunity_start
  one_starts p q own other a x y there past low high is =
      elim (cases_lt y x) [
        | inl lt ↦ let room = opportunity_far n (wave p own a) y x high lt in absurd (omega (arith, room, is, there, past, short, rise))
        | inr ge ↦ ge
      ]

  -- two drives behind one: the later is behind the earlier wherever, where that one is too short for carrier
  pub siblings : (p : Point) (a b c : Drive) → Follows next far at n.fall n.to a b → Follows next far at n.fall n.to a c → b.place < c.place → b.stop < b.start + n.rise
      → far a.node (at b.node) ≤ span → far b.node (at c.node) ≤ span
      → b.stop + far b.node p + 1 ≤ c.start + far c.node p
  siblings p a b c hb hc lt few near there =
      let room = mul_far b.place c.place (next a) n.to hb.order lt in
      let way = is_far.triangle b.node c.node p in
      omega (arith, hb.start, hc.start, room, way, near, there, few, short)
