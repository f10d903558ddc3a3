-- No two drives of a chain overlap at a point.
use Rattle.std.proofs.Common.{ℕ, ◌+◌, ◌<◌, ◌≤◌, List, [], ◌∷◌, arith}
use Rattle.t1s_world.specs.Schedule.{Drive, IsFar, NoneOverlaps, NoOverlap, Follows, IsChain}

module _ {Point : Type 0} (next : Drive → ℕ) (far : ℕ → Point → ℕ) (at : ℕ → Point) (rise fall to nodes span : ℕ) (is_far : IsFar far at nodes span) where
  abbrev Chained : ℕ → ℕ → List Drive → Type 0
  Chained z first ds = IsChain next far at rise fall to nodes z first ds

  some_of : (z first : ℕ) (a : Drive) (ds : List Drive) → Chained z first (a ∷ ds) → a.start < a.stop
  some_of z first a [] h = h.0.some
  some_of z first a (b ∷ ds) h = h.0.some

  -- a drive has passed any point before the next one comes there
  before : (p : Point) (a b : Drive) → Follows next far at fall to a b → a.stop + far a.node p ≤ b.start + far b.node p
  before p a b h = let way = is_far.triangle a.node b.node p in omega (arith, h.start, way)

  -- and so have all that came earlier
  AllBefore : Point → ℕ → List Drive → Type 0
  AllBefore p t [] = Unit {0}
  AllBefore p t (a ∷ ds) = (a.stop + far a.node p ≤ t) × AllBefore p t ds

  later : (p : Point) (t u : ℕ) (ds : List Drive) → t ≤ u → AllBefore p t ds → AllBefore p u ds
  unfolding AllBefore
  later p t u [] le h = tt
  later p t u (a ∷ ds) le h = (omega (arith, h.0, le), later p t u ds le h.1)

  all_before : (p : Point) (z first : ℕ) (b : Drive) (ds : List Drive) → Chained z first (b ∷ ds) → AllBefore p (b.start + far b.node p) ds
  unfolding AllBefore
  all_before p z first b [] h = tt
  all_before p z first b (a ∷ ds) h =
      let passed = before p a b h.1.follows in
      let some = some_of z first a ds h.2 in
      (passed, later p (a.start + far a.node p) (b.start + far b.node p) ds (omega (arith, passed, some)) (all_before p z first a ds h.2))

  none_overlaps : (p : Point) (b : Drive) (ds : List Drive) → AllBefore p (b.start + far b.node p) ds → NoneOverlaps far p b ds
  unfolding AllBefore
  none_overlaps p b [] h = tt
  none_overlaps p b (a ∷ ds) h = (λ (t, over_a, over_b). absurd (omega (arith, h.0, over_a.lasts, over_b.reached)), none_overlaps p b ds h.1)

  pub no_overlap : (p : Point) (z first : ℕ) (ds : List Drive) → Chained z first ds → NoOverlap far p ds
  no_overlap p z first [] h = tt
  no_overlap p z first (b ∷ ds) h = (none_overlaps p b ds (all_before p z first b ds h), no_overlap p z first ds (older b ds h))
    where
      older : (b : Drive) (ds : List Drive) → Chained z first (b ∷ ds) → Chained z first ds
      older b [] h = tt
      older b (a ∷ ds) h = h.2
