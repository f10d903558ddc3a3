-- The drives of a chain so far are the waves of a cycle at the place of each node.
use Rattle.std.proofs.Common.{◌≡◌, ℕ, ◌+◌, ◌*◌, ◌==◌, ◌<◌, ◌≤◌, inl, inr, Bool, true, false, nat_le, List, [], ◌∷◌, refl, sym, ◌∙◌, subst, arith, rules}
use Rattle.std.proofs.lemmas.Bool.{cases_lt, cases_eq, cases_Bool}
use Rattle.std.proofs.lemmas.Bool.Decides.{nat_tests}
use Rattle.t1s_world.specs.Waves.{CycleSettings, IsCycleSettings, Wave, IsWave, EachWave, OldestWave, IsFirstBeacon, IsAlive, AreWaves, next_heard, opportunity_start}
use Rattle.t1s_world.specs.Schedule.{Drive, next_after, IsFar, AreOwners, IsPlaced, EachDrive, IsWhole, IsChain, IsSilent, wave_at, waves_at}
use Rattle.t1s_world.proofs.ChainWaves.{are_behind, node_of}

module _ {Point : Type 0} (far : ℕ → Point → ℕ) (at : ℕ → Point) (n : CycleSettings) (is : IsCycleSettings n) (nodes span : ℕ) (is_far : IsFar far at nodes span)
    (short : 2 * span + n.rise ≤ n.to) (owner : ℕ → ℕ → Bool) (z first : ℕ) (owners : AreOwners owner n.count z) (coordinator : z < nodes) (j : ℕ) (here : j < nodes)
    (same_owns : (x : ℕ) → n.owns x ≡ owner j x) (begin t : ℕ) (begins : j ≡ z → first ≡ begin + 258 * n.to) where
  abbrev Chained : List Drive → Type 0
  Chained ds = IsChain next_after far at n.rise n.fall n.to nodes z first ds

  abbrev wave : Drive → Wave
  wave a = wave_at next_after far at (at j) (a.node == j) a

  -- an ID is the node's exactly if its drive is the node's own
  owns_is : (a : Drive) (x : ℕ) → owner a.node x ≡ true → n.owns x ≡ (a.node == j)
  owns_is a x theirs = same_owns x ∙ elim (cases_eq a.node j) [
    | inl equal ↦
        let b : (a.node == j) ≡ true = grind (arith, nat_tests, equal) in
        subst (λ (k : ℕ). owner k x ≡ true) equal theirs ∙ sym b
    | inr other ↦
        let b : (a.node == j) ≡ false = grind (arith, nat_tests, other) in
        elim (cases_Bool (owner j x)) [
          | inl mine ↦ absurd (other (owners.one a.node j x theirs mine))
          | inr not_mine ↦ not_mine ∙ sym b
        ]
  ]

  next_is : (a : Drive) (f : Bool) → a.beacon ≡ f → a.start + 20 ≤ a.stop → next_after a ≡ next_heard (wave a)
  next_is a true e long = let b : nat_le (a.start + far a.node (at j) + 4) (a.stop + far a.node (at j)) ≡ true = (let far_off : a.start + far a.node (at j) + 4 ≤ a.stop + far a.node (at j) = omega (arith, long) in search (rules, nat_tests)) in rw (e, b) refl
  next_is a false e long = rw e refl

  next_low : (a : Drive) (f : Bool) → a.beacon ≡ f → IsPlaced owner n.count z a → next_after a ≤ n.count
  next_low a true e placed = rw e (omega arith)
  next_low a false e placed = let low = owners.low a.node a.place (placed.run e) in rw e (omega (arith, low))

  is_wave : (a : Drive) → IsPlaced owner n.count z a → IsWhole t a → IsWave n t (wave a)
  is_wave a placed whole = record {
    over = elim (cases_lt a.stop t) [
      | inl over ↦ let long = whole over in inr (omega (arith, long, is.rise_high))
      | inr open_yet ↦ inl (omega (arith, open_yet))
    ];
    next = λ over. next_is a a.beacon refl (whole (omega (arith, over)));
    low = next_low a a.beacon refl placed;
    beacon = λ e. (placed.beacon e).0;
    run = λ e. (owners.low a.node a.place (placed.run e), owns_is a a.place (placed.run e));
    by_owner = λ e. owns_is a 0 (subst (λ (k : ℕ). owner k 0 ≡ true) (sym (placed.beacon e).1) owners.has_zero);
  }

  are_each : (ds : List Drive) → EachDrive (IsPlaced owner n.count z) ds → EachDrive (IsWhole t) ds → EachWave (IsWave n t) (waves_at next_after far at j ds)
  are_each [] placed whole = tt
  are_each (a ∷ ds) placed whole = (is_wave a placed.0 whole.0, are_each ds placed.1 whole.1)

  oldest_is : j ≡ z → (ds : List Drive) → Chained ds → OldestWave (IsFirstBeacon n begin) (waves_at next_after far at j ds)
  oldest_is mine [] chain = tt
  oldest_is mine (a ∷ []) chain =
      let same : a.node ≡ j = chain.1.node ∙ sym mine in
      let none : far a.node (at j) ≡ 0 = subst (λ (k : ℕ). far a.node (at k) ≡ 0) same (is_far.self a.node) in
      record { own = grind (arith, nat_tests, same); beacon = chain.1.beacon; from = omega (arith, chain.1.start, none, begins mine) }
  oldest_is mine (b ∷ a ∷ ds) chain = oldest_is mine (a ∷ ds) chain.2

  alive_is : (ds : List Drive) → Chained ds → IsSilent next_after far at n.fall n.to n.count z first t ds → IsAlive n t (waves_at next_after far at j ds)
  unfolding opportunity_start
  alive_is [] chain silent = tt
  alive_is (a ∷ ds) chain silent =
      let node = node_of next_after far at n nodes span is_far is.rise_low short z first a ds chain in
      let near = is_far.near a.node z node.node coordinator in
      elim (cases_lt a.stop t) [
        | inl over ↦ let soon = silent over in omega (arith, soon, near, short, is.rise_low)
        | inr open_yet ↦ omega (arith, open_yet, is.rise_low, is.to_high)
      ]

  pub are_waves : (ds : List Drive) → Chained ds → EachDrive (IsPlaced owner n.count z) ds → EachDrive (IsWhole t) ds → IsSilent next_after far at n.fall n.to n.count z first t ds
      → AreWaves n begin t (waves_at next_after far at j ds)
  are_waves ds chain placed whole silent = record {
    behind = are_behind next_after far at n nodes span is_far is.rise_low short z first j here ds chain;
    each = are_each ds placed whole;
    first = λ zero. oldest_is (owners.coordinator j (sym (same_owns 0) ∙ zero)) ds chain;
    alive = alive_is ds chain silent;
  }
