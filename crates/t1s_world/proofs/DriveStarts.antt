-- A node that starts a drive by the waves that it has seen follows the newest drive of the chain.
use Rattle.std.proofs.Common.{◌≡◌, ℕ, ◌+◌, ◌-◌, ◌*◌, ◌==◌, ◌<◌, ◌≤◌, ◌⊎◌, inl, inr, Bool, true, false, nat_lt, List, [], ◌∷◌, refl, sym, ◌∙◌, ap, subst, arith, rules}
use Rattle.std.proofs.lemmas.Bool.{cases_lt}
use Rattle.std.proofs.lemmas.Bool.Decides.{nat_tests}
use Rattle.t1s_world.specs.Waves.{CycleSettings, IsCycleSettings, Wave, BeginsBehind, arrived, seen, lag, opportunity_start}
use Rattle.t1s_world.specs.Schedule.{Drive, IsFar, Follows, IsChain, AreOwners, IsPlaced, EachDrive, started_drive, wave_at, waves_at}
use Rattle.t1s_world.proofs.ChainWaves.{are_behind, window, node_of}
use Rattle.t1s_world.proofs.SeenWaves.{head_is, lag_low}

module _ {Point : Type 0} (next : Drive → ℕ) (far : ℕ → Point → ℕ) (at : ℕ → Point) (n : CycleSettings) (is : IsCycleSettings n) (nodes span : ℕ) (is_far : IsFar far at nodes span)
    (short : 2 * span + n.rise ≤ n.to) (owner : ℕ → ℕ → Bool) (z first : ℕ) (owners : AreOwners owner n.count z) (j : ℕ) (here : j < nodes) (t : ℕ) where
  abbrev Chained : List Drive → Type 0
  Chained ds = IsChain next far at n.rise n.fall n.to nodes z first ds

  abbrev Waves : List Drive → List Wave
  Waves ds = waves_at next far at j ds

  abbrev wave : Drive → Wave
  wave a = wave_at next far at (at j) (a.node == j) a

  abbrev Placed : List Drive → Type 0
  Placed ds = EachDrive (IsPlaced owner n.count z) ds

  abbrev Begun : List Drive → Type 0
  Begun ds = EachDrive (λ (a : Drive). a.start < t) ds

  -- what begins is a run of the node, or the next beacon
  abbrev pub Starts : ℕ → Type 0
  Starts x = (owner j x ≡ true) ⊎ ((x ≡ n.count) × (j ≡ z))

  -- a wave of the node's own that has begun is seen
  own_begun : (b : Drive) → b.start < t → t ≤ (wave b).from + lag n (wave b) → b.node ≡ j → ⊥
  own_begun b begun unseen mine =
      let flag : (b.node == j) ≡ true = grind (arith, nat_tests, mine) in
      let no_lag : lag n (wave b) ≡ 0 = rw flag refl in
      let none : far b.node (at j) ≡ 0 = subst (λ (k : ℕ). far b.node (at k) ≡ 0) mine (is_far.self b.node) in
      absurd (omega (arith, begun, unseen, no_lag, none))

  -- the opportunity of another drive's place is not the node's
  not_its_own : (b : Drive) (x : ℕ) → IsPlaced owner n.count z b → (b.node ≡ j → ⊥) → x ≡ b.place → Starts x → ⊥
  not_its_own b x placed other same starts = by b.beacon refl starts
    where
      by : (f : Bool) → b.beacon ≡ f → Starts x → ⊥
      by true e (inl mine) = let low = owners.low j x mine in absurd (omega (arith, low, same, (placed.beacon e).0))
      by true e (inr last) = other ((placed.beacon e).1 ∙ sym last.1)
      by false e (inl mine) = other (owners.one b.node j x (subst (λ (y : ℕ). owner b.node y ≡ true) (sym same) (placed.run e)) mine)
      by false e (inr last) = let low = owners.low b.node b.place (placed.run e) in absurd (omega (arith, low, same, last.0))

  -- so no drive is behind the one that the node has seen
  none_between : (b : Drive) (ds : List Drive) → Chained (b ∷ ds) → Placed (b ∷ ds) → Begun (b ∷ ds) → t ≤ (wave b).from + lag n (wave b) → (a : Wave) (rest : List Wave) (x : ℕ)
      → seen n t (Waves ds) ≡ a ∷ rest → ((v : Wave) → arrived t (Waves (b ∷ ds)) ≡ v ∷ a ∷ rest → t < v.from + n.rise) → a.next ≤ x → t ≡ opportunity_start n a x → Starts x → ⊥
  none_between b [] chain placed begun unseen a rest x e none order now starts = absurd (cc)
  none_between b (c ∷ ds) chain placed begun unseen a rest x e none order now starts = elim (cases_lt ((wave c).from + lag n (wave c)) t) [
    | inl seen_c ↦
        let s : nat_lt ((wave c).from + lag n (wave c)) t ≡ true = search (rules, nat_tests) in
        let same : wave c ∷ Waves ds ≡ a ∷ rest = rw s at e in
        let head = (head_is (wave c) a (Waves ds) rest same).0 in
        let older = node_of next far at n nodes span is_far is.rise_low short z first c ds chain.2 in
        let before : t < b.start + far b.node (at j) + n.rise = (elim (cases_lt (wave b).from t) [
          | inl come ↦ let d : nat_lt (wave b).from t ≡ true = search (rules, nat_tests) in none (wave b) (rw d (ap (λ (ys : List Wave). wave b ∷ ys) same))
          | inr later ↦ omega (arith, later, is.rise_low)
        ]) in
        let place = window next far at n nodes span is_far is.rise_low short (at j) (c.node == j) c b x t chain.1.follows (is_far.near c.node b.node older.node chain.0.node)
        (is_far.near b.node j chain.0.node here) (is_far.near c.node j older.node here) (omega (arith, order, ap (λ (y : Wave). y.next) (sym head))) begun.0 before
        (now ∙ ap (λ (y : Wave). opportunity_start n y x) (sym head)) in
        not_its_own b x placed.0 (own_begun b begun.0 unseen) place starts
    | inr unseen_c ↦
        let s : nat_lt ((wave c).from + lag n (wave c)) t ≡ false = search (rules, nat_tests) in
        let pair = are_behind next far at n nodes span is_far is.rise_low short z first j here (b ∷ c ∷ ds) chain in
        let few = lag_low n is (wave c) in
        let d : nat_lt (wave b).from t ≡ false = (let far_off : t ≤ (wave b).from = omega (arith, unseen_c, few, pair.1.gap, pair.1.long) in search (rules, nat_tests)) in
        none_between c ds chain.2 placed.1 begun.1 unseen_c a rest x (rw s at e) (λ v f. none v (rw d f)) order now starts
  ]

  -- the newest drive, as it passes the node, is the wave behind which the node starts
  pub record SeesNewest (ds : List Drive) (a : Wave) : Type 0 where
    pub newest : Drive
    pub older : List Drive
    pub drives : ds ≡ newest ∷ older
    pub is_wave : wave newest ≡ a

  pub sees_newest : (ds : List Drive) → Chained ds → Placed ds → Begun ds → (a : Wave) (rest : List Wave) (x : ℕ) → BeginsBehind n t (Waves ds) a rest x → Starts x → SeesNewest ds a
  sees_newest [] chain placed begun a rest x begins starts = let none : [] ≡ a ∷ rest = begins.newest in absurd (cc)
  sees_newest (b ∷ ds) chain placed begun a rest x begins starts = elim (cases_lt ((wave b).from + lag n (wave b)) t) [
    | inl past ↦
        let s : nat_lt ((wave b).from + lag n (wave b)) t ≡ true = search (rules, nat_tests) in
        let same : wave b ∷ Waves ds ≡ a ∷ rest = rw s at begins.newest in
        record { newest = b; older = ds; drives = refl; is_wave = (head_is (wave b) a (Waves ds) rest same).0 }
    | inr unseen ↦
        let s : nat_lt ((wave b).from + lag n (wave b)) t ≡ false = search (rules, nat_tests) in
        absurd (none_between b ds chain placed begun unseen a rest x (rw s at begins.newest) begins.none_risen begins.order begins.now starts)
  ]

  -- and what it starts follows that drive
  pub starts_follow : (ds : List Drive) (a : Wave) (rest : List Wave) (x : ℕ) (beacon : Bool) → BeginsBehind n t (Waves ds) a rest x → (newest : SeesNewest ds a)
      → Follows next far at n.fall n.to newest.newest (started_drive j beacon x t)
  unfolding opportunity_start
  starts_follow ds a rest x beacon begins newest = record {
    order = omega (arith, begins.order, ap (λ (y : Wave). y.next) newest.is_wave);
    start = begins.now ∙ sym (ap (λ (y : Wave). y.till + n.fall + (x - y.next) * n.to) newest.is_wave);
  }
