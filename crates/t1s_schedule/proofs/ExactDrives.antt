-- The drives of a chain are exactly the maximal intervals in which nodes drive, where each node drives in just those ticks that
-- a drive of the chain has.
use Rattle.std.proofs.Common.{◌≡◌, ◌↔◌, ℕ, zero, suc, ◌+◌, ◌==◌, ◌<◌, ◌≤◌, ◌⊎◌, inl, inr, Bool, true, false, ◌&&◌, ◌||◌, nat_lt, nat_le, List, [], ◌∷◌, Option, is_some, refl, sym, ◌∙◌, ap, subst, arith, Contains}
use Rattle.std.proofs.lemmas.Bool.{cases_lt, and_from, and_parts, or_cases, or_left, or_right, false_from_ne_true}
use Rattle.std.proofs.lemmas.Bool.Decides.{nat_tests}
use Rattle.t1s_symbols.specs.declared.Quarter.{Quarter}
use Rattle.t1s_world.specs.Drives.{IsDrive}
use Rattle.t1s_world.specs.Schedule.{Drive, EachDrive, Follows, IsChain}

-- a drive of node i has tick v
abbrev pub is_drive_of : Drive → ℕ → ℕ → Bool
is_drive_of a i v = (a.node == i) && (nat_le a.start v && nat_lt v a.stop)

-- one of these drives is of node i and has tick v
abbrev pub drives_in : List Drive → ℕ → ℕ → Bool
drives_in [] i v = false
drives_in (a ∷ ds) i v = is_drive_of a i v || drives_in ds i v

-- d is a drive of node i, and has tick v
pub record Driving (d : Drive) (i v : ℕ) : Type 0 where
  pub node : d.node ≡ i
  pub from : d.start ≤ v
  pub till : v < d.stop

pub driving_from : (d : Drive) (i v : ℕ) → is_drive_of d i v ≡ true → Driving d i v
driving_from d i v e =
    let parts = and_parts (d.node == i) (nat_le d.start v && nat_lt v d.stop) e in
    let ticks = and_parts (nat_le d.start v) (nat_lt v d.stop) parts.1 in
    record { node = grind (arith, nat_tests, parts.0); from = grind (arith, nat_tests, ticks.0); till = grind (arith, nat_tests, ticks.1) }

pub driving_is : (d : Drive) (i v : ℕ) → Driving d i v → is_drive_of d i v ≡ true
driving_is d i v h =
    let node : (d.node == i) ≡ true = grind (arith, nat_tests, h.node) in
    let from : nat_le d.start v ≡ true = grind (arith, nat_tests, h.from) in
    let till : nat_lt v d.stop ≡ true = grind (arith, nat_tests, h.till) in
    and_from (d.node == i) (nat_le d.start v && nat_lt v d.stop) node (and_from (nat_le d.start v) (nat_lt v d.stop) from till)

-- ---- the drives of a list, one by one

-- d is one of these drives
pub Has : List Drive → Drive → Type 0
Has [] d = ⊥
Has (a ∷ ds) d = (a ≡ d) ⊎ Has ds d

pub has_from : (ds : List Drive) (d : Drive) → Contains ds d → Has ds d
unfolding Has
has_from [] d (k, below, at) = absurd (omega (arith, below))
has_from (a ∷ ds) d (zero, below, at) = inl at
has_from (a ∷ ds) d (suc k, below, at) = inr (has_from ds d (k, omega (arith, below), at))

pub contains_from : (ds : List Drive) (d : Drive) → Has ds d → Contains ds d
unfolding Has
contains_from [] d h = absurd h
contains_from (a ∷ ds) d (inl same) = (0, omega arith, same)
contains_from (a ∷ ds) d (inr h) = let older = contains_from ds d h in (suc older.0, omega (arith, older.1), older.2)

pub each_at : (P : Drive → Type 0) (ds : List Drive) → EachDrive P ds → (d : Drive) → Has ds d → P d
unfolding Has
each_at P [] each d h = absurd h
each_at P (a ∷ ds) each d (inl same) = subst P same each.0
each_at P (a ∷ ds) each d (inr h) = each_at P ds each.1 d h

pub each_from : (P : Drive → Type 0) (ds : List Drive) → ((d : Drive) → Has ds d → P d) → EachDrive P ds
unfolding Has
each_from P [] f = tt
each_from P (a ∷ ds) f = (f a (inl refl), each_from P ds (λ d has. f d (inr has)))

-- one of them is the drive in which the node drives
pub driver_from : (ds : List Drive) (i v : ℕ) → drives_in ds i v ≡ true → (d : Drive) × Has ds d × Driving d i v
unfolding Has
driver_from [] i v e = cc
driver_from (a ∷ ds) i v e = elim (or_cases (is_drive_of a i v) (drives_in ds i v) e) [
  | inl here ↦ (a, inl refl, driving_from a i v here)
  | inr older ↦ let h = driver_from ds i v older in (h.0, inr h.1, h.2)
]

pub drives_by : (ds : List Drive) (i v : ℕ) (d : Drive) → Has ds d → Driving d i v → drives_in ds i v ≡ true
unfolding Has
drives_by [] i v d has h = absurd has
drives_by (a ∷ ds) i v d (inl same) h =
    or_left (is_drive_of a i v) (drives_in ds i v) (driving_is a i v (subst (λ (x : Drive). Driving x i v) (sym same) h))
drives_by (a ∷ ds) i v d (inr has) h = or_right (is_drive_of a i v) (drives_in ds i v) (drives_by ds i v d has h)

-- ---- the drives of a chain

module _ {Point : Type 0} (next : Drive → ℕ) (far : ℕ → Point → ℕ) (at : ℕ → Point) (rise fall to nodes z first : ℕ) (fades : 1 ≤ fall) where
  abbrev Chained : List Drive → Type 0
  Chained ds = IsChain next far at rise fall to nodes z first ds

  some_of : (a : Drive) (ds : List Drive) → Chained (a ∷ ds) → a.start < a.stop
  some_of a [] chain = chain.0.some
  some_of a (b ∷ ds) chain = chain.0.some

  older_of : (a : Drive) (ds : List Drive) → Chained (a ∷ ds) → Chained ds
  older_of a [] chain = tt
  older_of a (b ∷ ds) chain = chain.2

  -- each drive has ended a tick before the next one begins, and so before all later ones
  pub ended_before : (b : Drive) (ds : List Drive) → Chained (b ∷ ds) → (d : Drive) → Has ds d → d.stop + 1 ≤ b.start
  unfolding Has
  ended_before b [] chain d has = absurd has
  ended_before b (a ∷ ds) chain d (inl same) =
      let follows : Follows next far at fall to a b = chain.1.follows in
      let apart : a.stop + 1 ≤ b.start = omega (arith, follows.start, fades) in
      subst (λ (x : Drive). x.stop + 1 ≤ b.start) same apart
  ended_before b (a ∷ ds) chain d (inr has) =
      let follows : Follows next far at fall to a b = chain.1.follows in
      let some = some_of a ds chain.2 in
      omega (arith, ended_before a ds chain.2 d has, some, follows.start)

  -- so where two drives have, or have just had, one tick, they are one
  pub one_drive : (ds : List Drive) → Chained ds → (d e : Drive) → Has ds d → Has ds e
      → (v : ℕ) → d.start ≤ v → v ≤ d.stop → e.start ≤ v → v ≤ e.stop → d ≡ e
  unfolding Has
  one_drive [] chain d e has_d has_e v d_from d_till e_from e_till = absurd has_d
  one_drive (a ∷ ds) chain d e (inl is_d) (inl is_e) v d_from d_till e_from e_till = sym is_d ∙ is_e
  one_drive (a ∷ ds) chain d e (inl is_d) (inr has_e) v d_from d_till e_from e_till =
      let ended = ended_before a ds chain e has_e in
      absurd (omega (arith, ended, ap (λ (x : Drive). x.start) is_d, d_from, e_till))
  one_drive (a ∷ ds) chain d e (inr has_d) (inl is_e) v d_from d_till e_from e_till =
      let ended = ended_before a ds chain d has_d in
      absurd (omega (arith, ended, ap (λ (x : Drive). x.start) is_e, e_from, d_till))
  one_drive (a ∷ ds) chain d e (inr has_d) (inr has_e) v d_from d_till e_from e_till =
      one_drive ds (older_of a ds chain) d e has_d has_e v d_from d_till e_from e_till

  some_at : (ds : List Drive) → Chained ds → (d : Drive) → Has ds d → d.start < d.stop
  unfolding Has
  some_at [] chain d has = absurd has
  some_at (a ∷ ds) chain d (inl same) = subst (λ (x : Drive). x.start < x.stop) same (some_of a ds chain)
  some_at (a ∷ ds) chain d (inr has) = some_at ds (older_of a ds chain) d has

  module _ (driven : ℕ → ℕ → Option Quarter) (T : ℕ) (ds : List Drive) (chain : Chained ds) (ends : EachDrive (λ (a : Drive). a.stop ≤ T) ds)
      (covers : (i v : ℕ) → v < T → is_some (driven i v) ≡ drives_in ds i v) where
    -- a node drives in the ticks of its drives alone
    drives_at : (d : Drive) → Has ds d → (i v : ℕ) → Driving d i v → is_some (driven i v) ≡ true
    drives_at d has i v h =
        let end = each_at (λ (a : Drive). a.stop ≤ T) ds ends d has in
        covers i v (omega (arith, end, h.till)) ∙ drives_by ds i v d has h

    driver_at : (i v : ℕ) → v < T → is_some (driven i v) ≡ true → (d : Drive) × Has ds d × Driving d i v
    driver_at i v below e = driver_from ds i v (sym (covers i v below) ∙ e)

    rests_at : (i v : ℕ) → v < T → ((d : Drive) → Has ds d → Driving d i v → ⊥) → is_some (driven i v) ≡ false
    rests_at i v below none = false_from_ne_true (is_some (driven i v)) (λ e. let h = driver_at i v below e in none h.0 h.1 h.2)

    -- each drive of the chain is a maximal interval
    pub is_drive : (d : Drive) → Has ds d → IsDrive (driven d.node) T d.start d.stop
    is_drive d has =
        let some = some_at ds chain d has in
        let end = each_at (λ (a : Drive). a.stop ≤ T) ds ends d has in
        record {
          some = some;
          within = end;
          all = λ t from till. drives_at d has d.node t (record { node = refl; from = from; till = till });
          before = λ t is. rests_at d.node t (omega (arith, is, some, end)) (λ e other h.
              let begun : e.start ≤ suc t = omega (arith, h.from) in
              let same = one_drive ds chain d e has other (suc t) (omega (arith, is)) (omega (arith, is, some)) begun (omega (arith, h.till)) in
              absurd (omega (arith, is, ap (λ (x : Drive). x.start) same, h.from)));
          after = λ below. rests_at d.node d.stop below (λ e other h.
              let same = one_drive ds chain d e has other d.stop (omega (arith, some)) (omega arith) h.from (omega (arith, h.till)) in
              absurd (omega (arith, ap (λ (x : Drive). x.stop) same, h.till)));
        }

    -- and each maximal interval is a drive of the chain
    starts_there : (i a e : ℕ) → IsDrive (driven i) T a e → (d : Drive) → Has ds d → Driving d i a → d.start ≡ a
    starts_there i a e is d has h = elim (cases_lt d.start a) [
      | inr ge ↦ omega (arith, ge, h.from)
      | inl lt ↦ by a refl lt
    ]
      where
        by : (k : ℕ) → k ≡ a → d.start < a → d.start ≡ a
        by zero is_a lt = absurd (omega (arith, is_a, lt))
        by (suc t) is_a lt =
            let rests : is_some (driven i t) ≡ false = is.before t is_a in
            let early : Driving d i t = record { node = h.node; from = omega (arith, is_a, lt); till = omega (arith, is_a, h.till) } in
            let drives = drives_at d has i t early in
            absurd (cc)

    ends_there : (i a e : ℕ) → IsDrive (driven i) T a e → (d : Drive) → Has ds d → Driving d i a → d.stop ≡ e
    ends_there i a e is d has h =
        let end = each_at (λ (x : Drive). x.stop ≤ T) ds ends d has in
        elim (cases_lt d.stop e) [
          | inl lt ↦
              let within = is.within in
              let goes_on : is_some (driven i d.stop) ≡ true = is.all d.stop (omega (arith, h.till)) lt in
              let other = driver_at i d.stop (omega (arith, lt, within)) goes_on in
              let there = other.2 in
              let begun : d.start ≤ d.stop = omega (arith, h.from, h.till) in
              let same = one_drive ds chain d other.0 has other.1 d.stop begun (omega arith) there.from (omega (arith, there.till)) in
              absurd (omega (arith, ap (λ (x : Drive). x.stop) same, there.till))
          | inr ge ↦ elim (cases_lt e d.stop) [
            | inr le ↦ omega (arith, ge, le)
            | inl lt ↦
                let some = is.some in
                let rests : is_some (driven i e) ≡ false = is.after (omega (arith, lt, end)) in
                let late : Driving d i e = record { node = h.node; from = omega (arith, h.from, some); till = lt } in
                let drives = drives_at d has i e late in
                absurd (cc)
          ]
        ]

    pub exact_drives : (i a e : ℕ) → IsDrive (driven i) T a e ↔ ((d : Drive) × Contains ds d × (d.node ≡ i) × (d.start ≡ a) × (d.stop ≡ e))
    exact_drives i a e = (found, λ (d, has, node, start, stop). is_interval d (has_from ds d has) node start stop)
      where
        found : IsDrive (driven i) T a e → (d : Drive) × Contains ds d × (d.node ≡ i) × (d.start ≡ a) × (d.stop ≡ e)
        found is =
            let some = is.some in
            let within = is.within in
            let begins : is_some (driven i a) ≡ true = is.all a (omega arith) some in
            let driver = driver_at i a (omega (arith, some, within)) begins in
            let h = driver.2 in
            (driver.0, contains_from ds driver.0 driver.1, h.node, starts_there i a e is driver.0 driver.1 h, ends_there i a e is driver.0 driver.1 h)

        is_interval : (d : Drive) → Has ds d → d.node ≡ i → d.start ≡ a → d.stop ≡ e → IsDrive (driven i) T a e
        is_interval d has node start stop =
            let is = is_drive d has in
            let of_node : IsDrive (driven i) T d.start d.stop = subst (λ (k : ℕ). IsDrive (driven k) T d.start d.stop) node is in
            let from : IsDrive (driven i) T a d.stop = subst (λ (k : ℕ). IsDrive (driven i) T k d.stop) start of_node in
            subst (λ (k : ℕ). IsDrive (driven i) T a k) stop from
