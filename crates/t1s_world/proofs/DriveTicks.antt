-- Each tick in which a node drives is in exactly one drive of it.
use Rattle.std.proofs.Common.{◌≡◌, ℕ, zero, suc, ◌+◌, ◌-◌, ◌<◌, ◌≤◌, inl, inr, true, false, Option, is_some, ap, ◌∙◌, arith}
use Rattle.std.proofs.lemmas.Bool.{cases_lt, cases_eq, cases_Bool}
use Rattle.t1s_symbols.specs.declared.Quarter.{Quarter}
use Rattle.t1s_world.specs.Drives.{IsDrive}

module _ (driven : ℕ → Option Quarter) (T : ℕ) where
  abbrev drives_in : ℕ → Type 0
  drives_in t = is_some (driven t) ≡ true

  abbrev rests_in : ℕ → Type 0
  rests_in t = is_some (driven t) ≡ false

  -- the tick from which on the node drives up to tick v
  begun : (v : ℕ) → drives_in v
      → (a : ℕ) × (a ≤ v) × ((t : ℕ) → a ≤ t → t ≤ v → drives_in t) × ((t : ℕ) → suc t ≡ a → rests_in t)
  begun zero drives =
      (0, omega arith, λ t from till. let same : t ≡ 0 = omega (arith, till) in ap (λ u. is_some (driven u)) same ∙ drives, λ t is. absurd (omega (arith, is)))
  begun (suc v) drives = elim (cases_Bool (is_some (driven v))) [
    | inl before ↦
        let (a, low, all, none) = begun v before in (
          a,
          omega (arith, low),
          λ t from till. elim (cases_eq t (suc v)) [
            | inl now ↦ ap (λ u. is_some (driven u)) now ∙ drives
            | inr other ↦ all t from (omega (arith, till, other))
          ],
          none,
        )
    | inr rested ↦ (
      suc v,
      omega arith,
      λ t from till. let same : t ≡ suc v = omega (arith, from, till) in ap (λ u. is_some (driven u)) same ∙ drives,
      λ t is. let same : t ≡ v = omega (arith, is) in ap (λ u. is_some (driven u)) same ∙ rested,
    )
  ]

  -- the tick up to which it drives from tick v on
  ended : (n v : ℕ) → v + n ≡ T
      → (e : ℕ) × (v ≤ e) × (e ≤ T) × ((t : ℕ) → v ≤ t → t < e → drives_in t) × (e < T → rests_in e)
  ended zero v is = (v, omega arith, omega (arith, is), λ t from till. absurd (omega (arith, from, till)), λ below. absurd (omega (arith, below, is)))
  ended (suc n) v is = elim (cases_Bool (is_some (driven v))) [
    | inl drives ↦
        let (e, low, high, all, none) = ended n (suc v) (omega (arith, is)) in (
          e,
          omega (arith, low),
          high,
          λ t from till. elim (cases_eq t v) [
            | inl now ↦ ap (λ u. is_some (driven u)) now ∙ drives
            | inr other ↦ all t (omega (arith, from, other)) till
          ],
          none,
        )
    | inr rests ↦ (v, omega arith, omega (arith, is), λ t from till. absurd (omega (arith, from, till)), λ below. rests)
  ]

  pub drive_at : (v : ℕ) → v < T → drives_in v → (a e : ℕ) × IsDrive driven T a e × (a ≤ v) × (v < e)
  drive_at v below drives =
      let (a, from, early, none) = begun v drives in
      let (e, till, within, late, over) = ended (T - suc v) (suc v) (omega (arith, below)) in (
        a,
        e,
        record {
          some = omega (arith, from, till);
          within = within;
          all = λ t low high. elim (cases_lt v t) [ inl past ↦ late t (omega (arith, past)) high | inr so_far ↦ early t low so_far ];
          before = none;
          after = over;
        },
        from,
        omega (arith, till),
      )

  -- of two drives that have one tick, neither begins before the other
  no_later : (a e b f v : ℕ) → IsDrive driven T a e → IsDrive driven T b f → a ≤ v → v < e → b ≤ v → b ≤ a
  no_later a e zero f v is other from till low = omega arith
  no_later a e (suc t) f v is other from till low = elim (cases_lt a (suc t)) [
    | inr ge ↦ ge
    | inl lt ↦
        let drives : drives_in t = is.all t (omega (arith, lt)) (omega (arith, low, till)) in
        let rests : rests_in t = other.before t (omega arith) in
        absurd (cc)
  ]

  pub one_start : (a e b f v : ℕ) → IsDrive driven T a e → IsDrive driven T b f → a ≤ v → v < e → b ≤ v → v < f → a ≡ b
  one_start a e b f v is other from till low high =
      omega (arith, no_later a e b f v is other from till low, no_later b f a e v other is low high from)
