-- What a node hears where at most one other node reaches it.
use Rattle.std.proofs.Common.{◌≡◌, ℕ, zero, suc, ◌+◌, ◌-◌, ◌<◌, ◌≤◌, ◌⊎◌, inl, inr, true, false, eqb, List, [], ◌∷◌, length, Option, None, Some, refl, sym, ◌∙◌, ap, arith, rules, add-zero, zero-add}
use Rattle.std.proofs.lemmas.Bool.{cases_lt, cases_eq}
use Rattle.std.proofs.lemmas.Bool.Decides.{nat_tests}
use Rattle.std.specs.Prelude.{◌≢◌}
use Rattle.t1s_harness.specs.declared.Tap.{Tap}
use Rattle.t1s_harness.specs.Distances.{between, tap_at, distance}
use Rattle.t1s_harness.proofs.Distances.{distance_other}
use Rattle.t1s_symbols.specs.declared.Heard.TheVariants.{Nothing, One}
use Rattle.t1s_symbols.specs.declared.Quarter.{Quarter}
use Rattle.t1s_world.specs.Hearing.{heard_of, arriving, arriving_from, heard}
use Rattle.t1s_world.specs.World.{Machine, past, at_depth, driven_at, heard_at}
use Rattle.t1s_world.proofs.WorldLemmas.{at_depth-within, at_depth-before}

module _ (at : ℕ → ℕ → Option Quarter) (j : ℕ) (a : Tap) where
  -- none of these nodes is heard
  none_arrive : (s : ℕ) (taps : List Tap) → ((k : ℕ) → k < length taps → arriving at j a (s + k) (tap_at taps k) ≡ None) → arriving_from at j a s taps ≡ []
  none_arrive s [] none = refl
  none_arrive s (b ∷ taps) none =
      let first : arriving at j a s b ≡ None = (let e = none 0 (omega arith) in rw add-zero at e) in
      let rest = none_arrive (s + 1) taps (λ k lt. let e = none (suc k) (omega (arith, lt)) in let n : s + suc k ≡ s + 1 + k = omega arith in rw n at e) in
      rw (first, rest) refl

  -- one of them is
  one_arrives : (s : ℕ) (taps : List Tap) (i : ℕ) (q : Quarter) → i < length taps → arriving at j a (s + i) (tap_at taps i) ≡ Some q
      → ((k : ℕ) → k < length taps → k ≢ i → arriving at j a (s + k) (tap_at taps k) ≡ None) → arriving_from at j a s taps ≡ q ∷ []
  one_arrives s [] i q lt is none = absurd (omega (arith, lt))
  one_arrives s (b ∷ taps) zero q lt is none =
      let first : arriving at j a s b ≡ Some q = rw add-zero at is in
      let rest = none_arrive (s + 1) taps (λ k more. let e = none (suc k) (omega (arith, more)) (λ z. absurd (omega (arith, z))) in let n : s + suc k ≡ s + 1 + k = omega arith in rw n at e) in
      rw (first, rest) refl
  one_arrives s (b ∷ taps) (suc i) q lt is none =
      let first : arriving at j a s b ≡ None = (let e = none 0 (omega arith) (λ z. absurd (omega (arith, z))) in rw add-zero at e) in
      let n : s + suc i ≡ s + 1 + i = omega arith in
      let rest = one_arrives (s + 1) taps i q (omega (arith, lt)) (rw n at is)
      (λ k more other. let e = none (suc k) (omega (arith, more)) (λ z. other (omega (arith, z))) in let m : s + suc k ≡ s + 1 + k = omega arith in rw m at e) in
      rw (first, rest) refl

pub heard_only : (at : ℕ → ℕ → Option Quarter) (taps : List Tap) (j i : ℕ) (q : Quarter) → i < length taps
    → arriving at j (tap_at taps j) i (tap_at taps i) ≡ Some q
    → ((k : ℕ) → k < length taps → k ≢ i → arriving at j (tap_at taps j) k (tap_at taps k) ≡ None)
    → heard at taps j ≡ One q
unfolding heard
heard_only at taps j i q lt is none = ap heard_of (one_arrives at j (tap_at taps j) 0 taps i q lt (rw zero-add is) (λ k more other. rw zero-add (none k more other)))

pub heard_none : (at : ℕ → ℕ → Option Quarter) (taps : List Tap) (j : ℕ)
    → ((k : ℕ) → k < length taps → arriving at j (tap_at taps j) k (tap_at taps k) ≡ None)
    → heard at taps j ≡ Nothing
unfolding heard
heard_none at taps j none = ap heard_of (none_arrive at j (tap_at taps j) 0 taps (λ k more. rw zero-add (none k more)))

apart : {i j : ℕ} → i ≢ j → j ≢ i
apart other back = other (sym back)

-- of any machine
module _ {Node DriveOutcome HearOutcome : Type 0} (m : Machine Node DriveOutcome HearOutcome) (taps : List Tap) (first : List Node) where
  -- the quarter of node i that reaches node j in tick t
  pub reaches : (t j i : ℕ) → i ≢ j → distance taps j i ≤ t → arriving (at_depth (past m taps first (suc t)).rows) j (tap_at taps j) i (tap_at taps i) ≡ driven_at m taps first (t - distance taps j i) i
  reaches t j i other near =
      let b : eqb i j ≡ false = search (rules, nat_tests) in
      let c : eqb j i ≡ false = (let back = apart other in search (rules, nat_tests)) in
      let way = distance_other taps j i (apart other) in
      rw (b, c) (at_depth-within m taps first (suc t) (between (tap_at taps j) (tap_at taps i)) (t - between (tap_at taps j) (tap_at taps i)) i (omega (arith, near, way)))

  pub reaches_not_yet : (t j i : ℕ) → t < distance taps j i → arriving (at_depth (past m taps first (suc t)).rows) j (tap_at taps j) i (tap_at taps i) ≡ None
  reaches_not_yet t j i soon = elim (cases_eq i j) [
    | inl same ↦ let b : eqb i j ≡ true = search (rules, nat_tests) in rw b refl
    | inr other ↦
        let b : eqb i j ≡ false = search (rules, nat_tests) in
        let way = distance_other taps j i (apart other) in
        rw b (at_depth-before m taps first (suc t) (between (tap_at taps j) (tap_at taps i)) i (omega (arith, soon, way)))
  ]

  -- a node hears the one other node whose quarter reaches it
  pub hears_one : (t j i : ℕ) (q : Quarter) → i < length taps → i ≢ j → distance taps j i ≤ t → driven_at m taps first (t - distance taps j i) i ≡ Some q
      → ((k : ℕ) → k < length taps → k ≢ i → k ≢ j → distance taps j k ≤ t → driven_at m taps first (t - distance taps j k) k ≡ None)
      → heard_at m taps first t j ≡ One q
  hears_one t j i q lt other near is none =
      heard_only (at_depth (past m taps first (suc t)).rows) taps j i q lt (reaches t j i other near ∙ is) (λ k within apart. none_of k within apart (cases_eq k j) (cases_lt t (distance taps j k)))
    where
      none_of : (k : ℕ) → k < length taps → k ≢ i → (k ≡ j) ⊎ k ≢ j → (t < distance taps j k) ⊎ (distance taps j k ≤ t) → arriving (at_depth (past m taps first (suc t)).rows) j (tap_at taps j) k (tap_at taps k) ≡ None
      none_of k within apart (inl same) n = let b : eqb k j ≡ true = search (rules, nat_tests) in rw b refl
      none_of k within apart (inr theirs) (inl soon) = reaches_not_yet t j k soon
      none_of k within apart (inr theirs) (inr near_k) = reaches t j k theirs near_k ∙ none k within apart theirs near_k

  -- and nothing where none reaches it
  pub hears_none : (t j : ℕ) → ((k : ℕ) → k < length taps → k ≢ j → distance taps j k ≤ t → driven_at m taps first (t - distance taps j k) k ≡ None) → heard_at m taps first t j ≡ Nothing
  hears_none t j none = heard_none (at_depth (past m taps first (suc t)).rows) taps j (λ k within. none_of k within (cases_eq k j) (cases_lt t (distance taps j k)))
    where
      none_of : (k : ℕ) → k < length taps → (k ≡ j) ⊎ k ≢ j → (t < distance taps j k) ⊎ (distance taps j k ≤ t) → arriving (at_depth (past m taps first (suc t)).rows) j (tap_at taps j) k (tap_at taps k) ≡ None
      none_of k within (inl same) x = let b : eqb k j ≡ true = search (rules, nat_tests) in rw b refl
      none_of k within (inr other) (inl soon) = reaches_not_yet t j k soon
      none_of k within (inr other) (inr near) = reaches t j k other near ∙ none k within other near
