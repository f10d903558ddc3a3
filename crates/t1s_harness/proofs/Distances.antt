-- How far nodes and points of the cable are: a node from itself, symmetry, the triangle, and the span.
use Rattle.std.proofs.Common.{◌≡◌, ◌≢◌, ℕ, zero, suc, ◌+◌, ◌-◌, ◌<◌, ◌≤◌, inl, inr, List, [], ◌∷◌, length, true, false, eqb, refl, ◌∙◌, ap, subst, arith, rules}
use Rattle.std.proofs.lemmas.Bool.{cases_eq}
use Rattle.std.proofs.lemmas.Bool.Decides.{nat_tests}
use Rattle.std.specs.Int.{abs_diff}
use Rattle.t1s_harness.specs.declared.Tap.{Tap}
use Rattle.t1s_harness.specs.Distances.{between, tap_at, distance, farthest, span, Point, on_trunk, on_stub, far, point_at}

same_node : (i k : ℕ) → i ≡ k → eqb i k ≡ true
same_node i k same = search (rules, nat_tests)

other_node : (i k : ℕ) → i ≢ k → eqb i k ≡ false
other_node i k other = search (rules, nat_tests)

pub between_symm : (a b : Tap) → between a b ≡ between b a
between_symm a b = omega arith

-- ---- what is no farther than the span

farthest-within : (a : Tap) (taps : List Tap) (k : ℕ) → k < length taps → between a (tap_at taps k) ≤ farthest a taps
farthest-within a [] k below = absurd (omega arith)
farthest-within a (b ∷ taps) zero below = omega arith
farthest-within a (b ∷ taps) (suc k) below = omega (arith, farthest-within a taps k (omega arith))

pub between-within : (taps : List Tap) (i k : ℕ) → i < length taps → k < length taps → i ≢ k → between (tap_at taps i) (tap_at taps k) ≤ span taps
between-within [] i k hi hk other = absurd (omega arith)
between-within (a ∷ taps) zero zero hi hk other = absurd (other refl)
between-within (a ∷ taps) zero (suc k) hi hk other = omega (arith, farthest-within a taps k (omega arith))
between-within (a ∷ taps) (suc i) zero hi hk other = omega (arith, farthest-within a taps i (omega arith))
between-within (a ∷ taps) (suc i) (suc k) hi hk other = omega (arith, between-within taps i k (omega arith) (omega arith) (λ same. other (ap suc same)))

module _ (taps : List Tap) where
  -- ---- nodes

  pub distance_self : (i : ℕ) → distance taps i i ≡ 0
  distance_self i = rw (same_node i i refl) refl

  pub distance_other : (i k : ℕ) → i ≢ k → distance taps i k ≡ between (tap_at taps i) (tap_at taps k)
  distance_other i k other = rw (other_node i k other) refl

  pub distance_symm : (i k : ℕ) → distance taps i k ≡ distance taps k i
  distance_symm i k = elim (cases_eq i k) [
    | inl same ↦ rw (same_node i k same, same_node k i (omega (arith, same))) refl
    | inr other ↦ rw (other_node i k other, other_node k i (λ back. other (omega (arith, back)))) (between_symm (tap_at taps i) (tap_at taps k))
  ]

  pub distance-within : (i k : ℕ) → i < length taps → k < length taps → distance taps i k ≤ span taps
  distance-within i k hi hk = elim (cases_eq i k) [
    | inl same ↦ let none : distance taps i k ≡ 0 = rw (same_node i k same) refl in omega (arith, none)
    | inr other ↦ omega (arith, distance_other i k other, between-within taps i k hi hk other)
  ]

  -- ---- nodes and points

  -- a node is as far from the point of another as the two nodes are apart
  pub far_point : (i k : ℕ) → far taps i (point_at taps k) ≡ distance taps i k
  far_point i k = elim (cases_eq i k) [
    | inl same ↦ rw (same_node i k same) (omega arith)
    | inr other ↦ rw (other_node i k other) refl
  ]

  pub far_self : (i : ℕ) → far taps i (point_at taps i) ≡ 0
  far_self i = far_point i i ∙ distance_self i

  pub far-within : (i k : ℕ) → i < length taps → k < length taps → far taps i (point_at taps k) ≤ span taps
  far-within i k hi hk = omega (arith, far_point i k, distance-within i k hi hk)

  -- how far a node is within a stub, its own or that of another
  far_in_own : (i m depth : ℕ) (inside : depth ≤ (tap_at taps m).stub) → i ≡ m → far taps i (on_stub m depth inside) ≡ (tap_at taps m).stub - depth
  far_in_own i m depth inside same = rw (same_node i m same) refl

  far_in_other : (i m depth : ℕ) (inside : depth ≤ (tap_at taps m).stub) → i ≢ m
      → far taps i (on_stub m depth inside) ≡ abs_diff (tap_at taps i).place (tap_at taps m).place + (tap_at taps i).stub + depth
  far_in_other i m depth inside other = rw (other_node i m other) refl

  -- by way of another node
  by_other : (i k : ℕ) → i ≢ k → (p : Point taps) → far taps i p ≤ between (tap_at taps i) (tap_at taps k) + far taps k p
  by_other i k apart (on_trunk p) = omega arith
  by_other i k apart (on_stub m depth inside) = elim (cases_eq i m) [
    | inl own ↦
        let place : tap_at taps i ≡ tap_at taps m = ap (tap_at taps) own in
        let stub : (tap_at taps i).stub ≡ (tap_at taps m).stub = ap (λ (t : Tap). t.stub) place in
        omega (arith, far_in_own i m depth inside own, stub)
    | inr other ↦ elim (cases_eq k m) [
      | inl last ↦
          let place : (tap_at taps k).place ≡ (tap_at taps m).place = ap (λ (j : ℕ). (tap_at taps j).place) last in
          let stub : (tap_at taps k).stub ≡ (tap_at taps m).stub = ap (λ (j : ℕ). (tap_at taps j).stub) last in
          omega (arith, far_in_other i m depth inside other, far_in_own k m depth inside last, place, stub, inside)
      | inr past ↦ omega (arith, far_in_other i m depth inside other, far_in_other k m depth inside past)
    ]
  ]

  -- no point is farther than by way of another node
  pub far_by : (i k : ℕ) (p : Point taps) → far taps i p ≤ far taps i (point_at taps k) + far taps k p
  far_by i k p = elim (cases_eq i k) [
    | inl same ↦ subst (λ (n : ℕ). far taps i p ≤ far taps i (point_at taps n) + far taps n p) same (omega arith)
    | inr other ↦ omega (arith, far_point i k, distance_other i k other, by_other i k other p)
  ]
