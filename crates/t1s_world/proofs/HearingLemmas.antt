-- What a node hears: one more node, two pasts that agree, who arrives alone, and its range.
use Rattle.std.proofs.Common.{◌≡◌, ℕ, suc, ◌+◌, ◌<◌, ◌≤◌, List, [], ◌∷◌, ◌++◌, length, take, Option, None, Some, Bool, true, false, cond, eqb, refl, sym, ◌∙◌, ap, arith, rules, add-zero, zero-add, append_assoc, inl, inr}
use Rattle.std.proofs.lemmas.List.{append-nil, take_more, length-take-le}
use Rattle.std.proofs.lemmas.Bool.{cases_eq}
use Rattle.std.proofs.lemmas.Bool.Decides.{nat_tests}
use Rattle.std.specs.Option.{option_to_list}
use Rattle.std.specs.Prelude.{◌≢◌, IfSome}
use Rattle.t1s_harness.specs.declared.Tap.{Tap}
use Rattle.t1s_harness.specs.Distances.{no_tap, between, tap_at}
use Rattle.t1s_symbols.specs.declared.Heard.TheVariants.{Nothing}
use Rattle.t1s_symbols.specs.declared.Quarter.{Quarter}
use Rattle.t1s_symbols.specs.Ranges.{IsQuarter, IsHeard}
use Rattle.t1s_world.specs.Hearing.{heard_of, heard_with, arriving, arriving_from, heard}

-- one more quarter, or none
pub heard_of-append : (qs : List Quarter) (q : Option Quarter) → heard_of (qs ++ option_to_list q) ≡ heard_with (heard_of qs) q
heard_of-append qs None = ap heard_of (append-nil qs)
heard_of-append [] (Some q) = refl
heard_of-append (p ∷ []) (Some q) = refl
heard_of-append (p ∷ r ∷ qs) (Some q) = refl

module _ (at : ℕ → ℕ → Option Quarter) (j : ℕ) (a : Tap) where
  arriving_from-append : (s : ℕ) (taps : List Tap) (b : Tap) → arriving_from at j a s (taps ++ b ∷ []) ≡ arriving_from at j a s taps ++ option_to_list (arriving at j a (s + length taps) b)
  arriving_from-append s [] b = rw (add-zero, append-nil) refl
  arriving_from-append s (c ∷ taps) b =
      let next : (s + 1) + length taps ≡ s + suc (length taps) = omega arith in
      let rest = arriving_from-append (s + 1) taps b in
      let first : List Quarter = option_to_list (arriving at j a s c) in
      ap (λ (r : List Quarter). first ++ r) (rw next at rest)
      ∙ sym (append_assoc first (arriving_from at j a (s + 1) taps) (option_to_list (arriving at j a (s + suc (length taps)) b)))

  -- what is heard from the first i + 1 nodes
  pub heard_of-take_more : (taps : List Tap) (i : ℕ) → i < length taps → heard_of (arriving_from at j a 0 (take (i + 1) taps)) ≡ heard_with (heard_of (arriving_from at j a 0 (take i taps))) (arriving at j a i (tap_at taps i))
  heard_of-take_more taps i lt =
      let short : 0 + length (take i taps) ≡ i = omega (arith, length-take-le i taps (omega arith)) in
      rw (take_more taps i no_tap lt, arriving_from-append 0 (take i taps) (tap_at taps i), short)
      (heard_of-append (arriving_from at j a 0 (take i taps)) (arriving at j a i (tap_at taps i)))

-- two pasts that agree as far back as any other node is away are heard alike
module _ (reach : ℕ) (at bt : ℕ → ℕ → Option Quarter) (j : ℕ) (a : Tap) where
  arriving_same : (i : ℕ) (b : Tap) → ((d : ℕ) → d ≤ reach → at i d ≡ bt i d) → (i ≢ j → between a b ≤ reach) → arriving at j a i b ≡ arriving bt j a i b
  arriving_same i b same near = elim (cases_eq i j) [
    | inl own ↦ let e : eqb i j ≡ true = search (rules, nat_tests) in rw e refl
    | inr other ↦ let e : eqb i j ≡ false = search (rules, nat_tests) in rw e (same (between a b) (near other))
  ]

  arriving_from_same : (n : ℕ) → ((i d : ℕ) → i < n → d ≤ reach → at i d ≡ bt i d) → (s : ℕ) (taps : List Tap) → s + length taps ≤ n
      → ((k : ℕ) → k < length taps → s + k ≢ j → between a (tap_at taps k) ≤ reach) → arriving_from at j a s taps ≡ arriving_from bt j a s taps
  arriving_from_same n same s [] fits near = refl
  arriving_from_same n same s (b ∷ taps) fits near =
      let first = arriving_same s b (λ d. same s d (omega arith)) (λ other. near 0 (omega arith) (rw add-zero other)) in
      let rest = arriving_from_same n same (s + 1) taps (omega arith)
      (λ k lt other. near (suc k) (omega arith) (let next : s + suc k ≡ s + 1 + k = omega arith in rw next other)) in
      rw (first, rest) refl

pub heard_same : (reach : ℕ) (at bt : ℕ → ℕ → Option Quarter) (taps : List Tap) (j : ℕ) → ((i d : ℕ) → i < length taps → d ≤ reach → at i d ≡ bt i d)
    → ((k : ℕ) → k < length taps → k ≢ j → between (tap_at taps j) (tap_at taps k) ≤ reach) → heard at taps j ≡ heard bt taps j
unfolding heard
heard_same reach at bt taps j same near =
    ap heard_of (arriving_from_same reach at bt j (tap_at taps j) (length taps) same 0 taps (omega arith) (λ k lt other. near k lt (rw zero-add at other)))

-- where no other node drove, a node hears nothing
arriving_from_none : (at : ℕ → ℕ → Option Quarter) (j : ℕ) (a : Tap) (s : ℕ) (taps : List Tap) → ((i d : ℕ) → i < s + length taps → (i ≡ j → ⊥) → at i d ≡ None) → arriving_from at j a s taps ≡ []
arriving_from_none at j a s [] none = refl
arriving_from_none at j a s (b ∷ taps) none =
    let rest = arriving_from_none at j a (s + 1) taps (λ i d h ne. none i d (omega arith) ne) in
    elim (cases_eq s j) [
      | inl same ↦ let e : eqb s j ≡ true = search (rules, nat_tests) in rw (e, rest) refl
      | inr other ↦
          let e : eqb s j ≡ false = search (rules, nat_tests) in
          let none_here : at s (between a b) ≡ None = none s (between a b) (omega arith) other in
          rw (e, none_here, rest) refl
    ]

pub heard_nothing : (at : ℕ → ℕ → Option Quarter) (taps : List Tap) (j : ℕ) → ((i d : ℕ) → i < length taps → (i ≡ j → ⊥) → at i d ≡ None) → heard at taps j ≡ Nothing
unfolding heard
heard_nothing at taps j none =
    ap heard_of (arriving_from_none at j (tap_at taps j) 0 taps (λ i d h ne. none i d (omega arith) ne))

-- where all that was driven is in range, so is what is heard
heard_of_in_range : (o : Option Quarter) (qs : List Quarter) → IfSome o IsQuarter → IsHeard (heard_of qs) → IsHeard (heard_of (option_to_list o ++ qs))
heard_of_in_range None qs h rest = rest
heard_of_in_range (Some q) [] h rest = h
heard_of_in_range (Some q) (r ∷ qs) h rest = tt

unless_own : (b : Bool) (o : Option Quarter) → IfSome o IsQuarter → IfSome (cond b None o) IsQuarter
unless_own true o h = tt
unless_own false o h = h

module _ (at : ℕ → ℕ → Option Quarter) (ranges : (i d : ℕ) → IfSome (at i d) IsQuarter) (j : ℕ) where
  arriving_in_range : (a : Tap) (s : ℕ) (taps : List Tap) → IsHeard (heard_of (arriving_from at j a s taps))
  arriving_in_range a s [] = tt
  arriving_in_range a s (b ∷ taps) =
      heard_of_in_range (arriving at j a s b) (arriving_from at j a (s + 1) taps)
      (unless_own (eqb s j) (at s (between a b)) (ranges s (between a b)))
      (arriving_in_range a (s + 1) taps)

  pub heard_in_range : (taps : List Tap) → IsHeard (heard at taps j)
  unfolding heard
  heard_in_range taps = arriving_in_range (tap_at taps j) 0 taps
