-- The one element of a list that has a number, where the numbers ascend strictly.
use Rattle.std.proofs.Common.{◌≡◌, ℕ, zero, suc, ◌+◌, ◌<◌, ◌≤◌, inl, inr, Bool, true, false, not, cond, eqb, ltb, List, [], ◌∷◌, length, get_or, map, set, position, Some, None, refl, sym, ap, arith, rules}
use Rattle.std.specs.List.{flat_map, prefix_len}
use Rattle.std.specs.List.Sorted.{IsStrictlyIncreasing}
use Rattle.std.proofs.lemmas.Bool.{cases_lt, lt-ltb}
use Rattle.std.proofs.lemmas.Bool.Decides.{nat_tests}
use Rattle.std.proofs.lemmas.List.{length-map}
use Rattle.std.proofs.lemmas.List.Kept.{AllPairs-from_increasing}

-- ---- no number passes a test

at_first : (q : ℕ → Bool) (x : ℕ) (xs : List ℕ) (b : Bool) → q x ≡ b → suc (length xs) ≤ cond b (1 + prefix_len q xs) 0 → (q x ≡ true) × (length xs ≤ prefix_len q xs)
at_first q x xs true e h = (e, omega arith)
at_first q x xs false e h = absurd (omega arith)

all_pass : (q : ℕ → Bool) (xs : List ℕ) → length xs ≤ prefix_len q xs → (k : ℕ) → k < length xs → q (get_or xs k 0) ≡ true
all_pass q [] h k lt = absurd (omega arith)
all_pass q (x ∷ xs) h zero lt = (at_first q x xs (q x) refl h).0
all_pass q (x ∷ xs) h (suc k) lt = all_pass q xs (at_first q x xs (q x) refl h).1 k (omega arith)

not_true : (b : Bool) → not b ≡ true → b ≡ false
not_true true e = cc
not_true false e = refl

pub none_passes : (q : ℕ → Bool) (xs : List ℕ) → position q xs ≡ None → (k : ℕ) → k < length xs → q (get_or xs k 0) ≡ false
none_passes q xs none k lt =
    let to : ℕ = prefix_len (λ y. not (q y)) xs in
    elim (cases_lt to (length xs)) [
      | inl short ↦
          let b : ltb to (length xs) ≡ true = lt-ltb to (length xs) short in
          let found : cond (ltb to (length xs)) (Some to) None ≡ Some to = rw b refl in
          cc
      | inr whole ↦ not_true (q (get_or xs k 0)) (all_pass (λ y. not (q y)) xs whole k lt)
    ]

-- ---- elements of which at most one has the number k

module _ {X : Type 0} (f : X → ℕ) (k : ℕ) where
  abbrev pub NoneHas : List X → Type 0
  NoneHas xs = (j : ℕ) → j < length xs → eqb (get_or (map f xs) j 0) k ≡ false

  -- none but the one at i
  abbrev pub OnlyHas : List X → ℕ → Type 0
  OnlyHas xs i = (j : ℕ) → j < length xs → (j ≡ i → ⊥) → eqb (get_or (map f xs) j 0) k ≡ false

  pub only_one : (xs : List X) (i : ℕ) → IsStrictlyIncreasing (map f xs) → i < length xs → get_or (map f xs) i 0 ≡ k → OnlyHas xs i
  only_one xs i rising lt at j jt ne =
      let len : length (map f xs) ≡ length xs = length-map xs f in
      elim (cases_lt j i) [
        | inl below ↦
            let apart : get_or (map f xs) j 0 < get_or (map f xs) i 0 = AllPairs-from_increasing (map f xs) rising j i 0 below (omega arith) in
            let differ : get_or (map f xs) j 0 ≡ k → ⊥ = λ e. omega (arith, apart, e, at) in
            search (rules, nat_tests)
        | inr above ↦
            let more : i < j = omega (arith, ne) in
            let apart : get_or (map f xs) i 0 < get_or (map f xs) j 0 = AllPairs-from_increasing (map f xs) rising i j 0 more (omega arith) in
            let differ : get_or (map f xs) j 0 ≡ k → ⊥ = λ e. omega (arith, apart, e, at) in
            search (rules, nat_tests)
      ]

  -- what is changed of them
  module _ (g : X → X) where
    pub none_changed : (xs : List X) → NoneHas xs → map (λ x. cond (eqb (f x) k) (g x) x) xs ≡ xs
    none_changed [] none = refl
    none_changed (x ∷ xs) none =
        let here : eqb (f x) k ≡ false = none 0 (omega arith) in
        let rest = none_changed xs (λ j lt. none (suc j) (omega arith)) in
        rw (here, rest) refl

    pub one_changed : (xs : List X) (i : ℕ) (x : X) → i < length xs → x ≡ get_or xs i x → eqb (f x) k ≡ true → OnlyHas xs i → set xs i (g x) ≡ map (λ x. cond (eqb (f x) k) (g x) x) xs
    one_changed [] i x lt is has only = absurd (omega arith)
    one_changed (y ∷ xs) zero x lt is has only =
        let same : x ≡ y = is in
        let here : eqb (f y) k ≡ true = rw same at has in
        let rest = none_changed xs (λ j h. only (suc j) (omega arith) (λ e. cc)) in
        rw (here, rest, same) refl
    one_changed (y ∷ xs) (suc i) x lt is has only =
        let here : eqb (f y) k ≡ false = only 0 (omega arith) (λ e. cc) in
        let rest = one_changed xs i x (omega arith) is has (λ j h ne. only (suc j) (omega arith) (λ e. ne (omega (arith, e)))) in
        rw (here, ← rest) refl

  -- what is told of them
  module _ {Y : Type 0} (h : X → Y) where
    pub none_told : (xs : List X) → NoneHas xs → flat_map (λ x. cond (eqb (f x) k) (h x ∷ []) []) xs ≡ []
    none_told [] none = refl
    none_told (x ∷ xs) none =
        let here : eqb (f x) k ≡ false = none 0 (omega arith) in
        let rest = none_told xs (λ j lt. none (suc j) (omega arith)) in
        rw (here, rest) refl

    pub one_told : (xs : List X) (i : ℕ) (x : X) → i < length xs → x ≡ get_or xs i x → eqb (f x) k ≡ true → OnlyHas xs i → flat_map (λ x. cond (eqb (f x) k) (h x ∷ []) []) xs ≡ h x ∷ []
    one_told [] i x lt is has only = absurd (omega arith)
    one_told (y ∷ xs) zero x lt is has only =
        let same : x ≡ y = is in
        let here : eqb (f y) k ≡ true = rw same at has in
        let rest = none_told xs (λ j h. only (suc j) (omega arith) (λ e. cc)) in
        rw (here, rest, same) refl
    one_told (y ∷ xs) (suc i) x lt is has only =
        let here : eqb (f y) k ≡ false = only 0 (omega arith) (λ e. cc) in
        let rest = one_told xs i x (omega arith) is has (λ j h ne. only (suc j) (omega arith) (λ e. ne (omega (arith, e)))) in
        rw (here, rest) refl

-- the number of the element at a position
pub number_at : {X : Type 0} (f : X → ℕ) (xs : List X) (i : ℕ) (x : X) → i < length xs → x ≡ get_or xs i x → get_or (map f xs) i 0 ≡ f x
number_at f [] i x lt is = absurd (omega arith)
number_at f (y ∷ xs) zero x lt is = ap f (sym is)
number_at f (y ∷ xs) (suc i) x lt is = number_at f xs i x (omega arith) is
