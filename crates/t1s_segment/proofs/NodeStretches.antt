-- For how long all nodes are calm, node by node.
use Rattle.std.proofs.Common.{◌≡◌, ℕ, ◌+◌, ◌<◌, ◌≤◌, inl, inr, List, [], ◌∷◌, ◌++◌, length, get_or, map, set, take, drop, replicate, refl, sym, ◌∙◌, ap, arith, subst}
use Rattle.std.proofs.lemmas.Bool.{cases_lt}
use Rattle.std.proofs.lemmas.List.{length-map, length-replicate, length-take-le, replicate_more}
use Rattle.std.proofs.lemmas.List.Elements.{All-more}
use Rattle.t1s_symbols.specs.CalmSteps.{AreCalm, IsCalmFor}
use Rattle.t1s_world.proofs.ListLemmas.{written_more, get_or-unwritten}
use Rattle.t1s_line.specs.CalmRuns.{IsCalmAt, silent_step}
use Rattle.t1s_line.specs.Outcomes.{NodePhases}
use Rattle.t1s_segment.specs.Stretches.{AllCalm, OneActs}

module _ {N : Type 0} (p : NodePhases N) (calm : ℕ → N → Type 0) (t : ℕ) where
  abbrev pub CalmAlone : N → ℕ → Type 0
  CalmAlone x n = AreCalm (silent_step p) (IsCalmAt calm) (t, x) n

  pub calm_none : (xs : List N) → AllCalm p calm t 0 xs
  calm_none xs k d lt i below = absurd (omega (arith, below))

  pub calm_fewer : (m n : ℕ) (xs : List N) → m ≤ n → AllCalm p calm t n xs → AllCalm p calm t m xs
  calm_fewer m n xs le all k d lt i below = all k d lt i (omega (arith, le, below))

  module _ (xs : List N) (i : ℕ) (x : N) (lt : i < length xs) (is : x ≡ get_or xs i x) (n m : ℕ) (long : IsCalmFor (silent_step p) (IsCalmAt calm) (t, x) n m) where
    pub calm_more : AllCalm p calm t n (take i xs) → AllCalm p calm t m (take (i + 1) xs)
    calm_more all =
        All-more (λ y. CalmAlone y m) xs i x lt (calm_fewer m n (take i xs) long.within all) (subst (λ y. CalmAlone y m) is long.calm)

    pub ends_more : (most : ℕ) → n ≤ most → (n < most → OneActs p calm t n xs) → m < most → OneActs p calm t m xs
    ends_more most le before short = elim (cases_lt m n) [
      | inl fewer ↦ (x, (i, lt, sym is), long.ends fewer)
      | inr whole ↦
          let within = long.within in
          let same : n ≡ m = omega (arith, whole, within) in
          subst (λ k. OneActs p calm t k xs) same (before (omega (arith, short, same)))
    ]

-- in a list that is rewritten from the front the next element is still the old one
pub map_next : {X : Type 0} (f : X → X) (xs ys : List X) (i : ℕ) (x : X) → i < length xs → ys ≡ map f (take i xs) ++ drop i xs → x ≡ get_or ys i x
    → x ≡ get_or xs i x
map_next f xs ys i x lt written is =
    is ∙ get_or-unwritten (map f (take i xs)) xs ys i x (length-map (take i xs) f ∙ length-take-le i xs (omega (arith, lt))) lt written

-- one more element is set to the same
pub filled_more : {X : Type 0} (xs ys : List X) (i : ℕ) (x : X) → i < length xs → ys ≡ replicate i x ++ drop i xs → set ys i x ≡ replicate (i + 1) x ++ drop (i + 1) xs
filled_more xs ys i x lt written = rw (← replicate_more i x) (written_more (replicate i x) xs ys i x x (length-replicate i x) lt written)

-- the same for each element of a list
pub filled : {X Y : Type 0} (y : Y) (xs : List X) → replicate (length xs) y ≡ map (λ _. y) xs
filled y [] = refl
filled y (x ∷ xs) = ap (λ ys. y ∷ ys) (filled y xs)
