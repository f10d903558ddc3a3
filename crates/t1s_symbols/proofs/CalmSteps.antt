-- Calm steps, passed at once: n steps lead where a path of states leads, of which each is what a step leaves of the one before.
use Rattle.std.proofs.Common.{◌≡◌, ℕ, zero, suc, ◌<◌, ◌≤◌, inl, inr, refl, arith, ap, sym, subst, ◌∙◌}
use Rattle.std.specs.Prelude.{min}
use Rattle.std.specs.Fn.{iterate}
use Rattle.std.proofs.lemmas.Bool.{cases_lt}
use Rattle.t1s_symbols.specs.CalmSteps.{AreCalm, IsCalmFor}

-- of a path the first n states have a calm step, which leads to the next one; n is `most`, or the step from the state n isn't calm
pub record IsCalmPath {A : Type 0} (step : A → A) (Calm : A → Type 0) (path : ℕ → A) (most n : ℕ) : Type 0 where
  pub within : n ≤ most
  pub calm : (k : ℕ) → k < n → Calm (path k)
  pub next : (k : ℕ) → k < n → step (path k) ≡ path (suc k)
  pub ends : n < most → Calm (path n) → ⊥

module _ {A : Type 0} (step : A → A) where
  pub iterate-path : (path : ℕ → A) (n : ℕ) → ((k : ℕ) → k < n → step (path k) ≡ path (suc k)) → iterate step n (path 0) ≡ path n
  iterate-path path zero next = refl
  iterate-path path (suc n) next =
      ap (iterate step n) (next 0 (omega arith)) ∙ iterate-path (λ k. path (suc k)) n (λ k below. next (suc k) (omega arith))

  module _ (Calm : A → Type 0) (path : ℕ → A) (most n : ℕ) (calm : IsCalmPath step Calm path most n) where
    -- where so many steps lead
    pub path_iterate : (k : ℕ) → k ≤ n → iterate step k (path 0) ≡ path k
    path_iterate k le = iterate-path path k (λ j below. calm.next j (omega arith))

    -- the machine is calm for as long as its path
    pub path_calm_for : IsCalmFor step Calm (path 0) most n
    path_calm_for = record {
      within = calm.within;
      calm = λ k below. subst Calm (sym (path_iterate k (omega arith))) (calm.calm k below);
      ends = λ below still. calm.ends below (subst Calm (path_iterate n (omega arith)) still);
    }

    -- a path that ends before `most` isn't calm up to there
    pub path_whole : AreCalm step Calm (path 0) most → most ≤ n
    path_whole all = elim (cases_lt n most) [
      | inl below ↦ absurd (path_calm_for.ends below (all n below))
      | inr whole ↦ whole
    ]

  -- n calm steps are one pass
  pub calm_steps_pass : (Calm : A → Type 0) (path : ℕ → A) (n m : ℕ) → IsCalmPath step Calm path n m → AreCalm step Calm (path 0) n → iterate step n (path 0) ≡ path n
  calm_steps_pass Calm path n m calm all = path_iterate Calm path n m calm n (path_whole Calm path n m calm all)

  module _ (Calm : A → Type 0) where
    -- a state that a calm step leaves as it is
    pub rests : (a : A) (most : ℕ) → Calm a → step a ≡ a → IsCalmPath step Calm (λ _. a) most most
    rests a most calm same = record {
      within = omega arith;
      calm = λ k below. calm;
      next = λ k below. same;
      ends = λ below. absurd (omega arith);
    }

    -- a state with a step that isn't calm
    pub acts : (path : ℕ → A) (most : ℕ) → (Calm (path 0) → ⊥) → IsCalmPath step Calm path most 0
    acts path most act = record {
      within = omega arith;
      calm = λ k below. absurd (omega arith);
      next = λ k below. absurd (omega arith);
      ends = λ below. act;
    }

    -- a path with so many calm steps, of which at most `most` are asked for
    pub cut : (path : ℕ → A) (count most : ℕ) → ((k : ℕ) → k < count → Calm (path k)) → ((k : ℕ) → k < count → step (path k) ≡ path (suc k))
        → (Calm (path count) → ⊥) → IsCalmPath step Calm path most (min count most)
    cut path count most calm next act = record {
      within = omega arith;
      calm = λ k below. calm k (omega arith);
      next = λ k below. next k (omega arith);
      ends = λ below still.
          let whole : min count most ≡ count = omega arith in
          act (subst (λ k. Calm (path k)) whole still);
    }
