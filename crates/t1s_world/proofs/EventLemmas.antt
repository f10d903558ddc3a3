-- Events events one after another, and events and tests over the ticks below one.
use Rattle.std.proofs.Common.{◌≡◌, ℕ, zero, suc, ◌+◌, ◌<◌, ◌≤◌, inl, inr, Bool, List, [], ◌∷◌, ◌++◌, Some, None, true, false, cond, refl, add-one, ap, sym, ◌∙◌, arith}
use Rattle.std.specs.Option.{option_or}
use Rattle.std.proofs.lemmas.Bool.{cases_eq}
use Rattle.t1s_world.specs.Events.{SeesEvents, events_below, first_below, count_below}

module _ {W E : Type 0} (sees : W → E → W → Type 0) where
  pub SeesEvents-append : (w u v : W) (es fs : List E) → SeesEvents sees w es u → SeesEvents sees u fs v → SeesEvents sees w (es ++ fs) v
  SeesEvents-append w u v [] fs e h = rw (← e) h
  SeesEvents-append w u v (x ∷ es) fs h k = (h.0, h.1, SeesEvents-append h.0 u v es fs h.2 k)

module _ {E : Type 0} (events : ℕ → List E) where
  pub events_below-zero : events_below events 0 ≡ []
  unfolding events_below
  events_below-zero = refl

  pub events_below-more : (t : ℕ) → events_below events (t + 1) ≡ events_below events t ++ events t
  unfolding events_below
  events_below-more t = rw add-one refl

module _ (p : ℕ → Bool) where
  pub first_below-zero : first_below p 0 ≡ None
  unfolding first_below
  first_below-zero = refl

  pub first_below-more : (t : ℕ) → first_below p (t + 1) ≡ option_or (first_below p t) (cond (p t) (Some t) None)
  unfolding first_below
  first_below-more t = rw add-one refl

  pub count_below-zero : count_below p 0 ≡ 0
  unfolding count_below
  count_below-zero = refl

  pub count_below-more : (t : ℕ) → count_below p (t + 1) ≡ count_below p t + cond (p t) 1 0
  unfolding count_below
  count_below-more t = rw add-one refl

  one_at_most : (b : Bool) → cond b 1 0 ≤ 1
  one_at_most true = omega arith
  one_at_most false = omega arith

  pub count_below-le : (t : ℕ) → count_below p t ≤ t
  unfolding count_below
  count_below-le zero = omega arith
  count_below-le (suc t) = omega (arith, count_below-le t, one_at_most (p t))

  no_more : (n : ℕ) (b : Bool) → n + cond b 1 0 ≡ 0 → b ≡ true → ⊥
  no_more n true none passes = omega (arith, none)
  no_more n false none passes = cc

  -- where none is counted, none passes the test
  pub none_counted : (t : ℕ) → count_below p t ≡ 0 → (u : ℕ) → u < t → p u ≡ true → ⊥
  unfolding count_below
  none_counted zero none u below passes = omega (arith, below)
  none_counted (suc t) none u below passes = elim (cases_eq u t) [
    | inl same ↦ no_more (count_below p t) (p t) none (ap p (sym same) ∙ passes)
    | inr other ↦ none_counted t (omega (arith, none)) u (omega (arith, below, other)) passes
  ]
