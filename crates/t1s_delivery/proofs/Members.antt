-- The elements of a list, one by one.
use Rattle.std.proofs.Common.{◌≡◌, ℕ, zero, suc, ◌<◌, ◌⊎◌, inl, inr, List, [], ◌∷◌, ◌++◌, length, get_or, map, filter_map, Option, Some, None, refl, ◌∙◌, ap, arith, Contains}
use Rattle.std.specs.List.{cons_option}

-- x is one of these
unfoldable pub Among : {X : Type 0} → List X → X → Type 0
Among [] x = ⊥
Among (y ∷ ys) x = (y ≡ x) ⊎ Among ys x

module _ {X : Type 0} where
  pub among_from : (xs : List X) (x : X) → Contains xs x → Among xs x
  unfolding Among
  among_from [] x (k, below, at) = absurd (omega (arith, below))
  among_from (y ∷ ys) x (zero, below, at) = inl at
  among_from (y ∷ ys) x (suc k, below, at) = inr (among_from ys x (k, omega (arith, below), at))

  pub contains_from : (xs : List X) (x : X) → Among xs x → Contains xs x
  unfolding Among
  contains_from [] x h = absurd h
  contains_from (y ∷ ys) x (inl same) = (0, omega arith, same)
  contains_from (y ∷ ys) x (inr h) = let later = contains_from ys x h in (suc later.0, omega (arith, later.1), later.2)

  -- where it stands
  pub place_of : (xs : List X) (x : X) → Among xs x → (k : ℕ) × (k < length xs) × ((d : X) → get_or xs k d ≡ x)
  unfolding Among
  place_of [] x h = absurd h
  place_of (y ∷ ys) x (inl same) = (0, omega arith, λ d. same)
  place_of (y ∷ ys) x (inr h) = let later = place_of ys x h in (suc later.0, omega (arith, later.1), λ d. later.2 d)

  pub among_later : (xs ys : List X) (x : X) → Among ys x → Among (xs ++ ys) x
  unfolding Among
  among_later [] ys x h = h
  among_later (y ∷ xs) ys x h = inr (among_later xs ys x h)

  pub nothing_among : (x : X) → Among [] x → ⊥
  unfolding Among
  nothing_among x h = h

  pub among_cases : (y : X) (ys : List X) (x : X) → Among (y ∷ ys) x → (y ≡ x) ⊎ Among ys x
  unfolding Among
  among_cases y ys x h = h

  pub among_first : (y : X) (ys : List X) → Among (y ∷ ys) y
  unfolding Among
  among_first y ys = inl refl

  pub among_rest : (y : X) (ys : List X) (x : X) → Among ys x → Among (y ∷ ys) x
  unfolding Among
  among_rest y ys x h = inr h

module _ {X Y : Type 0} where
  pub among_map : (f : X → Y) (xs : List X) (x : X) → Among xs x → Among (map f xs) (f x)
  unfolding Among
  among_map f [] x h = absurd h
  among_map f (y ∷ ys) x (inl same) = inl (ap f same)
  among_map f (y ∷ ys) x (inr h) = inr (among_map f ys x h)

  module _ (f : X → Option Y) where
    put_first : (o : Option Y) (ys : List Y) (y : Y) → o ≡ Some y → Among (cons_option o ys) y
    unfolding Among
    put_first None ys y e = absurd (cc)
    put_first (Some x) ys y e = inl (cc)

    put_before : (o : Option Y) (ys : List Y) (y : Y) → Among ys y → Among (cons_option o ys) y
    unfolding Among
    put_before None ys y h = h
    put_before (Some x) ys y h = inr h

    pub among_kept : (xs : List X) (x : X) (y : Y) → Among xs x → f x ≡ Some y → Among (filter_map f xs) y
    unfolding Among
    among_kept [] x y h e = absurd h
    among_kept (z ∷ xs) x y (inl same) e = put_first (f z) (filter_map f xs) y (ap f same ∙ e)
    among_kept (z ∷ xs) x y (inr h) e = put_before (f z) (filter_map f xs) y (among_kept xs x y h e)

    put_cases : (o : Option Y) (ys : List Y) (y : Y) → Among (cons_option o ys) y → (o ≡ Some y) ⊎ Among ys y
    unfolding Among
    put_cases None ys y h = inr h
    put_cases (Some x) ys y (inl same) = inl (ap Some same)
    put_cases (Some x) ys y (inr h) = inr h

    pub kept_from : (xs : List X) (y : Y) → Among (filter_map f xs) y → (x : X) × Among xs x × (f x ≡ Some y)
    unfolding Among
    kept_from [] y h = absurd h
    kept_from (x ∷ xs) y h = elim (put_cases (f x) (filter_map f xs) y h) [
      | inl here ↦ (x, inl refl, here)
      | inr later ↦ let (z, there, e) = kept_from xs y later in (z, inr there, e)
    ]
