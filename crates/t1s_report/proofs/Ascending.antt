-- Elements that stand in ascending order of their keys, asked for by their keys one after another.
use Rattle.std.proofs.Common.{◌≡◌, ℕ, suc, ◌+◌, ◌<◌, ◌≤◌, eqb, ltb, true, false, List, [], ◌∷◌, ◌++◌, map, length, filter, refl, ap, ◌∙◌, arith, length-append, inl, inr, add-one, Option, Some, None, lt-ltb, le-ltb, eq-eqb, ne_eqb, slice_index}
use Rattle.std.specs.Prelude.{⊤}
use Rattle.std.specs.List.{find, slice_get}
use Rattle.std.specs.List.Sorted.{IsStrictlyIncreasing}
use Rattle.std.specs.Option.{is_some, option_to_list}
use Rattle.std.proofs.lemmas.Bool.{cases_lt, cases_eq}
use Rattle.std.proofs.lemmas.List.{append-nil}

-- the numbers rise, from a lowest one on
abbrev pub AscendFrom : ℕ → List ℕ → Type 0
AscendFrom low [] = ⊤
AscendFrom low (x ∷ xs) = (low ≤ x) × AscendFrom (x + 1) xs

-- lists of numbers that rise from each to the next
pub ascend_from : (low : ℕ) (xs : List ℕ) → IsStrictlyIncreasing xs → (0 < length xs → low ≤ slice_index xs 0) → AscendFrom low xs
ascend_from low [] h l = tt
ascend_from low (x ∷ xs) h l =
    let rest : IsStrictlyIncreasing xs = λ k m. rw add-one (rw add-one at (h (suc k) (omega arith))) in
    (l (omega arith), ascend_from (x + 1) xs rest (λ m. omega (arith, h 0 (omega arith))))

pub ascend_lower : (low from : ℕ) (xs : List ℕ) → low ≤ from → AscendFrom from xs → AscendFrom low xs
ascend_lower low from [] le h = tt
ascend_lower low from (x ∷ xs) le h = (omega (arith, h.0), h.1)

module _ {A : Type 0} (key : A → ℕ) where
  -- the elements with a key below i
  abbrev pub keyed_below : ℕ → List A → List A
  keyed_below i xs = filter (λ a. ltb (key a) i) xs

  -- the first element with the key i
  abbrev pub keyed_at : ℕ → List A → Option A
  keyed_at i xs = find (λ a. eqb (key a) i) xs

  pub none_below : (low i : ℕ) (xs : List A) → AscendFrom low (map key xs) → i ≤ low → keyed_below i xs ≡ []
  none_below low i [] h l = refl
  none_below low i (x ∷ xs) h l =
      let least : i ≤ key x = omega (arith, h.0) in
      rw (le-ltb (key x) i least) (none_below (key x + 1) i xs h.1 (omega arith))

  one_more_below : (low i : ℕ) (xs : List A) → AscendFrom low (map key xs) → keyed_below (i + 1) xs ≡ keyed_below i xs ++ option_to_list (keyed_at i xs)
  one_more_below low i [] h = refl
  one_more_below low i (x ∷ xs) h =
      elim (cases_lt (key x) i) [
        | inl lt ↦
            let further : key x < i + 1 = omega arith in
            let other : key x ≡ i → ⊥ = λ e. omega arith in
            rw (lt-ltb (key x) i lt, lt-ltb (key x) (i + 1) further, ne_eqb (key x) i other) (ap (λ (r : List A). x ∷ r) (one_more_below (key x + 1) i xs h.1))
        | inr le ↦ elim (cases_eq (key x) i) [
          | inl e ↦
              let here : key x < i + 1 = omega arith in
              rw (le-ltb (key x) i le, lt-ltb (key x) (i + 1) here, eq-eqb (key x) i e, none_below (key x + 1) i xs h.1 (omega arith), none_below (key x + 1) (i + 1) xs h.1 (omega arith)) refl
          | inr ne ↦
              let past : i + 1 ≤ key x = omega arith in
              rw (le-ltb (key x) i le, le-ltb (key x) (i + 1) past, ne_eqb (key x) i ne) (one_more_below (key x + 1) i xs h.1)
        ]
      ]

  -- no element below the lowest key is found
  none_found : (low i : ℕ) (xs : List A) → AscendFrom low (map key xs) → i < low → keyed_at i xs ≡ None
  none_found low i [] h l = refl
  none_found low i (x ∷ xs) h l =
      let other : key x ≡ i → ⊥ = λ e. omega (arith, h.0) in
      rw (ne_eqb (key x) i other) (none_found (key x + 1) i xs h.1 (omega (arith, h.0)))

  -- the element that is found stands after all those with a key below it
  pub found_after : (low i : ℕ) (a : A) (xs : List A) → AscendFrom low (map key xs) → keyed_at i xs ≡ Some a → slice_get xs (length (keyed_below i xs)) ≡ Some a
  found_after low i a [] h e = absurd cc
  found_after low i a (x ∷ xs) h e =
      elim (cases_lt (key x) i) [
        | inl lt ↦
            let other : key x ≡ i → ⊥ = λ same. omega arith in
            let rest : keyed_at i xs ≡ Some a = rw (ne_eqb (key x) i other) at e in
            rw (lt-ltb (key x) i lt) (found_after (key x + 1) i a xs h.1 rest)
        | inr le ↦ elim (cases_eq (key x) i) [
          | inl same ↦
              let here : ◌≡◌ {A = Option A} (Some x) (Some a) = rw (eq-eqb (key x) i same) at e in
              rw (le-ltb (key x) i le, none_below (key x + 1) i xs h.1 (omega arith)) here
          | inr ne ↦
              let rest : keyed_at i xs ≡ Some a = rw (ne_eqb (key x) i ne) at e in
              absurd (let none = none_found (key x + 1) i xs h.1 (omega arith) in cc)
        ]
      ]

  -- one element more has a key below i + 1 where one has the key i, and else none
  pub below_found : (low i : ℕ) (a : A) (xs : List A) → AscendFrom low (map key xs) → keyed_at i xs ≡ Some a → keyed_below (i + 1) xs ≡ keyed_below i xs ++ a ∷ []
  below_found low i a xs h e = rw e at (one_more_below low i xs h)

  pub below_missed : (low i : ℕ) (xs : List A) → AscendFrom low (map key xs) → keyed_at i xs ≡ None → keyed_below (i + 1) xs ≡ keyed_below i xs
  below_missed low i xs h e =
      let same : keyed_below (i + 1) xs ≡ keyed_below i xs ++ [] = rw e at (one_more_below low i xs h) in
      same ∙ append-nil (keyed_below i xs)

  pub count_found : (low i : ℕ) (a : A) (xs : List A) → AscendFrom low (map key xs) → keyed_at i xs ≡ Some a → length (keyed_below (i + 1) xs) ≡ length (keyed_below i xs) + 1
  count_found low i a xs h e = ap length (below_found low i a xs h e) ∙ length-append (keyed_below i xs) (a ∷ [])

  pub count_missed : (low i : ℕ) (xs : List A) → AscendFrom low (map key xs) → keyed_at i xs ≡ None → length (keyed_below (i + 1) xs) ≡ length (keyed_below i xs)
  count_missed low i xs h e = ap length (below_missed low i xs h e)

  pub counts_one : (low i : ℕ) (xs : List A) → AscendFrom low (map key xs) → is_some (keyed_at i xs) ≡ true → length (keyed_below (i + 1) xs) ≡ length (keyed_below i xs) + 1
  counts_one low i xs h found = go (keyed_at i xs) refl
    where
      go : (o : Option A) → keyed_at i xs ≡ o → length (keyed_below (i + 1) xs) ≡ length (keyed_below i xs) + 1
      go (Some a) e = count_found low i a xs h e
      go None e = absurd (let other : is_some (keyed_at i xs) ≡ false = ap is_some e in cc)

  pub counts_none : (low i : ℕ) (xs : List A) → AscendFrom low (map key xs) → is_some (keyed_at i xs) ≡ false → length (keyed_below (i + 1) xs) ≡ length (keyed_below i xs)
  counts_none low i xs h missed = go (keyed_at i xs) refl
    where
      go : (o : Option A) → keyed_at i xs ≡ o → length (keyed_below (i + 1) xs) ≡ length (keyed_below i xs)
      go None e = count_missed low i xs h e
      go (Some a) e = absurd (let other : is_some (keyed_at i xs) ≡ true = ap is_some e in cc)
