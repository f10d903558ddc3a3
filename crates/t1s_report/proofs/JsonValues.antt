-- The values that stand for elements in ascending order of their keys.
use Rattle.std.proofs.Common.{◌≡◌, ℕ, ◌+◌, ◌≤◌, List, [], ◌∷◌, ◌++◌, map, Some, None, sym, ap, ◌∙◌}
use Rattle.std.proofs.lemmas.List.{map-append}
use Rattle.serde_json.specs.Data.{Data}
use Rattle.serde_json.specs.View.{view}
use Rattle.serde_json.specs.declared.value.Value.{Value}
use Rattle.t1s_report.proofs.Ascending.{AscendFrom, keyed_below, keyed_at, none_below, below_found, below_missed}

module _ {A : Type 0} (key : A → ℕ) (value : A → Data) (xs : List A) where
  -- these are the values of the elements with a key below i
  abbrev pub ValuesBelow : ℕ → List Value → Type 0
  ValuesBelow i vs = map view vs ≡ map value (keyed_below key i xs)

  module _ (low : ℕ) (ascend : AscendFrom low (map key xs)) where
    pub no_value : (i : ℕ) → i ≤ low → ValuesBelow i []
    no_value i le = sym (ap (map value) (none_below key low i xs ascend le))

    pub value_found : (i : ℕ) (a : A) (vs : List Value) (v : Value) → keyed_at key i xs ≡ Some a → view v ≡ value a → ValuesBelow i vs → ValuesBelow (i + 1) (vs ++ v ∷ [])
    value_found i a vs v e is so_far =
        let below : List A = keyed_below key i xs in
        let all : map value (keyed_below key (i + 1) xs) ≡ map value below ++ value a ∷ [] = ap (map value) (below_found key low i a xs ascend e) ∙ map-append value below (a ∷ []) in
        map-append view vs (v ∷ []) ∙ (ap (λ (ds : List Data). ds ++ view v ∷ []) so_far ∙ (ap (λ (d : Data). map value below ++ d ∷ []) is ∙ sym all))

    pub value_missed : (i : ℕ) (vs : List Value) → keyed_at key i xs ≡ None → ValuesBelow i vs → ValuesBelow (i + 1) vs
    value_missed i vs e so_far = rw (below_missed key low i xs ascend e) so_far
