-- The IDs of a node: that of its `node` line, and those of its `also` lines.
use Rattle.std.proofs.Common.{◌≡◌, ℕ, suc, ◌<◌, ◌≤◌, Bool, true, false, leb, List, [], ◌∷◌, ◌++◌, length, length-append, get_or, Option, Some, None, refl, sym, ◌∙◌, ap, arith}
use Rattle.std.specs.Prelude.{◌==◌, ◌||◌, filter_map}
use Rattle.std.specs.List.{list_any, cons_option}
use Rattle.std.specs.Option.{option_map_or}
use Rattle.std.proofs.lemmas.Bool.Decides.{nat_tests}
use Rattle.std.proofs.lemmas.List.Elements.{All-append, All-cons, All-nil}
use Rattle.std.proofs.lemmas.List.Folds.{list_any-append}
use Rattle.t1s_base.specs.NodeIds.{has_id, AreDistinct, IsIds}
use Rattle.t1s_script.specs.Limits.{most_further_ids, most_ids}
use Rattle.t1s_script.specs.ParsedLine.{ParsedLine}
use Rattle.t1s_script.specs.Values.{node_for, also_for, gives_id}

-- ---- the first of some IDs, and the others

abbrev pub first_id : List ℕ → ℕ
first_id ids = get_or ids 0 0

abbrev pub further_ids : List ℕ → List ℕ
further_ids [] = []
further_ids (id ∷ ids) = ids

pub ids_whole : (ids : List ℕ) → 1 ≤ length ids → ids ≡ first_id ids ∷ further_ids ids
ids_whole [] some = absurd (omega arith)
ids_whole (a ∷ ids) some = refl

pub first_more : (ids : List ℕ) (id : ℕ) → 1 ≤ length ids → first_id (ids ++ id ∷ []) ≡ first_id ids
first_more [] id some = absurd (omega arith)
first_more (a ∷ ids) id some = refl

pub further_more : (ids : List ℕ) (id : ℕ) → 1 ≤ length ids → further_ids (ids ++ id ∷ []) ≡ further_ids ids ++ id ∷ []
further_more [] id some = absurd (omega arith)
further_more (a ∷ ids) id some = refl

-- there are as many as there may be
pub full_is : (ids : List ℕ) → 1 ≤ length ids → leb most_further_ids (length (further_ids ids)) ≡ leb most_ids (length ids)
full_is [] some = absurd (omega arith)
full_is (a ∷ ids) some = go (length ids) (leb most_further_ids (length ids)) (leb most_ids (suc (length ids))) refl refl
  where
    go : (n : ℕ) (b c : Bool) → leb most_further_ids n ≡ b → leb most_ids (suc n) ≡ c → leb most_further_ids n ≡ leb most_ids (suc n)
    go n true true few all = few ∙ sym all
    go n true false few all = absurd (grind (arith, nat_tests))
    go n false true few all = absurd (grind (arith, nat_tests))
    go n false false few all = few ∙ sym all

or_false : (b c : Bool) → ((b || false) || c) ≡ (b || c)
or_false true c = refl
or_false false c = refl

pub has_whole : (ids : List ℕ) (id : ℕ) → 1 ≤ length ids → (((first_id ids == id) || false) || has_id (further_ids ids) id) ≡ has_id ids id
has_whole [] id some = absurd (omega arith)
has_whole (a ∷ ids) id some = or_false (a == id) (has_id ids id)

-- ---- what lines give

or_four : (x y a b : Bool) → ((x || y) || (a || b)) ≡ ((x || a) || (y || b))
or_four true y a b = refl
or_four false true true b = refl
or_four false true false b = refl
or_four false false a b = refl

-- the lines give an ID to a node by its `node` line or by its `also` lines
pub ids_given : (number id : ℕ) (lines : List ParsedLine)
    → list_any (gives_id number id) lines ≡ (list_any (λ (n : ℕ × ℕ). n.0 == id) (filter_map (node_for number) lines) || has_id (filter_map (also_for number) lines) id)
ids_given number id [] = refl
ids_given number id (line ∷ lines) = go (node_for number line) (also_for number line) (ids_given number id lines)
  where
    by_node : Bool
    by_node = list_any (λ (n : ℕ × ℕ). n.0 == id) (filter_map (node_for number) lines)

    by_also : Bool
    by_also = has_id (filter_map (also_for number) lines) id

    go : (n : Option (ℕ × ℕ)) (k : Option ℕ) → list_any (gives_id number id) lines ≡ (by_node || by_also)
        → ((option_map_or (λ (m : ℕ × ℕ). m.0 == id) n false || option_map_or (λ further. further == id) k false) || list_any (gives_id number id) lines)
        ≡ (list_any (λ (m : ℕ × ℕ). m.0 == id) (cons_option n (filter_map (node_for number) lines)) || has_id (cons_option k (filter_map (also_for number) lines)) id)
    go None None e = e
    go (Some n) None e = ap (λ rest. ((n.0 == id) || false) || rest) e ∙ or_four (n.0 == id) false by_node by_also
    go None (Some k) e = ap (λ rest. (k == id) || rest) e ∙ or_four false (k == id) by_node by_also
    go (Some n) (Some k) e = ap (λ rest. ((n.0 == id) || (k == id)) || rest) e ∙ or_four (n.0 == id) (k == id) by_node by_also

-- ---- one to four IDs

pub one_id : (id : ℕ) → id ≤ 255 → IsIds (id ∷ [])
one_id id low = record {
  some = omega arith;
  few = omega arith;
  octets = All-cons (λ k. k < 256) id [] (omega arith) (All-nil (λ k. k < 256));
  distinct = (refl, tt);
}

or_none : (a b : Bool) → (a || b) ≡ false → (a ≡ false) × (b ≡ false)
or_none true b e = cc
or_none false b e = (refl, e)

distinct_more : (ids : List ℕ) (id : ℕ) → AreDistinct ids → has_id ids id ≡ false → AreDistinct (ids ++ id ∷ [])
distinct_more [] id distinct none = (refl, tt)
distinct_more (a ∷ ids) id distinct none =
    let apart = or_none (a == id) (has_id ids id) none in
    let other : (id == a) ≡ false = turned apart.0 in
    let free : has_id ids a ≡ false = distinct.0 in
    (list_any-append (λ held. held == a) ids (id ∷ []) ∙ ap (λ x. x || ((id == a) || false)) free ∙ ap (λ x. x || false) other, distinct_more ids id distinct.1 apart.1)
  where
    turned : (a == id) ≡ false → (id == a) ≡ false
    turned e = grind (arith, nat_tests)

pub one_id_more : (ids : List ℕ) (id : ℕ) → IsIds ids → has_id ids id ≡ false → length ids < most_ids → id ≤ 255 → IsIds (ids ++ id ∷ [])
one_id_more ids id h none room low = record {
  some = omega (arith, length-append ids (id ∷ []));
  few = omega (arith, length-append ids (id ∷ []));
  octets = All-append (λ k. k < 256) ids (id ∷ []) h.octets (All-cons (λ k. k < 256) id [] (omega arith) (All-nil (λ k. k < 256)));
  distinct = distinct_more ids id h.distinct none;
}
