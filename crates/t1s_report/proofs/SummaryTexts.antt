-- The lines of a summary, one after another.
use Rattle.std.proofs.Common.{◌≡◌, ℕ, suc, ◌+◌, ◌-◌, ◌<◌, ◌≤◌, List, [], ◌∷◌, ◌++◌, map, length, Some, None, inl, inr, ap, subst, ◌∙◌, arith, length-append}
use Rattle.std.specs.Prelude.{get_or}
use Rattle.std.specs.List.{slice_get}
use Rattle.std.proofs.lemmas.List.{get_or-append_right, get_or-map, get_or_append_left, length-map}
use Rattle.std.proofs.lemmas.Option.{get_or_from_slice_get, slice_get_cases, slice_get_within}
use Rattle.t1s_script.specs.declared.script.Script.{Script}
use Rattle.t1s_line.specs.declared.offers.Wait.{Wait}
use Rattle.t1s_line.specs.declared.totals.NodeTotals.{NodeTotals}
use Rattle.t1s_line.specs.World.{settled_below, totals_below}
use Rattle.t1s_report.specs.SummaryLines.{settled_line, node_line, offer_line, waits_below, summary_lines_below}

-- the lines of two lists, after a first one
module _ {A B : Type 0} (f : A → List ℕ) (g : B → List ℕ) (first : List ℕ) (xs : List A) (ys : List B) where
  abbrev all_lines : List (List ℕ)
  all_lines = first ∷ (map f xs ++ map g ys)

  long : length all_lines ≡ length xs + length ys + 1
  long = omega (arith, length-append (map f xs) (map g ys), length-map xs f, length-map ys g)

  line_at : {C : Type 0} (h : C → List ℕ) (zs : List C) (k : ℕ) (z : C) → slice_get zs k ≡ Some z → get_or (map h zs) k [] ≡ h z
  line_at h zs k z e = get_or-map h zs k z [] (slice_get_within zs k z e) ∙ ap h (get_or_from_slice_get zs k z z e)

  -- the k-th element of the first list
  first_at : (k : ℕ) (x : A) → slice_get xs k ≡ Some x → (get_or all_lines (suc k) [] ≡ f x) × (suc k < length all_lines)
  first_at k x e =
      let within = slice_get_within xs k x e in (
        get_or_append_left (map f xs) (map g ys) [] k (omega (arith, length-map xs f)) ∙ line_at f xs k x e,
        omega (arith, long),
      )

  first_past : (k : ℕ) → slice_get xs k ≡ None → length xs ≤ k
  first_past k e = elim (slice_get_cases xs k).1 [
    | inl found ↦ absurd (let at = found.2 in cc)
    | inr past ↦ past.0
  ]

  -- and past the first list, of the second
  second_at : (k : ℕ) (y : B) → slice_get xs k ≡ None → slice_get ys (k - length xs) ≡ Some y → (get_or all_lines (suc k) [] ≡ g y) × (suc k < length all_lines)
  second_at k y none e =
      let past = first_past k none in
      let within = slice_get_within ys (k - length xs) y e in (
        get_or-append_right (map f xs) (map g ys) (length xs) k [] (length-map xs f) past ∙ line_at g ys (k - length xs) y e,
        omega (arith, long),
      )

  -- and past both none
  none_at : (k : ℕ) → slice_get xs k ≡ None → slice_get ys (k - length xs) ≡ None → length all_lines ≤ suc k
  none_at k none e =
      let past = first_past k none in
      elim (slice_get_cases ys (k - length xs)).1 [
        | inl found ↦ absurd (let at = found.2 in cc)
        | inr over ↦ omega (arith, long, over.0)
      ]

-- the lines after the first of the summary of the ticks below t
module _ (s : Script) (t k : ℕ) (some : 0 < k) where
  abbrev offer_text : ℕ × Wait → List ℕ
  offer_text w = offer_line w.0 w.1

  abbrev settled : List ℕ
  settled = settled_line (settled_below s t)

  more : suc (k - 1) ≡ k
  more = omega arith

  pub node_at : (n : NodeTotals) → slice_get (totals_below s t) (k - 1) ≡ Some n → (get_or (summary_lines_below s t) k [] ≡ node_line n) × (k < length (summary_lines_below s t))
  node_at n e =
      subst (λ (i : ℕ). (get_or (summary_lines_below s t) i [] ≡ node_line n) × (i < length (summary_lines_below s t))) more
      (first_at node_line offer_text settled (totals_below s t) (waits_below s t) (k - 1) n e)

  pub offer_at : (number : ℕ) (w : Wait) → slice_get (totals_below s t) (k - 1) ≡ None → slice_get (waits_below s t) (k - 1 - length (totals_below s t)) ≡ Some (number, w) →
      (get_or (summary_lines_below s t) k [] ≡ offer_line number w) × (k < length (summary_lines_below s t))
  offer_at number w none e =
      subst (λ (i : ℕ). (get_or (summary_lines_below s t) i [] ≡ offer_line number w) × (i < length (summary_lines_below s t))) more
      (second_at node_line offer_text settled (totals_below s t) (waits_below s t) (k - 1) (number, w) none e)

  pub none_left : slice_get (totals_below s t) (k - 1) ≡ None → slice_get (waits_below s t) (k - 1 - length (totals_below s t)) ≡ None → length (summary_lines_below s t) ≤ k
  none_left none e =
      subst (λ (i : ℕ). length (summary_lines_below s t) ≤ i) more
      (none_at node_line offer_text settled (totals_below s t) (waits_below s t) (k - 1) none e)
