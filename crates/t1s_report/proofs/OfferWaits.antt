-- The offers of a run stand in ascending number, and each is found by its number.
use Rattle.std.proofs.Common.{◌≡◌, ℕ, suc, ◌+◌, ◌<◌, ◌≤◌, Bool, true, false, List, [], ◌∷◌, map, length, All, refl, sym, ap, ◌∙◌, subst, arith, inl, inr, Option, Some, None, lt-ltb, eq-eqb, ne_eqb, slice_index, if◌then◌else◌}
use Rattle.std.specs.Prelude.{⊤, filter_map}
use Rattle.std.specs.Option.{option_map}
use Rattle.std.proofs.lemmas.Bool.{cases_eq}
use Rattle.t1s_script.specs.Limits.{most_acts}
use Rattle.t1s_script.specs.Script.{IsScript, IsAct, IsDeed, numbers_of, number_in, offer_number}
use Rattle.t1s_script.specs.declared.script.Script.{Script}
use Rattle.t1s_script.specs.declared.script.Act.{Act}
use Rattle.t1s_script.specs.declared.script.Deed.{Deed}
use Rattle.t1s_script.specs.declared.script.Deed.TheVariants.{Offer, Noise}
use Rattle.t1s_line.specs.declared.offers.Wait.{Wait}
use Rattle.t1s_line.specs.Offers.{is_offered}
use Rattle.t1s_line.specs.World.{wait_below}
use Rattle.t1s_report.specs.SummaryLines.{offers_of, numbered_wait, waits_below}
use Rattle.t1s_report.proofs.Ascending.{AscendFrom, ascend_from, ascend_lower, keyed_below, keyed_at}

abbrev pub number_of : ℕ × Wait → ℕ
number_of w = w.0

-- numbers from one on, up to the most acts
abbrev InRange : List ℕ → Type 0
InRange [] = ⊤
InRange (x ∷ xs) = (1 ≤ x) × (x ≤ most_acts) × InRange xs

first_in_range : (xs : List ℕ) → InRange xs → 0 < length xs → 1 ≤ slice_index xs 0
first_in_range [] h l = absurd (omega arith)
first_in_range (x ∷ xs) h l = h.0

module _ (numbers : List ℕ) (end : ℕ) where
  in_range : (acts : List Act) → All (IsAct numbers end) acts → InRange (filter_map offer_number acts)
  in_range [] h = tt
  in_range (a ∷ acts) h =
      let rest : InRange (filter_map offer_number acts) = in_range acts (λ k d l. h (suc k) d (omega arith)) in
      go a.deed refl rest
    where
      here : IsAct numbers end a
      here = h 0 a (omega arith)

      go : (d : Deed) → a.deed ≡ d → InRange (filter_map offer_number acts) → InRange (filter_map offer_number (a ∷ acts))
      go (Offer number node frame) e rest =
          let deed : IsDeed numbers a.tick (Offer number node frame) = subst (λ (d : Deed). IsDeed numbers a.tick d) e here.deed in
          rw e (deed.0, deed.1, rest)
      go (Noise until) e rest = rw e rest

module _ (s : Script) (t : ℕ) where
  -- ---- their numbers

  waits_ascend_from : (low : ℕ) (ns : List ℕ) → AscendFrom low ns → AscendFrom low (map number_of (filter_map (numbered_wait s t) ns))
  waits_ascend_from low [] h = tt
  waits_ascend_from low (n ∷ ns) h = go (wait_below s t n) refl (waits_ascend_from (n + 1) ns h.1)
    where
      go : (o : Option Wait) → wait_below s t n ≡ o → AscendFrom (n + 1) (map number_of (filter_map (numbered_wait s t) ns)) →
          AscendFrom low (map number_of (filter_map (numbered_wait s t) (n ∷ ns)))
      go None e rest = rw e (ascend_lower low (n + 1) (map number_of (filter_map (numbered_wait s t) ns)) (omega (arith, h.0)) rest)
      go (Some w) e rest = rw e (h.0, rest)

  waits_in_range : (ns : List ℕ) → InRange ns → keyed_below number_of (most_acts + 1) (filter_map (numbered_wait s t) ns) ≡ filter_map (numbered_wait s t) ns
  waits_in_range [] h = refl
  waits_in_range (n ∷ ns) h = go (wait_below s t n) refl (waits_in_range ns h.2)
    where
      go : (o : Option Wait) → wait_below s t n ≡ o → keyed_below number_of (most_acts + 1) (filter_map (numbered_wait s t) ns) ≡ filter_map (numbered_wait s t) ns →
          keyed_below number_of (most_acts + 1) (filter_map (numbered_wait s t) (n ∷ ns)) ≡ filter_map (numbered_wait s t) (n ∷ ns)
      go None e rest = rw e rest
      go (Some w) e rest =
          let low : n < most_acts + 1 = omega (arith, h.1) in
          rw (e, lt-ltb n (most_acts + 1) low) (ap (λ (r : List (ℕ × Wait)). (n, w) ∷ r) rest)

  pub waits_ascend : IsScript s → AscendFrom 1 (map number_of (waits_below s t))
  waits_ascend v =
      let range = in_range (numbers_of s.nodes) s.end s.acts v.acts in
      waits_ascend_from 1 (offers_of s) (ascend_from 1 (offers_of s) v.offers_in_order (first_in_range (offers_of s) range))

  pub waits_all_below : IsScript s → keyed_below number_of (most_acts + 1) (waits_below s t) ≡ waits_below s t
  waits_all_below v = waits_in_range (offers_of s) (in_range (numbers_of s.nodes) s.end s.acts v.acts)

  -- ---- each is found by its number

  module _ (i : ℕ) where
    abbrev found : Bool → Option (ℕ × Wait)
    found offered = if offered then numbered_wait s t i else None

    none_found : (b : Bool) → wait_below s t i ≡ None → found b ≡ None
    none_found true e = rw e refl
    none_found false e = refl

    found_among : (acts : List Act) → keyed_at number_of i (filter_map (numbered_wait s t) (filter_map offer_number acts)) ≡ found (is_offered acts i)
    found_among [] = refl
    found_among (a ∷ acts) = by_number (number_in a.deed) refl (found_among acts)
      where
        Found : List Act → Type 0
        Found acts = keyed_at number_of i (filter_map (numbered_wait s t) (filter_map offer_number acts)) ≡ found (is_offered acts i)

        by_wait : (n : ℕ) → number_in a.deed ≡ Some n → (o : Option Wait) → wait_below s t n ≡ o → Found acts → Found (a ∷ acts)
        by_wait n e (Some w) is rest = elim (cases_eq n i) [
          | inl same ↦
              let here : wait_below s t i ≡ Some w = subst (λ (m : ℕ). wait_below s t m ≡ Some w) same is in
              rw (e, is, eq-eqb n i same, here) (ap (λ (m : ℕ). Some (m, w)) same)
          | inr other ↦ rw (e, is, ne_eqb n i other) rest
        ]
        by_wait n e None is rest = elim (cases_eq n i) [
          | inl same ↦
              let here : wait_below s t i ≡ None = subst (λ (m : ℕ). wait_below s t m ≡ None) same is in
              rw (e, is, eq-eqb n i same) (rest ∙ (none_found (is_offered acts i) here ∙ sym (none_found true here)))
          | inr other ↦ rw (e, is, ne_eqb n i other) rest
        ]

        by_number : (o : Option ℕ) → number_in a.deed ≡ o → Found acts → Found (a ∷ acts)
        by_number None e rest = rw e rest
        by_number (Some n) e rest = by_wait n e (wait_below s t n) refl rest

    pub wait_found : keyed_at number_of i (waits_below s t) ≡ numbered_wait s t i
    unfolding wait_below
    wait_found = found_among s.acts ∙ whole (is_offered s.acts i) refl
      where
        whole : (b : Bool) → is_offered s.acts i ≡ b → found b ≡ numbered_wait s t i
        whole true e = refl
        whole false e = rw e refl

  pub found_wait : (i : ℕ) (w : Wait) → wait_below s t i ≡ Some w → keyed_at number_of i (waits_below s t) ≡ Some (i, w)
  found_wait i w e = wait_found i ∙ ap (option_map (λ (wait : Wait). (i, wait))) e

  pub missed_wait : (i : ℕ) → wait_below s t i ≡ None → keyed_at number_of i (waits_below s t) ≡ None
  missed_wait i e = wait_found i ∙ ap (option_map (λ (wait : Wait). (i, wait))) e
