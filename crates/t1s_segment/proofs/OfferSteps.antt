-- What one offer changes: the node of its number, its totals, and how the offer stands.
use Rattle.std.proofs.Common.{◌≡◌, ℕ, ◌<◌, inl, inr, true, false, cond, eqb, List, [], ◌∷◌, ◌++◌, length, get_or, map, set, position, Some, None, refl, sym, ◌∙◌, ap, arith, rules, append_assoc}
use Rattle.std.specs.Prelude.{◌==◌}
use Rattle.std.proofs.lemmas.Bool.{cases_eq, eqb-true}
use Rattle.std.proofs.lemmas.Bool.Decides.{nat_tests}
use Rattle.std.proofs.lemmas.List.{length-map}
use Rattle.std.proofs.lemmas.List.Quantifiers.{position-Some}
use Rattle.t1s_world.proofs.ListLemmas.{position-map}
use Rattle.t1s_line.specs.declared.offers.OfferOutcome.{OfferOutcome}
use Rattle.t1s_line.specs.declared.offers.OfferState.{OfferState}
use Rattle.t1s_line.specs.declared.totals.NodeTotals.{NodeTotals}
use Rattle.t1s_line.specs.Acts.{Offer}
use Rattle.t1s_line.specs.Offers.{OfferRecord, after_offer, after_offers, offer_record, records_of_offer, records_of, after_records}
use Rattle.t1s_line.specs.Outcomes.{NodePhases, KeepsNumber}
use Rattle.t1s_line.specs.Totals.{counted, is_full, after_refusal, after_refusals}
use Rattle.t1s_line.proofs.RunLemmas.{numbers-refusals}
use Rattle.t1s_segment.specs.Numbers.{HaveTotals}
use Rattle.t1s_segment.proofs.Numbered.{NoneHas, OnlyHas, only_one, none_passes, none_changed, one_changed, none_told, one_told, number_at}

-- ---- maps

pub map_same : {X Y : Type 0} (f g : X → Y) → ((x : X) → f x ≡ g x) → (xs : List X) → map f xs ≡ map g xs
map_same f g same [] = refl
map_same f g same (x ∷ xs) = let e = same x in let rest = map_same f g same xs in rw (e, rest) refl

-- ---- the totals

abbrev refused : OfferOutcome → NodeTotals → NodeTotals
refused outcome n = record n { full = counted n.full (is_full outcome) }

refusal_here : (r : OfferRecord) (n : NodeTotals) → after_refusal r n ≡ cond (eqb n.node r.node) (refused r.outcome n) n
refusal_here r n = elim (cases_eq n.node r.node) [
  | inl same ↦
      let there : eqb r.node n.node ≡ true = search (rules, nat_tests) in
      let here : eqb n.node r.node ≡ true = search (rules, nat_tests) in
      rw (there, here) refl
  | inr other ↦
      let turned : r.node ≡ n.node → ⊥ = λ e. other (sym e) in
      let there : eqb r.node n.node ≡ false = search (rules, nat_tests) in
      let here : eqb n.node r.node ≡ false = search (rules, nat_tests) in
      rw (there, here) refl
]

module _ {N : Type 0} (p : NodePhases N) (t : ℕ) where
  -- ---- one offer

  module _ (o : Offer) (nodes : List N) (totals : List NodeTotals) (have : HaveTotals p nodes totals) where
    sizes : length nodes ≡ length totals
    sizes = sym (length-map nodes p.number) ∙ (ap (λ (ns : List ℕ). length ns) have.each ∙ length-map totals (λ (n : NodeTotals). n.node))

    -- no node has its number
    module _ (none : position (λ (n : NodeTotals). n.node == o.node) totals ≡ None) where
      no_number : (j : ℕ) → j < length (map (λ (n : NodeTotals). n.node) totals) → eqb (get_or (map (λ (n : NodeTotals). n.node) totals) j 0) o.node ≡ false
      no_number = none_passes (λ m. eqb m o.node) (map (λ (n : NodeTotals). n.node) totals) (position-map (λ (n : NodeTotals). n.node) (λ m. eqb m o.node) totals ∙ none)

      no_node : NoneHas p.number o.node nodes
      no_node j lt = rw have.each (no_number j (omega (arith, sizes, length-map totals (λ (n : NodeTotals). n.node))))

      pub no_nodes : after_offers p t (o ∷ []) nodes ≡ nodes
      no_nodes = none_changed p.number o.node (λ n. (p.offer t o.queued n).0) nodes no_node

      pub no_records : records_of p t (o ∷ []) nodes ≡ []
      no_records = ap (λ (r : List OfferRecord). r ++ []) (none_told p.number o.node (offer_record p t o) nodes no_node)

    -- the node at i has
    module _ (i : ℕ) (found : position (λ (n : NodeTotals). n.node == o.node) totals ≡ Some i) (x : N) (is : x ≡ get_or nodes i x) where
      abbrev numbers : List ℕ
      numbers = map (λ (n : NodeTotals). n.node) totals

      at : (i < length numbers) × (eqb (get_or numbers i 0) o.node ≡ true)
      at =
          let all = position-Some (λ m. eqb m o.node) numbers i 0 (position-map (λ (n : NodeTotals). n.node) (λ m. eqb m o.node) totals ∙ found) in
          (all.0, all.1)

      within : i < length totals
      within = omega (arith, at.0, length-map totals (λ (n : NodeTotals). n.node))

      number_is : get_or numbers i 0 ≡ o.node
      number_is = eqb-true (get_or numbers i 0) o.node at.1

      x_number : eqb (p.number x) o.node ≡ true
      x_number = rw (← number_at p.number nodes i x (omega (arith, within, sizes)) is, have.each) at.1

      only_node : OnlyHas p.number o.node nodes i
      only_node = only_one p.number o.node nodes i (rw have.each have.ascending) (omega (arith, within, sizes)) (rw have.each number_is)

      only_totals : OnlyHas (λ (n : NodeTotals). n.node) o.node totals i
      only_totals = only_one (λ (n : NodeTotals). n.node) o.node totals i have.ascending within number_is

      pub one_node : set nodes i (p.offer t o.queued x).0 ≡ after_offers p t (o ∷ []) nodes
      one_node = one_changed p.number o.node (λ n. (p.offer t o.queued n).0) nodes i x (omega (arith, within, sizes)) is x_number only_node

      pub one_record : records_of p t (o ∷ []) nodes ≡ offer_record p t o x ∷ []
      one_record = ap (λ (r : List OfferRecord). r ++ []) (one_told p.number o.node (offer_record p t o) nodes i x (omega (arith, within, sizes)) is x_number only_node)

      pub one_refused : (n : NodeTotals) → n ≡ get_or totals i n → set totals i (refused (p.offer t o.queued x).1 n) ≡ after_refusals totals (records_of p t (o ∷ []) nodes)
      one_refused n here =
          let r : OfferRecord = offer_record p t o x in
          let node : eqb n.node o.node ≡ true = rw (← number_at (λ (n : NodeTotals). n.node) totals i n within here) at.1 in
          rw one_record
          (one_changed (λ (n : NodeTotals). n.node) o.node (refused r.outcome) totals i n within here node only_totals
          ∙ sym (map_same (after_refusal r) (λ (n : NodeTotals). cond (eqb n.node o.node) (refused r.outcome n) n) (refusal_here r) totals))

  -- ---- offers one after another

  pub after_offers-append : (os more : List Offer) (nodes : List N) → after_offers p t (os ++ more) nodes ≡ after_offers p t more (after_offers p t os nodes)
  after_offers-append [] more nodes = refl
  after_offers-append (o ∷ os) more nodes = after_offers-append os more (after_offer p t o nodes)

  pub records_of-append : (os more : List Offer) (nodes : List N) → records_of p t (os ++ more) nodes ≡ records_of p t os nodes ++ records_of p t more (after_offers p t os nodes)
  records_of-append [] more nodes = refl
  records_of-append (o ∷ os) more nodes =
      let here : List OfferRecord = records_of_offer p t o nodes in
      let next : List N = after_offer p t o nodes in
      ap (λ (r : List OfferRecord). here ++ r) (records_of-append os more next)
      ∙ sym (append_assoc here (records_of p t os next) (records_of p t more (after_offers p t os next)))

  -- no offer changes the number of a node
  offer_number : KeepsNumber p → (o : Offer) (nodes : List N) → map p.number (after_offer p t o nodes) ≡ map p.number nodes
  offer_number keeps o [] = refl
  offer_number keeps o (n ∷ nodes) =
      let rest = offer_number keeps o nodes in
      elim (cases_eq (p.number n) o.node) [
        | inl same ↦
            let b : eqb (p.number n) o.node ≡ true = search (rules, nat_tests) in
            let e = keeps t o.queued n in
            rw (b, e, rest) refl
        | inr other ↦
            let b : eqb (p.number n) o.node ≡ false = search (rules, nat_tests) in
            rw (b, rest) refl
      ]

  pub offers_number : KeepsNumber p → (os : List Offer) (nodes : List N) → map p.number (after_offers p t os nodes) ≡ map p.number nodes
  offers_number keeps [] nodes = refl
  offers_number keeps (o ∷ os) nodes = offers_number keeps os (after_offer p t o nodes) ∙ offer_number keeps o nodes

  pub still_have : (os : List Offer) (nodes : List N) (totals : List NodeTotals) → HaveTotals p nodes totals → HaveTotals p (after_offers p t os nodes) (after_refusals totals (records_of p t os nodes))
  still_have os nodes totals have =
      let told = numbers-refusals (records_of p t os nodes) totals in
      record {
        each = offers_number have.offering os nodes ∙ (have.each ∙ sym told);
        ascending = rw told have.ascending;
        offering = have.offering;
      }

pub after_refusals-append : (rs more : List OfferRecord) (totals : List NodeTotals) → after_refusals totals (rs ++ more) ≡ after_refusals (after_refusals totals rs) more
after_refusals-append [] more totals = refl
after_refusals-append (r ∷ rs) more totals = after_refusals-append rs more (map (after_refusal r) totals)

pub after_records-append : (k : ℕ) (rs more : List OfferRecord) (state : OfferState) → after_records k state (rs ++ more) ≡ after_records k (after_records k state rs) more
after_records-append k [] more state = refl
after_records-append k (r ∷ rs) more state = after_records-append k rs more _
