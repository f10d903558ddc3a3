-- The next act of a tick: what is left to do after it.
use Rattle.std.proofs.Common.{◌≡◌, ℕ, suc, ◌<◌, ◌≤◌, max, ltb, ◌||◌, List, ◌∷◌, ◌++◌, length, map, Some, sym, ◌∙◌, ap, arith, subst}
use Rattle.std.proofs.lemmas.List.{map-append}
use Rattle.t1s_world.specs.Events.{SeesEvents}
use Rattle.t1s_world.proofs.EventLemmas.{SeesEvents-append}
use Rattle.t1s_script.specs.declared.script.Act.{Act}
use Rattle.t1s_script.specs.declared.script.Deed.{Deed}
use Rattle.t1s_line.specs.declared.offers.OfferState.{OfferState}
use Rattle.t1s_line.specs.declared.totals.NodeTotals.{NodeTotals}
use Rattle.t1s_line.specs.Acts.{Offer, offers_at, has_act, is_noisy}
use Rattle.t1s_line.specs.EventRecords.{EventRecord}
use Rattle.t1s_line.specs.Offers.{OfferRecord, after_offers, after_records, offer_event, records_of}
use Rattle.t1s_line.specs.Outcomes.{NodePhases}
use Rattle.t1s_line.specs.Totals.{after_refusals}
use Rattle.t1s_acts.specs.Upcoming.{AreComing, next_due, after_due, offers_of, noise_end}
use Rattle.t1s_acts.proofs.ActSteps.{IsDue, due, offers_due, offers_other, act_other, noise_done}
use Rattle.t1s_segment.proofs.OfferSteps.{after_offers-append, records_of-append, after_refusals-append, after_records-append}

module _ (t : ℕ) (upcoming : List Act) (deed : Deed) (next : next_due t upcoming ≡ Some deed) where
  found : IsDue t upcoming deed
  found = due t upcoming deed next

  abbrev pub rest : List Act
  rest = after_due t upcoming

  pub one_less : length rest < length upcoming
  one_less = let e : length upcoming ≡ suc (length rest) = ap (λ (acts : List Act). length acts) found.acts_are in omega (arith, e)

  pub coming_rest : AreComing t upcoming → AreComing t rest
  coming_rest coming =
      let both : AreComing t (found.act ∷ rest) = subst (λ (acts : List Act). AreComing t acts) found.acts_are coming in
      subst (λ (u : ℕ). AreComing u rest) found.tick both.1

  pub later_offers : (u : ℕ) → t < u → offers_at rest u ≡ offers_at upcoming u
  later_offers u lt =
      let tick = found.tick in
      sym (ap (λ (acts : List Act). offers_at acts u) found.acts_are ∙ offers_other found.act rest u (λ e. omega (arith, tick, e, lt)))

  pub later_acts : (u : ℕ) → t < u → has_act rest u ≡ has_act upcoming u
  later_acts u lt =
      let tick = found.tick in
      sym (ap (λ (acts : List Act). has_act acts u) found.acts_are ∙ act_other found.act rest u (λ e. omega (arith, tick, e, lt)))

  pub later_noise : (u until : ℕ) → t ≤ u → (is_noisy rest u || ltb u (max until (noise_end deed))) ≡ (is_noisy upcoming u || ltb u until)
  later_noise u until le =
      let tick = found.tick in
      ap (λ (d : Deed). is_noisy rest u || ltb u (max until (noise_end d))) (sym found.deed_is)
      ∙ (noise_done found.act rest u until (omega (arith, tick, le))
      ∙ ap (λ (acts : List Act). is_noisy acts u || ltb u until) (sym found.acts_are))

  offers_split : offers_at upcoming t ≡ offers_of deed ++ offers_at rest t
  offers_split =
      ap (λ (acts : List Act). offers_at acts t) found.acts_are
      ∙ (offers_due found.act rest t found.tick
      ∙ ap (λ (d : Deed). offers_of d ++ offers_at rest t) found.deed_is)

  module _ {N : Type 0} (p : NodePhases N) (nodes : List N) where
    pub nodes_split : after_offers p t (offers_at rest t) (after_offers p t (offers_of deed) nodes) ≡ after_offers p t (offers_at upcoming t) nodes
    nodes_split =
        sym (ap (λ (os : List Offer). after_offers p t os nodes) offers_split ∙ after_offers-append p t (offers_of deed) (offers_at rest t) nodes)

    records_split : records_of p t (offers_at upcoming t) nodes ≡ records_of p t (offers_of deed) nodes ++ records_of p t (offers_at rest t) (after_offers p t (offers_of deed) nodes)
    records_split =
        ap (λ (os : List Offer). records_of p t os nodes) offers_split ∙ records_of-append p t (offers_of deed) (offers_at rest t) nodes

    pub totals_split : (totals : List NodeTotals) → after_refusals (after_refusals totals (records_of p t (offers_of deed) nodes)) (records_of p t (offers_at rest t) (after_offers p t (offers_of deed) nodes)) ≡ after_refusals totals (records_of p t (offers_at upcoming t) nodes)
    totals_split totals =
        sym (ap (λ (rs : List OfferRecord). after_refusals totals rs) records_split
        ∙ after_refusals-append (records_of p t (offers_of deed) nodes) (records_of p t (offers_at rest t) (after_offers p t (offers_of deed) nodes)) totals)

    pub states_split : (k : ℕ) (state : OfferState) → after_records k (after_records k state (records_of p t (offers_of deed) nodes)) (records_of p t (offers_at rest t) (after_offers p t (offers_of deed) nodes)) ≡ after_records k state (records_of p t (offers_at upcoming t) nodes)
    states_split k state =
        sym (ap (λ (rs : List OfferRecord). after_records k state rs) records_split
        ∙ after_records-append k (records_of p t (offers_of deed) nodes) (records_of p t (offers_at rest t) (after_offers p t (offers_of deed) nodes)) state)

    pub events_split : {W : Type 0} (sees : W → EventRecord → W → Type 0) (w u v : W) → SeesEvents sees w (map offer_event (records_of p t (offers_of deed) nodes)) u → SeesEvents sees u (map offer_event (records_of p t (offers_at rest t) (after_offers p t (offers_of deed) nodes))) v → SeesEvents sees w (map offer_event (records_of p t (offers_at upcoming t) nodes)) v
    events_split {W} sees w u v here later =
        let one : List OfferRecord = records_of p t (offers_of deed) nodes in
        let more : List OfferRecord = records_of p t (offers_at rest t) (after_offers p t (offers_of deed) nodes) in
        subst (λ (es : List EventRecord). SeesEvents sees w es v)
        (sym (ap (λ (rs : List OfferRecord). map offer_event rs) records_split ∙ map-append offer_event one more))
        (SeesEvents-append sees w u v (map offer_event one) (map offer_event more) here later)
