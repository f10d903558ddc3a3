-- A tick of nodes among acts: they are offered what is due, and then drive and hear as they would without acts.
use Rattle.std.proofs.Common.{◌≡◌, ℕ, suc, ◌+◌, inl, inr, true, false, cond, eqb, List, [], ◌∷◌, map, filter_map, Option, refl, sym, ◌∙◌, ap, rules}
use Rattle.std.proofs.lemmas.Bool.{cases_eq}
use Rattle.std.proofs.lemmas.Bool.Decides.{nat_tests}
use Rattle.std.proofs.lemmas.Simd.{map-map}
use Rattle.t1s_symbols.specs.declared.Heard.{Heard}
use Rattle.t1s_symbols.specs.declared.Quarter.{Quarter}
use Rattle.t1s_ring.specs.declared.queued.Queued.{Queued}
use Rattle.t1s_world.specs.Hearing.{heard}
use Rattle.t1s_world.specs.World.{Machine, Past, past, at_depth, after_drive, drive_outcomes, row_of, after_hear, hear_outcomes}
use Rattle.t1s_world.proofs.WorldLemmas.{past-suc, past_keeps}
use Rattle.t1s_script.specs.Script.{numbers_of}
use Rattle.t1s_script.specs.declared.script.Act.{Act}
use Rattle.t1s_script.specs.declared.script.NodeLine.{NodeLine}
use Rattle.t1s_line.specs.Acts.{Offer, queued_to, offers_at, offers_to, is_noisy}
use Rattle.t1s_line.specs.Offers.{after_offer, after_offers, records_of}
use Rattle.t1s_line.specs.Outcomes.{DriveOutcome, HearOutcome, NodePhases, KeepsNumber, with_offers, machine_with}
use Rattle.t1s_line.specs.Runs.{taps_in, nodes_in, records_in, drives_in, hearings_in}
use Rattle.t1s_segment.specs.Numbers.{AreNumbered}
use Rattle.t1s_segment.specs.State.{two_phases, under_noise}
use Rattle.t1s_segment.proofs.OfferSteps.{map_same}

pub map_self : {X : Type 0} (f : X → X) → ((x : X) → f x ≡ x) → (xs : List X) → map f xs ≡ xs
map_self f same [] = refl
map_self f same (x ∷ xs) = let e = same x in let rest = map_self f same xs in rw (e, rest) refl

module _ {N : Type 0} (p : NodePhases N) where
  with_number : KeepsNumber p → (t : ℕ) (qs : List Queued) (n : N) → p.number (with_offers p t qs n) ≡ p.number n
  with_number keeps t [] n = refl
  with_number keeps t (q ∷ qs) n = with_number keeps t qs (p.offer t q n).0 ∙ keeps t q n

  module _ (keeps : KeepsNumber p) (t : ℕ) where
    -- the offers that are for a node
    abbrev for_node : List Offer → N → List Queued
    for_node os n = filter_map (queued_to (p.number n)) os

    first_offer : (o : Offer) (os : List Offer) (n : N) → with_offers p t (for_node os (cond (eqb (p.number n) o.node) (p.offer t o.queued n).0 n)) (cond (eqb (p.number n) o.node) (p.offer t o.queued n).0 n) ≡ with_offers p t (for_node (o ∷ os) n) n
    first_offer o os n = elim (cases_eq (p.number n) o.node) [
      | inl same ↦
          let here : eqb (p.number n) o.node ≡ true = search (rules, nat_tests) in
          let turned : o.node ≡ p.number n = sym same in
          let there : eqb o.node (p.number n) ≡ true = search (rules, nat_tests) in
          let kept = keeps t o.queued n in
          rw (here, there, kept) refl
      | inr other ↦
          let here : eqb (p.number n) o.node ≡ false = search (rules, nat_tests) in
          let turned : o.node ≡ p.number n → ⊥ = λ e. other (sym e) in
          let there : eqb o.node (p.number n) ≡ false = search (rules, nat_tests) in
          rw (here, there) refl
    ]

    -- all nodes after offers, node by node
    offers_given : (os : List Offer) (nodes : List N) → after_offers p t os nodes ≡ map (λ n. with_offers p t (for_node os n) n) nodes
    offers_given [] nodes = sym (map_self (λ n. n) (λ n. refl) nodes)
    offers_given (o ∷ os) nodes =
        let step : N → N = λ n. cond (eqb (p.number n) o.node) (p.offer t o.queued n).0 n in
        offers_given os (after_offer p t o nodes)
        ∙ (map-map (λ n. with_offers p t (for_node os n) n) step nodes
        ∙ map_same (λ n. with_offers p t (for_node os (step n)) (step n)) (λ n. with_offers p t (for_node (o ∷ os) n) n) (first_offer o os) nodes)

  module _ (acts : List Act) (t : ℕ) where
    -- the hear phase, in the noise of the tick
    after_hear_noise : (h : ℕ → Heard) (s : ℕ) (nodes : List N) → after_hear (machine_with p acts) t h s nodes ≡ after_hear (two_phases p) t (λ j. under_noise (is_noisy acts t) (h j)) s nodes
    after_hear_noise h s [] = refl
    after_hear_noise h s (n ∷ nodes) = let rest = after_hear_noise h (s + 1) nodes in rw rest refl

    hear_outcomes_noise : (h : ℕ → Heard) (s : ℕ) (nodes : List N) → hear_outcomes (machine_with p acts) t h s nodes ≡ hear_outcomes (two_phases p) t (λ j. under_noise (is_noisy acts t) (h j)) s nodes
    hear_outcomes_noise h s [] = refl
    hear_outcomes_noise h s (n ∷ nodes) = let rest = hear_outcomes_noise h (s + 1) nodes in rw rest refl

    module _ (keeps : KeepsNumber p) (nodes : List N) where
      abbrev given : N → N
      given n = with_offers p t (offers_to acts t (p.number n)) n

      given_are : after_offers p t (offers_at acts t) nodes ≡ map given nodes
      given_are = offers_given keeps t (offers_at acts t) nodes

      drive_given : after_drive (machine_with p acts) t nodes ≡ after_drive (two_phases p) t (after_offers p t (offers_at acts t) nodes)
      drive_given = sym (ap (λ (ns : List N). after_drive (two_phases p) t ns) given_are ∙ map-map (λ n. (p.drive t n).0) given nodes)

      outcomes_given : drive_outcomes (machine_with p acts) t nodes ≡ drive_outcomes (two_phases p) t (after_offers p t (offers_at acts t) nodes)
      outcomes_given = sym (ap (λ (ns : List N). drive_outcomes (two_phases p) t ns) given_are ∙ map-map (λ n. (p.drive t n).1) given nodes)

      row_given : row_of (machine_with p acts) t nodes ≡ row_of (two_phases p) t (after_offers p t (offers_at acts t) nodes)
      row_given = sym (ap (λ (ns : List N). row_of (two_phases p) t ns) given_are ∙ map-map (λ n. (p.drive t n).1.quarter) given nodes)

  -- ---- the run

  module _ (acts : List Act) (lines : List NodeLine) (first : List N) (numbered : AreNumbered p lines first) where
    -- the nodes keep their numbers
    pub numbers_stay : (t : ℕ) → map p.number (nodes_in p acts lines first t) ≡ numbers_of lines
    numbers_stay t =
        past_keeps (machine_with p acts) (taps_in lines) first p.number
        (λ u n. numbered.driving u (with_offers p u (offers_to acts u (p.number n)) n) ∙ with_number numbered.offering u (offers_to acts u (p.number n)) n)
        (λ u h n. numbered.hearing u (under_noise (is_noisy acts u) h) n) t
        ∙ numbered.each

    module _ (t : ℕ) where
      -- the nodes after the offers of the tick, and after the drive phase, the rows, and what they hear
      abbrev pub offered : List N
      offered = after_offers p t (offers_at acts t) (nodes_in p acts lines first t)

      abbrev pub driven : List N
      driven = after_drive (two_phases p) t offered

      abbrev pub rows_on : List (List (Option Quarter))
      rows_on = row_of (two_phases p) t offered ∷ (past (machine_with p acts) (taps_in lines) first t).rows

      abbrev pub hears : ℕ → Heard
      hears j = under_noise (is_noisy acts t) (heard (at_depth rows_on) (taps_in lines) j)

      pub records_are : records_in p acts lines first t ≡ records_of p t (offers_at acts t) (nodes_in p acts lines first t)
      unfolding records_in
      records_are = refl

      pub drives_are : drives_in p acts lines first t ≡ drive_outcomes (two_phases p) t offered
      unfolding drives_in
      drives_are = outcomes_given acts t numbered.offering (nodes_in p acts lines first t)

      pub rows_are : (past (machine_with p acts) (taps_in lines) first (suc t)).rows ≡ rows_on
      rows_are =
          ap (λ (q : Past N). q.rows) (past-suc (machine_with p acts) (taps_in lines) first t)
          ∙ ap (λ (row : List (Option Quarter)). row ∷ (past (machine_with p acts) (taps_in lines) first t).rows) (row_given acts t numbered.offering (nodes_in p acts lines first t))

      pub hearings_are : hearings_in p acts lines first t ≡ hear_outcomes (two_phases p) t hears 0 driven
      unfolding hearings_in
      hearings_are =
          let m : Machine N DriveOutcome HearOutcome = machine_with p acts in
          let before : List N = nodes_in p acts lines first t in
          ap (λ (rs : List (List (Option Quarter))). hear_outcomes m t (heard (at_depth rs) (taps_in lines)) 0 (after_drive m t before)) rows_are
          ∙ (ap (λ (ns : List N). hear_outcomes m t (heard (at_depth rows_on) (taps_in lines)) 0 ns) (drive_given acts t numbered.offering before)
          ∙ hear_outcomes_noise acts t (heard (at_depth rows_on) (taps_in lines)) 0 driven)

      pub nodes_are : nodes_in p acts lines first (suc t) ≡ after_hear (two_phases p) t hears 0 driven
      nodes_are =
          let m : Machine N DriveOutcome HearOutcome = machine_with p acts in
          let before : List N = nodes_in p acts lines first t in
          let rows : List (List (Option Quarter)) = row_of m t before ∷ (past m (taps_in lines) first t).rows in
          ap (λ (q : Past N). q.nodes) (past-suc m (taps_in lines) first t)
          ∙ (ap (λ (r : List (Option Quarter)). after_hear m t (heard (at_depth (r ∷ (past m (taps_in lines) first t).rows)) (taps_in lines)) 0 (after_drive m t before)) (row_given acts t numbered.offering before)
          ∙ (ap (λ (ns : List N). after_hear m t (heard (at_depth rows_on) (taps_in lines)) 0 ns) (drive_given acts t numbered.offering before)
          ∙ after_hear_noise acts t (heard (at_depth rows_on) (taps_in lines)) 0 driven))
