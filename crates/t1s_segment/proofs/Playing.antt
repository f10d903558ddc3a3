-- An engine plays the run of its nodes: at its start, and one tick later.
use Rattle.std.proofs.Common.{◌++◌, ◌≡◌, ℕ, zero, suc, ◌+◌, ◌<◌, ◌≤◌, ◌||◌, ltb, Bool, true, false, List, [], ◌∷◌, length, get_or, map, position, Option, None, refl, sym, ◌∙◌, ap, arith, rules, add-one, append_assoc, subst}
use Rattle.std.specs.Prelude.{◌==◌}
use Rattle.std.specs.List.Sorted.{IsNonDecreasing}
use Rattle.std.specs.Option.{option_map}
use Rattle.std.proofs.lemmas.Bool.Decides.{nat_tests}
use Rattle.std.proofs.lemmas.List.{length-map}
use Rattle.t1s_harness.specs.declared.Tap.{Tap}
use Rattle.t1s_symbols.specs.declared.Heard.{Heard}
use Rattle.t1s_symbols.specs.declared.Heard.TheVariants.{Nothing}
use Rattle.t1s_symbols.specs.declared.Quarter.{Quarter}
use Rattle.t1s_world.specs.Events.{SeesEvents}
use Rattle.t1s_world.specs.Hearing.{heard}
use Rattle.t1s_world.specs.Lists.{each_with}
use Rattle.t1s_world.specs.World.{Past, past, at_depth, after_drive, after_hear, row_of, drive_outcomes, hear_outcomes}
use Rattle.t1s_world.proofs.ListLemmas.{position-map}
use Rattle.t1s_world.proofs.WorldLemmas.{past-zero}
use Rattle.t1s_cable.specs.Stands.{Stands as CableStands, no_puts}
use Rattle.t1s_cable.specs.State.{CableState}
use Rattle.t1s_script.specs.declared.script.Act.{Act}
use Rattle.t1s_script.specs.declared.script.NodeLine.{NodeLine}
use Rattle.t1s_line.specs.declared.offers.OfferState.TheVariants.{Unknown}
use Rattle.t1s_line.specs.declared.totals.NodeTotals.{NodeTotals}
use Rattle.t1s_line.specs.Acts.{has_act, is_noisy, offers_at}
use Rattle.t1s_line.specs.EventRecords.{EventRecord}
use Rattle.t1s_line.specs.Offers.{OfferRecord, after_leaves, after_offers, after_records, first_state, offer_event, records_of}
use Rattle.t1s_line.specs.Outcomes.{DriveOutcome, HearOutcome, NodePhases, machine_with}
use Rattle.t1s_line.specs.Totals.{after_driving, after_hearing, after_refusals, no_totals}
use Rattle.t1s_line.specs.Runs.{are_ok, drive_events_of, drives_in, events_in, hear_events_of, hearings_in, heard_below, heard_tick, last_heard_in, nodes_in, taps_in, records_in, totals_in}
use Rattle.t1s_line.proofs.RunLemmas.{numbers-totals, settled-zero, settled-more, totals-zero, totals-more, state-zero, state-more, heard-zero, heard-more}
use Rattle.t1s_segment.specs.Numbers.{AreNumbered, AwaitActs}
use Rattle.t1s_segment.specs.State.{EngineState, settled_after, two_phases, under_noise}
use Rattle.t1s_segment.specs.Stands.{Plays}
use Rattle.t1s_acts.specs.Upcoming.{AreComing}
use Rattle.t1s_acts.proofs.ActSteps.{coming_first, no_noise}
use Rattle.t1s_segment.proofs.OfferedTicks.{numbers_stay, offered, driven, rows_on, hears, records_are, drives_are, rows_are, hearings_are, nodes_are}

or_false : (b : Bool) → (b || false) ≡ b
or_false true = refl
or_false false = refl

-- no noise has begun
no_noise_yet : (b : Bool) (u : ℕ) → (b || ltb u 0) ≡ b
no_noise_yet b u = let none : ltb u 0 ≡ false = search (rules, nat_tests) in rw none (or_false b)

module _ {N : Type 0} (p : NodePhases N) where
  -- there is a line for each node
  pub length_numbered : (lines : List NodeLine) (nodes : List N) → AreNumbered p lines nodes → length nodes ≡ length lines
  length_numbered lines nodes numbered =
      sym (length-map nodes p.number) ∙ (ap (λ (ns : List ℕ). length ns) numbered.each ∙ length-map lines (λ (n : NodeLine). n.no))

  -- the nodes of an engine after the offers of its tick, what became of these, and what its nodes hear
  abbrev pub given : EngineState N → List N
  given g = after_offers p g.tick (offers_at g.upcoming g.tick) g.nodes

  abbrev pub told : EngineState N → List OfferRecord
  told g = records_of p g.tick (offers_at g.upcoming g.tick) g.nodes

  abbrev pub brought : EngineState N → ℕ → List (List (Option Quarter)) → ℕ → Heard
  brought g until rows j = under_noise (ltb g.tick until) (heard (at_depth rows) g.cable.taps j)

  abbrev pub Awaits : EngineState N → Type 0
  Awaits g = AwaitActs p g.tick g.nodes g.totals g.upcoming

  -- what one tick leaves of an engine, field by field. The nodes hear a cable whose history has the row of the tick, and the cable
  -- that is left has the empty row of the next one before it
  pub record TickStep (g h : EngineState N) : Type 0 where
    pub driven_on : CableState
    pub tick : h.tick ≡ g.tick + 1
    pub end : h.end ≡ g.end
    pub taps : h.cable.taps ≡ g.cable.taps
    pub coming : AreComing g.tick g.upcoming → AreComing (g.tick + 1) h.upcoming
    pub due : AreComing g.tick g.upcoming → (u : ℕ) → g.tick < u → has_act h.upcoming u ≡ has_act g.upcoming u
    pub offers : AreComing g.tick g.upcoming → (u : ℕ) → g.tick < u → offers_at h.upcoming u ≡ offers_at g.upcoming u
    pub noise : AreComing g.tick g.upcoming → (u : ℕ) → g.tick ≤ u → (is_noisy h.upcoming u || ltb u h.noise_until) ≡ (is_noisy g.upcoming u || ltb u g.noise_until)
    pub drives_on : Awaits g → (past : List (List (Option Quarter))) → CableStands (no_puts g.cable.taps ∷ past) g.cable → CableStands (row_of (two_phases p) g.tick (given g) ∷ past) driven_on
    pub turns : (rows : List (List (Option Quarter))) → CableStands rows driven_on → CableStands (no_puts g.cable.taps ∷ rows) h.cable
    pub nodes : Awaits g → (rows : List (List (Option Quarter))) → CableStands rows driven_on → h.nodes ≡ after_hear (two_phases p) g.tick (brought g h.noise_until rows) 0 (after_drive (two_phases p) g.tick (given g))
    pub settled : Awaits g → h.settled ≡ settled_after g.settled g.tick (are_ok (drive_outcomes (two_phases p) g.tick (given g)))
    pub totals : Awaits g → (rows : List (List (Option Quarter))) → CableStands rows driven_on → h.totals ≡ each_with after_hearing (each_with after_driving (after_refusals g.totals (told g)) (drive_outcomes (two_phases p) g.tick (given g))) (hear_outcomes (two_phases p) g.tick (brought g h.noise_until rows) 0 (after_drive (two_phases p) g.tick (given g)))
    pub states : Awaits g → (k : ℕ) → get_or h.states k Unknown ≡ after_leaves g.tick k (after_records k (get_or g.states k Unknown) (told g)) (drive_outcomes (two_phases p) g.tick (given g))
    pub heard : Awaits g → (rows : List (List (Option Quarter))) → CableStands rows driven_on → h.heard ≡ map heard_tick (hear_outcomes (two_phases p) g.tick (brought g h.noise_until rows) 0 (after_drive (two_phases p) g.tick (given g)))

  module _ (acts : List Act) (lines : List NodeLine) (first : List N) (end : ℕ) where
    -- a new engine plays the run at tick 0
    pub plays_first : (g : EngineState N) → AreNumbered p lines first → IsNonDecreasing (map (λ (a : Act). a.tick) acts) → g.tick ≡ 0 → g.end ≡ end → g.settled ≡ None → g.upcoming ≡ acts → g.noise_until ≡ 0 → g.cable.taps ≡ taps_in lines → g.nodes ≡ first → CableStands (no_puts (taps_in lines) ∷ []) g.cable → g.totals ≡ map (λ (n : NodeLine). no_totals n.no) lines → ((k : ℕ) → get_or g.states k Unknown ≡ first_state acts k) → g.heard ≡ map (λ (n : NodeLine). (Nothing, false)) lines → Plays p acts lines first end 0 g
    plays_first g numbered order tick end_is settled upcoming quiet taps nodes cable totals states heard =
        let start = past-zero (machine_with p acts) (taps_in lines) first in
        record {
          in_time = omega arith;
          tick = tick;
          end_is = end_is;
          taps = taps;
          numbered = numbered;
          coming = rw upcoming (coming_first 0 acts order (λ some. omega arith));
          due = λ u le. rw upcoming refl;
          offers = λ u le. rw upcoming refl;
          noise = λ u le. rw (upcoming, quiet) (no_noise_yet (is_noisy acts u) u);
          nodes = nodes ∙ sym (ap (λ (q : Past N). q.nodes) start);
          cable = subst (λ (q : Past N). CableStands (no_puts (taps_in lines) ∷ q.rows) g.cable) (sym start) cable;
          settled = rw (settled-zero p acts lines first) settled;
          totals = rw (totals-zero p acts lines first) totals;
          states = λ k. states k ∙ sym (state-zero p acts lines first k);
          heard = rw (heard-zero p acts lines first) heard;
        }

    module _ (t : ℕ) (g : EngineState N) (plays : Plays p acts lines first end t g) where
      -- the acts of the tick are those that the engine still has to come
      pub awaits : Awaits g
      awaits = record {
        have = record {
          each = rw (plays.nodes, plays.totals) (numbers_stay p acts lines first plays.numbered t ∙ sym (numbers-totals p acts lines first t));
          ascending = rw (plays.totals, numbers-totals p acts lines first t) plays.numbered.ascending;
          offering = plays.numbered.offering;
        };
        coming = rw plays.tick plays.coming;
      }

      due : offers_at g.upcoming g.tick ≡ offers_at acts t
      due = rw plays.tick (plays.offers t (omega arith))

      given_is : given g ≡ offered p acts lines first plays.numbered t
      given_is = rw (due, plays.tick, plays.nodes) refl

      told_is : told g ≡ records_in p acts lines first t
      told_is = rw (due, plays.tick, plays.nodes) (sym (records_are p acts lines first plays.numbered t))

      drives_is : drive_outcomes (two_phases p) g.tick (given g) ≡ drives_in p acts lines first t
      drives_is =
          ap (λ (u : ℕ). drive_outcomes (two_phases p) u (given g)) plays.tick
          ∙ (ap (λ (ns : List N). drive_outcomes (two_phases p) t ns) given_is
          ∙ sym (drives_are p acts lines first plays.numbered t))

      driven_is : after_drive (two_phases p) g.tick (given g) ≡ driven p acts lines first plays.numbered t
      driven_is =
          ap (λ (u : ℕ). after_drive (two_phases p) u (given g)) plays.tick ∙ ap (λ (ns : List N). after_drive (two_phases p) t ns) given_is

      row_is : row_of (two_phases p) g.tick (given g) ≡ row_of (two_phases p) t (offered p acts lines first plays.numbered t)
      row_is =
          ap (λ (u : ℕ). row_of (two_phases p) u (given g)) plays.tick ∙ ap (λ (ns : List N). row_of (two_phases p) t ns) given_is

      module _ (h : EngineState N) (ticked : TickStep g h) where
        -- in the tick there is a noise where the last one that has begun has not ended
        noisy_is : ltb g.tick h.noise_until ≡ is_noisy acts t
        noisy_is =
            let quiet = no_noise (g.tick + 1) g.tick h.upcoming (omega arith) (ticked.coming awaits.coming) in
            let here = ticked.noise awaits.coming g.tick (omega arith) in
            let lasts : (is_noisy g.upcoming g.tick || ltb g.tick g.noise_until) ≡ is_noisy acts t = rw plays.tick (plays.noise t (omega arith)) in
            (rw quiet at here) ∙ lasts

        abbrev pub history : List (List (Option Quarter))
        history = rows_on p acts lines first plays.numbered t

        pub keeps : CableStands history ticked.driven_on
        keeps =
            let old : List (List (Option Quarter)) = (past (machine_with p acts) (taps_in lines) first t).rows in
            subst (λ (row : List (Option Quarter)). CableStands (row ∷ old) ticked.driven_on) row_is
            (ticked.drives_on awaits old (subst (λ (taps : List Tap). CableStands (no_puts taps ∷ old) g.cable) (sym plays.taps) plays.cable))

        brought_is : brought g h.noise_until history ≡ hears p acts lines first plays.numbered t
        brought_is =
            let hear : Bool → (ℕ → ℕ → Option Quarter) → List Tap → ℕ → Heard = λ noisy at taps j. under_noise noisy (heard at taps j) in
            ap (λ (noisy : Bool). hear noisy (at_depth history) g.cable.taps) noisy_is
            ∙ ap (λ (taps : List Tap). hear (is_noisy acts t) (at_depth history) taps) plays.taps

        hearings_is : hear_outcomes (two_phases p) g.tick (brought g h.noise_until history) 0 (after_drive (two_phases p) g.tick (given g)) ≡ hearings_in p acts lines first t
        hearings_is =
            ap (λ (h : ℕ → Heard). hear_outcomes (two_phases p) g.tick h 0 (after_drive (two_phases p) g.tick (given g))) brought_is
            ∙ (ap (λ (ns : List N). hear_outcomes (two_phases p) g.tick (hears p acts lines first plays.numbered t) 0 ns) driven_is
            ∙ (ap (λ (u : ℕ). hear_outcomes (two_phases p) u (hears p acts lines first plays.numbered t) 0 (driven p acts lines first plays.numbered t)) plays.tick
            ∙ sym (hearings_are p acts lines first plays.numbered t)))

        nodes_is : after_hear (two_phases p) g.tick (brought g h.noise_until history) 0 (after_drive (two_phases p) g.tick (given g)) ≡ nodes_in p acts lines first (suc t)
        nodes_is =
            ap (λ (h : ℕ → Heard). after_hear (two_phases p) g.tick h 0 (after_drive (two_phases p) g.tick (given g))) brought_is
            ∙ (ap (λ (ns : List N). after_hear (two_phases p) g.tick (hears p acts lines first plays.numbered t) 0 ns) driven_is
            ∙ (ap (λ (u : ℕ). after_hear (two_phases p) u (hears p acts lines first plays.numbered t) 0 (driven p acts lines first plays.numbered t)) plays.tick
            ∙ sym (nodes_are p acts lines first plays.numbered t)))

        pub plays_next : g.tick < g.end → Plays p acts lines first end (t + 1) h
        plays_next left =
            record {
              in_time = omega (arith, plays.in_time, plays.tick, plays.end_is, left);
              tick = ticked.tick ∙ ap (λ (n : ℕ). n + 1) plays.tick;
              end_is = ticked.end ∙ plays.end_is;
              taps = ticked.taps ∙ plays.taps;
              numbered = plays.numbered;
              coming = subst (λ (u : ℕ). AreComing (u + 1) h.upcoming) plays.tick (ticked.coming awaits.coming);
              due = λ u le. ticked.due awaits.coming u (omega (arith, plays.tick, le)) ∙ plays.due u (omega (arith, le));
              offers = λ u le. ticked.offers awaits.coming u (omega (arith, plays.tick, le)) ∙ plays.offers u (omega (arith, le));
              noise = λ u le. ticked.noise awaits.coming u (omega (arith, plays.tick, le)) ∙ plays.noise u (omega (arith, le));
              nodes = rw add-one (ticked.nodes awaits history keeps ∙ nodes_is);
              cable =
                  rw add-one (subst (λ (rows : List (List (Option Quarter))). CableStands (no_puts (taps_in lines) ∷ rows) h.cable) (sym (rows_are p acts lines first plays.numbered t))
                  (subst (λ (taps : List Tap). CableStands (no_puts taps ∷ history) h.cable) plays.taps (ticked.turns history keeps)));
              settled = ticked.settled awaits ∙ rw (drives_is, plays.settled, plays.tick) (sym (settled-more p acts lines first t));
              totals = ticked.totals awaits history keeps ∙ rw (hearings_is, drives_is, told_is, plays.totals) (sym (totals-more p acts lines first t));
              states = λ k. ticked.states awaits k ∙ rw (plays.states k, drives_is, told_is, plays.tick) (sym (state-more p acts lines first t k));
              heard = ticked.heard awaits history keeps ∙ rw hearings_is (sym (heard-more p acts lines first t));
            }

        events_are : events_in p acts lines first t ≡ map offer_event (records_in p acts lines first t) ++ (drive_events_of (drives_in p acts lines first t) ++ hear_events_of (hearings_in p acts lines first t))
        unfolding events_in
        events_are = append_assoc (map offer_event (records_in p acts lines first t)) (drive_events_of (drives_in p acts lines first t)) (hear_events_of (hearings_in p acts lines first t))

        -- and the watch is told what happens in the tick: of the offers, of the drive phase and of the hear phase
        module _ {W : Type 0} (sees : W → EventRecord → W → Type 0) (w v : W) where
          pub tick_events : ((rows : List (List (Option Quarter))) → CableStands rows ticked.driven_on → SeesEvents sees w (map offer_event (told g) ++ (drive_events_of (drive_outcomes (two_phases p) g.tick (given g)) ++ hear_events_of (hear_outcomes (two_phases p) g.tick (brought g h.noise_until rows) 0 (after_drive (two_phases p) g.tick (given g))))) v) → SeesEvents sees w (events_in p acts lines first t) v
          tick_events events =
              subst (λ (es : List EventRecord). SeesEvents sees w es v) (sym events_are)
              (subst (λ (rs : List OfferRecord). SeesEvents sees w (map offer_event rs ++ (drive_events_of (drives_in p acts lines first t) ++ hear_events_of (hearings_in p acts lines first t))) v) told_is
              (subst (λ (ds : List DriveOutcome). SeesEvents sees w (map offer_event (told g) ++ (drive_events_of ds ++ hear_events_of (hearings_in p acts lines first t))) v) drives_is
              (subst (λ (ds : List HearOutcome). SeesEvents sees w (map offer_event (told g) ++ (drive_events_of (drive_outcomes (two_phases p) g.tick (given g)) ++ hear_events_of ds)) v) hearings_is
              (events history keeps))))

    -- once a tick was played, it keeps what each node heard in the last one
    pub heard_is : (t : ℕ) (g : EngineState N) (node : ℕ) → Plays p acts lines first end t g → 0 < g.tick → option_map (λ j. get_or g.heard j (Nothing, false)) (position (λ (n : NodeTotals). n.node == node) g.totals) ≡ last_heard_in p acts lines first node t
    heard_is zero g node plays played = absurd (omega (arith, plays.tick, played))
    heard_is (suc t) g node plays played =
        let at : position (λ (n : NodeTotals). n.node == node) (totals_in p acts lines first (suc t)) ≡ position (λ (n : NodeLine). n.no == node) lines =
        sym (position-map (λ (n : NodeTotals). n.node) (λ k. k == node) (totals_in p acts lines first (suc t)))
        ∙ (ap (λ (ns : List ℕ). position (λ k. k == node) ns) (numbers-totals p acts lines first (suc t))
        ∙ position-map (λ (n : NodeLine). n.no) (λ k. k == node) lines) in
        rw (plays.heard, plays.totals) (ap (option_map (λ j. get_or (heard_below p acts lines first (suc t)) j (Nothing, false))) at)
