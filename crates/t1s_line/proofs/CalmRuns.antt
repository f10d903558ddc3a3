-- A calm tick of a run: its nodes pass it in silence, and all else that is told of the run stays.
use Rattle.std.proofs.Common.{◌≡◌, ℕ, zero, suc, ◌+◌, ◌<◌, ◌≤◌, Bool, true, false, ◌&&◌, cond, List, [], ◌∷◌, ◌++◌, length, map, replicate, Option, None, Some, refl, sym, ◌∙◌, ap, add-one, arith, subst}
use Rattle.std.specs.List.{AllByRecursion, list_all}
use Rattle.std.specs.Option.{option_or}
use Rattle.std.proofs.lemmas.List.{length-map}
use Rattle.std.proofs.lemmas.List.Elements.{recursion_from_All}
use Rattle.t1s_symbols.specs.declared.Heard.{Heard}
use Rattle.t1s_symbols.specs.declared.Heard.TheVariants.{Nothing, Many}
use Rattle.t1s_symbols.specs.declared.Quarter.{Quarter}
use Rattle.t1s_ring.specs.declared.queued.Queued.{Queued}
use Rattle.t1s_world.specs.Lists.{each_with}
use Rattle.t1s_world.specs.World.{Machine, Past, past, at_depth, after_drive, drive_outcomes, row_of, after_hear, hear_outcomes, heard_at}
use Rattle.t1s_world.specs.Hearing.{heard}
use Rattle.t1s_world.proofs.WorldLemmas.{past-zero, past-suc, length-nodes, length-hear_outcomes}
use Rattle.t1s_script.specs.declared.script.Act.{Act}
use Rattle.t1s_script.specs.declared.script.NodeLine.{NodeLine}
use Rattle.t1s_line.specs.declared.offers.OfferState.{OfferState}
use Rattle.t1s_line.specs.declared.totals.NodeTotals.{NodeTotals}
use Rattle.t1s_line.specs.Acts.{Offer, queued_to, offers_at, offers_to, is_noisy, with_noise}
use Rattle.t1s_line.specs.EventRecords.{EventRecord}
use Rattle.t1s_line.specs.Offers.{OfferRecord, offer_event, records_of, after_records, after_leaves}
use Rattle.t1s_line.specs.Outcomes.{DriveOutcome, HearOutcome, NodePhases, with_offers, machine_with}
use Rattle.t1s_line.specs.Runs.{taps_in, are_ok, nodes_in, records_in, drives_in, hearings_in, events_in, all_ok_in, settled_in, totals_in, state_in, heard_below, heard_tick, drive_events_of, hear_events_of}
use Rattle.t1s_line.specs.Totals.{after_refusals, after_driving, after_hearing}
use Rattle.t1s_line.specs.CalmRuns.{quiet_drive, quiet_hearing, after_silence, HasCalmTicks, IsCalmIn}
use Rattle.t1s_line.proofs.RunLemmas.{settled-more, totals-more, state-more, heard-more}
use Rattle.t1s_line.proofs.CalmPhases.{no_act_no_offers, IsQuietDrive, IsQuietHearing, quiet_drive_events, quiet_drive_totals, quiet_drive_leaves, quiet_hear_events, quiet_hear_totals, quiet_heard}

module _ {N : Type 0} (p : NodePhases N) (holds : N → Type 0) (calm : ℕ → N → Type 0) (passed : ℕ → ℕ → N → N) (laws : HasCalmTicks p holds calm passed) (acts : List Act) where
  abbrev m : Machine N DriveOutcome HearOutcome
  m = machine_with p acts

  -- ---- what holds of each node

  offers_hold : (t : ℕ) (qs : List Queued) (n : N) → holds n → holds (with_offers p t qs n)
  offers_hold t [] n h = h
  offers_hold t (q ∷ qs) n h = offers_hold t qs (p.offer t q n).0 (laws.offering t q n h)

  drive_holds : (t : ℕ) (ns : List N) → AllByRecursion holds ns → AllByRecursion holds (after_drive m t ns)
  drive_holds t [] all = tt
  drive_holds t (n ∷ ns) all =
      (laws.driving t _ (offers_hold t (offers_to acts t (p.number n)) n all.0), drive_holds t ns all.1)

  hear_holds : (t : ℕ) (h : ℕ → Heard) (s : ℕ) (ns : List N) → AllByRecursion holds ns → AllByRecursion holds (after_hear m t h s ns)
  hear_holds t h s [] all = tt
  hear_holds t h s (n ∷ ns) all = (laws.hearing t _ n all.0, hear_holds t h (s + 1) ns all.1)

  pub nodes_hold : (lines : List NodeLine) (first : List N) → AllByRecursion holds first → (t : ℕ) → AllByRecursion holds (nodes_in p acts lines first t)
  nodes_hold lines first all zero = subst (λ (q : Past N). AllByRecursion holds q.nodes) (sym (past-zero m (taps_in lines) first)) all
  nodes_hold lines first all (suc t) =
      subst (λ (q : Past N). AllByRecursion holds q.nodes) (sym (past-suc m (taps_in lines) first t))
      (hear_holds t _ 0 (after_drive m t (nodes_in p acts lines first t)) (drive_holds t (nodes_in p acts lines first t) (nodes_hold lines first all t)))

  -- ---- the two phases of a calm tick

  module _ (t : ℕ) (offers : offers_at acts t ≡ []) where
    pub as_alone : (n : N) → m.drive t n ≡ p.drive t n
    as_alone n = rw offers refl

    quiet_row : (ns : List N) → AllByRecursion holds ns → AllByRecursion (calm t) ns → row_of m t ns ≡ replicate (length ns) None
    quiet_row [] hold all = refl
    quiet_row (n ∷ ns) hold all =
        let none : (m.drive t n).1.quarter ≡ None =
        ap (λ (r : N × DriveOutcome). r.1.quarter) (as_alone n) ∙ ap (λ (d : DriveOutcome). d.quarter) (laws.drives t n hold.0 all.0) in
        ap (λ (q : Option Quarter). q ∷ row_of m t ns) none ∙ ap (λ (row : List (Option Quarter)). None ∷ row) (quiet_row ns hold.1 all.1)

    quiet_drives : (ns : List N) → AllByRecursion holds ns → AllByRecursion (calm t) ns → AllByRecursion IsQuietDrive (drive_outcomes m t ns)
    quiet_drives [] hold all = tt
    quiet_drives (n ∷ ns) hold all =
        (subst (λ (r : N × DriveOutcome). IsQuietDrive r.1) (sym (as_alone n)) (laws.drives t n hold.0 all.0), quiet_drives ns hold.1 all.1)

    module _ (quiet : is_noisy acts t ≡ false) (h : ℕ → Heard) where
      abbrev hearing : N → N × HearOutcome
      hearing n = p.hear t Nothing (p.drive t n).0

      hears_alone : (s : ℕ) (n : N) → h s ≡ Nothing → m.hear t (h s) (m.drive t n).0 ≡ hearing n
      hears_alone s n none = rw (as_alone n, none, quiet) refl

      silent_nodes : (s : ℕ) (ns : List N) → ((j : ℕ) → s ≤ j → j < s + length ns → h j ≡ Nothing) → after_hear m t h s (after_drive m t ns) ≡ map (after_silence p t) ns
      silent_nodes s [] none = refl
      silent_nodes s (n ∷ ns) none =
          let rest = silent_nodes (s + 1) ns (λ j low high. none j (omega (arith, low)) (omega (arith, high))) in
          ap (λ (r : N × HearOutcome). r.0 ∷ after_hear m t h (s + 1) (after_drive m t ns)) (hears_alone s n (none s (omega arith) (omega arith)))
          ∙ ap (λ (ms : List N). after_silence p t n ∷ ms) rest

      quiet_hearings : (s : ℕ) (ns : List N) → ((j : ℕ) → s ≤ j → j < s + length ns → h j ≡ Nothing) → AllByRecursion holds ns → AllByRecursion (calm t) ns
          → AllByRecursion IsQuietHearing (hear_outcomes m t h s (after_drive m t ns))
      quiet_hearings s [] none hold all = tt
      quiet_hearings s (n ∷ ns) none hold all = (
        subst (λ (r : N × HearOutcome). IsQuietHearing r.1) (sym (hears_alone s n (none s (omega arith) (omega arith)))) (laws.hears t n hold.0 all.0),
        quiet_hearings (s + 1) ns (λ j low high. none j (omega (arith, low)) (omega (arith, high))) hold.1 all.1,
      )

  -- ---- the status of all nodes

  both_true : (a b : Bool) → (a && b) ≡ true → (a ≡ true) × (b ≡ true)
  both_true true true e = (refl, refl)
  both_true true false e = cc
  both_true false b e = cc

  -- it isn't OK in a calm tick where it was not in the tick before
  ok_before : (t : ℕ) → offers_at acts (suc t) ≡ [] → (h : ℕ → Heard) (s : ℕ) (ns : List N)
      → AllByRecursion (calm (suc t)) (after_hear m t h s (after_drive m t ns)) → are_ok (drive_outcomes m (suc t) (after_hear m t h s (after_drive m t ns))) ≡ true
      → are_ok (drive_outcomes m t ns) ≡ true
  ok_before t offers h s [] all ok = refl
  ok_before t offers h s (n ∷ ns) all ok =
      let given : N = with_offers p t (offers_to acts t (p.number n)) n in
      let left : N = (p.hear t (with_noise acts t (h s)) (p.drive t given).0).0 in
      let (here, later) = both_true (m.drive (suc t) left).1.ok (are_ok (drive_outcomes m (suc t) (after_hear m t h (s + 1) (after_drive m t ns)))) ok in
      let alone : (p.drive (suc t) left).1.ok ≡ true = ap (λ (r : N × DriveOutcome). r.1.ok) (sym (as_alone (suc t) offers left)) ∙ here in
      let first = laws.next_ok t (with_noise acts t (h s)) given all.0 alone in
      let rest = ok_before t offers h (s + 1) ns all.1 later in
      rw (first, rest) refl

  not_ok_first : offers_at acts 0 ≡ [] → (ns : List N) → 1 ≤ length ns → AllByRecursion (calm 0) ns → are_ok (drive_outcomes m 0 ns) ≡ false
  not_ok_first offers [] some all = absurd (omega (arith, some))
  not_ok_first offers (n ∷ ns) some all =
      let off : (m.drive 0 n).1.ok ≡ false = ap (λ (r : N × DriveOutcome). r.1.ok) (as_alone 0 offers n) ∙ laws.first_ok n all.0 in
      rw off refl

  module _ (lines : List NodeLine) (first : List N) (firsts : AllByRecursion holds first) (size : length first ≡ length lines) where
    abbrev nodes : ℕ → List N
    nodes t = nodes_in p acts lines first t

    length_nodes : (t : ℕ) → length (nodes t) ≡ length lines
    length_nodes t = length-nodes m (taps_in lines) first t ∙ size

    -- a tick without acts that is calm for each node has an empty row
    pub rows_on : (t : ℕ) → offers_at acts t ≡ [] → AllByRecursion (calm t) (nodes t)
        → (past m (taps_in lines) first (suc t)).rows ≡ replicate (length lines) None ∷ (past m (taps_in lines) first t).rows
    rows_on t offers all =
        ap (λ (q : Past N). q.rows) (past-suc m (taps_in lines) first t)
        ∙ ap (λ (row : List (Option Quarter)). row ∷ (past m (taps_in lines) first t).rows)
        (quiet_row t offers (nodes t) (nodes_hold lines first firsts t) all ∙ ap (λ (k : ℕ). replicate k None) (length_nodes t))

    module _ (t : ℕ) (is : IsCalmIn p calm acts lines first t) where
      offers : offers_at acts t ≡ []
      offers = no_act_no_offers acts t is.no_act

      hold : AllByRecursion holds (nodes t)
      hold = nodes_hold lines first firsts t

      all : AllByRecursion (calm t) (nodes t)
      all = recursion_from_All (calm t) (nodes t) is.nodes

      hears_nothing : (j : ℕ) → 0 ≤ j → j < 0 + length (nodes t) → heard_at m (taps_in lines) first t j ≡ Nothing
      hears_nothing j low high = is.unreached j (omega (arith, high, length_nodes t))

      -- the row of the tick is empty
      pub calm_rows : (past m (taps_in lines) first (suc t)).rows ≡ replicate (length lines) None ∷ (past m (taps_in lines) first t).rows
      calm_rows = rows_on t offers all

      pub calm_nodes : nodes (suc t) ≡ map (after_silence p t) (nodes t)
      unfolding past
      calm_nodes = silent_nodes t offers is.no_noise (heard_at m (taps_in lines) first t) 0 (nodes t) hears_nothing

      pub calm_records : records_in p acts lines first t ≡ []
      unfolding records_in
      calm_records = rw offers refl

      pub calm_drives : AllByRecursion IsQuietDrive (drives_in p acts lines first t)
      unfolding drives_in
      calm_drives = quiet_drives t offers (nodes t) hold all

      pub calm_hearings : AllByRecursion IsQuietHearing (hearings_in p acts lines first t)
      unfolding hearings_in
      calm_hearings = quiet_hearings t offers is.no_noise (heard_at m (taps_in lines) first t) 0 (nodes t) hears_nothing hold all

      length_hearings : length (hearings_in p acts lines first t) ≡ length lines
      unfolding hearings_in
      length_hearings =
          length-hear_outcomes m t (heard_at m (taps_in lines) first t) 0 (after_drive m t (nodes t))
          ∙ (length-map (nodes t) (λ n. (m.drive t n).0) ∙ length_nodes t)

      -- it has no event
      pub calm_events : events_in p acts lines first t ≡ []
      unfolding events_in
      calm_events =
          let told = calm_records in
          let drives = quiet_drive_events (drives_in p acts lines first t) calm_drives in
          let hears = quiet_hear_events (hearings_in p acts lines first t) calm_hearings in
          rw (told, drives, hears) refl

      pub calm_totals : totals_in p acts lines first (t + 1) ≡ totals_in p acts lines first t
      calm_totals =
          let none = calm_records in
          let before : List NodeTotals = totals_in p acts lines first t in
          totals-more p acts lines first t
          ∙ ap (λ (rs : List OfferRecord). each_with after_hearing (each_with after_driving (after_refusals before rs) (drives_in p acts lines first t)) (hearings_in p acts lines first t)) none
          ∙ ap (λ (ns : List NodeTotals). each_with after_hearing ns (hearings_in p acts lines first t)) (quiet_drive_totals before (drives_in p acts lines first t) calm_drives)
          ∙ quiet_hear_totals before (hearings_in p acts lines first t) calm_hearings

      pub calm_state : (k : ℕ) → state_in p acts lines first k (t + 1) ≡ state_in p acts lines first k t
      calm_state k =
          state-more p acts lines first t k
          ∙ ap (λ (rs : List OfferRecord). after_leaves t k (after_records k (state_in p acts lines first k t) rs) (drives_in p acts lines first t)) calm_records
          ∙ quiet_drive_leaves t k (state_in p acts lines first k t) (drives_in p acts lines first t) calm_drives

      pub calm_heard : heard_below p acts lines first (t + 1) ≡ map (λ (n : NodeLine). (Nothing, false)) lines
      calm_heard = heard-more p acts lines first t ∙ quiet_heard lines (hearings_in p acts lines first t) length_hearings calm_hearings

    -- what was found first is found still
    kept_first : (o : Option ℕ) (ok : Bool) (t : ℕ) → (ok ≡ true → (x : ℕ) × (o ≡ Some x)) → option_or o (cond ok (Some t) None) ≡ o
    kept_first (Some x) ok t found = refl
    kept_first None true t found = let (x, e) = found refl in cc
    kept_first None false t found = refl

    found_then : (o : Option ℕ) (ok : Bool) (t : ℕ) → ok ≡ true → (x : ℕ) × (option_or o (cond ok (Some t) None) ≡ Some x)
    found_then (Some x) ok t e = (x, refl)
    found_then None true t e = (t, refl)
    found_then None false t e = cc

    was_ok : 1 ≤ length lines → (t : ℕ) → IsCalmIn p calm acts lines first t → are_ok (drives_in p acts lines first t) ≡ true → (x : ℕ) × (settled_in p acts lines first t ≡ Some x)
    unfolding drives_in past
    was_ok some zero is ok =
        let none_ok = not_ok_first (offers zero is) (nodes zero) (omega (arith, some, length_nodes zero)) (all zero is) in
        cc
    was_ok some (suc t) is ok =
        let h : ℕ → Heard = heard_at m (taps_in lines) first t in
        let before : are_ok (drives_in p acts lines first t) ≡ true = ok_before t (offers (suc t) is) h 0 (nodes t) (all (suc t) is) ok in
        let more : settled_in p acts lines first (suc t) ≡ option_or (settled_in p acts lines first t) (cond (are_ok (drives_in p acts lines first t)) (Some t) None) =
        rw add-one at (settled-more p acts lines first t) in
        let (x, found) = found_then (settled_in p acts lines first t) (are_ok (drives_in p acts lines first t)) t before in
        (x, more ∙ found)

    pub calm_settled : 1 ≤ length lines → (t : ℕ) → IsCalmIn p calm acts lines first t → settled_in p acts lines first (t + 1) ≡ settled_in p acts lines first t
    calm_settled some t is =
        settled-more p acts lines first t
        ∙ kept_first (settled_in p acts lines first t) (are_ok (drives_in p acts lines first t)) t (was_ok some t is)
