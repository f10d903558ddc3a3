-- Steps of the loops of a tick: one more node drives and puts it on the cable, one more node hears.
use Rattle.std.proofs.Common.{◌≡◌, ℕ, zero, suc, ◌+◌, ◌<◌, ◌≤◌, Bool, true, false, cond, List, [], ◌∷◌, ◌++◌, length, get_or, set, take, drop, map, replicate, Option, None, refl, ◌∙◌, ap, arith}
use Rattle.std.specs.Prelude.{◌&&◌}
use Rattle.std.proofs.lemmas.List.{append-nil, drop_all, length-map, length-take-le, length-replicate, map_push, take_all, take_more}
use Rattle.std.proofs.lemmas.List.Concat.{flat_map-append}
use Rattle.std.proofs.lemmas.List.Edits.{map_over_more}
use Rattle.std.proofs.lemmas.List.Folds.{list_all-append}
use Rattle.t1s_harness.specs.declared.Tap.{Tap}
use Rattle.t1s_symbols.specs.declared.Heard.{Heard}
use Rattle.t1s_symbols.specs.declared.Heard.TheVariants.{Nothing}
use Rattle.t1s_symbols.specs.declared.Quarter.{Quarter}
use Rattle.t1s_symbols.specs.Ranges.{IsHeard}
use Rattle.t1s_world.specs.Lists.{each_with}
use Rattle.t1s_world.specs.World.{Machine, after_drive, drive_outcomes, row_of, after_hear, hear_outcomes}
use Rattle.t1s_world.proofs.ListLemmas.{get_or-unwritten, each_with_more, written_more}
use Rattle.t1s_world.proofs.WorldLemmas.{length-hear_outcomes, hear_outcomes_more}
use Rattle.t1s_cable.specs.Stands.{no_puts}
use Rattle.t1s_script.specs.declared.script.NodeLine.{NodeLine}
use Rattle.t1s_line.specs.EventRecords.{EventRecord}
use Rattle.t1s_line.specs.Outcomes.{DriveOutcome, HearOutcome}
use Rattle.t1s_line.specs.declared.offers.OfferState.{OfferState}
use Rattle.t1s_line.specs.Offers.{after_leave, after_leaves, leaves_number}
use Rattle.t1s_line.specs.Runs.{are_ok, drive_events_of, hear_events_of, heard_tick}
use Rattle.t1s_segment.specs.State.{AreHeard}

none_at : (n i : ℕ) → ◌≡◌ {A = Option Quarter} (get_or (replicate n None) i None) None
none_at zero i = refl
none_at (suc n) zero = refl
none_at (suc n) (suc i) = none_at n i

and_true : (a b : Bool) → (a && (b && true)) ≡ (a && b)
and_true true true = refl
and_true true false = refl
and_true false b = refl

one_leaves : (t k : ℕ) (state : OfferState) (ds : List DriveOutcome) (d : DriveOutcome) → after_leaves t k state (ds ++ d ∷ []) ≡ cond (leaves_number k d) (after_leave t (after_leaves t k state ds)) (after_leaves t k state ds)
one_leaves t k state [] d = refl
one_leaves t k state (e ∷ ds) d = one_leaves t k (cond (leaves_number k e) (after_leave t state) state) ds d

module _ {N : Type 0} (m : Machine N DriveOutcome HearOutcome) (t : ℕ) (xs ys : List N) (i : ℕ) (x : N) (lt : i < length xs) where
  -- one more node drives
  module _ (written : ys ≡ after_drive m t (take i xs) ++ drop i xs) (is : x ≡ get_or ys i x) where
    -- the node that drives next is still as it was
    still : x ≡ get_or xs i x
    still =
        let done : List N = after_drive m t (take i xs) in
        let len : length done ≡ i = length-map (take i xs) (λ n. (m.drive t n).0) ∙ length-take-le i xs (omega arith) in
        is ∙ get_or-unwritten done xs ys i x len lt written

    pub nodes_more : set ys i (m.drive t x).0 ≡ after_drive m t (take (i + 1) xs) ++ drop (i + 1) xs
    nodes_more = map_over_more (λ n. (m.drive t n).0) xs ys i x lt written is

    row_more : row_of m t (take (i + 1) xs) ≡ row_of m t (take i xs) ++ m.quarter (m.drive t x).1 ∷ []
    row_more = rw (take_more xs i x lt, ← still) (map_push (λ n. m.quarter (m.drive t n).1) (take i xs) x)

    outcomes_more : drive_outcomes m t (take (i + 1) xs) ≡ drive_outcomes m t (take i xs) ++ (m.drive t x).1 ∷ []
    outcomes_more = rw (take_more xs i x lt, ← still) (map_push (λ n. (m.drive t n).1) (take i xs) x)

    -- a list that changes element by element beside the nodes
    drives_len : length (drive_outcomes m t (take i xs)) ≡ i
    drives_len = length-map (take i xs) (λ n. (m.drive t n).1) ∙ length-take-le i xs (omega arith)

    pub driven_more : {X : Type 0} (f : X → DriveOutcome → X) (ns ms : List X) (n : X) → length ns ≡ length xs → ms ≡ each_with f (take i ns) (drive_outcomes m t (take i xs)) ++ drop i ns → n ≡ get_or ms i n → set ms i (f n (m.drive t x).1) ≡ each_with f (take (i + 1) ns) (drive_outcomes m t (take (i + 1) xs)) ++ drop (i + 1) ns
    driven_more f ns ms n sizes e at =
        rw outcomes_more
        (each_with_more f ns ms (drive_outcomes m t (take i xs)) i n (m.drive t x).1 (omega arith) drives_len e at)

    pub leaves_more : (k : ℕ) (state : OfferState) → after_leaves t k state (drive_outcomes m t (take (i + 1) xs)) ≡ cond (leaves_number k (m.drive t x).1) (after_leave t (after_leaves t k state (drive_outcomes m t (take i xs)))) (after_leaves t k state (drive_outcomes m t (take i xs)))
    leaves_more k state = rw outcomes_more (one_leaves t k state (drive_outcomes m t (take i xs)) (m.drive t x).1)

    pub events_more : drive_events_of (drive_outcomes m t (take (i + 1) xs)) ≡ drive_events_of (drive_outcomes m t (take i xs)) ++ (m.drive t x).1.events
    events_more =
        let events : DriveOutcome → List EventRecord = λ d. d.events in
        rw outcomes_more
        (flat_map-append events (drive_outcomes m t (take i xs)) ((m.drive t x).1 ∷ [])
        ∙ ap (λ (r : List EventRecord). drive_events_of (drive_outcomes m t (take i xs)) ++ r) (append-nil (m.drive t x).1.events))

    pub ok_more : are_ok (drive_outcomes m t (take (i + 1) xs)) ≡ (are_ok (drive_outcomes m t (take i xs)) && (m.drive t x).1.ok)
    ok_more =
        let ok : DriveOutcome → Bool = λ d. d.ok in
        rw outcomes_more
        (list_all-append ok (drive_outcomes m t (take i xs)) ((m.drive t x).1 ∷ [])
        ∙ and_true (are_ok (drive_outcomes m t (take i xs))) (m.drive t x).1.ok)

    -- the row of the cable where the nodes below i have put what they drive
    module _ (taps : List Tap) (sizes : length taps ≡ length xs) where
      row_len : length (row_of m t (take i xs)) ≡ i
      row_len = length-map (take i xs) (λ n. m.quarter (m.drive t n).1) ∙ length-take-le i xs (omega arith)

      puts_len : length (no_puts taps) ≡ length taps
      puts_len = length-replicate (length taps) None

      pub put_more : set (row_of m t (take i xs) ++ drop i (no_puts taps)) i (m.quarter (m.drive t x).1) ≡ row_of m t (take (i + 1) xs) ++ drop (i + 1) (no_puts taps)
      put_more =
          let row : List (Option Quarter) = row_of m t (take i xs) in
          rw row_more
          (written_more row (no_puts taps) (row ++ drop i (no_puts taps)) i (m.quarter (m.drive t x).1) None row_len (omega (arith, puts_len, sizes)) refl)

      -- and of the node i nothing is put yet
      pub none_put : get_or (row_of m t (take i xs) ++ drop i (no_puts taps)) i None ≡ None
      none_put =
          get_or-unwritten (row_of m t (take i xs)) (no_puts taps) (row_of m t (take i xs) ++ drop i (no_puts taps)) i None row_len (omega (arith, puts_len, sizes)) refl
          ∙ none_at (length taps) i

  -- one more node hears: what it hears is counted and kept
  module _ (h : ℕ → Heard) (written : ys ≡ after_hear m t h 0 (take i xs) ++ drop i xs) (is : x ≡ get_or ys i x) where
    outcomes_len : length (hear_outcomes m t h 0 (take i xs)) ≡ i
    outcomes_len = length-hear_outcomes m t h 0 (take i xs) ∙ length-take-le i xs (omega arith)

    pub each_more : {X : Type 0} (f : X → HearOutcome → X) (ns ms : List X) (n : X) → length ns ≡ length xs → ms ≡ each_with f (take i ns) (hear_outcomes m t h 0 (take i xs)) ++ drop i ns → n ≡ get_or ms i n → set ms i (f n (m.hear t (h i) x).1) ≡ each_with f (take (i + 1) ns) (hear_outcomes m t h 0 (take (i + 1) xs)) ++ drop (i + 1) ns
    each_more f ns ms n sizes e at =
        rw (hear_outcomes_more m t h xs ys i x lt written is)
        (each_with_more f ns ms (hear_outcomes m t h 0 (take i xs)) i n (m.hear t (h i) x).1 (omega arith) outcomes_len e at)

    pub heard_more : hear_events_of (hear_outcomes m t h 0 (take (i + 1) xs)) ≡ hear_events_of (hear_outcomes m t h 0 (take i xs)) ++ (m.hear t (h i) x).1.events
    heard_more =
        let events : HearOutcome → List EventRecord = λ d. d.events in
        rw (hear_outcomes_more m t h xs ys i x lt written is)
        (flat_map-append events (hear_outcomes m t h 0 (take i xs)) ((m.hear t (h i) x).1 ∷ [])
        ∙ ap (λ (r : List EventRecord). hear_events_of (hear_outcomes m t h 0 (take i xs)) ++ r) (append-nil (m.hear t (h i) x).1.events))

-- once all nodes have put what they drive, the row is that of the tick
pub all_put : {N : Type 0} (m : Machine N DriveOutcome HearOutcome) (t : ℕ) (xs : List N) (taps : List Tap) (i : ℕ) → length taps ≡ length xs → length xs ≤ i → row_of m t (take i xs) ++ drop i (no_puts taps) ≡ row_of m t xs
all_put m t xs taps i sizes past =
    let none : Option Quarter = None in
    let left : length (no_puts taps) ≤ i = omega (arith, length-replicate (length taps) none, sizes) in
    rw (take_all i xs past, drop_all i (no_puts taps) left) (append-nil (row_of m t xs))

-- ---- what was heard

-- of what is kept of a node only the last is told
abbrev pub kept_last : Heard × Bool → HearOutcome → Heard × Bool
kept_last before d = heard_tick d

pub all_heard : (ticks : List (Heard × Bool)) (ds : List HearOutcome) → length ds ≡ length ticks → each_with kept_last ticks ds ≡ map heard_tick ds
all_heard [] [] e = refl
all_heard [] (d ∷ ds) e = cc
all_heard (h ∷ ticks) [] e = cc
all_heard (h ∷ ticks) (d ∷ ds) e = ap (λ (r : List (Heard × Bool)). heard_tick d ∷ r) (all_heard ticks ds cc)

pub heard_set : (ticks : List (Heard × Bool)) (i : ℕ) (h : Heard × Bool) → IsHeard h.0 → AreHeard ticks → AreHeard (set ticks i h)
heard_set [] i h fine all k = all k
heard_set (x ∷ ticks) zero h fine all zero = fine
heard_set (x ∷ ticks) zero h fine all (suc k) = all (suc k)
heard_set (x ∷ ticks) (suc i) h fine all zero = all 0
heard_set (x ∷ ticks) (suc i) h fine all (suc k) = heard_set ticks i h fine (λ j. all (suc j)) k

pub nothing_heard : (lines : List NodeLine) → AreHeard (map (λ (n : NodeLine). (Nothing, false)) lines)
nothing_heard [] k = tt
nothing_heard (n ∷ lines) zero = tt
nothing_heard (n ∷ lines) (suc k) = nothing_heard lines k
