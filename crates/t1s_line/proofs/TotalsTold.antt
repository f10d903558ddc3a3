-- What is counted tick by tick at each node of a script is what its world counts.
use Rattle.std.proofs.Common.{◌≡◌, ℕ, zero, suc, ◌+◌, ◌-◌, ◌^◌, ◌<◌, ◌≤◌, Bool, true, false, cond, List, [], ◌∷◌, ◌++◌, length, length-append, map, Some, None, refl, sym, ◌∙◌, ap, arith, add-zero, zero-add}
use Rattle.std.specs.Prelude.{slice_get}
use Rattle.std.specs.List.{filter}
use Rattle.t1s_world.specs.Events.{events_below, count_below}
use Rattle.t1s_world.specs.Lists.{each_with}
use Rattle.t1s_world.proofs.EventLemmas.{count_below-le}
use Rattle.t1s_world.proofs.ListLemmas.{get_or-map}
use Rattle.t1s_mac.specs.declared.outcome.MacNote.TheVariants.{None as NoNote}
use Rattle.t1s_script.specs.Script.{IsScript}
use Rattle.t1s_script.specs.declared.script.Script.{Script}
use Rattle.t1s_script.specs.declared.script.NodeLine.{NodeLine}
use Rattle.t1s_line.specs.declared.totals.NodeTotals.{NodeTotals}
use Rattle.t1s_line.specs.declared.track.Track.{Track}
use Rattle.t1s_line.specs.Acts.{offers_at}
use Rattle.t1s_line.specs.Offers.{OfferRecord}
use Rattle.t1s_line.specs.Outcomes.{DriveOutcome, HearOutcome}
use Rattle.t1s_line.specs.Runs.{records_in, totals_in}
use Rattle.t1s_line.specs.Totals.{is_full_at, is_sent, is_jam, is_drop, arrives_good, arrives_bad, no_totals, counted, after_refusal, after_refusals, after_driving, after_hearing}
use Rattle.t1s_line.specs.Track.{track_phases}
use Rattle.t1s_line.specs.World.{first_tracks, world, offer_records_at, offer_records_below, drives_at, hearings_at, note_at, piece_at, clash_at, totals_of, totals_from, totals_below}
use Rattle.t1s_line.proofs.RecordCounts.{length-filter-le, length-filter-cons, length-filter-append, length-events_below, length-offers_at, length-records_of}
use Rattle.t1s_line.proofs.ScriptNodes.{length-world, length-drives, length-hearings}

-- ---- a count

one_at_most : (more : Bool) → cond more 1 0 ≤ 1
one_at_most true = omega arith
one_at_most false = omega arith

counted_is : (more : Bool) (n : ℕ) → n < 2 ^ 64 - 1 → counted n more ≡ n + cond more 1 0
counted_is true n small = omega arith
counted_is false n small = omega arith

-- the numbers that pass a test are counted one after another
count_next : (p : ℕ → Bool) (t : ℕ) (more : Bool) → t < 2 ^ 64 - 1 → p t ≡ more → counted (count_below p t) more ≡ count_below p (suc t)
unfolding count_below
count_next p t more small is = rw is (counted_is more (count_below p t) (omega (arith, count_below-le p t)))

-- ---- the offers that one node refuses, one after another

abbrev refused : NodeTotals → List OfferRecord → NodeTotals
refused n [] = n
refused n (r ∷ rs) = refused (after_refusal r n) rs

refused_is : (n : NodeTotals) (rs : List OfferRecord) → n.full + length rs ≤ 2 ^ 64 - 1
    → refused n rs ≡ record n { full = n.full + length (filter (is_full_at n.node) rs) }
refused_is n [] small = let same : n.full ≡ n.full + 0 = omega arith in ap (λ (c : ℕ). record n { full = c }) same
refused_is n (r ∷ rs) small =
    let more : Bool = is_full_at n.node r in
    let one : counted n.full more ≡ n.full + cond more 1 0 = counted_is more n.full (omega arith) in
    let fits : counted n.full more + length rs ≤ 2 ^ 64 - 1 = omega (arith, one, one_at_most more) in
    let all : counted n.full more + length (filter (is_full_at n.node) rs) ≡ n.full + length (filter (is_full_at n.node) (r ∷ rs)) =
    omega (arith, one, length-filter-cons (is_full_at n.node) r rs) in
    refused_is (after_refusal r n) rs fits ∙ ap (λ (c : ℕ). record n { full = c }) all

-- ---- the totals of the nodes i, i + 1, .. as a function of the position and the line

abbrev totals_by : (ℕ → NodeLine → NodeTotals) → ℕ → List NodeLine → List NodeTotals
totals_by f i [] = []
totals_by f i (n ∷ ns) = f i n ∷ totals_by f (i + 1) ns

totals_from_are : (s : Script) (t i : ℕ) (ns : List NodeLine) → totals_from s t i ns ≡ totals_by (totals_of s t) i ns
totals_from_are s t i [] = refl
totals_from_are s t i (n ∷ ns) = ap (λ (r : List NodeTotals). totals_of s t i n ∷ r) (totals_from_are s t (i + 1) ns)

totals_by_same : (f g : ℕ → NodeLine → NodeTotals) → ((i : ℕ) (n : NodeLine) → f i n ≡ g i n) → (i : ℕ) (ns : List NodeLine)
    → totals_by f i ns ≡ totals_by g i ns
totals_by_same f g same i [] = refl
totals_by_same f g same i (n ∷ ns) =
    ap (λ (x : NodeTotals). x ∷ totals_by f (i + 1) ns) (same i n) ∙ ap (λ (r : List NodeTotals). g i n ∷ r) (totals_by_same f g same (i + 1) ns)

totals_by-map : (step : NodeTotals → NodeTotals) (f : ℕ → NodeLine → NodeTotals) (i : ℕ) (ns : List NodeLine)
    → map step (totals_by f i ns) ≡ totals_by (λ j n. step (f j n)) i ns
totals_by-map step f i [] = refl
totals_by-map step f i (n ∷ ns) = ap (λ (r : List NodeTotals). step (f i n) ∷ r) (totals_by-map step f (i + 1) ns)

-- the offers are refused at each node alike
refusals_by : (f : ℕ → NodeLine → NodeTotals) (i : ℕ) (ns : List NodeLine) (rs : List OfferRecord)
    → after_refusals (totals_by f i ns) rs ≡ totals_by (λ j n. refused (f j n) rs) i ns
refusals_by f i ns [] = refl
refusals_by f i ns (r ∷ rs) =
    ap (λ (x : List NodeTotals). after_refusals x rs) (totals_by-map (after_refusal r) f i ns)
    ∙ refusals_by (λ j n. after_refusal r (f j n)) i ns rs

-- what comes of a phase is counted at the node beside it
phase_by : {Y : Type 0} (step : NodeTotals → Y → NodeTotals) (f g : ℕ → NodeLine → NodeTotals) (i : ℕ) (ns : List NodeLine) (ys : List Y)
    → length ys ≡ length ns
    → ((k : ℕ) (y : Y) (n : NodeLine) → slice_get ys k ≡ Some y → step (f (i + k) n) y ≡ g (i + k) n)
    → each_with step (totals_by f i ns) ys ≡ totals_by g i ns
phase_by step f g i [] ys sizes same = refl
phase_by step f g i (n ∷ ns) [] sizes same = cc
phase_by step f g i (n ∷ ns) (y ∷ ys) sizes same =
    let here : step (f i n) y ≡ g i n = rw add-zero at (same 0 y n refl) in
    let rest =
    phase_by step f g (i + 1) ns ys (omega arith) (λ k z m is. let on : i + 1 + k ≡ i + suc k = omega arith in rw on (same (suc k) z m is)) in
    ap (λ (x : NodeTotals). x ∷ each_with step (totals_by f (i + 1) ns) ys) here ∙ ap (λ (r : List NodeTotals). g i n ∷ r) rest

-- ---- one tick

module _ (s : Script) where
  -- the totals after the offers of tick t, and after its drive phase too
  abbrev offered_totals : ℕ → ℕ → NodeLine → NodeTotals
  offered_totals t i n = record (totals_of s t i n) { full = length (filter (is_full_at n.no) (offer_records_below s (suc t))) }

  abbrev driven_totals : ℕ → ℕ → NodeLine → NodeTotals
  driven_totals t i n = record (offered_totals t i n) {
    sent = count_below (λ u. is_sent (note_at s i u)) (suc t);
    jam = count_below (λ u. is_jam (note_at s i u)) (suc t);
    drop = count_below (λ u. is_drop (note_at s i u)) (suc t);
  }

  module _ (valid : IsScript s) (t : ℕ) (before : t < s.end) where
    small : t < 2 ^ 64 - 1
    small = omega (arith, before, valid.end_high)

    -- the records of a tick are few, and so are those of all ticks below one
    few_records : (u : ℕ) → length (offer_records_at s u) ≤ 2 ^ 32
    unfolding records_in
    few_records u =
        let nodes : List Track = (world s u).nodes in
        let few_nodes : length nodes ≤ 2 ^ 16 = omega (arith, length-world s u, valid.most_nodes) in
        omega (arith, length-records_of track_phases u (2 ^ 16) (offers_at s.acts u) nodes few_nodes, length-offers_at s.acts u, valid.few_acts)

    fits : length (offer_records_below s (suc t)) ≤ 2 ^ 64 - 1
    fits = omega (arith, length-events_below (offer_records_at s) (2 ^ 32) few_records (suc t), before, valid.end_high)

    more_records : offer_records_below s (suc t) ≡ offer_records_below s t ++ offer_records_at s t
    unfolding events_below
    more_records = refl

    offers_counted : (i : ℕ) (n : NodeLine) → refused (totals_of s t i n) (offer_records_at s t) ≡ offered_totals t i n
    offers_counted i n =
        let old : List OfferRecord = offer_records_below s t in
        let new : List OfferRecord = offer_records_at s t in
        let sizes : length (offer_records_below s (suc t)) ≡ length old + length new = ap length more_records ∙ length-append old new in
        let room : length (filter (is_full_at n.no) old) + length new ≤ 2 ^ 64 - 1 =
        omega (arith, sizes, fits, length-filter-le (is_full_at n.no) old) in
        let all : length (filter (is_full_at n.no) (offer_records_below s (suc t)))
        ≡ length (filter (is_full_at n.no) old) + length (filter (is_full_at n.no) new) =
        rw more_records (length-filter-append (is_full_at n.no) old new) in
        refused_is (totals_of s t i n) new room ∙ ap (λ (c : ℕ). record (totals_of s t i n) { full = c }) (sym all)

    drives_counted : (i : ℕ) (d : DriveOutcome) (n : NodeLine) → slice_get (drives_at s t) i ≡ Some d
        → after_driving (offered_totals t i n) d ≡ driven_totals t i n
    unfolding note_at
    drives_counted i d n is =
        let note : note_at s i t ≡ d.note = get_or-map (λ (x : DriveOutcome). x.note) (drives_at s t) i d NoNote is in
        let sent = count_next (λ u. is_sent (note_at s i u)) t (is_sent d.note) small (ap is_sent note) in
        let jam = count_next (λ u. is_jam (note_at s i u)) t (is_jam d.note) small (ap is_jam note) in
        let drop = count_next (λ u. is_drop (note_at s i u)) t (is_drop d.note) small (ap is_drop note) in
        rw (sent, jam, drop) refl

    hearings_counted : (i : ℕ) (d : HearOutcome) (n : NodeLine) → slice_get (hearings_at s t) i ≡ Some d
        → after_hearing (driven_totals t i n) d ≡ totals_of s (suc t) i n
    unfolding piece_at clash_at
    hearings_counted i d n is =
        let piece : piece_at s i t ≡ d.event = get_or-map (λ (x : HearOutcome). x.event) (hearings_at s t) i d None is in
        let meets : clash_at s i t ≡ d.clash = get_or-map (λ (x : HearOutcome). x.clash) (hearings_at s t) i d false is in
        let good = count_next (λ u. arrives_good (piece_at s i u)) t (arrives_good d.event) small (ap arrives_good piece) in
        let bad = count_next (λ u. arrives_bad (piece_at s i u)) t (arrives_bad d.event) small (ap arrives_bad piece) in
        let clash = count_next (clash_at s i) t d.clash small meets in
        rw (good, bad, clash) refl

    abbrev after_one : List NodeTotals → List NodeTotals
    after_one totals =
        each_with after_hearing (each_with after_driving (after_refusals totals (offer_records_at s t)) (drives_at s t)) (hearings_at s t)

    totals_next : after_one (totals_by (totals_of s t) 0 s.nodes) ≡ totals_by (totals_of s (suc t)) 0 s.nodes
    totals_next =
        let offers =
        refusals_by (totals_of s t) 0 s.nodes (offer_records_at s t)
        ∙ totals_by_same (λ j n. refused (totals_of s t j n) (offer_records_at s t)) (offered_totals t) offers_counted 0 s.nodes in
        let drives =
        phase_by after_driving (offered_totals t) (driven_totals t) 0 s.nodes (drives_at s t) (length-drives s t)
        (λ k d n is. rw zero-add (drives_counted k d n is)) in
        let hearings =
        phase_by after_hearing (driven_totals t) (totals_of s (suc t)) 0 s.nodes (hearings_at s t) (length-hearings s t)
        (λ k d n is. rw zero-add (hearings_counted k d n is)) in
        rw (offers, drives) hearings

-- ---- all ticks below the end

totals_zero : (s : Script) (i : ℕ) (ns : List NodeLine) → map (λ (n : NodeLine). no_totals n.no) ns ≡ totals_by (totals_of s 0) i ns
unfolding count_below events_below
totals_zero s i [] = refl
totals_zero s i (n ∷ ns) = ap (λ (r : List NodeTotals). no_totals n.no ∷ r) (totals_zero s (i + 1) ns)

totals_told : (s : Script) (t : ℕ) → IsScript s → t ≤ s.end
    → totals_in track_phases s.acts s.nodes (first_tracks s) t ≡ totals_by (totals_of s t) 0 s.nodes
unfolding totals_in
totals_told s zero valid within = totals_zero s 0 s.nodes
totals_told s (suc t) valid within = rw (totals_told s t valid (omega arith)) (totals_next s valid t (omega arith))

pub totals_are : (s : Script) (t : ℕ) → IsScript s → t ≤ s.end → totals_in track_phases s.acts s.nodes (first_tracks s) t ≡ totals_below s t
unfolding totals_below
totals_are s t valid within = totals_told s t valid within ∙ sym (totals_from_are s t 0 s.nodes)
