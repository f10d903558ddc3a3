-- What comes of nothing happening in the two phases of a tick: no event, and no count is moved.
use Rattle.std.proofs.Common.{◌≡◌, ℕ, suc, ◌+◌, ◌<◌, ◌≤◌, Bool, true, false, ◌||◌, eqb, cond, List, [], ◌∷◌, length, map, Option, None, Some, refl, ◌∙◌, ap, arith}
use Rattle.std.specs.List.{AllByRecursion, cons_option, filter_map, list_any}
use Rattle.std.specs.Prelude.{slice_get}
use Rattle.t1s_symbols.specs.declared.Heard.{Heard}
use Rattle.t1s_symbols.specs.declared.Heard.TheVariants.{Nothing}
use Rattle.t1s_world.specs.Lists.{each_with}
use Rattle.t1s_script.specs.declared.script.Act.{Act}
use Rattle.t1s_line.specs.declared.offers.OfferState.{OfferState}
use Rattle.t1s_line.specs.declared.totals.NodeTotals.{NodeTotals}
use Rattle.t1s_line.specs.Acts.{Offer, offer_of, offers_at, has_act}
use Rattle.t1s_line.specs.Offers.{after_leaves}
use Rattle.t1s_line.specs.Outcomes.{DriveOutcome, HearOutcome}
use Rattle.t1s_line.specs.Runs.{drive_events_of, hear_events_of, heard_tick}
use Rattle.t1s_line.specs.Totals.{after_driving, after_hearing}
use Rattle.t1s_line.specs.CalmRuns.{quiet_drive, quiet_hearing}

-- ---- lists

pub each_of : {X : Type 0} (P : X → Type 0) (xs : List X) → ((j : ℕ) (x : X) → slice_get xs j ≡ Some x → P x) → AllByRecursion P xs
each_of P [] each = tt
each_of P (x ∷ xs) each = (each 0 x refl, each_of P xs (λ j y at. each (suc j) y at))

-- ---- acts

neither : (a b : Bool) → (a || b) ≡ false → (a ≡ false) × (b ≡ false)
neither true b e = cc
neither false b e = (refl, e)

-- a tick without acts has no offers
pub no_act_no_offers : (acts : List Act) (t : ℕ) → has_act acts t ≡ false → offers_at acts t ≡ []
unfolding has_act offers_at
no_act_no_offers [] t none = refl
no_act_no_offers (a ∷ acts) t none =
    let (here, later) = neither (eqb a.tick t) (list_any (λ (b : Act). eqb b.tick t) acts) none in
    let rest = no_act_no_offers acts t later in
    rw (here, rest) refl

-- ---- the drive phase

abbrev pub IsQuietDrive : DriveOutcome → Type 0
IsQuietDrive d = d ≡ quiet_drive d.ok

pub quiet_drive_events : (ds : List DriveOutcome) → AllByRecursion IsQuietDrive ds → drive_events_of ds ≡ []
quiet_drive_events [] all = refl
quiet_drive_events (d ∷ ds) all =
    let none : d.events ≡ [] = ap (λ (d : DriveOutcome). d.events) all.0 in
    let rest = quiet_drive_events ds all.1 in
    rw (none, rest) refl

quiet_driving : (n : NodeTotals) (ok : Bool) → after_driving n (quiet_drive ok) ≡ n
quiet_driving n ok = refl

pub quiet_drive_totals : (ns : List NodeTotals) (ds : List DriveOutcome) → AllByRecursion IsQuietDrive ds → each_with after_driving ns ds ≡ ns
quiet_drive_totals [] ds all = refl
quiet_drive_totals (n ∷ ns) [] all = refl
quiet_drive_totals (n ∷ ns) (d ∷ ds) all =
    let same : after_driving n d ≡ n = ap (after_driving n) all.0 ∙ quiet_driving n d.ok in
    let rest = quiet_drive_totals ns ds all.1 in
    ap (λ (m : NodeTotals). m ∷ each_with after_driving ns ds) same ∙ ap (λ (ms : List NodeTotals). n ∷ ms) rest

pub quiet_drive_leaves : (t k : ℕ) (state : OfferState) (ds : List DriveOutcome) → AllByRecursion IsQuietDrive ds → after_leaves t k state ds ≡ state
quiet_drive_leaves t k state [] all = refl
quiet_drive_leaves t k state (d ∷ ds) all =
    ap (λ (d : DriveOutcome). after_leaves t k state (d ∷ ds)) all.0 ∙ quiet_drive_leaves t k state ds all.1

-- ---- the hear phase

abbrev pub IsQuietHearing : HearOutcome → Type 0
IsQuietHearing d = d ≡ quiet_hearing

pub quiet_hear_events : (ds : List HearOutcome) → AllByRecursion IsQuietHearing ds → hear_events_of ds ≡ []
quiet_hear_events [] all = refl
quiet_hear_events (d ∷ ds) all =
    let none : d.events ≡ [] = ap (λ (d : HearOutcome). d.events) all.0 in
    let rest = quiet_hear_events ds all.1 in
    rw (none, rest) refl

quiet_hearing_counts : (n : NodeTotals) → after_hearing n quiet_hearing ≡ n
quiet_hearing_counts n = refl

pub quiet_hear_totals : (ns : List NodeTotals) (ds : List HearOutcome) → AllByRecursion IsQuietHearing ds → each_with after_hearing ns ds ≡ ns
quiet_hear_totals [] ds all = refl
quiet_hear_totals (n ∷ ns) [] all = refl
quiet_hear_totals (n ∷ ns) (d ∷ ds) all =
    let same : after_hearing n d ≡ n = ap (after_hearing n) all.0 ∙ quiet_hearing_counts n in
    let rest = quiet_hear_totals ns ds all.1 in
    ap (λ (m : NodeTotals). m ∷ each_with after_hearing ns ds) same ∙ ap (λ (ms : List NodeTotals). n ∷ ms) rest

-- each node heard nothing, and did not drive
pub quiet_heard : {X : Type 0} (xs : List X) (ds : List HearOutcome) → length ds ≡ length xs → AllByRecursion IsQuietHearing ds
    → map heard_tick ds ≡ map (λ _. (Nothing, false)) xs
quiet_heard [] [] size all = refl
quiet_heard [] (d ∷ ds) size all = cc
quiet_heard (x ∷ xs) [] size all = cc
quiet_heard (x ∷ xs) (d ∷ ds) size all =
    let silence : Heard × Bool = (Nothing, false) in
    let same : heard_tick d ≡ silence = ap heard_tick all.0 in
    let rest = quiet_heard xs ds (omega (arith, size)) all.1 in
    ap (λ (h : Heard × Bool). h ∷ map heard_tick ds) same ∙ ap (λ (hs : List (Heard × Bool)). silence ∷ hs) rest
