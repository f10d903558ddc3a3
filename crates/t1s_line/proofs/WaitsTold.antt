-- How an offer stands, followed tick by tick, is what its record and the ticks in which it leaves say.
use Rattle.std.proofs.Common.{◌≡◌, ℕ, zero, suc, ◌+◌, ◌-◌, ◌<◌, ◌≤◌, Bool, true, false, cond, le-leb, List, [], ◌∷◌, ◌++◌, length, length-append, All, Option, Some, None, refl, sym, ◌∙◌, ap, arith}
use Rattle.std.proofs.lemmas.Bool.{lt-leb}
use Rattle.std.specs.Prelude.{nat_le, ◌&&◌, ◌||◌}
use Rattle.std.specs.List.{filter, find, list_any}
use Rattle.std.specs.Option.{option_or}
use Rattle.std.proofs.lemmas.List.Elements.{All-head, All-filter, filter-append}
use Rattle.t1s_world.specs.Events.{events_below, first_below}
use Rattle.t1s_script.specs.Script.{IsScript}
use Rattle.t1s_script.specs.declared.script.Script.{Script}
use Rattle.t1s_line.specs.declared.offers.OfferOutcome.{OfferOutcome}
use Rattle.t1s_line.specs.declared.offers.OfferOutcome.TheVariants.{Taken, Full, Off}
use Rattle.t1s_line.specs.declared.offers.OfferState.{OfferState}
use Rattle.t1s_line.specs.declared.offers.OfferState.TheVariants.{Unknown, Expected, Off as StateOff, Full as StateFull, Taken as StateTaken, Left}
use Rattle.t1s_line.specs.Offers.{OfferRecord, is_offered, after_outcome, after_records, after_leave, leaves_number, after_leaves, wait_of}
use Rattle.t1s_line.specs.Outcomes.{DriveOutcome}
use Rattle.t1s_line.specs.Runs.{state_in}
use Rattle.t1s_line.specs.Track.{track_phases}
use Rattle.t1s_line.specs.World.{first_tracks, offer_records_at, offer_records_below, drives_at, leaves_in, wait_from, wait_by, wait_told, wait_below}
use Rattle.t1s_line.proofs.OneRecord.{has_number, one_record}
use Rattle.t1s_line.proofs.RecordTicks.{ticks_at, ticks_below}

-- ---- the first number below one that passes a test

module _ (p : ℕ → Bool) where
  first_next : (t : ℕ) (b : Bool) → p t ≡ b → first_below p (suc t) ≡ option_or (first_below p t) (cond b (Some t) None)
  unfolding first_below
  first_next t b is = rw is refl

  first_none : (t : ℕ) → ((v : ℕ) → v < t → p v ≡ false) → first_below p t ≡ None
  unfolding first_below
  first_none zero fails = refl
  first_none (suc t) fails = rw (first_none t (λ v lt. fails v (omega arith)), fails t (omega arith)) refl

-- ---- the state of an offer after the records of a tick, and after the leaves of its drive phase

-- after the records of this number alone, one after another
abbrev after_outcomes : OfferState → List OfferRecord → OfferState
after_outcomes state [] = state
after_outcomes state (r ∷ rs) = after_outcomes (after_outcome r.tick r.outcome state) rs

records_are : (number : ℕ) (state : OfferState) (rs : List OfferRecord)
    → after_records number state rs ≡ after_outcomes state (filter (has_number number) rs)
records_are number state [] = refl
records_are number state (r ∷ rs) = go (has_number number r) (filter (has_number number) rs) (λ after. records_are number after rs)
  where
    go : (b : Bool) (own : List OfferRecord) → ((after : OfferState) → after_records number after rs ≡ after_outcomes after own)
        → after_records number (cond b (after_outcome r.tick r.outcome state) state) rs ≡ after_outcomes state (cond b (r ∷ own) own)
    go true own rest = rest (after_outcome r.tick r.outcome state)
    go false own rest = rest state

-- that it leaves twice changes nothing
leave_twice : (t : ℕ) (b : Bool) (state : OfferState) → cond b (after_leave t (after_leave t state)) (after_leave t state) ≡ after_leave t state
leave_twice t true Unknown = refl
leave_twice t true Expected = refl
leave_twice t true StateOff = refl
leave_twice t true StateFull = refl
leave_twice t true (StateTaken at) = refl
leave_twice t true (Left wait) = refl
leave_twice t false state = refl

leaves_are : (t number : ℕ) (state : OfferState) (ds : List DriveOutcome)
    → after_leaves t number state ds ≡ cond (list_any (leaves_number number) ds) (after_leave t state) state
leaves_are t number state [] = refl
leaves_are t number state (d ∷ ds) = go (leaves_number number d) (list_any (leaves_number number) ds) (λ after. leaves_are t number after ds)
  where
    go : (b later : Bool) → ((after : OfferState) → after_leaves t number after ds ≡ cond later (after_leave t after) after)
        → after_leaves t number (cond b (after_leave t state) state) ds ≡ cond (b || later) (after_leave t state) state
    go true later rest = rest (after_leave t state) ∙ leave_twice t later state
    go false later rest = rest state

-- ---- an offer that there is not

unknown_outcome : (t : ℕ) (outcome : OfferOutcome) → after_outcome t outcome Unknown ≡ Unknown
unknown_outcome t Taken = refl
unknown_outcome t Full = refl
unknown_outcome t Off = refl

unknown_outcomes : (rs : List OfferRecord) → after_outcomes Unknown rs ≡ Unknown
unknown_outcomes [] = refl
unknown_outcomes (r ∷ rs) = rw (unknown_outcome r.tick r.outcome) (unknown_outcomes rs)

unknown_leaves : (t : ℕ) (b : Bool) → cond b (after_leave t Unknown) Unknown ≡ Unknown
unknown_leaves t true = refl
unknown_leaves t false = refl

-- ---- an offer by its records

module _ (s : Script) (number : ℕ) where
  abbrev has_left : ℕ → ℕ → Bool
  has_left at v = nat_le at v && leaves_in s number v

  abbrev state_from : ℕ → Option ℕ → OfferState
  state_from at None = StateTaken at
  state_from at (Some v) = Left (v - at)

  abbrev state_by : ℕ → OfferOutcome → ℕ → OfferState
  state_by t Taken at = state_from at (first_below (has_left at) t)
  state_by t Full at = StateFull
  state_by t Off at = StateOff

  abbrev state_told : ℕ → List OfferRecord → OfferState
  state_told t [] = Expected
  state_told t (r ∷ rs) = state_by t r.outcome r.tick

  -- one tick more
  leaves_next : (t at : ℕ) (b : Bool) (o : Option ℕ)
      → state_from at (option_or o (cond b (Some t) None)) ≡ cond b (after_leave t (state_from at o)) (state_from at o)
  leaves_next t at true None = refl
  leaves_next t at false None = refl
  leaves_next t at true (Some v) = refl
  leaves_next t at false (Some v) = refl

  taken_next : (t at : ℕ) → at ≤ t
      → state_by (suc t) Taken at ≡ cond (leaves_in s number t) (after_leave t (state_by t Taken at)) (state_by t Taken at)
  taken_next t at early =
      let test : has_left at t ≡ leaves_in s number t = rw (le-leb at t early) refl in
      rw (first_next (has_left at) t (leaves_in s number t) test) (leaves_next t at (leaves_in s number t) (first_below (has_left at) t))

  taken_now : (t at : ℕ) → at ≡ t → state_by t Taken at ≡ StateTaken at
  taken_now t at now =
      rw (first_none (has_left at) t (λ v lt. let late : nat_le at v ≡ false = lt-leb at v (omega (arith, now)) in rw late refl)) refl

  stays : (t : ℕ) (b : Bool) (state : OfferState) → after_leave t state ≡ state → state ≡ cond b (after_leave t state) state
  stays t true state same = sym same
  stays t false state same = refl

  old_next : (t at : ℕ) (outcome : OfferOutcome) → at ≤ t
      → state_by (suc t) outcome at ≡ cond (leaves_in s number t) (after_leave t (state_by t outcome at)) (state_by t outcome at)
  old_next t at Taken early = taken_next t at early
  old_next t at Full early = stays t (leaves_in s number t) StateFull refl
  old_next t at Off early = stays t (leaves_in s number t) StateOff refl

  new_is : (t at : ℕ) (outcome : OfferOutcome) → at ≡ t → after_outcome at outcome Expected ≡ state_by t outcome at
  new_is t at Taken now = sym (taken_now t at now)
  new_is t at Full now = refl
  new_is t at Off now = refl

  told_next : (t : ℕ) (old new : List OfferRecord) → length old + length new ≤ 1 → All (λ (r : OfferRecord). r.tick < t) old
      → All (λ (r : OfferRecord). r.tick ≡ t) new
      → cond (leaves_in s number t) (after_leave t (after_outcomes (state_told t old) new)) (after_outcomes (state_told t old) new)
      ≡ state_told (suc t) (old ++ new)
  told_next t [] [] one before now = sym (stays t (leaves_in s number t) Expected refl)
  told_next t [] (r ∷ []) one before now =
      let at : r.tick ≡ t = All-head (λ (x : OfferRecord). x.tick ≡ t) r [] now in
      rw (new_is t r.tick r.outcome at) (sym (old_next t r.tick r.outcome (omega (arith, at))))
  told_next t [] (r ∷ q ∷ new) one before now = absurd (omega arith)
  told_next t (r ∷ []) [] one before now =
      let early : r.tick < t = All-head (λ (x : OfferRecord). x.tick < t) r [] before in
      sym (old_next t r.tick r.outcome (omega (arith, early)))
  told_next t (r ∷ q ∷ old) [] one before now = absurd (omega arith)
  told_next t (r ∷ old) (q ∷ new) one before now = absurd (omega arith)

  -- ---- its state

  abbrev state : ℕ → OfferState
  state t = state_in track_phases s.acts s.nodes (first_tracks s) number t

  abbrev own_records : ℕ → List OfferRecord
  own_records t = filter (has_number number) (offer_records_below s t)

  abbrev new_records : ℕ → List OfferRecord
  new_records t = filter (has_number number) (offer_records_at s t)

  state_next : (t : ℕ) (before : OfferState) → state t ≡ before
      → state (suc t) ≡ cond (leaves_in s number t) (after_leave t (after_outcomes before (new_records t))) (after_outcomes before (new_records t))
  unfolding state_in leaves_in
  state_next t before is =
      rw (is, records_are number before (offer_records_at s t)) (leaves_are t number (after_outcomes before (new_records t)) (drives_at s t))

  state_first : (b : Bool) → is_offered s.acts number ≡ b → state 0 ≡ cond b Expected Unknown
  unfolding state_in
  state_first b is = rw is refl

  state_unknown : is_offered s.acts number ≡ false → (t : ℕ) → state t ≡ Unknown
  state_unknown not zero = state_first false not
  state_unknown not (suc t) =
      state_next t Unknown (state_unknown not t) ∙ rw (unknown_outcomes (new_records t)) (unknown_leaves t (leaves_in s number t))

  own_more : (t : ℕ) → own_records (suc t) ≡ own_records t ++ new_records t
  unfolding events_below
  own_more t = filter-append (has_number number) (offer_records_below s t) (offer_records_at s t)

  own_none : own_records 0 ≡ []
  unfolding events_below
  own_none = refl

  module _ (valid : IsScript s) (offered : is_offered s.acts number ≡ true) where
    state_is : (t : ℕ) → state t ≡ state_told t (own_records t)
    state_is zero = rw own_none (state_first true offered)
    state_is (suc t) =
        let one : length (own_records t) + length (new_records t) ≤ 1 =
        omega (arith, length-append (own_records t) (new_records t), ap length (own_more t), one_record s valid number (suc t)) in
        let before = All-filter (has_number number) (λ (r : OfferRecord). r.tick < t) (offer_records_below s t) (ticks_below s t) in
        let now = All-filter (has_number number) (λ (r : OfferRecord). r.tick ≡ t) (offer_records_at s t) (ticks_at s t) in
        state_next t (state_told t (own_records t)) (state_is t)
        ∙ told_next t (own_records t) (new_records t) one before now
        ∙ ap (state_told (suc t)) (sym (own_more t))

  -- ---- what is told of it

  waits_from : (at : ℕ) (o : Option ℕ) → wait_of (state_from at o) ≡ Some (wait_from at o)
  waits_from at None = refl
  waits_from at (Some v) = refl

  waits_by : (t at : ℕ) (outcome : OfferOutcome) → wait_of (state_by t outcome at) ≡ Some (wait_by s t number outcome at)
  waits_by t at Taken = waits_from at (first_below (has_left at) t)
  waits_by t at Full = refl
  waits_by t at Off = refl

  waits_told : (t : ℕ) (rs : List OfferRecord)
      → wait_of (state_told t (filter (has_number number) rs)) ≡ Some (wait_told s t number (find (has_number number) rs))
  waits_told t [] = refl
  waits_told t (r ∷ rs) = go (has_number number r) (filter (has_number number) rs) (find (has_number number) rs) (waits_told t rs)
    where
      go : (b : Bool) (own : List OfferRecord) (first : Option OfferRecord) → wait_of (state_told t own) ≡ Some (wait_told s t number first)
          → wait_of (state_told t (cond b (r ∷ own) own)) ≡ Some (wait_told s t number (cond b (Some r) first))
      go true own first rest = waits_by t r.tick r.outcome
      go false own first rest = rest

pub wait_is : (s : Script) (t number : ℕ) → IsScript s → t ≤ s.end
    → wait_of (state_in track_phases s.acts s.nodes (first_tracks s) number t) ≡ wait_below s t number
unfolding wait_below
wait_is s t number valid within = go (is_offered s.acts number) refl
  where
    go : (b : Bool) → is_offered s.acts number ≡ b → wait_of (state_in track_phases s.acts s.nodes (first_tracks s) number t)
        ≡ cond b (Some (wait_told s t number (find (has_number number) (offer_records_below s t)))) None
    go true is = rw (state_is s number valid is t) (waits_told s number t (offer_records_below s t))
    go false is = rw (state_unknown s number is t) refl
