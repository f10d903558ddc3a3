-- What each node of a script hears in a tick, and whether it drives in it, is what comes of the tick at that node.
use Rattle.std.proofs.Common.{◌≡◌, ℕ, zero, suc, ◌<◌, ◌≤◌, inl, inr, Bool, false, ◌&&◌, ◌||◌, cond, ltb, List, [], ◌∷◌, length, get_or, map, Option, Some, None, refl, sym, ◌∙◌, ap, arith}
use Rattle.std.specs.Option.{option_map}
use Rattle.std.specs.Prelude.{◌==◌, slice_get, is_some}
use Rattle.std.proofs.lemmas.Bool.{cases_lt, lt-ltb, le-ltb}
use Rattle.std.proofs.lemmas.List.{length-map}
use Rattle.std.proofs.lemmas.List.Quantifiers.{position-Some}
use Rattle.std.proofs.lemmas.Option.{slice_get_cases}
use Rattle.std.proofs.lemmas.Simd.{map-map}
use Rattle.t1s_symbols.specs.declared.Heard.{Heard}
use Rattle.t1s_symbols.specs.declared.Heard.TheVariants.{Nothing}
use Rattle.t1s_ring.specs.declared.queued.Queued.{Queued}
use Rattle.t1s_world.specs.World.{heard_at, hear_outcomes_at}
use Rattle.t1s_world.proofs.ListLemmas.{get_or-map}
use Rattle.t1s_world.proofs.WorldLemmas.{driven_is, hear_outcome_is, length-nodes, past_keeps}
use Rattle.t1s_node.specs.Node.{is_heard, is_many}
use Rattle.t1s_script.specs.declared.script.Script.{Script}
use Rattle.t1s_script.specs.declared.script.NodeLine.{NodeLine}
use Rattle.t1s_script.specs.Taps.{taps_of}
use Rattle.t1s_line.specs.declared.track.Track.{Track}
use Rattle.t1s_line.specs.declared.offers.OfferOutcome.TheVariants.{Off}
use Rattle.t1s_line.specs.Acts.{offers_to, with_noise}
use Rattle.t1s_line.specs.Outcomes.{HearOutcome, with_offers}
use Rattle.t1s_line.specs.Runs.{heard_below, hearings_in, heard_tick, last_heard_in}
use Rattle.t1s_line.specs.Track.{track_phases, offer_track, offered_track, offer_outcome, drive_track, hear_track, no_drive, no_hearing, driven_track, drive_outcome, hearing_track, hear_outcome}
use Rattle.t1s_line.specs.World.{machine_of, world, first_track, first_tracks, position_of, start_of, driven_in, heard_in, tick_in, last_heard, clash_at}

-- ---- an offer and the two phases before the start and from it on

pub offer_before : (t : ℕ) (q : Queued) (k : Track) → t < k.start → offer_track t q k ≡ (k, Off)
unfolding offer_track
offer_before t q k lt = rw (lt-ltb t k.start lt) refl

pub offer_started : (t : ℕ) (q : Queued) (k : Track) → k.start ≤ t → offer_track t q k ≡ (offered_track q k, offer_outcome k)
unfolding offer_track
offer_started t q k ge = rw (le-ltb t k.start ge) refl

pub drive_before : (t : ℕ) (k : Track) → t < k.start → drive_track t k ≡ (k, no_drive)
unfolding drive_track
drive_before t k lt = rw (lt-ltb t k.start lt) refl

pub drive_started : (t : ℕ) (k : Track) → k.start ≤ t → drive_track t k ≡ (driven_track k, drive_outcome t k)
unfolding drive_track
drive_started t k ge = rw (le-ltb t k.start ge) refl

pub hear_before : (t : ℕ) (x : Heard) (k : Track) → t < k.start → hear_track t x k ≡ (k, no_hearing)
unfolding hear_track
hear_before t x k lt = rw (lt-ltb t k.start lt) refl

pub hear_started : (t : ℕ) (x : Heard) (k : Track) → k.start ≤ t → hear_track t x k ≡ (hearing_track x k, hear_outcome t x k)
unfolding hear_track
hear_started t x k ge = rw (le-ltb t k.start ge) refl

-- none of them changes the start
offer_start : (t : ℕ) (q : Queued) (k : Track) → (offer_track t q k).0.start ≡ k.start
offer_start t q k = elim (cases_lt t k.start) [
  | inl lt ↦ rw (offer_before t q k lt) refl
  | inr ge ↦ rw (offer_started t q k ge) refl
]

pub offers_start : (t : ℕ) (qs : List Queued) (k : Track) → (with_offers track_phases t qs k).start ≡ k.start
offers_start t [] k = refl
offers_start t (q ∷ qs) k = offers_start t qs (offer_track t q k).0 ∙ offer_start t q k

pub drive_start : (t : ℕ) (k : Track) → (drive_track t k).0.start ≡ k.start
drive_start t k = elim (cases_lt t k.start) [
  | inl lt ↦ rw (drive_before t k lt) refl
  | inr ge ↦ rw (drive_started t k ge) refl
]

pub hear_start : (t : ℕ) (x : Heard) (k : Track) → (hear_track t x k).0.start ≡ k.start
hear_start t x k = elim (cases_lt t k.start) [
  | inl lt ↦ rw (hear_before t x k lt) refl
  | inr ge ↦ rw (hear_started t x k ge) refl
]

-- ---- a tick of the world

module _ (s : Script) where
  -- a node after the offers of tick t
  abbrev pub offered_in : ℕ → Track → Track
  offered_in t k = with_offers track_phases t (offers_to s.acts t k.no) k

  pub starts_are : (t : ℕ) → map (λ (k : Track). k.start) (world s t).nodes ≡ map (λ (n : NodeLine). n.start) s.nodes
  starts_are t =
      past_keeps (machine_of s) (taps_of s) (first_tracks s) (λ (k : Track). k.start)
      (λ u k. drive_start u (offered_in u k) ∙ offers_start u (offers_to s.acts u k.no) k)
      (λ u h k. hear_start u (with_noise s.acts u h) k)
      t
      ∙ map-map (λ (k : Track). k.start) (first_track s) s.nodes

  -- the node at a position, as tick t finds it
  pub track_at : (t j : ℕ) → j < length s.nodes → (k : Track) × (slice_get (world s t).nodes j ≡ Some k) × (start_of s j ≡ k.start)
  track_at t j there = elim (slice_get_cases (world s t).nodes j).1 [
    | inl found ↦ (
      found.0,
      found.2,
      ap (λ (ns : List ℕ). get_or ns j 0) (sym (starts_are t)) ∙ get_or-map (λ (k : Track). k.start) (world s t).nodes j found.0 0 found.2,
    )
    | inr past ↦ absurd (omega (arith, past.0, there, length-nodes (machine_of s) (taps_of s) (first_tracks s) t, length-map s.nodes (first_track s)))
  ]

  -- what comes of the tick at a node
  outcome_is : (t : ℕ) (x : Heard) (k : Track) → heard_tick (hear_track t x (drive_track t k).0).1 ≡ (cond (ltb t k.start) Nothing x, is_some (drive_track t k).1.quarter)
  outcome_is t x k = elim (cases_lt t k.start) [
    | inl lt ↦ rw (drive_before t k lt, hear_before t x k lt, lt-ltb t k.start lt) refl
    | inr ge ↦ rw (drive_started t k ge, hear_started t x (driven_track k) ge, le-ltb t k.start ge) refl
  ]

  tick_is : (t j : ℕ) → j < length s.nodes → get_or (heard_below track_phases s.acts s.nodes (first_tracks s) (suc t)) j (Nothing, false) ≡ tick_in s j t
  unfolding heard_below hearings_in heard_in
  tick_is t j there =
      let (k, at, start) = track_at t j there in
      let x : Heard = heard_at (machine_of s) (taps_of s) (first_tracks s) t j in
      let y : Heard = with_noise s.acts t x in
      let after : Track = offered_in t k in
      let same : start_of s j ≡ after.start = start ∙ sym (offers_start t (offers_to s.acts t k.no) k) in
      let outcomes : List HearOutcome = hear_outcomes_at (machine_of s) (taps_of s) (first_tracks s) t in
      let drives = driven_is (machine_of s) (taps_of s) (first_tracks s) t j k at in
      let comes = hear_outcome_is (machine_of s) (taps_of s) (first_tracks s) t j k at in
      rw (same, drives)
      (get_or-map heard_tick outcomes j (hear_track t y (drive_track t after).0).1 (Nothing, false) comes ∙ outcome_is t y after)

  -- whether signals meet there
  meets_is : (t : ℕ) (x : Heard) (k : Track) → (hear_track t x (drive_track t k).0).1.clash ≡ cond (ltb t k.start) false (is_many x || (is_some (drive_track t k).1.quarter && is_heard x))
  meets_is t x k = elim (cases_lt t k.start) [
    | inl lt ↦ rw (drive_before t k lt, hear_before t x k lt, lt-ltb t k.start lt) refl
    | inr ge ↦ rw (drive_started t k ge, hear_started t x (driven_track k) ge, le-ltb t k.start ge) refl
  ]

  -- what the node at a position hears once it has started, and so whether signals meet there
  abbrev pub comes_to : ℕ → ℕ → Heard
  comes_to t j = with_noise s.acts t (heard_at (machine_of s) (taps_of s) (first_tracks s) t j)

  pub clash_is : (t j : ℕ) → j < length s.nodes
      → clash_at s j t ≡ cond (ltb t (start_of s j)) false (is_many (comes_to t j) || (is_some (driven_in s j t) && is_heard (comes_to t j)))
  unfolding clash_at hearings_in
  clash_is t j there =
      let (k, at, start) = track_at t j there in
      let y : Heard = comes_to t j in
      let after : Track = offered_in t k in
      let same : start_of s j ≡ after.start = start ∙ sym (offers_start t (offers_to s.acts t k.no) k) in
      let outcomes : List HearOutcome = hear_outcomes_at (machine_of s) (taps_of s) (first_tracks s) t in
      let drives = driven_is (machine_of s) (taps_of s) (first_tracks s) t j k at in
      let comes = hear_outcome_is (machine_of s) (taps_of s) (first_tracks s) t j k at in
      rw (same, drives)
      (get_or-map (λ (d : HearOutcome). d.clash) outcomes j (hear_track t y (drive_track t after).0).1 false comes ∙ meets_is t y after)

  -- so what the nodes heard in the last tick is what the script's run tells
  pub last_heard_is : (node t : ℕ) → last_heard_in track_phases s.acts s.nodes (first_tracks s) node t ≡ last_heard s node t
  last_heard_is node zero = refl
  last_heard_is node (suc t) = go (position_of s node) refl
    where
      ticks : List (Heard × Bool)
      ticks = heard_below track_phases s.acts s.nodes (first_tracks s) (suc t)

      go : (o : Option ℕ) → position_of s node ≡ o → option_map (λ j. get_or ticks j (Nothing, false)) o ≡ option_map (λ j. tick_in s j t) o
      go None e = refl
      go (Some j) e =
          let none : NodeLine = get_or s.nodes 0 (record { no = 0; ids = []; place = 0; stub = 0; to = 0; start = 0; draws = None }) in
          ap Some (tick_is t j (position-Some (λ (n : NodeLine). n.no == node) s.nodes j none e).0)
