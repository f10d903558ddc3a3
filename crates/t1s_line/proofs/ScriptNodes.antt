-- The nodes of a script's run, tick by tick: as many as the script has, each with its number.
use Rattle.std.proofs.Common.{◌≡◌, ℕ, Bool, true, false, cond, List, [], ◌∷◌, length, map, refl, ◌∙◌}
use Rattle.std.specs.Prelude.{nat_lt}
use Rattle.std.proofs.lemmas.List.{length-map}
use Rattle.std.proofs.lemmas.Simd.{map-map}
use Rattle.t1s_symbols.specs.declared.Heard.{Heard}
use Rattle.t1s_ring.specs.declared.queued.Queued.{Queued}
use Rattle.t1s_world.specs.World.{after_drive, heard_at}
use Rattle.t1s_world.proofs.WorldLemmas.{length-nodes, length-hear_outcomes, past_keeps}
use Rattle.t1s_script.specs.Script.{numbers_of}
use Rattle.t1s_script.specs.declared.script.Script.{Script}
use Rattle.t1s_script.specs.Taps.{taps_of}
use Rattle.t1s_line.specs.declared.offers.OfferOutcome.{OfferOutcome}
use Rattle.t1s_line.specs.declared.offers.OfferOutcome.TheVariants.{Off}
use Rattle.t1s_line.specs.declared.track.Track.{Track}
use Rattle.t1s_line.specs.Acts.{offers_to}
use Rattle.t1s_line.specs.Outcomes.{DriveOutcome, HearOutcome, KeepsNumber, with_offers}
use Rattle.t1s_line.specs.Runs.{drives_in, hearings_in}
use Rattle.t1s_line.specs.Track.{offered_track, offer_outcome, offer_track, driven_track, no_drive, drive_outcome, drive_track, hearing_track, hear_outcome, no_hearing, hear_track, track_phases}
use Rattle.t1s_line.specs.World.{machine_of, first_track, first_tracks, world, drives_at, hearings_at}

-- ---- no part of a tick changes the number of a node

pub offer_no : KeepsNumber track_phases
unfolding offer_track
offer_no t q k = go (nat_lt t k.start)
  where
    go : (b : Bool) → (cond {A = Track × OfferOutcome} b (k, Off) (offered_track q k, offer_outcome k)).0.no ≡ k.no
    go true = refl
    go false = refl

offers_no : (t : ℕ) (qs : List Queued) (k : Track) → (with_offers track_phases t qs k).no ≡ k.no
offers_no t [] k = refl
offers_no t (q ∷ qs) k = offers_no t qs (offer_track t q k).0 ∙ offer_no t q k

pub drive_no : (t : ℕ) (k : Track) → (drive_track t k).0.no ≡ k.no
unfolding drive_track
drive_no t k = go (nat_lt t k.start)
  where
    go : (b : Bool) → (cond {A = Track × DriveOutcome} b (k, no_drive) (driven_track k, drive_outcome t k)).0.no ≡ k.no
    go true = refl
    go false = refl

pub hear_no : (t : ℕ) (x : Heard) (k : Track) → (hear_track t x k).0.no ≡ k.no
unfolding hear_track
hear_no t x k = go (nat_lt t k.start)
  where
    go : (b : Bool) → (cond {A = Track × HearOutcome} b (k, no_hearing) (hearing_track x k, hear_outcome t x k)).0.no ≡ k.no
    go true = refl
    go false = refl

module _ (s : Script) where
  pub length-world : (t : ℕ) → length (world s t).nodes ≡ length s.nodes
  length-world t = length-nodes (machine_of s) (taps_of s) (first_tracks s) t ∙ length-map s.nodes (first_track s)

  pub length-drives : (t : ℕ) → length (drives_at s t) ≡ length s.nodes
  unfolding drives_in
  length-drives t = length-map (world s t).nodes (λ n. ((machine_of s).drive t n).1) ∙ length-world t

  pub length-hearings : (t : ℕ) → length (hearings_at s t) ≡ length s.nodes
  unfolding hearings_in
  length-hearings t =
      length-hear_outcomes (machine_of s) t (heard_at (machine_of s) (taps_of s) (first_tracks s) t) 0
      (after_drive (machine_of s) t (world s t).nodes)
      ∙ length-map (world s t).nodes (λ n. ((machine_of s).drive t n).0)
      ∙ length-world t

  pub numbers_stay : (t : ℕ) → map (λ (k : Track). k.no) (world s t).nodes ≡ numbers_of s.nodes
  numbers_stay t =
      past_keeps (machine_of s) (taps_of s) (first_tracks s) (λ (k : Track). k.no)
      (λ u k. drive_no u (with_offers track_phases u (offers_to s.acts u k.no) k) ∙ offers_no u (offers_to s.acts u k.no) k)
      (λ u x k. hear_no u _ k) t
      ∙ map-map (λ (k : Track). k.no) (first_track s) s.nodes
