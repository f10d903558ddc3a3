-- The run of a script without acts: no node is offered a frame, and no noise is heard.
use Rattle.std.proofs.Common.{◌≡◌, ℕ, List, [], refl, ◌∙◌, ap}
use Rattle.t1s_symbols.specs.declared.Heard.{Heard}
use Rattle.t1s_script.specs.declared.script.Script.{Script}
use Rattle.t1s_script.specs.declared.script.Act.{Act}
use Rattle.t1s_line.specs.declared.track.Track.{Track}
use Rattle.t1s_line.specs.Acts.{offers_at, offers_to, is_noisy, with_noise}
use Rattle.t1s_line.specs.Outcomes.{DriveOutcome, HearOutcome}
use Rattle.t1s_line.specs.Track.{drive_track, hear_track}
use Rattle.t1s_line.specs.World.{machine_of}

no_offers : (acts : List Act) → acts ≡ [] → (t node : ℕ) → offers_to acts t node ≡ []
unfolding offers_at
no_offers acts e t node = rw e refl

no_noise : (acts : List Act) → acts ≡ [] → (t : ℕ) (h : Heard) → with_noise acts t h ≡ h
unfolding is_noisy
no_noise acts e t h = rw e refl

module _ (s : Script) (none : s.acts ≡ []) where
  pub drives_alone : (t : ℕ) (k : Track) → (machine_of s).drive t k ≡ drive_track t k
  drives_alone t k = rw (no_offers s.acts none t k.no) refl

  pub hears_alone : (t : ℕ) (x : Heard) (k : Track) → (machine_of s).hear t x k ≡ hear_track t x k
  hears_alone t x k = rw (no_noise s.acts none t x) refl

  -- what a tick leaves of a node
  pub tick_alone : (t : ℕ) (x : Heard) (k : Track) → ((machine_of s).hear t x ((machine_of s).drive t k).0).0 ≡ (hear_track t x (drive_track t k).0).0
  tick_alone t x k =
      ap (λ (r : Track × DriveOutcome). ((machine_of s).hear t x r.0).0) (drives_alone t k)
      ∙ ap (λ (r : Track × HearOutcome). r.0) (hears_alone t x (drive_track t k).0)

  -- and what it drives
  pub quarter_alone : (t : ℕ) (k : Track) → ((machine_of s).drive t k).1.quarter ≡ (drive_track t k).1.quarter
  quarter_alone t k = ap (λ (r : Track × DriveOutcome). r.1.quarter) (drives_alone t k)
