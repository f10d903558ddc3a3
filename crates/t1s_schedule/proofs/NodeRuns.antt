-- A node of the world is a run of one node, from its start on: by the offers to it and by what it hears.
use Rattle.std.proofs.Common.{◌≡◌, ℕ, zero, suc, ◌+◌, ◌<◌, ◌≤◌, List, [], ◌∷◌, Some, None, refl, ◌∙◌, ap, ap₂, arith}
use Rattle.std.specs.Prelude.{slice_get}
use Rattle.t1s_symbols.specs.declared.Heard.{Heard}
use Rattle.t1s_ring.specs.Queue.{empty_queue}
use Rattle.t1s_ring.specs.declared.queued.Queued.{Queued}
use Rattle.t1s_node.specs.Node.{NodeState, node_start, node_drive, node_hear}
use Rattle.t1s_node.specs.NodeRuns.{NodeTick, node_after_offers, node_at, node_drive_at}
use Rattle.t1s_world.specs.World.{heard_at}
use Rattle.t1s_world.proofs.ListLemmas.{slice_get-map}
use Rattle.t1s_world.proofs.WorldLemmas.{past-zero, kept_next, driven_is}
use Rattle.t1s_script.specs.declared.script.NodeLine.{NodeLine}
use Rattle.t1s_script.specs.declared.script.Script.{Script}
use Rattle.t1s_script.specs.Taps.{taps_of}
use Rattle.t1s_line.specs.declared.track.Track.{Track}
use Rattle.t1s_line.specs.Acts.{offers_to, with_noise}
use Rattle.t1s_line.specs.Outcomes.{with_offers}
use Rattle.t1s_line.specs.Track.{track_phases, offered_track, drive_track, driven_track, hear_track, hearing_track}
use Rattle.t1s_line.specs.World.{machine_of, world, first_track, first_tracks, node_set_of, draws_of, driven_in}
use Rattle.t1s_line.proofs.HeardTicks.{offer_before, offer_started, drive_before, drive_started, hear_before, hear_started}

-- ---- one tick of a node of the world

-- before its start it takes no offer
pub offers_before : (t : ℕ) (qs : List Queued) (k : Track) → t < k.start → with_offers track_phases t qs k ≡ k
offers_before t [] k lt = refl
offers_before t (q ∷ qs) k lt = rw (offer_before t q k lt) (offers_before t qs k lt)

abbrev pub with_node : NodeState → Track → Track
with_node x k = record k { node = x }

-- from then on it takes them as the node alone does
pub offers_from : (t : ℕ) (qs : List Queued) (k : Track) → k.start ≤ t → with_offers track_phases t qs k ≡ with_node (node_after_offers k.node qs) k
offers_from t [] k ge = refl
offers_from t (q ∷ qs) k ge = rw (offer_started t q k ge) (offers_from t qs (offered_track q k) ge)

module _ (t : ℕ) (qs : List Queued) (k : Track) where
  kept_before : (x : Heard) → t < k.start → (hear_track t x (drive_track t (with_offers track_phases t qs k)).0).0 ≡ k
  kept_before x lt = rw (offers_before t qs k lt, drive_before t k lt, hear_before t x k lt) refl

  quarter_before : t < k.start → (drive_track t (with_offers track_phases t qs k)).1.quarter ≡ None
  quarter_before lt = rw (offers_before t qs k lt, drive_before t k lt) refl

  abbrev with_offered : Track
  with_offered = with_node (node_after_offers k.node qs) k

  kept_from : (x : Heard) → k.start ≤ t
      → (hear_track t x (drive_track t (with_offers track_phases t qs k)).0).0 ≡ hearing_track x (driven_track with_offered)
  kept_from x ge = rw (offers_from t qs k ge, drive_started t with_offered ge, hear_started t x (driven_track with_offered) ge) refl

  quarter_from : k.start ≤ t → (drive_track t (with_offers track_phases t qs k)).1.quarter ≡ (node_drive (node_after_offers k.node qs)).1.quarter
  quarter_from ge = rw (offers_from t qs k ge, drive_started t with_offered ge) refl

-- ---- the node at position j, tick by tick

module _ (s : Script) (j : ℕ) (line : NodeLine) (there : slice_get s.nodes j ≡ Some line) where
  -- what it hears in tick t of the world, once it has started
  abbrev pub hears_in : ℕ → Heard
  hears_in t = with_noise s.acts t (heard_at (machine_of s) (taps_of s) (first_tracks s) t j)

  -- what comes to it in its own tick u
  abbrev pub given : ℕ → NodeTick
  given u = record { offers = offers_to s.acts (line.start + u) line.no; heard = hears_in (line.start + u) }

  abbrev pub start_node : NodeState
  start_node = node_start (node_set_of s line) (empty_queue s.room) (draws_of s line)

  -- before its start it stays as it is at first
  pub waits_until : (t : ℕ) → t ≤ line.start → slice_get (world s t).nodes j ≡ Some (first_track s line)
  waits_until zero le = rw (past-zero (machine_of s) (taps_of s) (first_tracks s)) (slice_get-map (first_track s) s.nodes j line there)
  waits_until (suc t) le =
      let k : Track = first_track s line in
      let before = waits_until t (omega (arith, le)) in
      kept_next (machine_of s) (taps_of s) (first_tracks s) t j k before
      ∙ ap Some (kept_before t (offers_to s.acts t k.no) k (hears_in t) (omega (arith, le)))

  pub drives_before : (t : ℕ) → t < line.start → driven_in s j t ≡ None
  drives_before t lt =
      let k : Track = first_track s line in
      driven_is (machine_of s) (taps_of s) (first_tracks s) t j k (waits_until t (omega (arith, lt))) ∙ quarter_before t (offers_to s.acts t k.no) k lt

  -- the world at its own tick u
  pub record RunsAt (u : ℕ) : Type 0 where
    pub track : Track
    pub found : slice_get (world s (line.start + u)).nodes j ≡ Some track
    pub node : track.node ≡ node_at start_node given u
    pub no : track.no ≡ line.no
    pub start : track.start ≡ line.start

  pub runs_at : (u : ℕ) → RunsAt u
  unfolding node_at
  runs_at zero =
      let e : line.start + zero ≡ line.start = omega arith in
      record { track = first_track s line; found = rw e (waits_until line.start (omega arith)); node = refl; no = refl; start = refl }
  runs_at (suc u) =
      let r = runs_at u in
      let k : Track = r.track in
      let t : ℕ = line.start + u in
      let ge : k.start ≤ t = omega (arith, r.start) in
      let e : line.start + suc u ≡ suc (line.start + u) = omega arith in
      let next = kept_next (machine_of s) (taps_of s) (first_tracks s) t j k r.found ∙ ap Some (kept_from t (offers_to s.acts t k.no) k (hears_in t) ge) in
      record {
        track = hearing_track (hears_in t) (driven_track (with_offered t (offers_to s.acts t k.no) k));
        found = rw e next;
        node = ap₂ (λ (x : NodeState) (no : ℕ). node_hear (node_drive (node_after_offers x (offers_to s.acts t no))).0 (hears_in t)) r.node r.no;
        no = r.no;
        start = r.start;
      }

  -- so it drives what the node alone does
  pub drives_from : (u : ℕ) → driven_in s j (line.start + u) ≡ (node_drive_at start_node given u).quarter
  drives_from u =
      let r = runs_at u in
      let k : Track = r.track in
      let t : ℕ = line.start + u in
      driven_is (machine_of s) (taps_of s) (first_tracks s) t j k r.found
      ∙ (quarter_from t (offers_to s.acts t k.no) k (omega (arith, r.start))
      ∙ ap₂ (λ (x : NodeState) (no : ℕ). (node_drive (node_after_offers x (offers_to s.acts t no))).1.quarter) r.node r.no)
