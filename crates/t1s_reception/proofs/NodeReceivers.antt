-- The receiver of a node of a script is, in every tick, a receiver over all that the node hears and drives from tick 0 on.
use Rattle.std.proofs.Common.{◌≡◌, refl, ℕ, zero, suc, ◌+◌, ◌<◌, ◌≤◌, inl, inr, false, List, [], ◌∷◌, ◌++◌, length, sym, ap, ◌∙◌, arith, lt-ltb, le-ltb, length-append}
use Rattle.std.specs.Prelude.{Option, Some, None, is_some, slice_get}
use Rattle.std.specs.Option.{option_map, option_to_list}
use Rattle.std.proofs.lemmas.Bool.{cases_lt}
use Rattle.std.proofs.lemmas.List.{append-nil}
use Rattle.t1s_symbols.specs.declared.Heard.{Heard}
use Rattle.t1s_symbols.specs.declared.Heard.TheVariants.{Nothing}
use Rattle.t1s_ring.specs.declared.queued.Queued.{Queued}
use Rattle.t1s_pcs_rx.specs.Receiver.{Receiver, receive_start}
use Rattle.t1s_pcs_rx.specs.ReceiveTable.{closing_in, receive_step, receive_event}
use Rattle.t1s_pcs_rx.specs.Views.{View}
use Rattle.t1s_node.specs.Node.{node_drive}
use Rattle.t1s_world.specs.Events.{events_below}
use Rattle.t1s_world.specs.World.{heard_at}
use Rattle.t1s_world.proofs.ListLemmas.{get_or-map, slice_get-map}
use Rattle.t1s_world.proofs.WorldLemmas.{past-zero, kept_next, driven_is, hear_outcome_is}
use Rattle.t1s_script.specs.declared.script.NodeLine.{NodeLine}
use Rattle.t1s_script.specs.declared.script.Script.{Script}
use Rattle.t1s_script.specs.Taps.{taps_of}
use Rattle.t1s_line.specs.declared.track.Track.{Track}
use Rattle.t1s_line.specs.Acts.{offers_to, with_noise}
use Rattle.t1s_line.specs.Outcomes.{HearOutcome, with_offers}
use Rattle.t1s_line.specs.Runs.{hearings_in}
use Rattle.t1s_line.specs.Track.{track_phases, offer_track, drive_track, driven_track, hear_track}
use Rattle.t1s_line.specs.World.{machine_of, world, first_track, first_tracks, driven_in, hearings_at, piece_at, start_of, heard_by, heard_in, position_of, tick_in}
use Rattle.t1s_line.proofs.HeardTicks.{offer_before, offer_started, drive_before, drive_started, hear_before, hear_started, offers_start}
use Rattle.t1s_report.specs.HeardText.{ticks_heard}
use Rattle.t1s_capture.specs.Cut.{Tick}
use Rattle.t1s_reception.specs.Receptions.{Reception, in_tick, receptions_from, receiver_after}
use Rattle.t1s_reception.specs.HeardPieces.{arrivals_below}
use Rattle.t1s_reception.proofs.CutReceptions.{receptions_from-append, receiver_after-append}

-- an offer leaves the receiver as it is
offer_receiver : (t : ℕ) (q : Queued) (k : Track) → (offer_track t q k).0.node.receiver ≡ k.node.receiver
offer_receiver t q k = elim (cases_lt t k.start) [
  | inl lt ↦ rw (offer_before t q k lt) refl
  | inr ge ↦ rw (offer_started t q k ge) refl
]

offers_receiver : (t : ℕ) (qs : List Queued) (k : Track) → (with_offers track_phases t qs k).node.receiver ≡ k.node.receiver
offers_receiver t [] k = refl
offers_receiver t (q ∷ qs) k = offers_receiver t qs (offer_track t q k).0 ∙ offer_receiver t q k

before_start : receive_step receive_start Nothing false ≡ receive_start
unfolding receive_step
before_start = refl

-- the node at position j
module _ (s : Script) (j : ℕ) (line : NodeLine) (found : slice_get s.nodes j ≡ Some line) where
  starts : start_of s j ≡ line.start
  starts = get_or-map (λ (n : NodeLine). n.start) s.nodes j line 0 found

  -- what it hears in a tick, and whether it drives, tick by tick
  abbrev pub node_ticks : ℕ → List Tick
  node_ticks t = events_below (λ u. tick_in s j u ∷ []) t

  -- ---- one tick

  module _ (t : ℕ) (k : Track) (at : slice_get (world s t).nodes j ≡ Some k) (start : k.start ≡ line.start) where
    abbrev arrives : Heard
    arrives = with_noise s.acts t (heard_at (machine_of s) (taps_of s) (first_tracks s) t j)

    abbrev offered : Track
    offered = with_offers track_phases t (offers_to s.acts t k.no) k

    abbrev heard_track : Track × HearOutcome
    heard_track = hear_track t arrives (drive_track t offered).0

    offered_start : offered.start ≡ line.start
    offered_start = offers_start t (offers_to s.acts t k.no) k ∙ start

    drives : driven_in s j t ≡ (drive_track t offered).1.quarter
    drives = driven_is (machine_of s) (taps_of s) (first_tracks s) t j k at

    hears_before : t < line.start → heard_in s j t ≡ Nothing
    unfolding heard_in
    hears_before lt = rw (starts, lt-ltb t line.start lt) refl

    hears_from : line.start ≤ t → heard_in s j t ≡ arrives
    unfolding heard_in
    hears_from ge = rw (starts, le-ltb t line.start ge) refl

    silent_before : t < line.start → driven_in s j t ≡ None
    silent_before lt = drives ∙ rw (drive_before t offered (omega (arith, offered_start, lt))) refl

    receiver_before : t < line.start → heard_track.0.node.receiver ≡ k.node.receiver
    receiver_before lt =
        let soon : t < offered.start = omega (arith, offered_start, lt) in
        rw (drive_before t offered soon, hear_before t arrives offered soon) (offers_receiver t (offers_to s.acts t k.no) k)

    event_before : t < line.start → heard_track.1.event ≡ None
    event_before lt =
        let soon : t < offered.start = omega (arith, offered_start, lt) in
        rw (drive_before t offered soon, hear_before t arrives offered soon) refl

    receiver_from : line.start ≤ t → heard_track.0.node.receiver ≡ receive_step k.node.receiver (heard_in s j t) (is_some (driven_in s j t))
    receiver_from ge =
        let by : offered.start ≤ t = omega (arith, offered_start, ge) in
        rw (hears_from ge, drives, drive_started t offered by, hear_started t arrives (driven_track offered) by)
        (ap (λ (r : Receiver). receive_step r arrives (is_some (node_drive offered.node).1.quarter)) (offers_receiver t (offers_to s.acts t k.no) k))

    event_from : line.start ≤ t → heard_track.1.event ≡ receive_event k.node.receiver (heard_in s j t) (is_some (driven_in s j t))
    event_from ge =
        let by : offered.start ≤ t = omega (arith, offered_start, ge) in
        rw (hears_from ge, drives, drive_started t offered by, hear_started t arrives (driven_track offered) by)
        (ap (λ (r : Receiver). receive_event r arrives (is_some (node_drive offered.node).1.quarter)) (offers_receiver t (offers_to s.acts t k.no) k))

    piece_is : piece_at s j t ≡ heard_track.1.event
    unfolding piece_at hearings_in
    piece_is =
        get_or-map (λ (d : HearOutcome). d.event) (hearings_at s t) j _ None (hear_outcome_is (machine_of s) (taps_of s) (first_tracks s) t j k at)

    next_track : slice_get (world s (suc t)).nodes j ≡ Some heard_track.0
    next_track = kept_next (machine_of s) (taps_of s) (first_tracks s) t j k at

  -- ---- all ticks

  -- the node as tick t finds it
  pub record HasReceiver (t : ℕ) : Type 0 where
    pub track : Track
    pub at : slice_get (world s t).nodes j ≡ Some track
    pub start : track.start ≡ line.start
    pub early : t ≤ line.start → track.node.receiver ≡ receive_start
    pub receiver : track.node.receiver ≡ receiver_after receive_start (node_ticks t)

  ticks_more : (t : ℕ) → node_ticks (suc t) ≡ node_ticks t ++ tick_in s j t ∷ []
  unfolding events_below
  ticks_more t = refl

  pub length-node_ticks : (t : ℕ) → length (node_ticks t) ≡ t
  unfolding events_below
  length-node_ticks zero = refl
  length-node_ticks (suc t) = omega (arith, length-append (node_ticks t) (tick_in s j t ∷ []), length-node_ticks t)

  pub next_receiver : (t : ℕ) → receiver_after receive_start (node_ticks (suc t))
      ≡ receive_step (receiver_after receive_start (node_ticks t)) (heard_in s j t) (is_some (driven_in s j t))
  next_receiver t =
      ap (receiver_after receive_start) (ticks_more t) ∙ receiver_after-append (node_ticks t) (tick_in s j t ∷ []) receive_start

  next_start : (t : ℕ) (k : Track) (at : slice_get (world s t).nodes j ≡ Some k) (start : k.start ≡ line.start)
      → (heard_track t k at start).0.start ≡ line.start
  next_start t k at start = elim (cases_lt t line.start) [
    | inl lt ↦
        let soon : t < (offered t k at start).start = omega (arith, offered_start t k at start, lt) in
        rw (drive_before t (offered t k at start) soon, hear_before t (arrives t k at start) (offered t k at start) soon) (offered_start t k at start)
    | inr ge ↦
        let by : (offered t k at start).start ≤ t = omega (arith, offered_start t k at start, ge) in
        rw (drive_started t (offered t k at start) by, hear_started t (arrives t k at start) (driven_track (offered t k at start)) by)
        (offered_start t k at start)
  ]

  pub has_receiver : (t : ℕ) → HasReceiver t
  unfolding events_below
  has_receiver zero = record {
    track = first_track s line;
    at = rw (past-zero (machine_of s) (taps_of s) (first_tracks s)) (slice_get-map (first_track s) s.nodes j line found);
    start = refl;
    early = λ le. refl;
    receiver = refl;
  }
  has_receiver (suc t) =
      let h = has_receiver t in
      let k : Track = h.track in
      record {
        track = (heard_track t h.track h.at h.start).0;
        at = next_track t h.track h.at h.start;
        start = next_start t h.track h.at h.start;
        early = λ le. receiver_before t h.track h.at h.start (omega (arith, le)) ∙ h.early (omega (arith, le));
        receiver = elim (cases_lt t line.start) [
          | inl lt ↦
              let first : receiver_after receive_start (node_ticks t) ≡ receive_start = sym h.receiver ∙ h.early (omega (arith, lt)) in
              receiver_before t h.track h.at h.start lt
              ∙ h.early (omega (arith, lt))
              ∙ sym before_start
              ∙ sym (rw (hears_before t h.track h.at h.start lt, silent_before t h.track h.at h.start lt, first) refl)
              ∙ sym (next_receiver t)
          | inr ge ↦
              receiver_from t h.track h.at h.start ge
              ∙ ap (λ (r : Receiver). receive_step r (heard_in s j t) (is_some (driven_in s j t))) h.receiver
              ∙ sym (next_receiver t)
        ];
      }

  -- before its start a receiver completes nothing
  no_event : receive_event receive_start Nothing false ≡ None
  unfolding closing_in
  no_event = refl

  pub piece_told : (t : ℕ) → piece_at s j t ≡ receive_event (receiver_after receive_start (node_ticks t)) (heard_in s j t) (is_some (driven_in s j t))
  piece_told t =
      let h = has_receiver t in
      piece_is t h.track h.at h.start
      ∙ (elim (cases_lt t line.start) [
        | inl lt ↦
            let first : receiver_after receive_start (node_ticks t) ≡ receive_start = sym h.receiver ∙ h.early (omega (arith, lt)) in
            event_before t h.track h.at h.start lt
            ∙ sym (rw (hears_before t h.track h.at h.start lt, silent_before t h.track h.at h.start lt, first) no_event)
        | inr ge ↦
            event_from t h.track h.at h.start ge
            ∙ ap (λ (r : Receiver). receive_event r (heard_in s j t) (is_some (driven_in s j t))) h.receiver
      ])

  -- so what it completes is what a receiver completes over its ticks
  pub arrivals_are : (t : ℕ) → receptions_from 0 receive_start (node_ticks t) ≡ arrivals_below s j t
  unfolding events_below
  arrivals_are zero = refl
  arrivals_are (suc t) =
      let now : 0 + length (node_ticks t) ≡ t = omega (arith, length-node_ticks t) in
      let event : Option View = receive_event (receiver_after receive_start (node_ticks t)) (heard_in s j t) (is_some (driven_in s j t)) in
      receptions_from-append (node_ticks t) (tick_in s j t ∷ []) 0 receive_start
      ∙ ap (λ (n : ℕ). receptions_from 0 receive_start (node_ticks t) ++ (in_tick n event ++ [])) now
      ∙ ap (λ (xs : List Reception). receptions_from 0 receive_start (node_ticks t) ++ xs) (append-nil (in_tick t event))
      ∙ ap (λ (xs : List Reception). xs ++ in_tick t event) (arrivals_are t)
      ∙ ap (λ (e : Option View). arrivals_below s j t ++ in_tick t e) (sym (piece_told t))

  pub ticks_heard_are : (node : ℕ) → position_of s node ≡ Some j → (t : ℕ) → ticks_heard s node t ≡ node_ticks t
  unfolding events_below
  ticks_heard_are node is zero = refl
  ticks_heard_are node is (suc t) =
      ap (λ (xs : List Tick). xs ++ option_to_list (heard_by s node t)) (ticks_heard_are node is t)
      ∙ ap (λ (o : Option ℕ). node_ticks t ++ option_to_list (option_map (λ i. tick_in s i t) o)) is
