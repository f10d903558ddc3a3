-- The nodes of a segment have calm ticks: what holds of each one in a run, and what comes of a calm tick.
use Rattle.std.proofs.Common.{◌≡◌, ◌≢◌, ℕ, zero, suc, ◌+◌, ◌-◌, ◌<◌, ◌≤◌, min, inl, inr, lt-ltb, le-ltb, Bool, true, false, List, [], ◌++◌, Option, None, Some, refl, sym, ◌∙◌, ap, arith, subst}
use Rattle.std.specs.Prelude.{is_some}
use Rattle.std.specs.Fn.{iterate}
use Rattle.std.proofs.lemmas.Bool.{cases_lt}
use Rattle.t1s_symbols.specs.CalmSteps.{AreCalm, IsCalmFor}
use Rattle.t1s_symbols.proofs.CalmSteps.{cut, path_calm_for}
use Rattle.t1s_symbols.specs.declared.Heard.{Heard}
use Rattle.t1s_symbols.specs.declared.Heard.TheVariants.{Nothing}
use Rattle.t1s_ring.specs.declared.queued.Queued.{Queued}
use Rattle.t1s_mac.specs.declared.outcome.MacNote.TheVariants.{None as NoNote}
use Rattle.plca_control.specs.StatusTable.{status_is_ok}
use Rattle.t1s_pcs_rx.specs.Views.{View}
use Rattle.t1s_node.specs.declared.settings.Driven.{Driven}
use Rattle.t1s_node.specs.CalmNode.{IsCalmNode, TellsNothing, node_after_silence}
use Rattle.t1s_node.specs.Node.{NodeState, node_drive, node_hear, is_clash}
use Rattle.t1s_pcs_rx.specs.ReceiveTable.{receive_event}
use Rattle.t1s_node.proofs.CalmTold.{tells_nothing}
use Rattle.t1s_line.specs.declared.track.Track.{Track}
use Rattle.t1s_line.specs.Outcomes.{DriveOutcome, HearOutcome}
use Rattle.t1s_line.specs.Track.{arrive_events, drive_events, driven_track, drive_outcome, drive_track, hear_outcome, hear_track, hearing_track, leave_events, no_drive, note_events, offer_track, offered_track, status_events, track_phases}
use Rattle.t1s_line.specs.CalmRuns.{HasCalmTicks, IsCalmAt, after_silence, quiet_drive, quiet_hearing, silent_step}
use Rattle.t1s_line.specs.CalmTicks.{IsCalmTrack, IsTold, passed_track}
use Rattle.t1s_line.proofs.HeardTicks.{drive_before, drive_start, drive_started, hear_before, hear_start, hear_started, offer_before, offer_started}

-- ---- what holds of each node

offer_told : (t : ℕ) (q : Queued) (k : Track) → IsTold k → IsTold (offer_track t q k).0
offer_told t q k told = elim (cases_lt t k.start) [
  | inl lt ↦ rw (offer_before t q k lt) told
  | inr ge ↦ rw (offer_started t q k ge) (record { ok = told.ok; driving = told.driving })
]

driven_told : (k : Track) → IsTold (driven_track k)
driven_told k = record { ok = refl; driving = refl }

drive_told : (t : ℕ) (k : Track) → IsTold k → IsTold (drive_track t k).0
drive_told t k told = elim (cases_lt t k.start) [
  | inl lt ↦ rw (drive_before t k lt) told
  | inr ge ↦ rw (drive_started t k ge) (driven_told k)
]

hear_told : (t : ℕ) (h : Heard) (k : Track) → IsTold k → IsTold (hear_track t h k).0
hear_told t h k told = elim (cases_lt t k.start) [
  | inl lt ↦ rw (hear_before t h k lt) told
  | inr ge ↦ rw (hear_started t h k ge) (record { ok = told.ok; driving = told.driving })
]

-- ---- the drive phase of a calm tick

same_status : (t node : ℕ) (ok : Bool) → status_events t node ok ok ≡ []
same_status t node true = refl
same_status t node false = refl

-- what comes of it, by what the node tells of it
outcome_by : ℕ → ℕ → Bool → Bool → Driven → DriveOutcome
outcome_by t number ok driving d = record {
  quarter = d.quarter;
  note = d.note;
  ok = d.ok;
  leaves = d.leaves;
  events = status_events t number ok d.ok ++ note_events t number d.note ++ drive_events t number driving d.quarter ++ leave_events t number d.leaves;
}

outcome_is : (t : ℕ) (k : Track) → drive_outcome t k ≡ outcome_by t k.no k.ok k.driving (node_drive k.node).1
unfolding outcome_by
outcome_is t k = refl

quiet_by : (t number : ℕ) (ok : Bool) → outcome_by t number ok false (record { quarter = None; note = NoNote; ok = ok; leaves = None }) ≡ quiet_drive ok
unfolding outcome_by
quiet_by t number ok = rw (same_status t number ok) refl

module _ (t : ℕ) (k : Track) (told : IsTold k) (calm : IsCalmNode k.node) where
  tells : TellsNothing k.node
  tells = tells_nothing k.node calm

  quiet_outcome : drive_outcome t k ≡ quiet_drive (status_is_ok k.node.status)
  quiet_outcome =
      let silent : k.driving ≡ false = told.driving ∙ tells.drove_before in
      outcome_is t k
      ∙ ap (outcome_by t k.no k.ok k.driving) tells.drive
      ∙ ap (λ (ok : Bool). outcome_by t k.no ok k.driving (record { quarter = None; note = NoNote; ok = status_is_ok k.node.status; leaves = None })) told.ok
      ∙ ap (λ (driving : Bool). outcome_by t k.no (status_is_ok k.node.status) driving (record { quarter = None; note = NoNote; ok = status_is_ok k.node.status; leaves = None })) silent
      ∙ quiet_by t k.no (status_is_ok k.node.status)

  quiet_arrival : hear_outcome t Nothing (driven_track k) ≡ quiet_hearing
  quiet_arrival =
      let outcome : Bool → Bool → Option View → HearOutcome =
      λ drove clash event. record { heard = Nothing; drove = drove; clash = clash; event = event; events = arrive_events t k.no event } in
      ap (λ (drove : Bool). outcome drove (is_clash (node_drive k.node).0 Nothing) (receive_event (node_drive k.node).0.receiver Nothing (node_drive k.node).0.drove)) tells.drove
      ∙ ap (λ (clash : Bool). outcome false clash (receive_event (node_drive k.node).0.receiver Nothing (node_drive k.node).0.drove)) tells.clash
      ∙ ap (λ (event : Option View). outcome false false event) tells.event

calm_drive : (t : ℕ) (k : Track) → IsTold k → IsCalmTrack t k → (drive_track t k).1 ≡ quiet_drive (drive_track t k).1.ok
calm_drive t k told calm = elim (cases_lt t k.start) [
  | inl lt ↦ rw (drive_before t k lt) refl
  | inr ge ↦
      let quiet = quiet_outcome t k told (calm.node ge) in
      subst (λ (r : Track × DriveOutcome). r.1 ≡ quiet_drive r.1.ok) (sym (drive_started t k ge))
      (subst (λ (d : DriveOutcome). d ≡ quiet_drive d.ok) (sym quiet) refl)
]

calm_hearing : (t : ℕ) (k : Track) → IsTold k → IsCalmTrack t k → (hear_track t Nothing (drive_track t k).0).1 ≡ quiet_hearing
calm_hearing t k told calm = elim (cases_lt t k.start) [
  | inl lt ↦ rw (drive_before t k lt, hear_before t Nothing k lt) refl
  | inr ge ↦ rw (drive_started t k ge, hear_started t Nothing (driven_track k) ge) (quiet_arrival t k told (calm.node ge))
]

-- ---- the status

calm_first : (k : Track) → IsCalmTrack 0 k → (drive_track 0 k).1.ok ≡ false
calm_first k calm = elim (cases_lt 0 k.start) [
  | inl lt ↦ rw (drive_before 0 k lt) refl
  | inr ge ↦ absurd (calm.no_start (omega (arith, ge)))
]

calm_next : (t : ℕ) (h : Heard) (k : Track) → IsCalmTrack (suc t) (hear_track t h (drive_track t k).0).0
    → (drive_track (suc t) (hear_track t h (drive_track t k).0).0).1.ok ≡ true → (drive_track t k).1.ok ≡ true
calm_next t h k calm ok =
    let left : Track = (hear_track t h (drive_track t k).0).0 in
    let same : left.start ≡ k.start = hear_start t h (drive_track t k).0 ∙ drive_start t k in
    elim (cases_lt (suc t) left.start) [
      | inl lt ↦
          let off : (drive_track (suc t) left).1.ok ≡ false = ap (λ (r : Track × DriveOutcome). r.1.ok) (drive_before (suc t) left lt) in
          absurd (differ (drive_track (suc t) left).1.ok off ok)
      | inr ge ↦
          let other = calm.no_start in
          let started : k.start ≤ t = before k.start left.start t same ge other in
          let is : left ≡ hearing_track h (driven_track k) =
          ap (λ (r : Track × DriveOutcome). (hear_track t h r.0).0) (drive_started t k started) ∙ ap (λ (r : Track × HearOutcome). r.0) (hear_started t h (driven_track k) started) in
          let now : (drive_track (suc t) left).1.ok ≡ (node_drive left.node).1.ok = ap (λ (r : Track × DriveOutcome). r.1.ok) (drive_started (suc t) left ge) in
          let kept : (node_drive left.node).1.ok ≡ status_is_ok left.node.status = ap (λ (d : Driven). d.ok) (tells_nothing left.node (calm.node ge)).drive in
          let was : status_is_ok left.node.status ≡ (node_drive k.node).1.ok = ap (λ (j : Track). status_is_ok j.node.status) is in
          let told_ok : (drive_track t k).1.ok ≡ (node_drive k.node).1.ok = ap (λ (r : Track × DriveOutcome). r.1.ok) (drive_started t k started) in
          told_ok ∙ sym was ∙ sym kept ∙ sym now ∙ ok
    ]
  where
    differ : (b : Bool) → b ≡ false → b ≡ true → ⊥
    differ true off on = cc
    differ false off on = cc

    before : (a b t : ℕ) → b ≡ a → b ≤ suc t → (b ≢ suc t) → a ≤ t
    before a b t same ge other = omega (arith, same, ge, other)

-- ---- calm ticks that are passed

-- what a tick of silence leaves of a track that has started
after_tick : (t : ℕ) (k : Track) → k.start ≤ t → after_silence track_phases t k ≡ hearing_track Nothing (driven_track k)
after_tick t k ge =
    ap (λ (r : Track × DriveOutcome). (hear_track t Nothing r.0).0) (drive_started t k ge) ∙ ap (λ (r : Track × HearOutcome). r.0) (hear_started t Nothing (driven_track k) ge)

-- and of one that has not
before_tick : (t : ℕ) (k : Track) → t < k.start → after_silence track_phases t k ≡ k
before_tick t k lt =
    ap (λ (r : Track × DriveOutcome). (hear_track t Nothing r.0).0) (drive_before t k lt) ∙ ap (λ (r : Track × HearOutcome). r.0) (hear_before t Nothing k lt)

abbrev step : ℕ × Track → ℕ × Track
step = silent_step track_phases

abbrev Calm : ℕ × Track → Type 0
Calm = IsCalmAt IsCalmTrack

-- calm ticks from the next one on
later_calm : (n : ℕ) (at : ℕ × Track) → AreCalm step Calm at (suc n) → AreCalm step Calm (step at) n
later_calm n at all j lt = all (suc j) (omega (arith, lt))

passes_before : (n t : ℕ) (k : Track) → t ≤ k.start → AreCalm step Calm (t, k) n → (iterate step n (t, k)).1 ≡ k
passes_before zero t k le all = refl
passes_before (suc n) t k le all =
    let other = (all 0 (omega arith)).no_start in
    let same = before_tick t k (omega (arith, le, other)) in
    let next : AreCalm step Calm (suc t, k) n = subst (λ (j : Track). AreCalm step Calm (suc t, j) n) same (later_calm n (t, k) all) in
    ap (λ (j : Track). (iterate step n (suc t, j)).1) same ∙ passes_before n (suc t) k (omega (arith, le, other)) next

-- a calm tick changes nothing of a track but its node
one_passed : (t : ℕ) (k : Track) → IsTold k → k.start ≤ t → IsCalmNode k.node → after_silence track_phases t k ≡ record k { node = node_after_silence k.node }
unfolding node_after_silence
one_passed t k told ge calm =
    let tells = tells_nothing k.node calm in
    let left : Bool → Bool → Track = λ ok driving. record k { node = node_hear (node_drive k.node).0 Nothing; ok = ok; driving = driving } in
    let ok : (node_drive k.node).1.ok ≡ k.ok = ap (λ (d : Driven). d.ok) tells.drive ∙ sym told.ok in
    let driving : is_some (node_drive k.node).1.quarter ≡ k.driving = ap (λ (d : Driven). is_some d.quarter) tells.drive ∙ sym (told.driving ∙ tells.drove_before) in
    after_tick t k ge
    ∙ ap (λ (b : Bool). left b (is_some (node_drive k.node).1.quarter)) ok
    ∙ ap (left k.ok) driving

passes_after : (n t : ℕ) (k : Track) → IsTold k → k.start ≤ t → AreCalm step Calm (t, k) n → (iterate step n (t, k)).1 ≡ record k { node = iterate node_after_silence n k.node }
passes_after zero t k told ge all = refl
passes_after (suc n) t k told ge all =
    let first : IsCalmNode k.node = (all 0 (omega arith)).node ge in
    let same = one_passed t k told ge first in
    let left : Track = record k { node = node_after_silence k.node } in
    let told_left : IsTold left = subst IsTold same (hear_told t Nothing (drive_track t k).0 (drive_told t k told)) in
    let next : AreCalm step Calm (suc t, left) n = subst (λ (j : Track). AreCalm step Calm (suc t, j) n) same (later_calm n (t, k) all) in
    ap (λ (j : Track). (iterate step n (suc t, j)).1) same ∙ passes_after n (suc t) left told_left (omega (arith, ge)) next

track_passes : (t n : ℕ) (k : Track) → IsTold k → AreCalm step Calm (t, k) n → passed_track t n k ≡ (iterate step n (t, k)).1
track_passes t n k told all = elim (cases_lt t k.start) [
  | inl lt ↦ rw (lt-ltb t k.start lt) (sym (passes_before n t k (omega (arith, lt)) all))
  | inr ge ↦ rw (le-ltb t k.start ge) (sym (passes_after n t k told ge all))
]

pub track_calm : HasCalmTicks track_phases IsTold IsCalmTrack passed_track
track_calm = record {
  offering = offer_told;
  driving = drive_told;
  hearing = hear_told;
  drives = calm_drive;
  hears = calm_hearing;
  first_ok = calm_first;
  next_ok = calm_next;
  passes = track_passes;
}

-- ---- how long a track is calm

-- before its start
module _ (t : ℕ) (k : Track) (lt : t < k.start) where
  abbrev waits : ℕ → ℕ × Track
  waits i = (t + i, k)

  wait_calm : (i : ℕ) → i < k.start - t → Calm (waits i)
  wait_calm i below = record { no_start = λ e. omega (arith, e, below); node = λ ge. absurd (omega (arith, ge, below)) }

  wait_next : (i : ℕ) → i < k.start - t → step (waits i) ≡ waits (suc i)
  wait_next i below =
      let same = before_tick (t + i) k (omega (arith, below)) in
      let on : suc (t + i) ≡ t + suc i = omega arith in
      ap (λ (j : Track). (suc (t + i), j)) same ∙ ap (λ (u : ℕ). (u, k)) on

  wait_ends : Calm (waits (k.start - t)) → ⊥
  wait_ends calm = calm.no_start (omega (arith, lt))

  pub calm_before : (most : ℕ) → IsCalmFor step Calm (t, k) most (min (k.start - t) most)
  calm_before most =
      let begins : t + 0 ≡ t = omega arith in
      subst (λ (u : ℕ). IsCalmFor step Calm (u, k) most (min (k.start - t) most)) begins
      (path_calm_for step Calm waits most (min (k.start - t) most) (cut step Calm waits (k.start - t) most wait_calm wait_next wait_ends))

-- in the tick of its start
pub calm_at_start : (t : ℕ) (k : Track) (most : ℕ) → k.start ≡ t → IsCalmFor step Calm (t, k) most 0
calm_at_start t k most e = record {
  within = omega arith;
  calm = λ i below. absurd (omega (arith, below));
  ends = λ below calm. calm.no_start e;
}

-- once it has started: as long as its node
pub record IsOn (t i : ℕ) (k : Track) (at : ℕ × Track) : Type 0 where
  pub tick : at.0 ≡ t + i
  pub start : at.1.start ≡ k.start
  pub node : at.1.node ≡ iterate node_after_silence i k.node

goes_on : (i t : ℕ) (k : Track) → k.start ≤ t → IsOn t i k (iterate step i (t, k))
unfolding node_after_silence
goes_on zero t k ge = record { tick = omega arith; start = refl; node = refl }
goes_on (suc i) t k ge =
    let left : Track = hearing_track Nothing (driven_track k) in
    let later = goes_on i (suc t) left (omega (arith, ge)) in
    let next : suc t + i ≡ t + suc i = omega arith in
    let on : IsOn t (suc i) k (iterate step i (suc t, left)) = record { tick = later.tick ∙ next; start = later.start; node = later.node } in
    subst (λ (j : Track). IsOn t (suc i) k (iterate step i (suc t, j))) (sym (after_tick t k ge)) on

pub calm_started : (t : ℕ) (k : Track) (most n : ℕ) → k.start < t → IsCalmFor node_after_silence IsCalmNode k.node most n → IsCalmFor step Calm (t, k) most n
calm_started t k most n lt long = record {
  within = long.within;
  calm = λ i below.
      let on = goes_on i t k (omega (arith, lt)) in
      record { no_start = λ e. omega (arith, on.tick, on.start, lt, e); node = λ ge. subst IsCalmNode (sym on.node) (long.calm i below) };
  ends = λ below calm.
      let on = goes_on n t k (omega (arith, lt)) in
      long.ends below (subst IsCalmNode on.node (calm.node (omega (arith, on.tick, on.start, lt))));
}

-- so its node is calm wherever it is
pub node_calm : (t n : ℕ) (k : Track) → k.start ≤ t → AreCalm step Calm (t, k) n → AreCalm node_after_silence IsCalmNode k.node n
node_calm t n k ge all i below =
    let on = goes_on i t k ge in
    subst IsCalmNode on.node ((all i below).node (omega (arith, on.tick, on.start, ge)))
