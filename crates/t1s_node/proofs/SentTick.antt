-- The tick in which a frame is sent.
use Rattle.std.proofs.Common.{◌≡◌, ℕ, zero, ◌+◌, ◌*◌, ◌<◌, ◌≤◌, Bool, true, false, List, length, slice_get, Some, refl, ap, subst, arith}
use Rattle.t1s_frame.specs.Frame.{nibble_list}
use Rattle.t1s_ring.specs.Queue.{Queue}
use Rattle.t1s_ring.specs.declared.queued.Queued.{Queued}
use Rattle.plca_data.specs.declared.data_path.State.{State}
use Rattle.t1s_mac.specs.declared.deference.Deference.{Deference}
use Rattle.t1s_mac.specs.declared.outcome.MacNote.{MacNote}
use Rattle.t1s_mac.specs.declared.outcome.MacNote.TheVariants.{None as NoNote, Jam, Drop, Sent}
use Rattle.t1s_mac.specs.State.{Phase}
use Rattle.t1s_pcs_tx.specs.State.{Stage}
use Rattle.t1s_node.specs.Core.{Core}
use Rattle.t1s_node.specs.Laws.{IsPieceOf}
use Rattle.t1s_node.specs.Runs.{CoreTick, DrawsAreBounded, IsUndisturbed, found_at, left_at, note_at}
use Rattle.t1s_node.proofs.RunPlaces.{RunAt, Since, ticks, run_at}
use Rattle.t1s_node.proofs.CoreSteps.{Stands}
use Rattle.t1s_node.proofs.JointPlaces.{Place, InPiece, Told, as_before, now_sent, Goes, piece_lasts, piece_pops, Joint, fed, given as given_all}
use Rattle.t1s_node.proofs.MacTurns.{Heads, count_of, long}
use Rattle.t1s_node.proofs.View.{View}
use Rattle.t1s_node.proofs.WholePiece.{whole_piece}

-- a step with the note Sent is within a piece: its places before and after
record SentStep (place to : Place) (number : ℕ) : Type 0 where
  f : Queued
  i : ℕ
  s : ℕ
  i' : ℕ
  s' : ℕ
  from : place ≡ InPiece f false i s
  onto : to ≡ InPiece f true i' s'
  next : 4 * i' + s' ≡ 4 * i + s + 1
  quarter : s' ≤ 3
  is : f.number ≡ number

number_of_note : MacNote → ℕ
number_of_note NoNote = 0
number_of_note (Jam number) = number
number_of_note (Drop number) = number
number_of_note (Sent number) = number

same_number : (n m : ℕ) → Sent n ≡ Sent m → n ≡ m
unfolding number_of_note
same_number n m e = ap number_of_note e

sent_by : (f : Queued) (b b' : Bool) (news : MacNote) (number i s i' s' : ℕ) → Told f b news b' → news ≡ Sent number → 4 * i' + s' ≡ 4 * i + s + 1 → s' ≤ 3
    → SentStep (InPiece f b i s) (InPiece f b' i' s') number
sent_by f b _ _ number i s i' s' as_before e next quarter = absurd (cc)
sent_by f _ _ _ number i s i' s' now_sent e next quarter =
    record { f = f; i = i; s = s; i' = i'; s' = s'; from = refl; onto = refl; next = next; quarter = quarter; is = same_number f.number number e }

sent_step : (place to : Place) (news : MacNote) (popped : List ℕ) (number : ℕ) → Goes place news popped to → news ≡ Sent number → SentStep place to number
sent_step _ _ news _ number (piece_lasts {f = f} {b = b} {b' = b'} {i = i} {s = s} told less) e =
    sent_by f b b' news number i s i (s + 1) told e (omega arith) (omega (arith, less))
sent_step _ _ news _ number (piece_pops {f = f} {b = b} {b' = b'} {i = i} {s = s} told three more) e =
    sent_by f b b' news number i s (i + 1) 0 told e (omega (arith, three)) (omega arith)
sent_step _ _ _ _ number _ e = absurd (cc)

fed_heads : (f : Queued) (i s : ℕ) (v : View) (phase : Phase) (q : Queue) (d : Deference) (a : ℕ) (stage : Stage) (part : ℕ) (path : State) (line : List ℕ)
    → Joint (InPiece f false i s) v phase q d a stage part path line → Heads q f
fed_heads f i s v _ q _ a stage _ _ line (fed own heads tries quarter ahead least most tx feeds) = heads

given_place : (f : Queued) (i s : ℕ) (v : View) (phase : Phase) (q : Queue) (d : Deference) (a : ℕ) (stage : Stage) (part : ℕ) (path : State) (line : List ℕ)
    → Joint (InPiece f true i s) v phase q d a stage part path line → (4 * count_of f ≤ 4 * i + s + 388) × (i < count_of f)
given_place f i s _ phase q _ _ stage _ _ line (given_all resting tx feeds late past_start) = (late, omega (arith, feeds.count))

module _ {D : Type 0} (answer : D → ℕ → ℕ) (after : D → D) (bounded : DrawsAreBounded answer) (start : Core D) (given : ℕ → CoreTick) (end : ℕ)
    (calm : IsUndisturbed answer after start given end) (begin : RunAt answer after bounded start given end calm zero) where
  pub sent_in_piece : (t number : ℕ) → t ≤ end → note_at answer after start given t ≡ Sent number
      → (f : Queued) × (first : ℕ) × (slice_get (found_at answer after start given t).mac.queue.frames 0 ≡ Some f) × (f.number ≡ number)
      × (first + 8 < t) × (t < first + 4 * length (nibble_list f.frame)) × IsPieceOf answer after start given end f first
  sent_in_piece t number within sent =
      let run = run_at answer after bounded start given end calm begin t (omega arith) in
      let tick = ticks answer after bounded start given end calm t within run in
      let step = sent_step run.place tick.step.to (note_at answer after start given t) tick.step.popped number tick.step.goes sent in
      let before_it : Stands (InPiece step.f false step.i step.s) (found_at answer after start given t) =
      subst (λ (p : Place). Stands p (found_at answer after start given t)) step.from tick.found in
      let after_it : Stands (InPiece step.f true step.i' step.s') (left_at answer after start given t) =
      subst (λ (p : Place). Stands p (left_at answer after start given t)) step.onto tick.step.stands in
      let since : Since answer after bounded start given end calm t (InPiece step.f false step.i step.s) =
      subst (λ (p : Place). Since answer after bounded start given end calm t p) step.from run.since in
      let heads : Heads (found_at answer after start given t).mac.queue step.f = fed_heads step.f step.i step.s _ _ _ _ _ _ _ _ _ before_it.joint in
      let many = (long step.f heads.frame).0 in
      let (late, within_it) = given_place step.f step.i' step.s' _ _ _ _ _ _ _ _ _ after_it.joint in (
        step.f,
        since.first,
        heads.first,
        step.is,
        omega (arith, since.since, step.next, late, many),
        omega (arith, since.since, step.next, within_it, step.quarter),
        whole_piece answer after bounded start given end calm step.f since.first since.pop since.stands since.awake,
      )
