-- How often a frame is jammed.
use Rattle.std.proofs.Common.{◌≡◌, ◌≢◌, ℕ, zero, suc, ◌+◌, ◌==◌, ◌≤◌, Bool, true, false, ◌&&◌, ◌||◌, nat_lt, nat_le, List, [], ◌∷◌, length, refl, ◌∙◌, ap, arith}
use Rattle.t1s_ring.specs.Queue.{Queue, with_last}
use Rattle.t1s_ring.specs.declared.queued.Queued.{Queued}
use Rattle.plca_data.specs.declared.data_path.State.{State}
use Rattle.plca_data.specs.DataPathTable.{carrier, collision}
use Rattle.t1s_mac.specs.declared.deference.Deference.{Deference}
use Rattle.t1s_mac.specs.declared.outcome.MacNote.{MacNote}
use Rattle.t1s_mac.specs.declared.outcome.MacNote.TheVariants.{Drop}
use Rattle.t1s_mac.specs.declared.outcome.MacStep.{MacStep}
use Rattle.t1s_mac.specs.DeferenceTable.{may_start}
use Rattle.t1s_mac.specs.Laws.{jams}
use Rattle.t1s_mac.specs.MacTable.{Row, row_of, deferring, sending, jamming, last_quarter, last_jam_nibble, last_attempt, preamble_nibbles}
use Rattle.t1s_mac.specs.State.{Phase, Resting, Deferring, Waiting, Sending, Jamming, MacState, head_nibbles, with_queue}
use Rattle.t1s_pcs_tx.specs.State.{Stage}
use Rattle.t1s_node.specs.Core.{Core, core_after_offer, core_drive}
use Rattle.t1s_node.specs.Runs.{CoreTick, DrawsAreBounded, IsUndisturbed, core_after_offers, core_at, found_at, left_at, note_at, steps_before}
use Rattle.t1s_node.proofs.RunPlaces.{RunAt, ticks, run_at}
use Rattle.t1s_node.proofs.JointPlaces.{Place, Told, as_before, now_sent, Goes, piece_lasts, piece_pops, Joint, asleep, idles, holds, collides, jams as jammed, delays, pends, waits, rests_in, before, fed, given as given_all, ends, closes}
use Rattle.t1s_node.proofs.MacTurns.{Rests, rests, defers, BacksOff, waits as in_backoff, over}
use Rattle.t1s_node.proofs.View.{View}
use Rattle.std.proofs.lemmas.Bool.{cond_both}

-- a jam that is given out counts before its end does
abbrev pub jam_in : Phase → ℕ
jam_in Resting = 0
jam_in Deferring = 0
jam_in (Waiting left) = 0
jam_in (Sending nibble quarter collided) = 0
jam_in (Jamming nibble quarter) = 1

abbrev Counts : List MacStep → Row → Type 0
Counts told left = jams (record { out = left.out; note = left.note } ∷ told) ≡ left.attempts + jam_in left.phase

count_deferring : (q : Queue) (a : ℕ) (may : Bool) (told : List MacStep) → jams told ≡ a + 0 → Counts told (deferring q a may)
count_deferring q a true told e = e
count_deferring q a false told e = e

count_sending : (k p : ℕ) (hit : Bool) (q : Queue) (a : ℕ) (told : List MacStep) → jams told ≡ a + 0 → Counts told (sending k p hit q a)
count_sending k p hit q a told e =
    cond_both (nat_lt p last_quarter) _ _ (Counts told) (λ _. e) (λ _.
    cond_both (hit && nat_le preamble_nibbles (k + 1)) _ _ (Counts told) (λ _. omega (arith, e)) (λ _.
    cond_both (k + 1 == length (head_nibbles q)) _ _ (Counts told) (λ _. refl) (λ _. e)))

count_jamming : (j p : ℕ) (q : Queue) (a drawn : ℕ) (told : List MacStep) → jams told ≡ a + 1 → Counts told (jamming j p q a drawn)
count_jamming j p q a drawn told e =
    cond_both (nat_lt p last_quarter) _ _ (Counts told) (λ _. e) (λ _.
    cond_both (nat_lt j last_jam_nibble) _ _ (Counts told) (λ _. e) (λ _.
    cond_both (a == last_attempt) _ _ (Counts told) (λ _. refl) (λ _. omega (arith, e))))

count_row : (phase : Phase) (q : Queue) (a : ℕ) (may collision : Bool) (drawn : ℕ) (told : List MacStep)
    → jams told ≡ a + jam_in phase → Counts told (row_of phase q a may collision drawn)
count_row Resting q a may collision drawn told e = cond_both (nat_lt 0 (length q.frames)) _ _ (Counts told) (λ _. count_deferring q a may told e) (λ _. e)
count_row (Waiting left) q a may collision drawn told e = cond_both (left == 0) _ _ (Counts told) (λ _. count_deferring q a may told e) (λ _. e)
count_row Deferring q a may collision drawn told e = count_deferring q a may told e
count_row (Sending k p c) q a may collision drawn told e = count_sending k p (c || collision) q a told e
count_row (Jamming j p) q a may collision drawn told e = count_jamming j p q a drawn told e

resting_tries : (phase : Phase) (q : Queue) → Rests phase q → 0 + jam_in phase ≤ 1
resting_tries _ q rests = omega arith
resting_tries _ q (defers some) = omega arith

backing_tries : (n : ℕ) (phase : Phase) (q : Queue) → BacksOff n phase q → 1 + jam_in phase ≤ 1
backing_tries n _ q (in_backoff low some) = omega arith
backing_tries n _ q (over some) = omega arith

-- at every place a frame has been jammed once at most
joint_tries : (place : Place) (v : View) (phase : Phase) (q : Queue) (d : Deference) (a : ℕ) (stage : Stage) (part : ℕ) (path : State) (line : List ℕ)
    → Joint place v phase q d a stage part path line → a + jam_in phase ≤ 1
joint_tries _ _ phase q _ _ _ part _ _ (asleep resting) = resting_tries phase q resting
joint_tries _ v phase q d _ stage part _ _ (idles out resting free) = resting_tries phase q resting
joint_tries _ v _ q _ _ stage part _ line (holds heads early quarter free al feeds) = omega arith
joint_tries _ v _ q _ _ stage part _ _ (collides out heads within quarter free) = omega arith
joint_tries _ v _ q _ _ stage part _ _ (jammed out some nibble quarter free) = omega arith
joint_tries _ v phase q _ _ stage part _ _ (delays {n = n} out heads least back free) = backing_tries n phase q back
joint_tries _ v phase q _ _ stage part _ _ (pends out heads back free) = backing_tries 0 phase q back
joint_tries _ _ _ q d _ stage part _ _ (waits opening some free) = omega arith
joint_tries _ _ phase q d _ stage part _ _ (rests_in resting free) = resting_tries phase q resting
joint_tries _ v _ q _ a stage part _ line (before own heads tries quarter near free feeds) = omega (arith, tries)
joint_tries _ v _ q _ a stage _ _ line (fed {d = n} own heads tries quarter ahead least most tx feeds) = omega (arith, tries)
joint_tries _ _ phase q _ _ stage _ _ line (given_all resting tx feeds late past_start) = resting_tries phase q resting
joint_tries _ _ phase q _ _ _ _ _ _ (ends resting few) = resting_tries phase q resting
joint_tries _ _ phase q _ _ _ _ _ _ (closes resting few) = resting_tries phase q resting

told_no_drop : (f : Queued) (b b' : Bool) (note : MacNote) (number : ℕ) → Told f b note b' → note ≢ Drop number
told_no_drop f b _ _ number as_before e = absurd (cc)
told_no_drop f _ _ _ number now_sent e = absurd (cc)

no_drop : (place to : Place) (note : MacNote) (popped : List ℕ) (number : ℕ) → Goes place note popped to → note ≢ Drop number
no_drop _ _ note _ number (piece_lasts {f = f} {b = b} {b' = b'} told less) e = told_no_drop f b b' note number told e
no_drop _ _ note _ number (piece_pops {f = f} {b = b} {b' = b'} told three more) e = told_no_drop f b b' note number told e
no_drop _ _ _ _ number _ e = absurd (cc)

module _ {D : Type 0} (answer : D → ℕ → ℕ) (after : D → D) (start : Core D) (given : ℕ → CoreTick) where
  abbrev Counted : List MacStep → MacState D → Type 0
  Counted told m = jams told ≡ m.attempts + jam_in m.phase

  offers_counted : (told : List MacStep) (c : Core D) (qs : List Queued) → Counted told c.mac → Counted told (core_after_offers c qs).mac
  offers_counted told c [] e = e
  offers_counted told c (q ∷ qs) e =
      offers_counted told (core_after_offer c q) qs
      (cond_both (nat_lt (length c.mac.queue.frames) c.mac.queue.room) (with_queue c.mac (with_last c.mac.queue q)) c.mac (Counted told) (λ _. e) (λ _. e))

  tick_counted : (t : ℕ) → Counted (steps_before answer after start given t) (found_at answer after start given t).mac
      → Counted (steps_before answer after start given (suc t)) (left_at answer after start given t).mac
  unfolding core_drive
  tick_counted t e =
      let c : Core D = found_at answer after start given t in
      let crs : Bool = (given t).reading.crs in
      count_row c.mac.phase c.mac.queue c.mac.attempts (may_start c.mac.deference (carrier c.path crs)) (collision c.path)
      (answer c.mac.draws (c.mac.attempts + 1)) (steps_before answer after start given t) e

  at_zero : core_at answer after start given zero ≡ start
  unfolding core_at
  at_zero = refl

  at_suc : (t : ℕ) → core_at answer after start given (suc t) ≡ left_at answer after start given t
  unfolding core_at
  at_suc t = refl

  pub counted_at : Counted [] start.mac → (t : ℕ) → Counted (steps_before answer after start given t) (core_at answer after start given t).mac
  counted_at begin zero = rw at_zero begin
  counted_at begin (suc t) =
      rw (at_suc t) (tick_counted t (offers_counted (steps_before answer after start given t) (core_at answer after start given t) (given t).offers (counted_at begin t)))

module _ {D : Type 0} (answer : D → ℕ → ℕ) (after : D → D) (bounded : DrawsAreBounded answer) (start : Core D) (given : ℕ → CoreTick) (end : ℕ)
    (calm : IsUndisturbed answer after start given end) (begin : RunAt answer after bounded start given end calm zero) where
  pub jams_once : jams [] ≡ start.mac.attempts + jam_in start.mac.phase → (t : ℕ) → t ≤ end
      → (jams (steps_before answer after start given (suc t)) ≤ 1) × ((number : ℕ) → note_at answer after start given t ≢ Drop number)
  jams_once first t within =
      let run = run_at answer after bounded start given end calm begin t (omega arith) in
      let tick = ticks answer after bounded start given end calm t within run in
      let tries = joint_tries tick.step.to _ _ _ _ _ _ _ _ _ tick.step.stands.joint in
      let count : jams (steps_before answer after start given (suc t)) ≡ (left_at answer after start given t).mac.attempts + jam_in (left_at answer after start given t).mac.phase =
      counted_at answer after start given first (suc t) ∙ ap (λ (c : Core D). c.mac.attempts + jam_in c.mac.phase) (at_suc answer after start given t) in
      (omega (arith, count, tries), λ number. no_drop run.place tick.step.to _ tick.step.popped number tick.step.goes)
