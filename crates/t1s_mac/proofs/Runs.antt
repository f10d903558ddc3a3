-- What holds between a MAC and what its steps have told, over every run from its start.
use Rattle.std.proofs.Common.{◌≡◌, ℕ, ◌+◌, ◌==◌, ◌<◌, ◌≤◌, Bool, true, false, ◌&&◌, ◌||◌, IsTrue, nat_lt, nat_le, List, [], ◌∷◌, ◌++◌, length, take, slice_get, slice_index, refl, ap, sym, ◌∙◌, subst, arith}
use Rattle.std.proofs.lemmas.Bool.Decides.{nat_tests}
use Rattle.std.proofs.lemmas.List.{take_more}
use Rattle.t1s_ring.specs.Queue.{Queue, with_last}
use Rattle.t1s_ring.specs.declared.queued.Queued.{Queued}
use Rattle.t1s_mac.specs.DeferenceTable.{may_start}
use Rattle.t1s_mac.specs.Laws.{MacEvent, Offer, Tick, Run, run_after, run_of, jams, jam_on, given_nibbles}
use Rattle.t1s_mac.specs.MacTable.{Row, row_of, deferring, sending, jamming, last_quarter, last_jam_nibble, last_attempt, preamble_nibbles}
use Rattle.t1s_mac.specs.State.{Phase, Resting, Deferring, Waiting, Sending, Jamming, MacState, with_queue, holds_frame, head_nibbles, nibbles_in}
use Rattle.t1s_mac.specs.declared.outcome.MacStep.{MacStep}
use Rattle.t1s_mac.proofs.HeadNibbles.{nibbles_some}
use Rattle.std.proofs.lemmas.Bool.{cond_both}
use Rattle.t1s_mac.proofs.Rows.{frame_there}

-- whether a state is Jamming, as a test and as a count of jams
abbrev pub is_jamming : Phase → Bool
is_jamming Resting = false
is_jamming Deferring = false
is_jamming (Waiting left) = false
is_jamming (Sending nibble quarter collided) = false
is_jamming (Jamming nibble quarter) = true

abbrev pub jam_in : Phase → ℕ
jam_in Resting = 0
jam_in Deferring = 0
jam_in (Waiting left) = 0
jam_in (Sending nibble quarter collided) = 0
jam_in (Jamming nibble quarter) = 1

-- what has been given out of the first frame: nothing, or its nibbles up to the one that goes on
abbrev pub GivenIn : Phase → List ℕ → List ℕ → Type 0
GivenIn Resting nibbles out = out ≡ []
GivenIn Deferring nibbles out = out ≡ []
GivenIn (Waiting left) nibbles out = out ≡ []
GivenIn (Sending nibble quarter collided) nibbles out = out ≡ take (nibble + 1) nibbles
GivenIn (Jamming nibble quarter) nibbles out = Unit {0}

pub record Stands (phase : Phase) (q : Queue) (attempts : ℕ) (told : List MacStep) : Type 0 where
  pub there : IsTrue (holds_frame phase q)
  pub tries : attempts ≤ 15
  pub jammed : jams told ≡ attempts + jam_in phase
  pub on : jam_on told ≡ is_jamming phase
  pub out : GivenIn phase (head_nibbles q) (given_nibbles told)

-- what a row tells
abbrev pub step_of : Row → MacStep
step_of left = record { out = left.out; note = left.note }

abbrev pub RowStands : List MacStep → Row → Type 0
RowStands told left = Stands left.phase left.queue left.attempts (step_of left ∷ told)

-- the first frame has nibbles
nibbles_there : (frames : List Queued) → 0 < length frames → 0 < length (nibbles_in (slice_get frames 0))
nibbles_there [] some = absurd (omega arith)
nibbles_there (x ∷ xs) some = nibbles_some x.frame

deferring_stands : (q : Queue) (attempts : ℕ) (may : Bool) (told : List MacStep)
    → 0 < length q.frames → attempts ≤ 15 → jams told ≡ attempts + 0 → jam_on told ≡ false → given_nibbles told ≡ []
    → RowStands told (deferring q attempts may)
deferring_stands q attempts may told some tries jammed on out =
    cond_both may _ _ (RowStands told)
    (λ _.
    let nibbles : 0 < length (head_nibbles q) = nibbles_there q.frames some in
    record {
      there = grind (arith, nat_tests);
      tries = tries;
      jammed = jammed;
      on = on;
      out = ap (λ xs. xs ++ slice_index (head_nibbles q) 0 ∷ []) out ∙ sym (take_more (head_nibbles q) 0 0 nibbles);
    })
    (λ _. record { there = grind (arith, nat_tests); tries = tries; jammed = jammed; on = on; out = out })

sending_stands : (nibble quarter : ℕ) (collided collision : Bool) (q : Queue) (attempts : ℕ) (told : List MacStep)
    → Stands (Sending nibble quarter collided) q attempts told
    → RowStands told (sending nibble quarter (collided || collision) q attempts)
sending_stands nibble quarter collided collision q attempts told h =
    let some : 0 < length q.frames = frame_there q.frames nibble h.there in
    let within : nibble < length (head_nibbles q) = grind (arith, nat_tests, h.there) in
    cond_both (nat_lt quarter last_quarter) _ _ (RowStands told)
    (λ _. record { there = h.there; tries = h.tries; jammed = h.jammed; on = h.on; out = h.out })
    (λ _. cond_both ((collided || collision) && nat_le preamble_nibbles (nibble + 1)) _ _ (RowStands told)
    (λ _. record { there = grind (arith, nat_tests); tries = h.tries; jammed = omega (arith, h.jammed); on = refl; out = tt })
    (λ _. cond_both (nibble + 1 == length (head_nibbles q)) _ _ (RowStands told)
    (λ _. record { there = refl; tries = omega arith; jammed = refl; on = refl; out = refl })
    (λ last. let more : nibble + 1 < length (head_nibbles q) = grind (arith, nat_tests, last, within) in
    record {
      there = grind (arith, nat_tests, more);
      tries = h.tries;
      jammed = h.jammed;
      on = h.on;
      out = ap (λ xs. xs ++ slice_index (head_nibbles q) (nibble + 1) ∷ []) h.out ∙ sym (take_more (head_nibbles q) (nibble + 1) 0 more);
    })))

jamming_stands : (nibble quarter : ℕ) (q : Queue) (attempts drawn : ℕ) (told : List MacStep)
    → Stands (Jamming nibble quarter) q attempts told
    → RowStands told (jamming nibble quarter q attempts drawn)
jamming_stands nibble quarter q attempts drawn told h =
    cond_both (nat_lt quarter last_quarter) _ _ (RowStands told)
    (λ _. record { there = h.there; tries = h.tries; jammed = h.jammed; on = h.on; out = tt })
    (λ _. cond_both (nat_lt nibble last_jam_nibble) _ _ (RowStands told)
    (λ _. record { there = h.there; tries = h.tries; jammed = h.jammed; on = h.on; out = tt })
    (λ _. cond_both (attempts == last_attempt) _ _ (RowStands told)
    (λ _. record { there = refl; tries = omega arith; jammed = refl; on = refl; out = refl })
    (λ last. let fewer : attempts + 1 ≤ 15 = grind (arith, nat_tests, last, h.tries) in
    record { there = h.there; tries = fewer; jammed = omega (arith, h.jammed); on = refl; out = refl })))

pub row_stands : (phase : Phase) (q : Queue) (attempts : ℕ) (may collision : Bool) (drawn : ℕ) (told : List MacStep)
    → Stands phase q attempts told
    → RowStands told (row_of phase q attempts may collision drawn)
row_stands Resting q attempts may collision drawn told h =
    cond_both (nat_lt 0 (length q.frames)) _ _ (RowStands told)
    (λ some. deferring_stands q attempts may told (grind (arith, nat_tests, some)) h.tries h.jammed h.on h.out)
    (λ _. record { there = refl; tries = h.tries; jammed = h.jammed; on = h.on; out = h.out })
row_stands Deferring q attempts may collision drawn told h =
    deferring_stands q attempts may told (grind (arith, nat_tests, h.there)) h.tries h.jammed h.on h.out
row_stands (Waiting left) q attempts may collision drawn told h =
    cond_both (left == 0) _ _ (RowStands told)
    (λ _. deferring_stands q attempts may told (grind (arith, nat_tests, h.there)) h.tries h.jammed h.on h.out)
    (λ _. record { there = h.there; tries = h.tries; jammed = h.jammed; on = h.on; out = h.out })
row_stands (Sending nibble quarter collided) q attempts may collision drawn told h =
    sending_stands nibble quarter collided collision q attempts told h
row_stands (Jamming nibble quarter) q attempts may collision drawn told h =
    jamming_stands nibble quarter q attempts drawn told h

-- a frame at the back leaves the head as it is
head_stays : (frames : List Queued) (q : Queued) → 0 < length frames → slice_get (frames ++ q ∷ []) 0 ≡ slice_get frames 0
head_stays [] q some = absurd (omega arith)
head_stays (x ∷ xs) q some = refl

some_more : (frames : List Queued) (q : Queued) → nat_lt 0 (length (frames ++ q ∷ [])) ≡ true
some_more [] q = refl
some_more (x ∷ xs) q = grind (arith, nat_tests)

offer_stands : (phase : Phase) (queue : Queue) (attempts : ℕ) (q : Queued) (told : List MacStep)
    → Stands phase queue attempts told → Stands phase (with_last queue q) attempts told
offer_stands Resting queue attempts q told h =
    record { there = refl; tries = h.tries; jammed = h.jammed; on = h.on; out = h.out }
offer_stands Deferring queue attempts q told h =
    record { there = some_more queue.frames q; tries = h.tries; jammed = h.jammed; on = h.on; out = h.out }
offer_stands (Waiting left) queue attempts q told h =
    record { there = some_more queue.frames q; tries = h.tries; jammed = h.jammed; on = h.on; out = h.out }
offer_stands (Sending nibble quarter collided) queue attempts q told h =
    let same : head_nibbles queue ≡ head_nibbles (with_last queue q) =
    ap nibbles_in (sym (head_stays queue.frames q (frame_there queue.frames nibble h.there))) in
    let Within : List ℕ → Type 0 = λ xs. IsTrue (nat_lt nibble (length xs)) in
    record {
      there = subst Within same h.there;
      tries = h.tries;
      jammed = h.jammed;
      on = h.on;
      out = h.out ∙ ap (λ xs. take (nibble + 1) xs) same;
    }
offer_stands (Jamming nibble quarter) queue attempts q told h =
    record { there = some_more queue.frames q; tries = h.tries; jammed = h.jammed; on = h.on; out = tt }

module _ {D : Type 0} where
  abbrev pub RunStands : Run D → Type 0
  RunStands run = Stands run.mac.phase run.mac.queue run.mac.attempts run.steps

  run_after_stands : (answer : D → ℕ → ℕ) (after : D → D) (run : Run D) (newest : MacEvent) → RunStands run → RunStands (run_after answer after run newest)
  run_after_stands answer after run (Offer q) h =
      cond_both (nat_lt (length run.mac.queue.frames) run.mac.queue.room) (with_queue run.mac (with_last run.mac.queue q)) run.mac (λ (m : MacState D). Stands m.phase m.queue m.attempts run.steps)
      (λ _. offer_stands run.mac.phase run.mac.queue run.mac.attempts q run.steps h)
      (λ _. h)
  run_after_stands answer after run (Tick carrier collision) h =
      row_stands run.mac.phase run.mac.queue run.mac.attempts (may_start run.mac.deference carrier) collision
      (answer run.mac.draws (run.mac.attempts + 1)) run.steps h

  pub run_stands : (answer : D → ℕ → ℕ) (after : D → D) (queue : Queue) (draws : D) (earlier : List MacEvent) → RunStands (run_of answer after queue draws earlier)
  run_stands answer after queue draws [] =
      record { there = refl; tries = omega arith; jammed = refl; on = refl; out = refl }
  run_stands answer after queue draws (newest ∷ earlier) =
      run_after_stands answer after (run_of answer after queue draws earlier) newest (run_stands answer after queue draws earlier)
