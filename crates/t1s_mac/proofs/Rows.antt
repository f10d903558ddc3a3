-- Facts of every row of the table.
use Rattle.std.proofs.Common.{ℕ, ◌+◌, ◌==◌, ◌<◌, Bool, ◌&&◌, ◌||◌, IsTrue, nat_lt, nat_le, List, [], ◌∷◌, length, slice_get, refl, arith}
use Rattle.std.proofs.lemmas.Bool.{cond_both}
use Rattle.std.proofs.lemmas.Bool.Decides.{nat_tests}
use Rattle.t1s_ring.specs.Queue.{Queue}
use Rattle.t1s_ring.specs.declared.queued.Queued.{Queued}
use Rattle.t1s_mac.specs.MacTable.{Row, row_of, deferring, sending, jamming, LeavesByNote, last_quarter, last_jam_nibble, last_attempt, preamble_nibbles}
use Rattle.t1s_mac.specs.State.{Phase, Resting, Deferring, Waiting, Sending, Jamming, holds_frame, head_nibbles, nibbles_in}

-- a frame that has a nibble is there
pub frame_there : (frames : List Queued) (nibble : ℕ) → IsTrue (nat_lt nibble (length (nibbles_in (slice_get frames 0)))) → 0 < length frames
frame_there [] nibble within = grind (arith, nat_tests)
frame_there (x ∷ xs) nibble within = omega arith

-- a frame leaves as its note says
abbrev Leaves : Queue → Row → Type 0
Leaves q left = LeavesByNote left.note q left.queue

leaves_deferring : (q : Queue) (attempts : ℕ) (may : Bool) → Leaves q (deferring q attempts may)
leaves_deferring q attempts may = cond_both may _ _ (Leaves q) (λ _. refl) (λ _. refl)

leaves_sending : (nibble quarter : ℕ) (hit : Bool) (q : Queue) (attempts : ℕ) → 0 < length q.frames → Leaves q (sending nibble quarter hit q attempts)
leaves_sending nibble quarter hit q attempts some =
    cond_both (nat_lt quarter last_quarter) _ _ (Leaves q) (λ _. refl) (λ _.
    cond_both (hit && nat_le preamble_nibbles (nibble + 1)) _ _ (Leaves q) (λ _. (refl, refl)) (λ _.
    cond_both (nibble + 1 == length (head_nibbles q)) _ _ (Leaves q) (λ _. (some, refl, refl)) (λ _. refl)))

leaves_jamming : (nibble quarter : ℕ) (q : Queue) (attempts drawn : ℕ) → 0 < length q.frames → Leaves q (jamming nibble quarter q attempts drawn)
leaves_jamming nibble quarter q attempts drawn some =
    cond_both (nat_lt quarter last_quarter) _ _ (Leaves q) (λ _. refl) (λ _.
    cond_both (nat_lt nibble last_jam_nibble) _ _ (Leaves q) (λ _. refl) (λ _.
    cond_both (attempts == last_attempt) _ _ (Leaves q) (λ _. (some, refl, refl)) (λ _. refl)))

pub leaves_row : (phase : Phase) (q : Queue) (attempts : ℕ) (may collision : Bool) (drawn : ℕ) → IsTrue (holds_frame phase q) → Leaves q (row_of phase q attempts may collision drawn)
leaves_row Resting q attempts may collision drawn there =
    cond_both (nat_lt 0 (length q.frames)) _ _ (Leaves q) (λ _. leaves_deferring q attempts may) (λ _. refl)
leaves_row Deferring q attempts may collision drawn there = leaves_deferring q attempts may
leaves_row (Waiting left) q attempts may collision drawn there =
    cond_both (left == 0) _ _ (Leaves q) (λ _. leaves_deferring q attempts may) (λ _. refl)
leaves_row (Sending nibble quarter collided) q attempts may collision drawn there =
    leaves_sending nibble quarter (collided || collision) q attempts (frame_there q.frames nibble there)
leaves_row (Jamming nibble quarter) q attempts may collision drawn there =
    leaves_jamming nibble quarter q attempts drawn (grind (arith, nat_tests))
