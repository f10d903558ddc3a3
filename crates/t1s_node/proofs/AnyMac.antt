-- The MAC in any run: one that gives nothing out, and one that gives a frame or a jam, and their rows.
use Rattle.std.proofs.Common.{◌≡◌, ℕ, ◌+◌, ◌==◌, ◌<◌, ◌≤◌, Bool, true, false, ◌&&◌, ◌||◌, nat_lt, nat_le, length, arith}
use Rattle.std.proofs.lemmas.Bool.{cond_both}
use Rattle.std.proofs.lemmas.Bool.Decides.{nat_tests}
use Rattle.plca_data.specs.declared.MacOut.TheVariants.{Nothing, Nibble, Ended}
use Rattle.t1s_ring.specs.Queue.{Queue}
use Rattle.t1s_ring.specs.declared.queued.Queued.{Queued}
use Rattle.t1s_mac.specs.MacTable.{Row, row, row_of, last_quarter, last_jam_nibble, last_attempt, preamble_nibbles}
use Rattle.t1s_mac.specs.State.{Phase, Resting, Deferring, Waiting, Sending, Jamming, head_nibbles}
use Rattle.t1s_mac.specs.declared.outcome.MacNote.{MacNote}
use Rattle.t1s_mac.specs.declared.outcome.MacNote.TheVariants.{None as NoNote}
use Rattle.t1s_node.proofs.MacTurns.{Heads, Fit, DeferTurn, begins, defers_on, defer_turns, starting}

-- it gives nothing out
pub data Gone : Phase → Queue → Type 0 where
  rests : {q : Queue} → Gone Resting q
  defers : {q : Queue} → 0 < length q.frames → Gone Deferring q
  waits : {n : ℕ} {q : Queue} → 0 < length q.frames → Gone (Waiting n) q

-- then it starts the first frame, where it may, or goes on so
pub data GoneTurn (q : Queue) (attempts : ℕ) (may : Bool) : Row → Type 0 where
  starts : {f : Queued} → may ≡ true → Heads q f → GoneTurn q attempts may (starting q f attempts)
  stays : {phase : Phase} → Gone phase q → GoneTurn q attempts may (row phase q attempts Nothing NoNote)

from_deferring : (q : Queue) (attempts : ℕ) (may : Bool) (left : Row) → 0 < length q.frames → DeferTurn q attempts may left → GoneTurn q attempts may left
from_deferring q attempts may _ some (begins e heads) = starts e heads
from_deferring q attempts may _ some (defers_on e) = stays (defers some)

pub gone_turns : (phase : Phase) (q : Queue) (attempts : ℕ) (may collision : Bool) (drawn : ℕ) → Gone phase q → Fit q.frames
    → GoneTurn q attempts may (row_of phase q attempts may collision drawn)
gone_turns _ q attempts may collision drawn rests fit =
    cond_both (nat_lt 0 (length q.frames)) _ _ (GoneTurn q attempts may)
    (λ e. let some : 0 < length q.frames = grind (arith, nat_tests, e) in from_deferring q attempts may _ some (defer_turns q attempts may some fit))
    (λ _. stays rests)
gone_turns _ q attempts may collision drawn (defers some) fit = from_deferring q attempts may _ some (defer_turns q attempts may some fit)
gone_turns _ q attempts may collision drawn (waits {n = n} some) fit =
    cond_both (n == 0) _ _ (GoneTurn q attempts may)
    (λ _. from_deferring q attempts may _ some (defer_turns q attempts may some fit))
    (λ _. stays (waits some))

-- it gives a frame or a jam, whose nibble has lasted p ticks beyond its first
pub data Gives : ℕ → Phase → Queue → Type 0 where
  sends : {k p : ℕ} {collided : Bool} {q : Queue} → p ≤ 3 → 0 < length q.frames → Gives p (Sending k p collided) q
  jams : {j p : ℕ} {q : Queue} → p ≤ 3 → 0 < length q.frames → Gives p (Jamming j p) q

-- then the nibble lasts, the next one is given out, or all has ended
pub data GivesTurn (q : Queue) (p : ℕ) : Row → Type 0 where
  lasts : {phase : Phase} {a : ℕ} → p < 3 → Gives (p + 1) phase q → GivesTurn q p (row phase q a Nothing NoNote)
  gives : {phase : Phase} {a x : ℕ} {note : MacNote} → p ≡ 3 → Gives 0 phase q → GivesTurn q p (row phase q a (Nibble x) note)
  stops : {phase : Phase} {left : Queue} {a : ℕ} {note : MacNote} {draws : Bool} → p ≡ 3 → Gone phase left
      → GivesTurn q p (record (row phase left a Ended note) { draws = draws })

pub gives_turns : (p : ℕ) (phase : Phase) (q : Queue) (attempts : ℕ) (may collision : Bool) (drawn : ℕ) → Gives p phase q
    → GivesTurn q p (row_of phase q attempts may collision drawn)
gives_turns p _ q a may collision drawn (sends {k = k} {collided = c} low some) =
    cond_both (nat_lt p last_quarter) _ _ (GivesTurn q p)
    (λ e. let less : p < 3 = grind (arith, nat_tests, e) in lasts less (sends (omega (arith, less)) some))
    (λ e.
    let end : p ≡ 3 = grind (arith, nat_tests, e, low) in
    cond_both ((c || collision) && nat_le preamble_nibbles (k + 1)) _ _ (GivesTurn q p)
    (λ _. gives end (jams (omega arith) some))
    (λ _. cond_both (k + 1 == length (head_nibbles q)) _ _ (GivesTurn q p)
    (λ _. stops {draws = false} end rests)
    (λ _. gives end (sends (omega arith) some))))
gives_turns p _ q a may collision drawn (jams {j = j} low some) =
    cond_both (nat_lt p last_quarter) _ _ (GivesTurn q p)
    (λ e. let less : p < 3 = grind (arith, nat_tests, e) in lasts less (jams (omega (arith, less)) some))
    (λ e.
    let end : p ≡ 3 = grind (arith, nat_tests, e, low) in
    cond_both (nat_lt j last_jam_nibble) _ _ (GivesTurn q p)
    (λ _. gives end (jams (omega arith) some))
    (λ _. cond_both (a == last_attempt) _ _ (GivesTurn q p)
    (λ _. stops {draws = false} end rests)
    (λ _. stops {draws = true} end (waits some))))
