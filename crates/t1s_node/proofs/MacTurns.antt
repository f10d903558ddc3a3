-- The rows of the MAC's table, by what may come of each.
use Rattle.std.proofs.Common.{sym, None, Option, ◌≡◌, ℕ, ◌+◌, ◌-◌, ◌*◌, ◌==◌, ◌<◌, ◌≤◌, Bool, true, false, ◌&&◌, nat_lt, nat_le, List, [], ◌∷◌, length, slice_get, slice_index, Some, refl, ◌∙◌, ap, rules, arith}
use Rattle.std.proofs.lemmas.Bool.Decides.{nat_tests}
use Rattle.plca_data.specs.declared.MacOut.TheVariants.{Nothing, Nibble, Ended}
use Rattle.t1s_frame.specs.Frame.{IsFrame, nibble_list}
use Rattle.t1s_frame.proofs.Nibbles.{length-nibbles_of}
use Rattle.t1s_ring.specs.Queue.{Queue, without_head}
use Rattle.t1s_ring.specs.declared.queued.Queued.{Queued}
use Rattle.t1s_mac.specs.DeferenceTable.{deference_step}
use Rattle.t1s_mac.specs.declared.deference.Deference.{Deference}
use Rattle.t1s_mac.specs.declared.deference.Deference.TheVariants.{Busy}
use Rattle.t1s_mac.specs.MacTable.{Row, row, row_of, deferring, sending, jamming, last_quarter, last_jam_nibble, preamble_nibbles}
use Rattle.t1s_mac.specs.State.{Phase, Resting, Deferring, Waiting, Sending, Jamming, head_nibbles, head_number, nibbles_in, number_in}
use Rattle.t1s_mac.specs.declared.outcome.MacNote.TheVariants.{None as NoNote, Jam, Sent}
use Rattle.std.proofs.lemmas.Bool.{cond_both}

-- the first frame of a queue
pub record Heads (q : Queue) (f : Queued) : Type 0 where
  pub first : slice_get q.frames 0 ≡ Some f
  pub nibbles : head_nibbles q ≡ nibble_list f.frame
  pub number : head_number q ≡ f.number
  pub frame : IsFrame f.frame

-- every frame of a queue is a frame
abbrev pub Fit : List Queued → Type 0
Fit [] = Unit {0}
Fit (q ∷ qs) = IsFrame q.frame × Fit qs

abbrev pub count_of : Queued → ℕ
count_of f = length (nibble_list f.frame)

pub long : (f : Queued) → IsFrame f.frame → (144 ≤ count_of f) × (count_of f ≤ 3060)
unfolding nibble_list
long f fits = let e = length-nibbles_of f.frame in omega (arith, e, fits.shortest, fits.longest)

pub head_of : (q : Queue) → 0 < length q.frames → Fit q.frames → (f : Queued) × Heads q f
head_of q some fit = go q.frames refl some fit
  where
    go : (frames : List Queued) → q.frames ≡ frames → 0 < length frames → Fit frames → (f : Queued) × Heads q f
    go [] e some fit = absurd (omega arith)
    go (f ∷ fs) e some fit =
        let first : slice_get q.frames 0 ≡ Some f = ap (λ (xs : List Queued). slice_get xs 0) e in
        (f, record { first = first; nibbles = ap nibbles_in first; number = ap number_in first; frame = fit.0 })

-- a MAC that may start a frame, and its row in this case
pub data Rests : Phase → Queue → Type 0 where
  rests : {q : Queue} → Rests Resting q
  defers : {q : Queue} → 0 < length q.frames → Rests Deferring q

abbrev pub starting : Queue → Queued → ℕ → Row
starting q f attempts = record (row (Sending 0 0 false) q attempts (Nibble (slice_index (nibble_list f.frame) 0)) NoNote) { starts = true }

pub data StartTurn (q : Queue) (attempts : ℕ) : Bool → Row → Type 0 where
  starts : {may : Bool} {f : Queued} → may ≡ true → Heads q f → StartTurn q attempts may (starting q f attempts)
  stays : {may : Bool} {phase : Phase} → Rests phase q → StartTurn q attempts may (row phase q attempts Nothing NoNote)

-- in Deferring alone
pub data DeferTurn (q : Queue) (attempts : ℕ) : Bool → Row → Type 0 where
  begins : {may : Bool} {f : Queued} → may ≡ true → Heads q f → DeferTurn q attempts may (starting q f attempts)
  defers_on : {may : Bool} → may ≡ false → DeferTurn q attempts may (row Deferring q attempts Nothing NoNote)

pub defer_turns : (q : Queue) (attempts : ℕ) (may : Bool) → 0 < length q.frames → Fit q.frames → DeferTurn q attempts may (deferring q attempts may)
defer_turns q attempts false some fit = defers_on refl
defer_turns q attempts true some fit =
    let (f, heads) = head_of q some fit in
    rw heads.nibbles (begins refl heads)

start_turn : (q : Queue) (attempts : ℕ) (may : Bool) (left : Row) → 0 < length q.frames → DeferTurn q attempts may left → StartTurn q attempts may left
start_turn q attempts may _ some (begins e heads) = starts e heads
start_turn q attempts may _ some (defers_on e) = stays (defers some)

pub rest_turns : (phase : Phase) (q : Queue) (attempts : ℕ) (may collision : Bool) (drawn : ℕ) → Rests phase q → Fit q.frames
    → StartTurn q attempts may (row_of phase q attempts may collision drawn)
rest_turns _ q attempts may collision drawn rests fit =
    cond_both (nat_lt 0 (length q.frames)) _ _ (StartTurn q attempts may)
    (λ e. let some : 0 < length q.frames = grind (arith, nat_tests, e) in start_turn q attempts may _ some (defer_turns q attempts may some fit))
    (λ _. stays rests)
rest_turns _ q attempts may collision drawn (defers some) fit = start_turn q attempts may _ some (defer_turns q attempts may some fit)

-- a frame that starts makes the deference busy
pub started_busy : (d : Deference) (carrier sending : Bool) → deference_step d carrier sending true ≡ Busy
started_busy _ carrier sending = search rules

-- a MAC in its backoff, with so many ticks left, or past it
pub data BacksOff (n : ℕ) : Phase → Queue → Type 0 where
  waits : {w : ℕ} {q : Queue} → w ≤ n → 0 < length q.frames → BacksOff n (Waiting w) q
  over : {q : Queue} → 0 < length q.frames → BacksOff n Deferring q

-- while the carrier is on, it goes on, and is past once its ticks are over
pub data BackoffTurn (n : ℕ) (q : Queue) (attempts : ℕ) : Row → Type 0 where
  backs_off : {phase : Phase} → BacksOff (n - 1) phase q → (n ≡ 0 → phase ≡ Deferring) → BackoffTurn n q attempts (row phase q attempts Nothing NoNote)

pub backoff_turns : (n : ℕ) (phase : Phase) (q : Queue) (attempts : ℕ) (collision : Bool) (drawn : ℕ) → BacksOff n phase q
    → BackoffTurn n q attempts (row_of phase q attempts false collision drawn)
backoff_turns n _ q attempts collision drawn (over some) = backs_off (over some) (λ _. refl)
backoff_turns n _ q attempts collision drawn (waits {w = w} left some) =
    cond_both (w == 0) _ _ (BackoffTurn n q attempts)
    (λ _. backs_off (over some) (λ _. refl))
    (λ more. backs_off (waits (grind (arith, nat_tests, more, left)) some) (λ none. absurd (grind (arith, nat_tests, more, left, none))))

abbrev pub lasting : Queue → ℕ → ℕ → ℕ → Bool → Row
lasting q k p attempts hit = row (Sending k (p + 1) hit) q attempts Nothing NoNote

abbrev pub giving : Queue → Queued → ℕ → ℕ → Bool → Row
giving q f k attempts hit = row (Sending (k + 1) 0 hit) q attempts (Nibble (slice_index (nibble_list f.frame) (k + 1))) NoNote

abbrev pub sent : Queue → Queued → Row
sent q f = row Resting (without_head q) 0 Ended (Sent f.number)

-- a frame that is given out, and has met a collision or not
pub data SendTurn (q : Queue) (f : Queued) (k p attempts : ℕ) (hit : Bool) : Row → Type 0 where
  lasts : p < 3 → SendTurn q f k p attempts hit (lasting q k p attempts hit)
  jams : p ≡ 3 → 15 ≤ k → hit ≡ true → SendTurn q f k p attempts hit (row (Jamming 0 0) q attempts (Nibble 5) (Jam f.number))
  gives : p ≡ 3 → k + 1 < count_of f → (hit ≡ true → k < 15)
      → SendTurn q f k p attempts hit (giving q f k attempts hit)
  sends : p ≡ 3 → k + 1 ≡ count_of f → hit ≡ false → SendTurn q f k p attempts hit (sent q f)

is_same : (a b : ℕ) → (a == b) ≡ true → a ≡ b
is_same a b e = grind (arith, nat_tests, e)

not_same : (a b c : ℕ) → (a == b) ≡ false → b ≡ c → a ≤ c → a < c
not_same a b c e same most = grind (arith, nat_tests, e, same, most)

hits_late : (hit : Bool) (k : ℕ) → (hit && nat_le preamble_nibbles (k + 1)) ≡ true → (hit ≡ true) × (15 ≤ k)
hits_late true k e = (refl, grind (arith, nat_tests, e))
hits_late false k e = absurd (cc)

no_jam : (hit : Bool) (k : ℕ) → (hit && nat_le preamble_nibbles (k + 1)) ≡ false → hit ≡ true → k < 15
no_jam true k e h = grind (arith, nat_tests, e)
no_jam false k e h = absurd (cc)

no_hit : (hit : Bool) (k : ℕ) → (hit && nat_le preamble_nibbles (k + 1)) ≡ false → 15 ≤ k → hit ≡ false
no_hit true k e late = absurd (grind (arith, nat_tests, e, late))
no_hit false k e late = refl

pub send_turns : (q : Queue) (f : Queued) (k p attempts : ℕ) (hit : Bool) → Heads q f → p ≤ 3 → k < count_of f
    → SendTurn q f k p attempts hit (sending k p hit q attempts)
send_turns q f k p attempts hit heads quarter within =
    let e = heads.nibbles in
    let n = heads.number in
    let many = (long f heads.frame).0 in
    cond_both (nat_lt p last_quarter) _ _ (SendTurn q f k p attempts hit)
    (λ less. lasts (grind (arith, nat_tests, less)))
    (λ last. let three : p ≡ 3 = grind (arith, nat_tests, last, quarter) in
    cond_both (hit && nat_le preamble_nibbles (k + 1)) _ _ (SendTurn q f k p attempts hit)
    (λ both. rw n (jams three (hits_late hit k both).1 (hits_late hit k both).0))
    (λ not_both. cond_both (k + 1 == length (head_nibbles q)) _ _ (SendTurn q f k p attempts hit)
    (λ same.
    let all : k + 1 ≡ count_of f = is_same (k + 1) (length (head_nibbles q)) same ∙ ap length e in
    rw n (sends three all (no_hit hit k not_both (omega (arith, many, all)))))
    (λ other.
    let less : k + 1 < count_of f = not_same (k + 1) (length (head_nibbles q)) (count_of f) other (ap length e) (omega (arith, within)) in
    rw e (gives three less (no_jam hit k not_both)))))

-- a jam that is given out for the first time
pub data JamTurn (q : Queue) (j p drawn : ℕ) : Row → Type 0 where
  jam_lasts : p < 3 → JamTurn q j p drawn (row (Jamming j (p + 1)) q 0 Nothing NoNote)
  jam_goes : p ≡ 3 → j < 7 → JamTurn q j p drawn (row (Jamming (j + 1) 0) q 0 (Nibble 5) NoNote)
  jam_ends : p ≡ 3 → j ≡ 7 → JamTurn q j p drawn (record (row (Waiting (512 * drawn)) q 1 Ended NoNote) { draws = true })

pub jam_turns : (q : Queue) (j p drawn : ℕ) → p ≤ 3 → j ≤ 7 → JamTurn q j p drawn (jamming j p q 0 drawn)
jam_turns q j p drawn quarter nibble =
    cond_both (nat_lt p last_quarter) _ _ (JamTurn q j p drawn)
    (λ less. jam_lasts (grind (arith, nat_tests, less)))
    (λ last. cond_both (nat_lt j last_jam_nibble) _ _ (JamTurn q j p drawn)
    (λ less. jam_goes (grind (arith, nat_tests, last, quarter)) (grind (arith, nat_tests, less)))
    (λ seven. jam_ends (grind (arith, nat_tests, last, quarter)) (grind (arith, nat_tests, seven, nibble))))

pub frame_there : (q : Queue) (f : Queued) → Heads q f → 0 < length q.frames
frame_there q f heads = go q.frames heads.first
  where
    go : (frames : List Queued) → slice_get frames 0 ≡ Some f → 0 < length frames
    go [] e = absurd (cc)
    go (x ∷ xs) e = omega arith

-- a queue has one first frame
queued_or : Queued → Option Queued → Queued
queued_or none (Some f) = f
queued_or none None = none

pub first_same : (q : Queue) (f g : Queued) → slice_get q.frames 0 ≡ Some f → slice_get q.frames 0 ≡ Some g → f ≡ g
unfolding queued_or
first_same q f g one other = ap (queued_or f) (sym one ∙ other)
