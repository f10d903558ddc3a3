-- The table of the MAC, one tick of it (IEEE 802.3 clause 4.2.8, with collisions by the PLCA data path).
use Rattle.std.specs.Prelude.{◌≡◌, ◌<◌, ℕ, ◌+◌, ◌-◌, ◌*◌, ◌==◌, Bool, true, false, ◌&&◌, ◌||◌, nat_lt, nat_le, if◌then◌else◌, length, slice_index}
use Rattle.plca_data.specs.declared.MacOut.{MacOut}
use Rattle.plca_data.specs.declared.MacOut.TheVariants.{Nothing, Nibble, Ended}
use Rattle.t1s_ring.specs.Queue.{Queue, without_head}
use Rattle.t1s_mac.specs.declared.outcome.MacNote.{MacNote}
use Rattle.t1s_mac.specs.declared.outcome.MacNote.TheVariants.{None as NoNote, Jam, Drop, Sent}
use Rattle.t1s_mac.specs.declared.outcome.MacStep.{MacStep}
use Rattle.t1s_mac.specs.DeferenceTable.{may_start, deference_step}
use Rattle.t1s_mac.specs.State.{Phase, Resting, Deferring, Waiting, Sending, Jamming, MacState, is_sending, head_number, head_nibbles}

-- ticks of a nibble less one, nibbles of a jam less one, the least nibbles before a jam, the ticks of a slot
abbrev pub last_quarter : ℕ
last_quarter = 3

abbrev pub last_jam_nibble : ℕ
last_jam_nibble = 7

abbrev pub preamble_nibbles : ℕ
preamble_nibbles = 16

abbrev pub last_attempt : ℕ
last_attempt = 15

abbrev pub slot_ticks : ℕ
slot_ticks = 512

-- what a row leaves: the state, the frames, the attempts, whether a frame starts, whether a number is drawn,
-- and what the step tells
pub record Row : Type 0 where
  pub phase : Phase
  pub queue : Queue
  pub attempts : ℕ
  pub starts : Bool
  pub draws : Bool
  pub out : MacOut
  pub note : MacNote

-- a row in which no frame starts and none is drawn for
abbrev pub row : Phase → Queue → ℕ → MacOut → MacNote → Row
row phase queue attempts out note =
    record { phase = phase; queue = queue; attempts = attempts; starts = false; draws = false; out = out; note = note }

-- Below, `may` says that a frame may start, `hit` that the sending has met a collision, this tick included, and
-- `drawn` is the number that a draw for the next attempt would answer.

abbrev pub deferring : Queue → ℕ → Bool → Row
deferring q attempts may =
    if may then record (row (Sending 0 0 false) q attempts (Nibble (slice_index (head_nibbles q) 0)) NoNote) { starts = true }
    else row Deferring q attempts Nothing NoNote

abbrev pub resting : Queue → ℕ → Bool → Row
resting q attempts may =
    if nat_lt 0 (length q.frames) then deferring q attempts may
    else row Resting q attempts Nothing NoNote

abbrev pub waiting : ℕ → Queue → ℕ → Bool → Row
waiting left q attempts may =
    if left == 0 then deferring q attempts may
    else row (Waiting (left - 1)) q attempts Nothing NoNote

abbrev pub sending : ℕ → ℕ → Bool → Queue → ℕ → Row
sending nibble quarter hit q attempts =
    if nat_lt quarter last_quarter then row (Sending nibble (quarter + 1) hit) q attempts Nothing NoNote
    else if hit && nat_le preamble_nibbles (nibble + 1)
    then row (Jamming 0 0) q attempts (Nibble 5) (Jam (head_number q))
    else if nibble + 1 == length (head_nibbles q)
    then row Resting (without_head q) 0 Ended (Sent (head_number q))
    else row (Sending (nibble + 1) 0 hit) q attempts (Nibble (slice_index (head_nibbles q) (nibble + 1))) NoNote

abbrev pub jamming : ℕ → ℕ → Queue → ℕ → ℕ → Row
jamming nibble quarter q attempts drawn =
    if nat_lt quarter last_quarter then row (Jamming nibble (quarter + 1)) q attempts Nothing NoNote
    else if nat_lt nibble last_jam_nibble then row (Jamming (nibble + 1) 0) q attempts (Nibble 5) NoNote
    else if attempts == last_attempt then row Resting (without_head q) 0 Ended (Drop (head_number q))
    else record (row (Waiting (slot_ticks * drawn)) q (attempts + 1) Ended NoNote) { draws = true }

-- the row of a state
abbrev pub row_of : Phase → Queue → ℕ → Bool → Bool → ℕ → Row
row_of Resting q attempts may collision drawn = resting q attempts may
row_of (Waiting left) q attempts may collision drawn = waiting left q attempts may
row_of Deferring q attempts may collision drawn = deferring q attempts may
row_of (Sending nibble quarter collided) q attempts may collision drawn =
    sending nibble quarter (collided || collision) q attempts
row_of (Jamming nibble quarter) q attempts may collision drawn = jamming nibble quarter q attempts drawn

module _ {D : Type 0} where
  -- the row of a MAC for a tick; `answer` is the number that draws would answer for an attempt
  abbrev pub mac_row : (D → ℕ → ℕ) → MacState D → Bool → Bool → Row
  mac_row answer m carrier collision =
      row_of m.phase m.queue m.attempts (may_start m.deference carrier) collision (answer m.draws (m.attempts + 1))

  -- the MAC after a tick, and what the step tells; `after` is what stands after one draw
  abbrev pub mac_step : (D → ℕ → ℕ) → (D → D) → MacState D → Bool → Bool → MacState D × MacStep
  mac_step answer after m carrier collision =
      let left : Row = mac_row answer m carrier collision in (
        record {
          phase = left.phase;
          queue = left.queue;
          deference = deference_step m.deference carrier (is_sending m.phase) left.starts;
          attempts = left.attempts;
          draws = if left.draws then after m.draws else m.draws;
        },
        record { out = left.out; note = left.note },
      )

-- the frame of that number is the first, and leaves alone
abbrev pub HeadLeaves : ℕ → Queue → Queue → Type 0
HeadLeaves number before left =
    (0 < length before.frames) × (head_number before ≡ number) × (left ≡ without_head before)

-- A frame leaves only in a step whose note is Sent or Drop, with the head's number, and it is the head.
abbrev pub LeavesByNote : MacNote → Queue → Queue → Type 0
LeavesByNote NoNote before left = left ≡ before
LeavesByNote (Jam number) before left = (head_number before ≡ number) × (left ≡ before)
LeavesByNote (Drop number) before left = HeadLeaves number before left
LeavesByNote (Sent number) before left = HeadLeaves number before left
