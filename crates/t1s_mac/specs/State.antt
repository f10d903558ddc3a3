-- What a MAC holds, as contracts see it.
use Rattle.std.specs.Prelude.{ℕ, ◌≤◌, Bool, true, false, if◌then◌else◌, nat_lt, List, [], length, Option, Some, None, slice_get, IsTrue}
use Rattle.t1s_frame.specs.Frame.{nibble_list}
use Rattle.t1s_ring.specs.Queue.{Queue}
use Rattle.t1s_ring.specs.declared.queued.Queued.{Queued}
use Rattle.t1s_mac.specs.declared.deference.Deference.{Deference}
use Rattle.t1s_mac.specs.declared.deference.Deference.TheVariants.{Busy}
use Rattle.t1s_mac.specs.declared.states.State.{State}
use Rattle.t1s_mac.specs.declared.states.State.TheVariants.{Resting as AtRest, Deferring as InDeference, Waiting as InBackoff, Sending as OnLine, Jamming as InJam}

-- the states of the table, with the counts that they carry
pub data Phase : Type 0 where
  Resting : Phase
  Deferring : Phase
  -- the ticks that are left of a backoff
  Waiting : ℕ → Phase
  -- the nibble that is given out, the ticks that it has lasted, and whether the sending has met a collision
  Sending : ℕ → ℕ → Bool → Phase
  -- the nibble of the jam, and the ticks that it has lasted
  Jamming : ℕ → ℕ → Phase

-- a MAC: its state, its frames, its deference, the attempts of the frame in work, and its draws
pub record MacState (D : Type 0) : Type 0 where
  pub phase : Phase
  pub queue : Queue
  pub deference : Deference
  pub attempts : ℕ
  pub draws : D

-- the number of the first frame's offer, and 0 where there is none
abbrev pub number_in : Option Queued → ℕ
number_in (Some q) = q.number
number_in None = 0

-- the nibbles that carry the first frame, and none where there is none
abbrev pub nibbles_in : Option Queued → List ℕ
nibbles_in (Some q) = nibble_list q.frame
nibbles_in None = []

abbrev pub head_number : Queue → ℕ
head_number q = number_in (slice_get q.frames 0)

abbrev pub head_nibbles : Queue → List ℕ
head_nibbles q = nibbles_in (slice_get q.frames 0)

-- the state of the table that a typed state stands for
abbrev pub phase_of : State → Phase
phase_of (AtRest s) = Resting
phase_of (InDeference s) = Deferring
phase_of (InBackoff s) = Waiting s.ticks
phase_of (OnLine s) = Sending s.nibble s.quarter s.collided
phase_of (InJam s) = Jamming s.nibble s.quarter

-- the frames that a typed state holds
abbrev pub queue_of : State → Queue
queue_of (AtRest s) = s.ring
queue_of (InDeference s) = s.ring
queue_of (InBackoff s) = s.ring
queue_of (OnLine s) = s.ring
queue_of (InJam s) = s.ring

-- a frame is there where one is in work, and its nibble is one of the frame's
abbrev pub holds_frame : Phase → Queue → Bool
holds_frame Resting q = true
holds_frame Deferring q = nat_lt 0 (length q.frames)
holds_frame (Waiting left) q = nat_lt 0 (length q.frames)
holds_frame (Sending nibble quarter collided) q = nat_lt nibble (length (head_nibbles q))
holds_frame (Jamming nibble quarter) q = nat_lt 0 (length q.frames)

-- whether a state is Sending or Jamming
abbrev pub is_sending : Phase → Bool
is_sending Resting = false
is_sending Deferring = false
is_sending (Waiting left) = false
is_sending (Sending nibble quarter collided) = true
is_sending (Jamming nibble quarter) = true

module _ {D : Type 0} where
  -- a MAC at its start: at rest, with the line taken for busy
  abbrev pub mac_start : Queue → D → MacState D
  mac_start queue draws = record { phase = Resting; queue = queue; deference = Busy; attempts = 0; draws = draws }

  -- what holds of every MAC
  abbrev pub IsMac : MacState D → Type 0
  IsMac m = IsTrue (holds_frame m.phase m.queue) × (m.attempts ≤ 15)

  -- the same MAC with other frames
  abbrev pub with_queue : MacState D → Queue → MacState D
  with_queue m queue = record m { queue = queue }

  -- the number of the frame in Sending or Jamming
  abbrev pub number_of : MacState D → Option ℕ
  number_of m = if is_sending m.phase then Some (head_number m.queue) else None
