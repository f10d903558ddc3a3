-- The queue of frames that a station has to send, as contracts see it, lent or not.
use Rattle.std.specs.Prelude.{ℕ, ◌≤◌, List, [], ◌∷◌, ◌++◌, length, drop}
use Rattle.t1s_ring.specs.declared.queued.Queued.{Queued}

-- the frames with the numbers of their offers, the oldest first, and how many there may be
pub record Queue : Type 0 where
  pub frames : List Queued
  pub room : ℕ

abbrev pub queue : List Queued → ℕ → Queue
queue frames room = record { frames = frames; room = room }

-- no frame, in that room
abbrev pub empty_queue : ℕ → Queue
empty_queue room = queue [] room

-- one more frame, at the back
abbrev pub with_last : Queue → Queued → Queue
with_last q last = queue (q.frames ++ last ∷ []) q.room

-- the first frame removed, and nothing else
abbrev pub without_head : Queue → Queue
without_head q = queue (drop 1 q.frames) q.room

-- what holds of the queue of every ring: a room of 1 to 64, and no more frames than that
pub record IsQueue (q : Queue) : Type 0 where
  pub least : 1 ≤ q.room
  pub most : q.room ≤ 64
  pub held : length q.frames ≤ q.room
