-- What holds in every run of the core of one node from its start, whatever it hears and is offered, as long as its drive
-- meets no other signal and control, once it takes part in the cycle, goes on to do so. `end` is the last tick of the
-- run: every tick that a premise or a conclusion speaks of is within it.
use Rattle.std.specs.Prelude.{◌≡◌, ◌≢◌, ℕ, ◌+◌, ◌*◌, ◌<◌, ◌≤◌, ◌⊎◌, Bool, true, false, [], ◌∷◌, length, slice_index, slice_get, Some}
use Rattle.t1s_frame.specs.Frame.{nibble_list}
use Rattle.t1s_ring.specs.Queue.{empty_queue}
use Rattle.t1s_ring.specs.declared.queued.Queued.{Queued}
use Rattle.t1s_pcs_tx.specs.State.{Stage, Starting, Sending, ClosingEnd, ClosingCloser}
use Rattle.plca_control.specs.declared.ControlSet.{ControlSet}
use Rattle.plca_control.specs.declared.State.{State as ControlStage}
use Rattle.plca_control.specs.declared.State.TheVariants.{Commit as CommitStage}
use Rattle.plca_control.specs.Runs.{is_transmit}
use Rattle.plca_data.specs.declared.data_path.State.TheVariants.{Pending}
use Rattle.t1s_mac.specs.Laws.{jams}
use Rattle.t1s_mac.specs.State.{Deferring}
use Rattle.t1s_mac.specs.declared.outcome.MacNote.TheVariants.{Drop, Sent}
use Rattle.t1s_node.specs.Core.{Core, core_start}
use Rattle.t1s_node.specs.Runs.{CoreTick, IsUndisturbed, found_at, left_at, active_at, own_at, note_at, leaves_at, carrier_at, starts_at, popped_at, steps_before}

-- control is in Commit
abbrev pub is_commit : ControlStage → Bool
is_commit (CommitStage c n b) = true
is_commit _ = false

-- the transmitter spells the nibble at place i of a piece: J and H for the first four
pub record Spells (i : ℕ) (stage : Stage) : Type 0 where
  pub early : i < 4 → stage ≡ Starting i
  pub late : 4 ≤ i → (scrambled : ℕ) × (stage ≡ Sending scrambled)

module _ {D : Type 0} (answer : D → ℕ → ℕ) (after : D → D) where
  -- The MAC starts no frame before control was active.
  abbrev pub StartsOnlyAwake : Type 0
  StartsOnlyAwake =
      (set : ControlSet) (room : ℕ) (draws : D) (given : ℕ → CoreTick) (end : ℕ)
      → let start : Core D = core_start set (empty_queue room) draws in
      IsUndisturbed answer after start given end
      → (t : ℕ) → t ≤ end → starts_at answer after start given t ≡ true
      → (u : ℕ) × (u < t) × (active_at answer after start given u ≡ true)

  -- A MAC that is in Deferring after a tick in which it is shown no carrier gives the first nibble of a frame within the
  -- next 96 ticks.
  abbrev pub DefersBriefly : Type 0
  DefersBriefly =
      (set : ControlSet) (room : ℕ) (draws : D) (given : ℕ → CoreTick) (t : ℕ)
      → let start : Core D = core_start set (empty_queue room) draws in
      carrier_at answer after start given t ≡ false → (left_at answer after start given t).mac.phase ≡ Deferring
      → (k : ℕ) × (1 ≤ k) × (k ≤ 96) × (starts_at answer after start given (t + k) ≡ true)

  -- A frame is jammed at most once: since a frame left there is at most one jam. None is dropped.
  abbrev pub JamsOnce : Type 0
  JamsOnce =
      (set : ControlSet) (room : ℕ) (draws : D) (given : ℕ → CoreTick) (end : ℕ)
      → let start : Core D = core_start set (empty_queue room) draws in
      IsUndisturbed answer after start given end
      → (t : ℕ) → t ≤ end
      → (jams (steps_before answer after start given (t + 1)) ≤ 1)
      × ((number : ℕ) → note_at answer after start given t ≢ Drop number)

  -- The first H of a frame begins, which is the first in the MAC's queue then.
  abbrev pub LeavesAt : Core D → (ℕ → CoreTick) → Queued → ℕ → Type 0
  LeavesAt start given f t =
      (leaves_at answer after start given t ≡ Some f.number) × (slice_get (left_at answer after start given t).mac.queue.frames 0 ≡ Some f)

  -- The data path is in Pending for a frame, which is the first in the MAC's queue.
  abbrev pub PendsAt : Core D → (ℕ → CoreTick) → Queued → ℕ → Type 0
  PendsAt start given f t =
      ((left_at answer after start given t).path ≡ Pending) × (slice_get (left_at answer after start given t).mac.queue.frames 0 ≡ Some f)

  -- Within 1000 ticks after the first nibble of a frame its first H begins, or the data path is in Pending.
  abbrev pub LeavesOrPends : Type 0
  LeavesOrPends =
      (set : ControlSet) (room : ℕ) (draws : D) (given : ℕ → CoreTick) (end : ℕ)
      → let start : Core D = core_start set (empty_queue room) draws in
      IsUndisturbed answer after start given end
      → (t : ℕ) → t + 1000 ≤ end → starts_at answer after start given t ≡ true
      → (f : Queued) × (slice_get (left_at answer after start given t).mac.queue.frames 0 ≡ Some f)
      × (k : ℕ) × (1 ≤ k) × (k ≤ 1000)
      × (LeavesAt start given f (t + k) ⊎ PendsAt start given f (t + k))

  -- Control goes to Commit, with the frame the first in the MAC's queue.
  pub record CommitsFor (start : Core D) (given : ℕ → CoreTick) (f : Queued) (t : ℕ) : Type 0 where
    pub from : is_commit (found_at answer after start given t).control.state ≡ false
    pub commits : is_commit (left_at answer after start given t).control.state ≡ true
    pub first : slice_get (left_at answer after start given t).mac.queue.frames 0 ≡ Some f

  -- The data path stays in Pending for a frame until a tick in which the node holds its own opportunity; in this tick control
  -- goes to Commit, and the frame is still the first.
  abbrev pub PendsUntilOwn : Type 0
  PendsUntilOwn =
      (set : ControlSet) (room : ℕ) (draws : D) (given : ℕ → CoreTick) (end : ℕ)
      → let start : Core D = core_start set (empty_queue room) draws in
      IsUndisturbed answer after start given end
      → (f : Queued) (t : ℕ) → t < end → PendsAt start given f t
      → (own_at answer after start given (t + 1) ≡ false → PendsAt start given f (t + 1))
      × (own_at answer after start given (t + 1) ≡ true → CommitsFor start given f (t + 1))

  -- Within 98 ticks after control has gone to Commit it is in Transmit.
  abbrev pub CommitsBriefly : Type 0
  CommitsBriefly =
      (set : ControlSet) (room : ℕ) (draws : D) (given : ℕ → CoreTick) (end : ℕ)
      → let start : Core D = core_start set (empty_queue room) draws in
      IsUndisturbed answer after start given end
      → (t : ℕ) → t + 98 ≤ end
      → is_commit (found_at answer after start given t).control.state ≡ false
      → is_commit (left_at answer after start given t).control.state ≡ true
      → (k : ℕ) × (1 ≤ k) × (k ≤ 98) × (is_transmit (left_at answer after start given (t + k)).control.state ≡ true)

  -- Where control goes to Commit there is a frame, and within 112 ticks its first H begins.
  abbrev pub LeavesOnceCommitted : Type 0
  LeavesOnceCommitted =
      (set : ControlSet) (room : ℕ) (draws : D) (given : ℕ → CoreTick) (end : ℕ)
      → let start : Core D = core_start set (empty_queue room) draws in
      IsUndisturbed answer after start given end
      → (t : ℕ) → t + 112 ≤ end
      → is_commit (found_at answer after start given t).control.state ≡ false
      → is_commit (left_at answer after start given t).control.state ≡ true
      → (f : Queued) × CommitsFor start given f t × (k : ℕ) × (1 ≤ k) × (k ≤ 112) × LeavesAt start given f (t + k)

  -- Of a frame and the tick of its first pop: from there on the transmitter spells its nibbles, each for four ticks, pops
  -- each in the first of them and nothing else, and then drives T and R. The frame's note Sent comes before T begins.
  module _ (start : Core D) (given : ℕ → CoreTick) (end : ℕ) where
    pub record IsPieceOf (f : Queued) (first : ℕ) : Type 0 where
      pub pops : (i : ℕ) → i < length (nibble_list f.frame) → first + 4 * i ≤ end
          → popped_at answer after start given (first + 4 * i) ≡ slice_index (nibble_list f.frame) i ∷ []
      pub pops_else : (i q : ℕ) → i < length (nibble_list f.frame) + 2 → q < 4 → (i < length (nibble_list f.frame) → 1 ≤ q)
          → first + 4 * i + q ≤ end → popped_at answer after start given (first + 4 * i + q) ≡ []
      pub spells : (i q : ℕ) → i < length (nibble_list f.frame) → q < 4 → first + 4 * i + q ≤ end
          → Spells i (left_at answer after start given (first + 4 * i + q)).tx.stage
          × ((left_at answer after start given (first + 4 * i + q)).tx.part ≡ q)
      pub ends : (q : ℕ) → q < 4 → first + 4 * length (nibble_list f.frame) + q ≤ end
          → ((left_at answer after start given (first + 4 * length (nibble_list f.frame) + q)).tx.stage ≡ ClosingEnd true)
          × ((left_at answer after start given (first + 4 * length (nibble_list f.frame) + q)).tx.part ≡ q)
      pub closes : (q : ℕ) → q < 4 → first + 4 * length (nibble_list f.frame) + 4 + q ≤ end
          → ((left_at answer after start given (first + 4 * length (nibble_list f.frame) + 4 + q)).tx.stage ≡ ClosingCloser true)
          × ((left_at answer after start given (first + 4 * length (nibble_list f.frame) + 4 + q)).tx.part ≡ q)
      pub sent : first + 4 * length (nibble_list f.frame) ≤ end
          → (w : ℕ) × (first + 8 < w) × (w < first + 4 * length (nibble_list f.frame)) × (note_at answer after start given w ≡ Sent f.number)

  -- A frame whose first H begins in a tick is the first in the MAC's queue then, and its piece has begun eight ticks before.
  abbrev pub SendsWholePiece : Type 0
  SendsWholePiece =
      (set : ControlSet) (room : ℕ) (draws : D) (given : ℕ → CoreTick) (end : ℕ)
      → let start : Core D = core_start set (empty_queue room) draws in
      IsUndisturbed answer after start given end
      → (t number : ℕ) → t ≤ end → leaves_at answer after start given t ≡ Some number
      → (f : Queued) × (first : ℕ) × (slice_get (left_at answer after start given t).mac.queue.frames 0 ≡ Some f) × (f.number ≡ number)
      × (first + 8 ≡ t) × IsPieceOf start given end f first

  -- A frame leaves the queue only in its piece: the note Sent comes after the first H, and before T begins.
  abbrev pub SentInPiece : Type 0
  SentInPiece =
      (set : ControlSet) (room : ℕ) (draws : D) (given : ℕ → CoreTick) (end : ℕ)
      → let start : Core D = core_start set (empty_queue room) draws in
      IsUndisturbed answer after start given end
      → (t number : ℕ) → t ≤ end → note_at answer after start given t ≡ Sent number
      → (f : Queued) × (first : ℕ) × (slice_get (found_at answer after start given t).mac.queue.frames 0 ≡ Some f) × (f.number ≡ number)
      × (first + 8 < t) × (t < first + 4 * length (nibble_list f.frame)) × IsPieceOf start given end f first
