-- A first frame of a MAC that is at rest, and what keeps it from being given out.
use Rattle.std.specs.Prelude.{◌≡◌, ℕ, ◌+◌, ◌<◌, ◌⊎◌, Bool, true, false, length}
use Rattle.t1s_ring.specs.Queue.{empty_queue}
use Rattle.plca_control.specs.declared.ControlSet.{ControlSet}
use Rattle.t1s_mac.specs.State.{Phase, Resting, Deferring, Waiting, Sending, Jamming, MacState}
use Rattle.t1s_node.specs.Core.{Core, core_start}
use Rattle.t1s_node.specs.Runs.{CoreTick, IsUndisturbed, found_at, left_at, active_at, own_at, carrier_at, starts_at}

-- no frame is given out or backs off
abbrev pub is_at_rest : Phase → Bool
is_at_rest Resting = true
is_at_rest Deferring = true
is_at_rest (Waiting left) = false
is_at_rest (Sending nibble quarter collided) = false
is_at_rest (Jamming nibble quarter) = false

module _ {D : Type 0} where
  -- a MAC holds a frame that it has not begun
  pub record HoldsFirst (m : MacState D) : Type 0 where
    pub at_rest : is_at_rest m.phase ≡ true
    pub fresh : m.attempts ≡ 0
    pub some : 0 < length m.queue.frames

module _ {D : Type 0} (answer : D → ℕ → ℕ) (after : D → D) where
  -- Only carrier and the node's own opportunity keep a frame that the MAC has not begun from quiet: in a tick with
  -- neither, of a node that takes part in the cycle, the MAC is shown no carrier, and it begins the frame or is in
  -- Deferring after it.
  abbrev pub WaitsForQuiet : Type 0
  WaitsForQuiet =
      (set : ControlSet) (room : ℕ) (draws : D) (given : ℕ → CoreTick) (end : ℕ)
      → let start : Core D = core_start set (empty_queue room) draws in
      IsUndisturbed answer after start given end
      → (t : ℕ) → t < end → active_at answer after start given t ≡ true → own_at answer after start given t ≡ false
      → HoldsFirst (found_at answer after start given (t + 1)).mac → (given (t + 1)).reading.crs ≡ false
      → (carrier_at answer after start given (t + 1) ≡ false)
      × ((starts_at answer after start given (t + 1) ≡ true) ⊎ ((left_at answer after start given (t + 1)).mac.phase ≡ Deferring))
