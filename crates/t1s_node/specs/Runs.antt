-- Runs of the core of a node, tick by tick.
use Rattle.std.specs.Prelude.{◌≡◌, ℕ, zero, suc, ◌<◌, ◌≤◌, Bool, true, false, List, [], ◌∷◌, All, Option}
use Rattle.t1s_frame.specs.Frame.{IsFrame}
use Rattle.t1s_ring.specs.declared.queued.Queued.{Queued}
use Rattle.t1s_pcs_tx.specs.Runs.{lost_nibbles}
use Rattle.plca_data.specs.DataPathTable.{carrier}
use Rattle.t1s_mac.specs.Draws.{draw_bound}
use Rattle.t1s_mac.specs.State.{Phase, Resting, Deferring, Waiting, Sending, Jamming}
use Rattle.t1s_mac.specs.declared.outcome.MacNote.{MacNote}
use Rattle.t1s_mac.specs.declared.outcome.MacStep.{MacStep}
use Rattle.t1s_node.specs.Core.{Core, CoreDrive, LineReading, core_after_offer, core_drive, tx_turn}

-- what comes to a core in a tick: the frames that are offered before its drive phase, and what this finds
pub record CoreTick : Type 0 where
  pub offers : List Queued
  pub reading : LineReading

-- the first nibble of a frame begins
abbrev pub is_first_nibble : Phase → Bool
is_first_nibble Resting = false
is_first_nibble Deferring = false
is_first_nibble (Waiting left) = false
is_first_nibble (Sending zero zero collided) = true
is_first_nibble (Sending nibble quarter collided) = false
is_first_nibble (Jamming nibble quarter) = false

-- what a draw answers is below its bound
abbrev pub DrawsAreBounded : {D : Type 0} → (D → ℕ → ℕ) → Type 0
DrawsAreBounded {D = D} answer = (draws : D) (attempt : ℕ) → answer draws attempt < draw_bound attempt

module _ {D : Type 0} where
  -- the core after offers, the first one first
  abbrev pub core_after_offers : Core D → List Queued → Core D
  core_after_offers c [] = c
  core_after_offers c (q ∷ qs) = core_after_offers (core_after_offer c q) qs

module _ {D : Type 0} (answer : D → ℕ → ℕ) (after : D → D) (start : Core D) (given : ℕ → CoreTick) where
  -- the core as tick t finds it, where `given k` is what comes to it in tick k
  unfoldable pub core_at : ℕ → Core D
  core_at zero = start
  core_at (suc t) = (core_drive answer after (given t).reading (core_after_offers (core_at t) (given t).offers)).core

  -- and after the offers of that tick
  abbrev pub found_at : ℕ → Core D
  found_at t = core_after_offers (core_at t) (given t).offers

  -- what its drive phase comes to, and of this the core that is left, and the parts
  abbrev pub drive_at : ℕ → CoreDrive D
  drive_at t = core_drive answer after (given t).reading (found_at t)

  abbrev pub left_at : ℕ → Core D
  left_at t = (drive_at t).core

  abbrev pub active_at : ℕ → Bool
  active_at t = (drive_at t).active

  abbrev pub own_at : ℕ → Bool
  own_at t = (drive_at t).own

  abbrev pub note_at : ℕ → MacNote
  note_at t = (drive_at t).step.note

  abbrev pub leaves_at : ℕ → Option ℕ
  leaves_at t = (drive_at t).leaves

  -- the carrier that the MAC is shown in tick t
  abbrev pub carrier_at : ℕ → Bool
  carrier_at t = carrier (found_at t).path (given t).reading.crs

  -- whether the MAC starts a frame in tick t: it gives nibble 0
  abbrev pub starts_at : ℕ → Bool
  starts_at t = is_first_nibble (left_at t).mac.phase

  -- the nibbles that the transmitter pops in tick t: those that the line loses in its step
  abbrev pub popped_at : ℕ → List ℕ
  popped_at t =
      let c : Core D = found_at t in
      lost_nibbles c.line (tx_turn (drive_at t).cmd c).line

  -- what the MAC has told in the ticks before t, the newest first
  abbrev pub steps_before : ℕ → List MacStep
  steps_before zero = []
  steps_before (suc t) = (drive_at t).step ∷ steps_before t

  -- Draws answer what they may, and up to tick `end` the offers are frames, nothing has met the node's drive, and control,
  -- once it has taken part in the cycle, goes on to do so.
  pub record IsUndisturbed (end : ℕ) : Type 0 where
    pub draws : DrawsAreBounded answer
    pub frames : (t : ℕ) → t ≤ end → All (λ (q : Queued). IsFrame q.frame) (given t).offers
    pub no_hit : (t : ℕ) → t ≤ end → (given t).reading.hit ≡ false
    pub stays_active : (t u : ℕ) → t ≤ u → u ≤ end → active_at t ≡ true → active_at u ≡ true
