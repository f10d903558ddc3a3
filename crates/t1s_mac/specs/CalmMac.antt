-- Calm ticks of the MAC: for how many ticks of the same input it does nothing but count.
use Rattle.std.specs.Prelude.{◌≡◌, ℕ, ◌-◌, ◌≤◌, Bool, nat_lt, if◌then◌else◌, length, min}
use Rattle.plca_data.specs.declared.MacOut.TheVariants.{Nothing}
use Rattle.t1s_ring.specs.Queue.{Queue}
use Rattle.t1s_mac.specs.declared.deference.Deference.{Deference}
use Rattle.t1s_mac.specs.declared.deference.Deference.TheVariants.{Free, Busy, Gap}
use Rattle.t1s_mac.specs.declared.outcome.MacNote.TheVariants.{None as NoNote}
use Rattle.t1s_mac.specs.MacTable.{mac_step}
use Rattle.t1s_mac.specs.State.{Phase, Resting, Deferring, Waiting, Sending, Jamming, MacState}

-- a state without the count that a calm tick may move: the ticks of Waiting
abbrev pub phase_uncounted : Phase → Phase
phase_uncounted Resting = Resting
phase_uncounted Deferring = Deferring
phase_uncounted (Waiting left) = Waiting 0
phase_uncounted (Sending nibble quarter collided) = Sending nibble quarter collided
phase_uncounted (Jamming nibble quarter) = Jamming nibble quarter

-- and deference without its own: the ticks of Gap
abbrev pub deference_uncounted : Deference → Deference
deference_uncounted Free = Free
deference_uncounted Busy = Busy
deference_uncounted (Gap left) = Gap 0

-- for how many ticks deference keeps its name where no frame is in work or the first one backs off, up to `most`
abbrev pub deference_lasts : Deference → Bool → ℕ → ℕ
deference_lasts Free carrier most = if carrier then 0 else most
deference_lasts Busy carrier most = if carrier then most else 0
deference_lasts (Gap left) carrier most = min (left - 1) most

-- and where the first frame waits until it may start
abbrev pub deferring_lasts : Deference → Bool → ℕ → ℕ
deferring_lasts Free carrier most = 0
deferring_lasts Busy carrier most = if carrier then most else 0
deferring_lasts (Gap left) carrier most = min (left - 1) most

-- how many ticks are calm, up to `most`
abbrev pub calm_ticks : Phase → Queue → Deference → Bool → ℕ → ℕ
calm_ticks Resting q d carrier most = if nat_lt 0 (length q.frames) then 0 else deference_lasts d carrier most
calm_ticks Deferring q d carrier most = deferring_lasts d carrier most
calm_ticks (Waiting left) q d carrier most = deference_lasts d carrier (min left most)
calm_ticks (Sending nibble quarter collided) q d carrier most = 0
calm_ticks (Jamming nibble quarter) q d carrier most = 0

-- a backoff has so many ticks left
abbrev pub HasTicks : Phase → ℕ → Type 0
HasTicks (Waiting left) n = n ≤ left
HasTicks Resting n = Unit {0}
HasTicks Deferring n = Unit {0}
HasTicks (Sending nibble quarter collided) n = Unit {0}
HasTicks (Jamming nibble quarter) n = Unit {0}

-- the state and the deference that n calm ticks leave
abbrev pub phase_passed : Phase → ℕ → Phase
phase_passed Resting n = Resting
phase_passed Deferring n = Deferring
phase_passed (Waiting left) n = Waiting (left - n)
phase_passed (Sending nibble quarter collided) n = Sending nibble quarter collided
phase_passed (Jamming nibble quarter) n = Jamming nibble quarter

abbrev pub deference_passed : Deference → ℕ → Deference
deference_passed Free n = Free
deference_passed Busy n = Busy
deference_passed (Gap left) n = Gap (left - n)

module _ {D : Type 0} where
  abbrev pub mac_uncounted : MacState D → MacState D
  mac_uncounted m = record m { phase = phase_uncounted m.phase; deference = deference_uncounted m.deference }

  -- the MAC after a tick
  abbrev pub mac_after : (D → ℕ → ℕ) → (D → D) → Bool → Bool → MacState D → MacState D
  mac_after answer after carrier collision m = (mac_step answer after m carrier collision).0

  -- a tick is calm: it gives out nothing, tells of no frame, and changes nothing but these counts
  abbrev pub IsCalmMac : (D → ℕ → ℕ) → (D → D) → Bool → Bool → MacState D → Type 0
  IsCalmMac answer after carrier collision m =
      ((mac_step answer after m carrier collision).1.out ≡ Nothing)
      × ((mac_step answer after m carrier collision).1.note ≡ NoNote)
      × (mac_uncounted (mac_after answer after carrier collision m) ≡ mac_uncounted m)
