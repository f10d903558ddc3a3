-- Calm ticks of the data path: for how many ticks of the same input it does nothing but count.
use Rattle.std.specs.Prelude.{◌≡◌, ℕ, ◌-◌, Bool, not, ◌&&◌, ◌||◌, if◌then◌else◌, List, min}
use Rattle.plca_data.specs.declared.DataIn.{DataIn}
use Rattle.plca_data.specs.declared.data_path.State.{State}
use Rattle.plca_data.specs.declared.data_path.State.TheVariants.{Silent, Idle, Hold, Collide, DelayPending, Pending, WaitMac, Transmit}
use Rattle.plca_data.specs.DataPathTable.{is_nibble, is_ended, is_run_or_other, data_path_step}

-- a state without the count that a calm tick may move: the ticks of DelayPending
abbrev pub uncounted : State → State
uncounted (DelayPending n) = DelayPending 0
uncounted st = st

-- the data path and its line after a tick with this input
abbrev pub path_after : DataIn → State × List ℕ → State × List ℕ
path_after i kept = data_path_step kept.0 i kept.1

-- a tick with this input is calm: it neither pushes to the line nor clears it, so that it leaves any line as it is,
-- and nothing is changed but that count
abbrev pub IsCalmData : DataIn → State × List ℕ → Type 0
IsCalmData i kept = (line : List ℕ) →
    ((data_path_step kept.0 i line).1 ≡ line) × (uncounted (data_path_step kept.0 i line).0 ≡ uncounted kept.0)

-- whether a tick leaves the line as it is, and the state too, but for the ticks of DelayPending and their end
abbrev pub keeps : State → DataIn → Bool
keeps Silent i = not i.active && not (is_nibble i.mac)
keeps Idle i = i.active && not (is_nibble i.mac)
keeps Hold i = i.active && not i.own && not (i.crs && is_run_or_other i.class) && not (is_nibble i.mac) && not (is_ended i.mac)
keeps Collide i = not (is_ended i.mac)
keeps (DelayPending n) i = i.active && not (is_nibble i.mac)
keeps Pending i = i.active && not i.own && not (is_nibble i.mac)
keeps WaitMac i = i.own && not (is_nibble i.mac)
keeps (Transmit ended bad) i =
    i.own && not i.closed && not (is_nibble i.mac) && (ended || not (is_ended i.mac)) && (bad || not i.hit)

-- how many ticks a state can last, up to `most`
abbrev pub lasts : State → ℕ → ℕ
lasts (DelayPending n) most = min (n - 1) most
lasts st most = most

-- how many ticks are calm, up to `most`
abbrev pub calm_ticks : State → DataIn → ℕ → ℕ
calm_ticks st i most = if keeps st i then lasts st most else 0

-- the state that n calm ticks leave
abbrev pub passed : State → ℕ → State
passed (DelayPending left) n = DelayPending (left - n)
passed st n = st
