-- The ranges of the numbers that the data path takes and keeps.
use Rattle.std.specs.Prelude.{ℕ, ◌<◌, Bool, true, ◌&&◌, nat_le}
use Rattle.plca_data.specs.declared.MacOut.{MacOut}
use Rattle.plca_data.specs.declared.MacOut.TheVariants.{Nothing, Nibble, Ended}
use Rattle.plca_data.specs.declared.data_path.State.{State}
use Rattle.plca_data.specs.declared.data_path.State.TheVariants.{Silent, Idle, Hold, Collide, DelayPending, Pending, WaitMac, Transmit}

-- a nibble that a MAC gives out is below 16
abbrev pub IsMacOut : MacOut → Type 0
IsMacOut Nothing = Unit {0}
IsMacOut (Nibble x) = x < 16
IsMacOut Ended = Unit {0}

-- how long a jammed frame waits until it may be sent anew, in ticks
abbrev pub pending_ticks : ℕ
pending_ticks = 512

-- the count of DelayPending runs from there down to 1
abbrev pub in_range : State → Bool
in_range Silent = true
in_range Idle = true
in_range Hold = true
in_range Collide = true
in_range (DelayPending n) = nat_le 1 n && nat_le n pending_ticks
in_range Pending = true
in_range WaitMac = true
in_range (Transmit ended bad) = true
