-- The ranges of the numbers that the two functions keep, as tests.
use Rattle.std.specs.Prelude.{◌*◌, ◌≤◌, Bool, true, ◌&&◌, nat_le}
use Rattle.plca_control.specs.declared.ControlSet.{ControlSet}
use Rattle.plca_control.specs.declared.State.{State}
use Rattle.plca_control.specs.declared.State.TheVariants.{Disabled, Recover, Resync, Early, Beacon, Syncing, WaitTo, Receive, Commit, Transmit, Burst, Drain}
use Rattle.plca_control.specs.declared.StatusState.{StatusState}
use Rattle.plca_control.specs.declared.StatusState.TheVariants.{Inactive, Active, Hysteresis}

-- what `Control::start` asks for: a count of 1 to 254, and a transmit opportunity of 16 to 255 ticks
pub record IsControlSet (s : ControlSet) : Type 0 where
  pub count_low : 1 ≤ s.count
  pub count_high : s.count ≤ 254
  pub to_low : 16 ≤ s.to
  pub to_high : s.to ≤ 255

abbrev pub set_in_range : ControlSet → Bool
set_in_range s = nat_le 1 s.count && nat_le s.count 254 && nat_le 16 s.to && nat_le s.to 255

-- each timer runs from its start down to 1, or for Recover from 0 up to 258 opportunities
abbrev pub state_in_range : ControlSet → State → Bool
state_in_range s Disabled = true
state_in_range s (Recover q) = nat_le q (258 * s.to)
state_in_range s Resync = true
state_in_range s Early = true
state_in_range s (Beacon n) = nat_le 1 n && nat_le n 20
state_in_range s Syncing = true
state_in_range s (WaitTo c n) = nat_le c 254 && nat_le 1 n && nat_le n s.to
state_in_range s (Receive c) = nat_le c 254
state_in_range s (Commit c n b) = nat_le 1 n && nat_le n 288 && nat_le b s.burst
state_in_range s (Transmit c b) = nat_le b s.burst
state_in_range s (Burst c n b) = nat_le 1 n && nat_le n 128 && nat_le b s.burst
state_in_range s (Drain c) = true

abbrev pub in_range : ControlSet → State → Bool
in_range s state = set_in_range s && state_in_range s state

abbrev pub status_in_range : StatusState → Bool
status_in_range Inactive = true
status_in_range Active = true
status_in_range (Hysteresis n) = nat_le 1 n && nat_le n 130090
