-- The table of PLCA status (IEEE Std 802.3 148.4.6).
use Rattle.std.specs.Prelude.{◌-◌, Bool, true, false, ◌==◌, if◌then◌else◌}
use Rattle.plca_control.specs.declared.StatusState.{StatusState}
use Rattle.plca_control.specs.declared.StatusState.TheVariants.{Inactive, Active, Hysteresis}

abbrev pub status_start : StatusState
status_start = Inactive

abbrev pub status_is_ok : StatusState → Bool
status_is_ok Inactive = false
status_is_ok Active = true
status_is_ok (Hysteresis n) = true

-- one step with the `active` of control
abbrev pub status_step : StatusState → Bool → StatusState
status_step Inactive true = Active
status_step Inactive false = Inactive
status_step Active true = Active
status_step Active false = Hysteresis 130090
status_step (Hysteresis n) true = Active
status_step (Hysteresis n) false = if n == 1 then Inactive else Hysteresis (n - 1)
