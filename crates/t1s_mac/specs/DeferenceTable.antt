-- Deference: whether the MAC may start a frame. It stands for the deference of IEEE 802.3 clause 4.2.3.2.1 by a
-- rule of this project's own: the interframe gap is one part of 96 ticks, which later carrier doesn't restart.
use Rattle.std.specs.Prelude.{ℕ, ◌-◌, ◌==◌, Bool, false, not, ◌&&◌, nat_lt, if◌then◌else◌}
use Rattle.t1s_mac.specs.declared.deference.Deference.{Deference}
use Rattle.t1s_mac.specs.declared.deference.Deference.TheVariants.{Free, Busy, Gap}

-- how many ticks an interframe gap lasts, once it has begun, whatever the carrier
abbrev pub interframe_gap : ℕ
interframe_gap = 96

-- whether a frame may start in a tick: in Free where there is no carrier, and in the gap's last tick, also with
-- carrier
abbrev pub may_start : Deference → Bool → Bool
may_start Free carrier = not carrier
may_start Busy carrier = false
may_start (Gap left) carrier = left == 1

-- deference after a tick, by the carrier, by whether the MAC began the tick in Sending or Jamming, and by
-- whether a frame starts in it
abbrev pub deference_step : Deference → Bool → Bool → Bool → Deference
deference_step Free carrier sending started =
    if started then Busy
    else if carrier then Busy
    else Free
deference_step Busy carrier sending started =
    if started then Busy
    else if not carrier && not sending then Gap interframe_gap
    else Busy
deference_step (Gap left) carrier sending started =
    if started then Busy
    else if nat_lt 1 left then Gap (left - 1)
    else if carrier then Busy
    else Free
