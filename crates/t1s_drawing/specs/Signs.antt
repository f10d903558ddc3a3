-- The events that a picture shows as words, and how many of them stand at each node in the latest tick: those of one tick stand side by
-- side.
use Rattle.std.specs.Prelude.{ℕ, ◌+◌, Bool, true, false, replicate, nat_lt, get_or, slice_set, if◌then◌else◌}
use Rattle.t1s_drawing.specs.declared.report.Event.{Event}
use Rattle.t1s_drawing.specs.declared.report.Happening.{Happening}
use Rattle.t1s_drawing.specs.declared.report.Happening.TheVariants.{Taken, Full, Off, InStep, LostStep, Jam, Drop}
use Rattle.t1s_drawing.specs.declared.signs.Signs.{Signs}

abbrev pub is_sign : Happening → Bool
is_sign (Taken number) = true
is_sign (Full number) = true
is_sign (Off number) = true
is_sign InStep = true
is_sign LostStep = true
is_sign (Jam number) = true
is_sign (Drop number) = true
is_sign _ = false

abbrev pub no_signs : Signs
no_signs = record { counts = replicate 32 0 }

-- those that are left where time may have gone on
abbrev pub signs_left : Signs → Bool → Signs
signs_left signs moved = if moved then no_signs else signs

-- how many stand beside that of the event, before it
abbrev pub beside : Signs → Event → ℕ
beside signs event = if is_sign event.what then get_or signs.counts event.node 0 else 0

-- 64 places are side by side, and what is more stands in the last of them
abbrev pub one_more : ℕ → ℕ
one_more count = if nat_lt count 63 then count + 1 else count

-- with that of the event, if it has one
abbrev pub with_sign : Signs → Event → Signs
with_sign signs event = if is_sign event.what then record { counts = slice_set signs.counts event.node (one_more (get_or signs.counts event.node 0)) } else signs
