-- Which nodes have a pulse in the latest tick.
use Rattle.std.specs.Prelude.{Bool, true, false, replicate, slice_set, if◌then◌else◌}
use Rattle.t1s_drawing.specs.declared.report.Event.{Event}
use Rattle.t1s_drawing.specs.declared.report.Happening.{Happening}
use Rattle.t1s_drawing.specs.declared.report.Happening.TheVariants.{InStep, LostStep, Beacon, Commit, Quiet, Leave, Hears}
use Rattle.t1s_drawing.specs.declared.pulses.Pulses.{Pulses}

-- all but what a node drives and hears, and its status
abbrev pub is_pulse : Happening → Bool
is_pulse Beacon = false
is_pulse Commit = false
is_pulse (Leave number) = false
is_pulse Quiet = false
is_pulse InStep = false
is_pulse LostStep = false
is_pulse (Hears what) = false
is_pulse _ = true

abbrev pub no_pulses : Pulses
no_pulses = record { nodes = replicate 32 false; any = false }

-- those that are left where time may have gone on
abbrev pub pulses_left : Pulses → Bool → Pulses
pulses_left pulses moved = if moved then no_pulses else pulses

-- with that of the event, if it has one
abbrev pub risen : Pulses → Event → Pulses
risen pulses event = if is_pulse event.what then record { nodes = slice_set pulses.nodes event.node true; any = true } else pulses
