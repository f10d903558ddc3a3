-- The value of a wire at a tick is that of its last change at or before it.
use Rattle.std.specs.Prelude.{ℕ, ◌&&◌, Bool, List, [], ◌∷◌, nat_le, if◌then◌else◌}
use Rattle.std.specs.Str.{bytes_eq}
use Rattle.t1s_waveform.specs.Dumps.{Item, Time, Change, Vector}

-- the value after a change of the wire of code `c` at the time `now`, which is at or before the tick or after it
abbrev pub changed : List ℕ → ℕ → ℕ → List ℕ → List Bool → List Bool → List Bool
changed code tick now c value before = if nat_le now tick && bytes_eq c code then value else before

-- the value of the wire of a code at a tick, where the items begin at the time `now` and it had this value before
abbrev pub value_from : List ℕ → ℕ → ℕ → List Bool → List Item → List Bool
value_from code tick now before [] = before
value_from code tick now before (Time t ∷ items) = value_from code tick t before items
value_from code tick now before (Change value c ∷ items) = value_from code tick now (changed code tick now c (value ∷ []) before) items
value_from code tick now before (Vector values c ∷ items) = value_from code tick now (changed code tick now c values before) items

-- the bits of the wire of a code at a tick: none, where it has not had a value yet
abbrev pub value_at : List Item → List ℕ → ℕ → List Bool
value_at items code tick = value_from code tick 0 [] items
