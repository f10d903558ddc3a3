-- What is kept of the puts on a cable: the row of the current tick, and each node's changes before it.
use Rattle.std.specs.Prelude.{◌≡◌, ℕ, zero, suc, ◌+◌, ◌-◌, ◌<◌, List, length, get_or, Option, None, IfSome}
use Rattle.t1s_symbols.specs.Ranges.{IsQuarter}
use Rattle.circular_buffer.specs.Buffer.{Buffer}
use Rattle.t1s_symbols.specs.declared.Quarter.{Quarter}
use Rattle.t1s_cable.specs.declared.changes.Change.{Change}
use Rattle.t1s_cable.specs.Changes.{IsRing, drove, ring_at}

-- what node i drove d ticks ago, in the tick `clock`: the row of the current tick stands beside the rings
abbrev pub put_at : List (Option Quarter) → List (Buffer Change) → ℕ → ℕ → ℕ → Option Quarter
put_at row rings clock i zero = get_or row i None
put_at row rings clock i (suc d) = drove (ring_at rings i).items (clock - suc d)

-- whatever is put is a quarter in range
abbrev pub AreQuarters : List (Option Quarter) → Type 0
AreQuarters row = (i : ℕ) → IfSome (get_or row i None) IsQuarter

-- the rings of a cable of this reach
abbrev pub AreRings : ℕ → ℕ → List (Buffer Change) → Type 0
AreRings reach clock rings = (i : ℕ) → i < length rings → ((ring_at rings i).capacity ≡ reach + 1) × IsRing clock (ring_at rings i)
