-- A cable stands for a history of what was put on it.
use Rattle.std.specs.Prelude.{◌≡◌, ℕ, suc, ◌-◌, ◌<◌, List, [], ◌∷◌, Option, None, length, replicate}
use Rattle.t1s_harness.specs.Distances.{span}
use Rattle.t1s_harness.specs.declared.Tap.{Tap}
use Rattle.t1s_symbols.specs.declared.Quarter.{Quarter}
use Rattle.circular_buffer.specs.Buffer.{Buffer}
use Rattle.t1s_world.specs.World.{at_depth}
use Rattle.t1s_cable.specs.declared.changes.Change.{Change}
use Rattle.t1s_cable.specs.Changes.{drove, ring_at}
use Rattle.t1s_cable.specs.State.{CableState}

-- the row of a tick in which nothing is put yet
abbrev pub no_puts : List Tap → List (Option Quarter)
no_puts taps = replicate (length taps) None

-- the rings tell what was driven in the ticks before this one, as many as `room`
abbrev pub TellsRows : ℕ → ℕ → List (Buffer Change) → List (List (Option Quarter)) → Type 0
TellsRows room clock rings rows = (i d : ℕ) → i < length rings → d < room → drove (ring_at rings i).items (clock - suc d) ≡ at_depth rows i d

-- of the rows of what was put, one for each tick, the newest first: the first is the row of the current tick,
-- and of each node is kept what it drove in as many ticks before as the cable spans. So the puts of the last
-- `span + 1` ticks are there, as far back as any node is away
abbrev pub Stands : List (List (Option Quarter)) → CableState → Type 0
Stands [] c = ⊥
Stands (row ∷ past) c = (c.row ≡ row) × TellsRows (span c.taps) c.clock c.rings past
