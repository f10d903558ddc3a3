-- What a contract sees of a cable.
use Rattle.std.specs.Prelude.{ℕ, List, Option}
use Rattle.t1s_harness.specs.declared.Tap.{Tap}
use Rattle.t1s_symbols.specs.declared.Quarter.{Quarter}
use Rattle.circular_buffer.specs.Buffer.{Buffer}
use Rattle.t1s_cable.specs.declared.changes.Change.{Change}

-- where the nodes hang, what they drive in the current tick, by what number this tick goes, and the changes of each before it
pub record CableState : Type 0 where
  pub taps : List Tap
  pub row : List (Option Quarter)
  pub clock : ℕ
  pub rings : List (Buffer Change)
