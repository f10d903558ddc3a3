-- Drives: the maximal intervals of ticks in which one node drives.
use Rattle.std.specs.Prelude.{◌≡◌, ℕ, suc, ◌<◌, ◌≤◌, Option, IsSome, IsNone}
use Rattle.t1s_symbols.specs.declared.Quarter.{Quarter}

-- of a node that drives `driven t` in tick t of a run with the ticks below `end`: it drives in each tick
-- from `start` on and below `stop`, not in the tick before, and not in the tick `stop` if the run has it
pub record IsDrive (driven : ℕ → Option Quarter) (end start stop : ℕ) : Type 0 where
  pub some : start < stop
  pub within : stop ≤ end
  pub all : (t : ℕ) → start ≤ t → t < stop → IsSome (driven t)
  pub before : (t : ℕ) → suc t ≡ start → IsNone (driven t)
  pub after : stop < end → IsNone (driven stop)
