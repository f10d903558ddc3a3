-- Counts that stop at the end of their type, and faults that have a cause.
use Rattle.std.specs.Prelude.{ℕ, ◌≡◌, ◌≤◌, ◌+◌, ◌-◌, ◌^◌, min, max, Result, OnOk, OnErr}

-- one more, where the count has not reached 18446744073709551615: there it stays
abbrev pub count_after_fault : ℕ → ℕ
count_after_fault count = max count (min (count + 1) (2 ^ 64 - 1))

-- the count is greater than before, or stands at 18446744073709551615
abbrev pub FaultCountRose : ℕ → ℕ → Type 0
FaultCountRose before after = min (before + 1) (2 ^ 64 - 1) ≤ after

-- What a call does to the count of faults of the object that it is made on. The count never falls,
-- a refusal comes only where it rose, and Ok leaves it as it was.
pub record HasCause {T E : Type 0} (before after : ℕ) (result : Result T E) : Type 0 where
  pub later : before ≤ after
  pub failed : OnErr result (FaultCountRose before after)
  pub kept : OnOk result (after ≡ before)
