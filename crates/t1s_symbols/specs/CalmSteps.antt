-- A machine that takes one step after the other, and for how many steps it is calm: what a calm step is, each machine
-- says for itself. What n steps leave is std's `iterate`.
use Rattle.std.specs.Prelude.{ℕ, ◌<◌, ◌≤◌}
use Rattle.std.specs.Fn.{iterate}

-- the first n steps are calm; `Calm` says of a state that the step from it is calm
abbrev pub AreCalm : {A : Type 0} → (A → A) → (A → Type 0) → A → ℕ → Type 0
AreCalm step Calm start n = (k : ℕ) → k < n → Calm (iterate step k start)

-- n is the greatest number up to `most` of which this holds: it is `most`, or the step after the n steps isn't calm
pub record IsCalmFor {A : Type 0} (step : A → A) (Calm : A → Type 0) (start : A) (most n : ℕ) : Type 0 where
  pub within : n ≤ most
  pub calm : AreCalm step Calm start n
  pub ends : n < most → Calm (iterate step n start) → ⊥
