-- Events that are told one after another, and the first tick at which something holds.
use Rattle.std.specs.Option.{option_or}
use Rattle.std.specs.Prelude.{◌≡◌, ◌↔◌, ℕ, zero, suc, ◌+◌, ◌<◌, Bool, true, List, [], ◌∷◌, ◌++◌, Option, Some, None, if◌then◌else◌}

module _ {W E : Type 0} where
  -- a watch w that is told these events, one after another, may become v
  abbrev pub SeesEvents : (W → E → W → Type 0) → W → List E → W → Type 0
  SeesEvents sees w [] v = v ≡ w
  SeesEvents sees w (e ∷ es) v = (u : W) × sees w e u × SeesEvents sees u es v

-- the events of all ticks below t, the oldest tick first
unfoldable pub events_below : {E : Type 0} → (ℕ → List E) → ℕ → List E
events_below events zero = []
events_below events (suc t) = events_below events t ++ events t

-- the first number below t that passes a test
unfoldable pub first_below : (ℕ → Bool) → ℕ → Option ℕ
first_below p zero = None
first_below p (suc t) = option_or (first_below p t) (if p t then Some t else None)

-- how many numbers below t pass a test
unfoldable pub count_below : (ℕ → Bool) → ℕ → ℕ
count_below p zero = 0
count_below p (suc t) = count_below p t + (if p t then 1 else 0)

-- n is how many numbers below t have the property P: a test passes exactly those, and n numbers below t pass it
pub record IsNumberBelow (P : ℕ → Type 0) (t n : ℕ) : Type 0 where
  pub test : ℕ → Bool
  pub exact : (u : ℕ) → u < t → (test u ≡ true) ↔ P u
  pub count : n ≡ count_below test t
