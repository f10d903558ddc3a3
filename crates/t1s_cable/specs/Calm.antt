-- The ticks that come where nothing more is put, and those of them in which nothing is heard.
use Rattle.std.specs.Prelude.{◌≡◌, ◌≢◌, ℕ, ◌-◌, ◌<◌, nat_lt, List, ◌++◌, Option, None, length, replicate, if◌then◌else◌}
use Rattle.t1s_harness.specs.declared.Tap.{Tap}
use Rattle.t1s_symbols.specs.declared.Heard.TheVariants.{Nothing}
use Rattle.t1s_symbols.specs.declared.Quarter.{Quarter}
use Rattle.t1s_world.specs.Hearing.{heard}
use Rattle.t1s_world.specs.World.{at_depth}
use Rattle.t1s_cable.specs.Stands.{no_puts}

-- the rows of what was put, n ticks later, where nothing is put in any of these
unfoldable pub after_silence : List Tap → ℕ → List (List (Option Quarter)) → List (List (Option Quarter))
after_silence taps n rows = replicate n (no_puts taps) ++ rows

-- the same of what node i drove d ticks ago
abbrev pub later : ℕ → (ℕ → ℕ → Option Quarter) → ℕ → ℕ → Option Quarter
later n at i d = if nat_lt d n then None else at i (d - n)

-- no node at these taps hears anything
abbrev pub AllHearNothing : List Tap → (ℕ → ℕ → Option Quarter) → Type 0
AllHearNothing taps at = (j : ℕ) → j < length taps → heard at taps j ≡ Nothing

-- one of them hears something
abbrev pub OneHears : List Tap → (ℕ → ℕ → Option Quarter) → Type 0
OneHears taps at = (j : ℕ) × (j < length taps) × (heard at taps j ≢ Nothing)

-- the current tick of this history is silent at each node, or is not
abbrev pub IsCalm : List Tap → List (List (Option Quarter)) → Type 0
IsCalm taps rows = AllHearNothing taps (at_depth rows)

abbrev pub IsHeardIn : List Tap → List (List (Option Quarter)) → Type 0
IsHeardIn taps rows = OneHears taps (at_depth rows)
