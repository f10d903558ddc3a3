-- What a node hears on the cable: the quarter of each other node, as late as that node is far away.
use Rattle.std.specs.Prelude.{ℕ, ◌+◌, List, [], ◌∷◌, ◌++◌, Option, None, Some, ◌==◌, if◌then◌else◌}
use Rattle.std.specs.Option.{option_to_list}
use Rattle.t1s_harness.specs.declared.Tap.{Tap}
use Rattle.t1s_harness.specs.Distances.{between, tap_at}
use Rattle.t1s_symbols.specs.declared.Heard.{Heard}
use Rattle.t1s_symbols.specs.declared.Heard.TheVariants.{Nothing, One, Many}
use Rattle.t1s_symbols.specs.declared.Quarter.{Quarter}

-- what is heard where these quarters arrive in one tick: none is Nothing, one is One of it, more are Many
abbrev pub heard_of : List Quarter → Heard
heard_of [] = Nothing
heard_of (q ∷ []) = One q
heard_of (q ∷ r ∷ qs) = Many

-- what is heard when one more node may drive
abbrev pub heard_with : Heard → Option Quarter → Heard
heard_with h None = h
heard_with Nothing (Some q) = One q
heard_with (One p) (Some q) = Many
heard_with Many (Some q) = Many

-- the quarter by which node i, which hangs at b, reaches node j, which hangs at a, if there is one. A node
-- doesn't hear itself. `at i d` is what node i drove d ticks ago
abbrev pub arriving : (ℕ → ℕ → Option Quarter) → ℕ → Tap → ℕ → Tap → Option Quarter
arriving at j a i b = if i == j then None else at i (between a b)

-- the quarters that reach node j, which hangs at a, from the nodes i, i + 1, .. that hang at these taps
abbrev pub arriving_from : (ℕ → ℕ → Option Quarter) → ℕ → Tap → ℕ → List Tap → List Quarter
arriving_from at j a i [] = []
arriving_from at j a i (b ∷ rest) = option_to_list (arriving at j a i b) ++ arriving_from at j a (i + 1) rest

-- what node j of a cable with these taps hears
unfoldable pub heard : (ℕ → ℕ → Option Quarter) → List Tap → ℕ → Heard
heard at taps j = heard_of (arriving_from at j (tap_at taps j) 0 taps)
