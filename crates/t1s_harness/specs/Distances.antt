-- Where nodes hang on the pair, and how far a signal has to go between them, in whole bit times.
use Rattle.std.specs.Prelude.{ℕ, ◌+◌, ◌-◌, ◌≤◌, max, List, [], ◌∷◌, get_or, ◌==◌, if◌then◌else◌}
use Rattle.std.specs.Int.{abs_diff}
use native.Mathlib.Nat.{le_refl}
use Rattle.t1s_harness.specs.declared.Tap.{Tap}

-- the way between two nodes: along the trunk, and along the stub of each
abbrev pub between : Tap → Tap → ℕ
between a b = abs_diff a.place b.place + a.stub + b.stub

-- where a node hangs that isn't there
abbrev pub no_tap : Tap
no_tap = record { place = 0; stub = 0 }

abbrev pub tap_at : List Tap → ℕ → Tap
tap_at taps i = get_or taps i no_tap

-- the distance of nodes i and j: a node is at no distance from itself, however long its stub is
abbrev pub distance : List Tap → ℕ → ℕ → ℕ
distance taps i j = if i == j then 0 else between (tap_at taps i) (tap_at taps j)

-- the greatest distance of a node from one of these; 0 where there is none
abbrev pub farthest : Tap → List Tap → ℕ
farthest a [] = 0
farthest a (b ∷ rest) = max (between a b) (farthest a rest)

-- the greatest distance of two of these nodes; 0 where there are fewer than two
abbrev pub span : List Tap → ℕ
span [] = 0
span (a ∷ rest) = max (farthest a rest) (span rest)

-- a point of the cable: a place of the trunk, or a depth of a node's stub, counted from the trunk
pub data Point (taps : List Tap) : Type 0 where
  on_trunk : ℕ → Point taps
  on_stub : (k depth : ℕ) → depth ≤ (tap_at taps k).stub → Point taps

-- how far node i is from a point of the cable
abbrev pub far : (taps : List Tap) → ℕ → Point taps → ℕ
far taps i (on_trunk p) = abs_diff (tap_at taps i).place p + (tap_at taps i).stub
far taps i (on_stub k depth inside) =
    if i == k then (tap_at taps k).stub - depth
    else abs_diff (tap_at taps i).place (tap_at taps k).place + (tap_at taps i).stub + depth

-- the point at which node i is: the end of its stub
abbrev pub point_at : (taps : List Tap) → ℕ → Point taps
point_at taps i = on_stub i (tap_at taps i).stub (le_refl (tap_at taps i).stub)
