-- Where the nodes of a cable hang, from the list of their places and the list of their stubs.
use Rattle.std.specs.Prelude.{ℕ, List, [], ◌∷◌}
use Rattle.t1s_harness.specs.declared.Tap.{Tap}

-- the longest stub, in ticks
abbrev pub most_stub : ℕ
most_stub = 31

-- the longest span: two nodes at the ends of the longest trunk, each at the end of the longest stub
abbrev pub most_span : ℕ
most_span = 317

-- node by node: its place on the trunk, and the length of its stub
abbrev pub taps_of : List ℕ → List ℕ → List Tap
taps_of [] stubs = []
taps_of (place ∷ places) [] = []
taps_of (place ∷ places) (stub ∷ stubs) = record { place = place; stub = stub } ∷ taps_of places stubs
