-- Where the nodes of a script hang, from their places and their stubs.
use Rattle.std.proofs.Common.{◌≡◌, List, [], ◌∷◌, map, refl}
use Rattle.t1s_cable.specs.Taps.{taps_of}
use Rattle.t1s_script.specs.declared.script.NodeLine.{NodeLine}
use Rattle.t1s_line.specs.Runs.{taps_in}

pub taps_are : (lines : List NodeLine) → taps_of (map (λ (n : NodeLine). n.place) lines) (map (λ (n : NodeLine). n.stub) lines) ≡ taps_in lines
taps_are [] = refl
taps_are (n ∷ lines) = let rest = taps_are lines in rw rest refl
