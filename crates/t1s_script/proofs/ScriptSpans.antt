-- How far two nodes of a valid script are apart at most.
use Rattle.std.proofs.Common.{◌≡◌, ℕ, suc, ◌<◌, ◌≤◌, List, [], ◌∷◌, All, map, arith}
use Rattle.t1s_harness.specs.Distances.{farthest, span}
use Rattle.t1s_harness.specs.declared.Tap.{Tap}
use Rattle.t1s_script.specs.Limits.{longest_stub, most_span}
use Rattle.t1s_script.specs.Script.{IsNodeLine}
use Rattle.t1s_script.specs.Taps.{tap_of}
use Rattle.t1s_script.specs.declared.script.NodeLine.{NodeLine}

farthest-small : (a : Tap) (ns : List NodeLine) → a.place ≤ 255 → a.stub ≤ longest_stub → All IsNodeLine ns → farthest a (map tap_of ns) ≤ most_span
farthest-small a [] place stub h = omega arith
farthest-small a (n ∷ ns) place stub h =
    let here : IsNodeLine n = h 0 n (omega arith) in
    let rest : All IsNodeLine ns = λ k d l. h (suc k) d (omega arith) in
    omega (arith, place, stub, here.place_high, here.stub_high, farthest-small a ns place stub rest)

pub span-small : (ns : List NodeLine) → All IsNodeLine ns → span (map tap_of ns) ≤ most_span
span-small [] h = omega arith
span-small (n ∷ ns) h =
    let here : IsNodeLine n = h 0 n (omega arith) in
    let rest : All IsNodeLine ns = λ k d l. h (suc k) d (omega arith) in
    omega (arith, farthest-small (tap_of n) ns here.place_high here.stub_high rest, span-small ns rest)
