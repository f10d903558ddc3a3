-- Taps from a list of places and a list of stubs.
use Rattle.std.proofs.Common.{◌≡◌, ℕ, zero, suc, ◌+◌, ◌<◌, ◌≤◌, List, [], ◌∷◌, ◌++◌, length, get_or, take, refl, ap, arith}
use Rattle.t1s_harness.specs.declared.Tap.{Tap}
use Rattle.t1s_harness.specs.Distances.{farthest, span}
use Rattle.t1s_cable.specs.Taps.{most_span, most_stub, taps_of}

pub length-taps_of : (places stubs : List ℕ) → length stubs ≡ length places → length (taps_of places stubs) ≡ length places
length-taps_of [] stubs e = refl
length-taps_of (p ∷ places) [] e = absurd (omega (arith, e))
length-taps_of (p ∷ places) (s ∷ stubs) e = ap suc (length-taps_of places stubs (omega (arith, e)))

-- one more tap
pub taps_of-more : (places stubs : List ℕ) (i : ℕ) → i < length places → length stubs ≡ length places
    → taps_of (take (i + 1) places) (take (i + 1) stubs)
    ≡ taps_of (take i places) (take i stubs) ++ (record { place = get_or places i 0; stub = get_or stubs i 0 } ∷ [])
taps_of-more [] stubs i lt e = absurd (omega (arith, lt))
taps_of-more (p ∷ places) [] i lt e = absurd (omega (arith, e))
taps_of-more (p ∷ places) (s ∷ stubs) zero lt e = refl
taps_of-more (p ∷ places) (s ∷ stubs) (suc i) lt e =
    let next : suc i + 1 ≡ suc (i + 1) = omega arith in
    let first : Tap = record { place = p; stub = s } in
    rw next (ap (λ (r : List Tap). first ∷ r) (taps_of-more places stubs i (omega (arith, lt)) (omega (arith, e))))

-- each tap is on the trunk, and at most at the end of the longest stub
abbrev Fits : Tap → Type 0
Fits tap = (tap.place < 256) × (tap.stub ≤ most_stub)

abbrev EachFits : List Tap → Type 0
EachFits [] = Unit {0}
EachFits (tap ∷ taps) = Fits tap × EachFits taps

farthest-short : (a : Tap) (taps : List Tap) → Fits a → EachFits taps → farthest a taps ≤ most_span
farthest-short a [] fits each = omega arith
farthest-short a (b ∷ taps) fits each = omega (arith, fits.0, fits.1, each.0.0, each.0.1, farthest-short a taps fits each.1)

span-short : (taps : List Tap) → EachFits taps → span taps ≤ most_span
span-short [] each = omega arith
span-short (a ∷ taps) each = omega (arith, farthest-short a taps each.0 each.1, span-short taps each.1)

each_fits : (places stubs : List ℕ) → length stubs ≡ length places → ((i : ℕ) → i < length places → get_or places i 0 < 256)
    → ((i : ℕ) → i < length stubs → get_or stubs i 0 ≤ most_stub) → EachFits (taps_of places stubs)
each_fits [] stubs e low short = tt
each_fits (p ∷ places) [] e low short = absurd (omega (arith, e))
each_fits (p ∷ places) (s ∷ stubs) e low short = (
  (low 0 (omega arith), short 0 (omega arith)),
  each_fits places stubs (omega (arith, e)) (λ i lt. low (suc i) (omega (arith, lt))) (λ i lt. short (suc i) (omega (arith, lt))),
)

pub span-taps_of : (places stubs : List ℕ) → length stubs ≡ length places → ((i : ℕ) → i < length places → get_or places i 0 < 256)
    → ((i : ℕ) → i < length stubs → get_or stubs i 0 ≤ most_stub) → span (taps_of places stubs) ≤ most_span
span-taps_of places stubs e low short = span-short (taps_of places stubs) (each_fits places stubs e low short)
