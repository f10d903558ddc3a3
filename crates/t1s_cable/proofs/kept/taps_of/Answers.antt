use Rattle.std.proofs.Common.{◌≡◌, ℕ, ◌<◌, ◌≤◌, arith, length, get_or, rules}
use Rattle.std.proofs.lemmas.List.{take_all}
use Rattle.t1s_cable.specs.Taps.{taps_of}
use Rattle.t1s_cable.proofs.Taps.{span-taps_of, taps_of-more}
use Rattle.t1s_cable.proofs.kept.taps_of.Goals as goal

pub loop-i-preserved : goal.loop-i-preserved
loop-i-preserved c =
    rw (taps_of-more c.args.places.now c.args.stubs.now c.loop-i.i c.loop-i-test.true c.requires.paired, ← c.loop-i.invariant) (search rules)

pub returns-clause-short : goal.returns-clause-short
returns-clause-short c =
    let places = c.args.places.now in
    let stubs = c.args.stubs.now in
    let all : length places ≤ c.loop-i.i = omega arith in
    let also : length stubs ≤ c.loop-i.i = omega (arith, c.requires.paired) in
    let low : (i : ℕ) → i < length places → get_or places i 0 < 256 = λ i lt. omega (arith, c.type_inv.places i) in
    let whole : c.loop-i.taps.items ≡ taps_of places stubs = rw (take_all, take_all) at c.loop-i.invariant in
    rw whole (span-taps_of places stubs c.requires.paired low (λ i lt. c.requires.stubs i 0 lt))
