-- A descrambler that has heard seventeen bits is in step.
use Rattle.std.proofs.Common.{◌≡◌, refl, ℕ, zero, suc, ◌+◌, Bool, true, false, List, [], ◌∷◌, get_or, take, drop, sym, ◌∙◌, ap, arith}
use mathlib.Core.Bool.{xor}
use Rattle.t1s_scramble.specs.Scrambled.{mixed, scrambled, descrambled}
use Rattle.t1s_scramble.proofs.Histories.{same-cons, same-mixed}

xor_twice : (d a b : Bool) → xor (xor (xor (xor d a) b) a) b ≡ d
unfolding xor
xor_twice true true true = refl
xor_twice true true false = refl
xor_twice true false true = refl
xor_twice true false false = refl
xor_twice false true true = refl
xor_twice false true false = refl
xor_twice false false true = refl
xor_twice false false false = refl

mixed_twice : (p q : List Bool) (d : Bool) → take 17 p ≡ take 17 q → mixed q (mixed p d) ≡ d
mixed_twice p q d h =
    sym (same-mixed p q (mixed p d) h) ∙ xor_twice d (get_or p 13 false) (get_or p 16 false)

-- with the same newest seventeen bits on both sides every bit is right
pub in_step : (p q ds : List Bool) → take 17 p ≡ take 17 q → descrambled q (scrambled p ds) ≡ ds
unfolding scrambled descrambled
in_step p q [] h = refl
in_step p q (d ∷ ds) h =
    let here : mixed q (mixed p d) ≡ d = mixed_twice p q d h in
    let rest : descrambled (mixed p d ∷ q) (scrambled (mixed p d ∷ p) ds) ≡ ds
    = in_step (mixed p d ∷ p) (mixed p d ∷ q) ds (same-cons (mixed p d) (mixed p d) p q refl h) in
    cc

-- with the same newest n bits every bit is right after the next 17 - n
falls_in : (m n : ℕ) → m + n ≡ 17 → (p q ds : List Bool) → take n p ≡ take n q
    → drop m (descrambled q (scrambled p ds)) ≡ drop m ds
unfolding scrambled descrambled
falls_in zero n e p q ds h =
    let whole : n ≡ 17 = omega arith in
    in_step p q ds (rw (← whole) h)
falls_in (suc m) n e p q [] h = refl
falls_in (suc m) n e p q (d ∷ ds) h =
    falls_in m (suc n) (omega arith) (mixed p d ∷ p) (mixed p d ∷ q) ds (ap (λ xs. mixed p d ∷ xs) h)

pub finds_step : (heard sent bits : List Bool) → drop 17 (descrambled heard (scrambled sent bits)) ≡ drop 17 bits
finds_step heard sent bits = falls_in 17 0 refl sent heard bits refl
