-- The register: what its two taps give, and what a push leaves.
use Rattle.std.proofs.Common.{◌≡◌, refl, ℕ, zero, suc, ◌+◌, ◌*◌, ◌/◌, ◌%◌, ◌^◌, ◌<◌, ◌≤◌, ◌==◌, Bool, true, false, List, ◌∷◌, take, sym, ◌∙◌, ap, arith}
use Rattle.std.specs.Prelude.{bit_and, bit_or, bit_xor}
use mathlib.Core.Bool.{xor}
use Rattle.std.specs.Int.{bit_at}
use Rattle.std.proofs.lemmas.Nat.{xor_lt, and_le_r, or_shifted}
use Rattle.std.proofs.lemmas.Nat.Bits.{bit_at_cat_low, bit_at_cat_high}
use Rattle.t1s_scramble.specs.Bits.{bit, bits_of, number_of}
use Rattle.t1s_scramble.specs.Scrambled.{scrambled, descrambled, history_after, start_history}
use Rattle.t1s_scramble.specs.Register.{bits_below, history_of}
use Rattle.t1s_scramble.proofs.Bits.{bit-xor, bit-low, bit-shr, number_of-bits_of, same_bits}

-- the four bits that the code makes of a nibble
abbrev pub tapped : ℕ → ℕ → ℕ
tapped r nibble = bit_xor nibble (bit_and (bit_xor r (r / 8)) 15)

xor_turned : (a b c : Bool) → xor a (xor b c) ≡ xor (xor a c) b
unfolding xor
xor_turned true true true = refl
xor_turned true true false = refl
xor_turned true false true = refl
xor_turned true false false = refl
xor_turned false true true = refl
xor_turned false true false = refl
xor_turned false false true = refl
xor_turned false false false = refl

tap : (r n i : ℕ) → i < 4 → bit (tapped r n) i ≡ xor (xor (bit n i) (bit r (3 + i))) (bit r i)
tap r n i h =
    bit-xor n (bit_and (bit_xor r (r / 8)) 15) i
    ∙ ap (xor (bit n i)) (bit-low (bit_xor r (r / 8)) i h ∙ bit-xor r (r / 8) i ∙ ap (xor (bit r i)) (bit-shr r 3 i))
    ∙ xor_turned (bit n i) (bit r i) (bit r (3 + i))

pub tapped-below : (r n : ℕ) → n < 16 → tapped r n < 16
tapped-below r n h =
    let low : bit_and (bit_xor r (r / 8)) 15 < 2 ^ 4 = omega (arith, and_le_r (bit_xor r (r / 8)) 15) in
    xor_lt 4 n (bit_and (bit_xor r (r / 8)) 15) h low

taps : (r n : ℕ) → bits_of (tapped r n) ≡ scrambled (history_of r) (bits_of n)
unfolding bits_of scrambled history_of
taps r n =
    same_bits (tap r n 0 (omega arith)) (tap r n 1 (omega arith)) (tap r n 2 (omega arith)) (tap r n 3 (omega arith))

-- the bits of 14 and 17 bits ago are none of the four, so both lists begin with the same four
pub same_four : (past : List Bool) (n : ℕ) → scrambled past (bits_of n) ≡ descrambled past (bits_of n)
unfolding bits_of scrambled descrambled
same_four past n = refl

pub tapped_is : (r n : ℕ) → n < 16 → tapped r n ≡ number_of (scrambled (history_of r) (bits_of n))
tapped_is r n h = sym (number_of-bits_of (tapped r n) (tapped-below r n h)) ∙ ap number_of (taps r n)

-- the register after a push
abbrev pub pushed : ℕ → ℕ → ℕ
pushed r nibble = bit_or (nibble * 8192 % 4294967296) (r / 16)

pub pushed_is : (r n : ℕ) → r < 2 ^ 17 → n < 16 → pushed r n ≡ n * 2 ^ 13 + r / 16
pushed_is r n h k =
    let whole : n * 8192 % 4294967296 ≡ n * 8192 = omega arith in
    let low : r / 16 < 2 ^ 13 = omega arith in
    rw whole (or_shifted n 13 (r / 16) low)

low_bits : (m n lo : ℕ) → m ≤ 13 → bits_below m (n * 2 ^ 13 + lo) ≡ bits_below m lo
low_bits zero n lo h = refl
low_bits (suc m) n lo h =
    let e : bit (n * 2 ^ 13 + lo) m ≡ bit lo m = ap (λ x. x == 1) (bit_at_cat_low n 13 lo m (omega arith)) in
    let es = low_bits m n lo (omega arith) in
    cc

shifted : (r m k : ℕ) → k ≡ m + 4 → take m (bits_below k r) ≡ bits_below m (r / 16)
shifted r zero k h = refl
shifted r (suc m) zero h = absurd (omega arith)
shifted r (suc m) (suc k) h =
    let e : k ≡ 4 + m = omega arith in
    let here : bit r k ≡ bit (r / 16) m = ap (bit r) e ∙ sym (bit-shr r 4 m) in
    let below = shifted r m k (omega arith) in
    cc

high_bit : (n lo i : ℕ) → lo < 2 ^ 13 → bit (n * 2 ^ 13 + lo) (13 + i) ≡ bit n i
high_bit n lo i h = ap (λ x. x == 1) (bit_at_cat_high n 13 lo (13 + i) h (omega arith) ∙ ap (bit_at n) (omega arith))

joined : {a b c d e f g h : Bool} {xs ys : List Bool} → a ≡ e → b ≡ f → c ≡ g → d ≡ h → xs ≡ ys
    → a ∷ b ∷ c ∷ d ∷ xs ≡ e ∷ f ∷ g ∷ h ∷ ys
joined p q r s t = cc

pub history-pushed : (r n : ℕ) → r < 2 ^ 17 → n < 16 → history_of (pushed r n) ≡ history_after (history_of r) (bits_of n)
unfolding bits_of history_of history_after
history-pushed r n h k =
    let low : r / 16 < 2 ^ 13 = omega arith in
    let rest : bits_below 13 (n * 2 ^ 13 + r / 16) ≡ take 13 (bits_below 17 r)
    = low_bits 13 n (r / 16) (omega arith) ∙ sym (shifted r 13 17 refl) in
    let a = high_bit n (r / 16) 3 low in
    let b = high_bit n (r / 16) 2 low in
    let c = high_bit n (r / 16) 1 low in
    let d = high_bit n (r / 16) 0 low in
    ap (bits_below 17) (pushed_is r n h k) ∙ joined a b c d rest

pub history-start : history_of 0 ≡ start_history
unfolding history_of start_history
history-start = refl
