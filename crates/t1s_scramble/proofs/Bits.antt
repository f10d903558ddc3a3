-- Bits of numbers, and numbers of bits.
use Rattle.std.proofs.Common.{◌≡◌, refl, ℕ, zero, suc, ◌+◌, ◌*◌, ◌/◌, ◌%◌, ◌^◌, ◌<◌, ◌≤◌, ◌==◌, Bool, true, false, List, [], ◌∷◌, get_or, if◌then◌else◌, ◌∙◌, ap, arith}
use Rattle.std.specs.Prelude.{bit_and, bit_xor}
use mathlib.Core.Bool.{xor}
use Rattle.std.specs.Int.{bit_at}
use Rattle.std.proofs.lemmas.Bool.{agree_below_at, eqb-true}
use Rattle.std.proofs.lemmas.Nat.{shr-shr}
use Rattle.std.proofs.lemmas.Nat.Bits.{bit_at-lt, bit_at_xor, bit_at_and, bit_at_ones, bit_at-suc, bit_at-zero, bit_at_lowest}
use Rattle.t1s_scramble.specs.Bits.{bit, bits_of, number_of}

odd_sum : (x y : ℕ) → x < 2 → y < 2 → ((x + y) % 2 == 1) ≡ xor (x == 1) (y == 1)
unfolding xor
odd_sum zero zero h k = refl
odd_sum zero (suc zero) h k = refl
odd_sum (suc zero) zero h k = refl
odd_sum (suc zero) (suc zero) h k = refl
odd_sum (suc (suc x)) y h k = absurd (omega arith)
odd_sum zero (suc (suc y)) h k = absurd (omega arith)
odd_sum (suc zero) (suc (suc y)) h k = absurd (omega arith)

pub bit-xor : (a b i : ℕ) → bit (bit_xor a b) i ≡ xor (bit a i) (bit b i)
bit-xor a b i = ap (λ n. n == 1) (bit_at_xor a b i) ∙ odd_sum (bit_at a i) (bit_at b i) (bit_at-lt a i) (bit_at-lt b i)

-- the low four bits of a number
pub bit-low : (a i : ℕ) → i < 4 → bit (bit_and a 15) i ≡ bit a i
bit-low a i h =
    let one : bit_at 15 i ≡ 1 = bit_at_ones 4 i h in
    let small : bit_at a i < 2 = bit_at-lt a i in
    let e : bit_at (bit_and a 15) i ≡ bit_at a i = bit_at_and a 15 i ∙ rw one (omega arith) in
    ap (λ n. n == 1) e

pub bit-shr : (a k i : ℕ) → bit (a / 2 ^ k) i ≡ bit a (k + i)
bit-shr a k i = ap (λ n. n % 2 == 1) (shr-shr a k i)

pub number_of-bits_of : (n : ℕ) → n < 16 → number_of (bits_of n) ≡ n
unfolding bits_of
number_of-bits_of n h =
    eqb-true (number_of (bits_of n)) n (agree_below_at (λ k. number_of (bits_of k) == k) (λ _. true) 16 n refl h)

halved : (b : Bool) (n : ℕ) → ((if b then 1 else 0) + 2 * n) / 2 ≡ n
halved true n = omega arith
halved false n = omega arith

lowest : (b : Bool) (n : ℕ) → (((if b then 1 else 0) + 2 * n) % 2 == 1) ≡ b
lowest true n = let e : (1 + 2 * n) % 2 ≡ 1 = omega arith in ap (λ k. k == 1) e
lowest false n = let e : (0 + 2 * n) % 2 ≡ 0 = omega arith in ap (λ k. k == 1) e

pub bit-number_of : (bs : List Bool) (i : ℕ) → bit (number_of bs) i ≡ get_or bs i false
bit-number_of [] i = ap (λ n. n == 1) (bit_at-zero i)
bit-number_of (b ∷ bs) zero = ap (λ n. n == 1) (bit_at_lowest (number_of (b ∷ bs))) ∙ lowest b (number_of bs)
bit-number_of (b ∷ bs) (suc i) =
    ap (λ n. n == 1) (bit_at-suc (number_of (b ∷ bs)) i) ∙ ap (λ n. bit n i) (halved b (number_of bs)) ∙ bit-number_of bs i

one_at_most : (b : Bool) → (if b then 1 else 0) ≤ 1
one_at_most true = omega arith
one_at_most false = omega arith

pub number_of-below : (a b c d : Bool) → number_of (a ∷ b ∷ c ∷ d ∷ []) < 16
number_of-below a b c d = omega (arith, one_at_most a, one_at_most b, one_at_most c, one_at_most d)

pub same_bits : {a b c d e f g h : Bool} → a ≡ e → b ≡ f → c ≡ g → d ≡ h
    → a ∷ b ∷ c ∷ d ∷ [] ≡ e ∷ f ∷ g ∷ h ∷ []
same_bits p q r s = cc

pub bits_of-number_of : (a b c d : Bool) → bits_of (number_of (a ∷ b ∷ c ∷ d ∷ [])) ≡ a ∷ b ∷ c ∷ d ∷ []
unfolding bits_of
bits_of-number_of a b c d =
    let bs : List Bool = a ∷ b ∷ c ∷ d ∷ [] in
    same_bits (bit-number_of bs 0) (bit-number_of bs 1) (bit-number_of bs 2) (bit-number_of bs 3)
