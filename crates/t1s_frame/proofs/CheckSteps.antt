-- A table step an octet: the steps of bits are linear over exclusive-or.
use Rattle.std.proofs.Common.{◌≡◌, ℕ, zero, suc, ◌*◌, ◌/◌, ◌%◌, ◌^◌, ◌<◌, cond, eqb, List, [], ◌∷◌, ◌++◌, replicate, refl, sym, ap, ◌∙◌, arith, append_assoc, append-nil}
use Rattle.std.proofs.Math.Nat.{pow-suc, mul-one}
use Rattle.std.proofs.lemmas.List.Sums.{fold-append}
use Rattle.std.proofs.lemmas.Nat.{shr_split}
use Rattle.std.specs.Int.Bits.{bit_xor, xor_shr, xor_mod, xor_assoc, xor_comm, xor_self, xor_shifted, xor_zero_r, shifted_half, shifted_even}
use Rattle.std.specs.List.{fold}
use Rattle.t1s_frame.specs.FrameCheck.{check_bit, low_bits, octet_bits, polynomial}

-- of three numbers, the last two exchanged
xor_swap : (a b c : ℕ) → bit_xor (bit_xor a b) c ≡ bit_xor (bit_xor a c) b
xor_swap a b c = xor_assoc a b c ∙ ap (bit_xor a) (xor_comm b c) ∙ sym (xor_assoc a c b)

-- of two pairs, the same number cancels
xor_both : (a b c : ℕ) → bit_xor (bit_xor a c) (bit_xor b c) ≡ bit_xor a b
xor_both a b c =
    xor_swap a c (bit_xor b c) ∙ ap (λ x. bit_xor x c) (sym (xor_assoc a b c)) ∙ xor_assoc (bit_xor a b) c c
    ∙ ap (bit_xor (bit_xor a b)) (xor_self c) ∙ xor_zero_r (bit_xor a b)

-- a step by its digits: the bit that enters may be put into the remainder first
enter : (a b h k : ℕ) → a < 2 → b < 2
    → cond (eqb (bit_xor a b) 0) (bit_xor h k) (bit_xor (bit_xor h k) polynomial) ≡ bit_xor (cond (eqb a b) h (bit_xor h polynomial)) k
enter zero zero h k _ _ = refl
enter zero (suc zero) h k _ _ = xor_swap h k polynomial
enter (suc zero) zero h k _ _ = xor_swap h k polynomial
enter (suc zero) (suc zero) h k _ _ = refl
enter zero (suc (suc b)) h k _ below = absurd (omega arith)
enter (suc zero) (suc (suc b)) h k _ below = absurd (omega arith)
enter (suc (suc a)) b h k below _ = absurd (omega arith)

-- a step by its digits, of two remainders at once
both : (a b h k : ℕ) → a < 2 → b < 2
    → cond (eqb (bit_xor a b) 0) (bit_xor h k) (bit_xor (bit_xor h k) polynomial)
    ≡ bit_xor (cond (eqb a 0) h (bit_xor h polynomial)) (cond (eqb b 0) k (bit_xor k polynomial))
both zero zero h k _ _ = refl
both zero (suc zero) h k _ _ = xor_assoc h k polynomial
both (suc zero) zero h k _ _ = xor_swap h k polynomial
both (suc zero) (suc zero) h k _ _ = sym (xor_both h k polynomial)
both zero (suc (suc b)) h k _ below = absurd (omega arith)
both (suc zero) (suc (suc b)) h k _ below = absurd (omega arith)
both (suc (suc a)) b h k below _ = absurd (omega arith)

check_bit-enters : (r x : ℕ) → check_bit (bit_xor r x) 0 ≡ bit_xor (check_bit r (x % 2)) (x / 2)
check_bit-enters r x =
    rw (xor_mod r x 1, xor_shr r x 1) (enter (r % 2) (x % 2) (r / 2) (x / 2) (omega arith) (omega arith))

check_bit-linear : (a b : ℕ) → check_bit (bit_xor a b) 0 ≡ bit_xor (check_bit a 0) (check_bit b 0)
check_bit-linear a b =
    rw (xor_mod a b 1, xor_shr a b 1) (both (a % 2) (b % 2) (a / 2) (b / 2) (omega arith) (omega arith))

-- the bits of x enter one by one, or all at once
fold-enters : (n r x : ℕ) → x < 2 ^ n → fold check_bit r (low_bits n x) ≡ fold check_bit (bit_xor r x) (replicate n 0)
fold-enters zero r x below =
    let none : x ≡ 0 = omega arith in rw none (sym (xor_zero_r r))
fold-enters (suc n) r x below =
    let half : x / 2 < 2 ^ n = omega (arith, pow-suc 2 n) in
    fold-enters n (check_bit r (x % 2)) (x / 2) half
    ∙ ap (λ s. fold check_bit s (replicate n 0)) (sym (check_bit-enters r x))

-- steps of bits 0 are linear
fold-linear : (n a b : ℕ) → fold check_bit (bit_xor a b) (replicate n 0)
    ≡ bit_xor (fold check_bit a (replicate n 0)) (fold check_bit b (replicate n 0))
fold-linear zero a b = refl
fold-linear (suc n) a b =
    ap (λ s. fold check_bit s (replicate n 0)) (check_bit-linear a b) ∙ fold-linear n (check_bit a 0) (check_bit b 0)

-- steps of bits 0 only shift a number whose low bits are 0
fold-shifts : (n h : ℕ) → fold check_bit (h * 2 ^ n) (replicate n 0) ≡ h
fold-shifts zero h = mul-one h
fold-shifts (suc n) h =
    ap (λ s. fold check_bit s (replicate n 0)) (rw (shifted_even h n, shifted_half h n) refl) ∙ fold-shifts n h

-- an octet enters by a look-up of eight bits and a shift
pub fold-octet : (r x : ℕ) → x < 256
    → fold check_bit r (low_bits 8 x)
    ≡ bit_xor (fold check_bit (bit_xor r x % 256) (replicate 8 0)) (r / 256)
fold-octet r x below =
    fold-enters 8 r x below ∙ ap (λ s. fold check_bit s (replicate 8 0)) (sym split) ∙ fold-linear 8 (high * 2 ^ 8) low
    ∙ ap (λ s. bit_xor s (fold check_bit low (replicate 8 0))) (fold-shifts 8 high)
    ∙ xor_comm high (fold check_bit low (replicate 8 0)) ∙ ap (bit_xor (fold check_bit low (replicate 8 0))) upper
  where
    high : ℕ
    high = bit_xor r x / 256

    low : ℕ
    low = bit_xor r x % 256

    split : bit_xor (high * 2 ^ 8) low ≡ bit_xor r x
    split = xor_shifted high 8 low (omega arith) ∙ shr_split (bit_xor r x) 8

    upper : high ≡ r / 256
    upper = xor_shr r x 8 ∙ (let none : x / 2 ^ 8 ≡ 0 = omega arith in rw none (xor_zero_r (r / 2 ^ 8)))

octet_bits-append : (xs ys : List ℕ) → octet_bits (xs ++ ys) ≡ octet_bits xs ++ octet_bits ys
octet_bits-append [] ys = refl
octet_bits-append (x ∷ xs) ys =
    ap (λ bits. low_bits 8 x ++ bits) (octet_bits-append xs ys) ∙ sym (append_assoc (low_bits 8 x) (octet_bits xs) (octet_bits ys))

-- one octet more
pub fold-octet_bits-push : (r : ℕ) (xs : List ℕ) (x : ℕ)
    → fold check_bit r (octet_bits (xs ++ x ∷ [])) ≡ fold check_bit (fold check_bit r (octet_bits xs)) (low_bits 8 x)
fold-octet_bits-push r xs x =
    ap (fold check_bit r) (octet_bits-append xs (x ∷ [])) ∙ fold-append check_bit r (octet_bits xs) (octet_bits (x ∷ []))
    ∙ ap (fold check_bit (fold check_bit r (octet_bits xs))) (append-nil (low_bits 8 x))
