-- Digits and what they are worth.
use Rattle.std.proofs.Common.{◌≡◌, ℕ, zero, suc, ◌+◌, ◌-◌, ◌*◌, ◌^◌, ◌<◌, ◌≤◌, Bool, true, false, not, nat_le, None, List, [], ◌∷◌, ◌++◌, length, get_or, rules, Some, refl, sym, ap, ◌∙◌, arith, length-append, add-one}
use Rattle.std.proofs.Math.Nat.{pow-suc}
use Rattle.std.specs.List.{list_all}
use Rattle.std.specs.Char.{is_ascii_digit}
use Rattle.std.specs.Fmt.{decimal}
use Rattle.std.specs.Cmp.Derive.{both_true}
use Rattle.std.proofs.lemmas.Bool.{cond-true}
use Rattle.std.proofs.lemmas.Option.{cond_some}
use borrow.Author.Tests.{leb-true, le-leb}
use Rattle.std.proofs.lemmas.Str.Parse.{IsDigitsTest, WeighsDigits, IsNumeralModel, numerals_by_weight, digits_value_short}
use Rattle.std.proofs.lemmas.Fmt.{digits_decimal, digits_value-decimal, decimal-digits_value, length-decimal-le, decimal_nonempty, first_decimal, decimal_digit}
use Rattle.t1s_base.specs.Numbers.{has_leading_zero, is_number, value_of, number_of}

-- a test that all pass is passed at each place
pub list_all-get_or : (test : ℕ → Bool) (xs : List ℕ) (i : ℕ) → list_all test xs ≡ true → i < length xs → test (get_or xs i 0) ≡ true
list_all-get_or test [] i all below = absurd (omega arith)
list_all-get_or test (x ∷ xs) zero all below = grind arith
list_all-get_or test (x ∷ xs) (suc i) all below = list_all-get_or test xs i (grind arith) (omega arith)

-- an octet that is a digit lies from 48 to 57
pub digit_range : (octet : ℕ) → is_ascii_digit octet ≡ true → (48 ≤ octet) × (octet ≤ 57)
digit_range octet h = grind arith

-- a digit at the end
pub value_of-push : (digits : List ℕ) (digit : ℕ) → value_of (digits ++ digit ∷ []) ≡ 10 * value_of digits + (digit - 48)
value_of-push [] digit = omega arith
value_of-push (d ∷ ds) digit =
    let longer : 10 ^ length (ds ++ digit ∷ []) ≡ 10 ^ length ds * 10 = ap (λ k. 10 ^ k) (length-append ds (digit ∷ []) ∙ add-one (length ds)) ∙ pow-suc 10 (length ds) in
    let rest = value_of-push ds digit in
    rw (longer, rest) (omega arith)

-- ---- the one text of a number

digits_alone : IsDigitsTest (λ ds. list_all is_ascii_digit ds ≡ true)
digits_alone = search rules

worth : WeighsDigits value_of
worth = search rules

own : IsNumeralModel (λ ds. list_all is_ascii_digit ds ≡ true) value_of
own = numerals_by_weight _ digits_alone value_of worth

no_leading_zero : (text : List ℕ) → 48 < get_or text 0 0 → has_leading_zero text ≡ false
no_leading_zero [] h = refl
no_leading_zero (d ∷ []) h = refl
no_leading_zero (d ∷ e ∷ ds) h = grind arith

decimal_no_zero : (n : ℕ) → n < 10 ^ 10 → has_leading_zero (decimal n) ≡ false
decimal_no_zero zero small = ap has_leading_zero (decimal_digit 0 (omega arith))
decimal_no_zero (suc n) small = no_leading_zero (decimal (suc n)) (first_decimal (suc n) (omega arith) (omega arith))

-- the text that is written for a number is read as that number
pub number_of-decimal : (n : ℕ) → n < 10 ^ 10 → number_of (decimal n) ≡ Some n
number_of-decimal n small =
    let fits : n < 2 ^ 64 = omega arith in
    let some : nat_le 1 (length (decimal n)) ≡ true = le-leb _ _ (decimal_nonempty n fits) in
    let few : nat_le (length (decimal n)) 10 ≡ true = le-leb _ _ (length-decimal-le 10 n (omega arith) small fits) in
    let form = both_true (both_true (both_true some few) (digits_decimal own n fits)) (ap not (decimal_no_zero n small)) in
    cond-true (is_number (decimal n)) (Some (value_of (decimal n))) None form ∙ ap Some (digits_value-decimal own n fits)

one_zero : (text : List ℕ) → has_leading_zero text ≡ false → 0 < length text → get_or text 0 0 ≡ 48 → length text ≡ 1
one_zero [] h some zero_first = absurd (omega arith)
one_zero (d ∷ []) h some zero_first = refl
one_zero (d ∷ e ∷ ds) h some zero_first = grind arith

-- what a text that is a number looks like
record HasForm (text : List ℕ) : Type 0 where
  some : nat_le 1 (length text) ≡ true
  few : nat_le (length text) 10 ≡ true
  digits : list_all is_ascii_digit text ≡ true
  no_zero : has_leading_zero text ≡ false

form_of : (text : List ℕ) → is_number text ≡ true → HasForm text
form_of text h = record { some = grind arith; few = grind arith; digits = grind arith; no_zero = grind arith }

-- no other text is read as that number
pub decimal-number_of : (text : List ℕ) (n : ℕ) → number_of text ≡ Some n → text ≡ decimal n
decimal-number_of text n h =
    let found = cond_some (is_number text) (value_of text) n h in
    let form = form_of text found.0 in
    let some : 0 < length text = leb-true _ _ form.some in
    let few : length text ≤ 10 = leb-true _ _ form.few in
    let small : value_of text < 10 ^ 10 = digits_value_short own text 10 form.digits few in
    sym (decimal-digits_value own text form.digits some (one_zero text form.no_zero some) (omega arith)) ∙ ap decimal found.1
