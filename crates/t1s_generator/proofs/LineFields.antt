-- Fields of lines, and how a line and a text of lines are cut.
use Rattle.std.proofs.Common.{◌≡◌, ℕ, zero, suc, ◌*◌, ◌^◌, ◌<◌, ◌≤◌, Bool, true, false, List, [], ◌∷◌, ◌++◌, length, All, refl, ap, ◌∙◌, arith, length-append}
use Rattle.std.specs.Prelude.{◌==◌, ◌&&◌, nat_lt, nat_le, not, decimal}
use Rattle.std.specs.List.{list_all, join_with_byte}
use Rattle.std.specs.Cmp.{first_so, second_so}
use Rattle.std.specs.Cmp.Derive.{both_true}
use Rattle.std.proofs.lemmas.Bool.Decides.{nat_tests}
use Rattle.std.proofs.lemmas.Option.{cond_some}
use Rattle.std.proofs.lemmas.List.Elements.{All-cons, All-nil, All-append}
use Rattle.std.proofs.lemmas.List.Splits.{slice_split_at, slice_split_none}
use Rattle.std.proofs.lemmas.List.Sums.{list_all-from_AllPass}
use borrow.Author.Tests.{leb-true}
use Rattle.hex.specs.Hex.{encode_lower, is_hex_digit, IsBytes}
use Rattle.hex.proofs.HexLemmas.{decode_of-encode_lower, decode_of-ok}
use Rattle.std.specs.Char.{is_ascii_digit}
use Rattle.t1s_base.specs.Numbers.{is_number, value_of, has_leading_zero}
use Rattle.t1s_base.proofs.Digits.{number_of-decimal}
use Rattle.t1s_script.specs.Lines.{fields_of, without_empty_last}

-- ---- one field

-- each octet is above a space, and there are at most twenty
pub record IsField (text : List ℕ) : Type 0 where
  pub octets : list_all (λ x. nat_lt 32 x) text ≡ true
  pub short : length text ≤ 20

implied : (p q : ℕ → Bool) → ((x : ℕ) → p x ≡ true → q x ≡ true) → (xs : List ℕ) → list_all p xs ≡ true → list_all q xs ≡ true
implied p q h [] e = refl
implied p q h (x ∷ xs) e = both_true (h x (first_so (p x) (list_all p xs) e)) (implied p q h xs (second_so (p x) (list_all p xs) e))

digit_above : (x : ℕ) → is_ascii_digit x ≡ true → nat_lt 32 x ≡ true
digit_above x h = grind (arith, nat_tests)

-- of four tests that all hold, the second and the third
middle_hold : (a b c d : Bool) → (a && b && c && d) ≡ true → (b ≡ true) × (c ≡ true)
middle_hold a b c d h =
    let first_three = first_so (a && b && c) d h in
    (second_so a b (first_so (a && b) c first_three), second_so (a && b) c first_three)

pub decimal_field : (n : ℕ) → n < 10 ^ 10 → IsField (decimal n)
decimal_field n small =
    let form : is_number (decimal n) ≡ true = (cond_some (is_number (decimal n)) (value_of (decimal n)) n (number_of-decimal n small)).0 in
    let parts =
    middle_hold (nat_le 1 (length (decimal n))) (nat_le (length (decimal n)) 10) (list_all is_ascii_digit (decimal n)) (not (has_leading_zero (decimal n))) form in
    let few : length (decimal n) ≤ 10 = leb-true (length (decimal n)) 10 parts.0 in
    record { octets = implied is_ascii_digit (λ x. nat_lt 32 x) digit_above (decimal n) parts.1; short = omega arith }

hex_above : (x : ℕ) → is_hex_digit x ≡ true → nat_lt 32 x ≡ true
hex_above x h = grind (arith, nat_tests)

pub one_byte : (octet : ℕ) → octet < 256 → IsBytes (octet ∷ [])
one_byte octet small zero = small
one_byte octet small (suc i) = omega arith

pub hex_field : (octet : ℕ) → octet < 256 → IsField (encode_lower (octet ∷ []))
hex_field octet small =
    let parts = decode_of-ok (encode_lower (octet ∷ [])) (octet ∷ []) (decode_of-encode_lower (octet ∷ []) (one_byte octet small)) in
    let size : length (encode_lower (octet ∷ [])) ≡ 2 * 1 = parts.2 in
    record {
      octets = implied is_hex_digit (λ x. nat_lt 32 x) hex_above (encode_lower (octet ∷ [])) (list_all-from_AllPass is_hex_digit (encode_lower (octet ∷ [])) parts.1);
      short = omega arith;
    }

-- ---- the fields of a line

abbrev pub AreFields : List (List ℕ) → Type 0
AreFields [] = Unit {0}
AreFields (text ∷ texts) = IsField text × AreFields texts

abbrev Lacks : ℕ → List ℕ → Type 0
Lacks octet text = All (λ x. (x == octet) ≡ false) text

above_lacks : (octet : ℕ) (text : List ℕ) → octet ≤ 32 → list_all (λ x. nat_lt 32 x) text ≡ true → Lacks octet text
above_lacks octet [] low h = All-nil (λ x. (x == octet) ≡ false)
above_lacks octet (x ∷ xs) low h =
    All-cons (λ y. (y == octet) ≡ false) x xs (other x (first_so (nat_lt 32 x) (list_all (λ y. nat_lt 32 y) xs) h))
    (above_lacks octet xs low (second_so (nat_lt 32 x) (list_all (λ y. nat_lt 32 y) xs) h))
  where
    other : (y : ℕ) → nat_lt 32 y ≡ true → (y == octet) ≡ false
    other y test = grind (arith, nat_tests)

-- a line is cut into its fields
pub fields_cut : (first : List ℕ) (rest : List (List ℕ)) → AreFields (first ∷ rest) → fields_of (join_with_byte 32 (first ∷ rest)) ≡ first ∷ rest
fields_cut first [] h = slice_split_none (λ x. x == 32) first (above_lacks 32 first (omega arith) h.0.octets)
fields_cut first (next ∷ rest) h =
    slice_split_at (λ x. x == 32) first 32 (join_with_byte 32 (next ∷ rest)) (above_lacks 32 first (omega arith) h.0.octets) refl
    ∙ ap (λ fs. first ∷ fs) (fields_cut next rest h.1)

-- a line has no line feed, and each field adds 21 octets at most
pub joined_lacks : (fields : List (List ℕ)) → AreFields fields → All (λ x. (x == 10) ≡ false) (join_with_byte 32 fields)
joined_lacks [] h = All-nil (λ x. (x == 10) ≡ false)
joined_lacks (first ∷ []) h = above_lacks 10 first (omega arith) h.0.octets
joined_lacks (first ∷ next ∷ rest) h =
    All-append (λ x. (x == 10) ≡ false) first (32 ∷ join_with_byte 32 (next ∷ rest)) (above_lacks 10 first (omega arith) h.0.octets)
    (All-cons (λ x. (x == 10) ≡ false) 32 (join_with_byte 32 (next ∷ rest)) refl (joined_lacks (next ∷ rest) h.1))

pub joined_short : (fields : List (List ℕ)) → AreFields fields → length (join_with_byte 32 fields) ≤ 21 * length fields
joined_short [] h = omega arith
joined_short (first ∷ []) h = omega (arith, h.0.short)
joined_short (first ∷ next ∷ rest) h =
    omega (arith, h.0.short, joined_short (next ∷ rest) h.1, length-append first (32 ∷ join_with_byte 32 (next ∷ rest)))

-- ---- the lines of a text

-- lines that each end with a line feed
pub lines_whole : (lines : List (List ℕ)) → without_empty_last (lines ++ [] ∷ []) ≡ lines
lines_whole [] = refl
lines_whole (line ∷ []) = refl
lines_whole (line ∷ next ∷ lines) = ap (λ ls. line ∷ ls) (lines_whole (next ∷ lines))
