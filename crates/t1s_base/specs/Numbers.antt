-- Decimal numbers in a text. The text that is written for a number is std's `decimal`.
use Rattle.std.specs.Prelude.{ℕ, ◌≡◌, ◌+◌, ◌-◌, ◌*◌, ◌^◌, ◌<◌, Bool, false, not, ◌&&◌, ◌==◌, List, [], ◌∷◌, length, nat_le, Option, Some, None, if◌then◌else◌, decimal}
use Rattle.std.specs.Char.{is_ascii_digit}
use Rattle.std.specs.List.{list_all}

-- a `0` stands before a further octet
abbrev pub has_leading_zero : List ℕ → Bool
has_leading_zero [] = false
has_leading_zero (octet ∷ []) = false
has_leading_zero (octet ∷ next ∷ rest) = octet == 48

-- one to ten decimal digits with no leading zero; `0` itself is a number
abbrev pub is_number : List ℕ → Bool
is_number text = nat_le 1 (length text) && nat_le (length text) 10 && list_all is_ascii_digit text && not (has_leading_zero text)

-- what the digits are worth: each one times ten to the number of digits after it
abbrev pub value_of : List ℕ → ℕ
value_of [] = 0
value_of (digit ∷ digits) = (digit - 48) * 10 ^ length digits + value_of digits

-- the number that the text writes, or none where it is no number
abbrev pub number_of : List ℕ → Option ℕ
number_of text = if is_number text then Some (value_of text) else None

-- Below ten to the tenth, the text that is written for a number is read as that number, and no other text is.
abbrev pub HasOneText : Type 0
HasOneText = ((n : ℕ) → n < 10 ^ 10 → number_of (decimal n) ≡ Some n)
    × ((text : List ℕ) (n : ℕ) → number_of text ≡ Some n → text ≡ decimal n)
