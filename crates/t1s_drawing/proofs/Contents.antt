-- Texts of well-formed content.
use Rattle.std.proofs.Common.{◌≡◌, ℕ, zero, suc, ◌%◌, ◌/◌, ◌<◌, ◌==◌, Bool, true, false, List, [], ◌∷◌, ◌++◌, codes, decimal, refl, sym, ap, ◌∙◌, arith, append_assoc, take, cond}
use Rattle.std.specs.List.{list_all}
use Rattle.std.specs.Fmt.{digit_glyph, digits, digits_onto}
use Rattle.std.proofs.lemmas.List.{append-nil}
use Rattle.std.specs.Cmp.Derive.{both_true}
use Rattle.t1s_drawing.specs.ReadLines.{is_line_octet, is_plain}
use Rattle.t1s_drawing.specs.Xml.{Attribute, Content, Empty, Characters, Element, IsContent, IsWellFormed, are_attributes, attributes_text, content_text, is_character, is_in_value, is_name}

-- ---- characters

pub all-append : (test : ℕ → Bool) (a b : List ℕ) → list_all test a ≡ true → list_all test b ≡ true → list_all test (a ++ b) ≡ true
all-append test [] b h k = k
all-append test (x ∷ a) b h k = let rest = all-append test a b (grind arith) k in grind arith

pub all-take : (test : ℕ → Bool) (n : ℕ) (xs : List ℕ) → list_all test xs ≡ true → list_all test (take n xs) ≡ true
all-take test zero xs h = refl
all-take test (suc n) [] h = refl
all-take test (suc n) (x ∷ xs) h = let rest = all-take test n xs (grind arith) in grind arith

-- what passes one test passes another
pub all-weaker : (p q : ℕ → Bool) → ((x : ℕ) → p x ≡ true → q x ≡ true) → (xs : List ℕ) → list_all p xs ≡ true → list_all q xs ≡ true
all-weaker p q h [] all = refl
all-weaker p q h (x ∷ xs) all = let here = h x (grind arith) in let rest = all-weaker p q h xs (grind arith) in grind arith

glyph_in_value : (d : ℕ) → d < 10 → is_in_value (digit_glyph false d) ≡ true
glyph_in_value d small = grind arith

digits_in_value : (k n : ℕ) (acc : List ℕ) → list_all is_in_value acc ≡ true → list_all is_in_value (digits_onto k 10 false n acc) ≡ true
digits_in_value zero n acc h = h
digits_in_value (suc k) n acc h =
    let here : is_in_value (digit_glyph false (n % 10)) ≡ true = glyph_in_value (n % 10) (omega arith) in
    let more : list_all is_in_value (digit_glyph false (n % 10) ∷ acc) ≡ true = both_true here h in
    elim (n / 10 == 0) as (λ b. list_all is_in_value (cond b (digit_glyph false (n % 10) ∷ acc) (digits_onto k 10 false (n / 10) (digit_glyph false (n % 10) ∷ acc))) ≡ true) [
      | true ↦ more
      | false ↦ digits_in_value k (n / 10) (digit_glyph false (n % 10) ∷ acc) more
    ]

-- the digits of a number
pub decimal_in_value : (n : ℕ) → list_all is_in_value (decimal n) ≡ true
unfolding digits
decimal_in_value n = digits_in_value 64 n [] refl

value_is_character : (x : ℕ) → is_in_value x ≡ true → is_character x ≡ true
value_is_character x h = grind arith

pub decimal_characters : (n : ℕ) → list_all is_character (decimal n) ≡ true
decimal_characters n = all-weaker is_in_value is_character value_is_character (decimal n) (decimal_in_value n)

line_is_character : (x : ℕ) → is_line_octet x ≡ true → is_character x ≡ true
line_is_character x h = grind arith

-- the octets of a plain line
pub plain_characters : (line : List ℕ) → is_plain line ≡ true → list_all is_character line ≡ true
plain_characters line h = all-weaker is_line_octet is_character line_is_character line h

-- ---- content after content

joined : Content → Content → Content
joined Empty d = d
joined (Characters octets more) d = Characters octets (joined more d)
joined (Element name attributes inner more) d = Element name attributes inner (joined more d)

joined_formed : (c d : Content) → IsWellFormed c → IsWellFormed d → IsWellFormed (joined c d)
unfolding joined
joined_formed Empty d h k = k
joined_formed (Characters octets more) d h k = (h.0, joined_formed more d h.1 k)
joined_formed (Element name attributes inner more) d h k = (h.0, h.1, h.2, joined_formed more d h.3 k)

joined_text : (c d : Content) → content_text (joined c d) ≡ content_text c ++ content_text d
unfolding joined
joined_text Empty d = refl
joined_text (Characters octets more) d = ap (λ t. octets ++ t) (joined_text more d) ∙ sym (append_assoc octets (content_text more) (content_text d))
joined_text (Element name attributes inner more) d =
    ap (λ t. codes "<" ++ (name ++ (attributes_text attributes ++ (codes ">" ++ (content_text inner ++ (codes "</" ++ (name ++ (codes ">" ++ t)))))))) (joined_text more d)
    ∙ simp append_assoc refl

pub content_none : IsContent []
content_none = record { content = Empty; formed = tt; is = refl }

pub content_then : (a b : List ℕ) → IsContent a → IsContent b → IsContent (a ++ b)
content_then a b h k = record {
  content = joined h.content k.content;
  formed = joined_formed h.content k.content h.formed k.formed;
  is = rw (joined_text h.content k.content, h.is, k.is) refl;
}

pub content_characters : (octets : List ℕ) → list_all is_character octets ≡ true → IsContent octets
content_characters octets h = record { content = Characters octets Empty; formed = (h, tt); is = sym (append-nil octets) }

pub content_element : (name : List ℕ) (attributes : List Attribute) (inner : List ℕ) → is_name name ≡ true → are_attributes attributes ≡ true → IsContent inner →
    IsContent (codes "<" ++ (name ++ (attributes_text attributes ++ (codes ">" ++ (inner ++ (codes "</" ++ (name ++ codes ">")))))))
content_element name attributes inner n a h = record {
  content = Element name attributes h.content Empty;
  formed = (n, a, h.formed, tt);
  is = rw h.is refl;
}
