-- XML: elements with attributes, one in another, and characters between them.
use Rattle.std.specs.Prelude.{◌≡◌, ℕ, ◌==◌, ◌&&◌, ◌||◌, Bool, true, false, not, List, [], ◌∷◌, ◌++◌, nat_le, codes}
use Rattle.std.specs.List.{list_all, list_any}
use Rattle.std.specs.Str.{bytes_eq}

-- an attribute: its name and its value
pub record Attribute : Type 0 where
  pub name : List ℕ
  pub value : List ℕ

-- what stands between the start and the end of an element: nothing, or characters and then more, or an element with what
-- stands in it, and then more
pub data Content : Type 0 where
  Empty : Content
  Characters : List ℕ → Content → Content
  Element : List ℕ → List Attribute → Content → Content → Content

-- ---- the text

abbrev pub attributes_text : List Attribute → List ℕ
attributes_text [] = []
attributes_text (a ∷ attributes) = codes " " ++ (a.name ++ (codes "='" ++ (a.value ++ (codes "'" ++ attributes_text attributes))))

abbrev pub content_text : Content → List ℕ
content_text Empty = []
content_text (Characters octets more) = octets ++ content_text more
content_text (Element name attributes inner more) =
    codes "<" ++ (name ++ (attributes_text attributes ++ (codes ">" ++ (content_text inner ++ (codes "</" ++ (name ++ (codes ">" ++ content_text more)))))))

-- ---- which content is well formed

-- a printable ASCII character or a line feed, and none of < > &
abbrev pub is_character : ℕ → Bool
is_character octet = (octet == 10 || nat_le 32 octet && nat_le octet 126) && not (octet == 60) && not (octet == 62) && not (octet == 38)

-- and not the quote that ends a value
abbrev pub is_in_value : ℕ → Bool
is_in_value octet = is_character octet && not (octet == 39)

-- a name: small letters, one at least
abbrev pub is_letter : ℕ → Bool
is_letter octet = nat_le 97 octet && nat_le octet 122

abbrev pub is_name : List ℕ → Bool
is_name [] = false
is_name (octet ∷ octets) = list_all is_letter (octet ∷ octets)

-- each attribute has a name that none after it has, and a value of characters that end no value
abbrev pub are_attributes : List Attribute → Bool
are_attributes [] = true
are_attributes (a ∷ attributes) =
    is_name a.name && list_all is_in_value a.value && not (list_any (λ (b : Attribute). bytes_eq a.name b.name) attributes) && are_attributes attributes

abbrev pub IsWellFormed : Content → Type 0
IsWellFormed Empty = Unit {0}
IsWellFormed (Characters octets more) = (list_all is_character octets ≡ true) × IsWellFormed more
IsWellFormed (Element name attributes inner more) = (is_name name ≡ true) × (are_attributes attributes ≡ true) × IsWellFormed inner × IsWellFormed more

-- the text of well-formed content
pub record IsContent (text : List ℕ) : Type 0 where
  pub content : Content
  pub formed : IsWellFormed content
  pub is : text ≡ content_text content

-- the text of one element, and a line feed
pub record IsDocument (text : List ℕ) : Type 0 where
  pub name : List ℕ
  pub attributes : List Attribute
  pub inner : Content
  pub formed : IsWellFormed (Element name attributes inner Empty)
  pub is : text ≡ content_text (Element name attributes inner Empty) ++ codes "\n"
