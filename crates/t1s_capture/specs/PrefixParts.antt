-- What octets that begin a capture are made of.
use Rattle.std.specs.Prelude.{◌≡◌, ℕ, ◌<◌, List, [], ◌∷◌, ◌++◌, take, All}
use Rattle.t1s_base.specs.Limits.{most_nodes}
use Rattle.t1s_grammar.specs.Prefixes.{Beginning}
use Rattle.t1s_capture.specs.declared.stage.CountSoFar.{CountSoFar}
use Rattle.t1s_capture.specs.declared.stage.CountSoFar.TheVariants.{Nothing, One, Two, Three}
use Rattle.t1s_capture.specs.Captures.{CaptureItem, Gap, Torn, IsItemList, begun_text, magic, symbol_octets}

-- the octets of a count that is begun
abbrev pub counted_octets : CountSoFar → List ℕ
counted_octets Nothing = []
counted_octets (One a) = a ∷ []
counted_octets (Two a b) = a ∷ b ∷ []
counted_octets (Three a b c) = a ∷ b ∷ c ∷ []

-- what stands after the items that are complete
pub data Tail : Type 0 where
  -- a gap with some octets of its count
  in_gap : (count : CountSoFar) → Tail
  -- the symbols of a burst so far, or none yet
  in_burst : (symbols : Beginning) → Tail
  -- the symbols of a torn burst, 22, and some octets of its count
  in_blur : (symbols : Beginning) → (count : CountSoFar) → Tail
  -- nothing, where the last item is a torn burst
  after_torn : Tail
  -- the end of the capture
  ended : Tail

abbrev pub tail_octets : Tail → List ℕ
tail_octets (in_gap count) = 0x20 ∷ counted_octets count
tail_octets (in_burst b) = symbol_octets b
tail_octets (in_blur b count) = symbol_octets b ++ 0x22 ∷ counted_octets count
tail_octets after_torn = []
tail_octets ended = 0x21 ∷ []

abbrev pub AreOctets : List ℕ → Type 0
AreOctets octets = All (λ o. o < 256) octets

-- the items may stand there, with the item that the tail begins
abbrev pub IsTail : List CaptureItem → Tail → Type 0
IsTail items (in_gap count) = IsItemList (items ++ Gap 1 ∷ []) × AreOctets (counted_octets count)
IsTail items (in_burst b) = IsItemList (items ++ Torn b 1 ∷ [])
IsTail items (in_blur b count) = IsItemList (items ++ Torn b 1 ∷ []) × AreOctets (counted_octets count)
IsTail items after_torn =
    IsItemList items × ((before : List CaptureItem) × (b : Beginning) × (n : ℕ) × (items ≡ before ++ Torn b n ∷ []))
IsTail items ended = IsItemList items

-- some octets of the magic, all of them, those and the version, or a header with items and a tail
pub data PrefixParts : Type 0 where
  in_magic : (n : ℕ) → PrefixParts
  at_version : PrefixParts
  at_node : PrefixParts
  with_items : (node : ℕ) → (items : List CaptureItem) → (tail : Tail) → PrefixParts

abbrev pub parts_octets : PrefixParts → List ℕ
parts_octets (in_magic n) = take n magic
parts_octets at_version = magic
parts_octets at_node = magic ++ 0x01 ∷ []
parts_octets (with_items node items tail) = begun_text node items ++ tail_octets tail

abbrev pub ArePartsInRange : PrefixParts → Type 0
ArePartsInRange (in_magic n) = n < 4
ArePartsInRange at_version = Unit {0}
ArePartsInRange at_node = Unit {0}
ArePartsInRange (with_items node items tail) = (node < most_nodes) × IsTail items tail

-- the octets are made of this
pub record AreMadeOf (octets : List ℕ) (parts : PrefixParts) : Type 0 where
  pub in_range : ArePartsInRange parts
  pub text : octets ≡ parts_octets parts
