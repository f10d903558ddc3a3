-- What a capture is: the items that a node heard, and the octets that they are written as.
use Rattle.std.specs.Prelude.{◌≡◌, ◌≢◌, ℕ, ◌*◌, ◌+◌, ◌/◌, ◌%◌, ◌^◌, ◌<◌, ◌≤◌, ◌⊎◌, Bool, true, false, List, [], ◌∷◌, ◌++◌, length, map, sum_by, All}
use Rattle.std.specs.List.{flat_map}
use Rattle.t1s_base.specs.Limits.{most_nodes}
use Rattle.t1s_symbols.specs.GroupTable.{group}
use Rattle.t1s_grammar.specs.Burst.{IsBurst}
use Rattle.t1s_grammar.specs.Prefixes.{Beginning, beginning_symbols, IsBeginning, between}

-- One item of a capture. The symbols of an item begin a burst, and are given by what that beginning is made up of.
pub data CaptureItem : Type 0 where
  -- so many ticks of silence
  Gap : (ticks : ℕ) → CaptureItem
  -- the symbols of a burst
  Burst : (symbols : Beginning) → CaptureItem
  -- the symbols with which a burst begins, and the ticks after them that belong to no symbol
  Torn : (symbols : Beginning) → (blur : ℕ) → CaptureItem

-- the beginning of a burst that has no symbol yet
abbrev pub no_symbols : Beginning
no_symbols = between [] 0

-- one octet a symbol: the symbol's group
abbrev pub symbol_octets : Beginning → List ℕ
symbol_octets b = map group (beginning_symbols b)

-- how many symbols these are
abbrev pub symbol_count : Beginning → ℕ
symbol_count b = length (beginning_symbols b)

-- a count of ticks as four octets, the high one first
abbrev pub count_octets : ℕ → List ℕ
count_octets n = n / 16777216 ∷ n / 65536 % 256 ∷ n / 256 % 256 ∷ n % 256 ∷ []

-- the octets of an item: a gap is 20 and its count, a burst its symbols, and a torn burst its symbols, 22 and
-- the count of its blur
unfoldable pub item_octets : CaptureItem → List ℕ
item_octets (Gap n) = 0x20 ∷ count_octets n
item_octets (Burst b) = symbol_octets b
item_octets (Torn b blur) = symbol_octets b ++ 0x22 ∷ count_octets blur

-- how long an item lasts: a symbol lasts four ticks
abbrev pub item_ticks : CaptureItem → ℕ
item_ticks (Gap n) = n
item_ticks (Burst b) = 4 * symbol_count b
item_ticks (Torn b blur) = 4 * symbol_count b + blur

-- a burst that is torn without a symbol, or after symbols that are a burst by themselves, has a blur of at least 1
abbrev pub NeedsBlur : Beginning → Type 0
NeedsBlur b = (beginning_symbols b ≡ []) ⊎ IsBurst (beginning_symbols b)

-- the counts of an item fit their four octets, and its symbols are a burst or begin one
abbrev pub IsItem : CaptureItem → Type 0
IsItem (Gap n) = (1 ≤ n) × (n < 2 ^ 32)
IsItem (Burst b) = IsBeginning b × IsBurst (beginning_symbols b)
IsItem (Torn b blur) = IsBeginning b × (blur < 2 ^ 32) × (NeedsBlur b → 1 ≤ blur)

abbrev pub is_gap : CaptureItem → Bool
is_gap (Gap n) = true
is_gap (Burst b) = false
is_gap (Torn b blur) = false

-- of two items that stand side by side exactly one is a gap
abbrev pub AlternatesFrom : CaptureItem → List CaptureItem → Type 0
AlternatesFrom x [] = Unit {0}
AlternatesFrom x (y ∷ ys) = (is_gap x ≢ is_gap y) × AlternatesFrom y ys

-- gaps and other items alternate; either may be first
abbrev pub Alternates : List CaptureItem → Type 0
Alternates [] = Unit {0}
Alternates (x ∷ xs) = AlternatesFrom x xs

-- the items that a capture may have
pub record IsItemList (items : List CaptureItem) : Type 0 where
  pub each : All IsItem items
  pub alternate : Alternates items

-- the ticks of all items together
abbrev pub ticks_of : List CaptureItem → ℕ
ticks_of items = sum_by item_ticks items

-- what a capture begins with: T1SC in ASCII, the version, and the number of its node
abbrev pub magic : List ℕ
magic = 0x54 ∷ 0x31 ∷ 0x53 ∷ 0x43 ∷ []

abbrev pub header : ℕ → List ℕ
header node = magic ++ 0x01 ∷ node ∷ []

-- a capture so far: the header and these items
abbrev pub begun_text : ℕ → List CaptureItem → List ℕ
begun_text node items = header node ++ flat_map item_octets items

-- a whole capture: 21 ends it
abbrev pub capture_text : ℕ → List CaptureItem → List ℕ
capture_text node items = begun_text node items ++ 0x21 ∷ []

-- the octets are the capture of these items at this node
pub record IsCaptureOf (octets : List ℕ) (node : ℕ) (items : List CaptureItem) : Type 0 where
  pub node_in_range : node < most_nodes
  pub valid : IsItemList items
  pub text : octets ≡ capture_text node items

abbrev pub IsCapture : List ℕ → Type 0
IsCapture octets = (node : ℕ) × (items : List CaptureItem) × IsCaptureOf octets node items

-- no octets are the capture of two item lists or at two nodes
abbrev pub OneReading : Type 0
OneReading = (octets : List ℕ) (node node' : ℕ) (items items' : List CaptureItem) →
    IsCaptureOf octets node items → IsCaptureOf octets node' items' → (node ≡ node') × (items ≡ items')

-- a capture ends where it says so: no capture begins a longer one
abbrev pub EndsItself : Type 0
EndsItself = (octets more : List ℕ) → IsCapture octets → IsCapture (octets ++ more) → more ≡ []

-- some octets may follow, or none, with which the whole is a capture
abbrev pub IsCapturePrefix : List ℕ → Type 0
IsCapturePrefix octets = (rest : List ℕ) × IsCapture (octets ++ rest)
