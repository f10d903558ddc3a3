-- Where octets stop being a capture, and why.
use Rattle.std.specs.Prelude.{◌≡◌, ◌≢◌, ℕ, ◌+◌, ◌^◌, ◌<◌, ◌≤◌, ◌⊎◌, List, [], ◌∷◌, ◌++◌, length, take, slice_index, None, Some}
use Rattle.t1s_symbols.specs.GroupTable.{symbol}
use Rattle.t1s_symbols.specs.declared.Symbol.{Symbol}
use Rattle.t1s_grammar.specs.Prefixes.{Beginning, beginning_symbols, IsTooLong}
use Rattle.t1s_capture.specs.declared.items.Why.{Why}
use Rattle.t1s_capture.specs.declared.items.Why.TheVariants.{Magic, Version, NodeByte, CountZero, GapTwice, Group, Place, BurstLong, Truncated, AfterEnd, TooLong}
use Rattle.t1s_capture.specs.declared.stage.CountSoFar.TheVariants.{Three}
use Rattle.t1s_capture.specs.Captures.{CaptureItem, Gap, NeedsBlur, no_symbols, IsCapture, IsCapturePrefix}
use Rattle.t1s_capture.specs.PrefixParts.{Tail, in_gap, in_burst, in_blur, after_torn, with_items, AreMadeOf}

-- an item or a symbol may be tried: after the header, after an item that is complete, and after a symbol
abbrev pub IsOpenTail : Tail → Type 0
IsOpenTail (in_burst b) = Unit {0}
IsOpenTail after_torn = Unit {0}
IsOpenTail _ = ⊥

pub record IsOpen (octets : List ℕ) : Type 0 where
  pub node : ℕ
  pub items : List CaptureItem
  pub tail : Tail
  pub tried : IsOpenTail tail
  pub made : AreMadeOf octets (with_items node items tail)

-- octets whose last item is a gap, which is complete
pub record EndsWithGap (octets : List ℕ) : Type 0 where
  pub node : ℕ
  pub items : List CaptureItem
  pub ticks : ℕ
  pub made : AreMadeOf octets (with_items node (items ++ Gap ticks ∷ []) (in_burst no_symbols))

-- a count that has to be at least 1, of which three octets are taken and are 0
abbrev pub IsZeroCount : Tail → Type 0
IsZeroCount (in_gap (Three a b c)) = (a ≡ 0) × (b ≡ 0) × (c ≡ 0)
IsZeroCount (in_blur symbols (Three a b c)) = NeedsBlur symbols × (a ≡ 0) × (b ≡ 0) × (c ≡ 0)
IsZeroCount _ = ⊥

pub record EndsInZeros (octets : List ℕ) : Type 0 where
  pub node : ℕ
  pub items : List CaptureItem
  pub tail : Tail
  pub zeros : IsZeroCount tail
  pub made : AreMadeOf octets (with_items node items tail)

-- the octet begins no item, ends none and is no symbol's group
pub record IsUnknown (octet : ℕ) : Type 0 where
  pub no_group : symbol octet ≡ None
  pub no_gap : octet ≢ 0x20
  pub no_end : octet ≢ 0x21
  pub no_torn : octet ≢ 0x22

-- the octets end in symbols of a burst, for which the symbol of this group is one too many
pub record GrowsTooLong (octets : List ℕ) (octet : ℕ) : Type 0 where
  pub node : ℕ
  pub items : List CaptureItem
  pub symbols : Beginning
  pub next : Symbol
  pub made : AreMadeOf octets (with_items node items (in_burst symbols))
  pub group : symbol octet ≡ Some next
  pub too_long : IsTooLong (beginning_symbols symbols) next

-- When a reason holds for an octet, by the octets before it, which begin a capture.
abbrev pub Holds : Why → List ℕ → ℕ → Type 0
Holds TooLong before octet = length before ≡ 2 ^ 30
-- the octet 21 has ended the items before
Holds AfterEnd before octet = IsCapture before
Holds Magic before octet = length before < 4
Holds Version before octet = length before ≡ 4
Holds NodeByte before octet = length before ≡ 5
-- the last octet of a count of 0
Holds CountZero before octet = EndsInZeros before × (octet ≡ 0)
Holds Group before octet = IsOpen before × IsUnknown octet
Holds GapTwice before octet = EndsWithGap before × (octet ≡ 0x20)
Holds BurstLong before octet = GrowsTooLong before octet
-- all others
Holds Place before octet = Unit {0}
-- at the end of the octets only
Holds Truncated before octet = ⊥

-- the reasons for which an octet is refused, in the order in which they are tried
abbrev pub reasons : List Why
reasons = TooLong ∷ AfterEnd ∷ Magic ∷ Version ∷ NodeByte ∷ CountZero ∷ Group ∷ GapTwice ∷ BurstLong ∷ Place ∷ []

-- the first of these reasons that holds
abbrev pub IsFirstOf : List Why → List ℕ → ℕ → Why → Type 0
IsFirstOf [] before octet why = ⊥
IsFirstOf (reason ∷ others) before octet why =
    (Holds reason before octet × (why ≡ reason)) ⊎ ((Holds reason before octet → ⊥) × IsFirstOf others before octet why)

-- the octets before offset n begin a capture, and with the octet there they do not
pub record Breaks (octets : List ℕ) (n : ℕ) : Type 0 where
  pub within : n < length octets
  pub before : IsCapturePrefix (take n octets)
  pub after : IsCapturePrefix (take (n + 1) octets) → ⊥

-- n is the least such offset
pub record IsFirstBreak (octets : List ℕ) (n : ℕ) : Type 0 where
  pub breaks : Breaks octets n
  pub least : (m : ℕ) → m < n → Breaks octets m → ⊥

-- The first offence of octets: its offset and the reason. A capture of at most 2^30 octets has none.
pub data IsFirstOffence (octets : List ℕ) (n : ℕ) (why : Why) : Type 0 where
  -- the first octet, below the limit, that leaves the grammar
  Broken : n < 2 ^ 30 → IsFirstBreak octets n → IsFirstOf reasons (take n octets) (slice_index octets n) why
      → IsFirstOffence octets n why
  -- more octets than a capture may have, of which none below the limit leaves the grammar
  Overlong : 2 ^ 30 < length octets → ((m : ℕ) → m < 2 ^ 30 → IsFirstBreak octets m → ⊥) → n ≡ 2 ^ 30 → why ≡ TooLong
      → IsFirstOffence octets n why
  -- no octet leaves the grammar, and the octets end too early
  Short : length octets ≤ 2 ^ 30 → ((m : ℕ) → IsFirstBreak octets m → ⊥) → (IsCapture octets → ⊥) → n ≡ length octets
      → why ≡ Truncated → IsFirstOffence octets n why
