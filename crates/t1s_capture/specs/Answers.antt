-- What a decoder answers to an octet, and at the end of its octets.
use Rattle.std.specs.Prelude.{◌≡◌, ◌↔◌, ℕ, ◌+◌, List, [], ◌∷◌, ◌++◌, length}
use Rattle.t1s_capture.specs.declared.items.Counts.{Counts}
use Rattle.t1s_capture.specs.declared.decoder.Next.{Next}
use Rattle.t1s_capture.specs.declared.decoder.Next.TheVariants.{More, Held, Refused}
use Rattle.t1s_capture.specs.declared.items.Refusal.{Refusal}
use Rattle.t1s_capture.specs.Captures.{CaptureItem, IsCaptureOf, IsCapturePrefix}
use Rattle.t1s_capture.specs.Pieces.{counts_of}
use Rattle.t1s_capture.specs.DecodedItems.{DecodedItem, IsItemOctet}
use Rattle.t1s_capture.specs.Offences.{IsFirstOffence}
use Rattle.t1s_capture.specs.Stands.{Stands}

-- the answer hands out this item
abbrev pub YieldsItem : Next → DecodedItem → Type 0
YieldsItem (More decoder) item = ⊥
YieldsItem (Held held) item = held.item ≡ item
YieldsItem (Refused refusal) item = ⊥

-- where the answer keeps a decoder, it stands for these octets
abbrev pub StandsAfter : List ℕ → Next → Type 0
StandsAfter octets (More decoder) = Stands octets decoder
StandsAfter octets (Held held) = Stands octets held.decoder
StandsAfter octets (Refused refusal) = Unit {0}

-- the octets are a capture with these counts
abbrev pub IsCountedCapture : List ℕ → Counts → Type 0
IsCountedCapture octets counts = (node : ℕ) × (items : List CaptureItem) × IsCaptureOf octets node items × (counts ≡ counts_of items)

-- no item is handed out at this octet after those before it, and with it they begin a capture
pub record IsSilentOctet (before : List ℕ) (octet : ℕ) : Type 0 where
  pub no_item : (item : DecodedItem) → IsItemOctet before octet item → ⊥
  pub begins : IsCapturePrefix (before ++ octet ∷ [])

abbrev pub AreSilentOctets : List ℕ → List ℕ → Type 0
AreSilentOctets before [] = Unit {0}
AreSilentOctets before (octet ∷ octets) = IsSilentOctet before octet × AreSilentOctets (before ++ octet ∷ []) octets

-- the answer hands out nothing and refuses nothing
abbrev pub GoesOn : Next → Type 0
GoesOn (More decoder) = Unit {0}
GoesOn (Held held) = ⊥
GoesOn (Refused refusal) = ⊥

-- A piece was fed to a decoder that stands for the octets before: of its octets some were stepped without an item or a
-- refusal, and then a last one, which the answer is of. Octets are left over only after an item or a refusal.
pub record IsFed (before piece : List ℕ) (count : ℕ) (next : Next) : Type 0 where
  pub silent : List ℕ
  pub last : ℕ
  pub rest : List ℕ
  pub piece_is : piece ≡ silent ++ last ∷ rest
  pub counted : count ≡ length silent + 1
  pub none : AreSilentOctets before silent
  pub item : (item : DecodedItem) → YieldsItem next item ↔ IsItemOctet (before ++ silent) last item
  pub refused : (r : Refusal) → (next ≡ Refused r)
      ↔ ((r.offset ≡ length (before ++ silent)) × IsFirstOffence ((before ++ silent) ++ last ∷ []) r.offset r.why)
  pub goes_on : StandsAfter ((before ++ silent) ++ last ∷ []) next
  pub whole : GoesOn next → rest ≡ []
