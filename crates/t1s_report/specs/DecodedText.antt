-- The text that is written for the octets of a capture.
use Rattle.std.specs.Prelude.{◌≡◌, ℕ, ◌^◌, ◌≤◌, ◌⊎◌, List, [], ◌∷◌, ◌++◌, length, take}
use Rattle.t1s_capture.specs.declared.items.Counts.{Counts}
use Rattle.t1s_capture.specs.declared.items.Refusal.{Refusal}
use Rattle.t1s_capture.specs.DecodedItems.{DecodedItem, IsItemOctet}
use Rattle.t1s_capture.specs.Answers.{IsCountedCapture}
use Rattle.t1s_capture.specs.Offences.{IsFirstOffence}
use Rattle.t1s_report.specs.ItemLines.{item_line, end_line}
use Rattle.t1s_report.specs.OffenceLines.{offence_line}

-- what an octet, after those before it, adds to the item lines: the line of the item that is handed out at
-- it, or nothing where none is
pub data IsLineAt (before : List ℕ) (octet : ℕ) (text : List ℕ) : Type 0 where
  Shown : (item : DecodedItem) → IsItemOctet before octet item → text ≡ item_line item → IsLineAt before octet text
  Silent : ((item : DecodedItem) → IsItemOctet before octet item → ⊥) → text ≡ [] → IsLineAt before octet text

-- what further octets add to the item lines, one octet after another
abbrev pub AreLinesAfter : List ℕ → List ℕ → List ℕ → Type 0
AreLinesAfter before [] text = text ≡ []
AreLinesAfter before (octet ∷ rest) text =
    (first : List ℕ) × (others : List ℕ) × IsLineAt before octet first × AreLinesAfter (before ++ octet ∷ []) rest others × (text ≡ first ++ others)

-- the lines of all items whose octet is one of these, in the order of those octets
abbrev pub IsItemText : List ℕ → List ℕ → Type 0
IsItemText octets text = AreLinesAfter [] octets text

-- a capture of at most 2^30 octets: its item lines, and then the line of its end
pub record IsCaptureText (octets text : List ℕ) : Type 0 where
  pub counts : Counts
  pub lines : List ℕ
  pub capture : IsCountedCapture octets counts
  pub within : length octets ≤ 2 ^ 30
  pub items : IsItemText octets lines
  pub text_is : text ≡ lines ++ end_line counts

-- octets with an offence: the lines of the items whose octet comes before it, and then the line of the refusal
pub record IsOffenceText (octets text : List ℕ) : Type 0 where
  pub refusal : Refusal
  pub lines : List ℕ
  pub offence : IsFirstOffence octets refusal.offset refusal.why
  pub items : IsItemText (take refusal.offset octets) lines
  pub text_is : text ≡ lines ++ offence_line refusal

-- the decoded text of these octets
abbrev pub IsDecodedText : List ℕ → List ℕ → Type 0
IsDecodedText octets text = IsCaptureText octets text ⊎ IsOffenceText octets text

-- all octets have a decoded text
abbrev pub HasDecodedText : Type 0
HasDecodedText = (octets : List ℕ) → (text : List ℕ) × IsDecodedText octets text

-- no octets have two decoded texts
abbrev pub OneDecodedText : Type 0
OneDecodedText = (octets text text' : List ℕ) → IsDecodedText octets text → IsDecodedText octets text' → text ≡ text'
