-- The octets after those that a decoder stands for: one of them, and all of them.
use Rattle.std.proofs.Common.{◌≡◌, ℕ, ◌^◌, ◌<◌, ◌≤◌, List, [], ◌∷◌, ◌++◌, length, take, Result, Ok, Err, refl, sym, ap, subst, ◌∙◌, inl, inr, append_assoc}
use Rattle.std.proofs.Math.Seq.{take-length}
use Rattle.std.proofs.lemmas.Bool.{cases_lt}
use Rattle.std.proofs.lemmas.List.{append-nil}
use Rattle.t1s_capture.specs.declared.items.Counts.{Counts}
use Rattle.t1s_capture.specs.declared.items.Refusal.{Refusal}
use Rattle.t1s_capture.specs.declared.decoder.Next.{Next}
use Rattle.t1s_capture.specs.declared.decoder.Next.TheVariants.{More, Held, Refused}
use Rattle.t1s_capture.specs.State.{DecoderState}
use Rattle.t1s_capture.specs.Stands.{Stands, state_of}
use Rattle.t1s_capture.specs.PrefixParts.{in_magic}
use Rattle.t1s_capture.specs.Offences.{IsFirstOffence}
use Rattle.t1s_capture.specs.Answers.{YieldsItem, StandsAfter, IsCountedCapture}
use Rattle.t1s_capture.specs.DecoderTable.{advance, finished}
use Rattle.t1s_capture.proofs.FirstOffences.{offends_at_end}
use Rattle.t1s_capture.proofs.Steps.{begins, step_item, step_refused, step_stands, end_is, stands_new}
use Rattle.t1s_capture.proofs.Beyond.{over_offence}
use Rattle.t1s_report.specs.ItemLines.{item_line, end_line}
use Rattle.t1s_report.specs.OffenceLines.{offence_line}
use Rattle.t1s_report.specs.DecodedText.{IsLineAt, Shown, Silent, IsItemText, IsCaptureText, IsOffenceText, IsDecodedText}
use Rattle.t1s_report.proofs.DecodedTexts.{item_text_more, offence_text}

-- what one octet more leads to
data OneMore (before : List ℕ) (octet : ℕ) : Type 0 where
  Goes : (d : DecoderState) (line : List ℕ) → Stands (before ++ octet ∷ []) d → IsLineAt before octet line → OneMore before octet
  Offends : (refusal : Refusal) → refusal.offset ≡ length before → IsFirstOffence (before ++ octet ∷ []) refusal.offset refusal.why → OneMore before octet

module _ (before : List ℕ) (octet : ℕ) (d : DecoderState) (stands : Stands before d) where
  below : octet < 256 → OneMore before octet
  below low = go (advance d octet) refl
    where
      go : (n : Next) → advance d octet ≡ n → OneMore before octet
      go (More next) e =
          Goes next []
          (subst (λ (n : Next). StandsAfter (before ++ octet ∷ []) n) e (step_stands before octet d stands low))
          (Silent (λ item k. subst (λ (n : Next). YieldsItem n item) e ((step_item before octet d stands low item).1 k)) refl)
      go (Held held) e =
          Goes held.decoder (item_line held.item)
          (subst (λ (n : Next). StandsAfter (before ++ octet ∷ []) n) e (step_stands before octet d stands low))
          (Shown held.item ((step_item before octet d stands low held.item).0 (subst (λ (n : Next). YieldsItem n held.item) (sym e) refl)) refl)
      go (Refused r) e = let h = (step_refused before octet d stands low r).0 e in Offends r h.0 h.1

  over : 256 ≤ octet → OneMore before octet
  over high = let (why, h) = over_offence before octet d stands high in Offends (record { offset = length before; why = why }) refl h

  one_more : OneMore before octet
  one_more = elim (cases_lt octet 256) [ inl lt ↦ below lt | inr le ↦ over le ]

-- The octets end here.

within_limit : (octets : List ℕ) (d : DecoderState) → Stands octets d → length octets ≤ 2 ^ 30
within_limit octets d stands = stands.limit

pub capture_text : (octets : List ℕ) (d : DecoderState) (lines : List ℕ) (counts : Counts) → Stands octets d → IsItemText octets lines → IsCountedCapture octets counts →
    IsCaptureText octets (lines ++ end_line counts)
capture_text octets d lines counts stands items h = record {
  counts = counts;
  lines = lines;
  capture = h;
  within = within_limit octets d stands;
  items = items;
  text_is = refl;
}

pub truncated_text : (octets : List ℕ) (d : DecoderState) (lines : List ℕ) (refusal : Refusal) → Stands octets d → IsItemText octets lines → IsFirstOffence octets refusal.offset refusal.why →
    IsOffenceText octets (lines ++ offence_line refusal)
truncated_text octets d lines refusal stands items h =
    let at = (offends_at_end octets refusal.offset refusal.why (within_limit octets d stands) (begins octets d stands) h).1 in
    record {
      refusal = refusal;
      lines = lines;
      offence = h;
      items = subst (λ (o : List ℕ). IsItemText o lines) (sym (ap (λ (n : ℕ). take n octets) at ∙ take-length octets)) items;
      text_is = refl;
    }

ended_text : (octets : List ℕ) (d : DecoderState) (lines : List ℕ) → Stands octets d → IsItemText octets lines → (tail : List ℕ) × IsDecodedText octets (lines ++ tail)
ended_text octets d lines stands items = go (finished d) refl
  where
    go : (r : Result Counts Refusal) → finished d ≡ r → (tail : List ℕ) × IsDecodedText octets (lines ++ tail)
    go (Ok counts) e = (end_line counts, inl (capture_text octets d lines counts stands items (((end_is octets d stands).ok counts).0 e)))
    go (Err r) e = (offence_line r, inr (truncated_text octets d lines r stands items (((end_is octets d stands).truncated r).0 e)))

-- whatever octets follow, a text follows the lines so far
pub rest_text : (before : List ℕ) (d : DecoderState) (lines : List ℕ) (rest : List ℕ) → Stands before d → IsItemText before lines →
    (tail : List ℕ) × IsDecodedText (before ++ rest) (lines ++ tail)
rest_text before d lines [] stands items =
    let (tail, h) = ended_text before d lines stands items in
    (tail, subst (λ (o : List ℕ). IsDecodedText o (lines ++ tail)) (sym (append-nil before)) h)
rest_text before d lines (octet ∷ rest) stands items =
    go (one_more before octet d stands)
    (λ next line still at. rest_text (before ++ octet ∷ []) next (lines ++ line) rest still (item_text_more before octet lines line items at))
  where
    go : OneMore before octet →
        ((next : DecoderState) (line : List ℕ) → Stands (before ++ octet ∷ []) next → IsLineAt before octet line → (tail : List ℕ) × IsDecodedText ((before ++ octet ∷ []) ++ rest) ((lines ++ line) ++ tail)) →
        (tail : List ℕ) × IsDecodedText (before ++ octet ∷ rest) (lines ++ tail)
    go (Goes next line still at) further =
        let (tail, h) = further next line still at in (
          line ++ tail,
          subst (λ (o : List ℕ). IsDecodedText o (lines ++ (line ++ tail))) (append_assoc before (octet ∷ []) rest)
              (subst (λ (x : List ℕ). IsDecodedText ((before ++ octet ∷ []) ++ rest) x) (append_assoc lines line tail) h),
        )
    go (Offends r at h) further = (
      offence_line r,
      subst (λ (o : List ℕ). IsDecodedText o (lines ++ offence_line r)) (append_assoc before (octet ∷ []) rest)
          (inr (offence_text before octet rest lines r items at h)),
    )

pub has_text : (octets : List ℕ) → (text : List ℕ) × IsDecodedText octets text
has_text octets = rest_text [] (state_of 0 (in_magic 0)) [] octets stands_new refl
