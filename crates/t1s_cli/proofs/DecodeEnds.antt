-- How decoding goes on, and how it ends.
use Rattle.std.proofs.Common.{◌≡◌, ◌≢◌, ℕ, ◌≤◌, ◌⊎◌, Bool, List, [], ◌∷◌, ◌++◌, length, Option, refl, sym, ap, subst, ◌∙◌, inl, inr, arith, append_assoc}
use Rattle.std.proofs.lemmas.List.{append-nil}
use Rattle.t1s_base.specs.Causes.{FaultCountRose}
use Rattle.t1s_base.specs.Octets.{Grows, GrowsByPrefix}
use Rattle.t1s_capture.specs.declared.items.Counts.{Counts}
use Rattle.t1s_capture.specs.declared.items.Refusal.{Refusal}
use Rattle.t1s_capture.specs.State.{DecoderState}
use Rattle.t1s_capture.specs.Stands.{Stands}
use Rattle.t1s_capture.specs.Offences.{IsFirstOffence}
use Rattle.t1s_capture.specs.DecodedItems.{DecodedItem, IsItemOctet}
use Rattle.t1s_capture.specs.Answers.{IsCountedCapture, AreSilentOctets}
use Rattle.t1s_cli.specs.declared.status.Status.{Status}
use Rattle.t1s_cli.specs.declared.status.Status.TheVariants.{Done, Refused, ReadFault, WriteFault, Memory}
use Rattle.t1s_cli.specs.TextOutcome.{TextOutcome}
use Rattle.t1s_report.specs.DecodedText.{IsLineAt, Shown, Silent, IsCaptureText, IsOffenceText}
use Rattle.t1s_report.specs.ItemLines.{item_line, end_line}
use Rattle.t1s_report.specs.OffenceLines.{offence_line}
use Rattle.t1s_report.proofs.SinkGrowth.{grows_none, grows_more, prefix_more, prefix_wider}
use Rattle.t1s_report.proofs.DecodedTexts.{item_text_more, offence_text}
use Rattle.t1s_report.proofs.DecodeSteps.{capture_text, truncated_text, rest_text}
use Rattle.t1s_cli.specs.DecodeProgress.{ShownItems, DecodeProgress, DecodeEnd, DecodeStop}

module _ {K : Type 0} (written : K → Option (List ℕ)) (faults : K → ℕ) (finished : K → Bool) where
  -- nothing is decoded yet
  pub none_decoded : (d : DecoderState) (k : K) → Stands [] d → DecodeProgress written faults [] d k k
  none_decoded d k stands = record {
    stands = stands;
    shown = record { lines = []; items = refl; grows = grows_none (written k); kept = refl };
  }

  module _ (octets : List ℕ) (first k : K) (s : ShownItems written faults octets first k) where
    shown_more : (octet : ℕ) (line : List ℕ) (k' : K) → IsLineAt octets octet line → Grows (written k) (written k') line → faults k' ≡ faults k → ShownItems written faults (octets ++ octet ∷ []) first k'
    shown_more octet line k' at grows kept = record {
      lines = s.lines ++ line;
      items = item_text_more octets octet s.lines line s.items at;
      grows = grows_more (written first) (written k) (written k') s.lines line s.grows grows;
      kept = kept ∙ s.kept;
    }

    -- an octet at which no item is handed out adds nothing
    pub shown_silent : (octet : ℕ) → ((item : DecodedItem) → IsItemOctet octets octet item → ⊥) → ShownItems written faults (octets ++ octet ∷ []) first k
    shown_silent octet none = shown_more octet [] k (Silent none refl) (grows_none (written k)) refl

    pub silent_on : (octet : ℕ) (next : DecoderState) → Stands (octets ++ octet ∷ []) next → ((item : DecodedItem) → IsItemOctet octets octet item → ⊥) →
        DecodeProgress written faults (octets ++ octet ∷ []) next first k
    silent_on octet next stands none = record { stands = stands; shown = shown_silent octet none }

    pub handed_on : (octet : ℕ) (next : DecoderState) (item : DecodedItem) (k' : K) → Stands (octets ++ octet ∷ []) next → IsItemOctet octets octet item →
        Grows (written k) (written k') (item_line item) → faults k' ≡ faults k → DecodeProgress written faults (octets ++ octet ∷ []) next first k'
    handed_on octet next item k' stands at grows kept = record { stands = stands; shown = shown_more octet (item_line item) k' (Shown item at refl) grows kept }

    -- the line of the item at this octet was not taken whole
    pub stopped_at_item : (octet : ℕ) (next : DecoderState) (item : DecodedItem) (k' : K) → Stands (octets ++ octet ∷ []) next → IsItemOctet octets octet item →
        GrowsByPrefix (written k) (written k') (item_line item) → faults k ≤ faults k' → FaultCountRose (faults k) (faults k') →
        DecodeStop written faults finished (octets ++ octet ∷ []) first k' WriteFault
    stopped_at_item octet next item k' stands at prefix later rose =
        let line = item_line item in
        let kept = s.kept in
        record {
          early = λ e. cc;
          ends = λ more.
              let (tail, text) = rest_text (octets ++ octet ∷ []) next (s.lines ++ line) more stands (item_text_more octets octet s.lines line s.items (Shown item at refl)) in
              record {
                answer = inr (inr refl);
                done = λ e. cc;
                refused = λ e. cc;
                prefix = λ e. (
                  (s.lines ++ line) ++ tail,
                  text,
                  prefix_wider (written first) (written k') (s.lines ++ line) tail (prefix_more (written first) (written k) (written k') s.lines line s.grows prefix),
                );
                finish = λ e. absurd (elim e [ inl a ↦ cc | inr a ↦ cc ]);
                cause = record {
                  later = omega arith;
                  rose = λ e. rw s.kept at rose;
                  kept = λ n. absurd (n refl);
                };
              };
        }

    -- the last line was written, and the sink finished, or the sink failed
    module _ (all tail : List ℕ) (k' : K) (status : Status) (no_memory : status ≢ Memory) where
      pub decoded_done : IsCaptureText all (s.lines ++ tail) → TextOutcome written faults finished Done tail k k' status → DecodeEnd written faults finished all first k' status
      decoded_done text e =
          let answer : (status ≡ Done) ⊎ (status ≡ WriteFault) = elim e.answer [ inl a ↦ inl a | inr a ↦ elim a [ inl b ↦ inr b | inr b ↦ absurd (no_memory b) ] ] in
          record {
            answer = elim answer [ inl a ↦ inl a | inr a ↦ inr (inr a) ];
            done = λ is. (s.lines ++ tail, text, grows_more (written first) (written k) (written k') s.lines tail s.grows (e.whole_text is));
            refused = λ is. absurd (elim answer [ inl a ↦ cc | inr a ↦ cc ]);
            prefix = λ is. (s.lines ++ tail, inl text, prefix_more (written first) (written k) (written k') s.lines tail s.grows (e.prefix is));
            finish = λ w. elim w [ inl is ↦ e.end is | inr is ↦ absurd (elim answer [ inl a ↦ cc | inr a ↦ cc ]) ];
            cause = rw s.kept at e.cause;
          }

      pub decoded_refused : IsOffenceText all (s.lines ++ tail) → TextOutcome written faults finished Refused tail k k' status → DecodeEnd written faults finished all first k' status
      decoded_refused text e =
          let answer : (status ≡ Refused) ⊎ (status ≡ WriteFault) = elim e.answer [ inl a ↦ inl a | inr a ↦ elim a [ inl b ↦ inr b | inr b ↦ absurd (no_memory b) ] ] in
          record {
            answer = elim answer [ inl a ↦ inr (inl a) | inr a ↦ inr (inr a) ];
            done = λ is. absurd (elim answer [ inl a ↦ cc | inr a ↦ cc ]);
            refused = λ is. (s.lines ++ tail, text, grows_more (written first) (written k) (written k') s.lines tail s.grows (e.whole_text is));
            prefix = λ is. (s.lines ++ tail, inr text, prefix_more (written first) (written k) (written k') s.lines tail s.grows (e.prefix is));
            finish = λ w. elim w [ inl is ↦ absurd (elim answer [ inl a ↦ cc | inr a ↦ cc ]) | inr is ↦ e.end is ];
            cause = rw s.kept at e.cause;
          }

    -- this octet is the first offence
    pub stopped_at_offence : (octet : ℕ) (refusal : Refusal) (k' : K) (status : Status) →
        (refusal.offset ≡ length octets) × IsFirstOffence (octets ++ octet ∷ []) refusal.offset refusal.why →
        TextOutcome written faults finished Refused (offence_line refusal) k k' status → status ≢ Memory →
        DecodeStop written faults finished (octets ++ octet ∷ []) first k' status
    stopped_at_offence octet refusal k' status offence e no_memory = record {
      early = λ is. absurd (elim e.answer [ inl a ↦ cc | inr a ↦ elim a [ inl b ↦ cc | inr b ↦ cc ] ]);
      ends = λ more.
          decoded_refused ((octets ++ octet ∷ []) ++ more) (offence_line refusal) k' status no_memory
          (offence_text octets octet more s.lines refusal s.items offence.0 offence.1) e;
    }

  -- octets that hand out nothing add nothing
  pub shown_after : (octets silent : List ℕ) (first k : K) → ShownItems written faults octets first k → AreSilentOctets octets silent → ShownItems written faults (octets ++ silent) first k
  shown_after octets [] first k s none = subst (λ (o : List ℕ). ShownItems written faults o first k) (sym (append-nil octets)) s
  shown_after octets (octet ∷ silent) first k s (here, none) =
      subst (λ (o : List ℕ). ShownItems written faults o first k) (append_assoc octets (octet ∷ []) silent)
      (shown_after (octets ++ octet ∷ []) silent first k (shown_silent octets first k s octet here.no_item) none)

  module _ (octets : List ℕ) (d : DecoderState) (first k : K) (h : DecodeProgress written faults octets d first k) where
    -- the octets end in a capture
    pub ends_whole : (counts : Counts) (k' : K) (status : Status) → IsCountedCapture octets counts → TextOutcome written faults finished Done (end_line counts) k k' status → status ≢ Memory →
        DecodeEnd written faults finished octets first k' status
    ends_whole counts k' status capture e no_memory =
        decoded_done octets first k h.shown octets (end_line counts) k' status no_memory (capture_text octets d h.shown.lines counts h.stands h.shown.items capture) e

    -- or too early
    pub ends_short : (refusal : Refusal) (k' : K) (status : Status) → IsFirstOffence octets refusal.offset refusal.why → TextOutcome written faults finished Refused (offence_line refusal) k k' status → status ≢ Memory →
        DecodeEnd written faults finished octets first k' status
    ends_short refusal k' status offence e no_memory =
        decoded_refused octets first k h.shown octets (offence_line refusal) k' status no_memory (truncated_text octets d h.shown.lines refusal h.stands h.shown.items offence) e

  -- what stopped within these octets did so within more of them
  pub stopped_within : (octets more all : List ℕ) (first k : K) (status : Status) → octets ++ more ≡ all → DecodeStop written faults finished octets first k status →
      DecodeStop written faults finished all first k status
  stopped_within octets more all first k status e h = record {
    early = h.early;
    ends = λ further.
        let same : octets ++ (more ++ further) ≡ all ++ further = sym (append_assoc octets more further) ∙ ap (λ (o : List ℕ). o ++ further) e in
        subst (λ (o : List ℕ). DecodeEnd written faults finished o first k status) same (h.ends (more ++ further));
  }

  pub no_read_fault : (octets : List ℕ) (first k : K) (status : Status) → DecodeEnd written faults finished octets first k status → status ≢ ReadFault
  no_read_fault octets first k status h e = elim h.answer [ inl a ↦ cc | inr a ↦ elim a [ inl b ↦ cc | inr b ↦ cc ] ]
