-- What a decoder answers, for all octets that it stands for.
use Rattle.std.proofs.Common.{◌≡◌, ◌↔◌, ℕ, ◌+◌, ◌^◌, ◌<◌, ◌≤◌, Bool, true, false, List, [], ◌∷◌, ◌++◌, length, Result, Ok, Err, Option, None, Some, refl, sym, ap, subst, ◌∙◌, inr, ⊎_elim, arith, length-append, if◌then◌else◌}
use Rattle.std.specs.Prelude.{◌==◌}
use Rattle.std.proofs.lemmas.Bool.{eqb-true, eqb-false}
use Rattle.t1s_capture.specs.declared.items.Why.{Why}
use Rattle.t1s_capture.specs.declared.items.Why.TheVariants.{TooLong, Truncated}
use Rattle.t1s_capture.specs.declared.items.Refusal.{Refusal}
use Rattle.t1s_capture.specs.declared.items.Counts.{Counts}
use Rattle.t1s_capture.specs.declared.decoder.Next.{Next}
use Rattle.t1s_capture.specs.declared.decoder.Next.TheVariants.{More, Refused}
use Rattle.t1s_capture.specs.Captures.{CaptureItem, IsCapture, IsCapturePrefix}
use Rattle.t1s_capture.specs.Pieces.{counts_with, counts_of}
use Rattle.t1s_capture.specs.PrefixParts.{in_gap, in_burst, in_blur, after_torn, ended, PrefixParts, in_magic, at_version, at_node, with_items, AreMadeOf}
use Rattle.t1s_capture.specs.DecodedItems.{DecodedItem, IsItemOctet}
use Rattle.t1s_capture.specs.State.{DecoderState}
use Rattle.t1s_capture.specs.Offences.{IsFirstOf, reasons, IsFirstOffence}
use Rattle.t1s_capture.specs.Stands.{state_of, counts_at, Stands}
use Rattle.t1s_capture.specs.Answers.{YieldsItem, StandsAfter, IsCountedCapture}
use Rattle.t1s_capture.specs.DecoderTable.{advance, stage_step, progress_of, finished}
use Rattle.t1s_capture.proofs.Counted.{views_rest}
use Rattle.t1s_capture.proofs.NextParts.{NextParts, next_is, fails, next_parts, item_at}
use Rattle.t1s_capture.proofs.Sound.{no_parts}
use Rattle.t1s_capture.proofs.Whole.{made_once, made_more, same_items, capture_made, made_capture, made_begins, refused_stops}
use Rattle.t1s_capture.proofs.Reasons.{first_reason}
use Rattle.t1s_capture.proofs.FirstOffences.{broken_here, too_long_here, offends_here, one_reason, short_here, offends_at_end}
use Rattle.t1s_capture.proofs.States.{answer, answered}
use Rattle.t1s_capture.proofs.ItemOctets.{yield_at_octet, octet_yields, item_within}

pub begins : (octets : List ℕ) (d : DecoderState) → Stands octets d → IsCapturePrefix octets
begins octets d s = made_begins octets s.parts s.made

-- ---- the answer to an octet

taken_is : (f : PrefixParts) (t : ℕ) → (state_of t f).taken ≡ t
taken_is (in_magic n) t = refl
taken_is at_version t = refl
taken_is at_node t = refl
taken_is (with_items node items tail) t = refl

-- a decoder has taken all the octets that it stands for
pub taken_all : (octets : List ℕ) (d : DecoderState) → Stands octets d → d.taken ≡ length octets
taken_all octets d s = ap (λ (x : DecoderState). x.taken) s.keeps ∙ taken_is s.parts (length octets)

too_long : ℕ → Next
too_long t = Refused (record { offset = t; why = TooLong })

abbrev pub answers : List ℕ → PrefixParts → ℕ → Next
answers octets f o =
    if length octets == 2 ^ 30 then Refused (record { offset = length octets; why = TooLong })
    else answer (length octets) (next_parts f o) (item_at f o)

advance_by : (d : DecoderState) (o t : ℕ) (r : Next) → d.taken ≡ t → stage_step d.stage (progress_of d) o ≡ r →
    advance d o ≡ (if t == 2 ^ 30 then Refused (record { offset = t; why = TooLong }) else r)
advance_by d o t r e k =
    ap (λ (n : ℕ). if n == 2 ^ 30 then Refused (record { offset = n; why = TooLong }) else stage_step d.stage (progress_of d) o) e
    ∙ ap (λ (x : Next). if t == 2 ^ 30 then Refused (record { offset = t; why = TooLong }) else x) k

advances : (octets : List ℕ) (o : ℕ) (d : DecoderState) (s : Stands octets d) → advance d o ≡ answers octets s.parts o
advances octets o d s =
    ap (λ (x : DecoderState). advance x o) s.keeps
    ∙ advance_by (state_of (length octets) s.parts) o (length octets) (answer (length octets) (next_parts s.parts o) (item_at s.parts o))
    (taken_is s.parts (length octets)) (answered s.parts (length octets) o s.made.in_range)

below : (octets : List ℕ) → length octets ≤ 2 ^ 30 → (length octets == 2 ^ 30) ≡ false → length octets < 2 ^ 30
below octets le e = let differs = eqb-false (length octets) (2 ^ 30) e in omega arith

-- ---- the item

module _ (octets : List ℕ) (o : ℕ) (f : PrefixParts) (m : AreMadeOf octets f) (low : o < 256) (item : DecodedItem) where
  item_answer : length octets < 2 ^ 30 → (r : NextParts) (i : Option DecodedItem) → next_parts f o ≡ r → item_at f o ≡ i →
      YieldsItem (answer (length octets) r i) item ↔ IsItemOctet octets o item
  item_answer short (Err why) i e k = (λ h. absurd h, λ h. let t = octet_yields octets f o item m h in no_parts why t.next (sym e ∙ t.leads))
  item_answer short (Ok g) None e k = (λ h. absurd h, λ h. let t = octet_yields octets f o item m h in let x = sym k ∙ t.yields in cc)
  item_answer short (Ok g) (Some x) e k = (
    λ h. yield_at_octet octets f g o item short low m e (k ∙ ap (λ (y : DecodedItem). Some y) h),
    λ h. let t = octet_yields octets f o item m h in let y = sym k ∙ t.yields in cc,
  )

  item_by : (p : Bool) → (length octets == 2 ^ 30) ≡ p → length octets ≤ 2 ^ 30 →
      YieldsItem (if p then Refused (record { offset = length octets; why = TooLong }) else answer (length octets) (next_parts f o) (item_at f o)) item ↔ IsItemOctet octets o item
  item_by true e le =
      (λ h. absurd h, λ h. let lt : length octets < 2 ^ 30 = item_within octets o item h in let is = eqb-true (length octets) (2 ^ 30) e in absurd (omega arith))
  item_by false e le = item_answer (below octets le e) (next_parts f o) (item_at f o) refl refl

pub step_item : (octets : List ℕ) (o : ℕ) (d : DecoderState) → Stands octets d → o < 256 → (item : DecodedItem) → YieldsItem (advance d o) item ↔ IsItemOctet octets o item
step_item octets o d s low item =
    subst (λ (x : Next). YieldsItem x item ↔ IsItemOctet octets o item) (sym (advances octets o d s))
    (item_by octets o s.parts s.made low item (length octets == 2 ^ 30) refl s.limit)

-- ---- the refusal

refusal_is : (n : ℕ) (why : Why) (r : Refusal) → n ≡ r.offset → why ≡ r.why → record { offset = n; why = why } ≡ r
refusal_is n why r a b =
    ap (λ (k : ℕ). record { offset = k; why = why }) a ∙ ap (λ (w : Why). record { offset = r.offset; why = w }) b

abbrev pub OffendsAt : List ℕ → ℕ → Refusal → Type 0
OffendsAt octets o r = (r.offset ≡ length octets) × IsFirstOffence (octets ++ o ∷ []) r.offset r.why

module _ (octets : List ℕ) (o : ℕ) (f : PrefixParts) (m : AreMadeOf octets f) (low : o < 256) (r : Refusal) where
  offence : (n : ℕ) (why : Why) → n ≡ length octets → IsFirstOffence (octets ++ o ∷ []) n why → record { offset = n; why = why } ≡ r → OffendsAt octets o r
  offence n why e h is =
      let a : n ≡ r.offset = ap (λ (x : Refusal). x.offset) is in
      let b : why ≡ r.why = ap (λ (x : Refusal). x.why) is in (
        sym a ∙ e,
        subst (λ (x : ℕ). IsFirstOffence (octets ++ o ∷ []) x r.why) a (subst (λ (w : Why). IsFirstOffence (octets ++ o ∷ []) n w) b h),
      )

  refused_more : (d : DecoderState) → ◌≡◌ {A = Next} (More d) (Refused r) → ⊥
  refused_more d e = cc

  -- nothing offends where the octets go on
  no_offence : (g : PrefixParts) → length octets < 2 ^ 30 → next_parts f o ≡ next_is g → OffendsAt octets o r → ⊥
  no_offence g short e h =
      ⊎_elim (λ k. k.1 (made_begins (octets ++ o ∷ []) g (made_more octets o f g low m e))) (λ k. let is = k.0 in omega arith)
      (offends_here octets o (made_begins octets f m) r.offset r.why h.0 h.1)

  reason_of : (why : Why) → length octets < 2 ^ 30 → next_parts f o ≡ fails why → IsFirstOf reasons octets o why
  reason_of why short e = inr ((λ (k : length octets ≡ 2 ^ 30). let z : ⊥ = omega arith in z), first_reason octets f o why m e)

  refused_answer : length octets < 2 ^ 30 → (x : NextParts) (i : Option DecodedItem) → next_parts f o ≡ x → (answer (length octets) x i ≡ Refused r) ↔ OffendsAt octets o r
  refused_answer short (Err why) i e = (
    λ h.
        let is : ◌≡◌ {A = Refusal} (record { offset = length octets; why = why }) r = cc in
        offence (length octets) why refl
        (broken_here octets o (made_begins octets f m) why short (refused_stops octets o f why m e) (reason_of why short e)) is,
    λ h.
        ⊎_elim
        (λ k. ap Refused (refusal_is (length octets) why r (sym h.0) (one_reason reasons octets o why r.why (reason_of why short e) k.2)))
        (λ k. let is = k.0 in absurd (omega arith))
        (offends_here octets o (made_begins octets f m) r.offset r.why h.0 h.1),
  )
  refused_answer short (Ok g) None e = (λ h. absurd cc, λ h. absurd (no_offence g short e h))
  refused_answer short (Ok g) (Some y) e = (λ h. absurd cc, λ h. absurd (no_offence g short e h))

  refused_by : (p : Bool) → (length octets == 2 ^ 30) ≡ p → length octets ≤ 2 ^ 30 →
      ((if p then Refused (record { offset = length octets; why = TooLong }) else answer (length octets) (next_parts f o) (item_at f o)) ≡ Refused r) ↔ OffendsAt octets o r
  refused_by true e le =
      let full : length octets ≡ 2 ^ 30 = eqb-true (length octets) (2 ^ 30) e in (
        λ h.
            let is : ◌≡◌ {A = Refusal} (record { offset = length octets; why = TooLong }) r = cc in
            offence (length octets) TooLong refl (too_long_here octets o (made_begins octets f m) full) is,
        λ h.
            ⊎_elim
            (λ k. let lt = k.0 in absurd (omega arith))
            (λ k. ap Refused (refusal_is (length octets) TooLong r (sym h.0) (sym k.1)))
            (offends_here octets o (made_begins octets f m) r.offset r.why h.0 h.1),
      )
  refused_by false e le = refused_answer (below octets le e) (next_parts f o) (item_at f o) refl

pub step_refused : (octets : List ℕ) (o : ℕ) (d : DecoderState) → Stands octets d → o < 256 → (r : Refusal) → (advance d o ≡ Refused r) ↔ OffendsAt octets o r
step_refused octets o d s low r =
    subst (λ (x : Next). (x ≡ Refused r) ↔ OffendsAt octets o r) (sym (advances octets o d s))
    (refused_by octets o s.parts s.made low r (length octets == 2 ^ 30) refl s.limit)

-- ---- what the decoder stands for next

module _ (octets : List ℕ) (o : ℕ) (f : PrefixParts) (m : AreMadeOf octets f) (low : o < 256) where
  next_stands : (g : PrefixParts) → length octets < 2 ^ 30 → next_parts f o ≡ next_is g → Stands (octets ++ o ∷ []) (state_of (length octets + 1) g)
  next_stands g short e =
      let long : length (octets ++ o ∷ []) ≡ length octets + 1 = length-append octets (o ∷ []) in
      record {
        parts = g;
        made = made_more octets o f g low m e;
        limit = omega arith;
        keeps = ap (λ (t : ℕ). state_of t g) (sym long);
      }

  stands_answer : length octets < 2 ^ 30 → (r : NextParts) (i : Option DecodedItem) → next_parts f o ≡ r → StandsAfter (octets ++ o ∷ []) (answer (length octets) r i)
  stands_answer short (Err why) i e = tt
  stands_answer short (Ok g) None e = next_stands g short e
  stands_answer short (Ok g) (Some y) e = next_stands g short e

  stands_by : (p : Bool) → (length octets == 2 ^ 30) ≡ p → length octets ≤ 2 ^ 30 →
      StandsAfter (octets ++ o ∷ []) (if p then Refused (record { offset = length octets; why = TooLong }) else answer (length octets) (next_parts f o) (item_at f o))
  stands_by true e le = tt
  stands_by false e le = stands_answer (below octets le e) (next_parts f o) (item_at f o) refl

pub step_stands : (octets : List ℕ) (o : ℕ) (d : DecoderState) → Stands octets d → o < 256 → StandsAfter (octets ++ o ∷ []) (advance d o)
step_stands octets o d s low =
    subst (λ (x : Next). StandsAfter (octets ++ o ∷ []) x) (sym (advances octets o d s))
    (stands_by octets o s.parts s.made low (length octets == 2 ^ 30) refl s.limit)

-- ---- the end of the octets

abbrev pub Answer : Type 0
Answer = Result Counts Refusal

-- what the end means for these octets
pub record EndIs (octets : List ℕ) (x : Answer) : Type 0 where
  pub ok : (counts : Counts) → (x ≡ Ok counts) ↔ IsCountedCapture octets counts
  pub truncated : (r : Refusal) → (x ≡ Err r) ↔ IsFirstOffence octets r.offset r.why

ended_end : (octets : List ℕ) (node : ℕ) (items : List CaptureItem) → length octets ≤ 2 ^ 30 → AreMadeOf octets (with_items node items ended) → EndIs octets (Ok (counts_at items ended))
ended_end octets node items le m =
    let same : counts_at items ended ≡ counts_of items = ap (λ vs. counts_with items vs) (views_rest items) in
    record {
      ok = λ counts. (
        λ e. let c : counts_at items ended ≡ counts = cc in (node, items, made_capture octets node items m, sym c ∙ same),
        λ k.
            let t = same_items node k.0 items k.1 ended ended (made_once octets (with_items node items ended) (with_items k.0 k.1 ended) m (capture_made octets k.0 k.1 k.2)) in
            ap Ok (same ∙ ap (λ (xs : List CaptureItem). counts_of xs) t.1 ∙ sym k.3),
      );
      truncated = λ r. (
        λ e. absurd cc,
        λ k. absurd ((offends_at_end octets r.offset r.why le (made_begins octets (with_items node items ended) m) k).0 (node, items, made_capture octets node items m)),
      );
    }

open_end : (octets : List ℕ) (f : PrefixParts) → length octets ≤ 2 ^ 30 → AreMadeOf octets f → ((node : ℕ) (items : List CaptureItem) → with_items node items ended ≡ f → ⊥) →
    EndIs octets (Err (record { offset = length octets; why = Truncated }))
open_end octets f le m open' =
    let none : IsCapture octets → ⊥ = λ k. open' k.0 k.1 (made_once octets (with_items k.0 k.1 ended) f (capture_made octets k.0 k.1 k.2) m) in
    record {
      ok = λ counts. (λ e. absurd cc, λ k. absurd (none (k.0, k.1, k.2)));
      truncated = λ r. (
        λ e.
            let same : ◌≡◌ {A = Refusal} (record { offset = length octets; why = Truncated }) r = cc in
            subst (λ (q : Refusal). IsFirstOffence octets q.offset q.why) same (short_here octets le (made_begins octets f m) none),
        λ k.
            let t = offends_at_end octets r.offset r.why le (made_begins octets f m) k in
            ap Err (refusal_is (length octets) Truncated r (sym t.1) (sym t.2)),
      );
    }

end_by : (octets : List ℕ) (f : PrefixParts) → length octets ≤ 2 ^ 30 → AreMadeOf octets f → EndIs octets (finished (state_of (length octets) f))
end_by octets (in_magic n) le m = open_end octets (in_magic n) le m (λ node items e. cc)
end_by octets at_version le m = open_end octets at_version le m (λ node items e. cc)
end_by octets at_node le m = open_end octets at_node le m (λ node items e. cc)
end_by octets (with_items node items (in_gap count)) le m = open_end octets (with_items node items (in_gap count)) le m (λ node' items' e. cc)
end_by octets (with_items node items (in_burst b)) le m = open_end octets (with_items node items (in_burst b)) le m (λ node' items' e. cc)
end_by octets (with_items node items (in_blur b count)) le m = open_end octets (with_items node items (in_blur b count)) le m (λ node' items' e. cc)
end_by octets (with_items node items after_torn) le m = open_end octets (with_items node items after_torn) le m (λ node' items' e. cc)
end_by octets (with_items node items ended) le m = ended_end octets node items le m

pub end_is : (octets : List ℕ) (d : DecoderState) → Stands octets d → EndIs octets (finished d)
end_is octets d s = subst (λ (x : DecoderState). EndIs octets (finished x)) (sym s.keeps) (end_by octets s.parts s.limit s.made)

-- ---- the beginning

nothing_made : AreMadeOf [] (in_magic 0)
nothing_made = record { in_range = omega arith; text = refl }

pub stands_new : Stands [] (state_of 0 (in_magic 0))
stands_new = record { parts = in_magic 0; made = nothing_made; limit = omega arith; keeps = refl }
