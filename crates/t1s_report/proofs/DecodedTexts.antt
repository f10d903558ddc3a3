-- What is written for octets, and that it is written in one way.
use Rattle.std.proofs.Common.{◌≡◌, ℕ, ◌+◌, ◌^◌, ◌<◌, ◌≤◌, List, [], ◌∷◌, ◌++◌, length, take, refl, sym, ap, subst, ◌∙◌, inl, inr, arith, append_assoc, length-append}
use Rattle.std.specs.Prelude.{slice_index}
use Rattle.std.proofs.Math.Seq.{take-append_seam}
use Rattle.std.proofs.lemmas.List.{append-nil, take-append-le, get_or_append_left}
use Rattle.t1s_capture.specs.declared.items.Counts.{Counts}
use Rattle.t1s_capture.specs.declared.items.Refusal.{Refusal}
use Rattle.t1s_capture.specs.declared.items.Why.{Why}
use Rattle.t1s_capture.specs.Captures.{CaptureItem, IsCapture, IsCapturePrefix}
use Rattle.t1s_capture.specs.Pieces.{counts_of}
use Rattle.t1s_capture.specs.Offences.{IsFirstOf, reasons, Breaks, IsFirstBreak, IsFirstOffence, Broken, Overlong, Short}
use Rattle.t1s_capture.specs.DecodedItems.{DecodedItem}
use Rattle.t1s_capture.specs.Answers.{IsCountedCapture}
use Rattle.t1s_capture.proofs.FirstOffences.{unbroken, one_reason}
use Rattle.t1s_capture.proofs.Whole.{readings_agree}
use Rattle.t1s_capture.proofs.ItemOctets.{one_item}
use Rattle.t1s_report.specs.ItemLines.{item_line, end_line}
use Rattle.t1s_report.specs.OffenceLines.{offence_line}
use Rattle.t1s_report.specs.DecodedText.{IsLineAt, Shown, Silent, AreLinesAfter, IsItemText, IsOffenceText, IsDecodedText}

-- lines and further lines
pub lines_more : (before first others a b : List ℕ) → AreLinesAfter before first a → AreLinesAfter (before ++ first) others b → AreLinesAfter before (first ++ others) (a ++ b)
lines_more before [] others a b h k = rw (h) (subst (λ (o : List ℕ). AreLinesAfter o others b) (append-nil before) k)
lines_more before (octet ∷ first) others a b h k =
    let (line, rest, at, after, is) = h in
    let e : a ++ b ≡ line ++ (rest ++ b) = rw is (append_assoc line rest b) in
    (line, rest ++ b, at, lines_more (before ++ octet ∷ []) first others rest b after (subst (λ (o : List ℕ). AreLinesAfter o others b) (sym (append_assoc before (octet ∷ []) first)) k), e)

pub line_one : (before : List ℕ) (octet : ℕ) (line : List ℕ) → IsLineAt before octet line → AreLinesAfter before (octet ∷ []) line
line_one before octet line at = (line, [], at, refl, sym (append-nil line))

-- one octet more
pub item_text_more : (before : List ℕ) (octet : ℕ) (lines line : List ℕ) → IsItemText before lines → IsLineAt before octet line → IsItemText (before ++ octet ∷ []) (lines ++ line)
item_text_more before octet lines line h at = lines_more [] before (octet ∷ []) lines line h (line_one before octet line at)

one_line : (before : List ℕ) (octet : ℕ) (a b : List ℕ) → IsLineAt before octet a → IsLineAt before octet b → a ≡ b
one_line before octet a b (Shown x h e) (Shown y k f) = (e ∙ ap (λ (i : DecodedItem). item_line i) (one_item before octet x y h k)) ∙ sym f
one_line before octet a b (Shown x h e) (Silent none f) = absurd (none x h)
one_line before octet a b (Silent none e) (Shown y k f) = absurd (none y k)
one_line before octet a b (Silent none e) (Silent none' f) = e ∙ sym f

one_lines : (before rest a b : List ℕ) → AreLinesAfter before rest a → AreLinesAfter before rest b → a ≡ b
one_lines before [] a b h k = h ∙ sym k
one_lines before (octet ∷ rest) a b h k =
    let (l, ls, at, after, is) = h in
    let (m, ms, at', after', is') = k in
    let x : l ≡ m = one_line before octet l m at at' in
    let y : ls ≡ ms = one_lines (before ++ octet ∷ []) rest ls ms after after' in
    cc

-- octets have one first offence at most
one_break : (octets : List ℕ) (m n : ℕ) → IsFirstBreak octets m → IsFirstBreak octets n → m ≡ n
one_break octets m n h k =
    let a : n < m → ⊥ = λ lt. h.least n lt k.breaks in
    let b : m < n → ⊥ = λ lt. k.least m lt h.breaks in
    grind arith

pub one_offence : (octets : List ℕ) (m n : ℕ) (v w : Why) → IsFirstOffence octets m v → IsFirstOffence octets n w → (m ≡ n) × (v ≡ w)
one_offence octets m n v w (Broken a h r) (Broken b k s) =
    let e : m ≡ n = one_break octets m n h k in
    let r' : IsFirstOf reasons (take n octets) (slice_index octets n) v = subst (λ (i : ℕ). IsFirstOf reasons (take i octets) (slice_index octets i) v) e r in
    (e, one_reason reasons (take n octets) (slice_index octets n) v w r' s)
one_offence octets m n v w (Broken a h r) (Overlong long none at is) = absurd (none m a h)
one_offence octets m n v w (Broken a h r) (Short le none none' at is) = absurd (none m h)
one_offence octets m n v w (Overlong long none at is) (Broken b k s) = absurd (none n b k)
one_offence octets m n v w (Overlong long none at is) (Overlong long' none' at' is') = (at ∙ sym at', is ∙ sym is')
one_offence octets m n v w (Overlong long none at is) (Short le none' none'' at' is') = absurd (omega arith)
one_offence octets m n v w (Short le none no_capture at is) (Broken b k s) = absurd (none n k)
one_offence octets m n v w (Short le none no_capture at is) (Overlong long none' at' is') = absurd (omega arith)
one_offence octets m n v w (Short le none no_capture at is) (Short le' none' no_capture' at' is') = (at ∙ sym at', is ∙ sym is')

-- a capture begins itself
pub begins_itself : (octets : List ℕ) → IsCapture octets → IsCapturePrefix octets
begins_itself octets h = ([], subst (λ (o : List ℕ). IsCapture o) (sym (append-nil octets)) h)

-- and has no offence
pub unoffending : (octets : List ℕ) (n : ℕ) (why : Why) → IsCapture octets → length octets ≤ 2 ^ 30 → IsFirstOffence octets n why → ⊥
unoffending octets n why h le (Broken a first r) = unbroken octets n (begins_itself octets h) first.breaks
unoffending octets n why h le (Overlong long none at is) = omega arith
unoffending octets n why h le (Short le' none no_capture at is) = no_capture h

one_counts : (octets : List ℕ) (a b : Counts) → IsCountedCapture octets a → IsCountedCapture octets b → a ≡ b
one_counts octets a b h k =
    let same = readings_agree octets h.0 k.0 h.1 k.1 h.2 k.2 in
    (h.3 ∙ ap (λ (xs : List CaptureItem). counts_of xs) same.1) ∙ sym k.3

same_refusal : (r q : Refusal) → r.offset ≡ q.offset → r.why ≡ q.why → r ≡ q
same_refusal r q a b =
    let same : ◌≡◌ {A = Refusal} (record { offset = r.offset; why = r.why }) (record { offset = q.offset; why = q.why }) = cc in same

pub capture_of : (octets : List ℕ) (counts : Counts) → IsCountedCapture octets counts → IsCapture octets
capture_of octets counts h = (h.0, h.1, h.2)

pub one_text : (octets a b : List ℕ) → IsDecodedText octets a → IsDecodedText octets b → a ≡ b
one_text octets a b (inl h) (inl k) =
    let c = one_counts octets h.counts k.counts h.capture k.capture in
    let l = one_lines [] octets h.lines k.lines h.items k.items in
    (h.text_is ∙ (ap (λ (x : List ℕ). x ++ end_line h.counts) l ∙ ap (λ (n : Counts). k.lines ++ end_line n) c)) ∙ sym k.text_is
one_text octets a b (inl h) (inr k) = absurd (unoffending octets k.refusal.offset k.refusal.why (capture_of octets h.counts h.capture) h.within k.offence)
one_text octets a b (inr h) (inl k) = absurd (unoffending octets h.refusal.offset h.refusal.why (capture_of octets k.counts k.capture) k.within h.offence)
one_text octets a b (inr h) (inr k) =
    let o = one_offence octets h.refusal.offset k.refusal.offset h.refusal.why k.refusal.why h.offence k.offence in
    let r : h.refusal ≡ k.refusal = same_refusal h.refusal k.refusal o.0 o.1 in
    let items : IsItemText (take k.refusal.offset octets) h.lines = subst (λ (i : ℕ). IsItemText (take i octets) h.lines) o.0 h.items in
    let l = one_lines [] (take k.refusal.offset octets) h.lines k.lines items k.items in
    (h.text_is ∙ (ap (λ (x : List ℕ). x ++ offence_line h.refusal) l ∙ ap (λ (q : Refusal). k.lines ++ offence_line q) r)) ∙ sym k.text_is

-- A first offence at an octet stays it, whatever follows.
module _ (before : List ℕ) (octet : ℕ) (more : List ℕ) where
  regroup : (before ++ octet ∷ []) ++ more ≡ before ++ octet ∷ more
  regroup = append_assoc before (octet ∷ []) more

  prefix : (m : ℕ) → m ≤ length before + 1 → take m ((before ++ octet ∷ []) ++ more) ≡ take m (before ++ octet ∷ [])
  prefix m le = take-append-le m (before ++ octet ∷ []) more (omega (arith, length-append before (octet ∷ [])))

  breaks_still : (m : ℕ) → m ≤ length before → Breaks (before ++ octet ∷ []) m → Breaks ((before ++ octet ∷ []) ++ more) m
  breaks_still m le h = record {
    within = omega (arith, h.within, length-append (before ++ octet ∷ []) more);
    before = subst (λ (o : List ℕ). IsCapturePrefix o) (sym (prefix m (omega arith))) h.before;
    after = λ k. h.after (subst (λ (o : List ℕ). IsCapturePrefix o) (prefix (m + 1) (omega arith)) k);
  }

  breaks_before : (m : ℕ) → m ≤ length before → Breaks ((before ++ octet ∷ []) ++ more) m → Breaks (before ++ octet ∷ []) m
  breaks_before m le h = record {
    within = omega (arith, length-append before (octet ∷ []));
    before = subst (λ (o : List ℕ). IsCapturePrefix o) (prefix m (omega arith)) h.before;
    after = λ k. h.after (subst (λ (o : List ℕ). IsCapturePrefix o) (sym (prefix (m + 1) (omega arith))) k);
  }

  first_still : (m : ℕ) → m ≤ length before → IsFirstBreak (before ++ octet ∷ []) m → IsFirstBreak ((before ++ octet ∷ []) ++ more) m
  first_still m le h = record {
    breaks = breaks_still m le h.breaks;
    least = λ i lt k. h.least i lt (breaks_before i (omega arith) k);
  }

  first_before : (m : ℕ) → m ≤ length before → IsFirstBreak ((before ++ octet ∷ []) ++ more) m → IsFirstBreak (before ++ octet ∷ []) m
  first_before m le h = record {
    breaks = breaks_before m le h.breaks;
    least = λ i lt k. h.least i lt (breaks_still i (omega arith) k);
  }

  there : slice_index ((before ++ octet ∷ []) ++ more) (length before) ≡ slice_index (before ++ octet ∷ []) (length before)
  there = get_or_append_left (before ++ octet ∷ []) more 0 (length before) (omega (arith, length-append before (octet ∷ [])))

  pub offence_still : (why : Why) → IsFirstOffence (before ++ octet ∷ []) (length before) why → IsFirstOffence ((before ++ octet ∷ []) ++ more) (length before) why
  offence_still why (Broken short first r) =
      Broken short (first_still (length before) (omega arith) first)
      (subst (λ (o : List ℕ). IsFirstOf reasons o (slice_index ((before ++ octet ∷ []) ++ more) (length before)) why) (sym (prefix (length before) (omega arith)))
      (subst (λ (o : ℕ). IsFirstOf reasons (take (length before) (before ++ octet ∷ [])) o why) (sym there) r))
  offence_still why (Overlong long none at is) =
      Overlong (omega (arith, length-append (before ++ octet ∷ []) more)) (λ m lt k. none m lt (first_before m (omega arith) k)) at is
  offence_still why (Short le none no_capture at is) = absurd (omega (arith, length-append before (octet ∷ [])))

  pub taken_before : take (length before) ((before ++ octet ∷ []) ++ more) ≡ before
  taken_before = prefix (length before) (omega arith) ∙ take-append_seam before (octet ∷ [])

  -- the text of octets that are refused here
  pub offence_text : (lines : List ℕ) (refusal : Refusal) → IsItemText before lines → refusal.offset ≡ length before → IsFirstOffence (before ++ octet ∷ []) refusal.offset refusal.why →
      IsOffenceText ((before ++ octet ∷ []) ++ more) (lines ++ offence_line refusal)
  offence_text lines refusal items at h = record {
    refusal = refusal;
    lines = lines;
    offence = subst (λ (n : ℕ). IsFirstOffence ((before ++ octet ∷ []) ++ more) n refusal.why) (sym at)
        (offence_still refusal.why (subst (λ (n : ℕ). IsFirstOffence (before ++ octet ∷ []) n refusal.why) at h));
    items = subst (λ (o : List ℕ). IsItemText o lines) (sym (ap (λ (n : ℕ). take n ((before ++ octet ∷ []) ++ more)) at ∙ taken_before)) items;
    text_is = refl;
  }
