-- The first offence of octets whose front begins a capture.
use Rattle.std.proofs.Common.{◌≡◌, ℕ, ◌+◌, ◌^◌, ◌<◌, ◌≤◌, ◌⊎◌, List, [], ◌∷◌, ◌++◌, length, take, drop, refl, sym, subst, ◌∙◌, inl, inr, arith, append_assoc, length-append}
use Rattle.std.specs.Prelude.{slice_index}
use Rattle.std.proofs.lemmas.List.{take-append-drop, take-append-le}
use Rattle.std.proofs.Math.Seq.{take-append_seam, take-append-add, get_or-append_seam}
use Rattle.t1s_capture.specs.declared.items.Why.{Why}
use Rattle.t1s_capture.specs.declared.items.Why.TheVariants.{Truncated, TooLong}
use Rattle.t1s_capture.specs.Captures.{IsCapture, IsCapturePrefix}
use Rattle.t1s_capture.specs.Offences.{IsFirstOf, reasons, Breaks, IsFirstOffence, Broken, Overlong, Short}

-- what begins a capture does so with less of it too
pub shorter : (octets more : List ℕ) → IsCapturePrefix (octets ++ more) → IsCapturePrefix octets
shorter octets more h = (more ++ h.0, subst (λ (o : List ℕ). IsCapture o) (append_assoc octets more h.0) h.1)

pub parts_begin : (octets : List ℕ) (n : ℕ) → IsCapturePrefix octets → IsCapturePrefix (take n octets)
parts_begin octets n h = shorter (take n octets) (drop n octets) (subst (λ (o : List ℕ). IsCapturePrefix o) (sym (take-append-drop n octets)) h)

-- so it breaks nowhere
pub unbroken : (octets : List ℕ) (n : ℕ) → IsCapturePrefix octets → Breaks octets n → ⊥
unbroken octets n h k = k.after (parts_begin octets (n + 1) h)

-- what a first offence at the last octet says
abbrev pub OffendsHere : List ℕ → ℕ → Why → Type 0
OffendsHere octets octet why =
    ((length octets < 2 ^ 30) × (IsCapturePrefix (octets ++ octet ∷ []) → ⊥) × IsFirstOf reasons octets octet why) ⊎ ((length octets ≡ 2 ^ 30) × (why ≡ TooLong))

module _ (octets : List ℕ) (octet : ℕ) (begins : IsCapturePrefix octets) where
  -- nor does one octet more break it any earlier
  unbroken_before : (m : ℕ) → m < length octets → Breaks (octets ++ octet ∷ []) m → ⊥
  unbroken_before m lt k =
      k.after (subst (λ (o : List ℕ). IsCapturePrefix o) (sym (take-append-le (m + 1) octets (octet ∷ []) (omega arith))) (parts_begin octets (m + 1) begins))

  all_taken : take (length octets + 1) (octets ++ octet ∷ []) ≡ octets ++ octet ∷ []
  all_taken = take-append-add octets (octet ∷ []) 1

  pub broken_here : (why : Why) → length octets < 2 ^ 30 → (IsCapturePrefix (octets ++ octet ∷ []) → ⊥) → IsFirstOf reasons octets octet why →
      IsFirstOffence (octets ++ octet ∷ []) (length octets) why
  broken_here why short no_longer reason =
      Broken short
      (record {
        breaks = record {
          within = omega (arith, length-append octets (octet ∷ []));
          before = subst (λ (o : List ℕ). IsCapturePrefix o) (sym (take-append_seam octets (octet ∷ []))) begins;
          after = λ h. no_longer (subst (λ (o : List ℕ). IsCapturePrefix o) all_taken h);
        };
        least = λ m lt k. unbroken_before m lt k;
      })
      (subst (λ (o : List ℕ). IsFirstOf reasons o (slice_index (octets ++ octet ∷ []) (length octets)) why) (sym (take-append_seam octets (octet ∷ [])))
      (subst (λ (o : ℕ). IsFirstOf reasons octets o why) (sym (get_or-append_seam octets octet [] 0)) reason))

  pub too_long_here : length octets ≡ 2 ^ 30 → IsFirstOffence (octets ++ octet ∷ []) (length octets) TooLong
  too_long_here e =
      Overlong (omega (arith, length-append octets (octet ∷ [])))
      (λ m lt k. unbroken_before m (omega arith) k.breaks) e refl

  pub offends_here : (n : ℕ) (why : Why) → n ≡ length octets → IsFirstOffence (octets ++ octet ∷ []) n why → OffendsHere octets octet why
  offends_here n why e (Broken short first reason) =
      let k = first.breaks in
      let r = subst (λ (i : ℕ). IsFirstOf reasons (take i (octets ++ octet ∷ [])) (slice_index (octets ++ octet ∷ []) i) why) e reason in
      let r' = subst (λ (o : List ℕ). IsFirstOf reasons o (slice_index (octets ++ octet ∷ []) (length octets)) why) (take-append_seam octets (octet ∷ [])) r in
      inl (
        omega arith,
        (λ h. k.after (subst (λ (i : ℕ). IsCapturePrefix (take (i + 1) (octets ++ octet ∷ []))) (sym e) (subst (λ (o : List ℕ). IsCapturePrefix o) (sym all_taken) h))),
        subst (λ (o : ℕ). IsFirstOf reasons octets o why) (get_or-append_seam octets octet [] 0) r',
      )
  offends_here n why e (Overlong long unbroken' at is) = inr (omega arith, is)
  offends_here n why e (Short short unbroken' no_capture at is) = absurd (omega (arith, length-append octets (octet ∷ [])))

-- one reason is the first
pub one_reason : (rows : List Why) (octets : List ℕ) (octet : ℕ) (v w : Why) → IsFirstOf rows octets octet v → IsFirstOf rows octets octet w → v ≡ w
one_reason [] octets octet v w h k = absurd h
one_reason (r ∷ rows) octets octet v w (inl h) (inl k) = h.1 ∙ sym k.1
one_reason (r ∷ rows) octets octet v w (inl h) (inr k) = absurd (k.0 h.0)
one_reason (r ∷ rows) octets octet v w (inr h) (inl k) = absurd (h.0 k.0)
one_reason (r ∷ rows) octets octet v w (inr h) (inr k) = one_reason rows octets octet v w h.1 k.1

-- the end of octets that begin a capture and are none
pub short_here : (octets : List ℕ) → length octets ≤ 2 ^ 30 → IsCapturePrefix octets → (IsCapture octets → ⊥) → IsFirstOffence octets (length octets) Truncated
short_here octets le begins none = Short le (λ m k. unbroken octets m begins k.breaks) none refl refl

pub offends_at_end : (octets : List ℕ) (n : ℕ) (why : Why) → length octets ≤ 2 ^ 30 → IsCapturePrefix octets → IsFirstOffence octets n why →
    (IsCapture octets → ⊥) × (n ≡ length octets) × (why ≡ Truncated)
offends_at_end octets n why le begins (Broken short first reason) = absurd (unbroken octets n begins first.breaks)
offends_at_end octets n why le begins (Overlong long unbroken' at is) = absurd (omega arith)
offends_at_end octets n why le begins (Short short unbroken' none at is) = (none, at, is)
