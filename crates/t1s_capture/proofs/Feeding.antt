-- A piece that is fed, octet by octet.
use Rattle.std.proofs.Common.{◌≡◌, ℕ, suc, ◌+◌, ◌<◌, ◌≤◌, List, [], ◌∷◌, ◌++◌, length, drop, refl, sym, ap, subst, ◌∙◌, arith, append_assoc, Bool, get_or, if◌then◌else◌, ◌^◌}
use Rattle.std.specs.Prelude.{All, ◌↔◌}
use Rattle.std.proofs.lemmas.Bool.{ne_eqb, eq-eqb}
use Rattle.std.proofs.lemmas.List.{append-nil, drop-drop}
use Rattle.std.proofs.Math.ListN.{drop_of_length-le}
use Rattle.std.proofs.Math.Seq.{drop-cons}
use Rattle.std.proofs.lemmas.List.Elements.{All-head, All-tail}
use Rattle.t1s_capture.specs.declared.items.Refusal.{Refusal}
use Rattle.t1s_capture.specs.declared.decoder.Next.{Next}
use Rattle.t1s_capture.specs.declared.decoder.Next.TheVariants.{More, Held, Refused}
use Rattle.t1s_capture.specs.declared.items.Why.TheVariants.{TooLong}
use Rattle.t1s_capture.specs.declared.progress.Progress.{Progress}
use Rattle.t1s_capture.specs.declared.stage.Stage.{Stage}
use Rattle.t1s_capture.specs.State.{DecoderState, HeldState}
use Rattle.t1s_capture.specs.Stands.{Stands}
use Rattle.t1s_capture.specs.Offences.{IsFirstOffence}
use Rattle.t1s_capture.specs.DecodedItems.{IsItemOctet}
use Rattle.t1s_capture.specs.Answers.{YieldsItem, StandsAfter, GoesOn, IsFed}
use Rattle.t1s_capture.specs.DecoderTable.{advance, fed, feed_on, refuses, stage_step}
use Rattle.t1s_capture.specs.StepAnswers.{IsSteppedTo, after_octets, decoder_at}
use Rattle.t1s_capture.proofs.Steps.{begins, step_item, step_refused, step_stands}

abbrev IsOctet : ℕ → Type 0
IsOctet o = o < 256

-- one octet is all that is stepped
fed_one : (before : List ℕ) (o : ℕ) (rest : List ℕ) (d : DecoderState) (next : Next) → Stands before d → o < 256 → advance d o ≡ next
    → (GoesOn next → rest ≡ []) → IsFed before (o ∷ rest) 1 next
fed_one before o rest d next s low e whole =
    let same : before ++ [] ≡ before = append-nil before in
    record {
      silent = [];
      last = o;
      rest = rest;
      piece_is = refl;
      counted = refl;
      none = tt;
      item = λ item.
          subst (λ (b : List ℕ). YieldsItem next item ↔ IsItemOctet b o item) (sym same)
          (subst (λ (n : Next). YieldsItem n item ↔ IsItemOctet before o item) e (step_item before o d s low item));
      refused = λ r.
          subst (λ (b : List ℕ). (next ≡ Refused r) ↔ ((r.offset ≡ length b) × IsFirstOffence (b ++ o ∷ []) r.offset r.why)) (sym same)
          (subst (λ (n : Next). (n ≡ Refused r) ↔ ((r.offset ≡ length before) × IsFirstOffence (before ++ o ∷ []) r.offset r.why)) e
          (step_refused before o d s low r));
      goes_on =
          subst (λ (b : List ℕ). StandsAfter (b ++ o ∷ []) next) (sym same)
          (subst (λ (n : Next). StandsAfter (before ++ o ∷ []) n) e (step_stands before o d s low));
      whole = whole;
    }

-- an octet at which nothing happens, and those that are fed after it
fed_more : (before : List ℕ) (o : ℕ) (piece : List ℕ) (count : ℕ) (d e : DecoderState) (next : Next) → Stands before d → o < 256 → advance d o ≡ More e
    → IsFed (before ++ o ∷ []) piece count next → IsFed before (o ∷ piece) (suc count) next
fed_more before o piece count d e next s low is h =
    let same : (before ++ o ∷ []) ++ h.silent ≡ before ++ o ∷ h.silent = append_assoc before (o ∷ []) h.silent in
    let stands : Stands (before ++ o ∷ []) e = subst (λ (n : Next). StandsAfter (before ++ o ∷ []) n) is (step_stands before o d s low) in
    record {
      silent = o ∷ h.silent;
      last = h.last;
      rest = h.rest;
      piece_is = ap (λ (xs : List ℕ). o ∷ xs) h.piece_is;
      counted = omega (arith, h.counted);
      none = (
        record {
          no_item = λ item k. subst (λ (n : Next). YieldsItem n item) is ((step_item before o d s low item).1 k);
          begins = begins (before ++ o ∷ []) e stands;
        },
        h.none,
      );
      item = λ item. subst (λ (b : List ℕ). YieldsItem next item ↔ IsItemOctet b h.last item) same (h.item item);
      refused = λ r.
          subst (λ (b : List ℕ). (next ≡ Refused r) ↔ ((r.offset ≡ length b) × IsFirstOffence (b ++ h.last ∷ []) r.offset r.why)) same (h.refused r);
      goes_on = subst (λ (b : List ℕ). StandsAfter (b ++ h.last ∷ []) next) same h.goes_on;
      whole = h.whole;
    }

pub fed_is : (piece before : List ℕ) (d : DecoderState) → Stands before d → 1 ≤ length piece → All IsOctet piece
    → IsFed before piece (fed d piece).0 (fed d piece).1
fed_is [] before d s some low = absurd (omega arith)
fed_is (o ∷ piece) before d s some low =
    by_next (λ e t. fed_is piece (before ++ o ∷ []) e t) piece refl (advance d o) refl
  where
    here : o < 256
    here = All-head IsOctet o piece low

    P : List ℕ → Next → Type 0
    P xs n = IsFed before (o ∷ xs) (feed_on n (λ e. fed e xs)).0 (feed_on n (λ e. fed e xs)).1

    by_next : ((e : DecoderState) → Stands (before ++ o ∷ []) e → 1 ≤ length piece → All IsOctet piece
        → IsFed (before ++ o ∷ []) piece (fed e piece).0 (fed e piece).1)
        → (xs : List ℕ) → piece ≡ xs → (n : Next) → advance d o ≡ n
        → IsFed before (o ∷ xs) (feed_on n (λ e. fed e xs)).0 (feed_on n (λ e. fed e xs)).1
    by_next others [] k (More e) is = fed_one before o [] d (More e) s here is (λ _. refl)
    by_next others (x ∷ xs) k (More e) is =
        fed_more before o (x ∷ xs) (fed e (x ∷ xs)).0 d e (fed e (x ∷ xs)).1 s here is
        (subst (λ (ys : List ℕ). 1 ≤ length ys → All IsOctet ys → IsFed (before ++ o ∷ []) ys (fed e ys).0 (fed e ys).1) k
        (others e (subst (λ (n : Next). StandsAfter (before ++ o ∷ []) n) is (step_stands before o d s here)))
        (omega arith) (subst (λ (ys : List ℕ). All IsOctet ys) k (All-tail IsOctet o piece low)))
    by_next others xs k (Held held) is = fed_one before o xs d (Held held) s here is (λ z. absurd z)
    by_next others xs k (Refused r) is = fed_one before o xs d (Refused r) s here is (λ z. absurd z)

-- ---- how many octets are stepped

fed-some : (d : DecoderState) (o : ℕ) (os : List ℕ) → 1 ≤ (fed d (o ∷ os)).0
fed-some d o os = by_next (advance d o)
  where
    by_next : (n : Next) → 1 ≤ (feed_on n (λ e. fed e os)).0
    by_next (More e) = omega arith
    by_next (Held held) = omega arith
    by_next (Refused r) = omega arith

pub fed-least : (d : DecoderState) (piece : List ℕ) → 1 ≤ length piece → 1 ≤ (fed d piece).0
fed-least d [] some = absurd (omega arith)
fed-least d (o ∷ os) some = fed-some d o os

pub fed-most : (piece : List ℕ) (d : DecoderState) → (fed d piece).0 ≤ length piece
fed-most [] d = omega arith
fed-most (o ∷ os) d = by_next (λ e. fed-most os e) (advance d o)
  where
    by_next : ((e : DecoderState) → (fed e os).0 ≤ length os) → (n : Next) → (feed_on n (λ e. fed e os)).0 ≤ suc (length os)
    by_next others (More e) = let h = others e in omega arith
    by_next others (Held held) = omega arith
    by_next others (Refused r) = omega arith

-- one octet alone
pub fed-one : (d : DecoderState) (o : ℕ) → (fed d (o ∷ [])).1 ≡ advance d o
fed-one d o = by_next (advance d o)
  where
    by_next : (n : Next) → (feed_on n (λ e. fed e [])).1 ≡ n
    by_next (More e) = refl
    by_next (Held held) = refl
    by_next (Refused r) = refl

-- ---- the loop over a piece

pub after_none : (x : ℕ × Next) → x ≡ after_octets 0 x
after_none x = let none : 0 + x.0 ≡ x.0 = omega arith in ap (λ (n : ℕ). (n, x.1)) (sym none)

-- so far: the octets before place i were stepped, and the decoder is here
abbrev pub IsFedTo : DecoderState → List ℕ → ℕ → Progress → Stage → Type 0
IsFedTo d piece i p stage = fed d piece ≡ after_octets i (fed (decoder_at p stage) (drop i piece))

module _ (d : DecoderState) (piece : List ℕ) (i : ℕ) (p : Progress) (stage : Stage) (so_far : IsFedTo d piece i p stage) where
  next_at : (next : Next) → i < length piece → advance (decoder_at p stage) (get_or piece i 0) ≡ next
      → fed d piece ≡ after_octets i (feed_on next (λ e. fed e (drop (suc i) piece)))
  next_at next within is =
      so_far
      ∙ ap (λ (os : List ℕ). after_octets i (fed (decoder_at p stage) os)) (drop-cons piece i 0 within)
      ∙ ap (λ (n : Next). after_octets i (feed_on n (λ e. fed e (drop (suc i) piece)))) is

  stage_next : (next : Next) → (p.taken ≡ 2 ^ 30 → ⊥) → next ≡ stage_step stage p (get_or piece i 0)
      → advance (decoder_at p stage) (get_or piece i 0) ≡ next
  stage_next next below is =
      ap (λ (b : Bool). if b then refuses p TooLong else stage_step stage p (get_or piece i 0)) (ne_eqb p.taken (2 ^ 30) below) ∙ sym is

  pub limit_at : i < length piece → p.taken ≡ 2 ^ 30 → (i + 1, refuses p TooLong) ≡ fed d piece
  limit_at within full =
      sym (next_at (refuses p TooLong) within
      (ap (λ (b : Bool). if b then refuses p TooLong else stage_step stage p (get_or piece i 0)) (eq-eqb p.taken (2 ^ 30) full)))

  -- the octet at place i is stepped
  pub stepped_at : (next : Next) → i < length piece → (p.taken ≡ 2 ^ 30 → ⊥) → next ≡ stage_step stage p (get_or piece i 0)
      → IsSteppedTo d piece i next
  stepped_at next within below is = next_at next within (stage_next next below is)

  -- more octets are stepped in one go
  pub stepped_on : (k : ℕ) (next : Next) → IsSteppedTo (decoder_at p stage) (drop i piece) k next → IsSteppedTo d piece (i + k) next
  stepped_on k next is =
      let places : i + suc k ≡ suc (i + k) = omega arith in
      so_far
      ∙ ap (λ (x : ℕ × Next). after_octets i x) is
      ∙ ap (λ (os : List ℕ). after_octets i (after_octets k (feed_on next (λ e. fed e os)))) (drop-drop (suc k) i piece)
      ∙ ap (λ (n : ℕ). after_octets i (after_octets k (feed_on next (λ e. fed e (drop n piece))))) places
      ∙ twice (feed_on next (λ e. fed e (drop (suc (i + k)) piece)))
    where
      twice : (x : ℕ × Next) → after_octets i (after_octets k x) ≡ after_octets (i + k) x
      twice x = let e : i + (k + x.0) ≡ i + k + x.0 = omega arith in ap (λ (n : ℕ). (n, x.1)) e

  pub end_at : length piece ≤ i → i ≤ length piece → (length piece, More (decoder_at p stage)) ≡ fed d piece
  end_at over within =
      let all : i + 0 ≡ length piece = omega arith in
      ap (λ (n : ℕ). (n, More (decoder_at p stage))) (sym all)
      ∙ ap (λ (os : List ℕ). after_octets i (fed (decoder_at p stage) os)) (sym (drop_of_length-le piece over))
      ∙ sym so_far

-- ---- what a step leads to

-- nothing is stepped yet
pub none_yet : (d : DecoderState) (piece : List ℕ) (p : Progress) (stage : Stage) → d ≡ decoder_at p stage → IsFedTo d piece 0 p stage
none_yet d piece p stage is = ap (λ (x : DecoderState). fed x piece) is ∙ after_none (fed (decoder_at p stage) piece)

module _ (d : DecoderState) (piece : List ℕ) (i : ℕ) where
  pub held_at : (held : HeldState) → IsSteppedTo d piece i (Held held) → (i + 1, Held held) ≡ fed d piece
  held_at held is = sym is

  pub refused_at : (r : Refusal) → IsSteppedTo d piece i (Refused r) → (i + 1, Refused r) ≡ fed d piece
  refused_at r is = sym is

  pub more_at : (q : Progress) (other : Stage) → IsSteppedTo d piece i (More (decoder_at q other)) → IsFedTo d piece (i + 1) q other
  more_at q other is =
      let one : i + 1 ≡ suc i = omega arith in
      is
      ∙ counted (fed (decoder_at q other) (drop (suc i) piece))
      ∙ ap (λ (k : ℕ). after_octets (i + 1) (fed (decoder_at q other) (drop k piece))) (sym one)
    where
      counted : (x : ℕ × Next) → after_octets i (suc x.0, x.1) ≡ after_octets (i + 1) x
      counted x = let e : i + suc x.0 ≡ i + 1 + x.0 = omega arith in ap (λ (n : ℕ). (n, x.1)) e
