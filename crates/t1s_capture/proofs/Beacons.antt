-- A beacon alone between two gaps, whose octets are stepped in one go.
use Rattle.std.proofs.Common.{◌≡◌, ℕ, ◌+◌, ◌<◌, ◌≤◌, ◌^◌, List, length, get_or, Bool, true, refl, sym, ap, subst, ◌∙◌, arith, if◌then◌else◌}
use Rattle.std.specs.Prelude.{◌==◌}
use Rattle.std.proofs.lemmas.Bool.{ne_eqb}
use Rattle.t1s_symbols.specs.declared.Symbol.TheVariants.{N}
use Rattle.t1s_symbols.specs.GroupTable.{symbol}
use Rattle.t1s_grammar.specs.declared.place.Phase.TheVariants.{Beacon}
use Rattle.t1s_capture.specs.declared.items.Why.TheVariants.{CountZero}
use Rattle.t1s_capture.specs.declared.stage.OctetKind.{OctetKind}
use Rattle.t1s_capture.specs.declared.stage.OctetKind.TheVariants.{Known}
use Rattle.t1s_capture.specs.declared.stage.CountSoFar.TheVariants.{Nothing, One, Two, Three}
use Rattle.t1s_capture.specs.declared.stage.BurstSoFar.{BurstSoFar}
use Rattle.t1s_capture.specs.declared.stage.Stage.{Stage}
use Rattle.t1s_capture.specs.declared.stage.Stage.TheVariants.{InGap, InBurst}
use Rattle.t1s_capture.specs.declared.progress.Progress.{Progress}
use Rattle.t1s_capture.specs.declared.decoder.Next.{Next}
use Rattle.t1s_capture.specs.declared.decoder.Next.TheVariants.{More}
use Rattle.t1s_capture.specs.State.{DecoderState}
use Rattle.t1s_capture.specs.DecodedItems.{BeaconItem}
use Rattle.t1s_capture.specs.DecoderTable.{burst_step_by, count_of, no_burst, octet_kind, refuses, stage_step, with_beacon, with_ticks, yields}
use Rattle.t1s_capture.specs.StepAnswers.{IsBeacon, IsSteppedTo, beacon_ends, counted, decoder_at}
use Rattle.t1s_capture.proofs.Feeding.{IsFedTo, more_at, none_yet, stepped_at}

kind_of_n : octet_kind 8 ≡ Known N
unfolding symbol
kind_of_n = refl

-- the progress with the last octet of the count of a gap
abbrev with_gap : Progress → ℕ → Progress
with_gap p n = record { taken = p.taken + 1; counts = with_ticks p.counts n; reader = p.reader }

-- so many N after a gap
abbrev n_burst : ℕ → BurstSoFar
n_burst k = record { place = Beacon k; symbols = k; closed = 0; after_gap = true }

module _ (d : DecoderState) (os : List ℕ) (i : ℕ) (p : Progress) (stage : Stage) (so_far : IsFedTo d os i p stage)
    (within : i < length os) (below : p.taken < 2 ^ 30) where
  -- one octet more, at which nothing is handed out
  on : (o : ℕ) (q : Progress) (next : Stage) → get_or os i 0 ≡ o → More (decoder_at q next) ≡ stage_step stage p o
      → IsFedTo d os (i + 1) q next
  on o q next is leads =
      more_at d os i q next (stepped_at d os i p stage so_far (More (decoder_at q next)) within (λ full. omega (arith, full, below))
      (leads ∙ ap (λ (n : ℕ). stage_step stage p n) (sym is)))

gap_leads : (p : Progress) (a b c e n : ℕ) → n ≡ count_of a b c e → (n ≡ 0 → ⊥)
    → More (decoder_at (with_gap p n) (InBurst (no_burst true))) ≡ stage_step (InGap (Three a b c)) p e
gap_leads p a b c e n is some =
    sym (ap (λ (z : Bool). if z then refuses p CountZero else More (decoder_at (with_gap p n) (InBurst (no_burst true)))) (ne_eqb n 0 some))
    ∙ ap (λ (m : ℕ). if m == 0 then refuses p CountZero else More (decoder_at (with_gap p m) (InBurst (no_burst true)))) is

next_n : (p : Progress) (burst : BurstSoFar) (next : Next) → next ≡ burst_step_by (Known N) p burst → next ≡ stage_step (InBurst burst) p 8
next_n p burst next is = is ∙ ap (λ (k : OctetKind). burst_step_by k p burst) (sym kind_of_n)

-- the octets from the count of a gap to the first octet of the next one
pub beacon_at : (p : Progress) (os : List ℕ) (n : ℕ) → IsBeacon os → p.taken + 10 ≤ 2 ^ 30
    → n ≡ count_of (get_or os 0 0) (get_or os 1 0) (get_or os 2 0) (get_or os 3 0) → (n ≡ 0 → ⊥)
    → IsSteppedTo (decoder_at p (InGap Nothing)) os 9 (beacon_ends p n)
beacon_at p os n beacon room is some =
    let d = decoder_at p (InGap Nothing) in
    let a = get_or os 0 0 in
    let b = get_or os 1 0 in
    let c = get_or os 2 0 in
    let p1 = counted p in
    let p2 = counted p1 in
    let p3 = counted p2 in
    let p4 = with_gap p3 n in
    let p5 = counted p4 in
    let p6 = counted p5 in
    let p7 = counted p6 in
    let p8 = counted p7 in
    let p9 = counted p8 in
    let long = beacon.long in
    let f0 : IsFedTo d os 0 p (InGap Nothing) = none_yet d os p (InGap Nothing) refl in
    let f1 : IsFedTo d os 1 p1 (InGap (One a)) = on d os 0 p (InGap Nothing) f0 (omega (arith, long)) (omega (arith, room)) a p1 (InGap (One a)) refl refl in
    let f2 : IsFedTo d os 2 p2 (InGap (Two a b)) = on d os 1 p1 (InGap (One a)) f1 (omega (arith, long)) (omega (arith, room)) b p2 (InGap (Two a b)) refl refl in
    let f3 : IsFedTo d os 3 p3 (InGap (Three a b c)) = on d os 2 p2 (InGap (Two a b)) f2 (omega (arith, long)) (omega (arith, room)) c p3 (InGap (Three a b c)) refl refl in
    let f4 : IsFedTo d os 4 p4 (InBurst (no_burst true)) =
    on d os 3 p3 (InGap (Three a b c)) f3 (omega (arith, long)) (omega (arith, room)) (get_or os 3 0) p4 (InBurst (no_burst true)) refl
    (gap_leads p3 a b c (get_or os 3 0) n is some) in
    let f5 : IsFedTo d os 5 p5 (InBurst (n_burst 1)) =
    on d os 4 p4 (InBurst (no_burst true)) f4 (omega (arith, long)) (omega (arith, room)) 8 p5 (InBurst (n_burst 1)) beacon.first
    (next_n p4 (no_burst true) (More (decoder_at p5 (InBurst (n_burst 1)))) refl) in
    let f6 : IsFedTo d os 6 p6 (InBurst (n_burst 2)) =
    on d os 5 p5 (InBurst (n_burst 1)) f5 (omega (arith, long)) (omega (arith, room)) 8 p6 (InBurst (n_burst 2)) beacon.second
    (next_n p5 (n_burst 1) (More (decoder_at p6 (InBurst (n_burst 2)))) refl) in
    let f7 : IsFedTo d os 7 p7 (InBurst (n_burst 3)) =
    on d os 6 p6 (InBurst (n_burst 2)) f6 (omega (arith, long)) (omega (arith, room)) 8 p7 (InBurst (n_burst 3)) beacon.third
    (next_n p6 (n_burst 2) (More (decoder_at p7 (InBurst (n_burst 3)))) refl) in
    let f8 : IsFedTo d os 8 p8 (InBurst (n_burst 4)) =
    on d os 7 p7 (InBurst (n_burst 3)) f7 (omega (arith, long)) (omega (arith, room)) 8 p8 (InBurst (n_burst 4)) beacon.fourth
    (next_n p7 (n_burst 3) (More (decoder_at p8 (InBurst (n_burst 4)))) refl) in
    let f9 : IsFedTo d os 9 p9 (InBurst (n_burst 5)) =
    on d os 8 p8 (InBurst (n_burst 4)) f8 (omega (arith, long)) (omega (arith, room)) 8 p9 (InBurst (n_burst 5)) beacon.fifth
    (next_n p8 (n_burst 4) (More (decoder_at p9 (InBurst (n_burst 5)))) refl) in
    let nine : p.taken + 1 + 1 + 1 + 1 + 1 + 1 + 1 + 1 + 1 ≡ p.taken + 9 = omega arith in
    subst
    (λ (t : ℕ). IsSteppedTo d os 9
    (yields (BeaconItem (p.counts.ticks + n)) (record { taken = t; counts = p.counts; reader = p.reader })
    (with_beacon (with_ticks (with_ticks p.counts n) 20)) (InGap Nothing))) nine
    (stepped_at d os 9 p9 (InBurst (n_burst 5)) f9 _ (omega (arith, long)) (λ full. omega (arith, full, room))
    (ap (λ (o : ℕ). stage_step (InBurst (n_burst 5)) p9 o) (sym beacon.gap)))
