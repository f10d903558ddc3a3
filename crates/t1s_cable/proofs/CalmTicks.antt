-- What is heard in the ticks that come where nothing more is put.
use Rattle.std.proofs.Common.{◌≡◌, ◌≢◌, ℕ, zero, suc, ◌+◌, ◌-◌, ◌<◌, ◌≤◌, inl, inr, true, false, eqb, lt-ltb, le-ltb, List, [], ◌∷◌, length, Option, None, Some, is_some, refl, sym, ◌∙◌, ap, arith, rules, zero-add}
use Rattle.std.proofs.lemmas.Bool.{cases_lt, cases_eq}
use Rattle.std.proofs.lemmas.Bool.Decides.{nat_tests}
use Rattle.t1s_symbols.specs.declared.Heard.TheVariants.{Nothing}
use Rattle.t1s_symbols.specs.declared.Quarter.{Quarter}
use Rattle.t1s_harness.specs.declared.Tap.{Tap}
use Rattle.t1s_harness.specs.Distances.{between, span, tap_at}
use Rattle.t1s_harness.proofs.Distances.{between-within}
use Rattle.t1s_world.specs.Hearing.{heard_of, arriving, arriving_from, heard}
use Rattle.t1s_world.specs.World.{at_depth}
use Rattle.t1s_world.proofs.Arrivals.{one_in}
use Rattle.t1s_world.proofs.HearingLemmas.{heard_same}
use Rattle.t1s_world.proofs.SingleSender.{heard_none}
use Rattle.t1s_cable.specs.Calm.{after_silence, later, AllHearNothing, OneHears, IsCalm, IsHeardIn}
use Rattle.t1s_cable.specs.Rings.{put_at}
use Rattle.t1s_cable.specs.Silence.{IsQuiet}
use Rattle.t1s_cable.specs.State.{CableState}
use Rattle.t1s_cable.specs.Stands.{Stands, no_puts}
use Rattle.t1s_cable.proofs.Histories.{none_put, put_at_is}
use Rattle.t1s_cable.proofs.Silence.{stands_silent}

-- ---- what was put, n ticks later

later_soon : (at : ℕ → ℕ → Option Quarter) (n i d : ℕ) → d < n → later n at i d ≡ None
later_soon at n i d lt = rw (lt-ltb d n lt) refl

later_old : (at : ℕ → ℕ → Option Quarter) (n i d : ℕ) → n ≤ d → later n at i d ≡ at i (d - n)
later_old at n i d ge = rw (le-ltb d n ge) refl

pub silent_soon : (taps : List Tap) (rows : List (List (Option Quarter))) (n i d : ℕ) → d < n → at_depth (after_silence taps n rows) i d ≡ None
unfolding after_silence
silent_soon taps rows zero i d lt = absurd (omega (arith, lt))
silent_soon taps rows (suc n) i zero lt = none_put (length taps) i
silent_soon taps rows (suc n) i (suc d) lt = silent_soon taps rows n i d (omega (arith, lt))

pub silent_old : (taps : List Tap) (rows : List (List (Option Quarter))) (n i d e : ℕ) → n + e ≡ d → at_depth (after_silence taps n rows) i d ≡ at_depth rows i e
unfolding after_silence
silent_old taps rows zero i d e is = let same : d ≡ e = omega (arith, is) in rw same refl
silent_old taps rows (suc n) i zero e is = absurd (omega (arith, is))
silent_old taps rows (suc n) i (suc d) e is = silent_old taps rows n i d e (omega (arith, is))

-- a cable tells what is heard then
pub heard_later_is : (c : CableState) → length c.rings ≡ length c.taps → (rows : List (List (Option Quarter))) → Stands rows c
    → (n j : ℕ) → j < length c.taps → heard (later n (put_at c.row c.rings c.clock)) c.taps j ≡ heard (at_depth (after_silence c.taps n rows)) c.taps j
heard_later_is c sizes [] stands n j there = absurd stands
heard_later_is c sizes (row ∷ past) stands n j there =
    heard_same (span c.taps) (later n (put_at c.row c.rings c.clock)) (at_depth (after_silence c.taps n (row ∷ past))) c.taps j
    (λ i d lt close. elim (cases_lt d n) [
      | inl soon ↦ later_soon (put_at c.row c.rings c.clock) n i d soon ∙ sym (silent_soon c.taps (row ∷ past) n i d soon)
      | inr old ↦
          let back = silent_old c.taps (row ∷ past) n i d (d - n) (omega (arith, old)) in
          let kept : put_at c.row c.rings c.clock i (d - n) ≡ at_depth (row ∷ past) i (d - n) =
          rw stands.0 (put_at_is (span c.taps) c.clock c.rings past stands.1 row i (d - n) (omega (arith, sizes, lt)) (omega (arith, close))) in
          later_old (put_at c.row c.rings c.clock) n i d old ∙ (kept ∙ sym back)
    ])
    (λ k lt other. between-within c.taps j k there lt (λ e. other (sym e)))

pub calm_of : (c : CableState) → length c.rings ≡ length c.taps → (rows : List (List (Option Quarter))) → Stands rows c → (n : ℕ)
    → AllHearNothing c.taps (later n (put_at c.row c.rings c.clock)) → IsCalm c.taps (after_silence c.taps n rows)
calm_of c sizes rows stands n all j there = sym (heard_later_is c sizes rows stands n j there) ∙ all j there

pub heard_in_of : (c : CableState) → length c.rings ≡ length c.taps → (rows : List (List (Option Quarter))) → Stands rows c → (n : ℕ)
    → OneHears c.taps (later n (put_at c.row c.rings c.clock)) → IsHeardIn c.taps (after_silence c.taps n rows)
heard_in_of c sizes rows stands n (j, there, hears) = (j, there, λ none. hears (heard_later_is c sizes rows stands n j there ∙ none))

-- ---- who is heard

not_nothing : (qs : List Quarter) → 1 ≤ length qs → heard_of qs ≢ Nothing
not_nothing [] some none = omega (arith, some)
not_nothing (q ∷ []) some none = cc
not_nothing (q ∷ r ∷ qs) some none = cc

module _ (taps : List Tap) (at : ℕ → ℕ → Option Quarter) where
  -- a quarter of node i arrives at node j
  abbrev arrives : ℕ → ℕ → ℕ → Type 0
  arrives n j i = is_some (arriving (later n at) j (tap_at taps j) i (tap_at taps i)) ≡ true

  abbrev misses : ℕ → ℕ → ℕ → Type 0
  misses n j i = is_some (arriving (later n at) j (tap_at taps j) i (tap_at taps i)) ≡ false

  is_none : (o : Option Quarter) → is_some o ≡ false → o ≡ None
  is_none o e = elim o as (λ x. is_some x ≡ false → x ≡ None) [ None ↦ λ _. refl | Some q ↦ λ e. absurd (cc) ] e

  pub one_hears : (n j i : ℕ) → j < length taps → i < length taps → arrives n j i → OneHears taps (later n at)
  unfolding heard
  one_hears n j i there other is =
      (j, there, not_nothing (arriving_from (later n at) j (tap_at taps j) 0 taps) (one_in (later n at) j (tap_at taps j) 0 taps i other (rw zero-add is)))

  pub none_hears : (n : ℕ) → ((i : ℕ) → i < length taps → (j : ℕ) → j < length taps → misses n j i) → AllHearNothing taps (later n at)
  none_hears n none j there = heard_none (later n at) taps j (λ i lt. is_none _ (none i lt j there))

  -- of a node that has put nothing for so long, nothing arrives
  pub carried_misses : (busy : ℕ → ℕ) → IsQuiet (span taps) busy at → (n i : ℕ) → i < length taps → busy i ≤ n → (j : ℕ) → j < length taps → misses n j i
  carried_misses busy quiet n i here few j there = elim (cases_eq i j) [
    | inl same ↦ let own : eqb i j ≡ true = search (rules, nat_tests) in rw own refl
    | inr other ↦
        let theirs : eqb i j ≡ false = search (rules, nat_tests) in
        let d : ℕ = between (tap_at taps j) (tap_at taps i) in
        let near = between-within taps j i there here (λ e. other (sym e)) in
        elim (cases_lt d n) [
          | inl soon ↦ let none = later_soon at n i d soon in rw (theirs, none) refl
          | inr old ↦
              let none : later n at i d ≡ None = later_old at n i d old ∙ quiet i (d - n) (omega (arith, near, few, old)) in
              rw (theirs, none) refl
        ]
  ]

  -- nor of any, once all have been silent for so long
  pub all_past : (busy : ℕ) → IsQuiet (span taps) (λ (i : ℕ). busy) at → (n : ℕ) → busy ≤ n → AllHearNothing taps (later n at)
  all_past busy quiet n few = none_hears n (λ i here j there. carried_misses (λ _. busy) quiet n i here few j there)

-- ---- ticks that pass

pub silence_more : (taps : List Tap) (m n : ℕ) (rows : List (List (Option Quarter))) → after_silence taps m (after_silence taps n rows) ≡ after_silence taps (m + n) rows
unfolding after_silence
silence_more taps zero n rows = rw zero-add refl
silence_more taps (suc m) n rows =
    let next : suc m + n ≡ suc (m + n) = omega arith in
    rw next (ap (λ (r : List (List (Option Quarter))). no_puts taps ∷ r) (silence_more taps m n rows))

-- a silent cable stays as it is
pub stays_silent : (c : CableState) → length c.row ≡ length c.taps → length c.rings ≡ length c.taps → IsQuiet (span c.taps) (λ (i : ℕ). 0) (put_at c.row c.rings c.clock)
    → (rows : List (List (Option Quarter))) → Stands rows c → (m : ℕ) → Stands (after_silence c.taps m rows) c
unfolding after_silence
stays_silent c sizes ringed quiet rows stands zero = stands
stays_silent c sizes ringed quiet rows stands (suc m) =
    stands_silent c sizes ringed quiet (after_silence c.taps m rows) (stays_silent c sizes ringed quiet rows stands m)
