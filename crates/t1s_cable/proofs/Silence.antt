-- When nothing was put in the newest ticks, and what a silent cable hears and keeps.
use Rattle.std.proofs.Common.{◌≡◌, ◌++◌, drop, ◌≢◌, true, false, eqb, inl, inr, map, ◌∙◌, ℕ, zero, suc, ◌+◌, ◌-◌, ◌<◌, ◌≤◌, sym, rules, List, [], ◌∷◌, length, get_or, set, take, replicate, Option, None, refl, ap, arith}
use Rattle.std.proofs.lemmas.List.{get_or-set_other}
use Rattle.std.proofs.lemmas.Bool.{cases_eq}
use Rattle.std.proofs.lemmas.Bool.Decides.{nat_tests}
use Rattle.std.proofs.lemmas.Grind.{get_or-set_at}
use Rattle.t1s_symbols.specs.declared.Heard.TheVariants.{Nothing}
use Rattle.t1s_symbols.specs.declared.Quarter.{Quarter}
use Rattle.t1s_harness.specs.declared.Tap.{Tap}
use Rattle.t1s_harness.specs.Distances.{between, span, tap_at}
use Rattle.t1s_harness.proofs.Distances.{between-within}
use Rattle.t1s_world.specs.Hearing.{arriving, heard}
use Rattle.t1s_world.specs.World.{at_depth}
use Rattle.t1s_world.proofs.HearingLemmas.{heard_same, heard_nothing}
use Rattle.circular_buffer.specs.Buffer.{Buffer, buffer}
use Rattle.t1s_cable.specs.declared.changes.Change.{Change}
use Rattle.t1s_cable.specs.Rings.{put_at}
use Rattle.t1s_cable.specs.Silence.{IsQuiet}
use Rattle.t1s_cable.specs.State.{CableState}
use Rattle.t1s_cable.specs.Stands.{Stands, TellsRows, no_puts}
use Rattle.t1s_cable.proofs.Histories.{Shifts, none_kept, none_put, put_at_is}

-- ---- a new cable

pub quiet-busy : (reach : ℕ) (at : ℕ → ℕ → Option Quarter) → IsQuiet reach (λ (i : ℕ). reach + 1) at
quiet-busy reach at i d h = absurd (omega arith)

pub quiet-new : (n room clock reach : ℕ) (busy : ℕ → ℕ) → IsQuiet reach busy (put_at (replicate n None) (replicate n (buffer [] room)) clock)
quiet-new n room clock reach busy i zero h = none_put n i
quiet-new n room clock reach busy i (suc d) h = none_kept n i (clock - suc d) room

-- ---- what a node drives is put

set_other : (row : List (Option Quarter)) (rings : List (Buffer Change)) (clock node : ℕ) (q : Option Quarter) (i d : ℕ) → i ≢ node → put_at (set row node q) rings clock i d ≡ put_at row rings clock i d
set_other row rings clock node q i zero other = get_or-set_other row node i q None other
set_other row rings clock node q i (suc d) other = refl

pub quiet_nodes-put : (reach clock : ℕ) (row : List (Option Quarter)) (rings : List (Buffer Change)) (node : ℕ) (carried : List ℕ) (q : Option Quarter) → node < length carried → IsQuiet reach (λ (i : ℕ). get_or carried i 0) (put_at row rings clock) → IsQuiet reach (λ (i : ℕ). get_or (set carried node (reach + 1)) i 0) (put_at (set row node q) rings clock)
quiet_nodes-put reach clock row rings node carried q there quiet i d h =
    elim (cases_eq i node) [
      | inl same ↦ absurd (omega (arith, get_or-set_at carried node i (reach + 1) 0 same there))
      | inr other ↦
          let near : d + get_or carried i 0 ≤ reach = omega (arith, get_or-set_other carried node i (reach + 1) 0 other) in
          set_other row rings clock node q i d other ∙ quiet i d near
    ]

-- ---- a tick ends

-- one more node counts a tick less
pub counted_more : (carried : List ℕ) (i : ℕ) → i < length carried →
    set (map (λ (k : ℕ). k - 1) (take i carried) ++ drop i carried) i (get_or (map (λ (k : ℕ). k - 1) (take i carried) ++ drop i carried) i 0 - 1)
    ≡ map (λ (k : ℕ). k - 1) (take (i + 1) carried) ++ drop (i + 1) carried
counted_more [] i lt = absurd (omega arith)
counted_more (k ∷ carried) zero lt = refl
counted_more (k ∷ carried) (suc i) lt =
    let next : suc i + 1 ≡ suc (i + 1) = omega arith in
    rw next (ap (λ (r : List ℕ). (k - 1) ∷ r) (counted_more carried i (omega arith)))

one_less : (carried : List ℕ) (i : ℕ) → get_or (map (λ (k : ℕ). k - 1) carried) i 0 ≡ get_or carried i 0 - 1
one_less [] i = refl
one_less (k ∷ carried) zero = refl
one_less (k ∷ carried) (suc i) = one_less carried i

module _ (reach : ℕ) (old new : ℕ → ℕ → Option Quarter) (shifts : Shifts reach old new) (none : (i : ℕ) → new i 0 ≡ None) where
  pub quiet-turn : (busy : ℕ → ℕ) → IsQuiet reach busy old → IsQuiet reach (λ (i : ℕ). busy i - 1) new
  quiet-turn busy quiet i zero h = none i
  quiet-turn busy quiet i (suc d) h = shifts i d (omega (arith, h)) ∙ quiet i d (omega (arith, h))

  pub quiet_nodes-turn : (carried : List ℕ) → IsQuiet reach (λ (i : ℕ). get_or carried i 0) old → IsQuiet reach (λ (i : ℕ). get_or (map (λ (k : ℕ). k - 1) carried) i 0) new
  quiet_nodes-turn carried quiet i d h =
      quiet-turn (λ (k : ℕ). get_or carried k 0) quiet i d (omega (arith, one_less carried i, h))

-- ---- a node of which all that is kept is silence

pub arriving_none : (taps : List Tap) (busy : ℕ → ℕ) (at : ℕ → ℕ → Option Quarter) → IsQuiet (span taps) busy at → (j i : ℕ) → j < length taps → i < length taps → busy i ≡ 0 → arriving at j (tap_at taps j) i (tap_at taps i) ≡ None
arriving_none taps busy at quiet j i there here none = elim (cases_eq i j) [
  | inl own ↦ let b : eqb i j ≡ true = search (rules, nat_tests) in rw b refl
  | inr other ↦
      let b : eqb i j ≡ false = search (rules, nat_tests) in
      let away : ℕ = between (tap_at taps j) (tap_at taps i) in
      let close = between-within taps j i there here (λ e. other (sym e)) in
      let silent : at i away ≡ None = quiet i away (omega (arith, close, none)) in
      rw (b, silent) refl
]

-- ---- a silent cable

all_none : (row : List (Option Quarter)) → ((i : ℕ) → get_or row i None ≡ None) → row ≡ replicate (length row) None
all_none [] none = refl
all_none (q ∷ row) none = rw (none 0, ← all_none row (λ i. none (suc i))) refl

module _ (taps : List Tap) (row : List (Option Quarter)) (rings : List (Buffer Change)) (clock : ℕ) (quiet : IsQuiet (span taps) (λ (i : ℕ). 0) (put_at row rings clock)) where
  pub row_silent : row ≡ replicate (length row) None
  row_silent = all_none row (λ i. quiet i 0 (omega arith))

  pub heard_silent : (j : ℕ) → j < length taps → heard (put_at row rings clock) taps j ≡ Nothing
  heard_silent j there =
      let nothing : ℕ → ℕ → Option Quarter = λ i d. None in
      heard_same (span taps) (put_at row rings clock) nothing taps j
      (λ i d lt close. quiet i d (omega (arith, close)))
      (λ k lt other. between-within taps j k there lt (λ e. other (sym e)))
      ∙ heard_nothing nothing taps j (λ i d h other. refl)

-- one more silent tick leaves a silent cable as it is
pub stands_silent : (c : CableState) → length c.row ≡ length c.taps → length c.rings ≡ length c.taps
    → IsQuiet (span c.taps) (λ (i : ℕ). 0) (put_at c.row c.rings c.clock) → (rows : List (List (Option Quarter))) → Stands rows c → Stands (no_puts c.taps ∷ rows) c
stands_silent c sizes ringed quiet [] stands = absurd stands
stands_silent c sizes ringed quiet (first ∷ past) stands =
    (rw (← sizes) (row_silent c.taps c.row c.rings c.clock quiet), tells)
  where
    tells : TellsRows (span c.taps) c.clock c.rings (first ∷ past)
    tells i d here near =
        let told : put_at c.row c.rings c.clock i d ≡ at_depth (first ∷ past) i d =
        rw (← stands.0) (put_at_is (span c.taps) c.clock c.rings past stands.1 c.row i d here (omega (arith, near))) in
        quiet i (suc d) (omega (arith, near)) ∙ (sym (quiet i d (omega (arith, near))) ∙ told)
