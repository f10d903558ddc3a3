-- One tick of a fit script's run: the drives so far are a schedule again, with one that goes on or starts, or as they were.
use Rattle.std.proofs.Common.{◌≡◌, ℕ, zero, suc, ◌+◌, ◌<◌, ◌≤◌, ◌⊎◌, inl, inr, List, [], length, Option, Some, None, refl, sym, subst, arith, add-one}
use Rattle.std.proofs.lemmas.Bool.{cases_lt, cases_eq}
use Rattle.std.proofs.lemmas.List.{length-map}
use Rattle.t1s_symbols.specs.declared.Quarter.{Quarter}
use Rattle.t1s_world.specs.Schedule.{Drive}
use Rattle.t1s_world.proofs.WorldLemmas.{driven_past}
use Rattle.t1s_script.specs.declared.script.Script.{Script}
use Rattle.t1s_script.specs.Taps.{taps_of}
use Rattle.t1s_line.specs.World.{machine_of, first_track, first_tracks, driven_in}
use Rattle.t1s_schedule.proofs.SharedState.{FitCable, SharedAt}
use Rattle.t1s_schedule.proofs.QuietTicks.{stays}
use Rattle.t1s_schedule.proofs.DrivenTicks.{drives_on}
use Rattle.t1s_schedule.proofs.SharedTurns.{DrivesBy, one_driver, drives_now}

quarter_cases : (o : Option Quarter) → (o ≡ None) ⊎ ((q : Quarter) × (o ≡ Some q))
quarter_cases None = inl refl
quarter_cases (Some q) = inr (q, refl)

module _ (s : Script) (z : ℕ) (fit : FitCable s z) (t : ℕ) where
  -- ---- who drives

  abbrev NoneDrives : Type 0
  NoneDrives = (i : ℕ) → driven_in s i t ≡ None

  no_node : (i : ℕ) → length s.nodes ≤ i → driven_in s i t ≡ None
  no_node i past = driven_past (machine_of s) (taps_of s) (first_tracks s) t i (omega (arith, past, length-map s.nodes (first_track s)))

  first_driver : (k : ℕ) → ((i : ℕ) → i < k → driven_in s i t ≡ None) ⊎ ((i : ℕ) × (q : Quarter) × (i < k) × (driven_in s i t ≡ Some q))
  first_driver zero = inl (λ i lt. absurd (omega (arith, lt)))
  first_driver (suc k) = elim (quarter_cases (driven_in s k t)) [
    | inr (q, e) ↦ inr (k, q, omega arith, e)
    | inl silent ↦ elim (first_driver k) [
      | inr (i, q, lt, e) ↦ inr (i, q, omega (arith, lt), e)
      | inl none ↦ inl (λ i lt. elim (cases_eq i k) [
        | inl same ↦ subst (λ (n : ℕ). driven_in s n t ≡ None) (sym same) silent
        | inr other ↦ none i (omega (arith, lt, other))
      ])
    ]
  ]

  driver : NoneDrives ⊎ ((i : ℕ) × (q : Quarter) × (i < length s.nodes) × (driven_in s i t ≡ Some q))
  driver = elim (first_driver (length s.nodes)) [
    | inr found ↦ inr found
    | inl none ↦ inl (λ i. elim (cases_lt i (length s.nodes)) [ inl lt ↦ none i lt | inr past ↦ no_node i past ])
  ]

  -- beside a node that drives no other does
  others_rest : (ds : List Drive) → SharedAt s z t ds → (i : ℕ) (q : Quarter) → DrivesBy s z fit t ds i q → (k : ℕ) → (i ≡ k → ⊥)
      → driven_in s k t ≡ None
  others_rest ds shared i q drives k other = elim (quarter_cases (driven_in s k t)) [
    | inl silent ↦ silent
    | inr (r, e) ↦ elim (cases_lt k (length s.nodes)) [
      | inl within ↦ absurd (other (one_driver s z fit t ds i k q r drives (drives_now s z fit t ds shared k within r e)))
      | inr past ↦ no_node k past
    ]
  ]

  -- ---- the drives so far, one tick on

  pub one_tick : (ds : List Drive) → SharedAt s z t ds → (next : List Drive) × SharedAt s z (t + 1) next
  one_tick ds shared = elim driver [
    | inl none ↦ (ds, stays s z fit t none ds shared)
    | inr (i, q, within, e) ↦
        let drives = drives_now s z fit t ds shared i within q e in
        drives_on s z fit t i q e (others_rest ds shared i q drives) ds shared drives
  ]

module _ (s : Script) (z : ℕ) (fit : FitCable s z) where
  pub at_first : SharedAt s z 0 []
  at_first = record {
    chain = tt;
    placed = tt;
    whole = tt;
    silent = omega arith;
    covers = λ i v before. absurd (omega (arith, before));
    within = tt;
    speaks = tt;
  }

  pub so_far : (t : ℕ) → (ds : List Drive) × SharedAt s z t ds
  so_far zero = ([], at_first)
  so_far (suc t) =
      let (ds, shared) = so_far t in
      rw (← add-one t) (one_tick s z fit t ds shared)
