-- A tick in which one node of a fit script drives: it goes on with the newest drive, or starts one.
use Rattle.std.proofs.Common.{◌≡◌, ℕ, ◌+◌, ◌<◌, ◌≤◌, inl, inr, Bool, true, false, nat_lt, ◌||◌, List, [], ◌∷◌, Option, Some, None, is_some, refl, sym, ◌∙◌, ap, subst, arith, rules}
use Rattle.std.proofs.lemmas.Bool.{cases_eq, true≢false}
use Rattle.std.proofs.lemmas.Bool.Decides.{nat_tests}
use Rattle.t1s_symbols.specs.declared.Quarter.{Quarter}
use Rattle.t1s_symbols.specs.declared.Symbol.TheVariants.{N}
use Rattle.t1s_world.specs.Schedule.{Drive, EachDrive, IsPlaced, IsWhole, started_drive}
use Rattle.t1s_script.specs.declared.script.Script.{Script}
use Rattle.t1s_line.specs.World.{driven_in}
use Rattle.t1s_turns.specs.ReceiverOverWaves.{SpellsWave, first_symbol}
use Rattle.t1s_schedule.specs.SharedLine.{owner_in}
use Rattle.t1s_schedule.proofs.SharedState.{is_drive_of, drives_in, Misses, misses_it, is_on, none_drives, each_as, each_both, FitCable, own_wave, IsSpelled, SharedAt, spells_as}
use Rattle.t1s_schedule.proofs.SharedTurns.{first_quarter, Chained, older_over, begun, DrivesBy, continues, starts}

-- a drive with tick t
abbrev with_tick : ℕ → Drive → Drive
with_tick t a = record a { stop = t + 1 }

-- a first quarter spells its drive
first_spells : (s : Script) (i x t : ℕ) (beacon : Bool) (m : ℕ) → m ≡ 0
    → SpellsWave (own_wave s (started_drive i beacon x t)) m (first_quarter beacon)
first_spells s i x t beacon m e = record { symbol = 0; part = omega (arith, e); low = omega arith; first = λ few. refl; other = by beacon }
  where
    by : (f : Bool) → f ≡ false → first_symbol f ≡ N → ⊥
    by true no_beacon e = absurd (true≢false no_beacon)
    by false no_beacon e = absurd (cc)

module _ (s : Script) (z : ℕ) (fit : FitCable s z) (t : ℕ) (i : ℕ) (q : Quarter) (driven : driven_in s i t ≡ Some q)
    (rest : (k : ℕ) → (i ≡ k → ⊥) → driven_in s k t ≡ None) where
  -- what is driven in tick t is what the newest drive says that has it
  covers_now : (b : Drive) (older : List Drive) → b.node ≡ i → b.start ≤ t → t < b.stop → EachDrive (λ (d : Drive). d.stop ≤ t) older
      → (k : ℕ) → is_some (driven_in s k t) ≡ drives_in (b ∷ older) k t
  covers_now b older mine from before past k = elim (cases_eq i k) [
    | inl same ↦
        let on = is_on b k t (mine ∙ same) from before in
        let drove = ap (λ (o : Option Quarter). is_some o) (subst (λ (n : ℕ). driven_in s n t ≡ Some q) same driven) in
        rw on drove
    | inr other ↦
        let off = misses_it b k t (λ same. absurd (other (sym mine ∙ same))) in
        let none = none_drives k t older (each_as (λ (d : Drive). d.stop ≤ t) (Misses k t) (λ d gone same. inr gone) older past) in
        rw off (ap (λ (o : Option Quarter). is_some o) (rest k other) ∙ sym none)
  ]

  -- ---- the newest drive goes on

  goes_on_chain : (a : Drive) (older : List Drive) → Chained s z fit (a ∷ older) → a.stop ≡ t → Chained s z fit (with_tick t a ∷ older)
  goes_on_chain a [] h stop = (record { node = h.0.node; some = omega (arith, h.0.some, stop) }, record { beacon = h.1.beacon; node = h.1.node; start = h.1.start })
  goes_on_chain a (b ∷ older) h stop = (
    record { node = h.0.node; some = omega (arith, h.0.some, stop) },
    record { follows = record { order = h.1.follows.order; start = h.1.follows.start }; long = h.1.long },
    h.2,
  )

  goes_on_covers : (a : Drive) (older : List Drive) → SharedAt s z t (a ∷ older) → a.node ≡ i → a.stop ≡ t → (k v : ℕ) → v < t + 1
      → is_some (driven_in s k v) ≡ drives_in (with_tick t a ∷ older) k v
  goes_on_covers a older shared mine stop k v before = elim (cases_eq v t) [
    | inl now ↦
        let start : a.start ≤ t = omega (arith, (begun s z fit t (a ∷ older) shared).0) in
        let is = covers_now (with_tick t a) older mine start (omega arith) shared.within.1 k in
        subst (λ (u : ℕ). is_some (driven_in s k u) ≡ drives_in (with_tick t a ∷ older) k u) (sym now) is
    | inr other ↦
        let b : nat_lt v a.stop ≡ true = search (rules, nat_tests, before, other, stop) in
        let c : nat_lt v (t + 1) ≡ true = search (rules, nat_tests) in
        let same : is_drive_of a k v ≡ is_drive_of (with_tick t a) k v = rw (b, c) refl in
        shared.covers k v (omega (arith, before, other)) ∙ ap (λ (x : Bool). x || drives_in older k v) same
  ]

  goes_on_spelled : (a : Drive) (m : ℕ) → IsSpelled s a → a.node ≡ i → a.stop ≡ t → a.start + m ≡ t → SpellsWave (own_wave s a) m q
      → IsSpelled s (with_tick t a)
  goes_on_spelled a m spelled mine stop at spells k lt = elim (cases_eq k m) [
    | inl same ↦
        let now : a.start + k ≡ t = omega (arith, same, at) in (
          q,
          subst (λ (n : ℕ). driven_in s n (a.start + k) ≡ Some q) (sym mine) (subst (λ (u : ℕ). driven_in s i u ≡ Some q) (sym now) driven),
          spells_as (own_wave s a) (own_wave s (with_tick t a)) k q refl (subst (λ (n : ℕ). SpellsWave (own_wave s a) n q) (sym same) spells),
        )
    | inr other ↦
        let (r, drove, is) = spelled k (omega (arith, lt, other, at, stop)) in
        (r, drove, spells_as (own_wave s a) (own_wave s (with_tick t a)) k r refl is)
  ]

  goes_on : (a : Drive) (older : List Drive) (m : ℕ) → SharedAt s z t (a ∷ older) → a.node ≡ i → a.stop ≡ t → a.start + m ≡ t
      → SpellsWave (own_wave s a) m q
      → SharedAt s z (t + 1) (with_tick t a ∷ older)
  goes_on a older m shared mine stop at spells = record {
    chain = goes_on_chain a older shared.chain stop;
    placed = (record { beacon = shared.placed.0.beacon; run = shared.placed.0.run }, shared.placed.1);
    whole = (
      λ over. absurd (omega (arith, over)),
      each_both (IsWhole t) (λ (d : Drive). d.stop < t) (IsWhole (t + 1)) (λ d whole past over. whole past) older shared.whole.1
          (older_over s z fit t a older shared.chain (omega (arith, (begun s z fit t (a ∷ older) shared).0))),
    );
    silent = λ over. absurd (omega (arith, over));
    covers = goes_on_covers a older shared mine stop;
    within = (omega arith, each_as (λ (d : Drive). d.stop ≤ t) (λ (d : Drive). d.stop ≤ t + 1) (λ d past. omega (arith, past)) older shared.within.1);
    speaks = (goes_on_spelled a m shared.speaks.0 mine stop at spells, shared.speaks.1);
  }

  -- ---- a drive starts

  starts_covers : (beacon : Bool) (x : ℕ) (ds : List Drive) → SharedAt s z t ds → (k v : ℕ) → v < t + 1
      → is_some (driven_in s k v) ≡ drives_in (started_drive i beacon x t ∷ ds) k v
  starts_covers beacon x ds shared k v before = elim (cases_eq v t) [
    | inl now ↦
        let is = covers_now (started_drive i beacon x t) ds refl (omega arith) (omega arith) shared.within k in
        subst (λ (u : ℕ). is_some (driven_in s k u) ≡ drives_in (started_drive i beacon x t ∷ ds) k u) (sym now) is
    | inr other ↦
        let off = misses_it (started_drive i beacon x t) k v (λ same. inl (omega (arith, before, other))) in
        rw off (shared.covers k v (omega (arith, before, other)))
  ]

  starts_spelled : (beacon : Bool) (x : ℕ) → q ≡ first_quarter beacon → IsSpelled s (started_drive i beacon x t)
  starts_spelled beacon x first m lt =
      let none : m ≡ 0 = omega (arith, lt) in
      let now : t + m ≡ t = omega (arith, none) in (
        q,
        subst (λ (u : ℕ). driven_in s i u ≡ Some q) (sym now) driven,
        subst (λ (p : Quarter). SpellsWave (own_wave s (started_drive i beacon x t)) m p) (sym first) (first_spells s i x t beacon m none),
      )

  starts_one : (beacon : Bool) (x : ℕ) (ds : List Drive) → SharedAt s z t ds → Chained s z fit (started_drive i beacon x t ∷ ds)
      → IsPlaced (owner_in s) s.count z (started_drive i beacon x t)
      → q ≡ first_quarter beacon → SharedAt s z (t + 1) (started_drive i beacon x t ∷ ds)
  starts_one beacon x ds shared chain placed first = record {
    chain = chain;
    placed = (placed, shared.placed);
    whole = (
      λ over. absurd (omega (arith, over)),
      each_both (IsWhole t) (λ (d : Drive). d.stop < t) (IsWhole (t + 1)) (λ d whole past over. whole past) ds shared.whole
          (older_over s z fit t (started_drive i beacon x t) ds chain (omega arith)),
    );
    silent = λ over. absurd (omega (arith, over));
    covers = starts_covers beacon x ds shared;
    within = (omega arith, each_as (λ (d : Drive). d.stop ≤ t) (λ (d : Drive). d.stop ≤ t + 1) (λ d past. omega (arith, past)) ds shared.within);
    speaks = (starts_spelled beacon x first, shared.speaks);
  }

  pub drives_on : (ds : List Drive) → SharedAt s z t ds → DrivesBy s z fit t ds i q → (next : List Drive) × SharedAt s z (t + 1) next
  drives_on ds shared (continues a older m e mine stop at spells) =
      (with_tick t a ∷ older, goes_on a older m (subst (λ (xs : List Drive). SharedAt s z t xs) e shared) mine stop at spells)
  drives_on ds shared (starts beacon x chain placed first) = (started_drive i beacon x t ∷ ds, starts_one beacon x ds shared chain placed first)
