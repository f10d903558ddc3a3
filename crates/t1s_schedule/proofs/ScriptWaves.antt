-- The drives of a fit script so far are waves at each node, which hears them and drives in its own.
use Rattle.std.proofs.Common.{◌≡◌, ℕ, ◌+◌, ◌-◌, ◌*◌, ◌<◌, ◌≤◌, ◌⊎◌, inl, inr, Bool, true, false, ◌||◌, nat_lt, ◌==◌, List, [], ◌∷◌, length, Option, Some, None, is_some, slice_get, refl, sym, ◌∙◌, ap, subst, arith, rules}
use Rattle.std.proofs.lemmas.Bool.{cases_lt, cases_eq}
use Rattle.std.proofs.lemmas.Bool.Decides.{nat_tests}
use Rattle.std.proofs.lemmas.List.{length-map}
use Rattle.std.proofs.lemmas.Option.{slice_get_within}
use Rattle.t1s_base.specs.NodeIds.{has_id}
use Rattle.t1s_harness.specs.Distances.{distance}
use Rattle.t1s_harness.proofs.Distances.{distance_symm, far_point}
use Rattle.t1s_symbols.specs.declared.Heard.{Heard}
use Rattle.t1s_symbols.specs.declared.Heard.TheVariants.{Nothing, One}
use Rattle.t1s_symbols.specs.declared.Quarter.{Quarter}
use Rattle.t1s_world.specs.Waves.{CycleSettings, IsCycleSettings, Wave, AreBehind, AreWaves, arrived}
use Rattle.t1s_world.specs.World.{driven_at, heard_at}
use Rattle.t1s_world.specs.Schedule.{Drive, next_after, EachDrive, IsOfNode, wave_at, waves_at}
use Rattle.t1s_world.proofs.ArrivedWaves.{older}
use Rattle.t1s_world.proofs.CycleWaves.{are_waves}
use Rattle.t1s_world.proofs.ListLemmas.{get_or-map}
use Rattle.t1s_world.proofs.SingleSender.{hears_one, hears_none}
use Rattle.t1s_turns.specs.ReceiverOverWaves.{HeardOverWaves, nobody, drives, rests, theirs}
use Rattle.t1s_script.specs.declared.script.NodeLine.{NodeLine}
use Rattle.t1s_script.specs.declared.script.Script.{Script}
use Rattle.t1s_script.specs.Taps.{span_of, tap_of, taps_of}
use Rattle.t1s_line.specs.World.{machine_of, first_tracks, start_of, driven_in}
use Rattle.t1s_turns.specs.NodeOverWaves.{HearsWaves}
use Rattle.t1s_line.specs.World.{node_set_of, draws_of}
use Rattle.t1s_schedule.specs.SharedLine.{far_in, at_in, owner_in, owns_id, first_beacon}
use Rattle.t1s_schedule.proofs.NodeRuns.{given, drives_from}
use Rattle.t1s_schedule.proofs.SharedState.{is_drive_of, drives_in, Misses, misses_it, is_on, none_drives, each_as, FitCable, cycle_with, cycle_in, own_wave, IsSpelled, SharedAt, of_nodes, spells_as}

pub none_of : (o : Option Quarter) → is_some o ≡ false → o ≡ None
none_of None e = refl
none_of (Some q) e = absurd (cc)

heard_as : (v : ℕ) (xs ys : List Wave) (g h : Heard) (a b : Bool) → xs ≡ ys → g ≡ h → a ≡ b → HeardOverWaves v ys h b → HeardOverWaves v xs g a
heard_as v xs ys g h a b e f d over = rw (e, f, d) over

module _ (s : Script) (z : ℕ) (fit : FitCable s z) (j : ℕ) (line : NodeLine) (found : slice_get s.nodes j ≡ Some line) where
  pub here : j < length s.nodes
  here = slice_get_within s.nodes j line found

  -- ---- the node's own numbers

  pub cycle_is : IsCycleSettings (cycle_in s line)
  cycle_is = subst (λ (to : ℕ). IsCycleSettings (cycle_with s line to)) (fit.timers j line found) (fit.settings j line found)

  pub owns_as : (x : ℕ) → has_id line.ids x ≡ owner_in s j x
  owns_as x = ap (owns_id x) (sym found)

  pub starts_at : start_of s j ≡ line.start
  starts_at = get_or-map (λ (n : NodeLine). n.start) s.nodes j line 0 found

  pub first_is : j ≡ z → first_beacon s z ≡ line.start + 258 * s.to
  first_is e = ap (λ (k : ℕ). start_of s k + 258 * s.to) (sym e) ∙ ap (λ (b : ℕ). b + 258 * s.to) starts_at

  -- ---- the waves at its point

  -- how late a node's drive comes there
  abbrev pub way : ℕ → ℕ
  way i = far_in s i (at_in s j)

  abbrev pub wave : Drive → Wave
  wave a = wave_at next_after (far_in s) (at_in s) (at_in s j) (a.node == j) a

  abbrev pub waves : List Drive → List Wave
  waves ds = waves_at next_after (far_in s) (at_in s) j ds

  pub waves_are : (t : ℕ) (ds : List Drive) → SharedAt s z t ds → AreWaves (cycle_in s line) line.start t (waves ds)
  waves_are t ds shared =
      let n : CycleSettings = cycle_in s line in
      are_waves (far_in s) (at_in s) n cycle_is (length s.nodes) (span_of s) fit.far fit.short (owner_in s) z (first_beacon s z) fit.owners
      fit.coordinator j here owns_as line.start t first_is ds shared.chain shared.placed shared.whole shared.silent

  -- where one drive has passed, all older ones have
  all_past : (v : ℕ) (a : Drive) (ds : List Drive) → AreBehind (cycle_in s line) (waves (a ∷ ds)) → a.stop + way a.node ≤ v
      → EachDrive (λ (d : Drive). d.stop + way d.node ≤ v) (a ∷ ds)
  all_past v a [] behind past = (past, tt)
  all_past v a (b ∷ ds) behind past = (past, all_past v b ds behind.2 (omega (arith, past, behind.0, behind.1.gap)))

  older_past : (v : ℕ) (a : Drive) (ds : List Drive) → AreBehind (cycle_in s line) (waves (a ∷ ds)) → a.start + way a.node ≤ v
      → EachDrive (λ (d : Drive). d.stop + way d.node ≤ v) ds
  older_past v a [] behind come = tt
  older_past v a (b ∷ ds) behind come = all_past v b ds behind.2 (omega (arith, come, behind.1.gap))

  -- which drive passes the point in tick v: none, or one
  data Passing (v : ℕ) (ds : List Drive) : Type 0 where
    none : ((k : ℕ) → way k ≤ v → drives_in ds k (v - way k) ≡ false)
        → (arrived (v + 1) (waves ds) ≡ []) ⊎ ((w : Wave) × (rest : List Wave) × (arrived (v + 1) (waves ds) ≡ w ∷ rest) × (w.till ≤ v)) → Passing v ds
    one : (a : Drive) (rest : List Wave) → ((k : ℕ) → way k ≤ v → drives_in ds k (v - way k) ≡ (a.node == k))
        → arrived (v + 1) (waves ds) ≡ wave a ∷ rest
        → a.start + way a.node ≤ v → v < a.stop + way a.node → IsOfNode (length s.nodes) a → IsSpelled s a → Passing v ds

  not_come : (v k : ℕ) (a : Drive) → v < a.start + way a.node → way k ≤ v → Misses k (v - way k) a
  not_come v k a later near same = let e = ap (λ (i : ℕ). way i) same in inl (omega (arith, later, near, e))

  has_passed : (v k : ℕ) (a : Drive) → a.stop + way a.node ≤ v → way k ≤ v → Misses k (v - way k) a
  has_passed v k a past near same = let e = ap (λ (i : ℕ). way i) same in inr (omega (arith, past, near, e))

  none_passed : (v k : ℕ) (ds : List Drive) → EachDrive (λ (d : Drive). d.stop + way d.node ≤ v) ds → way k ≤ v → drives_in ds k (v - way k) ≡ false
  none_passed v k ds past near =
      let misses = each_as (λ (d : Drive). d.stop + way d.node ≤ v) (Misses k (v - way k)) (λ d gone. has_passed v k d gone near) ds past in
      none_drives k (v - way k) ds misses

  is_there : (v k : ℕ) (a : Drive) → a.start + way a.node ≤ v → v < a.stop + way a.node → way k ≤ v → is_drive_of a k (v - way k) ≡ (a.node == k)
  is_there v k a come on near = elim (cases_eq a.node k) [
    | inl same ↦
        let e = ap (λ (i : ℕ). way i) same in
        let b : (a.node == k) ≡ true = grind (arith, nat_tests, same) in
        is_on a k (v - way k) same (omega (arith, come, near, e)) (omega (arith, on, near, e)) ∙ sym b
    | inr other ↦
        let b : (a.node == k) ≡ false = grind (arith, nat_tests, other) in
        misses_it a k (v - way k) (λ same. absurd (other same)) ∙ sym b
  ]

  passing : (v : ℕ) (ds : List Drive) → AreBehind (cycle_in s line) (waves ds) → EachDrive (IsOfNode (length s.nodes)) ds
      → EachDrive (IsSpelled s) ds → Passing v ds
  passing v [] behind nodes spelled = none (λ k near. refl) (inl refl)
  passing v (a ∷ ds) behind nodes spelled = elim (cases_lt v (a.start + way a.node)) [
    | inl later ↦
        let b : nat_lt (a.start + way a.node) (v + 1) ≡ false = search (rules, nat_tests) in
        skip later b (passing v ds (older (cycle_in s line) (wave a) (waves ds) behind) nodes.1 spelled.1)
    | inr come ↦
        let b : nat_lt (a.start + way a.node) (v + 1) ≡ true = search (rules, nat_tests) in
        let past = older_past v a ds behind come in
        elim (cases_lt v (a.stop + way a.node)) [
          | inl on ↦
              let only : (k : ℕ) → way k ≤ v → drives_in (a ∷ ds) k (v - way k) ≡ (a.node == k) = λ k near.
              let x = is_there v k a come on near in
              let y = none_passed v k ds past near in
              rw (x, y) (or_false (a.node == k)) in
              one a (waves ds) only (rw b refl) come on nodes.0 spelled.0
          | inr gone ↦
              let idle : (k : ℕ) → way k ≤ v → drives_in (a ∷ ds) k (v - way k) ≡ false = λ k near.
              let x = misses_it a k (v - way k) (has_passed v k a gone near) in
              rw x (none_passed v k ds past near) in
              none idle (inr (wave a, waves ds, rw b refl, gone))
        ]
  ]
    where
      or_false : (x : Bool) → (x || false) ≡ x
      or_false true = refl
      or_false false = refl

      beside : (b : Bool) (k : ℕ) → v < a.start + way a.node → way k ≤ v → drives_in ds k (v - way k) ≡ b → drives_in (a ∷ ds) k (v - way k) ≡ b
      beside b k later near e = let x = misses_it a k (v - way k) (not_come v k a later near) in rw x e

      skip : v < a.start + way a.node → nat_lt (a.start + way a.node) (v + 1) ≡ false → Passing v ds → Passing v (a ∷ ds)
      skip later b (none idle (inl e)) = none (λ k near. beside false k later near (idle k near)) (inl (rw b e))
      skip later b (none idle (inr (w, rest, e, gone))) = none (λ k near. beside false k later near (idle k near)) (inr (w, rest, rw b e, gone))
      skip later b (one d rest only e come on node spells) =
          one d rest (λ k near. beside (d.node == k) k later near (only k near)) (rw b e) come on node spells

  -- ---- what it hears

  module _ (t : ℕ) (ds : List Drive) (shared : SharedAt s z t ds) (v : ℕ) (before : v < t) where
    abbrev hears : Heard
    hears = heard_at (machine_of s) (taps_of s) (first_tracks s) v j

    -- the way is the same from either end
    both_ways : (k : ℕ) → distance (taps_of s) j k ≡ way k
    both_ways k = distance_symm (taps_of s) j k ∙ sym (far_point (taps_of s) k j)

    no_way : way j ≡ 0
    no_way = fit.far.self j

    not_driven : (k : ℕ) → distance (taps_of s) j k ≤ v → drives_in ds k (v - way k) ≡ false
        → driven_at (machine_of s) (taps_of s) (first_tracks s) (v - distance (taps_of s) j k) k ≡ None
    not_driven k near e =
        let same = both_ways k in
        rw same (none_of (driven_in s k (v - way k)) (shared.covers k (v - way k) (omega (arith, before)) ∙ e))

    itself : drives_in ds j (v - way j) ≡ drives_in ds j v
    itself = let e : v - way j ≡ v = omega (arith, no_way) in ap (λ (u : ℕ). drives_in ds j u) e

    hears_nothing : ((k : ℕ) → (k ≡ j → ⊥) → way k ≤ v → drives_in ds k (v - way k) ≡ false) → hears ≡ Nothing
    hears_nothing silent =
        hears_none (machine_of s) (taps_of s) (first_tracks s) v j (λ k within other near. not_driven k near (silent k other (omega (arith, near, both_ways k))))

    own_drive : drives_in ds j v ≡ is_some (driven_in s j v)
    own_drive = sym (shared.covers j v before)

    abbrev come : List Wave
    come = arrived (v + 1) (waves ds)

    abbrev own : Bool
    own = drives_in ds j v

    heard_by : Passing v ds → HeardOverWaves v come hears own
    heard_by (none idle (inl e)) =
        let silent = hears_nothing (λ k other near. idle k near) in
        heard_as v come [] hears Nothing own false e silent (sym itself ∙ idle j (omega (arith, no_way))) nobody
    heard_by (none idle (inr (w, rest, e, gone))) =
        let silent = hears_nothing (λ k other near. idle k near) in
        heard_as v come (w ∷ rest) hears Nothing own false e silent (sym itself ∙ idle j (omega (arith, no_way))) (rests {w = w} {ws = rest} gone)
    heard_by (one a rest only e there on node spells) = elim (cases_eq a.node j) [
      | inl mine ↦
          let flag : (a.node == j) ≡ true = grind (arith, nat_tests, mine) in
          let silent = hears_nothing (λ k other near. let b : (a.node == k) ≡ false = grind (arith, nat_tests, mine, other) in only k near ∙ b) in
          let drove = sym itself ∙ (only j (omega (arith, no_way)) ∙ flag) in
          heard_as v come (wave a ∷ rest) hears Nothing own true e silent drove (drives {w = wave a} {ws = rest} flag on)
      | inr other ↦
          let flag : (a.node == j) ≡ false = grind (arith, nat_tests, other) in
          let m : ℕ = v - way a.node - a.start in
          let (q, driven, spelled) = spells m (omega (arith, there, on)) in
          let late : ℕ = distance (taps_of s) j a.node in
          let now : v - late ≡ a.start + m = omega (arith, there, both_ways a.node) in
          let within : a.node < length (taps_of s) = omega (arith, node.node, length-map s.nodes tap_of) in
          let at = ap (λ (u : ℕ). driven_in s a.node u) now ∙ driven in
          let single = hears_one (machine_of s) (taps_of s) (first_tracks s) v j a.node q within other (omega (arith, both_ways a.node, there)) at
          (λ k below apart not_mine near. not_driven k near (only k (omega (arith, near, both_ways k)) ∙ another a.node k apart)) in
          let rested = sym itself ∙ (only j (omega (arith, no_way)) ∙ flag) in
          let heard = spells_as (own_wave s a) (wave a) m q refl spelled in
          heard_as v come (wave a ∷ rest) hears (One q) own false e single rested (theirs {w = wave a} {ws = rest} {q = q} m flag on (omega (arith, there)) heard)
    ]
      where
        another : (i k : ℕ) → (k ≡ i → ⊥) → (i == k) ≡ false
        another i k apart = grind (arith, nat_tests, apart)

    pub heard_over : HeardOverWaves v come hears (is_some (driven_in s j v))
    heard_over =
        subst (λ (b : Bool). HeardOverWaves v come hears b) own_drive
        (heard_by (passing v ds (waves_are t ds shared).behind (of_nodes s z ds shared.chain) shared.speaks))

  pub hears_waves : (t : ℕ) (ds : List Drive) → SharedAt s z t ds
      → HearsWaves (node_set_of s line) s.room (draws_of s line) (given s j line found) line.start t (waves ds)
  hears_waves t ds shared u before =
      let v : ℕ = line.start + u in
      let over = heard_over t ds shared v before in
      let quiet = sym (fit.quiet v (heard_at (machine_of s) (taps_of s) (first_tracks s) v j)) in
      let drive = drives_from s j line found u in
      rw (quiet, drive) at over
