-- The drives of other nodes as they pass a node: one after another, each heard quarter by quarter, and nothing else.
use Rattle.std.proofs.Common.{◌≡◌, ◌≢◌, ℕ, ◌+◌, ◌-◌, ◌<◌, ◌≤◌, ◌⊎◌, inl, inr, Bool, true, false, nat_lt, ◌==◌, List, [], ◌∷◌, length, Some, None, slice_get, refl, sym, ◌∙◌, ap, subst, arith, rules}
use Rattle.std.proofs.lemmas.Bool.{cases_lt, false_from_ne_true}
use Rattle.std.proofs.lemmas.Bool.Decides.{nat_tests}
use Rattle.std.proofs.lemmas.List.{length-map}
use Rattle.t1s_harness.specs.Distances.{distance}
use Rattle.t1s_harness.proofs.Distances.{distance_symm, far_point}
use Rattle.t1s_symbols.specs.declared.Heard.{Heard}
use Rattle.t1s_symbols.specs.declared.Heard.TheVariants.{Nothing, One}
use Rattle.t1s_symbols.specs.declared.Quarter.{Quarter}
use Rattle.t1s_world.specs.Schedule.{Drive, IsOfNode}
use Rattle.t1s_world.specs.Waves.{Wave, AreBehind, AreWaves, arrived}
use Rattle.t1s_world.specs.World.{heard_at}
use Rattle.t1s_world.proofs.ArrivedWaves.{older}
use Rattle.t1s_world.proofs.SingleSender.{hears_one}
use Rattle.t1s_script.specs.declared.script.NodeLine.{NodeLine}
use Rattle.t1s_script.specs.declared.script.Script.{Script}
use Rattle.t1s_script.specs.Taps.{tap_of, taps_of}
use Rattle.t1s_line.specs.World.{machine_of, first_tracks, node_set_of, driven_in}
use Rattle.t1s_turns.specs.NodeOverWaves.{cycle_of}
use Rattle.t1s_turns.specs.ReceiverOverWaves.{HeardOverWaves, nobody, drives, rests, theirs}
use Rattle.t1s_schedule.proofs.ExactDrives.{Has, has_from, contains_from as has_contained, drives_in, driver_from, each_at}
use Rattle.t1s_schedule.proofs.NodeRuns.{given}
use Rattle.t1s_schedule.proofs.ScriptWaves.{none_of, way, wave, waves, waves_are, hears_waves}
use Rattle.t1s_schedule.proofs.SharedState.{FitCable, cycle_in, cycle_with, SharedAt, of_nodes}
use Rattle.t1s_delivery.proofs.Members.{Among, among_from, contains_from}

module _ (s : Script) (z : ℕ) (fit : FitCable s z) (j : ℕ) (line : NodeLine) (found : slice_get s.nodes j ≡ Some line) where
  -- how late a drive comes there
  abbrev pub late : ℕ → ℕ
  late i = way s z fit j line found i

  abbrev pub wave_of : Drive → Wave
  wave_of d = wave s z fit j line found d

  abbrev pub waves_of : List Drive → List Wave
  waves_of ds = waves s z fit j line found ds

  -- it is over the node's point in tick v
  pub record Passes (d : Drive) (v : ℕ) : Type 0 where
    pub from : d.start + late d.node ≤ v
    pub till : v < d.stop + late d.node

  -- ---- one after another

  abbrev pub Behind : List Drive → Type 0
  Behind ds = AreBehind (cycle_in s line) (waves_of ds)

  pub before_newest : (a : Drive) (ds : List Drive) → Behind (a ∷ ds) → (d : Drive) → Among ds d
      → d.stop + late d.node + s.fall ≤ a.start + late a.node
  unfolding Among
  before_newest a [] behind d has = absurd has
  before_newest a (b ∷ ds) behind d (inl same) =
      let gap : b.stop + late b.node + s.fall ≤ a.start + late a.node = behind.1.gap in
      subst (λ (x : Drive). x.stop + late x.node + s.fall ≤ a.start + late a.node) same gap
  before_newest a (b ∷ ds) behind d (inr has) =
      let rest = before_newest b ds behind.2 d has in
      let some = first_lasts b ds behind.2 in
      omega (arith, rest, some, behind.1.gap)
    where
      first_lasts : (x : Drive) (xs : List Drive) → Behind (x ∷ xs) → x.start + late x.node < x.stop + late x.node
      first_lasts x [] h = h
      first_lasts x (y ∷ xs) h = h.0

  -- of two drives one has passed before the other comes
  pub data Ordered (d e : Drive) : Type 0 where
    one : d ≡ e → Ordered d e
    first : d.stop + late d.node + s.fall ≤ e.start + late e.node → Ordered d e
    second : e.stop + late e.node + s.fall ≤ d.start + late d.node → Ordered d e

  ordered_in : (ds : List Drive) → Behind ds → (d e : Drive) → Among ds d → Among ds e → Ordered d e
  unfolding Among
  ordered_in [] behind d e has_d has_e = absurd has_d
  ordered_in (a ∷ ds) behind d e (inl is_d) (inl is_e) = one (sym is_d ∙ is_e)
  ordered_in (a ∷ ds) behind d e (inl is_d) (inr has_e) =
      second (subst (λ (x : Drive). e.stop + late e.node + s.fall ≤ x.start + late x.node) is_d (before_newest a ds behind e has_e))
  ordered_in (a ∷ ds) behind d e (inr has_d) (inl is_e) =
      first (subst (λ (x : Drive). d.stop + late d.node + s.fall ≤ x.start + late x.node) is_e (before_newest a ds behind d has_d))
  ordered_in (a ∷ ds) behind d e (inr has_d) (inr has_e) = ordered_in ds (older (cycle_in s line) (wave_of a) (waves_of ds) behind) d e has_d has_e

  module _ (t : ℕ) (ds : List Drive) (shared : SharedAt s z t ds) where
    -- they are waves by what the node is set to
    pub set_waves : AreWaves (cycle_of (node_set_of s line)) line.start t (waves_of ds)
    set_waves =
        subst (λ (to : ℕ). AreWaves (cycle_with s line to) line.start t (waves_of ds)) (sym (fit.timers j line found))
        (waves_are s z fit j line found t ds shared)

    pub ordered : (d e : Drive) → Has ds d → Has ds e → Ordered d e
    ordered d e has_d has_e =
        ordered_in ds (waves_are s z fit j line found t ds shared).behind d e (among_from ds d (has_contained ds d has_d))
        (among_from ds e (has_contained ds e has_e))

    pub one_passes : (d e : Drive) → Has ds d → Has ds e → (v : ℕ) → Passes d v → Passes e v → d ≡ e
    one_passes d e has_d has_e v at_d at_e = by (ordered d e has_d has_e)
      where
        by : Ordered d e → d ≡ e
        by (one same) = same
        by (first gap) = absurd (omega (arith, gap, at_d.till, at_e.from))
        by (second gap) = absurd (omega (arith, gap, at_e.till, at_d.from))

    -- ---- what is heard of another node's drive

    both_ways : (k : ℕ) → distance (taps_of s) j k ≡ late k
    both_ways k = distance_symm (taps_of s) j k ∙ sym (far_point (taps_of s) k j)

    module _ (d : Drive) (has : Has ds d) (other : d.node ≢ j) (v : ℕ) (before : v < t) (at : Passes d v) where
      no_other : (k : ℕ) → (k ≡ d.node → ⊥) → late k ≤ v → driven_in s k (v - late k) ≡ None
      no_other k apart near =
          none_of (driven_in s k (v - late k)) (shared.covers k (v - late k) (omega (arith, before, near))
          ∙ false_from_ne_true (drives_in ds k (v - late k)) (λ e.
          let (x, has_x, on) = driver_from ds k (v - late k) e in
          let near_x : late x.node ≡ late k = ap (λ (i : ℕ). late i) on.node in
          let passes : Passes x v = record { from = omega (arith, on.from, near, near_x); till = omega (arith, on.till, near, near_x) } in
          let same = one_passes d x has has_x v at passes in
          absurd (apart (sym on.node ∙ ap (λ (y : Drive). y.node) (sym same)))))

      no_way : late j ≡ 0
      no_way = fit.far.self j

      -- the node does not drive then
      pub silent : driven_in s j v ≡ None
      silent =
          let same : v - late j ≡ v = omega (arith, no_way) in
          ap (λ (u : ℕ). driven_in s j u) (sym same) ∙ no_other j (λ e. other (sym e)) (omega (arith, no_way))

      pub hears_quarter : (q : Quarter) → driven_in s d.node (v - late d.node) ≡ Some q
          → heard_at (machine_of s) (taps_of s) (first_tracks s) v j ≡ One q
      hears_quarter q driven =
          let node = each_at (IsOfNode (length s.nodes)) ds (of_nodes s z ds shared.chain) d has in
          let within : d.node < length (taps_of s) = omega (arith, node.node, length-map s.nodes tap_of) in
          let way_is = both_ways d.node in
          let now : v - distance (taps_of s) j d.node ≡ v - late d.node = ap (λ (x : ℕ). v - x) way_is in
          hears_one (machine_of s) (taps_of s) (first_tracks s) v j d.node q within other (omega (arith, way_is, at.from))
          (ap (λ (u : ℕ). driven_in s d.node u) now ∙ driven)
          (λ k below apart not_mine near.
          let way_k = both_ways k in
          let then : v - distance (taps_of s) j k ≡ v - late k = ap (λ (x : ℕ). v - x) way_k in
          ap (λ (u : ℕ). driven_in s k u) then ∙ no_other k apart (omega (arith, way_k, near)))

    -- ---- whatever is heard is a drive

    pub record Hears (v : ℕ) : Type 0 where
      pub drive : Drive
      pub has : Has ds drive
      pub other : drive.node ≢ j
      pub at : Passes drive v

    arrived_drive : (v : ℕ) (xs : List Drive) (w : Wave) (rest : List Wave) → arrived v (waves_of xs) ≡ w ∷ rest
        → (d : Drive) × Among xs d × (wave_of d ≡ w) × (d.start + late d.node < v)
    unfolding Among
    arrived_drive v [] w rest e = absurd (cc)
    arrived_drive v (d ∷ xs) w rest e = elim (cases_lt (d.start + late d.node) v) [
      | inl come ↦
          let b : nat_lt (d.start + late d.node) v ≡ true = search (rules, nat_tests) in
          let whole : wave_of d ∷ waves_of xs ≡ w ∷ rest = rw b at e in
          let same : wave_of d ≡ w = cc in
          (d, inl refl, same, come)
      | inr later ↦
          let b : nat_lt (d.start + late d.node) v ≡ false = search (rules, nat_tests) in
          let e' : arrived v (waves_of xs) ≡ w ∷ rest = rw b at e in
          let (x, has, is, come) = arrived_drive v xs w rest e' in
          (x, inr has, is, come)
    ]

    heard_by : (v : ℕ) (xs : List Wave) (h : Heard) (own : Bool) → arrived (v + 1) (waves_of ds) ≡ xs → HeardOverWaves v xs h own
        → (h ≡ Nothing) ⊎ Hears v
    heard_by v _ _ _ e nobody = inl refl
    heard_by v _ _ _ e (drives own on) = inl refl
    heard_by v _ _ _ e (rests over) = inl refl
    heard_by v _ _ _ e (theirs {w = w} {ws = rest} {q = q} k own on at spells) =
        let (d, has, is, come) = arrived_drive (v + 1) ds w rest e in
        let till : d.stop + late d.node ≡ w.till = ap (λ (x : Wave). x.till) is in
        let flag : (d.node == j) ≡ false = ap (λ (x : Wave). x.own) is ∙ own in
        inr (record {
          drive = d;
          has = has_from ds d (contains_from ds d has);
          other = grind (arith, nat_tests, flag);
          at = record { from = omega (arith, come); till = omega (arith, till, on) };
        })

    pub hears_drive : (u : ℕ) → line.start + u < t → ((given s j line found u).heard ≡ Nothing) ⊎ Hears (line.start + u)
    hears_drive u before = heard_by (line.start + u) _ _ _ refl (hears_waves s z fit j line found t ds shared u before)
