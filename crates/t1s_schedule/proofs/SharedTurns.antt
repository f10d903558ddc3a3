-- What a node of a fit script drives in a tick, by the drives so far: it goes on with the newest, or starts one that follows it.
use Rattle.std.proofs.Common.{◌≡◌, ℕ, ◌+◌, ◌-◌, ◌<◌, ◌≤◌, ◌⊎◌, inl, inr, Bool, true, false, nat_lt, ◌==◌, List, [], ◌∷◌, length, Option, Some, slice_get, refl, sym, ◌∙◌, ap, subst, arith, rules}
use Rattle.std.proofs.lemmas.Bool.{cases_lt, true≢false}
use Rattle.std.proofs.lemmas.Bool.Decides.{nat_tests}
use Rattle.std.proofs.lemmas.Option.{slice_get_cases}
use Rattle.t1s_symbols.specs.declared.Quarter.{Quarter}
use Rattle.plca_data.specs.DataPathTable.{ready}
use Rattle.t1s_node.specs.NodeRuns.{node_at}
use Rattle.t1s_world.specs.Waves.{BeginsBehind, CycleSettings, Wave, AreWaves, arrived, opportunity_start}
use Rattle.t1s_world.specs.Schedule.{Drive, next_after, Follows, EachDrive, IsOfNode, IsPlaced, IsChain, started_drive}
use Rattle.t1s_world.proofs.ChainWaves.{one_starts}
use Rattle.t1s_world.proofs.DriveStarts.{sees_newest, starts_follow}
use Rattle.t1s_world.proofs.SeenWaves.{head_is}
use Rattle.t1s_script.specs.declared.script.NodeLine.{NodeLine}
use Rattle.t1s_script.specs.declared.script.Script.{Script}
use Rattle.t1s_script.specs.Taps.{span_of}
use Rattle.t1s_line.specs.World.{node_set_of, draws_of, driven_in}
use Rattle.t1s_turns.specs.DriveOverWaves.{DriveOverWaves, quiet, goes_on, ends, starts_first_beacon, starts_beacon, starts_run}
use Rattle.t1s_turns.specs.ReceiverOverWaves.{SpellsWave, first_symbol}
use Rattle.t1s_turns.proofs.DrawBounds.{picked_draws}
use Rattle.t1s_turns.proofs.TurnLaw.{turn_at}
use Rattle.t1s_schedule.specs.SharedLine.{far_in, at_in, owner_in, first_beacon}
use Rattle.t1s_schedule.proofs.NodeRuns.{start_node, given, drives_before, drives_from}
use Rattle.t1s_schedule.proofs.SharedState.{each_both, FitCable, cycle_with, cycle_in, own_wave, SharedAt, of_nodes, spells_as}
use Rattle.t1s_schedule.proofs.ScriptWaves.{here, cycle_is, owns_as, first_is, way, wave, waves, waves_are, hears_waves}

-- the first quarter of a drive
abbrev pub first_quarter : Bool → Quarter
first_quarter beacon = record { sym = first_symbol beacon; part = 0 }

module _ (s : Script) (z : ℕ) (fit : FitCable s z) where
  pub line_at : (i : ℕ) → i < length s.nodes → (line : NodeLine) × (slice_get s.nodes i ≡ Some line)
  line_at i within = elim (slice_get_cases s.nodes i).1 [
    | inl found ↦ (found.0, found.2)
    | inr past ↦ absurd (omega (arith, past.0, within))
  ]

  pub rise_and_fall : (1 ≤ s.rise) × (s.rise ≤ 16) × (1 ≤ s.fall)
  rise_and_fall = let (line, found) = line_at z fit.coordinator in let is = cycle_is s z fit z line found in (is.rise_low, is.rise_high, is.fall_low)

  -- ---- the drives so far

  abbrev pub Chained : List Drive → Type 0
  Chained ds = IsChain next_after (far_in s) (at_in s) s.rise s.fall s.to (length s.nodes) z (first_beacon s z) ds

  -- older drives are over where a drive begins
  pub older_over : (v : ℕ) (a : Drive) (ds : List Drive) → Chained (a ∷ ds) → a.start ≤ v → EachDrive (λ (d : Drive). d.stop < v) ds
  older_over v a [] chain from = tt
  older_over v a (b ∷ ds) chain from =
      let over : b.stop < v = omega (arith, chain.1.follows.start, from, rise_and_fall.2) in
      (over, older_over v b ds chain.2 (omega (arith, over, (of_nodes s z (b ∷ ds) chain.2).0.some)))

  pub begun : (t : ℕ) (ds : List Drive) → SharedAt s z t ds → EachDrive (λ (a : Drive). a.start < t) ds
  begun t ds shared =
      each_both (IsOfNode (length s.nodes)) (λ (a : Drive). a.stop ≤ t) (λ (a : Drive). a.start < t) (λ a node within. omega (arith, node.some, within)) ds
      (of_nodes s z ds shared.chain) shared.within

  pub first_past : (a : Drive) (ds : List Drive) → Chained (a ∷ ds) → first_beacon s z ≤ a.start
  first_past a [] chain = omega (arith, chain.1.start)
  first_past a (b ∷ ds) chain = let before = first_past b ds chain.2 in omega (arith, before, chain.1.follows.start, (of_nodes s z (b ∷ ds) chain.2).0.some)

  -- no drive starts where the newest goes on
  not_open : (b : Drive) (xs : List Drive) (a : Drive) (older : List Drive) → xs ≡ a ∷ older → a.stop ≡ b.start → Chained (b ∷ xs) → ⊥
  not_open b [] a older e stop chain = absurd (cc)
  not_open b (c ∷ cs) a older e stop chain =
      let same : c ≡ a = cc in
      absurd (omega (arith, chain.1.follows.start, stop, ap (λ (d : Drive). d.stop) same, rise_and_fall.2))

  -- two drives of one list of drives that start in one tick are of one node
  one_starter : (xs : List Drive) (b c : Drive) → Chained (b ∷ xs) → Chained (c ∷ xs) → b.start ≡ c.start → IsPlaced (owner_in s) s.count z b
      → IsPlaced (owner_in s) s.count z c → b.node ≡ c.node
  unfolding opportunity_start
  one_starter [] b c hb hc now placed_b placed_c = hb.1.node ∙ sym hc.1.node
  one_starter (a ∷ xs) b c hb hc now placed_b placed_c =
      let (line, found) = line_at z fit.coordinator in
      let n : CycleSettings = cycle_in s line in
      let node = (of_nodes s z (a ∷ xs) hb.2).0 in
      let near_b = fit.far.near a.node b.node node.node hb.0.node in
      let near_c = fit.far.near a.node c.node node.node hc.0.node in
      let to_b = hb.1.follows in
      let to_c = hc.1.follows in
      let low = one_starts next_after (far_in s) (at_in s) n (length s.nodes) (span_of s) fit.far rise_and_fall.0 fit.short (at_in s b.node)
      (at_in s c.node) false false a b.place c.place near_b near_c to_b.order to_c.order (sym to_b.start ∙ (now ∙ to_c.start)) in
      let high = one_starts next_after (far_in s) (at_in s) n (length s.nodes) (span_of s) fit.far rise_and_fall.0 fit.short (at_in s c.node)
      (at_in s b.node) false false a c.place b.place near_c near_b to_c.order to_b.order (sym to_c.start ∙ (sym now ∙ to_b.start)) in
      by b.beacon c.beacon refl refl (omega (arith, low, high))
    where
      by : (f g : Bool) → b.beacon ≡ f → c.beacon ≡ g → b.place ≡ c.place → b.node ≡ c.node
      by true true e d same = (placed_b.beacon e).1 ∙ sym (placed_c.beacon d).1
      by true false e d same = let low = fit.owners.low c.node c.place (placed_c.run d) in absurd (omega (arith, low, same, (placed_b.beacon e).0))
      by false true e d same = let low = fit.owners.low b.node b.place (placed_b.run e) in absurd (omega (arith, low, same, (placed_c.beacon d).0))
      by false false e d same =
          fit.owners.one b.node c.node b.place (placed_b.run e) (subst (λ (x : ℕ). owner_in s c.node x ≡ true) (sym same) (placed_c.run d))

  -- ---- what node i drives in tick t

  pub data DrivesBy (t : ℕ) (ds : List Drive) (i : ℕ) (q : Quarter) : Type 0 where
    continues : (a : Drive) (older : List Drive) (m : ℕ) → ds ≡ a ∷ older → a.node ≡ i → a.stop ≡ t → a.start + m ≡ t
        → SpellsWave (own_wave s a) m q → DrivesBy t ds i q
    starts : (beacon : Bool) (x : ℕ) → Chained (started_drive i beacon x t ∷ ds) → IsPlaced (owner_in s) s.count z (started_drive i beacon x t)
        → q ≡ first_quarter beacon → DrivesBy t ds i q

  -- no two nodes drive
  pub one_driver : (t : ℕ) (ds : List Drive) (i k : ℕ) (q r : Quarter) → DrivesBy t ds i q → DrivesBy t ds k r → i ≡ k
  one_driver t ds i k q r (continues a older m e mine stop time spells) (continues b rest l f theirs still at spelled) =
      let same : a ≡ b = cc in
      sym mine ∙ (ap (λ (d : Drive). d.node) same ∙ theirs)
  one_driver t ds i k q r (continues a older m e mine stop time spells) (starts beacon x chain placed is) = absurd (not_open (started_drive k beacon x t) ds a older e stop chain)
  one_driver t ds i k q r (starts beacon x chain placed is) (continues a older m e mine stop time spells) = absurd (not_open (started_drive i beacon x t) ds a older e stop chain)
  one_driver t ds i k q r (starts beacon x chain placed is) (starts other y behind owned at) =
      one_starter ds (started_drive i beacon x t) (started_drive k other y t) chain behind refl placed owned

  module _ (i : ℕ) (line : NodeLine) (found : slice_get s.nodes i ≡ Some line) where
    abbrev pub Turn : ℕ → List Drive → Type 0
    Turn t ds = (waiting : Bool) × DriveOverWaves (cycle_in s line) line.start t (waves s z fit i line found ds) waiting (driven_in s i t)

    turn_in : (u : ℕ) (ds : List Drive) → SharedAt s z (line.start + u) ds → Turn (line.start + u) ds
    turn_in u ds shared =
        let ws : List Wave = waves s z fit i line found ds in
        let now : ℕ = line.start + u in
        let timer = fit.timers i line found in
        let these = subst (λ (to : ℕ). AreWaves (cycle_with s line to) line.start now ws) (sym timer) (waves_are s z fit i line found now ds shared) in
        let kept = turn_at picked_draws (node_set_of s line) (fit.node_sets i line found) (fit.low_ids i line found) s.room (draws_of s line) (given s i line found)
        (λ v. fit.frames (line.start + v) line.no) line.start now ws these (hears_waves s z fit i line found now ds shared) u refl in
        let waiting : Bool = ready (node_at (start_node s i line found) (given s i line found) u).core.path in
        let alone = subst (λ (o : Option Quarter). DriveOverWaves (cycle_with s line line.to) line.start now ws waiting o) (sym (drives_from s i line found u)) kept.drives in
        (waiting, subst (λ (to : ℕ). DriveOverWaves (cycle_with s line to) line.start now ws waiting (driven_in s i now)) timer alone)

    pub turn : (t : ℕ) (ds : List Drive) → SharedAt s z t ds → line.start ≤ t → Turn t ds
    turn t ds shared from =
        let e : line.start + (t - line.start) ≡ t = omega (arith, from) in
        subst (λ (v : ℕ). Turn v ds) e (turn_in (t - line.start) ds (subst (λ (v : ℕ). SharedAt s z v ds) (sym e) shared))

    pub own_way : (a : Drive) → a.node ≡ i → way s z fit i line found a.node ≡ 0
    own_way a same = subst (λ (k : ℕ). far_in s a.node (at_in s k) ≡ 0) same (fit.far.self a.node)

    -- the newest drive has come to it
    pub newest_come : (t : ℕ) (a : Drive) (older : List Drive) → a.start + way s z fit i line found a.node < t
        → arrived t (waves s z fit i line found (a ∷ older)) ≡ wave s z fit i line found a ∷ waves s z fit i line found older
    newest_come t a older come = let b : nat_lt (wave s z fit i line found a).from t ≡ true = search (rules, nat_tests) in rw b refl

    -- none of its drives goes on that are over
    none_own : (t : ℕ) (w : Wave) (rest : List Wave) (ds : List Drive) → EachDrive (λ (d : Drive). d.stop < t) ds
        → arrived t (waves s z fit i line found ds) ≡ w ∷ rest → w.own ≡ true → t ≤ w.till → ⊥
    none_own t w rest [] over e own lasts = absurd (cc)
    none_own t w rest (d ∷ ds) over e own lasts = elim (cases_lt (wave s z fit i line found d).from t) [
      | inl come ↦
          let b : nat_lt (wave s z fit i line found d).from t ≡ true = search (rules, nat_tests) in
          let same = (head_is (wave s z fit i line found d) w (waves s z fit i line found ds) rest (rw b at e)).0 in
          let flag : (d.node == i) ≡ true = ap (λ (x : Wave). x.own) same ∙ own in
          let mine : d.node ≡ i = grind (arith, nat_tests, flag) in
          absurd (omega (arith, lasts, ap (λ (x : Wave). x.till) same, own_way d mine, over.0))
      | inr later ↦
          let b : nat_lt (wave s z fit i line found d).from t ≡ false = search (rules, nat_tests) in
          none_own t w rest ds over.1 (rw b at e) own lasts
    ]

    -- an own wave that goes on is the newest drive
    pub newest_own : (t : ℕ) (w : Wave) (rest : List Wave) (ds : List Drive) → SharedAt s z t ds
        → arrived t (waves s z fit i line found ds) ≡ w ∷ rest → w.own ≡ true → t ≤ w.till
        → (a : Drive) × (older : List Drive) × (ds ≡ a ∷ older) × (a.node ≡ i) × (a.stop ≡ t) × (wave s z fit i line found a ≡ w)
    newest_own t w rest [] shared e own lasts = absurd (cc)
    newest_own t w rest (a ∷ older) shared e own lasts = elim (cases_lt (wave s z fit i line found a).from t) [
      | inl come ↦
          let b : nat_lt (wave s z fit i line found a).from t ≡ true = search (rules, nat_tests) in
          let same = (head_is (wave s z fit i line found a) w (waves s z fit i line found older) rest (rw b at e)).0 in
          let flag : (a.node == i) ≡ true = ap (λ (x : Wave). x.own) same ∙ own in
          let mine : a.node ≡ i = grind (arith, nat_tests, flag) in
          (a, older, refl, mine, omega (arith, lasts, ap (λ (x : Wave). x.till) same, own_way a mine, shared.within.0), same)
      | inr later ↦
          let b : nat_lt (wave s z fit i line found a).from t ≡ false = search (rules, nat_tests) in
          let start : a.start ≤ t = omega (arith, (begun t (a ∷ older) shared).0) in
          absurd (none_own t w rest older (older_over t a older shared.chain start) (rw b at e) own lasts)
    ]

    start_first : (t : ℕ) (xs : List Drive) → SharedAt s z t xs → i ≡ z → t ≡ first_beacon s z → Chained (started_drive i true s.count t ∷ xs)
    start_first t [] shared mine now = (record { node = here s z fit i line found; some = omega arith }, record { beacon = refl; node = mine; start = now })
    start_first t (a ∷ xs) shared mine now = let past = first_past a xs shared.chain in absurd (omega (arith, now, past, (begun t (a ∷ xs) shared).0))

    start_behind : (t : ℕ) (beacon : Bool) (x : ℕ) (xs : List Drive) → SharedAt s z t xs → (a : Drive) (older : List Drive) → xs ≡ a ∷ older
        → Follows next_after (far_in s) (at_in s) s.fall s.to a (started_drive i beacon x t) → Chained (started_drive i beacon x t ∷ xs)
    start_behind t beacon x [] shared a older e follows = absurd (cc)
    start_behind t beacon x (c ∷ cs) shared a older e follows =
        let same : a ≡ c = cc in
        let behind = subst (λ (d : Drive). Follows next_after (far_in s) (at_in s) s.fall s.to d (started_drive i beacon x t)) same follows in
        let long = shared.whole.0 (omega (arith, behind.start, rise_and_fall.2)) in (
          record { node = here s z fit i line found; some = omega arith },
          record { follows = behind; long = omega (arith, long, rise_and_fall.1) },
          shared.chain,
        )

    -- an opportunity that begins behind the newest wave it has seen begins behind the newest drive
    start_seen : (t : ℕ) (ds : List Drive) → SharedAt s z t ds → (a : Wave) (rest : List Wave) (beacon : Bool) (x : ℕ)
        → BeginsBehind (cycle_in s line) t (waves s z fit i line found ds) a rest x → (owner_in s i x ≡ true) ⊎ ((x ≡ s.count) × (i ≡ z))
        → Chained (started_drive i beacon x t ∷ ds)
    start_seen t ds shared a rest beacon x begins its_own =
        let n : CycleSettings = cycle_in s line in
        let is = cycle_is s z fit i line found in
        let there = here s z fit i line found in
        let first = first_beacon s z in
        let newest = sees_newest next_after (far_in s) (at_in s) n is (length s.nodes) (span_of s) fit.far fit.short (owner_in s) z first fit.owners
        i there t ds shared.chain shared.placed (begun t ds shared) a rest x begins its_own in
        let follows = starts_follow next_after (far_in s) (at_in s) n is (length s.nodes) (span_of s) fit.far fit.short (owner_in s) z first fit.owners
        i there t ds a rest x beacon begins newest in
        start_behind t beacon x ds shared newest.newest newest.older newest.drives follows

    is_beacon : i ≡ z → (t : ℕ) → IsPlaced (owner_in s) s.count z (started_drive i true s.count t)
    is_beacon mine t = record { beacon = λ _. (refl, mine); run = λ f. absurd (true≢false f) }

    by_turn : (t : ℕ) (ds : List Drive) → SharedAt s z t ds → (o : Option Quarter) (waiting : Bool)
        → DriveOverWaves (cycle_in s line) line.start t (waves s z fit i line found ds) waiting o
        → (q : Quarter) → o ≡ Some q → DrivesBy t ds i q
    by_turn t ds shared _ waiting (quiet h) q e = absurd (cc)
    by_turn t ds shared _ waiting (goes_on {w = w} {rest = rest} {q = r} k at own lasts time spells) q e =
        let same : r ≡ q = cc in
        let (a, older, drives, mine, stop, is_wave) = newest_own t w rest ds shared at own lasts in
        continues a older k drives mine stop (omega (arith, time, ap (λ (x : Wave). x.from) is_wave, own_way a mine))
        (spells_as w (own_wave s a) k q (sym (ap (λ (x : Wave). x.beacon) is_wave)) (subst (λ (p : Quarter). SpellsWave w k p) same spells))
    by_turn t ds shared _ waiting (ends w rest at own lasts long) q e = absurd (cc)
    by_turn t ds shared _ waiting (starts_first_beacon zero now) q e =
        let mine = fit.owners.coordinator i (sym (owns_as s z fit i line found 0) ∙ zero) in
        starts true s.count (start_first t ds shared mine (now ∙ sym (first_is s z fit i line found mine))) (is_beacon mine t) (cc)
    by_turn t ds shared _ waiting (starts_beacon a rest begins zero) q e =
        let mine = fit.owners.coordinator i (sym (owns_as s z fit i line found 0) ∙ zero) in
        starts true s.count (start_seen t ds shared a rest true s.count begins (inr (refl, mine))) (is_beacon mine t) (cc)
    by_turn t ds shared _ waiting (starts_run a rest x begins owned now_ready) q e =
        let mine = sym (owns_as s z fit i line found x) ∙ owned in
        let run : IsPlaced (owner_in s) s.count z (started_drive i false x t) = record { beacon = λ f. absurd (true≢false (sym f)); run = λ _. mine } in
        starts false x (start_seen t ds shared a rest false x begins (inl mine)) run (cc)

  pub drives_now : (t : ℕ) (ds : List Drive) → SharedAt s z t ds → (i : ℕ) → i < length s.nodes → (q : Quarter) → driven_in s i t ≡ Some q
      → DrivesBy t ds i q
  drives_now t ds shared i within q e =
      let (line, found) = line_at i within in
      elim (cases_lt t line.start) [
        | inl before ↦ let none = drives_before s i line found t before in absurd (cc)
        | inr from ↦ let (waiting, over) = turn i line found t ds shared from in by_turn i line found t ds shared (driven_in s i t) waiting over q e
      ]
