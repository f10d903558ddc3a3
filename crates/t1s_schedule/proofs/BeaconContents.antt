-- A drive of a fit script's run that begins with N holds a beacon, or the first ticks of one.
use Rattle.std.proofs.Common.{◌≡◌, ℕ, zero, suc, ◌+◌, ◌*◌, ◌-◌, ◌<◌, ◌≤◌, ◌⊎◌, inl, inr, Bool, true, false, List, ◌∷◌, length, get_or, replicate, Option, Some, None, is_some, slice_get, refl, sym, ◌∙◌, ap, subst, arith, Contains}
use Rattle.std.proofs.lemmas.Bool.{cases_lt, true≢false}
use Rattle.t1s_symbols.specs.declared.Quarter.{Quarter}
use Rattle.t1s_symbols.specs.declared.Symbol.TheVariants.{N}
use Rattle.t1s_pcs_tx.specs.Runs.{all_quarters}
use Rattle.t1s_pcs_tx.specs.State.{Stage, Quiet, Beaconing, TxState, quarter_of}
use Rattle.plca_control.specs.declared.State.{State}
use Rattle.t1s_node.specs.NodeRuns.{node_at}
use Rattle.t1s_world.specs.Drives.{IsDrive}
use Rattle.t1s_world.specs.Waves.{CycleSettings, Wave, arrived}
use Rattle.t1s_world.specs.Schedule.{Drive, next_after}
use Rattle.t1s_turns.specs.ControlOverWaves.{ControlOverWaves, recovers, waits_for_beacon, hears_first_wave, owns_beacon, owns_run, waits}
use Rattle.t1s_turns.specs.NodeOverWaves.{HasOpportunity}
use Rattle.t1s_turns.specs.ReceiverOverWaves.{first_symbol}
use Rattle.t1s_script.specs.declared.script.NodeLine.{NodeLine}
use Rattle.t1s_script.specs.declared.script.Script.{Script}
use Rattle.t1s_line.specs.World.{driven_in}
use Rattle.t1s_schedule.specs.DriveContents.{HoldsBeacon}
use Rattle.t1s_schedule.specs.SharedLine.{far_in, at_in, first_beacon}
use Rattle.t1s_schedule.proofs.ExactDrives.{Has, has_from, is_drive}
use Rattle.t1s_schedule.proofs.NodeRuns.{start_node, given, drives_before}
use Rattle.t1s_schedule.proofs.NodeTurns.{kept, quarter_at, quarter_by}
use Rattle.t1s_schedule.proofs.SharedState.{FitCable, SharedAt}
use Rattle.t1s_schedule.proofs.ScriptWaves.{waves}
use Rattle.t1s_schedule.proofs.SharedTurns.{newest_own, own_way, rise_and_fall}

-- ---- the quarters of N

n_quarter : (n y part m : ℕ) → y < n → part < 4 → 4 * y + part ≡ m
    → get_or (all_quarters (replicate n N)) m None ≡ Some (record { sym = N; part = part })
n_quarter zero y part m few low e = absurd (omega (arith, few))
n_quarter (suc n) y part zero few low e = let p : 0 ≡ part = omega (arith, e) in ap (λ (k : ℕ). Some (record { sym = N; part = k })) p
n_quarter (suc n) y part (suc zero) few low e = let p : 1 ≡ part = omega (arith, e, low) in ap (λ (k : ℕ). Some (record { sym = N; part = k })) p
n_quarter (suc n) y part (suc (suc zero)) few low e =
    let p : 2 ≡ part = omega (arith, e, low) in ap (λ (k : ℕ). Some (record { sym = N; part = k })) p
n_quarter (suc n) y part (suc (suc (suc zero))) few low e =
    let p : 3 ≡ part = omega (arith, e, low) in ap (λ (k : ℕ). Some (record { sym = N; part = k })) p
n_quarter (suc n) y part (suc (suc (suc (suc m)))) few low e = n_quarter n (y - 1) part m (omega (arith, few, low, e)) low (omega (arith, e, low))

-- ---- what control says where the node drives

-- a wave of the node's own goes on; if it is a beacon, the transmitter is so far in it
record OwnWave (t : ℕ) (ws : List Wave) (stage : Stage) (part : ℕ) : Type 0 where
  a : Wave
  rest : List Wave
  at : arrived t ws ≡ a ∷ rest
  own : a.own ≡ true
  lasts : t ≤ a.till
  spells : (a.beacon ≡ false) ⊎ ((stage ≡ Beaconing) × (y : ℕ) × (a.from + (4 * y + part + 1) ≡ t) × (part < 4) × (4 * y + part < 20))

own_wave_cases : (n : CycleSettings) (begin t : ℕ) (ws : List Wave) (st : State) (stage : Stage) (part : ℕ)
    → ControlOverWaves HasOpportunity n begin t ws st stage part → (stage ≡ Quiet) ⊎ OwnWave t ws stage part
own_wave_cases n begin t ws _ _ _ (recovers coord at low) = inl refl
own_wave_cases n begin t ws _ _ _ (waits_for_beacon coord none) = inl refl
own_wave_cases n begin t ws _ _ _ (hears_first_wave coord none at rose long within) = inl refl
own_wave_cases n begin t ws _ _ _ (owns_beacon {a = a} {rest = rest} symbols coord at own flag from within time low left_is some) =
    inr (record { a = a; rest = rest; at = at; own = own; lasts = within; spells = inr (refl, symbols, time, low, omega (arith, left_is, some)) })
own_wave_cases n begin t ws st stage part (owns_run {a = a} {rest = rest} at own flag from within time sends) =
    inr (record { a = a; rest = rest; at = at; own = own; lasts = within; spells = inl flag })
own_wave_cases n begin t ws _ _ _ (waits newest there state) = inl refl

-- ---- two maximal intervals with one tick begin in one

begins_first : (driven : ℕ → Option Quarter) (T start stop U from till v : ℕ) → IsDrive driven T start stop → IsDrive driven U from till
    → v < stop → from ≤ v → from ≤ start
begins_first driven T start stop U from till v is other below there = elim (cases_lt start from) [
  | inr ge ↦ ge
  | inl lt ↦ by from refl lt
]
  where
    by : (k : ℕ) → k ≡ from → start < from → from ≤ start
    by zero e lt = absurd (omega (arith, e, lt))
    by (suc k) e lt =
        let rests = other.before k e in
        let drives = is.all k (omega (arith, e, lt)) (omega (arith, e, there, below)) in
        absurd (true≢false (sym drives ∙ rests))

module _ (s : Script) (z : ℕ) (fit : FitCable s z) where
  -- each drive so far is a maximal interval
  pub interval_of : (T : ℕ) (ds : List Drive) → SharedAt s z T ds → (d : Drive) → Has ds d → IsDrive (driven_in s d.node) T d.start d.stop
  interval_of T ds shared d has =
      is_drive next_after (far_in s) (at_in s) s.rise s.fall s.to (length s.nodes) z (first_beacon s z) (rise_and_fall s z fit).2
      (driven_in s) T ds shared.chain shared.within
      shared.covers d has

  module _ (known : (t : ℕ) → (ds : List Drive) × SharedAt s z t ds) (few : s.burst ≤ 255)
      (i : ℕ) (line : NodeLine) (found : slice_get s.nodes i ≡ Some line) (T start stop : ℕ) (is : IsDrive (driven_in s i) T start stop)
      (q : Quarter) (first : driven_in s i start ≡ Some q) (beacon : q.sym ≡ N) where
    -- so far is the beacon in its tick m
    record InBeacon (m : ℕ) : Type 0 where
      y : ℕ
      part : ℕ
      place : 4 * y + part ≡ m
      low : part < 4
      soon : m < 20
      drives : driven_in s i (start + m) ≡ Some (record { sym = N; part = part })

    -- the newest drive, which is on in a tick of this one, begins where it does
    starts_same : (v : ℕ) → start ≤ v → v < stop → (ds older : List Drive) (d : Drive) → SharedAt s z (v + 1) ds
        → ds ≡ d ∷ older → d.node ≡ i → d.stop ≡ v + 1
        → (d.start ≡ start) × (d.beacon ≡ true)
    starts_same v from below ds older d shared e mine till =
        let there : Contains ds d = subst (λ (xs : List Drive). Contains xs d) (sym e) (0, omega arith, refl) in
        let has = has_from ds d there in
        let other : IsDrive (driven_in s i) (v + 1) d.start d.stop =
        subst (λ (k : ℕ). IsDrive (driven_in s k) (v + 1) d.start d.stop) mine (interval_of (v + 1) ds shared d has) in
        let some = other.some in
        let low = begins_first (driven_in s i) T start stop (v + 1) d.start d.stop v is other below (omega (arith, some, till)) in
        let high = begins_first (driven_in s i) (v + 1) d.start d.stop T start stop v other is (omega (arith, till)) from in
        let same : d.start ≡ start = omega (arith, low, high) in
        let speaks = (subst (λ (xs : List Drive). SharedAt s z (v + 1) xs) e shared).speaks.0 in
        let (r, driven, spelled) = speaks 0 (omega (arith, some)) in
        let at : d.start + 0 ≡ start = omega (arith, same) in
        let first_is : driven_in s i start ≡ Some r =
        ap (driven_in s i) (sym at) ∙ (ap (λ (k : ℕ). driven_in s k (d.start + 0)) (sym mine) ∙ driven) in
        let equal : r ≡ q = cc in
        let symbol : first_symbol d.beacon ≡ N = sym (spelled.first (omega arith)) ∙ (ap (λ (x : Quarter). x.sym) equal ∙ beacon) in
        (same, by d.beacon symbol)
      where
        by : (b : Bool) → first_symbol b ≡ N → b ≡ true
        by true e = refl
        by false e = cc

    abbrev node_tx : ℕ → TxState
    node_tx u = (node_at (start_node s i line found) (given s i line found) (suc u)).core.tx

    abbrev drives_by : ℕ → List Drive
    drives_by u = (known (line.start + suc u)).0

    abbrev InOwnWave : ℕ → TxState → Type 0
    InOwnWave u tx = OwnWave (line.start + suc u) (waves s z fit i line found (drives_by u)) tx.stage tx.part

    in_wave : (m u : ℕ) → start + m < stop → line.start + u ≡ start + m → (tx : TxState) → quarter_of tx ≡ driven_in s i (start + m)
        → (tx.stage ≡ Quiet) ⊎ InOwnWave u tx → InBeacon m
    in_wave m u below now tx e (inl silent) =
        let drives = is.all (start + m) (omega arith) below in
        let none : quarter_of tx ≡ None = rw silent refl in
        absurd (true≢false (sym drives ∙ ap is_some (sym e ∙ none)))
    in_wave m u below now tx e (inr w) =
        let shared = (known (line.start + suc u)).1 in
        let (d, older, is_list, mine, till, is_wave) =
        newest_own s z fit i line found (line.start + suc u) w.a w.rest (drives_by u) shared w.at w.own w.lasts in
        let next : line.start + suc u ≡ start + m + 1 = omega (arith, now) in
        let so_far = subst (λ (t : ℕ). SharedAt s z t (drives_by u)) next shared in
        let (same, flag) = starts_same (start + m) (omega arith) below (drives_by u) older d so_far is_list mine (till ∙ next) in
        let way = own_way s z fit i line found d mine in
        elim w.spells [
          | inl run ↦ absurd (true≢false (sym flag ∙ (ap (λ (x : Wave). x.beacon) is_wave ∙ run)))
          | inr (stage, y, time, low, soon) ↦
              let place : 4 * y + tx.part ≡ m = omega (arith, time, now, ap (λ (x : Wave). x.from) is_wave, way, same) in
              let quarter : quarter_of tx ≡ Some (record { sym = N; part = tx.part }) = rw stage refl in
              record { y = y; part = tx.part; place = place; low = low; soon = omega (arith, place, soon); drives = sym e ∙ quarter }
        ]

    in_beacon : (m : ℕ) → start + m < stop → InBeacon m
    in_beacon m below = elim (cases_lt (start + m) line.start) [
      | inl before ↦
          let none = drives_before s i line found (start + m) before in
          let drives = is.all (start + m) (omega arith) below in
          absurd (true≢false (sym drives ∙ ap is_some none))
      | inr from ↦
          let u : ℕ = start + m - line.start in
          let now : line.start + u ≡ start + m = omega (arith, from) in
          let quarter = sym (quarter_by s z fit known few i line found u)
          ∙ (sym (quarter_at s z fit known few i line found u) ∙ ap (driven_in s i) now) in
          in_wave m u below now (node_tx u) quarter (own_wave_cases _ _ _ _ _ _ _ (kept s z fit known few i line found (suc u)).control)
    ]

    few_ticks : stop ≤ start + 20
    few_ticks = elim (cases_lt (start + 20) stop) [
      | inr ge ↦ ge
      | inl lt ↦ let in_it = in_beacon 20 lt in absurd (omega (arith, in_it.soon))
    ]

    pub holds_beacon : (stop < T → start + 20 ≤ stop) → HoldsBeacon s T i start stop
    holds_beacon long = (
      replicate 5 N,
      refl,
      record {
        drives = λ m below.
            (let in_it = in_beacon m below in
            in_it.drives ∙ sym (n_quarter 5 in_it.y in_it.part m (omega (arith, in_it.place, in_it.soon)) in_it.low in_it.place));
        within = few_ticks;
        whole = λ over. (let enough = long over in omega (arith, enough, few_ticks));
      },
    )
