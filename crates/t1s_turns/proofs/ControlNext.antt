-- From the drive phase of a tick to control as the next tick finds it: what is heard tells which wave is over the node.
use Rattle.std.proofs.Common.{◌≡◌, ℕ, ◌+◌, ◌*◌, ◌<◌, ◌≤◌, ◌⊎◌, inl, inr, Bool, true, false, List, [], ◌∷◌, Option, refl, sym, ◌∙◌, ap, subst, arith}
use Rattle.std.specs.Prelude.{is_some}
use Rattle.std.proofs.lemmas.Bool.{false≢true}
use Rattle.t1s_symbols.specs.declared.Heard.{Heard}
use Rattle.t1s_symbols.specs.declared.Quarter.{Quarter}
use Rattle.t1s_pcs_tx.specs.State.{Stage, Quiet, Beaconing}
use Rattle.plca_control.specs.declared.State.{State}
use Rattle.plca_control.specs.declared.State.TheVariants.{Beacon}
use Rattle.t1s_world.specs.Waves.{CycleSettings, IsCycleSettings, Wave, AreBehind, AreApart, IsWave, EachWave, OldestWave, IsFirstBeacon, arrived, seen, BeginsBehind}
use Rattle.t1s_world.proofs.ArrivedWaves.{ArrivedNext, same, more, comes, lasts, are_apart}
use Rattle.t1s_world.proofs.Opportunities.{opportunity_low, opportunity_one}
use Rattle.t1s_world.proofs.SeenWaves.{NewestArrived, is_seen, still_rises, standing, head_is, SeenNext, as_before, risen, begun, sees, own_seen, risen_seen, each_arrived, oldest_arrived, behind_arrived, none_before}
use Rattle.t1s_turns.specs.ReceiverOverWaves.{HeardOverWaves, drives, rests, theirs}
use Rattle.t1s_turns.specs.ControlOverWaves.{WaitingControl, fades, syncs, WasThere, from_start, NoOwnWave, ControlOverWaves, recovers, waits_for_beacon, hears_first_wave, owns_beacon, owns_run, waits}
use Rattle.t1s_turns.proofs.ReceiverSteps.{read_whole}
use Rattle.t1s_turns.proofs.DriveTurns.{DriveTurn, recovers_on, has_recovered, waits_on_for_beacon, hears_on, beacon_goes_on, beacon_ends, run_goes_on, run_ends, waits_on, catches, begins_beacon, begins_run}

-- where the node drives, the newest wave is its own and goes on
drives_own : (t : ℕ) (w : Wave) (ws : List Wave) (h : Heard) → HeardOverWaves t (w ∷ ws) h true → (w.own ≡ true) × (t < w.till)
drives_own t w ws _ (drives own lt) = (own, lt)

-- where it does not, its own wave has ended
own_over : (t : ℕ) (w : Wave) (ws : List Wave) (h : Heard) → w.own ≡ true → HeardOverWaves t (w ∷ ws) h false → w.till ≤ t
own_over t w ws _ own (rests over) = over
own_over t w ws _ own (theirs k other lt at spells) = absurd (false≢true (sym other ∙ own))

some_wave : (t : ℕ) (h : Heard) → HeardOverWaves t [] h true → ⊥
some_wave t h hears = elim hears [ ]

module _ (n : CycleSettings) (is : IsCycleSettings n) (t : ℕ) (ws : List Wave) (behind : AreBehind n ws) where
  -- while a wave goes on no other comes
  pub same_wave : (a : Wave) (rest : List Wave) → arrived t ws ≡ a ∷ rest → (t ≤ a.till) ⊎ ((a.from + n.rise ≤ a.till) × (t < a.till + n.fall)) → arrived (t + 1) ws ≡ a ∷ rest
  same_wave a rest at within = go (comes n t ws (are_apart n is.fall_low ws behind))
    where
      go : ArrivedNext n t ws → arrived (t + 1) ws ≡ a ∷ rest
      go (same e) = e ∙ at
      go (more v e now apart) =
          let pair = subst (λ (xs : List Wave). AreApart n (v ∷ xs)) at apart in
          elim within [
            | inl lasting ↦ absurd (omega (arith, pair.1.still, now, lasting))
            | inr fading ↦ let far = pair.1.fades fading.0 in absurd (omega (arith, far, now, fading.1))
          ]

  -- a wave of the node's own that begins in tick t
  pub record NewOwn : Type 0 where
    pub w : Wave
    pub at : arrived (t + 1) ws ≡ w ∷ arrived t ws
    pub from : w.from ≡ t
    pub own : w.own ≡ true
    pub lasts : t < w.till

  pub new_own : (h : Heard) → HeardOverWaves t (arrived (t + 1) ws) h true → ((w : Wave) (rest : List Wave) → arrived t ws ≡ w ∷ rest → w.own ≡ true → t < w.till → ⊥) → NewOwn
  new_own h hears none = go (comes n t ws (are_apart n is.fall_low ws behind))
    where
      none_same : (xs : List Wave) → arrived t ws ≡ xs → HeardOverWaves t xs h true → ⊥
      none_same [] e hears = some_wave t h hears
      none_same (w ∷ rest) e hears = let (own, lt) = drives_own t w rest h hears in none w rest e own lt

      go : ArrivedNext n t ws → NewOwn
      go (same e) = absurd (none_same (arrived t ws) refl (subst (λ (xs : List Wave). HeardOverWaves t xs h true) e hears))
      go (more v e now apart) =
          let (own, lt) = drives_own t v (arrived t ws) h (subst (λ (xs : List Wave). HeardOverWaves t xs h true) e hears) in
          record { w = v; at = e; from = now; own = own; lasts = lt }

  -- it begins where the node says that it does: in an opportunity behind the newest wave
  pub record OwnBehind (a : Wave) (rest : List Wave) (x : ℕ) : Type 0 where
    pub new : NewOwn
    pub newest : arrived t ws ≡ a ∷ rest
    pub place : x ≡ new.w.place

  pub own_behind : (h : Heard) (a : Wave) (rest : List Wave) (x : ℕ) → HeardOverWaves t (arrived (t + 1) ws) h true → BeginsBehind n t ws a rest x → OwnBehind a rest x
  own_behind h a rest x hears begins =
      let new = new_own h hears none in
      let newest = go new (standing n is t ws a rest behind begins.newest) in
      let pair = subst (λ (xs : List Wave). AreBehind n xs) (new.at ∙ ap (λ (xs : List Wave). new.w ∷ xs) newest) (behind_arrived n (t + 1) ws behind) in
      record { new = new; newest = newest; place = opportunity_one n a x new.w.place (omega (arith, is.rise_low, is.to_high)) begins.order pair.1.order (omega (arith, begins.now, new.from, pair.1.own new.own)) }
    where
      none : (w : Wave) (others : List Wave) → arrived t ws ≡ w ∷ others → w.own ≡ true → t < w.till → ⊥
      none w others e own lt =
          let head = (head_is w a others rest (sym (own_seen n is t ws w others behind e own) ∙ begins.newest)).0 in
          let till = ap (λ (y : Wave). y.till) head in
          let low = opportunity_low n a x in
          absurd (omega (arith, lt, till, low, begins.now))

      go : NewOwn → NewestArrived n t ws a rest → arrived t ws ≡ a ∷ rest
      go new (is_seen e past) = e
      go new (still_rises v e other come soon late) =
          let pair = subst (λ (xs : List Wave). AreBehind n xs) (new.at ∙ ap (λ (xs : List Wave). new.w ∷ xs) e) (behind_arrived n (t + 1) ws behind) in
          absurd (omega (arith, pair.1.gap, pair.1.long, new.from, soon, is.fall_low))

module _ (Sends : ℕ → ℕ → State → Stage → ℕ → Type 0) (n : CycleSettings) (is : IsCycleSettings n) (begin t now : ℕ) (started : begin ≤ t) (soon : t < now) (ws : List Wave) (behind : AreBehind n ws)
    (each : EachWave (IsWave n now) ws) (first : n.owns 0 ≡ true → OldestWave (IsFirstBeacon n begin) ws) (ready : Bool) where
  abbrev Kept : State → Stage → ℕ → Type 0
  Kept st stage part = ControlOverWaves Sends n begin (t + 1) ws st stage part

  abbrev Hears : Heard → Bool → Type 0
  Hears h own = HeardOverWaves t (arrived (t + 1) ws) h own

  -- the newest wave that has come
  newest_wave : (u : ℕ) (w : Wave) (rest : List Wave) → arrived u ws ≡ w ∷ rest → IsWave n now w
  newest_wave u w rest e = (subst (λ (xs : List Wave). EachWave (IsWave n now) xs) e (each_arrived (IsWave n now) u ws each)).0

  -- the node's own wave goes on
  goes : (h : Heard) (a : Wave) (rest : List Wave) → arrived (t + 1) ws ≡ a ∷ rest → Hears h true → t < a.till
  goes h a rest e hears = (drives_own t a rest h (subst (λ (xs : List Wave). HeardOverWaves t xs h true) e hears)).1

  -- it has ended
  over : (h : Heard) (a : Wave) (rest : List Wave) → arrived (t + 1) ws ≡ a ∷ rest → a.own ≡ true → Hears h false → a.till ≤ t
  over h a rest e own hears = own_over t a rest h own (subst (λ (xs : List Wave). HeardOverWaves t xs h false) e hears)

  oldest_from : (xs : List Wave) → OldestWave (IsFirstBeacon n begin) xs → OldestWave (λ (x : Wave). x.from ≡ begin + 258 * n.to) xs
  oldest_from [] o = tt
  oldest_from (x ∷ []) o = o.from
  oldest_from (x ∷ y ∷ xs) o = oldest_from (y ∷ xs) o

  -- the first beacon of a coordinator
  recovered : (h : Heard) → n.owns 0 ≡ true → t ≡ begin + 258 * n.to → Hears h true → Kept (Beacon 20) Beaconing 0
  recovered h zero at hears =
      let nothing : arrived t ws ≡ [] = none_before n (begin + 258 * n.to) t ws behind (oldest_from ws (first zero)) (omega (arith, at)) in
      let new = new_own n is t ws behind h hears (λ w rest e own lt. absurd_wave w rest (sym e ∙ nothing)) in
      let only : arrived (t + 1) ws ≡ new.w ∷ [] = new.at ∙ ap (λ (xs : List Wave). new.w ∷ xs) nothing in
      let oldest = subst (λ (xs : List Wave). OldestWave (IsFirstBeacon n begin) xs) only (oldest_arrived (IsFirstBeacon n begin) (t + 1) ws (first zero)) in
      owns_beacon {a = new.w} {rest = []} {left = 20} {part = 0} 0 zero only new.own oldest.beacon (omega (arith, new.from, started)) (omega (arith, new.lasts)) (omega (arith, new.from)) (omega arith) refl (omega arith)
    where
      absurd_wave : (w : Wave) (rest : List Wave) → w ∷ rest ≡ [] → ⊥
      absurd_wave w rest e = absurd (cc)

  -- a beacon behind all IDs
  beacon_begins : (h : Heard) (a : Wave) (rest : List Wave) → BeginsBehind n t ws a rest n.count → n.owns 0 ≡ true → Hears h true → Kept (Beacon 20) Beaconing 0
  beacon_begins h a rest begins zero hears =
      let b = own_behind n is t ws behind h a rest n.count hears begins in
      let wave = newest_wave (t + 1) b.new.w (arrived t ws) b.new.at in
      owns_beacon {a = b.new.w} {rest = arrived t ws} {left = 20} {part = 0} 0 zero b.new.at b.new.own (kind b.new.w.beacon refl wave b.place) (omega (arith, b.new.from, started)) (omega (arith, b.new.lasts))
      (omega (arith, b.new.from)) (omega arith) refl (omega arith)
    where
      kind : (f : Bool) {w : Wave} → w.beacon ≡ f → IsWave n now w → n.count ≡ w.place → w.beacon ≡ true
      kind true e wave place = e
      kind false e wave place = absurd (omega (arith, place, (wave.run e).0))

  run_begins : (h : Heard) (a : Wave) (rest : List Wave) (x : ℕ) (st : State) (stage : Stage) (part : ℕ) → BeginsBehind n t ws a rest x → n.owns x ≡ true → Sends x 1 st stage part → Hears h true
      → Kept st stage part
  run_begins h a rest x st stage part begins mine sends hears =
      let b = own_behind n is t ws behind h a rest x hears begins in
      let wave = newest_wave (t + 1) b.new.w (arrived t ws) b.new.at in
      owns_run {a = b.new.w} {rest = arrived t ws} {e = 1} b.new.at b.new.own (kind b.new.w.beacon refl wave b.place) (omega (arith, b.new.from, started)) (omega (arith, b.new.lasts))
      (omega (arith, b.new.from)) (subst (λ (y : ℕ). Sends y 1 st stage part) b.place sends)
    where
      kind : (f : Bool) {w : Wave} → w.beacon ≡ f → IsWave n now w → x ≡ w.place → w.beacon ≡ false
      kind false e wave place = e
      kind true e wave place = absurd (omega (arith, place, wave.beacon e, is.low_ids x mine))

  -- the node waits on: its newest wave is as before
  on_waiting : (h : Heard) (a : Wave) (rest : List Wave) (st : State) (part : ℕ) → seen n t ws ≡ a ∷ rest → WasThere n begin (t + 1) a
      → ((v : Wave) → arrived t ws ≡ v ∷ a ∷ rest → t < v.from + n.rise) → WaitingControl n (t + 1) a st → Hears h false → Kept st Quiet part
  on_waiting h a rest st part newest there none state hears = go (sees n is t ws behind)
    where
      go : SeenNext n t ws → Kept st Quiet part
      go (as_before e) = waits {a = a} {rest = rest} (e ∙ newest) there state
      go (risen v other at come e) = let late = none v (come ∙ ap (λ (xs : List Wave). v ∷ xs) newest) in absurd (omega (arith, late, at))
      go (begun v own at come e) =
          let ended = over h v (seen n t ws) come own hears in
          let some = lasts n v (seen n t ws) (subst (λ (xs : List Wave). AreApart n xs) come (are_apart n is.fall_low (arrived (t + 1) ws) (behind_arrived n (t + 1) ws behind))) in
          absurd (omega (arith, ended, some, at))

  -- a newer wave is caught
  on_caught : (w a : Wave) (rest : List Wave) (st : State) (part : ℕ) → arrived t ws ≡ w ∷ a ∷ rest → begin < a.till → t ≡ w.from + n.rise → WaitingControl n (t + 1) w st → Kept st Quiet part
  on_caught w a rest st part at there at_rise state =
      let pair = subst (λ (xs : List Wave). AreBehind n xs) at (behind_arrived n t ws behind) in
      let within : t ≤ w.till = elim (newest_wave t w (a ∷ rest) at).over [
        | inl going ↦ omega (arith, going, soon)
        | inr long ↦ omega (arith, long, at_rise)
      ] in
      let still = same_wave n is t ws behind w (a ∷ rest) at (inl within) in
      waits {a = w} {rest = a ∷ rest} (risen_seen n is (t + 1) ws w (a ∷ rest) behind still (omega (arith, at_rise))) (from_start (omega (arith, there, pair.1.gap))) state

  -- no wave of its own comes where the node does not drive
  none_next : (h : Heard) → NoOwnWave begin t ws → Hears h false → NoOwnWave begin (t + 1) ws
  none_next h none hears w rest e own from = go (comes n t ws (are_apart n is.fall_low ws behind))
    where
      go : ArrivedNext n t ws → ⊥
      go (same before) = none w rest (sym before ∙ e) own from
      go (more v new now apart) =
          let head = (head_is v w (arrived t ws) rest (sym new ∙ e)).0 in
          let at = ap (λ (x : Wave). x.from) head in
          let ended = over h w rest e own hears in
          let some = lasts n v (arrived t ws) apart in
          let till = ap (λ (x : Wave). x.till) head in
          absurd (omega (arith, at, now, ended, some, till))

  pub control_kept : (h : Heard) (st : State) (stage : Stage) (part : ℕ) (quarter : Option Quarter) → DriveTurn Sends n begin t ws ready st stage part quarter → Hears h (is_some quarter) → Kept st stage part
  control_kept h _ _ _ _ (recovers_on zero at low nothing) hears = recovers zero (omega (arith, at)) (omega (arith, low))
  control_kept h _ _ _ _ (has_recovered zero at) hears = recovered h zero at hears
  control_kept h _ _ _ _ (waits_on_for_beacon zero none nothing) hears = waits_for_beacon zero (none_next h none hears)
  control_kept h _ _ _ _ (hears_on w rest zero none at rose long within nothing) hears =
      let still = same_wave n is t ws behind w rest at (inr (omega (arith, long), within)) in
      hears_first_wave {w = w} {rest = rest} zero (none_next h none hears) still (omega (arith, rose)) long (omega (arith, within))
  control_kept h _ _ _ _ (beacon_goes_on {left = left} {part = part} a rest symbols zero at own flag from within time low left_is some) hears =
      let still = same_wave n is t ws behind a rest at (inl within) in
      let lt = goes h a rest still hears in
      owns_beacon {a = a} {rest = rest} {left = left} {part = part} symbols zero still own flag from (omega (arith, lt)) (omega (arith, time)) low left_is some
  control_kept h _ _ _ _ (beacon_ends a rest at own flag from within time) hears =
      let still = same_wave n is t ws behind a rest at (inl within) in
      let ended = over h a rest still own hears in
      waits {a = a} {rest = rest} (own_seen n is (t + 1) ws a rest behind still own) (from_start from)
      (syncs {a = a} own (read_whole a flag (omega (arith, ended, within, time))) (omega (arith, ended)) (omega (arith, within, is.fall_low)))
  control_kept h st stage part _ (run_goes_on {e = e} a rest at own flag from within time sends spells) hears =
      let still = same_wave n is t ws behind a rest at (inl within) in
      let lt = goes h a rest still hears in
      owns_run {a = a} {rest = rest} {e = e + 1} still own flag from (omega (arith, lt)) (omega (arith, time)) sends
  control_kept h _ _ _ _ (run_ends a rest at own flag from within time) hears =
      let still = same_wave n is t ws behind a rest at (inl within) in
      let ended = over h a rest still own hears in
      waits {a = a} {rest = rest} (own_seen n is (t + 1) ws a rest behind still own) (from_start from)
      (fades {a = a} own flag (((newest_wave t a rest at).run flag).1 ∙ own) (omega (arith, ended)) (omega (arith, within, is.fall_low)))
  control_kept h st _ part _ (waits_on a rest newest there none state nothing) hears = on_waiting h a rest st part newest there none state hears
  control_kept h st _ part _ (catches w a rest at there at_rise state nothing) hears = on_caught w a rest st part at there at_rise state
  control_kept h _ _ _ _ (begins_beacon a rest begins zero) hears = beacon_begins h a rest begins zero hears
  control_kept h st stage part _ (begins_run a rest x begins mine some sends) hears = run_begins h a rest x st stage part begins mine sends hears
