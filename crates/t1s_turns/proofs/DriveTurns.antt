-- What the drive phase of a tick comes to, over waves: the cases of control and transmitter that it leaves, and what is driven.
use Rattle.std.proofs.Common.{◌≡◌, ℕ, ◌+◌, ◌*◌, ◌<◌, ◌≤◌, max, Bool, true, false, List, ◌∷◌, Option, Some, None, refl, sym, ◌∙◌, arith}
use Rattle.std.proofs.lemmas.Bool.{false≢true}
use Rattle.t1s_symbols.specs.declared.Quarter.{Quarter}
use Rattle.t1s_symbols.specs.declared.Symbol.TheVariants.{N, J}
use Rattle.t1s_pcs_tx.specs.State.{Stage, Quiet, Beaconing}
use Rattle.plca_control.specs.declared.State.{State}
use Rattle.plca_control.specs.declared.State.TheVariants.{Recover, Resync, Early, Beacon, Syncing}
use Rattle.t1s_world.specs.Waves.{CycleSettings, Wave, arrived, seen, BeginsBehind}
use Rattle.t1s_turns.specs.ReceiverOverWaves.{SpellsWave}
use Rattle.t1s_turns.specs.ControlOverWaves.{WaitingControl, WasThere, NoOwnWave, drain_of}
use Rattle.t1s_turns.specs.DriveOverWaves.{IsQuiet, DriveOverWaves, quiet, goes_on, ends, starts_first_beacon, starts_beacon, starts_run}

module _ (Sends : ℕ → ℕ → State → Stage → ℕ → Type 0) (n : CycleSettings) (begin t : ℕ) (ws : List Wave) (ready : Bool) where
  abbrev Quietly : Type 0
  Quietly = IsQuiet n begin t ws ready

  pub data DriveTurn : State → Stage → ℕ → Option Quarter → Type 0 where
    recovers_on : {q part : ℕ} → n.owns 0 ≡ true → begin + q ≡ t → q < 258 * n.to → Quietly → DriveTurn (Recover (q + 1)) Quiet part None
    has_recovered : n.owns 0 ≡ true → t ≡ begin + 258 * n.to → DriveTurn (Beacon 20) Beaconing 0 (Some (record { sym = N; part = 0 }))
    waits_on_for_beacon : {part : ℕ} → n.owns 0 ≡ false → NoOwnWave begin t ws → Quietly → DriveTurn Resync Quiet part None
    hears_on : {part : ℕ} (w : Wave) (rest : List Wave) → n.owns 0 ≡ false → NoOwnWave begin t ws → arrived t ws ≡ w ∷ rest → max begin w.from + n.rise ≤ t → max begin w.from + n.rise ≤ w.till → t < w.till + n.fall
        → Quietly → DriveTurn Early Quiet part None
    beacon_goes_on : {left part : ℕ} (a : Wave) (rest : List Wave) (symbols : ℕ) → n.owns 0 ≡ true → arrived t ws ≡ a ∷ rest → a.own ≡ true → a.beacon ≡ true → begin ≤ a.from → t ≤ a.till
        → a.from + (4 * symbols + part) ≡ t → part < 4 → left + (4 * symbols + part) ≡ 20 → 1 ≤ left → DriveTurn (Beacon left) Beaconing part (Some (record { sym = N; part = part }))
    beacon_ends : {part : ℕ} (a : Wave) (rest : List Wave) → arrived t ws ≡ a ∷ rest → a.own ≡ true → a.beacon ≡ true → begin ≤ a.from → t ≤ a.till → a.from + 20 ≡ t
        → DriveTurn Syncing Quiet part None
    run_goes_on : {e part : ℕ} {st : State} {stage : Stage} {q : Quarter} (a : Wave) (rest : List Wave) → arrived t ws ≡ a ∷ rest → a.own ≡ true → a.beacon ≡ false → begin ≤ a.from → t ≤ a.till
        → a.from + e ≡ t → Sends a.place (e + 1) st stage part → SpellsWave a e q → DriveTurn st stage part (Some q)
    run_ends : {part : ℕ} (a : Wave) (rest : List Wave) → arrived t ws ≡ a ∷ rest → a.own ≡ true → a.beacon ≡ false → begin ≤ a.from → t ≤ a.till → a.from + 20 ≤ t
        → DriveTurn (drain_of a.place) Quiet part None
    waits_on : {part : ℕ} {st : State} (a : Wave) (rest : List Wave) → seen n t ws ≡ a ∷ rest → WasThere n begin (t + 1) a → ((v : Wave) → arrived t ws ≡ v ∷ a ∷ rest → t < v.from + n.rise)
        → WaitingControl n (t + 1) a st → Quietly → DriveTurn st Quiet part None
    catches : {part : ℕ} {st : State} (w a : Wave) (rest : List Wave) → arrived t ws ≡ w ∷ a ∷ rest → begin < a.till → t ≡ w.from + n.rise
        → WaitingControl n (t + 1) w st → Quietly → DriveTurn st Quiet part None
    begins_beacon : (a : Wave) (rest : List Wave) → BeginsBehind n t ws a rest n.count → n.owns 0 ≡ true → DriveTurn (Beacon 20) Beaconing 0 (Some (record { sym = N; part = 0 }))
    begins_run : {part : ℕ} {st : State} {stage : Stage} (a : Wave) (rest : List Wave) (x : ℕ) → BeginsBehind n t ws a rest x → n.owns x ≡ true → ready ≡ true → Sends x 1 st stage part
        → DriveTurn st stage part (Some (record { sym = J; part = 0 }))

  beacon_spells : (a : Wave) (symbols part : ℕ) → a.beacon ≡ true → part < 4 → SpellsWave a (4 * symbols + part) (record { sym = N; part = part })
  beacon_spells a symbols part flag low = record { symbol = symbols; part = refl; low = low; first = λ _. rw flag refl; other = λ e. absurd (false≢true (sym e ∙ flag)) }

  -- what is driven
  pub drive_of : (st : State) (stage : Stage) (part : ℕ) (quarter : Option Quarter) → DriveTurn st stage part quarter → DriveOverWaves n begin t ws ready quarter
  drive_of _ _ _ _ (recovers_on zero at low nothing) = quiet nothing
  drive_of _ _ _ _ (has_recovered zero at) = starts_first_beacon zero at
  drive_of _ _ _ _ (waits_on_for_beacon zero none nothing) = quiet nothing
  drive_of _ _ _ _ (hears_on w rest zero none at rose long within nothing) = quiet nothing
  drive_of _ _ _ _ (beacon_goes_on {part = part} a rest symbols zero at own flag from within time low left some) =
      goes_on {w = a} {rest = rest} (4 * symbols + part) at own within time (beacon_spells a symbols part flag low)
  drive_of _ _ _ _ (beacon_ends a rest at own flag from within time) = ends a rest at own within (omega (arith, time))
  drive_of _ _ _ _ (run_goes_on {e = e} a rest at own flag from within time sends spells) = goes_on {w = a} {rest = rest} e at own within time spells
  drive_of _ _ _ _ (run_ends a rest at own flag from within time) = ends a rest at own within time
  drive_of _ _ _ _ (waits_on a rest newest there none state nothing) = quiet nothing
  drive_of _ _ _ _ (catches w a rest at there now state nothing) = quiet nothing
  drive_of _ _ _ _ (begins_beacon a rest begins zero) = starts_beacon a rest begins zero
  drive_of _ _ _ _ (begins_run a rest x begins mine some sends) = starts_run a rest x begins mine some
