-- What a node drives in a tick, by the waves that have come before it.
use Rattle.std.specs.Prelude.{◌≡◌, ℕ, ◌+◌, ◌*◌, ◌<◌, ◌≤◌, Bool, true, false, List, ◌∷◌, Option, Some, None}
use Rattle.t1s_symbols.specs.declared.Quarter.{Quarter}
use Rattle.t1s_symbols.specs.declared.Symbol.TheVariants.{N, J}
use Rattle.t1s_world.specs.Waves.{CycleSettings, Wave, BeginsBehind, arrived}
use Rattle.t1s_turns.specs.ReceiverOverWaves.{SpellsWave}

-- the opportunity of ID x passes: no frame is ready where it is the node's own, and it is not that of the node's beacon
pub record Lapses (n : CycleSettings) (ready : Bool) (x : ℕ) : Type 0 where
  pub own : n.owns x ≡ true → ready ≡ false
  pub coordinator : n.owns 0 ≡ true → x < n.count

-- Nothing goes on or begins in tick t: an own wave has ended before it, an opportunity that begins in it passes, and it is not
-- the tick in which a coordinator has recovered.
pub record IsQuiet (n : CycleSettings) (begin t : ℕ) (ws : List Wave) (ready : Bool) : Type 0 where
  pub own_over : (w : Wave) (rest : List Wave) → arrived t ws ≡ w ∷ rest → w.own ≡ true → begin ≤ w.from → w.till < t
  pub lapses : (a : Wave) (rest : List Wave) (x : ℕ) → BeginsBehind n t ws a rest x → Lapses n ready x
  pub recovers : n.owns 0 ≡ true → t ≡ begin + 258 * n.to → ⊥

-- Tick t of a node that starts at tick `begin`, where `ready` tells that a frame waits for its opportunity. It drives nothing;
-- or its newest wave is its own, and goes on or ends with this tick; or it starts a drive: its first beacon, a beacon behind
-- all IDs, or a run in an opportunity of its own.
pub data DriveOverWaves (n : CycleSettings) (begin t : ℕ) (ws : List Wave) (ready : Bool) : Option Quarter → Type 0 where
  quiet : IsQuiet n begin t ws ready → DriveOverWaves n begin t ws ready None
  goes_on : {w : Wave} {rest : List Wave} {q : Quarter} (k : ℕ) → arrived t ws ≡ w ∷ rest → w.own ≡ true → t ≤ w.till → w.from + k ≡ t
      → SpellsWave w k q
      → DriveOverWaves n begin t ws ready (Some q)
  ends : (w : Wave) (rest : List Wave) → arrived t ws ≡ w ∷ rest → w.own ≡ true → t ≤ w.till → w.from + 20 ≤ t
      → DriveOverWaves n begin t ws ready None
  starts_first_beacon : n.owns 0 ≡ true → t ≡ begin + 258 * n.to → DriveOverWaves n begin t ws ready (Some (record { sym = N; part = 0 }))
  starts_beacon : (a : Wave) (rest : List Wave) → BeginsBehind n t ws a rest n.count → n.owns 0 ≡ true
      → DriveOverWaves n begin t ws ready (Some (record { sym = N; part = 0 }))
  starts_run : (a : Wave) (rest : List Wave) (x : ℕ) → BeginsBehind n t ws a rest x → n.owns x ≡ true → ready ≡ true
      → DriveOverWaves n begin t ws ready (Some (record { sym = J; part = 0 }))
