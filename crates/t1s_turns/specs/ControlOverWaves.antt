-- Control of a node over waves, as tick t finds it, and its transmitter beside it.
use Rattle.std.specs.Prelude.{◌≡◌, ℕ, ◌+◌, ◌*◌, ◌<◌, ◌≤◌, max, true, false, List, ◌∷◌}
use Rattle.t1s_pcs_tx.specs.State.{Stage, Quiet, Beaconing}
use Rattle.plca_control.specs.declared.State.{State}
use Rattle.plca_control.specs.declared.State.TheVariants.{Recover, Resync, Early, Beacon, Syncing, WaitTo, Receive, Commit, Drain}
use Rattle.t1s_world.specs.Waves.{CycleSettings, Wave, opportunity_start, reads_beacon, arrived, seen}

-- the states of an opportunity of ID x: its run has ended and carrier has not fallen yet; and its first tick
abbrev pub drain_of : ℕ → State
drain_of x = Drain x

abbrev pub commit_of : ℕ → ℕ → State
commit_of x burst = Commit x 288 burst

-- of a node that takes part in the cycle and does not drive, by the newest wave that it has seen: it listens to another's,
-- or its own fades, or its carrier is off and it counts
pub data WaitingControl (n : CycleSettings) (t : ℕ) : Wave → State → Type 0 where
  listens : {a : Wave} → a.own ≡ false → t ≤ a.till + n.fall → WaitingControl n t a (Receive a.place)
  fades : {a : Wave} → a.own ≡ true → a.beacon ≡ false → n.owns a.place ≡ true → a.till < t → t ≤ a.till + n.fall
      → WaitingControl n t a (drain_of a.place)
  syncs : {a : Wave} → a.own ≡ true → reads_beacon a ≡ true → a.till < t → t ≤ a.till + n.fall → WaitingControl n t a Syncing
  counts : {a : Wave} (c m : ℕ) → a.till + n.fall < t → t + m ≡ opportunity_start n a c + n.to + 1 → 1 ≤ m → m ≤ n.to → a.next ≤ c → c ≤ 254
      → (n.owns 0 ≡ true → c < n.count) → WaitingControl n t a (WaitTo c m)

-- the node was there when wave a began, or its carrier rose within a and has fallen since
pub data WasThere (n : CycleSettings) (begin t : ℕ) (a : Wave) : Type 0 where
  from_start : begin ≤ a.from → WasThere n begin t a
  from_within : a.till + n.fall < t → max begin a.from + n.rise ≤ a.till → WasThere n begin t a

-- the newest wave that has come is none of the node's own since its start
abbrev pub NoOwnWave : ℕ → ℕ → List Wave → Type 0
NoOwnWave begin t ws = (w : Wave) (rest : List Wave) → arrived t ws ≡ w ∷ rest → w.own ≡ true → begin ≤ w.from → ⊥

-- The control of a node that starts at tick `begin`, with the stage of its transmitter and the quarter that this drove last.
-- Before the node takes part in the cycle it recovers, waits for a beacon, or hears its first wave; then it drives a beacon
-- or a run of its own, or waits in one of the cases above. `Sends x e st stage part` is what is said of control and transmitter
-- e ticks after the node's own opportunity of ID x began.
pub data ControlOverWaves (Sends : ℕ → ℕ → State → Stage → ℕ → Type 0) (n : CycleSettings) (begin t : ℕ) (ws : List Wave) : State → Stage → ℕ
    → Type 0 where
  recovers : {q part : ℕ} → n.owns 0 ≡ true → begin + q ≡ t → q ≤ 258 * n.to → ControlOverWaves Sends n begin t ws (Recover q) Quiet part
  waits_for_beacon : {part : ℕ} → n.owns 0 ≡ false → NoOwnWave begin t ws → ControlOverWaves Sends n begin t ws Resync Quiet part
  hears_first_wave : {part : ℕ} {w : Wave} {rest : List Wave} → n.owns 0 ≡ false → NoOwnWave begin t ws → arrived t ws ≡ w ∷ rest
      → max begin w.from + n.rise < t → max begin w.from + n.rise ≤ w.till → t ≤ w.till + n.fall
      → ControlOverWaves Sends n begin t ws Early Quiet part
  owns_beacon : {a : Wave} {rest : List Wave} {left part : ℕ} (symbols : ℕ) → n.owns 0 ≡ true → arrived t ws ≡ a ∷ rest → a.own ≡ true
      → a.beacon ≡ true → begin ≤ a.from → t ≤ a.till
      → a.from + (4 * symbols + part + 1) ≡ t → part < 4 → left + (4 * symbols + part) ≡ 20 → 1 ≤ left
      → ControlOverWaves Sends n begin t ws (Beacon left) Beaconing part
  owns_run : {a : Wave} {rest : List Wave} {e part : ℕ} {st : State} {stage : Stage} → arrived t ws ≡ a ∷ rest → a.own ≡ true → a.beacon ≡ false
      → begin ≤ a.from → t ≤ a.till
      → a.from + e ≡ t → Sends a.place e st stage part → ControlOverWaves Sends n begin t ws st stage part
  waits : {a : Wave} {rest : List Wave} {part : ℕ} {st : State} → seen n t ws ≡ a ∷ rest → WasThere n begin t a → WaitingControl n t a st
      → ControlOverWaves Sends n begin t ws st Quiet part
