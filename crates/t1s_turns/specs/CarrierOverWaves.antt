-- The carrier reading of a node over waves, by those that have come before tick t.
use Rattle.std.specs.Prelude.{◌≡◌, ℕ, ◌+◌, ◌<◌, ◌≤◌, max, true, false, List, [], ◌∷◌}
use Rattle.t1s_node.specs.declared.carrier.Carrier.{Carrier}
use Rattle.t1s_world.specs.Waves.{CycleSettings, Wave}

abbrev pub off : ℕ → Carrier
off e = record { on = false; run = e }

abbrev pub on : ℕ → Carrier
on m = record { on = true; run = m }

-- Of a node that starts at tick `begin`, by its newest wave: none has come, or it was over before the start; carrier rises,
-- counted from the start where the wave came before; it is on; it falls, and has fallen; or the wave was too short for it.
pub data CarrierOverWaves (n : CycleSettings) (begin t : ℕ) : List Wave → Carrier → Type 0 where
  silent : CarrierOverWaves n begin t [] (off 0)
  missed : {w : Wave} {ws : List Wave} → w.till ≤ begin → CarrierOverWaves n begin t (w ∷ ws) (off 0)
  rising : {w : Wave} {ws : List Wave} {e : ℕ} → t ≤ w.till → max begin w.from + e ≡ t → e < n.rise → CarrierOverWaves n begin t (w ∷ ws) (off e)
  steady : {w : Wave} {ws : List Wave} → t ≤ w.till → max begin w.from + n.rise ≤ t → CarrierOverWaves n begin t (w ∷ ws) (on 0)
  fading : {w : Wave} {ws : List Wave} {m : ℕ} → max begin w.from + n.rise ≤ w.till → w.till + m ≡ t → 1 ≤ m → m < n.fall
      → CarrierOverWaves n begin t (w ∷ ws) (on m)
  faded : {w : Wave} {ws : List Wave} → w.till + n.fall ≤ t → CarrierOverWaves n begin t (w ∷ ws) (off 0)
  short : {w : Wave} {ws : List Wave} → w.till < max begin w.from + n.rise → w.till < t → CarrierOverWaves n begin t (w ∷ ws) (off 0)
