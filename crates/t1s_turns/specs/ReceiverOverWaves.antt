-- The receiver of a node over waves, as far as its class: by the waves that have come before tick t.
use Rattle.std.specs.Prelude.{◌≡◌, ◌≢◌, ℕ, ◌+◌, ◌*◌, ◌<◌, ◌≤◌, ◌⊎◌, Bool, true, false, List, [], ◌∷◌, Some, if◌then◌else◌}
use Rattle.t1s_symbols.specs.declared.Class.{Class}
use Rattle.t1s_symbols.specs.declared.Class.TheVariants.{None as Unread, Beacon as BeaconHeard, Run as RunHeard}
use Rattle.t1s_symbols.specs.declared.Heard.{Heard}
use Rattle.t1s_symbols.specs.declared.Heard.TheVariants.{Nothing, One}
use Rattle.t1s_symbols.specs.declared.Quarter.{Quarter}
use Rattle.t1s_symbols.specs.declared.Symbol.{Symbol}
use Rattle.t1s_symbols.specs.declared.Symbol.TheVariants.{N, J}
use Rattle.t1s_grammar.specs.PlaceTable.{start_phase}
use Rattle.t1s_pcs_rx.specs.declared.reader.Burst.{Burst}
use Rattle.t1s_pcs_rx.specs.declared.reader.Burst.TheVariants.{Outside, Reading, Ended}
use Rattle.t1s_world.specs.Waves.{CycleSettings, Wave, reads_beacon}

abbrev pub class_by : Bool → Class
class_by beacon = if beacon then BeaconHeard else RunHeard

abbrev pub first_symbol : Bool → Symbol
first_symbol beacon = if beacon then N else J

-- the quarter by which a wave is heard in its tick k
pub record SpellsWave (w : Wave) (k : ℕ) (q : Quarter) : Type 0 where
  pub symbol : ℕ
  pub part : k ≡ 4 * symbol + q.part
  pub low : q.part < 4
  pub first : k < 4 → q.sym ≡ first_symbol w.beacon
  pub other : w.beacon ≡ false → q.sym ≢ N

-- no burst is open in which the class is still to be set
abbrev pub is_settled : Burst → Bool
is_settled (Reading last fresh place) = if fresh then false else true
is_settled Ended = true
is_settled Outside = false

-- a burst that was heard from within a wave on
pub data LateReception (w : Wave) : Class → Burst → Type 0 where
  unsettled : {q : Quarter} → (q.sym ≡ N → w.beacon ≡ true) → LateReception w Unread (Reading (Some q) true start_phase)
  settled : {class : Class} {burst : Burst} → (class ≡ BeaconHeard → reads_beacon w ≡ true) → class ≢ Unread → is_settled burst ≡ true
      → LateReception w class burst

-- Of a node that starts at tick `begin`, by its newest wave: none has come, or nothing of it was heard; its first symbol is
-- being read; it goes on, and its class is known; it is over; or the node started within it.
pub data ReceiverOverWaves (n : CycleSettings) (begin t : ℕ) : List Wave → Class → Burst → Type 0 where
  silent : ReceiverOverWaves n begin t [] Unread Outside
  unheard : {w : Wave} {ws : List Wave} → w.till ≤ begin ⊎ (t ≤ begin) ⊎ (w.own ≡ true) → ReceiverOverWaves n begin t (w ∷ ws) Unread Outside
  reads_first : {w : Wave} {ws : List Wave} {q : Quarter} → w.own ≡ false → begin ≤ w.from → w.from + q.part + 1 ≡ t → q.part < 3 → t ≤ w.till
      → q.sym ≡ first_symbol w.beacon
      → ReceiverOverWaves n begin t (w ∷ ws) Unread (Reading (Some q) true start_phase)
  known : {w : Wave} {ws : List Wave} {burst : Burst} → w.own ≡ false → begin ≤ w.from → w.from + 4 ≤ t → t ≤ w.till → is_settled burst ≡ true
      → ReceiverOverWaves n begin t (w ∷ ws) (class_by w.beacon) burst
  past : {w : Wave} {ws : List Wave} {class : Class} → w.own ≡ false → w.till < t
      → (begin ≤ w.from → w.from + 4 ≤ w.till → class ≡ class_by w.beacon) → (class ≡ BeaconHeard → reads_beacon w ≡ true)
      → ReceiverOverWaves n begin t (w ∷ ws) class Outside
  late : {w : Wave} {ws : List Wave} {class : Class} {burst : Burst} → w.own ≡ false → w.from < begin → t ≤ w.till → begin < t
      → LateReception w class burst
      → ReceiverOverWaves n begin t (w ∷ ws) class burst

-- what is heard in tick t, and whether the node drives, by the waves that have come before tick t + 1
pub data HeardOverWaves (t : ℕ) : List Wave → Heard → Bool → Type 0 where
  nobody : HeardOverWaves t [] Nothing false
  drives : {w : Wave} {ws : List Wave} → w.own ≡ true → t < w.till → HeardOverWaves t (w ∷ ws) Nothing true
  rests : {w : Wave} {ws : List Wave} → w.till ≤ t → HeardOverWaves t (w ∷ ws) Nothing false
  theirs : {w : Wave} {ws : List Wave} {q : Quarter} (k : ℕ) → w.own ≡ false → t < w.till → w.from + k ≡ t → SpellsWave w k q
      → HeardOverWaves t (w ∷ ws) (One q) false
