-- What the drives of a fit script's run hold: beacons, and runs of pieces that each carry the frame of an offer.
use Rattle.std.specs.Prelude.{◌≡◌, ℕ, ◌+◌, ◌*◌, Contains, Some, slice_get, ◌<◌, ◌≤◌, Bool, true, false, List, [], ◌∷◌, length, get_or, None}
use Rattle.t1s_symbols.specs.declared.Symbol.{Symbol}
use Rattle.t1s_grammar.specs.Burst.{IsBeacon, IsRun}
use Rattle.t1s_grammar.specs.Reading.{StandsForFrame}
use Rattle.t1s_pcs_tx.specs.Runs.{all_quarters}
use Rattle.t1s_world.specs.Drives.{IsDrive}
use Rattle.t1s_world.specs.Schedule.{Drive}
use Rattle.t1s_turns.specs.OwnRun.{OwnPiece, piece_of, ticks_of, run_symbols, IsFirstH}
use Rattle.t1s_script.specs.Fit.{IsFit, longest_drive}
use Rattle.t1s_script.specs.Script.{IsScript}
use Rattle.t1s_script.specs.declared.script.NodeLine.{NodeLine}
use Rattle.t1s_script.specs.declared.script.Script.{Script}
use Rattle.t1s_ring.specs.declared.queued.Queued.{Queued}
use Rattle.t1s_line.specs.Acts.{offers_to}
use Rattle.t1s_line.specs.Happenings.{IsLeaving}
use Rattle.t1s_line.specs.World.{driven_in}
use Rattle.t1s_schedule.specs.SharedLine.{begins_beacon}

-- What the node at position i drives from tick `start` on and below tick `stop` are the quarters of these symbols, from the
-- first on, and all of them where `stop` is below T.
pub record IsSpelledBy (s : Script) (T i start stop : ℕ) (symbols : List Symbol) : Type 0 where
  pub drives : (m : ℕ) → start + m < stop → driven_in s i (start + m) ≡ get_or (all_quarters symbols) m None
  pub within : stop ≤ start + 4 * length symbols
  pub whole : stop < T → stop ≡ start + 4 * length symbols

-- this was offered to the node at position i, up to tick v
abbrev pub IsOfferTo : Script → ℕ → ℕ → Queued → Type 0
IsOfferTo s i v offer = (line : NodeLine) × (slice_get s.nodes i ≡ Some line) × (t : ℕ) × (t ≤ v) × Contains (offers_to s.acts t line.no) offer

-- Each of these pieces, of which the first begins in tick t, stands for the frame of an offer to the node at position i, whatever
-- was heard before; and the offer leaves the node in the tick in which the first H of its piece begins.
abbrev pub AreLeavings : Script → ℕ → ℕ → List OwnPiece → Type 0
AreLeavings s i t [] = Unit {0}
AreLeavings s i t (p ∷ ps) =
    IsLeaving s (t + 4 * p.lead) i p.offer.number
    × IsOfferTo s i (t + 4 * p.lead) p.offer
    × ((heard : List Bool) → StandsForFrame heard (piece_of p) p.offer.frame)
    × AreLeavings s i (t + ticks_of p) ps

-- a run of one to 1 + burst pieces, short enough for the bound of a start; no other offer leaves in it
pub record HoldsRun (s : Script) (T i start stop : ℕ) : Type 0 where
  pub pieces : List OwnPiece
  pub rest : ℕ
  pub some : 1 ≤ length pieces
  pub few : length pieces ≤ 1 + s.burst
  pub run : IsRun (run_symbols pieces rest)
  pub short : 4 * length (run_symbols pieces rest) ≤ longest_drive s
  pub spelled : IsSpelledBy s T i start stop (run_symbols pieces rest)
  pub leavings : AreLeavings s i start pieces
  pub no_other : (v number : ℕ) → start ≤ v → v < stop → IsLeaving s v i number → IsFirstH start pieces v

abbrev pub HoldsBeacon : Script → ℕ → ℕ → ℕ → ℕ → Type 0
HoldsBeacon s T i start stop = (symbols : List Symbol) × IsBeacon symbols × IsSpelledBy s T i start stop symbols

-- what a drive holds of which the ticks below T are told
pub record Holds (s : Script) (T : ℕ) (a : Drive) : Type 0 where
  pub beacon : a.beacon ≡ true → HoldsBeacon s T a.node a.start a.stop
  pub run : a.beacon ≡ false → HoldsRun s T a.node a.start a.stop

-- On a fit script each drive of the first T ticks, which is a maximal interval in which a node drives, holds what it begins.
abbrev pub DrivesHold : Type 0
DrivesHold =
    (s : Script) (T : ℕ) → IsScript s → IsFit s → (i start stop : ℕ) → IsDrive (driven_in s i) T start stop
    → (begins_beacon (driven_in s i start) ≡ true → HoldsBeacon s T i start stop)
    × (begins_beacon (driven_in s i start) ≡ false → HoldsRun s T i start stop)
