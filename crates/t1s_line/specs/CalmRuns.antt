-- Calm ticks of a run, over any kind of node: nothing happens in them, so that they may be passed at once.
use Rattle.std.specs.Prelude.{◌≡◌, ℕ, suc, ◌<◌, Bool, true, false, All, List, [], None, length}
use Rattle.std.specs.Fn.{iterate}
use Rattle.t1s_symbols.specs.CalmSteps.{AreCalm}
use Rattle.t1s_symbols.specs.declared.Heard.{Heard}
use Rattle.t1s_symbols.specs.declared.Heard.TheVariants.{Nothing}
use Rattle.t1s_ring.specs.declared.queued.Queued.{Queued}
use Rattle.t1s_mac.specs.declared.outcome.MacNote.TheVariants.{None as NoNote}
use Rattle.t1s_world.specs.World.{heard_at}
use Rattle.t1s_script.specs.declared.script.Act.{Act}
use Rattle.t1s_script.specs.declared.script.NodeLine.{NodeLine}
use Rattle.t1s_line.specs.Acts.{has_act, is_noisy}
use Rattle.t1s_line.specs.Outcomes.{DriveOutcome, HearOutcome, NodePhases, machine_with}
use Rattle.t1s_line.specs.Runs.{nodes_in, taps_in}

-- of a drive phase comes nothing but the status, and of a hear phase nothing at all
abbrev pub quiet_drive : Bool → DriveOutcome
quiet_drive ok = record { quarter = None; note = NoNote; ok = ok; leaves = None; events = [] }

abbrev pub quiet_hearing : HearOutcome
quiet_hearing = record { heard = Nothing; drove = false; clash = false; event = None; events = [] }

module _ {N : Type 0} (p : NodePhases N) where
  -- what tick t leaves of a node that is offered nothing in it and hears nothing
  abbrev pub after_silence : ℕ → N → N
  after_silence t n = (p.hear t Nothing (p.drive t n).0).0

  -- the same with the tick beside the node, which is the next one then
  abbrev pub silent_step : ℕ × N → ℕ × N
  silent_step at = (suc at.0, after_silence at.0 at.1)

-- a tick with a node is calm for it
abbrev pub IsCalmAt : {N : Type 0} → (ℕ → N → Type 0) → ℕ × N → Type 0
IsCalmAt calm at = calm at.0 at.1

-- What holds of each node in a run, which ticks are calm for a node, and what is left of one that passes so many ticks from a
-- tick on at once. In a calm tick nothing comes of its two phases, its status is OK only where it was in the tick before, and
-- calm ticks are passed as they would be one by one.
pub record HasCalmTicks {N : Type 0} (p : NodePhases N) (holds : N → Type 0) (calm : ℕ → N → Type 0) (passed : ℕ → ℕ → N → N) : Type 0 where
  pub offering : (t : ℕ) (q : Queued) (n : N) → holds n → holds (p.offer t q n).0
  pub driving : (t : ℕ) (n : N) → holds n → holds (p.drive t n).0
  pub hearing : (t : ℕ) (h : Heard) (n : N) → holds n → holds (p.hear t h n).0
  pub drives : (t : ℕ) (n : N) → holds n → calm t n → (p.drive t n).1 ≡ quiet_drive (p.drive t n).1.ok
  pub hears : (t : ℕ) (n : N) → holds n → calm t n → (p.hear t Nothing (p.drive t n).0).1 ≡ quiet_hearing
  pub first_ok : (n : N) → calm 0 n → (p.drive 0 n).1.ok ≡ false
  pub next_ok : (t : ℕ) (h : Heard) (n : N) → calm (suc t) (p.hear t h (p.drive t n).0).0
      → (p.drive (suc t) (p.hear t h (p.drive t n).0).0).1.ok ≡ true → (p.drive t n).1.ok ≡ true
  pub passes : (t k : ℕ) (n : N) → holds n → AreCalm (silent_step p) (IsCalmAt calm) (t, n) k
      → passed t k n ≡ (iterate (silent_step p) k (t, n)).1

-- Tick t of a run is calm: no act has it and no noise lasts in it, it is calm for each node, and to no node comes what another one
-- drove.
pub record IsCalmIn {N : Type 0} (p : NodePhases N) (calm : ℕ → N → Type 0) (acts : List Act) (lines : List NodeLine) (first : List N) (t : ℕ) : Type 0 where
  pub no_act : has_act acts t ≡ false
  pub no_noise : is_noisy acts t ≡ false
  pub nodes : All (calm t) (nodes_in p acts lines first t)
  pub unreached : (j : ℕ) → j < length lines → heard_at (machine_with p acts) (taps_in lines) first t j ≡ Nothing
