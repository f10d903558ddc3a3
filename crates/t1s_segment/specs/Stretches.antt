-- How long an engine has nothing to do but to let its nodes count.
use Rattle.std.specs.Prelude.{◌≡◌, ◌⊎◌, ℕ, ◌+◌, ◌<◌, ◌≤◌, true, All, Contains, List, Option}
use Rattle.std.specs.Fn.{iterate}
use Rattle.t1s_symbols.specs.declared.Quarter.{Quarter}
use Rattle.t1s_symbols.specs.CalmSteps.{AreCalm}
use Rattle.t1s_cable.specs.Calm.{after_silence, IsCalm as IsSilent, IsHeardIn}
use Rattle.t1s_cable.specs.Stands.{Stands as CableStands}
use Rattle.t1s_line.specs.Acts.{has_act}
use Rattle.t1s_line.specs.CalmRuns.{IsCalmAt, silent_step}
use Rattle.t1s_line.specs.Outcomes.{NodePhases}
use Rattle.t1s_segment.specs.State.{EngineState}
use Rattle.t1s_acts.specs.Upcoming.{AreComing}

-- a noise lasts in the first tick already
abbrev pub LastsNoise : {N : Type 0} → EngineState N → ℕ → Type 0
LastsNoise g n = (n ≡ 0) × (g.tick < g.noise_until)

-- n ticks later a quarter reaches a node
abbrev pub Reaches : {N : Type 0} → EngineState N → ℕ → Type 0
Reaches g n = (rows : List (List (Option Quarter))) → CableStands rows g.cable → IsHeardIn g.cable.taps (after_silence g.cable.taps n rows)

module _ {N : Type 0} (p : NodePhases N) (calm : ℕ → N → Type 0) where
  -- each of these nodes is calm for n ticks from tick t on
  abbrev pub AllCalm : ℕ → ℕ → List N → Type 0
  AllCalm t n nodes = All (λ x. AreCalm (silent_step p) (IsCalmAt calm) (t, x) n) nodes

  -- and in the tick after these one of them is not
  abbrev pub OneActs : ℕ → ℕ → List N → Type 0
  OneActs t n nodes = (x : N) × Contains nodes x × (IsCalmAt calm (iterate (silent_step p) n (t, x)) → ⊥)

  -- what ends the stretch after n ticks: a noise that lasts already, a node that acts, an act, or a quarter that reaches a node
  abbrev pub Ends : EngineState N → ℕ → Type 0
  Ends g n = LastsNoise g n ⊎ (OneActs g.tick n g.nodes ⊎ ((has_act g.upcoming (g.tick + n) ≡ true) ⊎ Reaches g n))

  -- For n ticks, up to `most` and up to the end, no noise lasts and no act comes, each node is calm, and no quarter reaches one. Where
  -- it is fewer, there is a reason.
  pub record IsStretch (g : EngineState N) (most n : ℕ) : Type 0 where
    pub within : n ≤ most
    pub in_time : g.tick + n ≤ g.end
    pub no_noise : 0 < n → g.noise_until ≤ g.tick
    pub nodes : AllCalm g.tick n g.nodes
    pub coming : AreComing g.tick g.upcoming → AreComing (g.tick + n) g.upcoming
    pub silent : (rows : List (List (Option Quarter))) → CableStands rows g.cable → (k : ℕ) → k < n → IsSilent g.cable.taps (after_silence g.cable.taps k rows)
    pub ends : n < most → g.tick + n < g.end → AreComing g.tick g.upcoming → Ends g n
