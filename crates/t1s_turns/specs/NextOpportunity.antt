-- How soon the opportunity of an ID begins at a node, by the waves that pass it.
use Rattle.std.specs.Prelude.{◌≡◌, ℕ, ◌+◌, ◌*◌, ◌≤◌, true, List, ◌∷◌}
use Rattle.t1s_world.specs.Waves.{CycleSettings, IsCycleSettings, Wave, BeginsBehind, EachWave, AreWaves, seen}

-- a wave lasts at most so many ticks
abbrev pub LastsAtMost : ℕ → Wave → Type 0
LastsAtMost longest w = w.till ≤ w.from + longest

-- The opportunity of an ID begins in a tick from r on and at most `wait` ticks later.
pub record BeginsWithin (n : CycleSettings) (ws : List Wave) (mine r wait : ℕ) : Type 0 where
  pub t : ℕ
  pub from : r ≤ t
  pub within : t ≤ r + wait
  pub newest : Wave
  pub older : List Wave
  pub begins : BeginsBehind n t ws newest older mine

-- At a node that has seen a wave by tick r, each ID of its own has its opportunity within count + 1 opportunities of `unit`
-- ticks, where each holds the timer, the longest drive and the fall of carrier, and the waves are told as far. The chain of
-- drives gives each premise: that these are the waves of a cycle, and how long a drive is at most.
abbrev pub TurnComes : Type 0
TurnComes =
    (n : CycleSettings) (begin now : ℕ) (ws : List Wave) (longest unit : ℕ)
    → IsCycleSettings n → AreWaves n begin now ws → EachWave (LastsAtMost longest) ws → n.to + longest + n.fall ≤ unit
    → (mine : ℕ) → n.owns mine ≡ true → (r : ℕ) (a : Wave) (rest : List Wave) → seen n r ws ≡ a ∷ rest
    → r + (n.count + 1) * unit ≤ now → BeginsWithin n ws mine r ((n.count + 1) * unit)
