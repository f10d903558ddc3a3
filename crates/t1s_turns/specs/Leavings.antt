-- Each frame leaves once.
use Rattle.std.specs.Prelude.{◌≡◌, ℕ, zero, suc, ◌<◌, ◌≤◌, List, [], ◌∷◌, ◌++◌, Some}
use Rattle.t1s_ring.specs.Queue.{empty_queue}
use Rattle.t1s_ring.specs.declared.queued.Queued.{Queued}
use Rattle.plca_control.specs.declared.ControlSet.{ControlSet}
use Rattle.t1s_node.specs.Core.{Core, core_start}
use Rattle.t1s_node.specs.Runs.{CoreTick, IsUndisturbed, leaves_at}

-- the offers of n ticks from tick t on, in order
abbrev pub offers_from : (ℕ → CoreTick) → ℕ → ℕ → List Queued
offers_from given t zero = []
offers_from given t (suc n) = (given t).offers ++ offers_from given (suc t) n

-- the numbers of these offers have greater ranks than this one
abbrev pub AllAbove : (ℕ → ℕ) → ℕ → List Queued → Type 0
AllAbove rank least [] = Unit {0}
AllAbove rank least (q ∷ qs) = (least < rank q.number) × AllAbove rank least qs

-- the ranks of their numbers ascend
abbrev pub RanksAscend : (ℕ → ℕ) → List Queued → Type 0
RanksAscend rank [] = Unit {0}
RanksAscend rank (q ∷ qs) = AllAbove rank (rank q.number) qs × RanksAscend rank qs

module _ {D : Type 0} (answer : D → ℕ → ℕ) (after : D → D) where
  -- Where the numbers of the offers ascend by some rank, in the order of ticks and of offers in a tick, no number leaves
  -- twice.
  abbrev pub LeavesOnce : Type 0
  LeavesOnce =
      (set : ControlSet) (room : ℕ) (draws : D) (given : ℕ → CoreTick) (end : ℕ)
      → let start : Core D = core_start set (empty_queue room) draws in
      IsUndisturbed answer after start given end
      → (rank : ℕ → ℕ) → RanksAscend rank (offers_from given 0 (suc end))
      → (t u number : ℕ) → t ≤ end → u ≤ end → leaves_at answer after start given t ≡ Some number → leaves_at answer after start given u ≡ Some number
      → t ≡ u
