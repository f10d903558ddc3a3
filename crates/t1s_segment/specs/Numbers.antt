-- Nodes and their numbers.
use Rattle.std.specs.Prelude.{◌≡◌, ℕ, List, map}
use Rattle.std.specs.List.Sorted.{IsStrictlyIncreasing}
use Rattle.t1s_symbols.specs.declared.Heard.{Heard}
use Rattle.t1s_script.specs.Script.{numbers_of}
use Rattle.t1s_script.specs.declared.script.Act.{Act}
use Rattle.t1s_script.specs.declared.script.NodeLine.{NodeLine}
use Rattle.t1s_line.specs.declared.totals.NodeTotals.{NodeTotals}
use Rattle.t1s_line.specs.Outcomes.{NodePhases, KeepsNumber}
use Rattle.t1s_acts.specs.Upcoming.{AreComing}

-- The nodes stand in these lines of a script, each with the number of its line. The numbers ascend strictly, and nothing
-- that happens to a node changes its number.
pub record AreNumbered {N : Type 0} (p : NodePhases N) (lines : List NodeLine) (nodes : List N) : Type 0 where
  pub each : map p.number nodes ≡ numbers_of lines
  pub ascending : IsStrictlyIncreasing (numbers_of lines)
  pub offering : KeepsNumber p
  pub driving : (t : ℕ) (n : N) → p.number (p.drive t n).0 ≡ p.number n
  pub hearing : (t : ℕ) (h : Heard) (n : N) → p.number (p.hear t h n).0 ≡ p.number n

-- Each node has the number of its totals, no two have the same, and no offer changes it.
pub record HaveTotals {N : Type 0} (p : NodePhases N) (nodes : List N) (totals : List NodeTotals) : Type 0 where
  pub each : map p.number nodes ≡ map (λ (n : NodeTotals). n.node) totals
  pub ascending : IsStrictlyIncreasing (map (λ (n : NodeTotals). n.node) totals)
  pub offering : KeepsNumber p

-- and the acts that are still to come are none of a tick before t
pub record AwaitActs {N : Type 0} (p : NodePhases N) (t : ℕ) (nodes : List N) (totals : List NodeTotals) (upcoming : List Act) : Type 0 where
  pub have : HaveTotals p nodes totals
  pub coming : AreComing t upcoming
