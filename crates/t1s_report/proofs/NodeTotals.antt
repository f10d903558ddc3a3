-- The totals of a run stand in ascending node number.
use Rattle.std.proofs.Common.{◌≡◌, ℕ, suc, ◌+◌, ◌<◌, List, [], ◌∷◌, map, All, refl, ap, arith, lt-ltb}
use Rattle.t1s_base.specs.Limits.{most_nodes}
use Rattle.t1s_script.specs.Script.{IsScript, IsNodeLine}
use Rattle.t1s_script.specs.declared.script.Script.{Script}
use Rattle.t1s_script.specs.declared.script.NodeLine.{NodeLine}
use Rattle.t1s_line.specs.declared.totals.NodeTotals.{NodeTotals}
use Rattle.t1s_line.specs.World.{totals_of, totals_from, totals_below}
use Rattle.t1s_report.proofs.Ascending.{AscendFrom, ascend_from, keyed_below}

abbrev pub number_of : NodeTotals → ℕ
number_of n = n.node

module _ (s : Script) (t : ℕ) where
  numbers-totals_from : (i : ℕ) (ns : List NodeLine) → map number_of (totals_from s t i ns) ≡ map (λ (n : NodeLine). n.no) ns
  numbers-totals_from i [] = refl
  numbers-totals_from i (n ∷ ns) = ap (λ (r : List ℕ). n.no ∷ r) (numbers-totals_from (i + 1) ns)

  all_below : (i : ℕ) (ns : List NodeLine) → All IsNodeLine ns → keyed_below number_of most_nodes (totals_from s t i ns) ≡ totals_from s t i ns
  all_below i [] h = refl
  all_below i (n ∷ ns) h =
      let here : IsNodeLine n = h 0 n (omega arith) in
      let low : n.no < most_nodes = omega (arith, here.no_high) in
      let rest : All IsNodeLine ns = λ k d l. h (suc k) d (omega arith) in
      rw (lt-ltb n.no most_nodes low) (ap (λ (r : List NodeTotals). totals_of s t i n ∷ r) (all_below (i + 1) ns rest))

  pub totals_ascend : IsScript s → AscendFrom 0 (map number_of (totals_below s t))
  unfolding totals_below
  totals_ascend v =
      let rise : AscendFrom 0 (map (λ (n : NodeLine). n.no) s.nodes) = ascend_from 0 (map (λ (n : NodeLine). n.no) s.nodes) v.ascending (λ _. omega arith) in
      rw (numbers-totals_from 0 s.nodes) rise

  pub totals_all_below : IsScript s → keyed_below number_of most_nodes (totals_below s t) ≡ totals_below s t
  unfolding totals_below
  totals_all_below v = all_below 0 s.nodes v.nodes
