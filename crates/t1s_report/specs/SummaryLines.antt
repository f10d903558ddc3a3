-- The lines of the summary. Numbers are plain decimal.
use Rattle.std.specs.Prelude.{ℕ, ◌+◌, List, [], ◌∷◌, ◌++◌, map, filter_map, Option, None, Some, codes, decimal}
use Rattle.std.specs.Option.{option_map}
use Rattle.t1s_base.specs.Limits.{most_nodes}
use Rattle.t1s_script.specs.Limits.{most_acts}
use Rattle.t1s_script.specs.Script.{offer_number}
use Rattle.t1s_script.specs.declared.script.Script.{Script}
use Rattle.t1s_line.specs.declared.offers.Wait.{Wait}
use Rattle.t1s_line.specs.declared.offers.Wait.TheVariants.{Off, Full, Open, Left}
use Rattle.t1s_line.specs.declared.totals.NodeTotals.{NodeTotals}
use Rattle.t1s_line.specs.World.{settled_below, totals_below, wait_below}
use Rattle.t1s_report.specs.Lines.{line}

-- the line of the first tick in which every status was OK
abbrev pub settled_line : Option ℕ → List ℕ
settled_line None = line (codes "settled" ∷ codes "never" ∷ [])
settled_line (Some tick) = line (codes "settled" ∷ decimal tick ∷ [])

-- the line of what was counted at a node
abbrev pub node_line : NodeTotals → List ℕ
node_line n = line (
    codes "node" ∷ decimal n.node ∷
    codes "sent" ∷ decimal n.sent ∷
    codes "full" ∷ decimal n.full ∷
    codes "jam" ∷ decimal n.jam ∷
    codes "drop" ∷ decimal n.drop ∷
    codes "good" ∷ decimal n.good ∷
    codes "bad" ∷ decimal n.bad ∷
    codes "clash" ∷ decimal n.clash ∷ [])

-- what has become of an offer
abbrev pub wait_fields : Wait → List (List ℕ)
wait_fields Off = codes "off" ∷ []
wait_fields Full = codes "full" ∷ []
wait_fields Open = codes "none" ∷ []
wait_fields (Left ticks) = codes "wait" ∷ decimal ticks ∷ []

-- the line of an offer with its number
abbrev pub offer_line : ℕ → Wait → List ℕ
offer_line number wait = line (codes "offer" ∷ decimal number ∷ wait_fields wait)

-- the numbers of the offers of a script, ascending as its acts stand
abbrev pub offers_of : Script → List ℕ
offers_of s = filter_map offer_number s.acts

-- an offer with what has become of it over the ticks below t
abbrev pub numbered_wait : Script → ℕ → ℕ → Option (ℕ × Wait)
numbered_wait s t number = option_map (λ wait. (number, wait)) (wait_below s t number)

-- so each offer of the script
abbrev pub waits_below : Script → ℕ → List (ℕ × Wait)
waits_below s t = filter_map (numbered_wait s t) (offers_of s)

-- the most lines of a summary: when all were in step, and one for each node and for each offer
abbrev pub most_summary_lines : ℕ
most_summary_lines = 1 + most_nodes + most_acts

-- the lines of the summary of the ticks below t: when all were in step, then what was counted at each node, the nodes
-- ascending, and then what has become of each offer, the offers ascending
abbrev pub summary_lines_below : Script → ℕ → List (List ℕ)
summary_lines_below s t =
    settled_line (settled_below s t) ∷ map node_line (totals_below s t) ++ map (λ (w : ℕ × Wait). offer_line w.0 w.1) (waits_below s t)
