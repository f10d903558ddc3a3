-- The summary of a run as one JSON object. The keys stand in ascending order.
use Rattle.std.specs.Prelude.{ℕ, List, [], ◌∷◌, ◌++◌, map, Option, None, Some, codes}
use Rattle.t1s_script.specs.declared.script.Script.{Script}
use Rattle.t1s_line.specs.declared.offers.Wait.{Wait}
use Rattle.t1s_line.specs.declared.offers.Wait.TheVariants.{Off, Full, Open, Left}
use Rattle.t1s_line.specs.declared.totals.NodeTotals.{NodeTotals}
use Rattle.t1s_line.specs.World.{settled_below, totals_below}
use Rattle.t1s_report.specs.SummaryLines.{waits_below}
use Rattle.serde_json.specs.Data.{Data, null, number, unsigned, string, array, object, member, no_members}
use Rattle.serde_json.specs.View.{items_of}
use Rattle.serde_json.specs.Written.{compact_text}

-- a count, or a number of ticks
abbrev pub count_value : ℕ → Data
count_value n = number (unsigned n)

-- the first tick in which every status was OK
abbrev pub settled_value : Option ℕ → Data
settled_value None = null
settled_value (Some tick) = count_value tick

-- what was counted at a node
abbrev pub node_value : NodeTotals → Data
node_value n = object (
    member (codes "bad") (count_value n.bad) (
    member (codes "clash") (count_value n.clash) (
    member (codes "drop") (count_value n.drop) (
    member (codes "full") (count_value n.full) (
    member (codes "good") (count_value n.good) (
    member (codes "jam") (count_value n.jam) (
    member (codes "node") (count_value n.node) (
    member (codes "sent") (count_value n.sent) no_members))))))))

-- what has become of an offer
abbrev pub wait_value : Wait → Data
wait_value Off = string (codes "off")
wait_value Full = string (codes "full")
wait_value Open = string (codes "none")
wait_value (Left ticks) = count_value ticks

-- the same of an offer with its number
abbrev pub offer_value : ℕ × Wait → Data
offer_value w = wait_value w.1

-- what was counted at each node over the ticks below t, the nodes ascending
abbrev pub node_values : Script → ℕ → List Data
node_values s t = map node_value (totals_below s t)

-- what has become of each offer over the ticks below t, the offers ascending
abbrev pub offer_values : Script → ℕ → List Data
offer_values s t = map offer_value (waits_below s t)

-- the summary of the ticks below t
abbrev pub summary_value : Script → ℕ → Data
summary_value s t = object (
    member (codes "nodes") (array (items_of (node_values s t))) (
    member (codes "offers") (array (items_of (offer_values s t))) (
    member (codes "settled") (settled_value (settled_below s t)) no_members)))

-- its text, with no space in it
abbrev pub json_object : Script → ℕ → List ℕ
json_object s t = compact_text (summary_value s t)

-- the text of the summary of the whole run, and LF
abbrev pub json_summary : Script → List ℕ
json_summary s = json_object s s.end ++ 10 ∷ []
