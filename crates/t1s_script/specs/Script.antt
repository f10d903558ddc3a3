-- Valid scripts.
use Rattle.std.specs.Prelude.{ℕ, ◌<◌, ◌≤◌, ⊤, List, length, map, filter_map, Option, Some, None, All, Contains}
use Rattle.std.specs.List.Sorted.{IsNonDecreasing, IsStrictlyIncreasing}
use Rattle.t1s_base.specs.NodeIds.{IsIds}
use Rattle.t1s_base.specs.Limits.{most_nodes, last_node, most_ticks}
use Rattle.t1s_frame.specs.Frame.{IsFrame}
use Rattle.t1s_script.specs.Limits.{most_acts, most_draws, last_draw, longest_stub}
use Rattle.t1s_script.specs.declared.script.Script.{Script}
use Rattle.t1s_script.specs.declared.script.Act.{Act}
use Rattle.t1s_script.specs.declared.script.Deed.{Deed}
use Rattle.t1s_script.specs.declared.script.Deed.TheVariants.{Offer, Noise}
use Rattle.t1s_script.specs.declared.script.NodeLine.{NodeLine}

-- the draws that are listed for a node, if any are
abbrev pub AreDraws : Option (List ℕ) → Type 0
AreDraws (Some draws) = (length draws ≤ most_draws) × All (λ draw. draw ≤ last_draw) draws
AreDraws None = ⊤

-- the numbers of a node are in their ranges
pub record IsNodeLine (n : NodeLine) : Type 0 where
  pub no_high : n.no ≤ last_node
  pub ids : IsIds n.ids
  pub place_high : n.place ≤ 255
  pub stub_high : n.stub ≤ longest_stub
  pub to_low : 16 ≤ n.to
  pub to_high : n.to ≤ 255
  pub start_high : n.start ≤ most_ticks
  pub draws : AreDraws n.draws

abbrev pub numbers_of : List NodeLine → List ℕ
numbers_of nodes = map (λ (n : NodeLine). n.no) nodes

-- what is done at a tick: a frame is offered to one of these nodes, or a noise begins that ends later
abbrev pub IsDeed : List ℕ → ℕ → Deed → Type 0
IsDeed numbers tick (Offer number node frame) = (1 ≤ number) × (number ≤ most_acts) × Contains numbers node × IsFrame frame
IsDeed numbers tick (Noise until) = (tick < until) × (until ≤ most_ticks)

-- an act before the end
pub record IsAct (numbers : List ℕ) (end : ℕ) (a : Act) : Type 0 where
  pub before_end : a.tick < end
  pub deed : IsDeed numbers a.tick a.deed

-- the number of an offer
abbrev pub number_in : Deed → Option ℕ
number_in (Offer number node frame) = Some number
number_in (Noise until) = None

abbrev pub offer_number : Act → Option ℕ
offer_number a = number_in a.deed

-- how many of these acts are offers
abbrev pub offers_in : List Act → ℕ
offers_in acts = length (filter_map offer_number acts)

-- all numbers are in their ranges; one to `most_nodes` nodes stand in strictly ascending number; at most `most_acts`
-- acts stand in the order of their ticks, and the numbers of the offers among them ascend strictly
pub record IsScript (s : Script) : Type 0 where
  pub count_low : 1 ≤ s.count
  pub count_high : s.count ≤ 254
  pub to_low : 16 ≤ s.to
  pub to_high : s.to ≤ 255
  pub rise_low : 1 ≤ s.rise
  pub rise_high : s.rise ≤ 16
  pub fall_low : 1 ≤ s.fall
  pub fall_high : s.fall ≤ 16
  pub burst_high : s.burst ≤ 255
  pub room_low : 1 ≤ s.room
  pub room_high : s.room ≤ 64
  pub seed_high : s.seed ≤ 4294967295
  pub some_node : 1 ≤ length s.nodes
  pub most_nodes : length s.nodes ≤ most_nodes
  pub ascending : IsStrictlyIncreasing (numbers_of s.nodes)
  pub nodes : All IsNodeLine s.nodes
  pub end_low : 1 ≤ s.end
  pub end_high : s.end ≤ most_ticks
  pub few_acts : length s.acts ≤ most_acts
  pub acts_in_order : IsNonDecreasing (map (λ (a : Act). a.tick) s.acts)
  pub offers_in_order : IsStrictlyIncreasing (filter_map offer_number s.acts)
  pub acts : All (IsAct (numbers_of s.nodes) s.end) s.acts
