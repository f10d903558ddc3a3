-- What the lines of a text say, with its numbers left open.
use Rattle.std.proofs.Common.{ℕ, ◌+◌, ◌<◌, ◌≤◌, List, [], ◌∷◌, ◌++◌, map, Ok}
use Rattle.std.specs.List.{range_with_len}
use Rattle.t1s_script.specs.ParsedLine.{ParsedLine}
use Rattle.t1s_script.specs.declared.words.Setting.TheVariants.{Count}
use Rattle.t1s_script.specs.declared.words.ScriptLine.TheVariants.{Set, Seed, Node, Offer, End}

-- how many nodes and frames there are, the seed and the end; the place of each node; for each frame the node and the
-- octets; and the tick of the last of so many frames
pub record Plan : Type 0 where
  pub nodes : ℕ
  pub frames : ℕ
  pub seed : ℕ
  pub last : ℕ
  pub place : ℕ → ℕ
  pub number : ℕ → ℕ
  pub frame : ℕ → List ℕ
  pub tick : ℕ → ℕ

pub record IsPlan (p : Plan) : Type 0 where
  pub nodes_low : 1 ≤ p.nodes
  pub nodes_high : p.nodes ≤ 16
  pub frames_high : p.frames ≤ 4096
  pub place_high : (k : ℕ) → p.place k ≤ 12
  pub number_high : (k : ℕ) → p.number k < p.nodes
  pub in_order : (k : ℕ) → p.tick k ≤ p.tick (k + 1)
  pub before_end : p.tick p.frames < p.last

abbrev pub said_node : Plan → ℕ → ParsedLine
said_node p k = Ok (Node k k (p.place k))

abbrev pub said_offer : Plan → ℕ → ParsedLine
said_offer p k = Ok (Offer (p.tick (k + 1)) (p.number k) (p.frame k))

-- what the lines after the nodes say, and those after the first
abbrev pub said_after : Plan → List ParsedLine
said_after p = map (said_offer p) (range_with_len 0 p.frames) ++ Ok (End p.last) ∷ []

abbrev pub said : Plan → List ParsedLine
said p = Ok (Set Count p.nodes) ∷ Ok (Seed p.seed) ∷ (map (said_node p) (range_with_len 0 p.nodes) ++ said_after p)
