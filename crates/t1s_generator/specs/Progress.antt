-- What the code keeps of a text of which the first lines were given. What the text is doesn't rest on it: that stands in
-- Generated.
use Rattle.std.specs.Prelude.{ℕ, ◌≡◌, ◌+◌, ◌-◌, ◌*◌, ◌<◌, ◌≤◌, List, [], ◌∷◌, ◌++◌, map, drop, if◌then◌else◌}
use Rattle.std.specs.List.{range_with_len}
use Rattle.t1s_generator.specs.Generated.{generator_after, tick_after, head_lines, node_line, fill_line, end_line}
use Rattle.t1s_generator.specs.declared.progress.Progress.{Progress}

-- the lines that are not given yet
abbrev pub lines_left : Progress → List (List ℕ)
lines_left p =
    drop p.heads (head_lines p.seed p.nodes) ++ (map (node_line p.seed) (range_with_len p.placed (p.nodes - p.placed))
    ++ (map (fill_line p.seed p.nodes) (range_with_len p.filled (p.frames - p.filled))
    ++ (if p.ended then [] else end_line p.seed p.nodes p.frames ∷ [])))

-- The numbers are in their ranges, frames are only given when all nodes are, and the words and the tick are those
-- behind what was given.
pub record IsProgress (p : Progress) : Type 0 where
  pub seed_high : p.seed ≤ 4294967295
  pub nodes_low : 1 ≤ p.nodes
  pub nodes_high : p.nodes ≤ 16
  pub frames_high : p.frames ≤ 400
  pub heads_high : p.heads ≤ 3
  pub placed_high : p.placed ≤ p.nodes
  pub filled_high : p.filled ≤ p.frames
  pub in_order : p.placed < p.nodes → p.filled ≡ 0
  pub words : p.words ≡ generator_after p.seed (p.placed + 4 * p.filled)
  pub tick : p.tick ≡ tick_after p.seed p.nodes p.filled
