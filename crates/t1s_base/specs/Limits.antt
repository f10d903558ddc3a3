-- How large a segment and a run may be. The first two versions of the script have smaller ones.
use Rattle.std.specs.Prelude.{ℕ}

-- the most nodes of a segment
abbrev pub most_nodes : ℕ
most_nodes = 32

-- the greatest number of a node: nodes are numbered from 0
abbrev pub last_node : ℕ
last_node = 31

-- the most ticks of a run
abbrev pub most_ticks : ℕ
most_ticks = 20000000

-- the same of the first two versions of the script
abbrev pub early_last_node : ℕ
early_last_node = 15

abbrev pub early_most_ticks : ℕ
early_most_ticks = 2000000
