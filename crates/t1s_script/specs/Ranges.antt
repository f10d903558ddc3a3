-- The numbers that a line gives.
use Rattle.std.specs.Prelude.{◌≤◌, ⊤}
use Rattle.t1s_base.specs.Limits.{last_node}
use Rattle.t1s_script.specs.declared.words.ScriptLine.{ScriptLine}
use Rattle.t1s_script.specs.declared.words.ScriptLine.TheVariants.{Skipped, Set, Seed, Node, Also, Stub, Late, ToNode, Draw, Offer, Noise, End}

-- the number of a node in the line is one that a segment may have
abbrev pub HasSlot : ScriptLine → Type 0
HasSlot Skipped = ⊤
HasSlot (Set w n) = ⊤
HasSlot (Seed n) = ⊤
HasSlot (Node number id place) = number ≤ last_node
HasSlot (Also number id) = number ≤ last_node
HasSlot (Stub number stub) = number ≤ last_node
HasSlot (Late number start) = number ≤ last_node
HasSlot (ToNode number to) = number ≤ last_node
HasSlot (Draw number draw) = number ≤ last_node
HasSlot (Offer tick number frame) = number ≤ last_node
HasSlot (Noise tick until) = ⊤
HasSlot (End last) = ⊤
