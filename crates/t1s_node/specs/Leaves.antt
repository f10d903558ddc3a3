-- What the hear phase leaves of a node, once the view that it lent is gone.
use mathlib.Core.Option.{none}
use Rattle.std.specs.Prelude.{◌≡◌, ⊤}
use Rattle.std.specs.Borrow.{MutBor, Fml, follows_so}
use Rattle.t1s_symbols.specs.declared.Heard.{Heard}
use Rattle.t1s_node.specs.contracts.node.Node.{the_row}
use Rattle.t1s_node.specs.Node.{NodeState, node_hear}

abbrev pub LeavesNode : MutBor NodeState → Heard → Fml
LeavesNode n h = follows_so the_row the_row n.ghost_name none (λ _ _. ⊤) (λ left. left ≡ node_hear n.now h)
