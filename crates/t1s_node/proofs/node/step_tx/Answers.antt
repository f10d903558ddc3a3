use Rattle.t1s_pcs_tx.specs.State.{TxState}
use Rattle.std.proofs.Common.{IsTrue, sym, subst}
use Rattle.t1s_node.specs.CalmNode.{quiet_has_no_part}
use Rattle.t1s_node.proofs.CalmStill.{step_has_no_part}
use Rattle.t1s_node.proofs.node.step_tx.Goals as goal

pub returns-clause-part : goal.returns-clause-part
returns-clause-part c =
    subst (λ (s : TxState). IsTrue (quiet_has_no_part s)) (sym c.step-next.ensures.state) (step_has_no_part _ _ _)
