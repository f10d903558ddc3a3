use Rattle.std.proofs.Common.{ap, sym, subst, ◌∙◌}
use Rattle.t1s_symbols.specs.CalmSteps.{AreCalm}
use Rattle.t1s_mac.specs.declared.picked_draws.PickedDraws.{PickedDraws}
use Rattle.t1s_mac.specs.PickedDraws.{picked_answer, picked_after}
use Rattle.t1s_mac.specs.State.{MacState}
use Rattle.t1s_mac.specs.CalmMac.{mac_after, IsCalmMac}
use Rattle.t1s_node.specs.Node.{mac_in}
use Rattle.t1s_node.proofs.node.pass_mac.Goals as goal

pub pass-requires : goal.pass-requires
pass-requires c =
    let CalmFrom : MacState PickedDraws → Type 0 = λ m.
    AreCalm (mac_after picked_answer picked_after c.args.carrier c.args.collision)
    (IsCalmMac picked_answer picked_after c.args.carrier c.args.collision) m c.args.n in
    subst CalmFrom (ap mac_in (sym c.take.ensures.value ∙ c.in-Some.is)) c.requires.calm
