use Rattle.std.proofs.Common.{◌≡◌, Bool, ap, sym, subst, ◌∙◌}
use Rattle.std.specs.Fn.{iterate}
use Rattle.t1s_symbols.specs.CalmSteps.{AreCalm}
use Rattle.plca_control.specs.declared.ControlIn.{ControlIn}
use Rattle.plca_control.specs.declared.StatusState.{StatusState}
use Rattle.plca_control.specs.State.{ControlState}
use Rattle.plca_control.specs.CalmControl.{control_after, IsCalmControl, status_after, IsCalmStatus}
use Rattle.plca_data.specs.declared.DataIn.{DataIn}
use Rattle.plca_data.specs.DataPathTable.{carrier, collision}
use Rattle.plca_data.specs.CalmData.{path_after, IsCalmData}
use Rattle.t1s_mac.specs.declared.picked_draws.PickedDraws.{PickedDraws}
use Rattle.t1s_mac.specs.PickedDraws.{picked_answer, picked_after}
use Rattle.t1s_mac.specs.State.{MacState}
use Rattle.t1s_mac.specs.CalmMac.{mac_after, IsCalmMac}
use Rattle.t1s_node.specs.contracts.node.Node.{the_view}
use Rattle.t1s_node.specs.Node.{NodeState, mac_in}
use Rattle.t1s_node.specs.CalmNode.{node_after_silence, IsCalmNode}
use Rattle.t1s_node.proofs.CalmCalls.{found, told_after, told, rebuilt, passes}
use Rattle.t1s_node.proofs.node.Node.pass.Goals as goal

pub pass_mac-requires-clause-calm : goal.pass_mac-requires-clause-calm
pass_mac-requires-clause-calm c =
    let inside = c.self.inside in
    let v : NodeState = the_view inside in
    let finds : c.control_in-found.result ≡ found v = c.control_in-found.ensures ∙ ap found (sym c.self.view_is) in
    let shows : c.carrier-shown.result ≡ carrier inside.path (found v).crs =
    c.carrier-shown.ensures.carrier ∙ ap (λ (i : ControlIn). carrier inside.path i.crs) finds in
    let all = passes v c.args.n (subst (λ (n : NodeState). AreCalm node_after_silence IsCalmNode n c.args.n) (sym c.self.view_is) c.requires) in
    let CalmMac : Bool → Bool → Type 0 = λ x y.
    AreCalm (mac_after picked_answer picked_after x y) (IsCalmMac picked_answer picked_after x y) (mac_in inside.mac) c.args.n in
    subst (CalmMac c.carrier-shown.result) (sym c.collision.ensures.collision)
    (subst (λ (x : Bool). CalmMac x (collision inside.path)) (sym shows) all.mac)

pub pass-self-inside-requires : goal.pass-self-inside-requires
pass-self-inside-requires c =
    let inside = c.self.inside in
    let v : NodeState = the_view inside in
    let finds : c.control_in-found.result ≡ found v = c.control_in-found.ensures ∙ ap found (sym c.self.view_is) in
    let all = passes v c.args.n (subst (λ (n : NodeState). AreCalm node_after_silence IsCalmNode n c.args.n) (sym c.self.view_is) c.requires) in
    subst (λ (i : ControlIn). AreCalm (control_after i) (IsCalmControl i) inside.control c.args.n) (sym finds) all.control

pub pass-self-inside-requires-2 : goal.pass-self-inside-requires-2
pass-self-inside-requires-2 c =
    let inside = c.self.inside in
    let v : NodeState = the_view inside in
    let finds : c.control_in-found.result ≡ found v = c.control_in-found.ensures ∙ ap found (sym c.self.view_is) in
    let tells : c.silent_data_in-told.result ≡ told v =
    c.silent_data_in-told.ensures
    ∙ (ap (λ (n : NodeState). told_after n c.control_in-found.result) (sym c.self.view_is) ∙ ap (told_after v) finds) in
    let all = passes v c.args.n (subst (λ (n : NodeState). AreCalm node_after_silence IsCalmNode n c.args.n) (sym c.self.view_is) c.requires) in
    subst (λ (i : DataIn). AreCalm (status_after i.active) (IsCalmStatus i.active) inside.status c.args.n) (sym tells) all.status

pub pass-self-inside-requires-3 : goal.pass-self-inside-requires-3
pass-self-inside-requires-3 c line =
    let inside = c.self.inside in
    let v : NodeState = the_view inside in
    let finds : c.control_in-found.result ≡ found v = c.control_in-found.ensures ∙ ap found (sym c.self.view_is) in
    let tells : c.silent_data_in-told.result ≡ told v =
    c.silent_data_in-told.ensures
    ∙ (ap (λ (n : NodeState). told_after n c.control_in-found.result) (sym c.self.view_is) ∙ ap (told_after v) finds) in
    let all = passes v c.args.n (subst (λ (n : NodeState). AreCalm node_after_silence IsCalmNode n c.args.n) (sym c.self.view_is) c.requires) in
    subst (λ (i : DataIn). AreCalm (path_after i) (IsCalmData i) (inside.path, line) c.args.n) (sym tells) (all.path line)

pub returns : goal.returns
returns c =
    let inside = c.self.inside in
    let v : NodeState = the_view inside in
    let k = c.args.n in
    let finds : c.control_in-found.result ≡ found v = c.control_in-found.ensures ∙ ap found (sym c.self.view_is) in
    let tells : c.silent_data_in-told.result ≡ told v =
    c.silent_data_in-told.ensures
    ∙ (ap (λ (n : NodeState). told_after n c.control_in-found.result) (sym c.self.view_is) ∙ ap (told_after v) finds) in
    let shows : c.carrier-shown.result ≡ carrier inside.path (found v).crs =
    c.carrier-shown.ensures.carrier ∙ ap (λ (i : ControlIn). carrier inside.path i.crs) finds in
    let all = passes v k (subst (λ (n : NodeState). AreCalm node_after_silence IsCalmNode n k) (sym c.self.view_is) c.requires) in
    let mac : Bool → Bool → MacState PickedDraws = λ x y. iterate (mac_after picked_answer picked_after x y) k (mac_in inside.mac) in
    let control : ControlState = iterate (control_after (found v)) k inside.control in
    let status : StatusState = iterate (status_after (told v).active) k inside.status in
    let left : MacState PickedDraws = mac (carrier inside.path (found v).crs) (collision inside.path) in
    ap (λ (x : ControlState). rebuilt v x c.pass-self-inside-2.result (mac_in c.pass_mac.new.slot) (c.pass-self-inside-3.result, inside.line))
    (c.pass-self-inside.ensures.steps ∙ ap (λ (i : ControlIn). iterate (control_after i) k inside.control) finds)
    ∙ (ap (λ (x : StatusState). rebuilt v control x (mac_in c.pass_mac.new.slot) (c.pass-self-inside-3.result, inside.line))
    (c.pass-self-inside-2.ensures.steps ∙ ap (λ (i : DataIn). iterate (status_after i.active) k inside.status) tells)
    ∙ (ap (λ (x : MacState PickedDraws). rebuilt v control status x (c.pass-self-inside-3.result, inside.line))
    (c.pass_mac.ensures.steps ∙ (ap (λ (x : Bool). mac x c.collision.result) shows ∙ ap (mac (carrier inside.path (found v).crs)) c.collision.ensures.collision))
    ∙ (ap (rebuilt v control status left)
    (c.pass-self-inside-3.ensures.steps inside.line ∙ ap (λ (i : DataIn). iterate (path_after i) k (inside.path, inside.line)) tells)
    ∙ (sym all.node ∙ ap (iterate node_after_silence k) c.self.view_is))))
