use Rattle.std.proofs.Common.{◌≡◌, ℕ, Bool, true, arith, ap, sym, subst, ◌∙◌}
use Rattle.t1s_symbols.specs.CalmSteps.{IsCalmFor}
use Rattle.plca_control.specs.declared.ControlIn.{ControlIn}
use Rattle.plca_control.specs.CalmControl.{control_after, IsCalmControl, status_after, IsCalmStatus}
use Rattle.plca_data.specs.declared.DataIn.{DataIn}
use Rattle.plca_data.specs.DataPathTable.{carrier}
use Rattle.plca_data.specs.CalmData.{path_after, IsCalmData}
use Rattle.t1s_mac.specs.PickedDraws.{picked_answer, picked_after}
use Rattle.t1s_mac.specs.CalmMac.{mac_after, IsCalmMac}
use Rattle.t1s_node.specs.contracts.node.Node.{the_view}
use Rattle.t1s_node.specs.Node.{NodeState, mac_in}
use Rattle.t1s_node.specs.CalmNode.{node_after_silence, IsCalmNode, is_still}
use Rattle.t1s_node.proofs.CalmCalls.{found, told_after, told, restless, calm_by_control, calm_by_parts}
use Rattle.t1s_node.proofs.node.Node.calm_for.Goals as goal

pub returns-then-not-is_still : goal.returns-then-not-is_still
returns-then-not-is_still c = restless c.args.self.now c.args.most (sym c.is_still.ensures ∙ c.if-not-is_still.true)

pub returns-then-control-eq0 : goal.returns-then-control-eq0
returns-then-control-eq0 c =
    let inside = c.self.inside in
    let v : NodeState = the_view inside in
    let still = subst (λ (n : NodeState). is_still n ≡ true) (sym c.self.view_is) (sym c.is_still.ensures ∙ c.if-not-is_still.false) in
    let finds : c.control_in-found.result ≡ found v = c.control_in-found.ensures ∙ ap found (sym c.self.view_is) in
    let control = subst (λ (r : ℕ). IsCalmFor (control_after c.control_in-found.result) (IsCalmControl c.control_in-found.result) inside.control c.args.most r)
    c.if-control-eq0.true c.calm_for-control.ensures in
    subst (λ (n : NodeState). IsCalmFor node_after_silence IsCalmNode n c.args.most 0) c.self.view_is
    (calm_by_control v still c.self.invariant.1 c.args.most
    (subst (λ (i : ControlIn). IsCalmFor (control_after i) (IsCalmControl i) inside.control c.args.most 0) finds control))

pub returns : goal.returns
returns c =
    let inside = c.self.inside in
    let v : NodeState = the_view inside in
    let n1 = c.calm_for-control.result in
    let n2 = c.calm_for-status.result in
    let n3 = c.mac_calm_for-mac.result in
    let still = subst (λ (n : NodeState). is_still n ≡ true) (sym c.self.view_is) (sym c.is_still.ensures ∙ c.if-not-is_still.false) in
    let finds : c.control_in-found.result ≡ found v = c.control_in-found.ensures ∙ ap found (sym c.self.view_is) in
    let tells : c.silent_data_in-told.result ≡ told v =
    c.silent_data_in-told.ensures
    ∙ (ap (λ (n : NodeState). told_after n c.control_in-found.result) (sym c.self.view_is) ∙ ap (told_after v) finds) in
    let shows : c.carrier-shown.result ≡ carrier inside.path (found v).crs =
    c.carrier-shown.ensures.carrier ∙ ap (λ (i : ControlIn). carrier inside.path i.crs) finds in
    let CalmMac : Bool → Bool → Type 0 = λ x y.
    IsCalmFor (mac_after picked_answer picked_after x y) (IsCalmMac picked_answer picked_after x y) (mac_in inside.mac) n2 n3 in
    subst (λ (n : NodeState). IsCalmFor node_after_silence IsCalmNode n c.args.most c.calm_for.result) c.self.view_is
    (calm_by_parts v still c.self.invariant.1 c.args.most n1 n2 n3 c.calm_for.result (omega (arith, c.if-control-eq0.false))
    (subst (λ (i : ControlIn). IsCalmFor (control_after i) (IsCalmControl i) inside.control c.args.most n1) finds c.calm_for-control.ensures)
    (subst (λ (i : DataIn). IsCalmFor (status_after i.active) (IsCalmStatus i.active) inside.status n1 n2) tells c.calm_for-status.ensures)
    (subst (CalmMac (carrier inside.path (found v).crs)) c.collision.ensures.collision
    (subst (λ (x : Bool). CalmMac x c.collision.result) shows c.mac_calm_for-mac.ensures))
    (subst (λ (i : DataIn). IsCalmFor (path_after i) (IsCalmData i) (inside.path, inside.line) n3 c.calm_for.result) tells
    (c.calm_for.ensures inside.line)))
