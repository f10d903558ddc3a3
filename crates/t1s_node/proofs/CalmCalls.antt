-- What the calls of a node on its calm ticks rest on, of any node.
use Rattle.std.proofs.Common.{◌≡◌, ℕ, zero, suc, ◌<◌, Bool, true, false, List, refl, arith, ap, sym, subst, ◌∙◌}
use Rattle.std.specs.Fn.{iterate}
use Rattle.std.specs.Prelude.{IsTrue}
use Rattle.std.proofs.lemmas.Bool.{false≢true}
use Rattle.t1s_symbols.specs.CalmSteps.{AreCalm, IsCalmFor}
use Rattle.t1s_pcs_tx.specs.State.{is_closed}
use Rattle.plca_control.specs.declared.ControlIn.{ControlIn}
use Rattle.plca_control.specs.declared.ControlOut.{ControlOut}
use Rattle.plca_control.specs.declared.StatusState.{StatusState}
use Rattle.plca_control.specs.State.{ControlState}
use Rattle.plca_control.specs.ControlTable.{control_step, is_active, is_own}
use Rattle.plca_control.specs.CalmControl.{control_after, IsCalmControl, status_after, IsCalmStatus}
use Rattle.plca_data.specs.declared.DataIn.{DataIn}
use Rattle.plca_data.specs.declared.MacOut.TheVariants.{Nothing as NoNibble}
use Rattle.plca_data.specs.declared.data_path.State.{State}
use Rattle.plca_data.specs.DataPathTable.{carrier, collision}
use Rattle.plca_data.specs.CalmData.{path_after, IsCalmData}
use Rattle.t1s_mac.specs.declared.picked_draws.PickedDraws.{PickedDraws}
use Rattle.t1s_mac.specs.PickedDraws.{picked_answer, picked_after}
use Rattle.t1s_mac.specs.State.{MacState}
use Rattle.t1s_mac.specs.CalmMac.{mac_after, IsCalmMac}
use Rattle.t1s_node.specs.Core.{control_in}
use Rattle.t1s_node.specs.Node.{NodeState, reading_of}
use Rattle.t1s_node.specs.CalmNode.{node_after_silence, IsCalmNode, is_still, quiet_has_no_part}
use Rattle.t1s_node.proofs.CalmTick.{Setting, Parts, still_node, told_by, control_left, active_kept, own_kept}
use Rattle.t1s_node.proofs.CalmRun.{control_told, path_told, still_calm_for, still_all_calm, still_pass, path_all_calm}
use Rattle.t1s_node.proofs.CalmStill.{setting_of, parts_of, still_is, tests_still, still_tests, calm_still}

-- what the machines of a node are told: control, status, the MAC, and the data path where the MAC gives out nothing
module _ (n : NodeState) where
  abbrev pub found : ControlIn
  found = control_in (reading_of n) n.core

  abbrev pub given : ControlOut
  given = (control_step n.core.control found).1

  abbrev pub told_after : ControlIn → DataIn
  told_after i = record {
    active = (control_step n.core.control i).1.active;
    own = (control_step n.core.control i).1.own;
    closed = is_closed i.tx;
    crs = i.crs;
    class = i.class;
    hit = n.hit;
    mac = NoNibble;
  }

  abbrev pub told : DataIn
  told = told_after found

  abbrev pub mac_goes : MacState PickedDraws → MacState PickedDraws
  mac_goes = mac_after picked_answer picked_after (carrier n.core.path found.crs) (collision n.core.path)

  abbrev pub IsCalmMacTold : MacState PickedDraws → Type 0
  IsCalmMacTold = IsCalmMac picked_answer picked_after (carrier n.core.path found.crs) (collision n.core.path)

-- no step is asked for
none_asked : {A : Type 0} (step : A → A) (Calm : A → Type 0) (start : A) → IsCalmFor step Calm start 0 0
none_asked step Calm start = record {
  within = omega arith;
  calm = λ k below. absurd (omega arith);
  ends = λ below. absurd (omega arith);
}

-- ---- calm_for

-- a node that fails the first tests has no calm tick
pub restless : (n : NodeState) (most : ℕ) → is_still n ≡ false → IsCalmFor node_after_silence IsCalmNode n most 0
restless n most e = record {
  within = omega arith;
  calm = λ k below. absurd (omega arith);
  ends = λ below calm. false≢true (sym e ∙ still_tests n (calm_still n calm));
}

-- the node is calm for as long as each machine is, one asked after the other up to what the one before answers
abbrev CalmByParts : NodeState → Type 0
CalmByParts n = (most n1 n2 n3 m : ℕ) → 0 < n1
    → IsCalmFor (control_after (found n)) (IsCalmControl (found n)) n.core.control most n1
    → IsCalmFor (status_after (given n).active) (IsCalmStatus (given n).active) n.status n1 n2
    → IsCalmFor (mac_goes n) (IsCalmMacTold n) n.core.mac n2 n3
    → IsCalmFor (path_after (told n)) (IsCalmData (told n)) (n.core.path, n.core.line) n3 m
    → IsCalmFor node_after_silence IsCalmNode n most m

-- the node has no calm tick where control has none
abbrev CalmByControl : NodeState → Type 0
CalmByControl n = (most : ℕ) → IsCalmFor (control_after (found n)) (IsCalmControl (found n)) n.core.control most 0
    → IsCalmFor node_after_silence IsCalmNode n most 0

module _ (b : Setting) (p : Parts) where
  -- what a calm step of control gives out is what its state tells already
  module _ (calm : IsCalmControl (control_told b p) p.control) where
    active_given : is_active (control_left b p).state ≡ is_active p.control.state
    active_given = active_kept p.control (control_left b p) calm.1

    told_given : told (still_node b p) ≡ path_told b p
    told_given =
        ap (λ (x : Bool). told_by b.class x (is_own (control_left b p).state) NoNibble) active_given
        ∙ ap (λ (x : Bool). told_by b.class (is_active p.control.state) x NoNibble) (own_kept p.control (control_left b p) calm.1)

  still_by_parts : CalmByParts (still_node b p)
  still_by_parts most n1 n2 n3 m some control status mac path =
      let calm = control.calm 0 some in
      still_calm_for b p most n1 n2 n3 m control
      (subst (λ (x : Bool). IsCalmFor (status_after x) (IsCalmStatus x) p.status n1 n2) (active_given calm) status)
      mac
      (subst (λ (i : DataIn). IsCalmFor (path_after i) (IsCalmData i) p.path n3 m) (told_given calm) path)

  still_by_control : CalmByControl (still_node b p)
  still_by_control most control = still_calm_for b p most 0 0 0 0 control (none_asked _ _ _) (none_asked _ _ _) (none_asked _ _ _)

module _ (n : NodeState) (e : is_still n ≡ true) (part : IsTrue (quiet_has_no_part n.core.tx)) where
  is_still_node : n ≡ still_node (setting_of n) (parts_of n)
  is_still_node = still_is n (tests_still n e part)

  pub calm_by_parts : CalmByParts n
  calm_by_parts = subst CalmByParts (sym is_still_node) (still_by_parts (setting_of n) (parts_of n))

  pub calm_by_control : CalmByControl n
  calm_by_control = subst CalmByControl (sym is_still_node) (still_by_control (setting_of n) (parts_of n))

-- ---- pass

-- a node with other machines
abbrev pub rebuilt : NodeState → ControlState → StatusState → MacState PickedDraws → State × List ℕ → NodeState
rebuilt n c s m p = record n { core = record n.core { control = c; mac = m; path = p.0; line = p.1 }; status = s }

-- the machines of a node have k calm steps, and the node passes as they do
pub record Passes (n : NodeState) (k : ℕ) : Type 0 where
  pub control : AreCalm (control_after (found n)) (IsCalmControl (found n)) n.core.control k
  pub status : AreCalm (status_after (given n).active) (IsCalmStatus (given n).active) n.status k
  pub mac : AreCalm (mac_goes n) (IsCalmMacTold n) n.core.mac k
  pub path : (line : List ℕ) → AreCalm (path_after (told n)) (IsCalmData (told n)) (n.core.path, line) k
  pub node : iterate node_after_silence k n ≡ rebuilt n
      (iterate (control_after (found n)) k n.core.control)
      (iterate (status_after (given n).active) k n.status)
      (iterate (mac_goes n) k n.core.mac)
      (iterate (path_after (told n)) k (n.core.path, n.core.line))

none_passed : (n : NodeState) → Passes n 0
none_passed n = record {
  control = λ k below. absurd (omega arith);
  status = λ k below. absurd (omega arith);
  mac = λ k below. absurd (omega arith);
  path = λ line k below. absurd (omega arith);
  node = refl;
}

module _ (b : Setting) (p : Parts) (k : ℕ) (all : AreCalm node_after_silence IsCalmNode (still_node b p) (suc k)) where
  calm-first : IsCalmControl (control_told b p) p.control
  calm-first = (still_all_calm b p (suc k) all).control 0 (omega arith)

  -- the node after so many steps, by what status and the data path are told
  abbrev passed_by : Bool → DataIn → NodeState
  passed_by active i = still_node b (record {
    control = iterate (control_after (control_told b p)) (suc k) p.control;
    status = iterate (status_after active) (suc k) p.status;
    mac = iterate (mac_goes (still_node b p)) (suc k) p.mac;
    path = iterate (path_after i) (suc k) p.path;
  })

  still_passes : Passes (still_node b p) (suc k)
  still_passes =
      let calm = still_all_calm b p (suc k) all in
      let active = sym (active_given b p calm-first) in
      let given_path = sym (told_given b p calm-first) in
      record {
        control = calm.control;
        status = subst (λ (x : Bool). AreCalm (status_after x) (IsCalmStatus x) p.status (suc k)) active calm.status;
        mac = calm.mac;
        path = λ line. subst (λ (i : DataIn). AreCalm (path_after i) (IsCalmData i) (p.path.0, line) (suc k)) given_path
            (path_all_calm b p (suc k) all line);
        node = still_pass b p (suc k) all ∙ (ap (λ (x : Bool). passed_by x (path_told b p)) active
            ∙ ap (passed_by (given (still_node b p)).active) given_path);
      }

pub passes : (n : NodeState) (k : ℕ) → AreCalm node_after_silence IsCalmNode n k → Passes n k
passes n zero all = none_passed n
passes n (suc k) all =
    let is = still_is n (calm_still n (all 0 (omega arith))) in
    subst (λ (x : NodeState). Passes x (suc k)) (sym is)
    (still_passes (setting_of n) (parts_of n) k (subst (λ (x : NodeState). AreCalm node_after_silence IsCalmNode x (suc k)) is all))
