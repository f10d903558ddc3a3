-- The nodes in which a tick of silence can be calm: those that are still.
use Rattle.std.proofs.Common.{◌≡◌, ℕ, ◌==◌, Bool, true, false, not, ◌&&◌, ◌||◌, List, None, refl, arith, ap, sym, subst, ◌∙◌}
use Rattle.std.specs.Cmp.{first_so, second_so}
use Rattle.std.specs.Prelude.{IsTrue, is_some}
use Rattle.std.proofs.lemmas.Bool.{cond_both}
use Rattle.std.proofs.lemmas.Bool.Decides.{nat_tests}
use Rattle.t1s_pcs_tx.specs.declared.TxIn.{TxIn}
use Rattle.t1s_pcs_tx.specs.State.{Stage, Quiet, Beaconing, Committing, Starting, Sending, ClosingEnd, ClosingCloser, TxState, quarter_of, report_by}
use Rattle.t1s_pcs_tx.specs.TransmitTable.{TxTurn, transmit_step, choice_after, is_quiet, at_boundary, last_part, report_of}
use Rattle.t1s_pcs_rx.specs.declared.reader.Burst.{Burst}
use Rattle.t1s_pcs_rx.specs.declared.reader.Burst.TheVariants.{Outside, Reading, Ended}
use Rattle.t1s_pcs_rx.specs.Receiver.{is_inside}
use Rattle.t1s_pcs_rx.specs.ReceiveTable.{receive_step}
use Rattle.t1s_node.specs.declared.carrier.Carrier.{Carrier}
use Rattle.t1s_node.specs.CarrierTable.{carrier_start}
use Rattle.t1s_node.specs.Core.{core_drive, control_turn, tx_turn}
use Rattle.t1s_node.specs.Node.{NodeState, node_drive, reading_of}
use Rattle.t1s_node.specs.CalmNode.{node_after_silence, IsCalmNode, is_quiet_report, is_still, quiet_has_no_part}
use Rattle.t1s_node.proofs.CalmTick.{Setting, Parts, still_node}

abbrev pub setting_of : NodeState → Setting
setting_of n = record {
  rise = n.rise;
  fall = n.fall;
  past = n.core.tx.past;
  class = n.receiver.class;
  history = n.receiver.history;
  nibbles = n.receiver.nibbles;
}

abbrev pub parts_of : NodeState → Parts
parts_of n = record { control = n.core.control; status = n.status; mac = n.core.mac; path = (n.core.path, n.core.line) }

-- what the first tests ask for, and that the transmitter is in no part of a symbol
pub record IsStill (n : NodeState) : Type 0 where
  pub drove : n.drove ≡ false
  pub hit : n.hit ≡ false
  pub carrier : n.carrier ≡ carrier_start
  pub burst : n.receiver.burst ≡ Outside
  pub stage : n.core.tx.stage ≡ Quiet
  pub part : n.core.tx.part ≡ 0

module _ (n : NodeState) where
  -- the node with these in their places
  abbrev with_rest : Bool → Bool → Carrier → Burst → Stage → ℕ → NodeState
  with_rest drove hit carrier burst stage part = record n {
    core = record n.core { tx = record { stage = stage; part = part; past = n.core.tx.past } };
    carrier = carrier;
    receiver = record n.receiver { burst = burst };
    hit = hit;
    drove = drove;
  }

  pub still_is : IsStill n → n ≡ still_node (setting_of n) (parts_of n)
  still_is still =
      ap (λ (x : Bool). with_rest x n.hit n.carrier n.receiver.burst n.core.tx.stage n.core.tx.part) still.drove
      ∙ (ap (λ (x : Bool). with_rest false x n.carrier n.receiver.burst n.core.tx.stage n.core.tx.part) still.hit
      ∙ (ap (λ (x : Carrier). with_rest false false x n.receiver.burst n.core.tx.stage n.core.tx.part) still.carrier
      ∙ (ap (λ (x : Burst). with_rest false false carrier_start x n.core.tx.stage n.core.tx.part) still.burst
      ∙ (ap (λ (x : Stage). with_rest false false carrier_start Outside x n.core.tx.part) still.stage
      ∙ ap (with_rest false false carrier_start Outside Quiet) still.part))))

-- ---- the tests

not_true : (b : Bool) → not b ≡ true → b ≡ false
not_true true e = absurd (cc)
not_true false e = refl

outside : (burst : Burst) → not (is_inside burst) ≡ true → burst ≡ Outside
outside Outside e = refl
outside (Reading last fresh place) e = absurd (cc)
outside Ended e = absurd (cc)

in_quiet : (stage : Stage) (ended : Bool) → is_quiet_report (report_by stage ended) ≡ true → stage ≡ Quiet
in_quiet Quiet ended e = refl
in_quiet Beaconing ended e = absurd (cc)
in_quiet Committing ended e = absurd (cc)
in_quiet (Starting place) ended e = absurd (cc)
in_quiet (Sending nibble) ended e = absurd (cc)
in_quiet (ClosingEnd good) ended e = absurd (cc)
in_quiet (ClosingCloser good) true e = absurd (cc)
in_quiet (ClosingCloser good) false e = absurd (cc)

no_part : (stage : Stage) (part : ℕ) → stage ≡ Quiet → IsTrue (not (is_quiet stage) || (part == 0)) → part ≡ 0
no_part Quiet part e holds = grind (arith, nat_tests, holds)
no_part Beaconing part e holds = absurd (cc)
no_part Committing part e holds = absurd (cc)
no_part (Starting place) part e holds = absurd (cc)
no_part (Sending nibble) part e holds = absurd (cc)
no_part (ClosingEnd good) part e holds = absurd (cc)
no_part (ClosingCloser good) part e holds = absurd (cc)

carrier_off : (on : Bool) (run : ℕ) → on ≡ false → (run == 0) ≡ true → record { on = on; run = run } ≡ carrier_start
carrier_off on run off none =
    let zero_run : run ≡ 0 = grind (arith, nat_tests, none) in
    ap (λ (x : Bool). record { on = x; run = run }) off ∙ ap (λ (x : ℕ). record { on = false; run = x }) zero_run

-- a node that passes the first tests is still
pub tests_still : (n : NodeState) → is_still n ≡ true → IsTrue (quiet_has_no_part n.core.tx) → IsStill n
tests_still n e holds =
    let drove = not n.drove in
    let hit = not n.hit in
    let on = not n.carrier.on in
    let run = n.carrier.run == 0 in
    let burst = not (is_inside n.receiver.burst) in
    let quiet = is_quiet_report (report_of n.core.tx) in
    let five = first_so (drove && hit && on && run && burst) quiet e in
    let four = first_so (drove && hit && on && run) burst five in
    let three = first_so (drove && hit && on) run four in
    let two = first_so (drove && hit) on three in
    let stage = in_quiet n.core.tx.stage (n.core.tx.part == last_part) (second_so (drove && hit && on && run && burst) quiet e) in
    record {
      drove = not_true n.drove (first_so drove hit two);
      hit = not_true n.hit (second_so drove hit two);
      carrier = carrier_off n.carrier.on n.carrier.run (not_true n.carrier.on (second_so (drove && hit) on three)) (second_so (drove && hit && on) run four);
      burst = outside n.receiver.burst (second_so (drove && hit && on && run) burst five);
      stage = stage;
      part = no_part n.core.tx.stage n.core.tx.part stage holds;
    }

pub still_tests : (n : NodeState) → IsStill n → is_still n ≡ true
still_tests n still = rw (still.drove, still.hit, still.carrier, still.burst, still.stage) refl

-- ---- no other tick is calm

-- what a tick drives is the quarter of the state that it leaves
driven_quarter : (s : TxState) (i : TxIn) (line : List ℕ) → (transmit_step s i line).driven ≡ quarter_of (transmit_step s i line).state
unfolding transmit_step
driven_quarter s i line = cond_both (at_boundary s) _ _ (λ (t : TxTurn). t.driven ≡ quarter_of t.state) (λ _. refl) (λ _. refl)

silent_quiet : (s : TxState) → quarter_of s ≡ None → s.stage ≡ Quiet
silent_quiet s e = quiet_by s.stage s.part e
  where
    quiet_by : (stage : Stage) (part : ℕ) → quarter_of (record { stage = stage; part = part; past = s.past }) ≡ None → stage ≡ Quiet
    quiet_by Quiet part e = refl
    quiet_by Beaconing part e = absurd (cc)
    quiet_by Committing part e = absurd (cc)
    quiet_by (Starting place) part e = absurd (cc)
    quiet_by (Sending nibble) part e = absurd (cc)
    quiet_by (ClosingEnd good) part e = absurd (cc)
    quiet_by (ClosingCloser good) part e = absurd (cc)

or_true : (b : Bool) → (b || true) ≡ true
or_true true = refl
or_true false = refl

pub and_false : (b : Bool) → (b && false) ≡ false
and_false true = refl
and_false false = refl

first_not : (a b : Bool) → (a || b) ≡ false → a ≡ false
first_not true b e = absurd (cc)
first_not false b e = refl

-- a transmitter that is in Quiet after a tick is in no part of a symbol
pub step_has_no_part : (s : TxState) (i : TxIn) (line : List ℕ) → IsTrue (quiet_has_no_part (transmit_step s i line).state)
unfolding transmit_step
step_has_no_part s i line = cond_both (at_boundary s) _ _ (λ (t : TxTurn). IsTrue (quiet_has_no_part t.state))
    (λ _. or_true (not (is_quiet (choice_after s.stage s.past i line).stage)))
    (λ within. let busy = first_not (is_quiet s.stage) (s.part == last_part) within in rw busy refl)

-- a node that has a calm tick is still
pub calm_still : (n : NodeState) → IsCalmNode n → IsStill n
unfolding node_after_silence core_drive receive_step
calm_still n calm =
    let left = (tx_turn (control_turn (reading_of n) n.core).1.cmd n.core).state in
    let same : left ≡ n.core.tx = ap (λ (x : NodeState). x.core.tx) calm.same in
    let stage = silent_quiet n.core.tx (ap quarter_of (sym same) ∙ (sym (driven_quarter n.core.tx _ n.core.line) ∙ calm.drives)) in
    record {
      drove = sym (ap (λ (x : NodeState). x.drove) calm.same) ∙ ap is_some calm.drives;
      hit = sym (ap (λ (x : NodeState). x.hit) calm.same) ∙ and_false (is_some (node_drive n).1.quarter);
      carrier = calm.before.carrier;
      burst = sym (ap (λ (x : NodeState). x.receiver.burst) calm.same);
      stage = stage;
      part = no_part n.core.tx.stage n.core.tx.part stage
          (subst (λ (s : TxState). IsTrue (quiet_has_no_part s)) same (step_has_no_part n.core.tx _ n.core.line));
    }
