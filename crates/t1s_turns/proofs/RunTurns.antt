-- One tick of control and transmitter while the node's own opportunity lasts.
use Rattle.std.proofs.Common.{◌≡◌, ℕ, ◌+◌, ◌==◌, ◌≤◌, Bool, true, false, ◌&&◌, nat_lt, IsTrue, List, [], ◌∷◌, Option, Some, None, refl, sym, ap, ◌∙◌, subst, arith}
use Rattle.std.proofs.lemmas.Bool.{cond_both, false≢true}
use Rattle.t1s_symbols.specs.declared.Quarter.{Quarter}
use Rattle.t1s_symbols.specs.declared.Symbol.TheVariants.{J}
use Rattle.t1s_pcs_tx.specs.declared.TxCmd.{TxCmd}
use Rattle.t1s_pcs_tx.specs.declared.TxCmd.TheVariants.{Commit as CommitCmd}
use Rattle.t1s_pcs_tx.specs.State.{Stage, Quiet, Committing, is_closed, report_by}
use Rattle.t1s_pcs_tx.specs.TransmitTable.{transmit_step}
use Rattle.plca_control.specs.declared.ControlSet.{ControlSet}
use Rattle.plca_control.specs.declared.ControlIn.{ControlIn}
use Rattle.plca_control.specs.declared.State.{State}
use Rattle.plca_control.specs.declared.State.TheVariants.{Commit, Transmit, Burst, Drain}
use Rattle.plca_control.specs.ControlTable.{control_row, is_own, is_closed_good}
use Rattle.t1s_node.proofs.View.{View, InCommit, InPause, view_of, cmd_of, own_of, counts, row_turns, view_own, view_cmd}
use Rattle.t1s_node.proofs.OwnDrives.{Driving, Paced, in_commit, in_transmit, in_pause, drives_on, drives_out}
use Rattle.t1s_world.specs.Waves.{CycleSettings, Wave, arrived}
use Rattle.t1s_turns.proofs.TransmitterTurns.{turn_of, drives_state, run_quarter}
use Rattle.t1s_turns.proofs.DriveTurns.{DriveTurn, run_goes_on, run_ends}

-- the ID of an opportunity that the node has taken
abbrev pub id_of : State → ℕ
id_of (Commit c n b) = c
id_of (Transmit c b) = c
id_of (Burst c n b) = c
id_of _ = 0

-- what is kept of a run, e ticks after its own opportunity of ID x began
pub record SendsRun (x e : ℕ) (st : State) (stage : Stage) (part : ℕ) : Type 0 where
  pub id : id_of st ≡ x
  pub driving : Driving e (view_of st) stage part

-- what the node's place says beside it
pub record RunPlace (i : ControlIn) (st : State) (stage : Stage) (part : ℕ) : Type 0 where
  pub counted : IsTrue (counts st)
  pub closes : is_closed i.tx ≡ is_closed (report_by stage (part == 3))
  pub commits : (m : ℕ) → view_of st ≡ InCommit m → i.begun ≡ false → (1 ≤ m) × (stage ≡ Committing)
  pub pauses : (m : ℕ) → view_of st ≡ InPause m → i.begun ≡ false → stage ≡ Committing

paced_own : (y part : ℕ) (stage : Stage) (v : View) → Paced y part stage v → own_of v ≡ true
paced_own y part stage _ (in_commit at) = refl
paced_own y part stage _ in_transmit = refl
paced_own y part stage _ (in_pause z late some aligned) = refl

pub sends_own : (x e : ℕ) (st : State) (stage : Stage) (part : ℕ) → SendsRun x e st stage part → is_own st ≡ true
sends_own x e st stage part h = view_own st ∙ paced_own h.driving.y part stage (view_of st) h.driving.paced

-- an own opportunity goes on as that of its ID, or ends in the Drain of that
data OwnTurn (c : ℕ) : State → Type 0 where
  goes_on : {st : State} → is_own st ≡ true → id_of st ≡ c → OwnTurn c st
  drains : OwnTurn c (Drain c)

own_turns : (s : ControlSet) (st : State) (i : ControlIn) → is_own st ≡ true → OwnTurn (id_of st) (control_row s st i).0
own_turns s (Commit c n b) i own =
    cond_both i.begun _ _ (λ (x : State × TxCmd). OwnTurn c x.0) (λ _. goes_on refl refl)
    (λ _. cond_both (n == 1) _ _ (λ (x : State × TxCmd). OwnTurn c x.0) (λ _. drains) (λ _. goes_on refl refl))
own_turns s (Transmit c b) i own =
    cond_both (is_closed_good i.tx && nat_lt 0 b) _ _ (λ (x : State × TxCmd). OwnTurn c x.0) (λ _. goes_on refl refl)
    (λ _. cond_both (is_closed i.tx) _ _ (λ (x : State × TxCmd). OwnTurn c x.0) (λ _. drains) (λ _. goes_on refl refl))
own_turns s (Burst c n b) i own =
    cond_both i.begun _ _ (λ (x : State × TxCmd). OwnTurn c x.0) (λ _. goes_on refl refl)
    (λ _. cond_both (n == 1) _ _ (λ (x : State × TxCmd). OwnTurn c x.0) (λ _. drains) (λ _. goes_on refl refl))
own_turns s _ i own = absurd (false≢true own)

turned_id : (c : ℕ) (st : State) → OwnTurn c st → is_own st ≡ true → id_of st ≡ c
turned_id c _ (goes_on own same) e = same
turned_id c _ drains e = absurd (false≢true e)

drained : (c : ℕ) (st : State) → OwnTurn c st → is_own st ≡ false → st ≡ Drain c
drained c _ (goes_on own same) e = absurd (false≢true (sym e ∙ own))
drained c _ drains e = refl

-- the first quarter of a run is one of J
pub first_quarter : (part : ℕ) (past : List Bool) (ended bad : Bool) (line : List ℕ) → (turn_of part past ended bad line Quiet CommitCmd).driven ≡ Some (record { sym = J; part = 0 })
unfolding transmit_step
first_quarter part past ended bad [] = refl
first_quarter part past ended bad (x ∷ rest) = refl

module _ (part : ℕ) (past : List Bool) (ended bad : Bool) (line : List ℕ) where
  module _ (s : ControlSet) (n : CycleSettings) (begin t : ℕ) (ws : List Wave) (i : ControlIn) (st : State) (stage : Stage) (place : RunPlace i st stage part) where
    abbrev next : State
    next = (control_row s st i).0

    abbrev Drives : State → TxCmd → Type 0
    Drives st' cmd =
        DriveTurn SendsRun n begin t ws i.ready st' (turn_of part past ended bad line stage cmd).state.stage (turn_of part past ended bad line stage cmd).state.part (turn_of part past ended bad line stage cmd).driven

    pub run_turn : (a : Wave) (rest : List Wave) (e : ℕ) → arrived t ws ≡ a ∷ rest → a.own ≡ true → a.beacon ≡ false → begin ≤ a.from → t ≤ a.till → a.from + e ≡ t → SendsRun a.place e st stage part
        → Drives next (control_row s st i).1
    run_turn a rest e at own flag from within time sends =
        subst (λ cmd. Drives next cmd) (sym (view_cmd s st i)) (go (own_of (view_of next)) refl)
      where
        turned : OwnTurn (id_of st) next
        turned = own_turns s st i (sends_own a.place e st stage part sends)

        goes : own_of (view_of next) ≡ true → Drives next (cmd_of (view_of next))
        goes e' =
            let sent = drives_on i.ready i.begun (is_closed i.tx) e (view_of st) (view_of next) stage part past ended bad line sends.driving (row_turns s i st place.counted) place.closes e' in
            let turn = turn_of part past ended bad line stage (cmd_of (view_of next)) in
            let quarter = run_quarter a sent.y turn.state.part e turn.state.stage flag (omega (arith, sent.time)) sent.low sent.late in
            subst (λ (q : Option Quarter). DriveTurn SendsRun n begin t ws i.ready next turn.state.stage turn.state.part q) (sym (drives_state part past ended bad line stage (cmd_of (view_of next)) ∙ quarter.is))
            (run_goes_on {e = e} {q = quarter.quarter} a rest at own flag from within time
            (record { id = turned_id (id_of st) next turned (view_own next ∙ e') ∙ sends.id; driving = sent }) quarter.spells)

        stops : own_of (view_of next) ≡ false → Drives next (cmd_of (view_of next))
        stops e' =
            let stop = drives_out i.ready i.begun (is_closed i.tx) e (view_of st) (view_of next) stage part past ended bad line sends.driving (row_turns s i st place.counted) place.closes e' place.commits place.pauses in
            let drain : next ≡ Drain a.place = drained (id_of st) next turned (view_own next ∙ e') ∙ ap Drain sends.id in
            let turn = turn_of part past ended bad line stage (cmd_of (view_of next)) in
            subst (λ (q : Option Quarter). DriveTurn SendsRun n begin t ws i.ready next turn.state.stage turn.state.part q) (sym stop.none)
            (subst (λ (g : Stage). DriveTurn SendsRun n begin t ws i.ready next g turn.state.part None) (sym stop.quiet)
            (subst (λ (x : State). DriveTurn SendsRun n begin t ws i.ready x Quiet turn.state.part None) (sym drain)
            (run_ends a rest at own flag from within (omega (arith, stop.long, time)))))

        go : (b : Bool) → own_of (view_of next) ≡ b → Drives next (cmd_of (view_of next))
        go true e' = goes e'
        go false e' = stops e'
