-- A transmitter with no piece open: how it steps.
use Rattle.std.proofs.Common.{◌≡◌, ℕ, ◌+◌, ◌-◌, ◌==◌, ◌≤◌, Bool, false, List, [], ◌∷◌, refl, arith}
use Rattle.std.proofs.lemmas.Bool.Decides.{nat_tests}
use Rattle.t1s_pcs_tx.specs.declared.TxCmd.{TxCmd}
use Rattle.t1s_pcs_tx.specs.declared.TxCmd.TheVariants.{None as NoCmd, Beacon as BeaconCmd, Commit as CommitCmd}
use Rattle.t1s_pcs_tx.specs.State.{Stage, Quiet, Beaconing, Committing, Starting, is_closed}
use Rattle.t1s_pcs_tx.specs.TransmitTable.{TxTurn, transmit_step, report_of, chosen_turn, command_choice, last_part}
use Rattle.std.proofs.lemmas.Bool.{cond_both}

-- its stage, the quarter that was driven last, and the quarters left of its symbol
pub data Free : Stage → ℕ → ℕ → Type 0 where
  quiet : {part : ℕ} → Free Quiet part 0
  beacons : {part r : ℕ} → part + r ≡ 3 → Free Beaconing part r
  commits : {part r : ℕ} → part + r ≡ 3 → Free Committing part r

-- how a step of it ends: its symbol goes on; at a boundary by the command; or it begins a piece by a first pop
pub data FreeTurn (r : ℕ) (line : List ℕ) : TxCmd → Stage → ℕ → List ℕ → Type 0 where
  goes_on : {cmd : TxCmd} {stage : Stage} {part r' : ℕ} → r ≡ r' + 1 → Free stage part r' → FreeTurn r line cmd stage part line
  falls_quiet : {part : ℕ} → r ≡ 0 → FreeTurn r line NoCmd Quiet part line
  begins_beacon : r ≡ 0 → FreeTurn r line BeaconCmd Beaconing 0 line
  begins_commit : r ≡ 0 → line ≡ [] → FreeTurn r line CommitCmd Committing 0 []
  begins_piece : {x : ℕ} {rest : List ℕ} → r ≡ 0 → line ≡ x ∷ rest → FreeTurn r line CommitCmd (Starting 0) 0 rest

abbrev pub Turned : ℕ → List ℕ → TxCmd → TxTurn → Type 0
Turned r line cmd turn = FreeTurn r line cmd turn.state.stage turn.state.part turn.line

-- at a boundary, by what is told
told : (r : ℕ) (cmd : TxCmd) (past : List Bool) (line : List ℕ) → r ≡ 0 → Turned r line cmd (chosen_turn (command_choice cmd past line))
told r NoCmd past line end = falls_quiet end
told r BeaconCmd past line end = begins_beacon end
told r CommitCmd past [] end = begins_commit end refl
told r CommitCmd past (x ∷ rest) end = begins_piece end refl

pub free_turns : (stage : Stage) (part r : ℕ) (past : List Bool) (cmd : TxCmd) (ended bad : Bool) (line : List ℕ) → Free stage part r
    → Turned r line cmd (transmit_step (record { stage = stage; part = part; past = past }) (record { cmd = cmd; ended = ended; bad = bad }) line)
unfolding transmit_step
free_turns _ part r past cmd ended bad line quiet = told 0 cmd past line refl
free_turns _ part r past cmd ended bad line (beacons e) =
    cond_both (part == last_part) _ _ (Turned r line cmd)
    (λ end. told r cmd past line (grind (arith, nat_tests, end, e)))
    (λ on. let next : (part + 1) + (r - 1) ≡ 3 = grind (arith, nat_tests, on, e) in
    let less : r ≡ (r - 1) + 1 = grind (arith, nat_tests, on, e) in
    goes_on less (beacons next))
free_turns _ part r past cmd ended bad line (commits e) =
    cond_both (part == last_part) _ _ (Turned r line cmd)
    (λ end. told r cmd past line (grind (arith, nat_tests, end, e)))
    (λ on. let next : (part + 1) + (r - 1) ≡ 3 = grind (arith, nat_tests, on, e) in
    let less : r ≡ (r - 1) + 1 = grind (arith, nat_tests, on, e) in
    goes_on less (commits next))

pub free_not_closed : (stage : Stage) (part r : ℕ) (past : List Bool) → Free stage part r
    → is_closed (report_of (record { stage = stage; part = part; past = past })) ≡ false
free_not_closed _ part r past quiet = refl
free_not_closed _ part r past (beacons e) = refl
free_not_closed _ part r past (commits e) = refl

pub free_rest : (stage : Stage) (part r : ℕ) → Free stage part r → r ≤ 3
free_rest _ part r quiet = omega arith
free_rest _ part r (beacons e) = omega arith
free_rest _ part r (commits e) = omega arith
