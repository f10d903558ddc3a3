-- A transmitter with a piece open: how it steps.
use Rattle.std.proofs.Common.{◌≡◌, ℕ, ◌+◌, ◌==◌, ◌<◌, ◌≤◌, nat_lt, Bool, true, false, not, ◌&&◌, if◌then◌else◌, List, [], ◌∷◌, drop, length, refl, arith}
use Rattle.std.proofs.lemmas.Bool.Decides.{nat_tests}
use Rattle.t1s_pcs_tx.specs.declared.TxCmd.{TxCmd}
use Rattle.t1s_pcs_tx.specs.declared.TxCmd.TheVariants.{None as NoCmd, Commit as CommitCmd}
use Rattle.t1s_pcs_tx.specs.declared.TxReport.TheVariants.{Framing, Closed}
use Rattle.t1s_pcs_tx.specs.State.{Stage, Quiet, Committing, Starting, ClosingEnd, ClosingCloser, is_closed}
use Rattle.t1s_pcs_tx.specs.TransmitTable.{TxTurn, Choice, transmit_step, report_of, chosen_turn, choice, data_choice, last_part}
use Rattle.t1s_node.proofs.JointPlaces.{PieceTx, starting, sending}
use Rattle.std.proofs.lemmas.Bool.{cond_both}

-- its symbol goes on; or the next nibble is popped; or the line is empty, and T begins
pub data PieceTurn (i s : ℕ) (good : Bool) (line : List ℕ) : Stage → ℕ → List ℕ → Type 0 where
  symbol_on : {stage : Stage} → s < 3 → PieceTx i (s + 1) stage → PieceTurn i s good line stage (s + 1) line
  takes_nibble : {x : ℕ} {rest : List ℕ} {stage : Stage} → s ≡ 3 → line ≡ x ∷ rest → PieceTx (i + 1) 0 stage → PieceTurn i s good line stage 0 rest
  takes_none : s ≡ 3 → line ≡ [] → PieceTurn i s good line (ClosingEnd good) 0 []

abbrev pub Turned : ℕ → ℕ → Bool → List ℕ → TxTurn → Type 0
Turned i s good line turn = PieceTurn i s good line turn.state.stage turn.state.part turn.line

abbrev Chosen : ℕ → ℕ → Bool → List ℕ → Choice → Type 0
Chosen i s good line next = PieceTurn i s good line next.stage 0 next.line

takes_data : (i s : ℕ) (past : List Bool) (cmd : TxCmd) (ended bad : Bool) (line : List ℕ) → 3 ≤ i → s ≡ 3
    → Chosen i s (ended && not bad) line (data_choice past (record { cmd = cmd; ended = ended; bad = bad }) line)
takes_data i s past cmd ended bad [] late end = takes_none end refl
takes_data i s past cmd ended bad (x ∷ rest) late end = takes_nibble end refl (sending (omega (arith, late)) (omega arith))

takes_first : (i s : ℕ) (good : Bool) (past : List Bool) (line : List ℕ) → i < 3 → s ≡ 3 → 0 < length line
    → Chosen i s good line (choice (Starting (i + 1)) past (drop 1 line))
takes_first i s good past [] early end some = absurd (omega arith)
takes_first i s good past (x ∷ rest) early end some = takes_nibble end refl (starting (omega (arith, early)) (omega arith))

pub piece_turns : (i s : ℕ) (stage : Stage) (past : List Bool) (cmd : TxCmd) (ended bad : Bool) (line : List ℕ) → PieceTx i s stage
    → (s ≡ 3 → i < 3 → 0 < length line)
    → Turned i s (ended && not bad) line (transmit_step (record { stage = stage; part = s; past = past }) (record { cmd = cmd; ended = ended; bad = bad }) line)
unfolding transmit_step
piece_turns i s _ past cmd ended bad line (starting early low) some =
    cond_both (s == last_part) _ _ (Turned i s (ended && not bad) line)
    (λ e.
    let end : s ≡ 3 = grind (arith, nat_tests, e) in
    cond_both (nat_lt i 3) _ _ (λ next. Turned i s (ended && not bad) line (chosen_turn next))
    (λ less. let lt : i < 3 = grind (arith, nat_tests, less) in takes_first i s (ended && not bad) past line lt end (some end lt))
    (λ more. takes_data i s past cmd ended bad line (grind (arith, nat_tests, more)) end))
    (λ e.
    let less : s < 3 = grind (arith, nat_tests, e, low) in
    symbol_on less (starting early (omega (arith, less))))
piece_turns i s _ past cmd ended bad line (sending late low) some =
    cond_both (s == last_part) _ _ (Turned i s (ended && not bad) line)
    (λ e. takes_data i s past cmd ended bad line (omega (arith, late)) (grind (arith, nat_tests, e)))
    (λ e.
    let less : s < 3 = grind (arith, nat_tests, e, low) in
    symbol_on less (sending late (omega (arith, less))))

-- T and the closer
pub data CloseTurn (s : ℕ) (line : List ℕ) (this next : Stage) : Stage → ℕ → List ℕ → Type 0 where
  part_on : s < 3 → CloseTurn s line this next this (s + 1) line
  part_ends : s ≡ 3 → CloseTurn s line this next next 0 line

pub end_turns : (s : ℕ) (past : List Bool) (cmd : TxCmd) (ended : Bool) (line : List ℕ) → s ≤ 3
    → (λ (turn : TxTurn). CloseTurn s line (ClosingEnd true) (ClosingCloser true) turn.state.stage turn.state.part turn.line)
    (transmit_step (record { stage = ClosingEnd true; part = s; past = past }) (record { cmd = cmd; ended = ended; bad = false }) line)
unfolding transmit_step
end_turns s past cmd ended line low =
    cond_both (s == last_part) _ _ (λ (turn : TxTurn). CloseTurn s line (ClosingEnd true) (ClosingCloser true) turn.state.stage turn.state.part turn.line)
    (λ e. part_ends (grind (arith, nat_tests, e)))
    (λ e. part_on (grind (arith, nat_tests, e, low)))

-- the closer, and what follows it where control commits on or falls silent
pub data CloserTurn (s : ℕ) : TxCmd → Stage → ℕ → List ℕ → Type 0 where
  closer_on : {cmd : TxCmd} → s < 3 → CloserTurn s cmd (ClosingCloser true) (s + 1) []
  commits_on : s ≡ 3 → CloserTurn s CommitCmd Committing 0 []
  falls_silent : s ≡ 3 → CloserTurn s NoCmd Quiet 0 []

pub commit_turns : (s : ℕ) (past : List Bool) (ended bad : Bool) → s ≤ 3
    → (λ (turn : TxTurn). CloserTurn s CommitCmd turn.state.stage turn.state.part turn.line)
    (transmit_step (record { stage = ClosingCloser true; part = s; past = past }) (record { cmd = CommitCmd; ended = ended; bad = bad }) [])
unfolding transmit_step
commit_turns s past ended bad low =
    cond_both (s == last_part) _ _ (λ (turn : TxTurn). CloserTurn s CommitCmd turn.state.stage turn.state.part turn.line)
    (λ e. commits_on (grind (arith, nat_tests, e)))
    (λ e. closer_on (grind (arith, nat_tests, e, low)))

pub silent_turns : (s : ℕ) (past : List Bool) (ended bad : Bool) → s ≤ 3
    → (λ (turn : TxTurn). CloserTurn s NoCmd turn.state.stage turn.state.part turn.line)
    (transmit_step (record { stage = ClosingCloser true; part = s; past = past }) (record { cmd = NoCmd; ended = ended; bad = bad }) [])
unfolding transmit_step
silent_turns s past ended bad low =
    cond_both (s == last_part) _ _ (λ (turn : TxTurn). CloserTurn s NoCmd turn.state.stage turn.state.part turn.line)
    (λ e. falls_silent (grind (arith, nat_tests, e)))
    (λ e. closer_on (grind (arith, nat_tests, e, low)))

-- only the last quarter of the closer is reported
pub piece_not_closed : (i s : ℕ) (stage : Stage) (past : List Bool) → PieceTx i s stage → is_closed (report_of (record { stage = stage; part = s; past = past })) ≡ false
piece_not_closed i s _ past (starting early low) = refl
piece_not_closed i s _ past (sending late low) = refl

pub closer_report : (s : ℕ) (past : List Bool) → is_closed (report_of (record { stage = ClosingCloser true; part = s; past = past })) ≡ (s == 3)
closer_report s past = go (s == 3)
  where
    go : (b : Bool) → is_closed (if b then Closed true else Framing) ≡ b
    go true = refl
    go false = refl
