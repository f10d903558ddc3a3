-- What the rows of the table of control say, one step at a time.
use Rattle.std.proofs.Common.{◌≡◌, ◌≢◌, ℕ, ◌-◌, ◌<◌, ◌⊎◌, Bool, true, false, refl, inl, inr, rules, ◌∙◌, sym, ap}
use Rattle.std.proofs.lemmas.Bool.Decides.{nat_tests}
use Rattle.std.proofs.lemmas.Bool.{false≢true}
use Rattle.t1s_pcs_tx.specs.declared.TxCmd.{TxCmd}
use Rattle.t1s_pcs_tx.specs.declared.TxCmd.TheVariants.{None as NoCmd, Beacon as BeaconCmd, Commit as CommitCmd}
use Rattle.t1s_pcs_tx.specs.declared.TxReport.{TxReport}
use Rattle.plca_control.specs.declared.ControlSet.{ControlSet}
use Rattle.plca_control.specs.declared.ControlIn.{ControlIn}
use Rattle.plca_control.specs.declared.State.{State}
use Rattle.plca_control.specs.declared.State.TheVariants.{Beacon, Commit, Transmit, Burst}
use Rattle.t1s_pcs_tx.specs.State.{is_closed}
use Rattle.plca_control.specs.ControlTable.{reach, control_row, control_start, is_own, is_closed_good}
use Rattle.plca_control.specs.Runs.{is_transmit}

-- the command is told by the new state
abbrev pub command_of : State → TxCmd
command_of (Beacon n) = BeaconCmd
command_of (Commit c n b) = CommitCmd
command_of (Transmit c b) = CommitCmd
command_of (Burst c n b) = CommitCmd
command_of _ = NoCmd

reach_command : (s : ControlSet) (ready : Bool) (c : ℕ) → (reach s ready c).1 ≡ command_of (reach s ready c).0
reach_command s ready c = search (rules, nat_tests)

pub row_command : (s : ControlSet) (st : State) (i : ControlIn) → (control_row s st i).1 ≡ command_of (control_row s st i).0
row_command s _ i = search (rules, nat_tests, reach_command)

pub own_commits : (st : State) → is_own st ≡ true → command_of st ≡ CommitCmd
own_commits _ h = search rules

pub other_commands : (st : State) → is_own st ≡ false → (command_of st ≡ NoCmd) ⊎ (command_of st ≡ BeaconCmd)
other_commands _ h = search rules

pub is_beacon_state : (st : State) → (command_of st ≢ BeaconCmd) ⊎ ((n : ℕ) × (st ≡ Beacon n))
is_beacon_state (Beacon n) = inr (n, refl)
is_beacon_state _ = inl (λ e. cc)

pub start_no_beacon : (s : ControlSet) → command_of (control_start s).state ≢ BeaconCmd
start_no_beacon s = search (rules, nat_tests)

pub start_not_own : (s : ControlSet) → is_own (control_start s).state ≡ false
start_not_own s = search (rules, nat_tests)

pub not_good : (r : TxReport) → is_closed r ≡ false → is_closed_good r ≡ false
not_good _ h = search rules

module _ (s : ControlSet) (i : ControlIn) where
  -- the commit of an opportunity that begins, for 288 ticks
  abbrev BeginsOwn : State → Type 0
  BeginsOwn (Commit c n b) = (n ≡ 288) × (b ≡ s.burst)
  BeginsOwn _ = ⊥

  -- an opportunity begins with a frame that is ready
  abbrev FromAway : State → Type 0
  FromAway st = (is_own st ≡ false) ⊎ ((i.ready ≡ true) × BeginsOwn st)

  commit_of_own : (st : State) → BeginsOwn st → (c : ℕ) × (st ≡ Commit c 288 s.burst)
  commit_of_own (Commit c n b) begins = (c, ap (λ m. Commit c m b) begins.0 ∙ ap (Commit c 288) begins.1)
  commit_of_own _ begins = absurd begins

  reach_next : (c : ℕ) → FromAway (reach s i.ready c).0
  reach_next c = search (rules, nat_tests)

  away_next : (st : State) → is_own st ≡ false → FromAway (control_row s st i).0
  away_next _ away = search (rules, nat_tests, reach_next)

  pub own_from : (st : State) → is_own st ≡ false → is_own (control_row s st i).0 ≡ true → (i.ready ≡ true) × ((c : ℕ) × ((control_row s st i).0 ≡ Commit c 288 s.burst))
  own_from st away own = elim (away_next st away) [
    | inl still ↦ absurd (false≢true (sym still ∙ own))
    | inr begins ↦ (begins.0, commit_of_own (control_row s st i).0 begins.1)
  ]

  reach_beacon : (c n : ℕ) → (reach s i.ready c).0 ≡ Beacon n → n ≡ 20
  reach_beacon c n e = search (rules, nat_tests)

  -- a beacon begins with 20 ticks
  pub beacon_from : (st : State) (n : ℕ) → command_of st ≢ BeaconCmd → (control_row s st i).0 ≡ Beacon n → n ≡ 20
  beacon_from (Beacon m) n other e = absurd (other refl)
  beacon_from _ n other e = search (rules, nat_tests, reach_beacon)

  pub beacon_waits : (n : ℕ) → 1 < n → (control_row s (Beacon n) i).0 ≡ Beacon (n - 1)
  beacon_waits n h = search (rules, nat_tests)

  pub commit_waits : (c b n : ℕ) → i.begun ≡ false → 1 < n → (control_row s (Commit c n b) i).0 ≡ Commit c (n - 1) b
  commit_waits c b n e h = search (rules, nat_tests)

  pub burst_waits : (c b n : ℕ) → i.begun ≡ false → 1 < n → (control_row s (Burst c n b) i).0 ≡ Burst c (n - 1) b
  burst_waits c b n e h = search (rules, nat_tests)

  pub commit_ends : (c b : ℕ) → i.begun ≡ false → is_own (control_row s (Commit c 1 b) i).0 ≡ false
  commit_ends c b e = search rules

  pub burst_ends : (c b : ℕ) → i.begun ≡ false → is_own (control_row s (Burst c 1 b) i).0 ≡ false
  burst_ends c b e = search rules

  pub begun_transmits : (st : State) → is_own st ≡ true → is_transmit st ≡ false → i.begun ≡ true → is_transmit (control_row s st i).0 ≡ true
  begun_transmits _ own waits begun = search rules

  pub transmit_stays : (st : State) → is_transmit st ≡ true → is_closed i.tx ≡ false → is_transmit (control_row s st i).0 ≡ true
  transmit_stays _ sends open_piece = let bad = not_good i.tx open_piece in search rules

  pub closed_pauses : (st : State) → is_transmit st ≡ true → is_closed i.tx ≡ true → is_own (control_row s st i).0 ≡ true
      → (c : ℕ) × (b : ℕ) × ((control_row s st i).0 ≡ Burst c 128 b)
  closed_pauses (Transmit c b) sends closed own = (c, b - 1, search (rules, nat_tests))
  closed_pauses _ sends closed own = absurd (cc)

pub transmit_own : (st : State) → is_transmit st ≡ true → is_own st ≡ true
transmit_own _ h = search rules
