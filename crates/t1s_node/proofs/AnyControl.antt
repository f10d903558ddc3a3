-- Control in any run: where it neither drives a beacon nor holds its own opportunity, and how it steps.
use Rattle.std.proofs.Common.{◌≡◌, ℕ, ◌+◌, ◌*◌, ◌==◌, Bool, true, false, ◌&&◌, not, nat_le, refl}
use Rattle.std.specs.Cmp.{second_so}
use Rattle.std.proofs.lemmas.Bool.{cond_both}
use Rattle.t1s_pcs_tx.specs.declared.TxCmd.{TxCmd}
use Rattle.t1s_pcs_tx.specs.declared.TxCmd.TheVariants.{None as NoCmd, Beacon as BeaconCmd, Commit as CommitCmd}
use Rattle.plca_control.specs.declared.ControlSet.{ControlSet}
use Rattle.plca_control.specs.declared.ControlIn.{ControlIn}
use Rattle.plca_control.specs.declared.State.{State}
use Rattle.plca_control.specs.declared.State.TheVariants.{Disabled, Recover, Resync, Early, Beacon, Syncing, WaitTo, Receive, Commit, Transmit, Burst, Drain}
use Rattle.plca_control.specs.ControlTable.{mine, coord, is_out, reach, control_row, control_start, is_own, is_beacon}

abbrev pub is_away : State → Bool
is_away (Beacon n) = false
is_away (Commit c n b) = false
is_away (Transmit c b) = false
is_away (Burst c n b) = false
is_away _ = true

pub away_not_own : (st : State) → is_away st ≡ true → is_own st ≡ false
away_not_own (Beacon n) e = absurd (cc)
away_not_own (Commit c n b) e = absurd (cc)
away_not_own (Transmit c b) e = absurd (cc)
away_not_own (Burst c n b) e = absurd (cc)
away_not_own _ e = refl

-- the own opportunity of ID c, in which b further frames may follow
pub data Owns (c b : ℕ) : State → Type 0 where
  commits : {n : ℕ} → Owns c b (Commit c n b)
  sends : Owns c b (Transmit c b)
  pauses : {n : ℕ} → Owns c b (Burst c n b)

-- the own opportunity before a frame, with n ticks left
pub data Waits (c n b : ℕ) : State → Type 0 where
  first : Waits c n b (Commit c n b)
  later : Waits c n b (Burst c n b)

-- from away: on, or to a beacon, or to the own opportunity
pub data AwayTurn (ready : Bool) (burst : ℕ) : State × TxCmd → Type 0 where
  stays : {st : State} → is_away st ≡ true → AwayTurn ready burst (st, NoCmd)
  row : AwayTurn ready burst (Beacon 20, BeaconCmd)
  owns : {c : ℕ} → ready ≡ true → AwayTurn ready burst (Commit c 288 burst, CommitCmd)

module _ (s : ControlSet) (i : ControlIn) where
  abbrev Turns : State × TxCmd → Type 0
  Turns = AwayTurn i.ready s.burst

  reach_turns : (c : ℕ) → Turns (reach s i.ready c)
  reach_turns c =
      cond_both (coord s && nat_le s.count c) _ _ Turns (λ _. row)
      (λ _. cond_both (mine s c && i.ready) _ _ Turns (λ e. owns (second_so (mine s c) i.ready e))
      (λ _. cond_both (not (coord s) && nat_le 255 c) _ _ Turns (λ _. stays refl) (λ _. stays refl)))

  pub away_turns : (st : State) → is_away st ≡ true → Turns (control_row s st i)
  away_turns Disabled h = stays refl
  away_turns (Recover q) h =
      cond_both i.crs _ _ Turns (λ _. stays refl) (λ _. cond_both (q == 258 * s.to) _ _ Turns (λ _. row) (λ _. stays refl))
  away_turns Resync h = cond_both i.crs _ _ Turns (λ _. stays refl) (λ _. stays refl)
  away_turns Early h =
      cond_both i.crs _ _ Turns (λ _. stays refl)
      (λ _. cond_both (is_beacon i.class) _ _ Turns (λ _. reach_turns 0) (λ _. stays refl))
  away_turns (Beacon n) h = absurd (cc)
  away_turns Syncing h = cond_both i.crs _ _ Turns (λ _. stays refl) (λ _. reach_turns 0)
  away_turns (WaitTo c n) h =
      cond_both i.crs _ _ Turns (λ _. stays refl)
      (λ _. cond_both (n == 1) _ _ Turns (λ _. reach_turns (c + 1)) (λ _. stays refl))
  away_turns (Receive c) h =
      cond_both i.crs _ _ Turns (λ _. stays refl)
      (λ _. cond_both (is_beacon i.class && not (coord s)) _ _ Turns (λ _. reach_turns 0)
      (λ _. cond_both (is_beacon i.class && coord s) _ _ Turns (λ _. stays refl) (λ _. reach_turns (c + 1))))
  away_turns (Commit c n b) h = absurd (cc)
  away_turns (Transmit c b) h = absurd (cc)
  away_turns (Burst c n b) h = absurd (cc)
  away_turns (Drain c) h = cond_both i.crs _ _ Turns (λ _. stays refl) (λ _. reach_turns (c + 1))

pub start_away : (s : ControlSet) → is_away (control_start s).state ≡ true
start_away s =
    cond_both (is_out s.ids) _ _ (λ (st : State). is_away st ≡ true) (λ _. refl)
    (λ _. cond_both (coord s) _ _ (λ (st : State). is_away st ≡ true) (λ _. refl) (λ _. refl))
