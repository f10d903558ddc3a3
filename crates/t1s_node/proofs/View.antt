-- What the law of the node uses of control: a view of its state, and how one step may change it.
use Rattle.std.proofs.Common.{◌≡◌, ℕ, ◌+◌, ◌-◌, ◌*◌, ◌==◌, ◌<◌, ◌≤◌, Bool, true, false, ◌&&◌, not, IsTrue, nat_lt, nat_le, refl, ap, rules, arith}
use Rattle.std.proofs.lemmas.Bool.Decides.{nat_tests}
use Rattle.t1s_pcs_tx.specs.declared.TxCmd.{TxCmd}
use Rattle.t1s_pcs_tx.specs.declared.TxCmd.TheVariants.{None as NoCmd, Beacon as BeaconCmd, Commit as CommitCmd}
use Rattle.t1s_pcs_tx.specs.declared.TxReport.{TxReport}
use Rattle.plca_control.specs.declared.ControlSet.{ControlSet}
use Rattle.plca_control.specs.declared.ControlIn.{ControlIn}
use Rattle.plca_control.specs.declared.State.{State}
use Rattle.plca_control.specs.declared.State.TheVariants.{Disabled, Recover, Resync, Early, Beacon, Syncing, WaitTo, Receive, Commit, Transmit, Burst, Drain}
use Rattle.plca_control.specs.Runs.{is_transmit}
use Rattle.t1s_pcs_tx.specs.State.{is_closed}
use Rattle.plca_control.specs.ControlTable.{mine, coord, reach, control_row, control_start, is_own, is_active, is_closed_good, is_beacon}
use Rattle.t1s_node.specs.Laws.{is_commit}
use Rattle.std.specs.Cmp.{second_so}
use Rattle.std.proofs.lemmas.Bool.{cond_both}

-- neither a beacon nor the own opportunity; a beacon, and how many of its ticks follow; the own opportunity, before its
-- frame, within it, and after a frame of a burst
pub data View : Type 0 where
  Away : View
  InRow : ℕ → View
  InCommit : ℕ → View
  InTransmit : View
  InPause : ℕ → View

abbrev pub view_of : State → View
view_of (Beacon n) = InRow (n - 1)
view_of (Commit c n b) = InCommit n
view_of (Transmit c b) = InTransmit
view_of (Burst c n b) = InPause n
view_of _ = Away

abbrev pub cmd_of : View → TxCmd
cmd_of Away = NoCmd
cmd_of (InRow b) = BeaconCmd
cmd_of (InCommit n) = CommitCmd
cmd_of InTransmit = CommitCmd
cmd_of (InPause n) = CommitCmd

abbrev pub own_of : View → Bool
own_of Away = false
own_of (InRow b) = false
own_of (InCommit n) = true
own_of InTransmit = true
own_of (InPause n) = true

-- a step of the view, by what control is told
pub data Turns (ready begun closed : Bool) : View → View → Type 0 where
  stays_away : Turns ready begun closed Away Away
  row_begins : Turns ready begun closed Away (InRow 19)
  own_begins : ready ≡ true → Turns ready begun closed Away (InCommit 288)
  row_goes : {m b : ℕ} → m ≡ b + 1 → Turns ready begun closed (InRow m) (InRow b)
  row_ends : {m : ℕ} → m ≡ 0 → Turns ready begun closed (InRow m) Away
  commit_sends : {n : ℕ} → begun ≡ true → Turns ready begun closed (InCommit n) InTransmit
  commit_waits : {n m : ℕ} → begun ≡ false → n ≡ m + 1 → Turns ready begun closed (InCommit n) (InCommit m)
  commit_ends : {n : ℕ} → begun ≡ false → n ≤ 1 → Turns ready begun closed (InCommit n) Away
  stays_transmit : closed ≡ false → Turns ready begun closed InTransmit InTransmit
  pauses : closed ≡ true → Turns ready begun closed InTransmit (InPause 128)
  transmit_ends : closed ≡ true → Turns ready begun closed InTransmit Away
  pause_sends : {n : ℕ} → begun ≡ true → Turns ready begun closed (InPause n) InTransmit
  pause_waits : {n m : ℕ} → begun ≡ false → n ≡ m + 1 → 1 ≤ m → Turns ready begun closed (InPause n) (InPause m)
  pause_ends : {n : ℕ} → begun ≡ false → n ≤ 1 → Turns ready begun closed (InPause n) Away

-- each count in a state that is left runs from its start down to 1
abbrev pub counts : State → Bool
counts (Beacon n) = nat_le 1 n
counts (Commit c n b) = nat_le 1 n
counts (Burst c n b) = nat_le 1 n
counts _ = true

pub start_counts : (s : ControlSet) → IsTrue (counts (control_start s).state)
start_counts s = search (rules, nat_tests)

reach_counts : (s : ControlSet) (ready : Bool) (c : ℕ) → IsTrue (counts (reach s ready c).0)
reach_counts s ready c = search (rules, nat_tests)

pub row_counts : (s : ControlSet) (st : State) (i : ControlIn) → IsTrue (counts st) → IsTrue (counts (control_row s st i).0)
row_counts s _ i h = search (rules, nat_tests, reach_counts)

-- what takes no part in the cycle is away
pub inactive_away : (st : State) → is_active st ≡ false → view_of st ≡ Away
inactive_away _ e = search rules

pub start_away : (s : ControlSet) → view_of (control_start s).state ≡ Away
start_away s = search (rules, nat_tests)

pub view_own : (st : State) → is_own st ≡ own_of (view_of st)
view_own _ = search rules

reach_cmd : (s : ControlSet) (ready : Bool) (c : ℕ) → (reach s ready c).1 ≡ cmd_of (view_of (reach s ready c).0)
reach_cmd s ready c = search (rules, nat_tests)

pub view_cmd : (s : ControlSet) (st : State) (i : ControlIn) → (control_row s st i).1 ≡ cmd_of (view_of (control_row s st i).0)
view_cmd s _ i = search (rules, nat_tests, reach_cmd)

module _ (s : ControlSet) (i : ControlIn) where
  abbrev TurnsTo : View → State × TxCmd → Type 0
  TurnsTo v next = Turns i.ready i.begun (is_closed i.tx) v (view_of next.0)

  reach_turns : (c : ℕ) → TurnsTo Away (reach s i.ready c)
  reach_turns c =
      cond_both (coord s && nat_le s.count c) _ _ (TurnsTo Away) (λ _. row_begins)
      (λ _. cond_both (mine s c && i.ready) _ _ (TurnsTo Away) (λ e. own_begins (second_so (mine s c) i.ready e))
      (λ _. cond_both (not (coord s) && nat_le 255 c) _ _ (TurnsTo Away) (λ _. stays_away) (λ _. stays_away)))

  pub row_turns : (st : State) → IsTrue (counts st) → Turns i.ready i.begun (is_closed i.tx) (view_of st) (view_of (control_row s st i).0)
  row_turns Disabled h = stays_away
  row_turns (Recover q) h =
      cond_both i.crs _ _ (TurnsTo Away) (λ _. stays_away) (λ _. cond_both (q == 258 * s.to) _ _ (TurnsTo Away) (λ _. row_begins) (λ _. stays_away))
  row_turns Resync h = cond_both i.crs _ _ (TurnsTo Away) (λ _. stays_away) (λ _. stays_away)
  row_turns Early h =
      cond_both i.crs _ _ (TurnsTo Away) (λ _. stays_away)
      (λ _. cond_both (is_beacon i.class) _ _ (TurnsTo Away) (λ _. reach_turns 0) (λ _. stays_away))
  row_turns (Beacon n) h =
      cond_both (n == 1) _ _ (TurnsTo (InRow (n - 1))) (λ one. row_ends (grind (arith, nat_tests, one)))
      (λ more. row_goes (grind (arith, nat_tests, more, h)))
  row_turns Syncing h = cond_both i.crs _ _ (TurnsTo Away) (λ _. stays_away) (λ _. reach_turns 0)
  row_turns (WaitTo c n) h =
      cond_both i.crs _ _ (TurnsTo Away) (λ _. stays_away)
      (λ _. cond_both (n == 1) _ _ (TurnsTo Away) (λ _. reach_turns (c + 1)) (λ _. stays_away))
  row_turns (Receive c) h =
      cond_both i.crs _ _ (TurnsTo Away) (λ _. stays_away)
      (λ _. cond_both (is_beacon i.class && not (coord s)) _ _ (TurnsTo Away) (λ _. reach_turns 0)
      (λ _. cond_both (is_beacon i.class && coord s) _ _ (TurnsTo Away) (λ _. stays_away) (λ _. reach_turns (c + 1))))
  row_turns (Commit c n b) h =
      cond_both i.begun _ _ (TurnsTo (InCommit n)) (λ e. commit_sends e)
      (λ e. cond_both (n == 1) _ _ (TurnsTo (InCommit n)) (λ one. commit_ends e (grind (arith, nat_tests, one)))
      (λ more. commit_waits e (grind (arith, nat_tests, more, h))))
  row_turns (Transmit c b) h =
      cond_both (is_closed_good i.tx && nat_lt 0 b) _ _ (TurnsTo InTransmit) (λ e. pauses (good_closes i.tx b e))
      (λ _. cond_both (is_closed i.tx) _ _ (TurnsTo InTransmit) (λ e. transmit_ends e) (λ e. stays_transmit e))
    where
      good_closes : (r : TxReport) (b : ℕ) → (is_closed_good r && nat_lt 0 b) ≡ true → is_closed r ≡ true
      good_closes _ b e = search rules
  row_turns (Burst c n b) h =
      cond_both i.begun _ _ (TurnsTo (InPause n)) (λ e. pause_sends e)
      (λ e. cond_both (n == 1) _ _ (TurnsTo (InPause n)) (λ one. pause_ends e (grind (arith, nat_tests, one)))
      (λ more. pause_waits e (grind (arith, nat_tests, more, h)) (grind (arith, nat_tests, more, h))))
  row_turns (Drain c) h = cond_both i.crs _ _ (TurnsTo Away) (λ _. stays_away) (λ _. reach_turns (c + 1))

-- control in Commit, by its view
pub commit_view : (st : State) → is_commit st ≡ true → (n : ℕ) × (view_of st ≡ InCommit n)
commit_view (Commit c n b) e = (n, refl)
commit_view _ e = absurd (cc)

pub view_commit : (st : State) (n : ℕ) → view_of st ≡ InCommit n → is_commit st ≡ true
view_commit (Commit c m b) n e = refl
view_commit _ n e = absurd (cc)

count_of_commit : View → ℕ
count_of_commit (InCommit n) = n
count_of_commit _ = 0

count_is : (m n : ℕ) → InCommit m ≡ InCommit n → m ≡ n
unfolding count_of_commit
count_is m n e = ap count_of_commit e

pub still_commit : (s : ControlSet) (st : State) (i : ControlIn) (n : ℕ) → view_of st ≡ InCommit n → 1 < n → i.begun ≡ false → is_commit (control_row s st i).0 ≡ true
still_commit s (Commit c m b) i n e more none =
    let same : m ≡ n = count_is m n e in
    let other : (m == 1) ≡ false = grind (arith, nat_tests, same, more) in
    rw (none, other) refl
still_commit s _ i n e more none = absurd (cc)

pub now_transmits : (s : ControlSet) (st : State) (i : ControlIn) → is_commit st ≡ true → i.begun ≡ true → is_transmit (control_row s st i).0 ≡ true
now_transmits s (Commit c m b) i e some = rw some refl
now_transmits s _ i e some = absurd (cc)
