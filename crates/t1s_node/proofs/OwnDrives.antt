-- The transmitter while the own opportunity lasts: a quarter in each tick, and an end at a symbol boundary.
use Rattle.std.proofs.Common.{◌≡◌, ℕ, ◌+◌, ◌-◌, ◌*◌, ◌==◌, ◌<◌, ◌≤◌, ◌⊎◌, inl, inr, Bool, true, false, nat_lt, List, [], ◌∷◌, None, refl, sym, ◌∙◌, subst, arith, rules}
use Rattle.std.proofs.lemmas.Bool.{cases_lt, cases_eq, false≢true}
use Rattle.std.proofs.lemmas.Bool.Decides.{nat_tests}
use Rattle.t1s_pcs_tx.specs.declared.TxCmd.TheVariants.{None as NoCmd, Commit as CommitCmd}
use Rattle.t1s_pcs_tx.specs.declared.TxIn.{TxIn}
use Rattle.t1s_pcs_tx.specs.State.{Stage, Quiet, Committing, Starting, Sending, ClosingEnd, ClosingCloser, is_closed, report_by}
use Rattle.t1s_pcs_tx.specs.TransmitTable.{TxTurn, transmit_step, choice_after, data_choice, at_boundary}
use Rattle.t1s_node.proofs.View.{View, InCommit, InTransmit, InPause, cmd_of, own_of, Turns, own_begins, commit_sends, commit_waits, commit_ends, stays_transmit, pauses, transmit_ends, pause_sends, pause_waits, pause_ends}

-- how many symbols have ended before this stage
pub data Late : ℕ → Stage → Type 0 where
  commits : {y : ℕ} → Late y Committing
  starts : {y i : ℕ} → i ≤ y → i ≤ 3 → Late y (Starting i)
  sends : {y x : ℕ} → 4 ≤ y → Late y (Sending x)
  ends : {y : ℕ} {good : Bool} → 4 ≤ y → Late y (ClosingEnd good)
  closes : {y : ℕ} {good : Bool} → 5 ≤ y → Late y (ClosingCloser good)

-- a pause is at a boundary when it ends
pub data Paced (y part : ℕ) (stage : Stage) : View → Type 0 where
  in_commit : {n : ℕ} → n + 4 * y + part ≡ 288 → Paced y part stage (InCommit n)
  in_transmit : Paced y part stage InTransmit
  in_pause : {n : ℕ} (z : ℕ) → 5 ≤ y → 1 ≤ n → n + part ≡ 4 * z → Paced y part stage (InPause n)

-- e ticks after the own opportunity began
pub record Driving (e : ℕ) (v : View) (stage : Stage) (part : ℕ) : Type 0 where
  pub y : ℕ
  pub time : e ≡ 4 * y + part + 1
  pub low : part ≤ 3
  pub late : Late y stage
  pub paced : Paced y part stage v

boundary_late : (y : ℕ) (stage : Stage) (past : List Bool) (inp : TxIn) (line : List ℕ) → inp.cmd ≡ CommitCmd → Late y stage
    → Late (y + 1) (choice_after stage past inp line).stage
boundary_late y _ past inp [] commit commits = rw commit commits
boundary_late y _ past inp (x ∷ rest) commit commits = rw commit (starts {y = y + 1} {i = 0} (omega arith) (omega arith))
boundary_late y (Starting i) past inp line commit (starts low few) = elim (cases_lt i 3) [
  | inl lt ↦ let b : nat_lt i 3 ≡ true = search (rules, nat_tests) in rw b (starts {y = y + 1} {i = i + 1} (omega (arith, low)) (omega (arith, lt)))
  | inr ge ↦ let b : nat_lt i 3 ≡ false = search (rules, nat_tests) in rw b (next line (omega (arith, low, ge)))
]
  where
    next : (line : List ℕ) → 3 ≤ y → Late (y + 1) (data_choice past inp line).stage
    next [] h = ends {y = y + 1} (omega (arith, h))
    next (x ∷ rest) h = sends {y = y + 1} (omega (arith, h))
boundary_late y _ past inp [] commit (sends h) = ends {y = y + 1} (omega (arith, h))
boundary_late y _ past inp (x ∷ rest) commit (sends h) = sends {y = y + 1} (omega (arith, h))
boundary_late y _ past inp line commit (ends h) = closes {y = y + 1} (omega (arith, h))
boundary_late y _ past inp [] commit (closes h) = rw commit commits
boundary_late y _ past inp (x ∷ rest) commit (closes h) = rw commit (starts {y = y + 1} {i = 0} (omega arith) (omega arith))

-- one tick of the pace
paced_on : (ready begun closed : Bool) (y part : ℕ) (stage stage' : Stage) (v v' : View) → Turns ready begun closed v v' → own_of v' ≡ true → Paced y part stage v
    → part < 3 → closed ≡ false → Paced y (part + 1) stage' v'
paced_on ready begun closed y part stage stage' _ _ (commit_sends e) own (in_commit at) few going = in_transmit
paced_on ready begun closed y part stage stage' _ _ (commit_waits e less) own (in_commit at) few going = in_commit (omega (arith, at, less))
paced_on ready begun closed y part stage stage' _ _ (stays_transmit e) own in_transmit few going = in_transmit
paced_on ready begun closed y part stage stage' _ _ (pauses e) own in_transmit few going = absurd (false≢true (sym going ∙ e))
paced_on ready begun closed y part stage stage' _ _ (pause_sends e) own (in_pause z late some aligned) few going = in_transmit
paced_on ready begun closed y part stage stage' _ _ (pause_waits {m = m} e less more) own (in_pause z late some aligned) few going = in_pause z late more (omega (arith, less, aligned))
paced_on ready begun closed y part stage stage' _ _ (own_begins e) own paced few going = elim paced [ ]
paced_on ready begun closed y part stage stage' _ _ turns own paced few going = absurd (cc)

-- and at a boundary
paced_over : (ready begun closed : Bool) (y : ℕ) (stage stage' : Stage) (v v' : View) → Turns ready begun closed v v' → own_of v' ≡ true → Paced y 3 stage v
    → (closed ≡ true → 5 ≤ y) → Paced (y + 1) 0 stage' v'
paced_over ready begun closed y stage stage' _ _ (commit_sends e) own (in_commit at) far = in_transmit
paced_over ready begun closed y stage stage' _ _ (commit_waits e less) own (in_commit at) far = in_commit (omega (arith, at, less))
paced_over ready begun closed y stage stage' _ _ (stays_transmit e) own in_transmit far = in_transmit
paced_over ready begun closed y stage stage' _ _ (pauses e) own in_transmit far = let late = far e in in_pause 32 (omega (arith, late)) (omega arith) refl
paced_over ready begun closed y stage stage' _ _ (pause_sends e) own (in_pause z late some aligned) far = in_transmit
paced_over ready begun closed y stage stage' _ _ (pause_waits {m = m} e less more) own (in_pause z late some aligned) far = in_pause (z - 1) (omega (arith, late)) more (omega (arith, less, aligned))
paced_over ready begun closed y stage stage' _ _ (own_begins e) own paced far = elim paced [ ]
paced_over ready begun closed y stage stage' _ _ turns own paced far = absurd (cc)

own_commits : (v : View) → own_of v ≡ true → cmd_of v ≡ CommitCmd
own_commits v e = search rules

-- what a closer that has ended says of the stage
closed_stage : (y part : ℕ) (stage : Stage) → Late y stage → is_closed (report_by stage (part == 3)) ≡ true → (5 ≤ y) × (part ≡ 3) × ((good : Bool) × (stage ≡ ClosingCloser good))
closed_stage y part _ commits e = absurd (cc)
closed_stage y part _ (starts low few) e = absurd (cc)
closed_stage y part _ (sends late) e = absurd (cc)
closed_stage y part _ (ends late) e = absurd (cc)
closed_stage y part _ (closes {good = good} late) e = elim (cases_eq part 3) [
  | inl three ↦ (late, three, (good, refl))
  | inr other ↦ let b : (part == 3) ≡ false = grind (arith, nat_tests, other) in absurd (closed_no b e)
]
  where
    closed_no : (part == 3) ≡ false → is_closed (report_by (ClosingCloser good) (part == 3)) ≡ true → ⊥
    closed_no b e = let f : is_closed (report_by (ClosingCloser good) (part == 3)) ≡ false = rw b refl in false≢true (sym f ∙ e)

not_quiet : (y : ℕ) (stage : Stage) (past : List Bool) (part : ℕ) → Late y stage → at_boundary (record { stage = stage; part = part; past = past }) ≡ (part == 3)
not_quiet y _ past part commits = refl
not_quiet y _ past part (starts low few) = refl
not_quiet y _ past part (sends late) = refl
not_quiet y _ past part (ends late) = refl
not_quiet y _ past part (closes late) = refl

-- one tick in which own stays
pub drives_on : (ready begun closed : Bool) (e : ℕ) (v v' : View) (stage : Stage) (part : ℕ) (past : List Bool) (ended bad : Bool) (line : List ℕ)
    → Driving e v stage part → Turns ready begun closed v v' → closed ≡ is_closed (report_by stage (part == 3)) → own_of v' ≡ true
    → let turn : TxTurn = transmit_step (record { stage = stage; part = part; past = past }) (record { cmd = cmd_of v'; ended = ended; bad = bad }) line in
    Driving (e + 1) v' turn.state.stage turn.state.part
unfolding transmit_step
drives_on ready begun closed e v v' stage part past ended bad line h turns is own = elim (cases_eq part 3) [
  | inl three ↦
      let b : (part == 3) ≡ true = grind (arith, nat_tests, three) in
      let at = not_quiet h.y stage past part h.late ∙ b in
      let commit = own_commits v' own in
      rw at (record {
        y = h.y + 1;
        time = omega (arith, h.time, three);
        low = omega arith;
        late = boundary_late h.y stage past (record { cmd = cmd_of v'; ended = ended; bad = bad }) line commit h.late;
        paced = paced_over ready begun closed h.y stage _ v v' turns own (subst (λ p. Paced h.y p stage v) three h.paced) (λ c. (closed_stage h.y part stage h.late (sym is ∙ c)).0);
      })
  | inr more ↦
      let b : (part == 3) ≡ false = grind (arith, nat_tests, more) in
      let at = not_quiet h.y stage past part h.late ∙ b in
      let few : part < 3 = omega (arith, h.low, more) in
      rw at (record {
        y = h.y;
        time = omega (arith, h.time);
        low = omega (arith, few);
        late = h.late;
        paced = paced_on ready begun closed h.y part stage _ v v' turns own h.paced few (still part few stage h.y h.late is);
      })
]
  where
    still : (part : ℕ) → part < 3 → (stage : Stage) (y : ℕ) → Late y stage → closed ≡ is_closed (report_by stage (part == 3)) → closed ≡ false
    still part few stage y late is = is ∙ no_close part few y stage late (is_closed (report_by stage (part == 3))) refl
      where
        no_close : (part : ℕ) → part < 3 → (y : ℕ) (stage : Stage) → Late y stage → (c : Bool) → is_closed (report_by stage (part == 3)) ≡ c → is_closed (report_by stage (part == 3)) ≡ false
        no_close part few y stage late false c = c
        no_close part few y stage late true c = let (low, three, closer) = closed_stage y part stage late c in absurd (omega (arith, three, few))

-- the tick in which own has ended
pub record Stops (e : ℕ) (turn : TxTurn) : Type 0 where
  pub quiet : turn.state.stage ≡ Quiet
  pub none : turn.driven ≡ None
  pub long : 20 ≤ e

stops : (e y : ℕ) (stage : Stage) (part : ℕ) (past : List Bool) (ended bad : Bool) (line : List ℕ) → (stage ≡ Committing) ⊎ ((good : Bool) × (stage ≡ ClosingCloser good)) → part ≡ 3
    → e ≡ 4 * y + part + 1 → 5 ≤ y → Stops e (transmit_step (record { stage = stage; part = part; past = past }) (record { cmd = NoCmd; ended = ended; bad = bad }) line)
unfolding transmit_step
stops e y stage part past ended bad line (inl committing) three time late = rw (committing, three) (record { quiet = refl; none = refl; long = omega (arith, time, late, three) })
stops e y stage part past ended bad line (inr (good, closer)) three time late = rw (closer, three) (record { quiet = refl; none = refl; long = omega (arith, time, late, three) })

pub drives_out : (ready begun closed : Bool) (e : ℕ) (v v' : View) (stage : Stage) (part : ℕ) (past : List Bool) (ended bad : Bool) (line : List ℕ)
    → Driving e v stage part → Turns ready begun closed v v' → closed ≡ is_closed (report_by stage (part == 3)) → own_of v' ≡ false
    → ((n : ℕ) → v ≡ InCommit n → begun ≡ false → (1 ≤ n) × (stage ≡ Committing)) → ((n : ℕ) → v ≡ InPause n → begun ≡ false → stage ≡ Committing)
    → Stops e (transmit_step (record { stage = stage; part = part; past = past }) (record { cmd = cmd_of v'; ended = ended; bad = bad }) line)
drives_out ready begun closed e v v' stage part past ended bad line h turns is own waits rests = go v v' h.paced turns own waits rests
  where
    go : (v v' : View) → Paced h.y part stage v → Turns ready begun closed v v' → own_of v' ≡ false
        → ((n : ℕ) → v ≡ InCommit n → begun ≡ false → (1 ≤ n) × (stage ≡ Committing)) → ((n : ℕ) → v ≡ InPause n → begun ≡ false → stage ≡ Committing)
        → Stops e (transmit_step (record { stage = stage; part = part; past = past }) (record { cmd = cmd_of v'; ended = ended; bad = bad }) line)
    go _ _ (in_commit {n = n} at) (commit_ends none few) out waits rests =
        let (some, committing) = waits n refl none in
        let three : part ≡ 3 = omega (arith, some, at, few, h.low) in
        stops e h.y stage part past ended bad line (inl committing) three h.time (omega (arith, some, at, few, three))
    go _ _ in_transmit (transmit_ends c) out waits rests =
        let (late, three, (good, closer)) = closed_stage h.y part stage h.late (sym is ∙ c) in
        stops e h.y stage part past ended bad line (inr (good, closer)) three h.time late
    go _ _ (in_pause {n = n} z late some aligned) (pause_ends none few) out waits rests =
        let three : part ≡ 3 = omega (arith, some, aligned, few, h.low) in
        let committing = rests n refl none in
        stops e h.y stage part past ended bad line (inl committing) three h.time late
    go _ _ paced turns out waits rests = absurd (cc)

-- and the tick in which it begins
pub drives_first : (part : ℕ) (past : List Bool) (ended bad : Bool) (line : List ℕ)
    → let turn : TxTurn = transmit_step (record { stage = Quiet; part = part; past = past }) (record { cmd = CommitCmd; ended = ended; bad = bad }) line in
    Driving 1 (InCommit 288) turn.state.stage turn.state.part
unfolding transmit_step
drives_first part past ended bad [] = record { y = 0; time = refl; low = omega arith; late = commits; paced = in_commit refl }
drives_first part past ended bad (x ∷ rest) = record { y = 0; time = refl; low = omega arith; late = starts {y = 0} {i = 0} (omega arith) (omega arith); paced = in_commit refl }
