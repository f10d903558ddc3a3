-- How long control and status are calm, and what their calm ticks lead through.
use Rattle.std.proofs.Common.{◌≡◌, ℕ, suc, ◌+◌, ◌-◌, ◌*◌, ◌<◌, ◌≤◌, ◌==◌, Bool, true, false, ◌&&◌, refl, arith, rules, ap, sym, subst, ◌∙◌}
use Rattle.std.specs.Prelude.{IsTrue, min, nat_le, nat_lt, not}
use Rattle.std.specs.Fn.{iterate}
use Rattle.std.proofs.lemmas.Bool.{cond_both, ne_eqb, eq-eqb, false≢true}
use Rattle.std.proofs.lemmas.Bool.Decides.{nat_tests}
use Rattle.t1s_symbols.specs.CalmSteps.{AreCalm, IsCalmFor}
use Rattle.t1s_symbols.proofs.CalmSteps.{IsCalmPath, rests, acts, cut, path_calm_for, path_whole, calm_steps_pass}
use Rattle.t1s_pcs_tx.specs.declared.TxCmd.{TxCmd}
use Rattle.t1s_pcs_tx.specs.declared.TxCmd.TheVariants.{None as NoCmd}
use Rattle.t1s_pcs_tx.specs.State.{is_closed}
use Rattle.plca_control.specs.declared.ControlSet.{ControlSet}
use Rattle.plca_control.specs.declared.ControlIn.{ControlIn}
use Rattle.plca_control.specs.declared.State.{State}
use Rattle.plca_control.specs.declared.State.TheVariants.{Disabled, Recover, Resync, Early, Beacon, Syncing, WaitTo, Receive, Commit, Transmit, Burst, Drain}
use Rattle.plca_control.specs.State.{ControlState}
use Rattle.plca_control.specs.ControlTable.{mine, coord, reach, control_row, is_beacon, is_closed_good}
use Rattle.plca_control.specs.CalmControl.{calm_ticks, passed, recover_passed, state_uncounted, control_after, IsCalmControl, status_calm_ticks, status_passed, status_after, IsCalmStatus}
use Rattle.plca_control.specs.declared.StatusState.{StatusState}
use Rattle.plca_control.specs.declared.StatusState.TheVariants.{Inactive, Active, Hysteresis}
use Rattle.plca_control.specs.Ranges.{in_range, status_in_range}

abbrev pub at : ControlSet → State → ControlState
at s st = record { set = s; state = st }

-- a row that isn't calm
abbrev Acts : State → State × TxCmd → Type 0
Acts st row = row.1 ≡ NoCmd → state_uncounted row.0 ≡ state_uncounted st → ⊥

-- the states at the beginning of an opportunity
abbrev is_reached : State → Bool
is_reached (Beacon n) = true
is_reached (Commit c n b) = true
is_reached Resync = true
is_reached (WaitTo c n) = true
is_reached _ = false

reached : (s : ControlSet) (ready : Bool) (c : ℕ) → is_reached (reach s ready c).0 ≡ true
reached s ready c = search (rules, nat_tests)

uncounted_reached : (st : State) → is_reached (state_uncounted st) ≡ is_reached st
uncounted_reached _ = search rules

passed_zero : (st : State) (i : ControlIn) → passed st i 0 ≡ st
passed_zero (Recover q) i = ap Recover (cond_both i.crs q (q + 0) (λ n. n ≡ q) (λ _. refl) (λ _. omega arith))
passed_zero (WaitTo c n) i = ap (WaitTo c) (omega arith)
passed_zero Disabled i = refl
passed_zero Resync i = refl
passed_zero Early i = refl
passed_zero (Beacon n) i = refl
passed_zero Syncing i = refl
passed_zero (Receive c) i = refl
passed_zero (Commit c n b) i = refl
passed_zero (Transmit c b) i = refl
passed_zero (Burst c n b) i = refl
passed_zero (Drain c) i = refl

module _ (s : ControlSet) (i : ControlIn) (most : ℕ) where
  abbrev Path : State → ℕ → Type 0
  Path st n = IsCalmPath (control_after i) (IsCalmControl i) (λ k. at s (passed st i k)) most n

  -- a row without a command that leaves its state but for the count is calm
  calm_row : (st next : State) → control_row s st i ≡ (next, NoCmd) → state_uncounted next ≡ state_uncounted st → IsCalmControl i (at s st)
  calm_row st next e same = (ap (λ (r : State × TxCmd). r.1) e, ap (λ (r : State × TxCmd). at s (state_uncounted r.0)) e ∙ ap (at s) same)

  leaves : (st next : State) → control_row s st i ≡ (next, NoCmd) → control_after i (at s st) ≡ at s next
  leaves st next e = ap (λ (r : State × TxCmd). at s r.0) e

  not_calm : (st : State) → Acts st (control_row s st i) → IsCalmControl i (at s st) → ⊥
  not_calm st acts_here calm = acts_here calm.0 (ap (λ c. c.state) calm.1)

  act : (st : State) → Acts st (control_row s st i) → Path st 0
  act st acts_here = acts (control_after i) (IsCalmControl i) (λ k. at s (passed st i k)) most
      (λ calm. not_calm st acts_here (subst (λ x. IsCalmControl i (at s x)) (passed_zero st i) calm))

  rest : (st : State) → control_row s st i ≡ (st, NoCmd) → IsCalmPath (control_after i) (IsCalmControl i) (λ _. at s st) most most
  rest st e = rests (control_after i) (IsCalmControl i) (at s st) most (calm_row st st e refl) (leaves st st e)

  -- an opportunity begins in another state
  reach_acts : (st : State) (c : ℕ) → is_reached st ≡ false → Acts st (reach s i.ready c)
  reach_acts st c other none e =
      false≢true (sym other ∙ (sym (uncounted_reached st) ∙ (ap is_reached (sym e) ∙ (uncounted_reached (reach s i.ready c).0 ∙ reached s i.ready c))))

  next_waits : (c : ℕ) → Acts (WaitTo c 1) (reach s i.ready (c + 1))
  next_waits c =
      cond_both (coord s && nat_le s.count (c + 1)) _ _ (Acts (WaitTo c 1)) (λ _ none e. cc) (λ _.
      cond_both (mine s (c + 1) && i.ready) _ _ (Acts (WaitTo c 1)) (λ _ none e. cc) (λ _.
      cond_both (not (coord s) && nat_le 255 (c + 1)) _ _ (Acts (WaitTo c 1)) (λ _ none e. cc) (λ _ none e.
      let same : c + 1 ≡ c = cc in absurd (omega arith))))

  receive_acts : (c : ℕ) → i.crs ≡ false → Acts (Receive c) (control_row s (Receive c) i)
  receive_acts c off = rw off (
      cond_both (is_beacon i.class && not (coord s)) _ _ (Acts (Receive c)) (λ _. reach_acts (Receive c) 0 refl) (λ _.
      cond_both (is_beacon i.class && coord s) _ _ (Acts (Receive c)) (λ _ none e. cc) (λ _. reach_acts (Receive c) (c + 1) refl)))

  -- under carrier the ticks of Recover begin again and again
  restarts : (q : ℕ) → i.crs ≡ true → Path (Recover q) most
  restarts q on = record {
    within = omega arith;
    calm = λ k below. calm_row (Recover (recover_passed q i.crs k)) (Recover 0) (rw on refl) refl;
    next = λ k below. leaves (Recover (recover_passed q i.crs k)) (Recover 0) (rw on refl) ∙ ap (λ n. at s (Recover n)) (rw (on, ne_eqb (suc k) 0 (λ e. omega arith)) refl);
    ends = λ below. absurd (omega arith);
  }

  recovers : (q : ℕ) → q ≤ 258 * s.to → i.crs ≡ false → Path (Recover q) (min (258 * s.to - q) most)
  recovers q low off = cut (control_after i) (IsCalmControl i) (λ k. at s (Recover (recover_passed q i.crs k))) (258 * s.to - q) most
      (λ k below. calm_row (Recover (recover_passed q i.crs k)) (Recover (q + k + 1)) (counts k below) refl)
      (λ k below. leaves (Recover (recover_passed q i.crs k)) (Recover (q + k + 1)) (counts k below) ∙ ap (λ n. at s (Recover n)) (rw off (omega arith)))
      (not_calm (Recover (recover_passed q i.crs (258 * s.to - q))) (rw (off, eq-eqb (q + (258 * s.to - q)) (258 * s.to) (omega arith)) (λ none e. cc)))
    where
      counts : (k : ℕ) → k < 258 * s.to - q → control_row s (Recover (recover_passed q i.crs k)) i ≡ (Recover (q + k + 1), NoCmd)
      counts k below = rw (off, ne_eqb (q + k) (258 * s.to) (λ e. omega arith)) refl

  waits : (c n : ℕ) → 1 ≤ n → i.crs ≡ false → Path (WaitTo c n) (min (n - 1) most)
  waits c n some off = cut (control_after i) (IsCalmControl i) (λ k. at s (WaitTo c (n - k))) (n - 1) most
      (λ k below. calm_row (WaitTo c (n - k)) (WaitTo c (n - k - 1)) (counts k below) refl)
      (λ k below. leaves (WaitTo c (n - k)) (WaitTo c (n - k - 1)) (counts k below) ∙ ap (λ m. at s (WaitTo c m)) (omega arith))
      (let last : n - (n - 1) ≡ 1 = omega arith in rw last (not_calm (WaitTo c 1) (rw off (next_waits c))))
    where
      counts : (k : ℕ) → k < n - 1 → control_row s (WaitTo c (n - k)) i ≡ (WaitTo c (n - k - 1), NoCmd)
      counts k below = rw (off, ne_eqb (n - k) 1 (λ e. omega arith)) refl

-- control is calm along the path of its counts
pub control_path : (s : ControlSet) (st : State) (i : ControlIn) (most : ℕ) → IsTrue (in_range s st)
    → IsCalmPath (control_after i) (IsCalmControl i) (λ n. at s (passed st i n)) most (calm_ticks s st i most)
control_path s Disabled i most within = rest s i most Disabled refl
control_path s (Recover q) i most within =
    cond_both i.crs _ _ (Path s i most (Recover q)) (λ on. restarts s i most q on) (λ off. recovers s i most q (grind (arith, nat_tests)) off)
control_path s Resync i most within =
    cond_both i.crs _ _ (Path s i most Resync) (λ on. act s i most Resync (rw on (λ none e. cc))) (λ off. rest s i most Resync (rw off refl))
control_path s Early i most within =
    cond_both i.crs _ _ (Path s i most Early) (λ on. rest s i most Early (rw on refl)) (λ off. act s i most Early (rw off
    (cond_both (is_beacon i.class) _ _ (Acts Early) (λ _. reach_acts s i most Early 0 refl) (λ _ none e. cc))))
control_path s (Beacon n) i most within =
    act s i most (Beacon n) (cond_both (n == 1) _ _ (Acts (Beacon n)) (λ _ none e. cc) (λ _ none e. cc))
control_path s Syncing i most within =
    cond_both i.crs _ _ (Path s i most Syncing) (λ on. rest s i most Syncing (rw on refl)) (λ off. act s i most Syncing (rw off (reach_acts s i most Syncing 0 refl)))
control_path s (WaitTo c n) i most within =
    cond_both i.crs _ _ (Path s i most (WaitTo c n)) (λ on. act s i most (WaitTo c n) (rw on (λ none e. cc))) (λ off. waits s i most c n (grind (arith, nat_tests)) off)
control_path s (Receive c) i most within =
    cond_both i.crs _ _ (Path s i most (Receive c)) (λ on. rest s i most (Receive c) (rw on refl)) (λ off. act s i most (Receive c) (receive_acts s i most c off))
control_path s (Commit c n b) i most within =
    act s i most (Commit c n b) (cond_both i.begun _ _ (Acts (Commit c n b)) (λ _ none e. cc) (λ _. cond_both (n == 1) _ _ (Acts (Commit c n b)) (λ _ none e. cc) (λ _ none e. cc)))
control_path s (Transmit c b) i most within =
    act s i most (Transmit c b) (cond_both (is_closed_good i.tx && nat_lt 0 b) _ _ (Acts (Transmit c b)) (λ _ none e. cc) (λ _. cond_both (is_closed i.tx) _ _ (Acts (Transmit c b)) (λ _ none e. cc) (λ _ none e. cc)))
control_path s (Burst c n b) i most within =
    act s i most (Burst c n b) (cond_both i.begun _ _ (Acts (Burst c n b)) (λ _ none e. cc) (λ _. cond_both (n == 1) _ _ (Acts (Burst c n b)) (λ _ none e. cc) (λ _ none e. cc)))
control_path s (Drain c) i most within =
    cond_both i.crs _ _ (Path s i most (Drain c)) (λ on. rest s i most (Drain c) (rw on refl)) (λ off. act s i most (Drain c) (rw off (reach_acts s i most (Drain c) (c + 1) refl)))

module _ (s : ControlSet) (st : State) (i : ControlIn) (within : IsTrue (in_range s st)) where
  pub control_calm_for : (most : ℕ) → IsCalmFor (control_after i) (IsCalmControl i) (at s st) most (calm_ticks s st i most)
  control_calm_for most =
      subst (λ x. IsCalmFor (control_after i) (IsCalmControl i) (at s x) most (calm_ticks s st i most)) (passed_zero st i)
      (path_calm_for (control_after i) (IsCalmControl i) (λ k. at s (passed st i k)) most (calm_ticks s st i most) (control_path s st i most within))

  module _ (n : ℕ) (all : AreCalm (control_after i) (IsCalmControl i) (at s st) n) where
    from_path : AreCalm (control_after i) (IsCalmControl i) (at s (passed st i 0)) n
    from_path = subst (λ x. AreCalm (control_after i) (IsCalmControl i) (at s x) n) (sym (passed_zero st i)) all

    pub control_calm_ticks : n ≤ calm_ticks s st i n
    control_calm_ticks = path_whole (control_after i) (IsCalmControl i) (λ k. at s (passed st i k)) n (calm_ticks s st i n) (control_path s st i n within) from_path

    pub control_pass : at s (passed st i n) ≡ iterate (control_after i) n (at s st)
    control_pass = sym (subst (λ x. iterate (control_after i) n (at s x) ≡ at s (passed st i n)) (passed_zero st i)
        (calm_steps_pass (control_after i) (IsCalmControl i) (λ k. at s (passed st i k)) n (calm_ticks s st i n) (control_path s st i n within) from_path))

-- status is calm along the path of its count
status_start : (st : StatusState) → status_passed st 0 ≡ st
status_start Inactive = refl
status_start Active = refl
status_start (Hysteresis n) = ap Hysteresis (omega arith)

abbrev StatusPath : Bool → ℕ → StatusState → ℕ → Type 0
StatusPath active most st n = IsCalmPath (status_after active) (IsCalmStatus active) (status_passed st) most n

hysteresis_path : (n most : ℕ) → 1 ≤ n → StatusPath false most (Hysteresis n) (min (n - 1) most)
hysteresis_path n most some = cut (status_after false) (IsCalmStatus false) (λ k. Hysteresis (n - k)) (n - 1) most
    (λ k below. rw (ne_eqb (n - k) 1 (λ e. omega arith)) refl)
    (λ k below. rw (ne_eqb (n - k) 1 (λ e. omega arith)) (ap Hysteresis (omega arith)))
    (let last : n - (n - 1) ≡ 1 = omega arith in rw last (λ e. cc))

pub status_path : (st : StatusState) (active : Bool) (most : ℕ) → IsTrue (status_in_range st) → StatusPath active most st (status_calm_ticks st active most)
status_path Inactive true most within = acts (status_after true) (IsCalmStatus true) (status_passed Inactive) most (λ e. cc)
status_path Inactive false most within = rests (status_after false) (IsCalmStatus false) Inactive most refl refl
status_path Active true most within = rests (status_after true) (IsCalmStatus true) Active most refl refl
status_path Active false most within = acts (status_after false) (IsCalmStatus false) (status_passed Active) most (λ e. cc)
status_path (Hysteresis n) true most within = acts (status_after true) (IsCalmStatus true) (status_passed (Hysteresis n)) most (λ e. cc)
status_path (Hysteresis n) false most within = hysteresis_path n most (grind (arith, nat_tests))

module _ (st : StatusState) (active : Bool) (within : IsTrue (status_in_range st)) where
  pub status_calm_for : (most : ℕ) → IsCalmFor (status_after active) (IsCalmStatus active) st most (status_calm_ticks st active most)
  status_calm_for most =
      subst (λ x. IsCalmFor (status_after active) (IsCalmStatus active) x most (status_calm_ticks st active most)) (status_start st)
      (path_calm_for (status_after active) (IsCalmStatus active) (status_passed st) most (status_calm_ticks st active most) (status_path st active most within))

  module _ (n : ℕ) (all : AreCalm (status_after active) (IsCalmStatus active) st n) where
    from_status_path : AreCalm (status_after active) (IsCalmStatus active) (status_passed st 0) n
    from_status_path = subst (λ x. AreCalm (status_after active) (IsCalmStatus active) x n) (sym (status_start st)) all

    pub status_ticks : n ≤ status_calm_ticks st active n
    status_ticks = path_whole (status_after active) (IsCalmStatus active) (status_passed st) n (status_calm_ticks st active n) (status_path st active n within) from_status_path

    pub status_pass : status_passed st n ≡ iterate (status_after active) n st
    status_pass = sym (subst (λ x. iterate (status_after active) n x ≡ status_passed st n) (status_start st)
        (calm_steps_pass (status_after active) (IsCalmStatus active) (status_passed st) n (status_calm_ticks st active n) (status_path st active n within) from_status_path))
