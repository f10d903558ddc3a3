-- The rows along a run.
use Rattle.std.proofs.Common.{◌≡◌, ◌≢◌, ℕ, zero, suc, ◌+◌, ◌-◌, ◌<◌, ◌≤◌, ◌⊎◌, true, false, refl, inl, inr, arith, add-zero, ◌∙◌, sym, ap}
use Rattle.std.proofs.lemmas.Bool.{cases_lt, cases_eq}
use Rattle.t1s_pcs_tx.specs.declared.TxCmd.TheVariants.{None as NoCmd, Beacon as BeaconCmd}
use Rattle.plca_control.specs.declared.ControlSet.{ControlSet}
use Rattle.plca_control.specs.declared.ControlIn.{ControlIn}
use Rattle.plca_control.specs.declared.State.{State}
use Rattle.plca_control.specs.declared.State.TheVariants.{Beacon, Syncing, Commit, Burst}
use Rattle.t1s_pcs_tx.specs.State.{is_closed}
use Rattle.plca_control.specs.ControlTable.{control_row, control_start, is_own}
use Rattle.plca_control.specs.Runs.{state_at, own_at, cmd_at, transmits_at, is_transmit, Holds, OwnBegins, NoneBegun, NoneClosed}
use Rattle.plca_control.specs.Laws.{IsBeaconFrom}
use Rattle.plca_control.proofs.Rows.{command_of, row_command, own_commits, other_commands, is_beacon_state, start_no_beacon, start_not_own, own_from, beacon_from, beacon_waits, commit_waits, burst_waits, commit_ends, burst_ends, begun_transmits, transmit_stays, closed_pauses, transmit_own}

module _ (s : ControlSet) (given : ℕ → ControlIn) where
  -- the states that tick t finds and leaves
  abbrev found : ℕ → State
  found t = (state_at s given t).state

  abbrev left : ℕ → State
  left t = (control_row (state_at s given t).set (found t) (given t)).0

  found-suc : (t : ℕ) → found (suc t) ≡ left t
  unfolding state_at
  found-suc t = refl

  found-zero : found 0 ≡ (control_start s).state
  unfolding state_at
  found-zero = refl

  command : (t : ℕ) → cmd_at s given t ≡ command_of (left t)
  command t = row_command (state_at s given t).set (found t) (given t)

  pub holds : (t : ℕ) → own_at s given t ≡ true → Holds s given t
  holds t own = record { own = own; commits = command t ∙ own_commits (left t) own }

  pub not_own : (t : ℕ) → own_at s given t ≡ false → (cmd_at s given t ≡ NoCmd) ⊎ (cmd_at s given t ≡ BeaconCmd)
  not_own t other = let e = command t in rw e (other_commands (left t) other)

  found_not_own : (t : ℕ) → OwnBegins s given t → is_own (found t) ≡ false
  found_not_own zero begins = rw found-zero (start_not_own s)
  found_not_own (suc t) begins = rw (found-suc t) (begins.before t (omega arith))

  -- the tick in which `own` begins
  begins_so : (t : ℕ) → OwnBegins s given t → ((given t).ready ≡ true) × ((c : ℕ) × (left t ≡ Commit c 288 (state_at s given t).set.burst))
  begins_so t begins = own_from (state_at s given t).set (given t) (found t) (found_not_own t begins) begins.own

  pub begins_ready : (t : ℕ) → OwnBegins s given t → (given t).ready ≡ true
  begins_ready t begins = (begins_so t begins).0

  -- a state with a count that falls by one in each tick that meets Q
  module _ (W : ℕ → State) (Q : ControlIn → Type 0) (falls : (set : ControlSet) (i : ControlIn) (n : ℕ) → Q i → 1 < n → (control_row set (W n) i).0 ≡ W (n - 1)) where
    counts_down : (u m : ℕ) → found u ≡ W m → (k : ℕ) → k < m → ((j : ℕ) → u ≤ j → j < u + k → Q (given j)) → found (u + k) ≡ W (m - k)
    counts_down u m e zero lt quiet = let all : m - 0 ≡ m = omega arith in rw (add-zero, all) e
    counts_down u m e (suc k) lt quiet =
        let here : found (u + k) ≡ W (m - k) = counts_down u m e k (omega arith) (λ j from to. quiet j from (omega arith)) in
        let on : suc (u + k) ≡ u + suc k = omega arith in
        let fall : m - k - 1 ≡ m - suc k = omega arith in
        let next = falls (state_at s given (u + k)).set (given (u + k)) (m - k) (quiet (u + k) (omega arith) (omega arith)) (omega arith) in
        rw (← on) (found-suc (u + k) ∙ (ap (λ (st : State). (control_row (state_at s given (u + k)).set st (given (u + k))).0) here ∙ (next ∙ ap W fall)))

  -- `own` in a state whose count falls while `begun` is not seen, and ends at 1
  module _ (W : ℕ → State) (owns : (n : ℕ) → is_own (W n) ≡ true) (waits : (n : ℕ) → is_transmit (W n) ≡ false)
      (falls : (set : ControlSet) (i : ControlIn) (n : ℕ) → i.begun ≡ false → 1 < n → (control_row set (W n) i).0 ≡ W (n - 1))
      (ends : (set : ControlSet) (i : ControlIn) → i.begun ≡ false → is_own (control_row set (W 1) i).0 ≡ false) where
    left_after : (t m : ℕ) → left t ≡ W m → (k : ℕ) → k < m → NoneBegun given t (t + k) → left (t + k) ≡ W (m - k)
    left_after t m e k lt none =
        let on : suc t + k ≡ suc (t + k) = omega arith in
        let at = counts_down W (λ i. i.begun ≡ false) falls (suc t) m (found-suc t ∙ e) k lt (λ j from to. none j (omega arith) (omega arith)) in
        sym (found-suc (t + k)) ∙ (ap found (sym on) ∙ at)

    pub until_begun : (t m : ℕ) → 0 < m → left t ≡ W m → (k : ℕ) → NoneBegun given t (t + k) →
        (k < m → (transmits_at s given (t + k) ≡ false) × Holds s given (t + k)) × (k ≡ m → own_at s given (t + k) ≡ false)
    until_begun t m some e k none = (still, over)
      where
        still : k < m → (transmits_at s given (t + k) ≡ false) × Holds s given (t + k)
        still lt =
            let at = left_after t m e k lt none in
            (ap is_transmit at ∙ waits (m - k), holds (t + k) (ap is_own at ∙ owns (m - k)))

        over : k ≡ m → own_at s given (t + k) ≡ false
        over same =
            let at = left_after t m e (k - 1) (omega arith) (λ j from to. none j from (omega arith)) in
            let on : suc (t + (k - 1)) ≡ t + k = omega arith in
            let one : m - (k - 1) ≡ 1 = omega arith in
            let here : found (t + k) ≡ W 1 = ap found (sym on) ∙ (found-suc (t + (k - 1)) ∙ (at ∙ ap W one)) in
            ap (λ (st : State). is_own (control_row (state_at s given (t + k)).set st (given (t + k))).0) here
            ∙ ends (state_at s given (t + k)).set (given (t + k)) (none (t + k) (omega arith) (omega arith))

  pub commit_until_begun : (t : ℕ) → OwnBegins s given t → (k : ℕ) → NoneBegun given t (t + k) →
      (k < 288 → (transmits_at s given (t + k) ≡ false) × Holds s given (t + k)) × (k ≡ 288 → own_at s given (t + k) ≡ false)
  commit_until_begun t begins =
      let b : ℕ = (state_at s given t).set.burst in
      let (c, e) = (begins_so t begins).1 in
      until_begun (λ n. Commit c n b) (λ n. refl) (λ n. refl) (λ set i n quiet more. commit_waits set i c b n quiet more) (λ set i quiet. commit_ends set i c b quiet) t 288 (omega arith) e

  pub pause_until_begun : (t : ℕ) → transmits_at s given t ≡ true → is_closed (given (t + 1)).tx ≡ true → own_at s given (t + 1) ≡ true → (k : ℕ) → NoneBegun given (t + 1) (t + 1 + k) →
      (k < 128 → (transmits_at s given (t + 1 + k) ≡ false) × Holds s given (t + 1 + k)) × (k ≡ 128 → own_at s given (t + 1 + k) ≡ false)
  pause_until_begun t sends closed own =
      let on : t + 1 ≡ suc t = omega arith in
      let sent : is_transmit (found (t + 1)) ≡ true = rw (on, found-suc t) sends in
      let (c, b, e) = closed_pauses (state_at s given (t + 1)).set (given (t + 1)) (found (t + 1)) sent closed own in
      until_begun (λ n. Burst c n b) (λ n. refl) (λ n. refl) (λ set i n quiet more. burst_waits set i c b n quiet more) (λ set i quiet. burst_ends set i c b quiet) (t + 1) 128 (omega arith) e

  pub transmits_once_begun : (t : ℕ) → own_at s given t ≡ true → transmits_at s given t ≡ false → (given (t + 1)).begun ≡ true → transmits_at s given (t + 1) ≡ true
  transmits_once_begun t own waiting begun =
      let on : t + 1 ≡ suc t = omega arith in
      let had : is_own (found (t + 1)) ≡ true = rw (on, found-suc t) own in
      let not_yet : is_transmit (found (t + 1)) ≡ false = rw (on, found-suc t) waiting in
      begun_transmits (state_at s given (t + 1)).set (given (t + 1)) (found (t + 1)) had not_yet begun

  transmits_on : (t : ℕ) → transmits_at s given t ≡ true → (k : ℕ) → NoneClosed given t (t + k) → transmits_at s given (t + k) ≡ true
  transmits_on t sends zero none = rw add-zero sends
  transmits_on t sends (suc k) none =
      let before = transmits_on t sends k (λ j from to. none j from (omega arith)) in
      let on : suc (t + k) ≡ t + suc k = omega arith in
      let had : is_transmit (found (suc (t + k))) ≡ true = rw (found-suc (t + k)) before in
      rw (← on) (transmit_stays (state_at s given (suc (t + k))).set (given (suc (t + k))) (found (suc (t + k))) had (none (suc (t + k)) (omega arith) (omega arith)))

  pub transmits_until_closed : (t : ℕ) → transmits_at s given t ≡ true → (k : ℕ) → NoneClosed given t (t + k) → (transmits_at s given (t + k) ≡ true) × Holds s given (t + k)
  transmits_until_closed t sends k none =
      let still = transmits_on t sends k none in
      (still, holds (t + k) (transmit_own (left (t + k)) still))

  -- a beacon that is under way: it began in tick b, and so many ticks of it are left
  record BeaconSince (t n : ℕ) : Type 0 where
    pub b : ℕ
    pub time : b + 21 ≡ t + n
    pub low : 1 ≤ n
    pub high : n ≤ 20
    pub other : command_of (found b) ≢ BeaconCmd
    pub all : (j : ℕ) → b < j → j ≤ t → found j ≡ Beacon (b + 21 - j)

  begins_now : (t n : ℕ) → command_of (found t) ≢ BeaconCmd → left t ≡ Beacon n → BeaconSince (suc t) n
  begins_now t n other e =
      let twenty : n ≡ 20 = beacon_from (state_at s given t).set (given t) (found t) n other e in
      record {
        b = t;
        time = omega arith;
        low = omega arith;
        high = omega arith;
        other = other;
        all = λ j from to.
            let same : j ≡ suc t = omega arith in
            let count : n ≡ t + 21 - j = omega arith in
            ap found same ∙ (found-suc t ∙ (e ∙ ap Beacon count));
      }

  goes_on : (t m n : ℕ) → found t ≡ Beacon m → BeaconSince t m → left t ≡ Beacon n → BeaconSince (suc t) n
  goes_on t m n here since e = elim (cases_eq m 1) [
    | inl one ↦
        let ended : left t ≡ Syncing = ap (λ (st : State). (control_row (state_at s given t).set st (given t)).0) (here ∙ ap Beacon one) in
        absurd (cc)
    | inr more ↦
        let fell = ap (λ (st : State). (control_row (state_at s given t).set st (given t)).0) here ∙ beacon_waits (state_at s given t).set (given t) m (omega (arith, since.low)) in
        let count : n ≡ m - 1 = cc in
        record {
          b = since.b;
          time = omega (arith, since.time, since.low);
          low = omega (arith, since.low);
          high = omega (arith, since.high);
          other = since.other;
          all = λ j from to. elim (cases_eq j (suc t)) [
            | inl same ↦
                let at : n ≡ since.b + 21 - j = omega (arith, since.time, since.low) in
                ap found same ∙ (found-suc t ∙ (e ∙ ap Beacon at))
            | inr earlier ↦ since.all j from (omega arith)
          ];
        }
  ]

  beacon_since : (t n : ℕ) → found t ≡ Beacon n → BeaconSince t n
  beacon_since zero n e = absurd (start_no_beacon s (ap command_of (sym found-zero ∙ e)))
  beacon_since (suc t) n e =
      let made : left t ≡ Beacon n = sym (found-suc t) ∙ e in
      elim (is_beacon_state (found t)) [
        | inl other ↦ begins_now t n other made
        | inr beacon ↦ goes_on t beacon.0 n beacon.1 (beacon_since t beacon.0 beacon.1) made
      ]

  beacon_left : (t : ℕ) → cmd_at s given t ≡ BeaconCmd → (n : ℕ) × (left t ≡ Beacon n)
  beacon_left t e = elim (is_beacon_state (left t)) [ inl other ↦ absurd (other (sym (command t) ∙ e)) | inr beacon ↦ beacon ]

  beacon_cmd : (j n : ℕ) → found (suc j) ≡ Beacon n → cmd_at s given j ≡ BeaconCmd
  beacon_cmd j n e = command j ∙ ap command_of (sym (found-suc j) ∙ e)

  pub beacon_lasts : (t : ℕ) → cmd_at s given t ≡ BeaconCmd → (b : ℕ) × (b ≤ t) × (t < b + 20) × IsBeaconFrom s given b
  beacon_lasts t e =
      let (n, made) = beacon_left t e in
      let here : found (suc t) ≡ Beacon n = found-suc t ∙ made in
      let since = beacon_since (suc t) n here in
      let later : (k : ℕ) → k < n → found (suc t + k) ≡ Beacon (n - k) = λ k lt. counts_down Beacon (λ i. Unit {0}) (λ set i m quiet more. beacon_waits set i m more) (suc t) n here k lt (λ j from to. tt) in (
        since.b,
        omega (arith, since.time, since.high),
        omega (arith, since.time, since.low),
        record {
          all = λ j from to. elim (cases_lt t j) [
            | inl after ↦
                let on : suc t + (j - t) ≡ suc j = omega arith in
                beacon_cmd j (n - (j - t)) (ap found (sym on) ∙ later (j - t) (omega (arith, since.time)))
            | inr before ↦ beacon_cmd j (since.b + 21 - suc j) (since.all (suc j) (omega arith) (omega arith))
          ];
          before = λ j next cmd.
              let on : suc j ≡ since.b = omega arith in
              since.other (ap (λ (u : ℕ). command_of (found u)) (sym on) ∙ (ap command_of (found-suc j) ∙ (sym (command j) ∙ cmd)));
          after =
              let on : suc t + (n - 1) ≡ since.b + 20 = omega (arith, since.time, since.low) in
              let one : n - (n - 1) ≡ 1 = omega (arith, since.low) in
              let last : found (since.b + 20) ≡ Beacon 1 = ap found (sym on) ∙ (later (n - 1) (omega (arith, since.low)) ∙ ap Beacon one) in
              let ended : left (since.b + 20) ≡ Syncing = ap (λ (st : State). (control_row (state_at s given (since.b + 20)).set st (given (since.b + 20))).0) last in
              λ cmd. let none : cmd_at s given (since.b + 20) ≡ NoCmd = command (since.b + 20) ∙ ap command_of ended in cc;
        },
      )
