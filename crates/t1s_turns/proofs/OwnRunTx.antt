-- The transmitter in every tick, by control's view: Quiet where this is away, a beacon in step with its ticks, and the
-- own opportunity in step with the tick in which it began.
use Rattle.std.proofs.Common.{◌≡◌, ℕ, ◌+◌, ◌-◌, ◌*◌, ◌==◌, ◌≤◌, inl, inr, Bool, true, false, List, refl, sym, ◌∙◌, ap, subst, arith}
use Rattle.std.proofs.lemmas.Bool.{cases_eq}
use Rattle.std.proofs.lemmas.Bool.Decides.{nat_tests}
use Rattle.t1s_ring.specs.Queue.{Queue}
use Rattle.t1s_pcs_tx.specs.declared.TxCmd.TheVariants.{None as NoCmd, Beacon as BeaconCmd}
use Rattle.t1s_pcs_tx.specs.State.{Stage, Quiet, Beaconing, Committing, is_closed, report_by}
use Rattle.t1s_pcs_tx.specs.TransmitTable.{TxTurn, transmit_step}
use Rattle.plca_data.specs.declared.data_path.State.{State}
use Rattle.plca_data.specs.DataPathTable.{begun}
use Rattle.t1s_mac.specs.State.{Phase}
use Rattle.t1s_mac.specs.declared.deference.Deference.{Deference}
use Rattle.t1s_node.proofs.JointPlaces.{Place, Joint, Opening, opens, gap, Apart, away, row, idles, holds, collides, jams, delays, pends, waits, rests_in, before, fed, given, ends, closes, asleep}
use Rattle.t1s_node.proofs.JointSteps.{apart_of}
use Rattle.t1s_node.proofs.NoPiece.{Free, quiet, beacons, commits as free_commits}
use Rattle.t1s_node.proofs.OwnDrives.{Late, Paced, in_commit, in_transmit, in_pause, Driving, Stops, drives_first, drives_on, drives_out}
use Rattle.t1s_node.proofs.View.{View, Away, InRow, InCommit, InPause, cmd_of, own_of, Turns, stays_away, row_begins, own_begins, row_goes, row_ends, commit_ends, transmit_ends, pause_ends}

-- the transmitter's stage and quarter, by control's view
pub data TxAt : View → Stage → ℕ → Type 0 where
  silent : {part : ℕ} → TxAt Away Quiet part
  in_beacon : {b part : ℕ} (m : ℕ) → part ≤ 3 → part + b ≡ 4 * m + 3 → TxAt (InRow b) Beaconing part
  in_own : {v : View} {stage : Stage} {part : ℕ} (e : ℕ) → own_of v ≡ true → Driving e v stage part → TxAt v stage part

-- what the places tell of an opportunity whose frame has not begun
count_in_commit : View → ℕ
count_in_commit (InCommit n) = n
count_in_commit _ = 0

count_is : (m n : ℕ) → InCommit m ≡ InCommit n → m ≡ n
unfolding count_in_commit
count_is m n e = ap count_in_commit e

pub record Unbegun (v : View) (stage : Stage) (path : State) : Type 0 where
  pub commit : (n : ℕ) → v ≡ InCommit n → begun path ≡ false → (1 ≤ n) × (part : ℕ) × (r : ℕ) × Free stage part r
  pub pause : (n : ℕ) → v ≡ InPause n → begun path ≡ false → (part : ℕ) × (r : ℕ) × Free stage part r

opening_count : (n : ℕ) (d : Deference) → Opening n d → 1 ≤ n
opening_count n _ opens = omega arith
opening_count n _ (gap is low high) = omega (arith, is)

apart_unbegun : (v : View) (stage : Stage) (path : State) → Apart v → Unbegun v stage path
apart_unbegun _ stage path away = record { commit = λ n e. absurd (cc); pause = λ n e. absurd (cc) }
apart_unbegun _ stage path (row less) = record { commit = λ n e. absurd (cc); pause = λ n e. absurd (cc) }

pub joint_unbegun : (place : Place) (v : View) (phase : Phase) (q : Queue) (d : Deference) (a : ℕ) (stage : Stage) (part : ℕ) (path : State) (line : List ℕ)
    → Joint place v phase q d a stage part path line → Unbegun v stage path
joint_unbegun _ _ phase q _ _ stage part path _ (asleep resting) = apart_unbegun Away stage path away
joint_unbegun _ v phase q d _ stage part path _ (idles out resting free) = apart_unbegun v stage path out
joint_unbegun _ v _ q _ _ stage part path line (holds heads early quarter free al feeds) = apart_unbegun v stage path (apart_of _ _ v al)
joint_unbegun _ v _ q _ _ stage part path _ (collides out heads within quarter free) = apart_unbegun v stage path out
joint_unbegun _ v _ q _ _ stage part path _ (jams out heads nibble quarter free) = apart_unbegun v stage path out
joint_unbegun _ v phase q _ _ stage part path _ (delays out heads least back free) = apart_unbegun v stage path out
joint_unbegun _ v phase q _ _ stage part path _ (pends out heads back free) = apart_unbegun v stage path out
joint_unbegun _ _ _ q d _ stage part path _ (waits {n = m} {r = r} opening heads free) = record {
  commit = λ n e none. (let same : m ≡ n = count_is m n e in subst (λ k. 1 ≤ k) same (opening_count m d opening), part, r, free);
  pause = λ n e. absurd (cc);
}
joint_unbegun _ _ phase q d _ stage part path _ (rests_in {n = m} {r = r} resting free) = record { commit = λ n e. absurd (cc); pause = λ n e none. (part, r, free) }
joint_unbegun _ v _ q _ a stage part path line (before own heads tries quarter near free feeds) = record { commit = λ n e none. absurd (cc); pause = λ n e none. absurd (cc) }
joint_unbegun _ v _ q _ a stage _ path line (fed {d = d} own heads tries quarter ahead least most tx feeds) = record { commit = λ n e none. absurd (cc); pause = λ n e none. absurd (cc) }
joint_unbegun _ _ phase q _ _ stage _ path line (given resting tx feeds late past_start) = record { commit = λ n e. absurd (cc); pause = λ n e. absurd (cc) }
joint_unbegun _ _ phase q _ _ stage _ path _ (ends resting few) = record { commit = λ n e. absurd (cc); pause = λ n e. absurd (cc) }
joint_unbegun _ _ phase q _ _ stage _ path _ (closes resting few) = record { commit = λ n e. absurd (cc); pause = λ n e. absurd (cc) }

-- in the own opportunity a transmitter with no piece open holds the line
pub late_free : (y : ℕ) (stage : Stage) (part r : ℕ) → Late y stage → Free stage part r → stage ≡ Committing
late_free y _ part r late (free_commits e) = refl
late_free y _ part r late quiet = elim late [ ]
late_free y _ part r late (beacons e) = elim late [ ]

-- one tick of a beacon, and the end of it
beacon_on : (m part b b' : ℕ) (past : List Bool) (ended bad : Bool) (line : List ℕ) → part ≤ 3 → part + b ≡ 4 * m + 3 → b ≡ b' + 1
    → let turn : TxTurn = transmit_step (record { stage = Beaconing; part = part; past = past }) (record { cmd = BeaconCmd; ended = ended; bad = bad }) line in
    TxAt (InRow b') turn.state.stage turn.state.part
unfolding transmit_step
beacon_on m part b b' past ended bad line low is less = elim (cases_eq part 3) [
  | inl three ↦
      let e : (part == 3) ≡ true = grind (arith, nat_tests, three) in
      rw e (in_beacon {b = b'} {part = 0} (m - 1) (omega arith) (omega (arith, is, less, three)))
  | inr more ↦
      let e : (part == 3) ≡ false = grind (arith, nat_tests, more) in
      rw e (in_beacon {b = b'} {part = part + 1} m (omega (arith, low, more)) (omega (arith, is, less)))
]

beacon_ends : (m part b : ℕ) (past : List Bool) (ended bad : Bool) (line : List ℕ) → part ≤ 3 → part + b ≡ 4 * m + 3 → b ≡ 0
    → let turn : TxTurn = transmit_step (record { stage = Beaconing; part = part; past = past }) (record { cmd = NoCmd; ended = ended; bad = bad }) line in
    TxAt Away turn.state.stage turn.state.part
unfolding transmit_step
beacon_ends m part b past ended bad line low is none =
    let three : part ≡ 3 = omega (arith, low, is, none) in
    rw three (silent {part = 0})

quiet_on : (part : ℕ) (past : List Bool) (ended bad : Bool) (line : List ℕ)
    → let turn : TxTurn = transmit_step (record { stage = Quiet; part = part; past = past }) (record { cmd = NoCmd; ended = ended; bad = bad }) line in
    TxAt Away turn.state.stage turn.state.part
unfolding transmit_step
quiet_on part past ended bad line = silent {part = 0}

beacon_begins : (part : ℕ) (past : List Bool) (ended bad : Bool) (line : List ℕ)
    → let turn : TxTurn = transmit_step (record { stage = Quiet; part = part; past = past }) (record { cmd = BeaconCmd; ended = ended; bad = bad }) line in
    TxAt (InRow 19) turn.state.stage turn.state.part
unfolding transmit_step
beacon_begins part past ended bad line = in_beacon {b = 19} {part = 0} 4 (omega arith) refl

-- the own opportunity is over once it is left
pub ended_away : (ready sending closed : Bool) (v v' : View) → Turns ready sending closed v v' → own_of v ≡ true → own_of v' ≡ false → v' ≡ Away
ended_away ready sending closed _ _ (commit_ends e less) own over = refl
ended_away ready sending closed _ _ (transmit_ends e) own over = refl
ended_away ready sending closed _ _ (pause_ends e less) own over = refl
ended_away ready sending closed _ _ _ own over = absurd (cc)

silent_of : (stage : Stage) (part : ℕ) → stage ≡ Quiet → TxAt Away stage part
silent_of stage part e = subst (λ (st : Stage). TxAt Away st part) (sym e) silent

paced_own : (y part : ℕ) (stage : Stage) (v : View) → Paced y part stage v → own_of v ≡ true
paced_own y part stage _ (in_commit at) = refl
paced_own y part stage _ in_transmit = refl
paced_own y part stage _ (in_pause z late some aligned) = refl

-- how the transmitter turns with the view
module _ (ready sending closed : Bool) (part : ℕ) (past : List Bool) (ended bad : Bool) (line : List ℕ) (path : State) (same : sending ≡ begun path) where
  abbrev turn_by : Stage → View → TxTurn
  turn_by stage v = transmit_step (record { stage = stage; part = part; past = past }) (record { cmd = cmd_of v; ended = ended; bad = bad }) line

  abbrev TxTurned : Stage → View → Type 0
  TxTurned stage v = TxAt v (turn_by stage v).state.stage (turn_by stage v).state.part

  -- within the own opportunity
  own_turned : (stage : Stage) (e : ℕ) (v v' : View) → Driving e v stage part → Turns ready sending closed v v' → closed ≡ is_closed (report_by stage (part == 3))
      → Unbegun v stage path → (b : Bool) → own_of v' ≡ b → TxTurned stage v'
  own_turned stage e v v' driving turns is facts true own = in_own (e + 1) own (drives_on ready sending closed e v v' stage part past ended bad line driving turns is own)
  own_turned stage e v v' driving turns is facts false own =
      let out : Stops e (turn_by stage v') = drives_out ready sending closed e v v' stage part past ended bad line driving turns is own
      (λ n at none. let (some, p, r, free) = facts.commit n at (sym same ∙ none) in (some, late_free driving.y stage p r driving.late free))
      (λ n at none. let (p, r, free) = facts.pause n at (sym same ∙ none) in late_free driving.y stage p r driving.late free) in
      let gone : v' ≡ Away = ended_away ready sending closed v v' turns (paced_own driving.y part stage v driving.paced) own in
      subst (λ (w : View). TxAt w (turn_by stage v').state.stage (turn_by stage v').state.part) (sym gone) (silent_of (turn_by stage v').state.stage (turn_by stage v').state.part out.quiet)

  pub tx_turned : (stage : Stage) (v v' : View) → TxAt v stage part → Turns ready sending closed v v' → closed ≡ is_closed (report_by stage (part == 3)) → Unbegun v stage path → TxTurned stage v'
  tx_turned _ _ _ silent stays_away is facts = quiet_on part past ended bad line
  tx_turned _ _ _ silent row_begins is facts = beacon_begins part past ended bad line
  tx_turned _ _ _ silent (own_begins e) is facts = in_own 1 refl (drives_first part past ended bad line)
  tx_turned _ _ _ (in_beacon {b = b} m low at) (row_goes {b = b'} less) is facts = beacon_on m part b b' past ended bad line low at less
  tx_turned _ _ _ (in_beacon {b = b} m low at) (row_ends none) is facts = beacon_ends m part b past ended bad line low at none
  tx_turned stage v v' (in_own e own driving) turns is facts = own_turned stage e v v' driving turns is facts (own_of v') refl
