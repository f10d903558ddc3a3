-- How long a MAC is calm, and what its calm ticks lead through.
use Rattle.std.proofs.Common.{◌≡◌, ℕ, suc, ◌+◌, ◌-◌, ◌<◌, ◌≤◌, ◌==◌, ◌⊎◌, inl, inr, Bool, true, false, ◌&&◌, ◌||◌, if◌then◌else◌, nat_lt, nat_le, length, refl, arith, ap, sym, subst, ◌∙◌}
use Rattle.std.specs.Prelude.{min}
use Rattle.std.specs.Fn.{iterate}
use Rattle.std.proofs.lemmas.Bool.{cond_both, ne_eqb, cases_lt}
use Rattle.std.proofs.lemmas.Bool.Decides.{nat_tests}
use Rattle.t1s_symbols.specs.CalmSteps.{AreCalm, IsCalmFor}
use Rattle.t1s_symbols.proofs.CalmSteps.{IsCalmPath, path_calm_for, path_whole, calm_steps_pass}
use Rattle.plca_data.specs.declared.MacOut.TheVariants.{Nothing}
use Rattle.t1s_ring.specs.Queue.{Queue}
use Rattle.t1s_mac.specs.declared.deference.Deference.{Deference}
use Rattle.t1s_mac.specs.declared.deference.Deference.TheVariants.{Free, Busy, Gap}
use Rattle.t1s_mac.specs.declared.outcome.MacNote.TheVariants.{None as NoNote}
use Rattle.t1s_mac.specs.declared.outcome.MacStep.{MacStep}
use Rattle.t1s_mac.specs.DeferenceTable.{may_start, deference_step}
use Rattle.t1s_mac.specs.MacTable.{Row, row, row_of, deferring, resting, waiting, sending, jamming, mac_step, last_quarter, last_jam_nibble, last_attempt, preamble_nibbles}
use Rattle.t1s_mac.specs.State.{Phase, Resting, Deferring, Waiting, Sending, Jamming, MacState, is_sending, head_nibbles}
use Rattle.t1s_mac.specs.CalmMac.{phase_uncounted, deference_uncounted, deference_lasts, deferring_lasts, calm_ticks, phase_passed, deference_passed, HasTicks, mac_uncounted, mac_after, IsCalmMac}

-- ---- deference

-- a tick in which no frame starts changes deference by more than its count
abbrev DeferenceEnds : Deference → Bool → Type 0
DeferenceEnds d carrier = deference_uncounted (deference_step d carrier false false) ≡ deference_uncounted d → ⊥

-- for as long as deference lasts, it goes along its count
pub deference_goes : (d : Deference) (carrier : Bool) (most k : ℕ) → k < deference_lasts d carrier most
    → (deference_step (deference_passed d k) carrier false false ≡ deference_passed d (suc k))
    × (k < most)
    × (deference_uncounted (deference_passed d (suc k)) ≡ deference_uncounted (deference_passed d k))
deference_goes Free true most k below = absurd (omega arith)
deference_goes Free false most k below = (refl, below, refl)
deference_goes Busy true most k below = (refl, below, refl)
deference_goes Busy false most k below = absurd (omega arith)
deference_goes (Gap left) carrier most k below = (gap_goes, omega arith, refl)
  where
    gap_goes : deference_step (Gap (left - k)) carrier false false ≡ Gap (left - suc k)
    gap_goes = let more : nat_lt 1 (left - k) ≡ true = grind (arith, nat_tests) in rw more (ap Gap (omega arith))

-- a frame can't start then, but where the line is free
pub deferring_goes : (d : Deference) (carrier : Bool) (most k : ℕ) → k < deferring_lasts d carrier most
    → (may_start (deference_passed d k) carrier ≡ false) × (k < deference_lasts d carrier most)
deferring_goes Free carrier most k below = absurd (omega arith)
deferring_goes Busy carrier most k below = (refl, below)
deferring_goes (Gap left) carrier most k below = (ne_eqb (left - k) 1 (λ e. omega arith), below)

gap_ends : (left : ℕ) (carrier : Bool) → left ≤ 1 → DeferenceEnds (Gap left) carrier
gap_ends left true few = let last : nat_lt 1 left ≡ false = grind (arith, nat_tests) in rw last (λ e. cc)
gap_ends left false few = let last : nat_lt 1 left ≡ false = grind (arith, nat_tests) in rw last (λ e. cc)

-- deference lasts up to what was asked for, or ends
pub deference_ends : (d : Deference) (carrier : Bool) (most : ℕ)
    → (deference_lasts d carrier most ≡ most) ⊎ DeferenceEnds (deference_passed d (deference_lasts d carrier most)) carrier
deference_ends Free true most = inr (λ e. cc)
deference_ends Free false most = inl refl
deference_ends Busy true most = inl refl
deference_ends Busy false most = inr (λ e. cc)
deference_ends (Gap left) carrier most = elim (cases_lt (left - 1) most) [
  | inl below ↦ inr (gap_ends (left - min (left - 1) most) carrier (omega arith))
  | inr whole ↦ inl (omega arith)
]

deference_within : (d : Deference) (carrier : Bool) (bound most : ℕ) → bound ≤ most → deference_lasts d carrier bound ≤ most
deference_within Free true bound most le = omega arith
deference_within Free false bound most le = le
deference_within Busy true bound most le = le
deference_within Busy false bound most le = omega arith
deference_within (Gap left) carrier bound most le = omega arith

deferring_within : (d : Deference) (carrier : Bool) (most : ℕ) → deferring_lasts d carrier most ≤ most
deferring_within Free carrier most = omega arith
deferring_within Busy true most = omega arith
deferring_within Busy false most = omega arith
deferring_within (Gap left) carrier most = omega arith

-- where the first frame waits, a frame may start in the end, or deference ends
deferring_ends : (d : Deference) (carrier : Bool) (most : ℕ) → deferring_lasts d carrier most < most
    → (may_start (deference_passed d (deferring_lasts d carrier most)) carrier ≡ true)
    ⊎ DeferenceEnds (deference_passed d (deferring_lasts d carrier most)) carrier
deferring_ends Free true most below = inr (λ e. cc)
deferring_ends Free false most below = inl refl
deferring_ends Busy true most below = absurd (omega arith)
deferring_ends Busy false most below = inr (λ e. cc)
deferring_ends (Gap left) carrier most below = inr (gap_ends (left - min (left - 1) most) carrier (omega arith))

-- ---- the states

module _ (q : Queue) (attempts : ℕ) where
  -- a frame starts only with a nibble
  abbrev StartsWithNibble : Row → Type 0
  StartsWithNibble left = left.out ≡ Nothing → left.starts ≡ false

  deferring_starts : (may : Bool) → StartsWithNibble (deferring q attempts may)
  deferring_starts true none = cc
  deferring_starts false none = refl

  resting_starts : (may : Bool) → StartsWithNibble (resting q attempts may)
  resting_starts may = cond_both (nat_lt 0 (length q.frames)) _ _ StartsWithNibble (λ _. deferring_starts may) (λ _ none. refl)

  waiting_starts : (left : ℕ) (may : Bool) → StartsWithNibble (waiting left q attempts may)
  waiting_starts left may = cond_both (left == 0) _ _ StartsWithNibble (λ _. deferring_starts may) (λ _ none. refl)

  -- a row that isn't calm in a state
  abbrev Acts : Phase → Row → Type 0
  Acts phase left = left.out ≡ Nothing → phase_uncounted left.phase ≡ phase_uncounted phase → ⊥

  starting_acts : Acts Deferring (deferring q attempts true)
  starting_acts none same = cc

  resting_acts : (may : Bool) → nat_lt 0 (length q.frames) ≡ true → Acts Resting (resting q attempts may)
  resting_acts true some = rw some (λ none same. cc)
  resting_acts false some = rw some (λ none same. cc)

  waiting_acts : (may : Bool) → Acts (Waiting 0) (waiting 0 q attempts may)
  waiting_acts true none same = cc
  waiting_acts false none same = cc

  sending_acts : (nibble quarter : ℕ) (collided hit : Bool) → Acts (Sending nibble quarter collided) (sending nibble quarter hit q attempts)
  sending_acts nibble quarter collided hit =
      let A : Row → Type 0 = Acts (Sending nibble quarter collided) in
      cond_both (nat_lt quarter last_quarter) _ _ A (λ _ none same. let e : quarter + 1 ≡ quarter = cc in absurd (omega arith)) (λ _.
      cond_both (hit && nat_le preamble_nibbles (nibble + 1)) _ _ A (λ _ none same. cc) (λ _.
      cond_both (nibble + 1 == length (head_nibbles q)) _ _ A (λ _ none same. cc) (λ _ none same. cc)))

  jamming_acts : (nibble quarter drawn : ℕ) → Acts (Jamming nibble quarter) (jamming nibble quarter q attempts drawn)
  jamming_acts nibble quarter drawn =
      let A : Row → Type 0 = Acts (Jamming nibble quarter) in
      cond_both (nat_lt quarter last_quarter) _ _ A (λ _ none same. let e : quarter + 1 ≡ quarter = cc in absurd (omega arith)) (λ _.
      cond_both (nat_lt nibble last_jam_nibble) _ _ A (λ _ none same. cc) (λ _.
      cond_both (attempts == last_attempt) _ _ A (λ _ none same. cc) (λ _ none same. cc)))

-- ---- the MAC

module _ {D : Type 0} (answer : D → ℕ → ℕ) (after : D → D) (carrier collision : Bool) (q : Queue) (attempts : ℕ) (draws : D) where
  abbrev mac_of : Phase → Deference → MacState D
  mac_of phase d = record { phase = phase; queue = q; deference = d; attempts = attempts; draws = draws }

  abbrev step : MacState D → MacState D
  step = mac_after answer after carrier collision

  abbrev Calm : MacState D → Type 0
  Calm = IsCalmMac answer after carrier collision

  abbrev row_in : Phase → Deference → Row
  row_in phase d = row_of phase q attempts (may_start d carrier) collision (answer draws (attempts + 1))

  -- what a row leaves and tells
  abbrev left_by : Deference → Bool → Row → MacState D × MacStep
  left_by d sends left = (
    record {
      phase = left.phase;
      queue = left.queue;
      deference = deference_step d carrier sends left.starts;
      attempts = left.attempts;
      draws = if left.draws then after draws else draws;
    },
    record { out = left.out; note = left.note },
  )

  -- a tick that only counts
  record Goes (phase next : Phase) (d d_next : Deference) : Type 0 where
    pub sends : is_sending phase ≡ false
    pub row : row_in phase d ≡ row next q attempts Nothing NoNote
    pub phase_stays : phase_uncounted next ≡ phase_uncounted phase
    pub deference : deference_step d carrier false false ≡ d_next
    pub deference_stays : deference_uncounted d_next ≡ deference_uncounted d

  goes_step : (phase next : Phase) (d d_next : Deference) → Goes phase next d d_next
      → mac_step answer after (mac_of phase d) carrier collision ≡ (mac_of next d_next, record { out = Nothing; note = NoNote })
  goes_step phase next d d_next g =
      let told : Deference → MacState D × MacStep = λ x. (mac_of next x, record { out = Nothing; note = NoNote }) in
      ap (left_by d (is_sending phase)) g.row
      ∙ (ap (λ (sends : Bool). left_by d sends (row next q attempts Nothing NoNote)) g.sends
      ∙ ap told g.deference)

  goes_calm : (phase next : Phase) (d d_next : Deference) → Goes phase next d d_next → Calm (mac_of phase d)
  goes_calm phase next d d_next g =
      let e = goes_step phase next d d_next g in (
        ap (λ (r : MacState D × MacStep). r.1.out) e,
        ap (λ (r : MacState D × MacStep). r.1.note) e,
        ap (λ (r : MacState D × MacStep). mac_uncounted r.0) e
            ∙ (ap (λ (x : Phase). mac_of x (deference_uncounted d_next)) g.phase_stays ∙ ap (mac_of (phase_uncounted phase)) g.deference_stays),
      )

  goes_on : (phase next : Phase) (d d_next : Deference) → Goes phase next d d_next → step (mac_of phase d) ≡ mac_of next d_next
  goes_on phase next d d_next g = ap (λ (r : MacState D × MacStep). r.0) (goes_step phase next d d_next g)

  acts_not_calm : (phase : Phase) (d : Deference) → Acts q attempts phase (row_in phase d) → Calm (mac_of phase d) → ⊥
  acts_not_calm phase d acts_here calm = acts_here calm.0 (ap (λ m. m.phase) calm.2)

  -- where deference ends, a state that is no sending isn't calm
  ends_not_calm : (phase : Phase) (d : Deference) → is_sending phase ≡ false → StartsWithNibble q attempts (row_in phase d) → DeferenceEnds d carrier
      → Calm (mac_of phase d) → ⊥
  ends_not_calm phase d sends starts ends_here calm =
      let same = ap (λ m. m.deference) calm.2 in
      let to : Bool → Bool → Deference = λ sending started. deference_uncounted (deference_step d carrier sending started) in
      ends_here (ap (to false) (sym (starts calm.0)) ∙ (ap (λ (sending : Bool). to sending (row_in phase d).starts) (sym sends) ∙ same))

  module _ (d : Deference) (most : ℕ) where
    abbrev mac_path_of : Phase → ℕ → MacState D
    mac_path_of phase k = mac_of (phase_passed phase k) (deference_passed d k)

    abbrev Path : Phase → ℕ → Type 0
    Path phase n = IsCalmPath step Calm (mac_path_of phase) most n

    acting : (phase : Phase) → (Calm (mac_path_of phase 0) → ⊥) → Path phase 0
    acting phase act = record {
      within = omega arith;
      calm = λ k below. absurd (omega arith);
      next = λ k below. absurd (omega arith);
      ends = λ below. act;
    }

    going : (phase : Phase) (n : ℕ) → n ≤ most
        → ((k : ℕ) → k < n → Goes (phase_passed phase k) (phase_passed phase (suc k)) (deference_passed d k) (deference_passed d (suc k)))
        → (n < most → Calm (mac_path_of phase n) → ⊥) → Path phase n
    going phase n within goes ends_here = record {
      within = within;
      calm = λ k below. goes_calm (phase_passed phase k) (phase_passed phase (suc k)) (deference_passed d k) (deference_passed d (suc k)) (goes k below);
      next = λ k below. goes_on (phase_passed phase k) (phase_passed phase (suc k)) (deference_passed d k) (deference_passed d (suc k)) (goes k below);
      ends = ends_here;
    }

    lasts_within : (bound : ℕ) → bound ≤ most → deference_lasts d carrier bound ≤ most
    lasts_within bound le = deference_within d carrier bound most le

    resting_path : nat_lt 0 (length q.frames) ≡ false → Path Resting (deference_lasts d carrier most)
    resting_path none = going Resting (deference_lasts d carrier most) (lasts_within most (omega arith))
        (λ k below. let along = deference_goes d carrier most k below in
        record { sends = refl; row = rw none refl; phase_stays = refl; deference = along.0; deference_stays = along.2 })
        (λ below. elim (deference_ends d carrier most) [
          | inl whole ↦ absurd (omega arith)
          | inr ends_here ↦ ends_not_calm Resting (deference_passed d (deference_lasts d carrier most)) refl
              (resting_starts q attempts (may_start (deference_passed d (deference_lasts d carrier most)) carrier)) ends_here
        ])

    waiting_path : (left : ℕ) → Path (Waiting left) (deference_lasts d carrier (min left most))
    waiting_path left = going (Waiting left) n (lasts_within (min left most) (omega arith))
        (λ k below. let along = deference_goes d carrier (min left most) k below in
        let counts : k < left = omega arith in
        record { sends = refl; row = waits k counts; phase_stays = refl; deference = along.0; deference_stays = along.2 })
        (λ below. elim (deference_ends d carrier (min left most)) [
          | inl whole ↦
              let over : left - n ≡ 0 = omega arith in
              rw over (acts_not_calm (Waiting 0) (deference_passed d n) (waiting_acts q attempts (may_start (deference_passed d n) carrier)))
          | inr ends_here ↦ ends_not_calm (Waiting (left - n)) (deference_passed d n) refl
              (waiting_starts q attempts (left - n) (may_start (deference_passed d n) carrier)) ends_here
        ])
      where
        n : ℕ
        n = deference_lasts d carrier (min left most)

        waits : (k : ℕ) → k < left → row_in (Waiting (left - k)) (deference_passed d k) ≡ row (Waiting (left - suc k)) q attempts Nothing NoNote
        waits k below = rw (ne_eqb (left - k) 0 (λ e. omega arith)) (ap (λ (m : ℕ). row (Waiting m) q attempts Nothing NoNote) (omega arith))

    deferring_path : Path Deferring (deferring_lasts d carrier most)
    deferring_path = going Deferring (deferring_lasts d carrier most) (deferring_within d carrier most)
        (λ k below.
        let waits = deferring_goes d carrier most k below in
        let along = deference_goes d carrier most k waits.1 in
        record { sends = refl; row = ap (deferring q attempts) waits.0; phase_stays = refl; deference = along.0; deference_stays = along.2 })
        (λ below calm. elim (deferring_ends d carrier most below) [
          | inl starts ↦ acts_not_calm Deferring (deference_passed d (deferring_lasts d carrier most))
              (subst (λ may. Acts q attempts Deferring (deferring q attempts may)) (sym starts) (starting_acts q attempts)) calm
          | inr ends_here ↦ ends_not_calm Deferring (deference_passed d (deferring_lasts d carrier most)) refl
              (deferring_starts q attempts (may_start (deference_passed d (deferring_lasts d carrier most)) carrier)) ends_here calm
        ])

    -- a MAC is calm along the path of its counts
    pub mac_path : (phase : Phase) → Path phase (calm_ticks phase q d carrier most)
    mac_path Resting = cond_both (nat_lt 0 (length q.frames)) _ _ (Path Resting)
        (λ some. acting Resting (acts_not_calm Resting (deference_passed d 0) (resting_acts q attempts (may_start (deference_passed d 0) carrier) some)))
        resting_path
    mac_path Deferring = deferring_path
    mac_path (Waiting left) = waiting_path left
    mac_path (Sending nibble quarter collided) = acting (Sending nibble quarter collided)
        (acts_not_calm (Sending nibble quarter collided) (deference_passed d 0) (sending_acts q attempts nibble quarter collided (collided || collision)))
    mac_path (Jamming nibble quarter) = acting (Jamming nibble quarter)
        (acts_not_calm (Jamming nibble quarter) (deference_passed d 0) (jamming_acts q attempts nibble quarter (answer draws (attempts + 1))))

deference_zero : (d : Deference) → deference_passed d 0 ≡ d
deference_zero Free = refl
deference_zero Busy = refl
deference_zero (Gap left) = ap Gap (omega arith)

phase_zero : (phase : Phase) → phase_passed phase 0 ≡ phase
phase_zero Resting = refl
phase_zero Deferring = refl
phase_zero (Waiting left) = ap Waiting (omega arith)
phase_zero (Sending nibble quarter collided) = refl
phase_zero (Jamming nibble quarter) = refl

-- a MAC after n calm ticks
module _ {D : Type 0} where
  abbrev pub mac_passed : MacState D → ℕ → MacState D
  mac_passed m n = record m { phase = phase_passed m.phase n; deference = deference_passed m.deference n }

  mac_zero : (m : MacState D) → mac_passed m 0 ≡ m
  mac_zero m =
      ap (λ (phase : Phase). record m { phase = phase; deference = deference_passed m.deference 0 }) (phase_zero m.phase)
      ∙ ap (λ (d : Deference). record m { deference = d }) (deference_zero m.deference)

  module _ (answer : D → ℕ → ℕ) (after : D → D) (carrier collision : Bool) (m : MacState D) where
    abbrev ticks : ℕ → ℕ
    ticks most = calm_ticks m.phase m.queue m.deference carrier most

    path : (most : ℕ) → IsCalmPath (mac_after answer after carrier collision) (IsCalmMac answer after carrier collision) (mac_passed m) most (ticks most)
    path most = mac_path answer after carrier collision m.queue m.attempts m.draws m.deference most m.phase

    pub mac_calm_for : (most : ℕ) → IsCalmFor (mac_after answer after carrier collision) (IsCalmMac answer after carrier collision) m most (ticks most)
    mac_calm_for most =
        subst (λ (x : MacState D). IsCalmFor (mac_after answer after carrier collision) (IsCalmMac answer after carrier collision) x most (ticks most)) (mac_zero m)
        (path_calm_for (mac_after answer after carrier collision) (IsCalmMac answer after carrier collision) (mac_passed m) most (ticks most) (path most))

    module _ (n : ℕ) (all : AreCalm (mac_after answer after carrier collision) (IsCalmMac answer after carrier collision) m n) where
      from_path : AreCalm (mac_after answer after carrier collision) (IsCalmMac answer after carrier collision) (mac_passed m 0) n
      from_path = subst (λ (x : MacState D). AreCalm (mac_after answer after carrier collision) (IsCalmMac answer after carrier collision) x n) (sym (mac_zero m)) all

      pub mac_calm_ticks : n ≤ ticks n
      mac_calm_ticks = path_whole (mac_after answer after carrier collision) (IsCalmMac answer after carrier collision) (mac_passed m) n (ticks n) (path n) from_path

      pub mac_pass : mac_passed m n ≡ iterate (mac_after answer after carrier collision) n m
      mac_pass = sym (subst (λ (x : MacState D). iterate (mac_after answer after carrier collision) n x ≡ mac_passed m n) (mac_zero m)
          (calm_steps_pass (mac_after answer after carrier collision) (IsCalmMac answer after carrier collision) (mac_passed m) n (ticks n) (path n) from_path))

deference_least : (d : Deference) (carrier : Bool) (bound most : ℕ) → bound ≤ most → deference_lasts d carrier bound ≤ deference_lasts d carrier most
deference_least Free true bound most le = omega arith
deference_least Free false bound most le = le
deference_least Busy true bound most le = le
deference_least Busy false bound most le = omega arith
deference_least (Gap left) carrier bound most le = omega arith

deferring_least : (d : Deference) (carrier : Bool) (most : ℕ) → deferring_lasts d carrier most ≤ deference_lasts d carrier most
deferring_least Free carrier most = omega arith
deferring_least Busy carrier most = omega arith
deferring_least (Gap left) carrier most = omega arith

-- what n calm ticks ask of deference and of a backoff
pub calm_deference : (phase : Phase) (q : Queue) (d : Deference) (carrier : Bool) (n : ℕ) → n ≤ calm_ticks phase q d carrier n → n ≤ deference_lasts d carrier n
calm_deference Resting q d carrier n le =
    cond_both (nat_lt 0 (length q.frames)) _ _ (λ (x : ℕ). n ≤ x → n ≤ deference_lasts d carrier n) (λ _ none. omega arith) (λ _ all. all) le
calm_deference Deferring q d carrier n le = omega (arith, deferring_least d carrier n)
calm_deference (Waiting left) q d carrier n le = omega (arith, deference_least d carrier (min left n) n (omega arith))
calm_deference (Sending nibble quarter collided) q d carrier n le = omega arith
calm_deference (Jamming nibble quarter) q d carrier n le = omega arith

pub calm_backoff : (phase : Phase) (q : Queue) (d : Deference) (carrier : Bool) (n : ℕ) → n ≤ calm_ticks phase q d carrier n → HasTicks phase n
calm_backoff Resting q d carrier n le = tt
calm_backoff Deferring q d carrier n le = tt
calm_backoff (Waiting left) q d carrier n le = omega (arith, deference_within d carrier (min left n) left (omega arith))
calm_backoff (Sending nibble quarter collided) q d carrier n le = tt
calm_backoff (Jamming nibble quarter) q d carrier n le = tt
