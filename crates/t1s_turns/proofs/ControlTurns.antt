-- The drive phase of one tick over waves: from control as the tick finds it to what the phase comes to.
use Rattle.std.proofs.Common.{◌≡◌, ℕ, ◌+◌, ◌-◌, ◌*◌, ◌==◌, ◌<◌, ◌≤◌, max, inl, inr, Bool, true, false, ◌&&◌, nat_lt, List, [], ◌∷◌, length, Option, None, refl, sym, ◌∙◌, ap, subst, arith}
use Rattle.std.proofs.lemmas.Bool.{cases_lt, cases_eq, cond_both, false≢true}
use Rattle.std.proofs.lemmas.Bool.Decides.{nat_tests}
use Rattle.t1s_symbols.specs.declared.Class.{Class}
use Rattle.t1s_symbols.specs.declared.Class.TheVariants.{None as Unread, Beacon as BeaconHeard, Run as RunHeard, Other as OtherHeard}
use Rattle.t1s_symbols.specs.declared.Quarter.{Quarter}
use Rattle.t1s_pcs_rx.specs.declared.reader.Burst.{Burst}
use Rattle.t1s_pcs_tx.specs.declared.TxCmd.{TxCmd}
use Rattle.t1s_pcs_tx.specs.declared.TxCmd.TheVariants.{None as NoCmd, Beacon as BeaconCmd, Commit as CommitCmd}
use Rattle.t1s_pcs_tx.specs.State.{Stage, Quiet, Beaconing, is_closed}
use Rattle.t1s_pcs_tx.specs.TransmitTable.{TxTurn}
use Rattle.plca_control.specs.declared.ControlSet.{ControlSet}
use Rattle.plca_control.specs.declared.ControlIn.{ControlIn}
use Rattle.plca_control.specs.declared.State.{State}
use Rattle.plca_control.specs.declared.State.TheVariants.{Recover, Resync, Early, Beacon, Syncing, Commit, Transmit, Burst as Pause}
use Rattle.plca_control.specs.ControlTable.{mine, control_row, reach, is_beacon, is_own, is_active, is_closed_good}
use Rattle.t1s_node.specs.declared.carrier.Carrier.{Carrier}
use Rattle.t1s_node.proofs.OwnDrives.{drives_first}
use Rattle.t1s_world.specs.Waves.{CycleSettings, IsCycleSettings, Wave, Behind, AreBehind, IsWave, EachWave, OldestWave, IsFirstBeacon, IsAlive, arrived, seen, lag, opportunity_start, reads_beacon}
use Rattle.t1s_world.proofs.Opportunities.{opportunity_first}
use Rattle.t1s_world.proofs.SeenWaves.{NewestArrived, is_seen, still_rises, standing, head_is, behind_arrived, none_before, risen_seen, own_seen}
use Rattle.t1s_turns.specs.CarrierOverWaves.{CarrierOverWaves, silent, missed, rising, steady, fading, faded, short}
use Rattle.t1s_turns.specs.ReceiverOverWaves.{ReceiverOverWaves, silent as none_heard, unheard, reads_first, known as heard_known, past as heard_past, late as heard_late}
use Rattle.t1s_turns.specs.ControlOverWaves.{WaitingControl, listens, fades, syncs, counts, WasThere, from_start, from_within, NoOwnWave, ControlOverWaves, recovers, waits_for_beacon, hears_first_wave, owns_beacon, owns_run, waits}
use Rattle.t1s_turns.specs.DriveOverWaves.{IsQuiet, Lapses}
use Rattle.t1s_turns.proofs.ControlSteps.{NextControl, goes_on, newer, sleeps_in, starts_beacon, starts_commit, from_reach, reached}
use Rattle.t1s_turns.proofs.DriveTurns.{DriveTurn, recovers_on, has_recovered, waits_on_for_beacon, hears_on, beacon_goes_on, beacon_ends, waits_on, catches, begins_beacon, begins_run}
use Rattle.t1s_turns.proofs.RunTurns.{SendsRun, RunPlace, run_turn, first_quarter, sends_own}
use Rattle.t1s_turns.proofs.NewestWave.{seen_wave, knows_of, never_asleep, none_read}
use Rattle.t1s_turns.proofs.ShownCarrier.{still_off}
use Rattle.t1s_turns.proofs.TransmitterTurns.{TurnIs, beacon_quarter, turn_of, stays_quiet, begins_beacon as beacon_begins, beacon_lasts, beacon_repeats, beacon_stops}
use Rattle.t1s_turns.proofs.WaitingSteps.{NewestSeen, turn_next}

-- ---- what carrier and class say of the waves

-- where none has come, carrier is off
off_before : (n : CycleSettings) (begin t : ℕ) (xs : List Wave) (c : Carrier) → xs ≡ [] → CarrierOverWaves n begin t xs c → c.on ≡ false
off_before n begin t _ _ e silent = refl
off_before n begin t _ _ e (missed gone) = refl
off_before n begin t _ _ e (rising within at few) = refl
off_before n begin t _ _ e (steady within long) = absurd (cc)
off_before n begin t _ _ e (fading long at some few) = absurd (cc)
off_before n begin t _ _ e (faded gone) = refl
off_before n begin t _ _ e (short few gone) = refl

-- carrier that is on is that of the newest wave
record CarrierOn (n : CycleSettings) (begin t : ℕ) (xs : List Wave) : Type 0 where
  w : Wave
  rest : List Wave
  at : xs ≡ w ∷ rest
  rose : max begin w.from + n.rise ≤ t
  long : max begin w.from + n.rise ≤ w.till
  within : t < w.till + n.fall

carrier_on : (n : CycleSettings) → 1 ≤ n.fall → (begin t : ℕ) (xs : List Wave) (c : Carrier) → c.on ≡ true → CarrierOverWaves n begin t xs c → CarrierOn n begin t xs
carrier_on n some begin t _ _ e silent = absurd (false≢true e)
carrier_on n some begin t _ _ e (missed gone) = absurd (false≢true e)
carrier_on n some begin t _ _ e (rising within at few) = absurd (false≢true e)
carrier_on n some begin t _ _ e (steady {w = w} {ws = ws} within long) =
    record { w = w; rest = ws; at = refl; rose = long; long = omega (arith, long, within); within = omega (arith, within, some) }
carrier_on n some begin t _ _ e (fading {w = w} {ws = ws} {m = m} long at least few) =
    record { w = w; rest = ws; at = refl; rose = omega (arith, long, at); long = long; within = omega (arith, at, few) }
carrier_on n some begin t _ _ e (faded gone) = absurd (false≢true e)
carrier_on n some begin t _ _ e (short few gone) = absurd (false≢true e)

-- carrier that was on for a wave and is off has fallen behind it
has_fallen : (n : CycleSettings) (begin t : ℕ) (w : Wave) (rest xs : List Wave) (c : Carrier) → xs ≡ w ∷ rest → max begin w.from + n.rise < t → max begin w.from + n.rise ≤ w.till → 1 ≤ n.rise → c.on ≡ false
    → CarrierOverWaves n begin t xs c → w.till + n.fall ≤ t
has_fallen n begin t w rest _ _ e rose long some quiet silent = absurd (cc)
has_fallen n begin t w rest _ _ e rose long some quiet (missed {w = v} {ws = vs} gone) =
    let till = ap (λ (x : Wave). x.till) (head_is v w vs rest e).0 in absurd (omega (arith, till, gone, long, some))
has_fallen n begin t w rest _ _ e rose long some quiet (rising {w = v} {ws = vs} within at few) =
    let from = ap (λ (x : Wave). x.from) (head_is v w vs rest e).0 in absurd (omega (arith, from, at, few, rose))
has_fallen n begin t w rest _ _ e rose long some quiet (steady within far) = absurd (false≢true (sym quiet))
has_fallen n begin t w rest _ _ e rose long some quiet (fading far at least few) = absurd (false≢true (sym quiet))
has_fallen n begin t w rest _ _ e rose long some quiet (faded {w = v} {ws = vs} gone) =
    let till = ap (λ (x : Wave). x.till) (head_is v w vs rest e).0 in omega (arith, till, gone)
has_fallen n begin t w rest _ _ e rose long some quiet (short {w = v} {ws = vs} few gone) =
    let same = (head_is v w vs rest e).0 in
    let from = ap (λ (x : Wave). x.from) same in
    let till = ap (λ (x : Wave). x.till) same in
    absurd (omega (arith, from, till, few, long))

is_beacon_only : (class : Class) → is_beacon class ≡ true → class ≡ BeaconHeard
is_beacon_only BeaconHeard e = refl
is_beacon_only Unread e = absurd (false≢true e)
is_beacon_only RunHeard e = absurd (false≢true e)
is_beacon_only OtherHeard e = absurd (false≢true e)

-- the class Beacon behind a wave says that it is read as a beacon
class_sound : (n : CycleSettings) (begin t : ℕ) (w : Wave) (rest xs : List Wave) (class : Class) (burst : Burst) → xs ≡ w ∷ rest → begin < w.till → w.till < t → is_beacon class ≡ true
    → ReceiverOverWaves n begin t xs class burst → reads_beacon w ≡ true
class_sound n begin t w rest _ _ _ e there over flag none_heard = absurd (false≢true flag)
class_sound n begin t w rest _ _ _ e there over flag (unheard x) = absurd (false≢true flag)
class_sound n begin t w rest _ _ _ e there over flag (reads_first other after at few in_time f) = absurd (false≢true flag)
class_sound n begin t w rest _ _ _ e there over flag (heard_known {w = v} {ws = vs} other after long within settled) =
    let till = ap (λ (x : Wave). x.till) (head_is v w vs rest e).0 in absurd (omega (arith, till, within, over))
class_sound n begin t w rest _ class _ e there over flag (heard_past {w = v} {ws = vs} other gone whole sound) =
    ap reads_beacon (sym (head_is v w vs rest e).0) ∙ sound (is_beacon_only class flag)
class_sound n begin t w rest _ _ _ e there over flag (heard_late {w = v} {ws = vs} other before within on x) =
    let till = ap (λ (x : Wave). x.till) (head_is v w vs rest e).0 in absurd (omega (arith, till, within, over))

no_loop : (v w : Wave) (rest : List Wave) → w ∷ rest ≡ v ∷ w ∷ rest → ⊥
no_loop v w rest e = let lengths = ap (λ (xs : List Wave). length xs) e in absurd (omega (arith, lengths))

-- ---- the drive phase

module _ (s : ControlSet) (n : CycleSettings) (is : IsCycleSettings n) (same_owns : (x : ℕ) → n.owns x ≡ mine s x) (same_count : s.count ≡ n.count) (same_to : s.to ≡ n.to)
    (begin t now : ℕ) (soon : t ≤ now) (ws : List Wave) (behind : AreBehind n ws) (each : EachWave (IsWave n now) ws)
    (first : n.owns 0 ≡ true → OldestWave (IsFirstBeacon n begin) ws) (alive : IsAlive n now ws)
    (i : ControlIn) (c : Carrier) (burst : Burst) (shown : i.crs ≡ c.on) (carrier : CarrierOverWaves n begin t (arrived t ws) c) (receiver : ReceiverOverWaves n begin t (arrived t ws) i.class burst)
    (part : ℕ) (past : List Bool) (ended bad : Bool) (line : List ℕ) where
  abbrev Comes : State → Stage → ℕ → Option Quarter → Type 0
  Comes st stage p q = DriveTurn SendsRun n begin t ws i.ready st stage p q

  -- what a row of control comes to with the transmitter in this stage
  abbrev TurnTo : Stage → State × TxCmd → Type 0
  TurnTo stage next =
      let turn : TxTurn = turn_of part past ended bad line stage next.1 in
      Comes next.0 turn.state.stage turn.state.part turn.driven

  by_turn : (st : State) (turn : TxTurn) (stage : Stage) (p : ℕ) (q : Option Quarter) → TurnIs turn stage p q → Comes st stage p q → Comes st turn.state.stage turn.state.part turn.driven
  by_turn st turn stage p q is_so x =
      subst (λ (y : Option Quarter). Comes st turn.state.stage turn.state.part y) (sym is_so.driven_is)
      (subst (λ (m : ℕ). Comes st turn.state.stage m q) (sym is_so.part_is)
      (subst (λ (g : Stage). Comes st g p q) (sym is_so.stage_is) x))

  by_row : (stage : Stage) (row next : State × TxCmd) → row ≡ next → TurnTo stage next → TurnTo stage row
  by_row stage row next e x = subst (λ (y : State × TxCmd). TurnTo stage y) (sym e) x

  quiet_to : (st : State) → Comes st Quiet 0 None → TurnTo Quiet (st, NoCmd)
  quiet_to st x = by_turn st (turn_of part past ended bad line Quiet NoCmd) Quiet 0 None (stays_quiet part past ended bad line) x

  beacon_to : (st : State) → Comes st Beaconing 0 (beacon_quarter 0) → TurnTo Quiet (st, BeaconCmd)
  beacon_to st x = by_turn st (turn_of part past ended bad line Quiet BeaconCmd) Beaconing 0 (beacon_quarter 0) (beacon_begins part past ended bad line) x

  -- ---- before a node takes part

  oldest_from : (xs : List Wave) → OldestWave (IsFirstBeacon n begin) xs → OldestWave (λ (x : Wave). x.from ≡ begin + 258 * n.to) xs
  oldest_from [] o = tt
  oldest_from (x ∷ []) o = o.from
  oldest_from (x ∷ y ∷ xs) o = oldest_from (y ∷ xs) o

  none_come : arrived t ws ≡ [] → NoOwnWave begin t ws
  none_come nothing w rest e own from = let none : [] ≡ w ∷ rest = sym nothing ∙ e in absurd (cc)

  -- nothing is due where no frame is ready and no wave is the node's own
  unready : i.ready ≡ false → n.owns 0 ≡ false → NoOwnWave begin t ws → IsQuiet n begin t ws i.ready
  unready idle zero none = record {
    own_over = λ w rest e own from. absurd (none w rest e own from);
    lapses = λ a rest x begins. record { own = λ mine. idle; coordinator = λ coord. absurd (false≢true (sym zero ∙ coord)) };
    recovers = λ coord at. absurd (false≢true (sym zero ∙ coord));
  }

  -- where no wave has come none is seen
  none_seen : arrived t ws ≡ [] → (a : Wave) (rest : List Wave) → seen n t ws ≡ a ∷ rest → ⊥
  none_seen nothing a rest e = go (standing n is t ws a rest behind e)
    where
      go : NewestArrived n t ws a rest → ⊥
      go (is_seen at gone_by) = let none : [] ≡ a ∷ rest = sym nothing ∙ at in absurd (cc)
      go (still_rises w at theirs come soon_on late) = let none : [] ≡ w ∷ a ∷ rest = sym nothing ∙ at in absurd (cc)

  -- up to the tick in which a coordinator has recovered none has come
  none_at_first : n.owns 0 ≡ true → t ≤ begin + 258 * n.to → arrived t ws ≡ []
  none_at_first zero at = none_before n (begin + 258 * n.to) t ws behind (oldest_from ws (first zero)) at

  unrecovered : arrived t ws ≡ [] → t < begin + 258 * n.to → IsQuiet n begin t ws i.ready
  unrecovered nothing before = record {
    own_over = λ w rest e own from. absurd (none_come nothing w rest e own from);
    lapses = λ a rest x begins. absurd (none_seen nothing a rest begins.newest);
    recovers = λ coord at. absurd (omega (arith, at, before));
  }

  recovering : (q : ℕ) → i.ready ≡ false → n.owns 0 ≡ true → begin + q ≡ t → q ≤ 258 * n.to → TurnTo Quiet (control_row s (Recover q) i)
  recovering q idle zero at low =
      let nothing : arrived t ws ≡ [] = none_before n (begin + 258 * n.to) t ws behind (oldest_from ws (first zero)) (omega (arith, at, low)) in
      let off : i.crs ≡ false = shown ∙ off_before n begin t (arrived t ws) c nothing carrier in
      elim (cases_eq q (258 * s.to)) [
        | inl equal ↦
            let b : (q == 258 * s.to) ≡ true = grind (arith, nat_tests, equal) in
            by_row Quiet (control_row s (Recover q) i) (Beacon 20, BeaconCmd) (rw (off, b) refl) (beacon_to (Beacon 20) (has_recovered zero (omega (arith, at, equal, same_to))))
        | inr other ↦
            let b : (q == 258 * s.to) ≡ false = grind (arith, nat_tests, other) in
            by_row Quiet (control_row s (Recover q) i) (Recover (q + 1), NoCmd) (rw (off, b) refl) (quiet_to (Recover (q + 1)) (recovers_on zero at (omega (arith, low, other, same_to)) (unrecovered nothing (omega (arith, at, low, other, same_to)))))
      ]

  -- carrier is on: the node hears a wave, and waits for what it says
  hearing : i.ready ≡ false → n.owns 0 ≡ false → NoOwnWave begin t ws → i.crs ≡ true → Comes Early Quiet 0 None
  hearing idle zero none on =
      let h = carrier_on n is.fall_low begin t (arrived t ws) c (sym shown ∙ on) carrier in
      hears_on h.w h.rest zero none h.at h.rose h.long h.within (unready idle zero none)

  waiting_for_beacon : (b : Bool) → i.crs ≡ b → i.ready ≡ false → n.owns 0 ≡ false → NoOwnWave begin t ws → TurnTo Quiet (control_row s Resync i)
  waiting_for_beacon true e idle zero none = by_row Quiet (control_row s Resync i) (Early, NoCmd) (rw e refl) (quiet_to Early (hearing idle zero none e))
  waiting_for_beacon false e idle zero none = by_row Quiet (control_row s Resync i) (Resync, NoCmd) (rw e refl) (quiet_to Resync (waits_on_for_beacon zero none (unready idle zero none)))

  -- ---- where a node takes part and does not drive

  -- no newer wave has risen
  none_risen : (a : Wave) (rest : List Wave) → seen n t ws ≡ a ∷ rest → WasThere n begin t a → i.crs ≡ false → (v : Wave) → arrived t ws ≡ v ∷ a ∷ rest → t < v.from + n.rise
  none_risen a rest newest there off v e =
      let knows = knows_of n is begin t now soon ws behind each a rest newest there in
      go knows (standing n is t ws a rest behind newest)
    where
      go : NewestSeen n begin t ws a rest → NewestArrived n t ws a rest → t < v.from + n.rise
      go knows (is_seen at gone_by) = absurd (no_loop v a rest (sym at ∙ e))
      go knows (still_rises w at other come late b) =
          let same = (head_is w v (a ∷ rest) (a ∷ rest) (sym at ∙ e)).0 in
          let from = ap (λ (x : Wave). x.from) same in
          still_off n is t begin a rest knows.there v (arrived t ws) c e (knows.coming v e) (subst (λ (x : Wave). Behind n a x) same b) (sym shown ∙ off) (omega (arith, come, from)) carrier

  -- none has come at all while carrier still fades
  none_fading : (a : Wave) (rest : List Wave) → t < a.till + n.fall → (v : Wave) → arrived t ws ≡ v ∷ a ∷ rest → t < v.from + n.rise
  none_fading a rest before v e =
      let pair = subst (λ (xs : List Wave). AreBehind n xs) e (behind_arrived n t ws behind) in
      omega (arith, before, pair.1.gap)

  there_next : (a : Wave) → WasThere n begin t a → WasThere n begin (t + 1) a
  there_next a (from_start from) = from_start from
  there_next a (from_within over long) = from_within (omega (arith, over)) long

  -- behind the newest wave nothing is due
  quietly : (a : Wave) (rest : List Wave) → seen n t ws ≡ a ∷ rest → (a.own ≡ true → a.till < t) → ((x : ℕ) → a.next ≤ x → t ≡ opportunity_start n a x → Lapses n i.ready x)
      → IsQuiet n begin t ws i.ready
  quietly a rest newest over passes = record {
    own_over = λ w others e own from. own_ended w others (own_seen n is t ws w others behind e own) own;
    lapses = λ b others x begins. passed b others x (sym begins.newest ∙ newest) begins.order begins.now;
    recovers = λ zero at. none_seen (none_at_first zero (omega (arith, at))) a rest newest;
  }
    where
      own_ended : (w : Wave) (others : List Wave) → seen n t ws ≡ w ∷ others → w.own ≡ true → w.till < t
      own_ended w others e own =
          let head = (head_is w a others rest (sym e ∙ newest)).0 in
          let mine : a.own ≡ true = ap (λ (x : Wave). x.own) (sym head) ∙ own in
          omega (arith, over mine, ap (λ (x : Wave). x.till) head)

      passed : (b : Wave) (others : List Wave) (x : ℕ) → b ∷ others ≡ a ∷ rest → b.next ≤ x → t ≡ opportunity_start n b x → Lapses n i.ready x
      passed b others x e order now =
          let head = (head_is b a others rest e).0 in
          passes x (omega (arith, order, ap (λ (y : Wave). y.next) head)) (now ∙ ap (λ (y : Wave). opportunity_start n y x) head)

  -- nor where a newer one is caught
  caught_quietly : (w a : Wave) (rest others : List Wave) → seen n t ws ≡ a ∷ rest → arrived t ws ≡ w ∷ a ∷ others → w.own ≡ false → t ≡ w.from + n.rise → IsQuiet n begin t ws i.ready
  caught_quietly w a rest others newest at other at_rise = record {
    own_over = λ v vs e own from. absurd (not_own v vs e own);
    lapses = λ b bs x begins. absurd (not_caught b bs begins.newest begins.none_risen);
    recovers = λ zero now_at. none_seen (none_at_first zero (omega (arith, now_at))) a rest newest;
  }
    where
      not_own : (v : Wave) (vs : List Wave) → arrived t ws ≡ v ∷ vs → v.own ≡ true → ⊥
      not_own v vs e own =
          let head = (head_is w v (a ∷ others) vs (sym at ∙ e)).0 in
          absurd (false≢true (sym other ∙ (ap (λ (x : Wave). x.own) head ∙ own)))

      by_standing : (b : Wave) (bs : List Wave) → NewestArrived n t ws b bs → ((v : Wave) → arrived t ws ≡ v ∷ b ∷ bs → t < v.from + n.rise) → ⊥
      by_standing b bs (is_seen e past) none =
          let head = (head_is w b (a ∷ others) bs (sym at ∙ e)).0 in
          let theirs : b.own ≡ false = ap (λ (x : Wave). x.own) (sym head) ∙ other in
          let late : lag n b ≡ n.rise = rw theirs refl in
          absurd (omega (arith, past, late, at_rise, ap (λ (x : Wave). x.from) head))
      by_standing b bs (still_rises v e theirs come soon_on late) none =
          let head = (head_is w v (a ∷ others) (b ∷ bs) (sym at ∙ e)).0 in
          let before = none v e in
          absurd (omega (arith, before, at_rise, ap (λ (x : Wave). x.from) head))

      not_caught : (b : Wave) (bs : List Wave) → seen n t ws ≡ b ∷ bs → ((v : Wave) → arrived t ws ≡ v ∷ b ∷ bs → t < v.from + n.rise) → ⊥
      not_caught b bs e none = by_standing b bs (standing n is t ws b bs behind e) none

  -- by what control comes to
  next_to : (crs : Bool) (a : Wave) (rest : List Wave) (next : State × TxCmd) → seen n t ws ≡ a ∷ rest → begin < a.till → WasThere n begin (t + 1) a → (a.own ≡ true → a.till < t)
      → (crs ≡ false → (v : Wave) → arrived t ws ≡ v ∷ a ∷ rest → t < v.from + n.rise)
      → NextControl s n is same_owns same_count same_to t (arrived t ws) a i.ready crs next → TurnTo Quiet next
  next_to crs a rest _ newest known there over none (goes_on {st = st} (inl off) passes state) =
      quiet_to st (waits_on a rest newest there (none off) state (quietly a rest newest over passes))
  next_to crs a rest _ newest known there over none (goes_on {st = st} (inr before) passes state) =
      quiet_to st (waits_on a rest newest there (none_fading a rest before) state (quietly a rest newest over passes))
  next_to _ a rest _ newest known there over none (newer {st = st} w others e other at state) = quiet_to st (catches w a others e known at state (caught_quietly w a rest others newest e other at))
  next_to _ a rest _ newest known there over none (sleeps_in follower at) = absurd (never_asleep n is begin t now soon ws behind each a rest newest alive (none refl) at)
  next_to _ a rest _ newest known there over none (starts_beacon zero at order) =
      beacon_to (Beacon 20) (begins_beacon a rest (record { newest = newest; order = order; now = at; none_risen = none refl }) zero)
  next_to _ a rest _ newest known there over none (starts_commit x own at order ready) =
      let turn = turn_of part past ended bad line Quiet CommitCmd in
      subst (λ (y : Option Quarter). Comes (Commit x 288 s.burst) turn.state.stage turn.state.part y) (sym (first_quarter part past ended bad line))
      (begins_run a rest x (record { newest = newest; order = order; now = at; none_risen = none refl }) own ready (record { id = refl; driving = drives_first part past ended bad line }))

  -- an own wave behind which a node waits has ended
  waiting_over : (a : Wave) (st : State) → WaitingControl n t a st → a.own ≡ true → a.till < t
  waiting_over a _ (listens other within) own = absurd (false≢true (sym other ∙ own))
  waiting_over a _ (fades mine flag place over within) own = over
  waiting_over a _ (syncs mine read over within) own = over
  waiting_over a _ (counts k m after at some most order low coordinator) own = omega (arith, after)

  waiting : (a : Wave) (rest : List Wave) (st : State) → seen n t ws ≡ a ∷ rest → WasThere n begin t a → WaitingControl n t a st → TurnTo Quiet (control_row s st i)
  waiting a rest st newest there state =
      let knows = knows_of n is begin t now soon ws behind each a rest newest there in
      let wave = seen_wave n is begin t now soon ws behind each a rest newest in
      next_to c.on a rest (control_row s st i) newest knows.there (there_next a there) (waiting_over a st state) (λ off. none_risen a rest newest there (shown ∙ off))
      (turn_next n is begin t ws behind a rest knows s same_owns same_count same_to i c burst shown carrier receiver (none_read n now a wave) (λ over. wave.next (omega (arith, over, soon))) st state)

  -- a beacon has been read: the node begins to count
  synchronised : (w : Wave) (rest : List Wave) → n.owns 0 ≡ false → arrived t ws ≡ w ∷ rest → max begin w.from + n.rise < t → max begin w.from + n.rise ≤ w.till → t ≡ w.till + n.fall → is_beacon i.class ≡ true
      → TurnTo Quiet (reach s i.ready 0)
  synchronised w rest zero at rose long fallen flag =
      let known : begin < w.till = omega (arith, long, is.rise_low) in
      let over : w.till < t = omega (arith, fallen, is.fall_low) in
      let read = class_sound n begin t w rest (arrived t ws) i.class burst at known over flag receiver in
      let newest = risen_seen n is t ws w rest behind at (omega (arith, rose)) in
      let wave = seen_wave n is begin t now soon ws behind each w rest newest in
      let next : w.next ≡ 0 = wave.next (omega (arith, over, soon)) ∙ rw read refl in
      let begins : t ≡ opportunity_start n w 0 = fallen ∙ (sym (opportunity_first n w) ∙ ap (λ (x : ℕ). opportunity_start n w x) next) in
      next_to false w rest (reach s i.ready 0) newest known (from_within (omega (arith, fallen)) long) (λ own. over) (λ off v e. absurd (no_loop v w rest (sym at ∙ e)))
      (from_reach s n is same_owns same_count same_to t (arrived t ws) w i.ready 0 (reach s i.ready 0) begins (omega (arith, next)) (λ _. omega arith) (omega (arith, fallen))
      (reached s n is same_owns same_count same_to i.ready 0 (omega arith)))

  hearing_first : (b f : Bool) (w : Wave) (rest : List Wave) → i.crs ≡ b → is_beacon i.class ≡ f → i.ready ≡ false → n.owns 0 ≡ false → NoOwnWave begin t ws → arrived t ws ≡ w ∷ rest → max begin w.from + n.rise < t → max begin w.from + n.rise ≤ w.till
      → t ≤ w.till + n.fall → TurnTo Quiet (control_row s Early i)
  hearing_first true f w rest e flag idle zero none at rose long within = by_row Quiet (control_row s Early i) (Early, NoCmd) (rw e refl) (quiet_to Early (hearing idle zero none e))
  hearing_first false false w rest e flag idle zero none at rose long within = by_row Quiet (control_row s Early i) (Resync, NoCmd) (rw (e, flag) refl) (quiet_to Resync (waits_on_for_beacon zero none (unready idle zero none)))
  hearing_first false true w rest e flag idle zero none at rose long within =
      let fallen = has_fallen n begin t w rest (arrived t ws) c at rose long is.rise_low (sym shown ∙ e) carrier in
      by_row Quiet (control_row s Early i) (reach s i.ready 0) (rw (e, flag) refl) (synchronised w rest zero at rose long (omega (arith, within, fallen)) flag)

  -- ---- the own beacon

  beaconing : (a : Wave) (rest : List Wave) (symbols left : ℕ) → n.owns 0 ≡ true → arrived t ws ≡ a ∷ rest → a.own ≡ true → a.beacon ≡ true → begin ≤ a.from → t ≤ a.till
      → a.from + (4 * symbols + part + 1) ≡ t → part < 4 → left + (4 * symbols + part) ≡ 20 → 1 ≤ left → TurnTo Beaconing (control_row s (Beacon left) i)
  beaconing a rest symbols left zero at own flag from within time low left_is some = elim (cases_eq left 1) [
    | inl last ↦
        let b : (left == 1) ≡ true = grind (arith, nat_tests, last) in
        let full : part ≡ 3 = omega (arith, last, left_is, low) in
        by_row Beaconing (control_row s (Beacon left) i) (Syncing, NoCmd) (rw b refl)
        (by_turn Syncing (turn_of part past ended bad line Beaconing NoCmd) Quiet 0 None (beacon_stops part past ended bad line full)
        (beacon_ends a rest at own flag from within (omega (arith, time, last, left_is))))
    | inr further ↦
        let b : (left == 1) ≡ false = grind (arith, nat_tests, further) in
        by_row Beaconing (control_row s (Beacon left) i) (Beacon (left - 1), BeaconCmd) (rw b refl)
        (elim (cases_lt part 3) [
          | inl less ↦
              by_turn (Beacon (left - 1)) (turn_of part past ended bad line Beaconing BeaconCmd) Beaconing (part + 1) (beacon_quarter (part + 1)) (beacon_lasts part past ended bad line less)
              (beacon_goes_on {left = left - 1} {part = part + 1} a rest symbols zero at own flag from within (omega (arith, time)) (omega (arith, less)) (omega (arith, left_is, some)) (omega (arith, some, further)))
          | inr full ↦
              let three : part ≡ 3 = omega (arith, full, low) in
              by_turn (Beacon (left - 1)) (turn_of part past ended bad line Beaconing BeaconCmd) Beaconing 0 (beacon_quarter 0) (beacon_repeats part past ended bad line three)
              (beacon_goes_on {left = left - 1} {part = 0} a rest (symbols + 1) zero at own flag from within (omega (arith, time, three)) (omega arith) (omega (arith, left_is, some, three)) (omega (arith, some, further)))
        ])
  ]

  -- ---- every case

  pub drive_turn : (st : State) (stage : Stage) → (is_active st ≡ false → i.ready ≡ false) → ((x e : ℕ) → SendsRun x e st stage part → RunPlace i st stage part) → ControlOverWaves SendsRun n begin t ws st stage part → TurnTo stage (control_row s st i)
  drive_turn _ _ idle place (recovers {q = q} zero at low) = recovering q (idle refl) zero at low
  drive_turn _ _ idle place (waits_for_beacon zero none) = waiting_for_beacon i.crs refl (idle refl) zero none
  drive_turn _ _ idle place (hears_first_wave {w = w} {rest = rest} zero none at rose long within) =
      hearing_first i.crs (is_beacon i.class) w rest refl refl (idle refl) zero none at rose long within
  drive_turn _ _ idle place (owns_beacon {a = a} {rest = rest} {left = left} symbols zero at own flag from within time low left_is some) =
      beaconing a rest symbols left zero at own flag from within time low left_is some
  drive_turn st stage idle place (owns_run {a = a} {rest = rest} {e = e} at own flag from within time sends) =
      run_turn part past ended bad line s n begin t ws i st stage (place a.place e sends) a rest e at own flag from within time sends
  drive_turn st _ idle place (waits {a = a} {rest = rest} newest there state) = waiting a rest st newest there state

  -- ---- control goes on to take part

  waiting_active : (u : ℕ) (a : Wave) (st : State) → WaitingControl n u a st → is_active st ≡ true
  waiting_active u a _ (listens other within) = refl
  waiting_active u a _ (fades own flag mine over within) = refl
  waiting_active u a _ (syncs own read over within) = refl
  waiting_active u a _ (counts k m after at some most order low coordinator) = refl

  next_active : (crs : Bool) (a : Wave) (rest : List Wave) (next : State × TxCmd) → seen n t ws ≡ a ∷ rest → (crs ≡ false → (v : Wave) → arrived t ws ≡ v ∷ a ∷ rest → t < v.from + n.rise)
      → NextControl s n is same_owns same_count same_to t (arrived t ws) a i.ready crs next → is_active next.0 ≡ true
  next_active crs a rest _ newest none (goes_on {st = st} x passes state) = waiting_active (t + 1) a st state
  next_active _ a rest _ newest none (newer {st = st} w others e other at state) = waiting_active (t + 1) w st state
  next_active _ a rest _ newest none (sleeps_in follower at) = absurd (never_asleep n is begin t now soon ws behind each a rest newest alive (none refl) at)
  next_active _ a rest _ newest none (starts_beacon zero at order) = refl
  next_active _ a rest _ newest none (starts_commit x mine at order ready) = refl

  abbrev Active : State × TxCmd → Type 0
  Active next = is_active next.0 ≡ true

  own_active : (st : State) → is_own st ≡ true → Active (control_row s st i)
  own_active (Commit x m b) own = cond_both i.begun _ _ Active (λ _. refl) (λ _. cond_both (m == 1) _ _ Active (λ _. refl) (λ _. refl))
  own_active (Transmit x b) own = cond_both (is_closed_good i.tx && nat_lt 0 b) _ _ Active (λ _. refl) (λ _. cond_both (is_closed i.tx) _ _ Active (λ _. refl) (λ _. refl))
  own_active (Pause x m b) own = cond_both i.begun _ _ Active (λ _. refl) (λ _. cond_both (m == 1) _ _ Active (λ _. refl) (λ _. refl))
  own_active _ own = absurd (false≢true own)

  pub active_stays : (st : State) (stage : Stage) → ControlOverWaves SendsRun n begin t ws st stage part → is_active st ≡ true → Active (control_row s st i)
  active_stays _ _ (recovers zero at low) on = absurd (false≢true on)
  active_stays _ _ (waits_for_beacon zero none) on = absurd (false≢true on)
  active_stays _ _ (hears_first_wave zero none at rose long within) on = absurd (false≢true on)
  active_stays _ _ (owns_beacon {left = left} symbols zero at own flag from within time low left_is some) on = cond_both (left == 1) _ _ Active (λ _. refl) (λ _. refl)
  active_stays st stage (owns_run {a = a} {e = e} at own flag from within time sends) on = own_active st (sends_own a.place e st stage part sends)
  active_stays st _ (waits {a = a} {rest = rest} newest there state) on =
      let knows = knows_of n is begin t now soon ws behind each a rest newest there in
      let wave = seen_wave n is begin t now soon ws behind each a rest newest in
      next_active c.on a rest (control_row s st i) newest (λ off. none_risen a rest newest there (shown ∙ off))
      (turn_next n is begin t ws behind a rest knows s same_owns same_count same_to i c burst shown carrier receiver (none_read n now a wave) (λ over. wave.next (omega (arith, over, soon))) st state)
