-- A node over waves: when it hears nothing outside of its own opportunity, and that a frame which pends takes the turn.
use Rattle.std.proofs.Common.{◌≡◌, ℕ, zero, suc, ◌+◌, ◌-◌, ◌*◌, ◌<◌, ◌≤◌, ◌⊎◌, inl, inr, Bool, true, false, List, [], ◌∷◌, Option, refl, sym, ◌∙◌, ap, subst, arith}
use Rattle.std.specs.List.{All}
use Rattle.std.specs.Prelude.{is_some}
use Rattle.std.proofs.lemmas.Bool.{cases_lt, false≢true}
use Rattle.t1s_frame.specs.Frame.{IsFrame}
use Rattle.t1s_symbols.specs.declared.Quarter.{Quarter}
use Rattle.t1s_ring.specs.declared.queued.Queued.{Queued}
use Rattle.t1s_pcs_tx.specs.State.{Stage}
use Rattle.plca_control.specs.declared.State.{State}
use Rattle.plca_control.specs.ControlTable.{is_own, is_active}
use Rattle.plca_data.specs.DataPathTable.{ready}
use Rattle.t1s_mac.specs.PickedDraws.{picked_answer, picked_after}
use Rattle.t1s_mac.specs.declared.picked_draws.PickedDraws.{PickedDraws}
use Rattle.t1s_node.specs.declared.carrier.Carrier.{Carrier}
use Rattle.t1s_node.specs.declared.settings.NodeSet.{NodeSet}
use Rattle.t1s_node.specs.Core.{Core, core_drive}
use Rattle.t1s_node.specs.Laws.{PendsAt, CommitsFor}
use Rattle.t1s_node.specs.Node.{NodeState, IsNodeSet}
use Rattle.t1s_node.specs.NodeRuns.{NodeTick, node_at, node_drive_at, core_ticks}
use Rattle.t1s_node.specs.Runs.{CoreTick, IsUndisturbed, core_at, left_at, active_at, own_at}
use Rattle.t1s_node.proofs.NodeCore.{core_same}
use Rattle.t1s_node.proofs.RunPlaces.{RunAt}
use Rattle.t1s_node.proofs.WaitingFrame.{pends_until_own}
use Rattle.t1s_world.specs.Waves.{CycleSettings, IsCycleSettings, Wave, AreBehind, IsWave, EachWave, OldestWave, IsFirstBeacon, IsAlive, AreWaves, BeginsBehind, arrived, seen}
use Rattle.t1s_world.proofs.Opportunities.{opportunity_low}
use Rattle.t1s_world.proofs.SeenWaves.{head_is, each_arrived, none_before, own_seen}
use Rattle.t1s_turns.specs.CarrierOverWaves.{CarrierOverWaves, silent, missed, rising, steady, fading, faded, short}
use Rattle.t1s_turns.specs.ControlOverWaves.{WaitingControl, listens, fades, syncs, counts, ControlOverWaves, recovers, waits_for_beacon, hears_first_wave, owns_beacon, owns_run, waits}
use Rattle.t1s_turns.specs.DriveOverWaves.{DriveOverWaves, quiet, goes_on, ends, starts_first_beacon, starts_beacon, starts_run}
use Rattle.t1s_turns.specs.NextOpportunity.{LastsAtMost}
use Rattle.t1s_turns.specs.NodeOverWaves.{cycle_of, HasLowIds, HasOpportunity, started, HearsWaves, NodeOverWaves}
use Rattle.t1s_turns.specs.ReceiverOverWaves.{HeardOverWaves}
use Rattle.t1s_turns.proofs.ControlNext.{same_wave, own_behind}
use Rattle.t1s_turns.proofs.DrawBounds.{picked_draws}
use Rattle.t1s_turns.proofs.NextTurn.{next_turn}
use Rattle.t1s_turns.proofs.NodeInvariant.{is_cycle}
use Rattle.t1s_turns.proofs.TurnLaw.{come, turn_at}

-- ---- what is told up to a tick is told up to each earlier one

each_told : (n : CycleSettings) (t now : ℕ) → t ≤ now → (ws : List Wave) → EachWave (IsWave n now) ws → EachWave (IsWave n t) ws
each_told n t now soon [] h = tt
each_told n t now soon (w ∷ ws) h = (
  record {
    over = elim h.0.over [ inl going ↦ inl (omega (arith, going, soon)) | inr long ↦ inr long ];
    next = λ past. h.0.next (omega (arith, past, soon));
    low = h.0.low;
    beacon = h.0.beacon;
    run = h.0.run;
    by_owner = h.0.by_owner;
  },
  each_told n t now soon ws h.1,
)

still_alive : (n : CycleSettings) (t now : ℕ) → t ≤ now → (ws : List Wave) → IsAlive n now ws → IsAlive n t ws
still_alive n t now soon [] h = tt
still_alive n t now soon (w ∷ ws) h = omega (arith, h, soon)

pub told_by : (n : CycleSettings) (begin t now : ℕ) (ws : List Wave) → t ≤ now → AreWaves n begin now ws → AreWaves n begin t ws
told_by n begin t now ws soon h = record { behind = h.behind; each = each_told n t now soon ws h.each; first = h.first; alive = still_alive n t now soon ws h.alive }

-- ---- carrier and control by the waves

-- no wave is over the place, and carrier has fallen behind the newest
abbrev IsStill : CycleSettings → ℕ → List Wave → Type 0
IsStill n t [] = Unit {0}
IsStill n t (w ∷ ws) = w.till + n.fall ≤ t

still_off : (n : CycleSettings) (begin t : ℕ) (xs : List Wave) (c : Carrier) → 1 ≤ n.fall → IsStill n t xs → CarrierOverWaves n begin t xs c → c.on ≡ false
still_off n begin t _ _ some still silent = refl
still_off n begin t _ _ some still (missed gone) = refl
still_off n begin t _ _ some still (rising within at few) = refl
still_off n begin t _ _ some still (steady within long) = absurd (omega (arith, still, within, some))
still_off n begin t _ _ some still (fading long at least few) = absurd (omega (arith, still, at, few))
still_off n begin t _ _ some still (faded gone) = refl
still_off n begin t _ _ some still (short few gone) = refl

waits_unowned : (n : CycleSettings) (t : ℕ) (a : Wave) (st : State) → WaitingControl n t a st → is_own st ≡ false
waits_unowned n t a _ (listens other within) = refl
waits_unowned n t a _ (fades own flag mine past within) = refl
waits_unowned n t a _ (syncs own flag past within) = refl
waits_unowned n t a _ (counts c m past at some few low most less) = refl

still_unowned : (n : CycleSettings) (begin t : ℕ) (ws xs : List Wave) (st : State) (stage : Stage) (part : ℕ) → 1 ≤ n.fall → arrived t ws ≡ xs → IsStill n t xs
    → ControlOverWaves HasOpportunity n begin t ws st stage part → is_own st ≡ false
still_unowned n begin t ws xs _ _ _ some came still (recovers coord at low) = refl
still_unowned n begin t ws xs _ _ _ some came still (waits_for_beacon coord none) = refl
still_unowned n begin t ws xs _ _ _ some came still (hears_first_wave coord none at rose long within) = refl
still_unowned n begin t ws xs _ _ _ some came still (owns_beacon symbols coord at own flag from within time low left_is least) = refl
still_unowned n begin t ws xs _ _ _ some came still (owns_run {a = a} {rest = rest} at own flag from within time sends) =
    let over : IsStill n t (a ∷ rest) = subst (λ (ys : List Wave). IsStill n t ys) (sym came ∙ at) still in absurd (omega (arith, over, within, some))
still_unowned n begin t ws xs st _ _ some came still (waits {a = a} newest there state) = waits_unowned n t a st state

-- a node that takes part in the cycle has seen a wave
record Sees (n : CycleSettings) (t : ℕ) (ws : List Wave) : Type 0 where
  a : Wave
  rest : List Wave
  newest : seen n t ws ≡ a ∷ rest

takes_part : (n : CycleSettings) → IsCycleSettings n → (begin t : ℕ) (ws : List Wave) → AreBehind n ws → (st : State) (stage : Stage) (part : ℕ) → is_active st ≡ true
    → ControlOverWaves HasOpportunity n begin t ws st stage part → Sees n t ws
takes_part n is begin t ws behind _ _ _ on (recovers coord at low) = absurd (false≢true on)
takes_part n is begin t ws behind _ _ _ on (waits_for_beacon coord none) = absurd (false≢true on)
takes_part n is begin t ws behind _ _ _ on (hears_first_wave coord none at rose long within) = absurd (false≢true on)
takes_part n is begin t ws behind _ _ _ on (owns_beacon {a = a} {rest = rest} symbols coord at own flag from within time low left_is least) = record { a = a; rest = rest; newest = own_seen n is t ws a rest behind at own }
takes_part n is begin t ws behind _ _ _ on (owns_run {a = a} {rest = rest} at own flag from within time sends) = record { a = a; rest = rest; newest = own_seen n is t ws a rest behind at own }
takes_part n is begin t ws behind _ _ _ on (waits {a = a} {rest = rest} newest there state) = record { a = a; rest = rest; newest = newest }

-- where the opportunity of its own ID begins, a node with a frame that is ready drives
drives_then : (n : CycleSettings) → IsCycleSettings n → (begin t : ℕ) (ws : List Wave) → AreBehind n ws → (a : Wave) (rest : List Wave) (x : ℕ) → BeginsBehind n t ws a rest x → n.owns x ≡ true
    → (is_ready : Bool) → is_ready ≡ true → (quarter : Option Quarter) → DriveOverWaves n begin t ws is_ready quarter → is_some quarter ≡ true
drives_then n is begin t ws behind a rest x begins mine is_ready some _ (quiet nothing) = absurd (false≢true (sym ((nothing.lapses a rest x begins).own mine) ∙ some))
drives_then n is begin t ws behind a rest x begins mine is_ready some _ (goes_on k at own within time spells) = refl
drives_then n is begin t ws behind a rest x begins mine is_ready some _ (ends w others at own within long) =
    let till = ap (λ (y : Wave). y.till) (head_is w a others rest (sym (own_seen n is t ws w others behind at own) ∙ begins.newest)).0 in
    let low = opportunity_low n a x in
    absurd (omega (arith, till, low, within, begins.now, is.fall_low))
drives_then n is begin t ws behind a rest x begins mine is_ready some _ (starts_first_beacon coord at) = refl
drives_then n is begin t ws behind a rest x begins mine is_ready some _ (starts_beacon b others again coord) = refl
drives_then n is begin t ws behind a rest x begins mine is_ready some _ (starts_run b others y again own there) = refl

-- within a run of its own the opportunity is the node's
oldest_from : (n : CycleSettings) (begin : ℕ) (xs : List Wave) → OldestWave (IsFirstBeacon n begin) xs → OldestWave (λ (x : Wave). x.from ≡ begin + 258 * n.to) xs
oldest_from n begin [] o = tt
oldest_from n begin (x ∷ []) o = o.from
oldest_from n begin (x ∷ y ∷ xs) o = oldest_from n begin (y ∷ xs) o

waits_not : (n : CycleSettings) (t : ℕ) (a : Wave) (st : State) → a.own ≡ true → t ≤ a.till → WaitingControl n t a st → ⊥
waits_not n t a _ own within (listens other late) = false≢true (sym other ∙ own)
waits_not n t a _ own within (fades mine flag place past late) = omega (arith, past, within)
waits_not n t a _ own within (syncs mine flag past late) = omega (arith, past, within)
waits_not n t a _ own within (counts c m past at some few low most less) = omega (arith, past, within)

run_owned : (n : CycleSettings) → IsCycleSettings n → (begin t : ℕ) (ws : List Wave) → AreBehind n ws → (n.owns 0 ≡ true → OldestWave (IsFirstBeacon n begin) ws)
    → (w : Wave) (xs : List Wave) → arrived t ws ≡ w ∷ xs → w.own ≡ true → w.beacon ≡ false → begin ≤ w.from → t ≤ w.till
    → (st : State) (stage : Stage) (part : ℕ) → ControlOverWaves HasOpportunity n begin t ws st stage part → is_own st ≡ true
run_owned n is begin t ws behind first w xs came own flag from within _ _ _ (recovers coord at low) =
    let none : w ∷ xs ≡ [] = sym came ∙ none_before n (begin + 258 * n.to) t ws behind (oldest_from n begin ws (first coord)) (omega (arith, at, low)) in absurd (cc)
run_owned n is begin t ws behind first w xs came own flag from within _ _ _ (waits_for_beacon coord none) = absurd (none w xs came own from)
run_owned n is begin t ws behind first w xs came own flag from within _ _ _ (hears_first_wave coord none at rose long late) = absurd (none w xs came own from)
run_owned n is begin t ws behind first w xs came own flag from within _ _ _ (owns_beacon {a = a} {rest = rest} symbols coord at mine kind since late time low left_is least) =
    absurd (false≢true (sym flag ∙ (ap (λ (y : Wave). y.beacon) (head_is w a xs rest (sym came ∙ at)).0 ∙ kind)))
run_owned n is begin t ws behind first w xs came own flag from within _ _ _ (owns_run at mine kind since late time sends) = sends
run_owned n is begin t ws behind first w xs came own flag from within st _ _ (waits {a = a} {rest = rest} newest there state) =
    let same : w ≡ a = (head_is w a xs rest (sym (own_seen n is t ws w xs behind came own) ∙ newest)).0 in
    absurd (waits_not n t a st (subst (λ (y : Wave). y.own ≡ true) same own) (subst (λ (y : Wave). t ≤ y.till) same within) state)

module _ (set : NodeSet) (is_set : IsNodeSet set) (low_ids : HasLowIds set) (room : ℕ) (draws : PickedDraws) (given : ℕ → NodeTick)
    (frames : (u : ℕ) → All (λ (q : Queued). IsFrame q.frame) (given u).offers) (begin end : ℕ) (ws : List Wave)
    (waves : AreWaves (cycle_of set) begin (begin + end) ws) (hears : HearsWaves set room draws given begin (begin + end) ws) where
  abbrev n : CycleSettings
  n = cycle_of set

  abbrev first : NodeState
  first = started set room draws given begin

  abbrev start : Core PickedDraws
  start = first.core

  abbrev told : ℕ → CoreTick
  told = core_ticks first given

  abbrev is : IsCycleSettings n
  is = is_cycle set is_set low_ids begin ws

  turn : (u : ℕ) → u ≤ end → NodeOverWaves set room draws given begin u ws
  turn u within =
      turn_at picked_draws set is_set low_ids room draws given frames begin (begin + u) ws (told_by n begin (begin + u) (begin + end) ws (omega (arith, within)) waves)
      (λ v before. hears v (omega (arith, before, within))) u refl

  pub calm : IsUndisturbed picked_answer picked_after start told end
  calm = (turn end (omega arith)).undisturbed

  -- what a tick leaves is what the node keeps as the next one finds it
  kept_is : (u : ℕ) → left_at picked_answer picked_after start told u ≡ (node_at first given (suc u)).core
  unfolding core_at
  kept_is u = sym (core_same first given (suc u))

  active_is : (u : ℕ) → active_at picked_answer picked_after start told u ≡ is_active (left_at picked_answer picked_after start told u).control.state
  unfolding core_drive
  active_is u = refl

  own_is : (u : ℕ) → own_at picked_answer picked_after start told u ≡ is_own (left_at picked_answer picked_after start told u).control.state
  unfolding core_drive
  own_is u = refl

  seen_then : (u : ℕ) → suc u ≤ end → active_at picked_answer picked_after start told u ≡ true → Sees n (begin + suc u) ws
  seen_then u within active =
      takes_part n is begin (begin + suc u) ws waves.behind _ _ _ (ap (λ (c : Core PickedDraws). is_active c.control.state) (sym (kept_is u)) ∙ (sym (active_is u) ∙ active)) (turn (suc u) within).control

  -- ---- a quiet tick

  pub record QuietTick (t high : ℕ) : Type 0 where
    pub y : ℕ
    pub from : t ≤ y
    pub to : y < high
    pub unowned : own_at picked_answer picked_after start told y ≡ false
    pub silence : (told (suc y)).reading.crs ≡ false

  quiet_behind : (t y high : ℕ) (xs : List Wave) → t ≤ y → y < high → suc y ≤ end → arrived (begin + suc y) ws ≡ xs → IsStill n (begin + suc y) xs → QuietTick t high
  quiet_behind t y high xs from to within came still =
      let h = turn (suc y) within in
      record {
        y = y;
        from = from;
        to = to;
        unowned = own_is y ∙ (ap (λ (c : Core PickedDraws). is_own c.control.state) (kept_is y) ∙ still_unowned n begin (begin + suc y) ws xs _ _ _ is.fall_low came still h.control);
        silence = still_off n begin (begin + suc y) xs _ is.fall_low still (subst (λ (ys : List Wave). CarrierOverWaves n begin (begin + suc y) ys (node_at first given (suc y)).carrier) came h.carrier);
      }

  -- the newest wave stays the newest until carrier has fallen
  stays_newest : (k t : ℕ) (w : Wave) (rest : List Wave) → arrived t ws ≡ w ∷ rest → t + k ≤ w.till + n.fall → t + k ≤ begin + end → arrived (t + k) ws ≡ w ∷ rest
  stays_newest zero t w rest came within soon = let here : t + zero ≡ t = omega arith in rw here came
  stays_newest (suc k) t w rest came within soon =
      let wave = (subst (λ (xs : List Wave). EachWave (IsWave n (begin + end)) xs) came (each_arrived (IsWave n (begin + end)) t ws waves.each)).0 in
      let on : (t ≤ w.till) ⊎ ((w.from + n.rise ≤ w.till) × (t < w.till + n.fall)) = elim wave.over [
        | inl going ↦ inl (omega (arith, going, soon))
        | inr long ↦ inr (long, omega (arith, within))
      ] in
      let here : t + 1 + k ≡ t + suc k = omega arith in
      rw (sym here) (stays_newest k (t + 1) w rest (same_wave n is t ws waves.behind w rest came on) (omega (arith, within)) (omega (arith, soon)))

  module _ (longest unit : ℕ) (most : EachWave (LastsAtMost longest) ws) (big : n.to + (longest + n.fall) ≤ unit) where
    -- from any tick on the node soon hears nothing outside of its own opportunity
    pub quiet_tick : (t : ℕ) → t + (longest + n.fall) ≤ end → QuietTick t (t + (longest + n.fall))
    quiet_tick t within = go (arrived (begin + suc t) ws) refl
      where
        go : (xs : List Wave) → arrived (begin + suc t) ws ≡ xs → QuietTick t (t + (longest + n.fall))
        go [] came = quiet_behind t t (t + (longest + n.fall)) [] (omega arith) (omega (arith, is.fall_low)) (omega (arith, within, is.fall_low)) came tt
        go (w ∷ rest) came = elim (cases_lt (begin + suc t) (w.till + n.fall)) [
          | inl on ↦
              let before = come (begin + suc t) w rest ws came in
              let short = (subst (λ (xs : List Wave). EachWave (LastsAtMost longest) xs) came (each_arrived (LastsAtMost longest) (begin + suc t) ws most)).0 in
              let k : ℕ = w.till + n.fall - (begin + suc t) in
              let y : ℕ = t + k in
              let same_tick : begin + suc t + k ≡ begin + suc y = omega (arith, on) in
              let newest = stays_newest k (begin + suc t) w rest came (omega (arith, on)) (omega (arith, on, short, before, within)) in
              quiet_behind t y (t + (longest + n.fall)) (w ∷ rest) (omega arith) (omega (arith, on, short, before)) (omega (arith, on, short, before, within))
              (subst (λ m. arrived m ws ≡ w ∷ rest) same_tick newest) (omega (arith, on))
          | inr over ↦ quiet_behind t t (t + (longest + n.fall)) (w ∷ rest) (omega arith) (omega (arith, is.fall_low)) (omega (arith, within, is.fall_low)) came over
        ]

    -- ---- the turn

    -- the node holds its opportunity where that begins with a frame in Pending
    takes_turn : (own_id : ℕ) → n.owns own_id ≡ true → (y : ℕ) (a : Wave) (rest : List Wave) → suc y ≤ end → BeginsBehind n (begin + y) ws a rest own_id → ready (node_at first given y).core.path ≡ true
        → own_at picked_answer picked_after start told y ≡ true
    takes_turn own_id owned y a rest within begins waiting =
        let driven = drives_then n is begin (begin + y) ws waves.behind a rest own_id begins owned (ready (node_at first given y).core.path) waiting (node_drive_at first given y).quarter (turn y (omega (arith, within))).drives in
        let heard : HeardOverWaves (begin + y) (arrived (begin + y + 1) ws) (given y).heard true =
        subst (λ (b : Bool). HeardOverWaves (begin + y) (arrived (begin + y + 1) ws) (given y).heard b) driven (hears y (omega (arith, within))) in
        let b = own_behind n is (begin + y) ws waves.behind (given y).heard a rest own_id heard begins in
        let wave = (subst (λ (xs : List Wave). EachWave (IsWave n (begin + end)) xs) b.new.at (each_arrived (IsWave n (begin + end)) (begin + y + 1) ws waves.each)).0 in
        let next : begin + y + 1 ≡ begin + suc y = omega arith in
        own_is y ∙ (ap (λ (c : Core PickedDraws). is_own c.control.state) (kept_is y)
        ∙ run_owned n is begin (begin + suc y) ws waves.behind waves.first b.new.w (arrived (begin + y) ws) (subst (λ m. arrived m ws ≡ b.new.w ∷ arrived (begin + y) ws) next b.new.at) b.new.own
        (kind b.new.w.beacon refl wave b.place) (omega (arith, b.new.from)) (omega (arith, b.new.lasts)) _ _ _ (turn (suc y) within).control)
      where
        kind : (f : Bool) {w : Wave} → w.beacon ≡ f → IsWave n (begin + end) w → own_id ≡ w.place → w.beacon ≡ false
        kind false e wave place = e
        kind true e wave place = absurd (omega (arith, place, wave.beacon e, low_ids own_id owned))

    abbrev Run : ℕ → Type 0
    Run t = RunAt picked_answer picked_after calm.draws start told end calm t

    -- a frame in Pending goes to Commit, or still pends
    pends_on : Run zero → (f : Queued) (k v : ℕ) → v + k ≤ end → PendsAt picked_answer picked_after start told f v
        → ((c : ℕ) × (v < c) × (c ≤ v + k) × CommitsFor picked_answer picked_after start told f c) ⊎ PendsAt picked_answer picked_after start told f (v + k)
    pends_on run f zero v within pending = let here : v + zero ≡ v = omega arith in inr (rw here pending)
    pends_on run f (suc k) v within pending =
        let step = pends_until_own picked_answer picked_after calm.draws start told end calm run f v (omega (arith, within)) pending in
        let on : v + suc k ≡ suc v + k = omega arith in
        go (own_at picked_answer picked_after start told (suc v)) refl step.0 step.1 (λ still. rw on (pends_on run f k (suc v) (omega (arith, within)) still))
      where
        go : (b : Bool) → own_at picked_answer picked_after start told (suc v) ≡ b → (own_at picked_answer picked_after start told (suc v) ≡ false → PendsAt picked_answer picked_after start told f (suc v))
            → (own_at picked_answer picked_after start told (suc v) ≡ true → CommitsFor picked_answer picked_after start told f (suc v))
            → (PendsAt picked_answer picked_after start told f (suc v) → ((c : ℕ) × (suc v < c) × (c ≤ v + suc k) × CommitsFor picked_answer picked_after start told f c) ⊎ PendsAt picked_answer picked_after start told f (v + suc k))
            → ((c : ℕ) × (v < c) × (c ≤ v + suc k) × CommitsFor picked_answer picked_after start told f c) ⊎ PendsAt picked_answer picked_after start told f (v + suc k)
        go true e stays goes again = inl (suc v, omega arith, omega arith, goes e)
        go false e stays goes again = elim (again (stays e)) [
          | inl (c, low, high, commits) ↦ inl (c, omega (arith, low), high, commits)
          | inr still ↦ inr still
        ]

    -- a frame in Pending has the node's next turn
    pub commits_in_time : (own_id : ℕ) → n.owns own_id ≡ true → Run zero → (f : Queued) (v : ℕ) → v + 2 + (n.count + 1) * unit ≤ end → active_at picked_answer picked_after start told v ≡ true → PendsAt picked_answer picked_after start told f v
        → (c : ℕ) × (v < c) × (c ≤ v + 1 + (n.count + 1) * unit) × CommitsFor picked_answer picked_after start told f c
    commits_in_time own_id owned run f v within active pending =
        let sees = seen_then v (omega (arith, within)) active in
        let offer = next_turn n is (begin + end) longest unit own_id (begin + suc v) big owned (omega (arith, within)) begin ws sees.a sees.rest waves most sees.newest in
        let k : ℕ = offer.t - (begin + suc v) in
        let y : ℕ = v + k in
        let now : offer.t ≡ begin + suc y = omega (arith, offer.from) in
        let high : suc y ≤ v + 1 + (n.count + 1) * unit = omega (arith, offer.within) in
        elim (pends_on run f k v (omega (arith, high, within)) pending) [
          | inl (c, low, soon, commits) ↦ (c, low, omega (arith, soon, high), commits)
          | inr still ↦
              let step = pends_until_own picked_answer picked_after calm.draws start told end calm run f y (omega (arith, high, within)) still in
              let waiting : ready (node_at first given (suc y)).core.path ≡ true = ap (λ (c : Core PickedDraws). ready c.path) (sym (kept_is y)) ∙ ap ready still.0 in
              let begins = subst (λ m. BeginsBehind n m ws offer.newest offer.older own_id) now offer.begins in
              (suc y, omega arith, high, step.1 (takes_turn own_id owned (suc y) offer.newest offer.older (omega (arith, high, within)) begins waiting))
        ]
