-- A node with ID 0 that hears nothing, tick by tick of its round: a beacon, the fall of the carrier, and an
-- opportunity for each ID.
use Rattle.std.proofs.Common.{◌≡◌, ℕ, ◌+◌, ◌-◌, ◌*◌, ◌<◌, ◌≤◌, ◌⊎◌, inl, inr, Bool, true, false, cond, eqb, ltb, leb, refl, ◌∙◌, arith, rules, ap, subst}
use Rattle.std.proofs.Math.Nat.{mul-le-mul_right}
use Rattle.std.specs.Prelude.{is_some, Option, ◌||◌, ◌&&◌}
use Rattle.std.proofs.lemmas.Bool.Decides.{nat_tests}
use Rattle.std.proofs.lemmas.Bool.{cases_lt}
use Rattle.t1s_symbols.specs.declared.Heard.TheVariants.{Nothing}
use Rattle.t1s_symbols.specs.declared.Quarter.{Quarter}
use Rattle.t1s_pcs_tx.specs.declared.TxCmd.{TxCmd}
use Rattle.t1s_pcs_tx.specs.declared.TxCmd.TheVariants.{None as NoCmd, Beacon as BeaconCmd}
use Rattle.plca_control.specs.declared.State.{State}
use Rattle.plca_control.specs.declared.State.TheVariants.{Recover, Beacon, Syncing, WaitTo}
use Rattle.plca_control.specs.State.{ControlState}
use Rattle.plca_control.specs.ControlTable.{control_row, coord, mine}
use Rattle.t1s_node.specs.CarrierTable.{carrier_step}
use Rattle.t1s_node.specs.Node.{NodeState, reading_of, node_drive, node_hear}
use Rattle.t1s_line.proofs.Frameless.{never_and, DrivesTo, given, told_control}
use Rattle.t1s_line.proofs.Signals.{Signal, quiet, beacon, signal_tx, sounds, sounds_is, signal_step, InRange, IsSpare, HasSignal, signal_drives}

-- what the node is set to
pub record IsSetTo (n : NodeState) (ids wait up down : ℕ) : Type 0 where
  pub coordinates : coord n.core.control.set ≡ true
  pub count : n.core.control.set.count ≡ ids
  pub to : n.core.control.set.to ≡ wait
  pub rise : n.rise ≡ up
  pub fall : n.fall ≡ down

-- one tick in which nothing is heard
abbrev pub lone : NodeState → NodeState
lone n = node_hear (node_drive n).0 Nothing

module _ (ids wait up down : ℕ) where
  -- before the first beacon, with q ticks counted
  pub record Waiting (q : ℕ) (n : NodeState) : Type 0 where
    pub set : IsSetTo n ids wait up down
    pub state : n.core.control.state ≡ Recover q
    pub quiet : HasSignal n quiet
    pub carrier : n.carrier ≡ record { on = false; run = 0 }

  -- after tick r of a beacon
  pub record Sending (r : ℕ) (n : NodeState) : Type 0 where
    pub set : IsSetTo n ids wait up down
    pub within : r < 20
    pub state : n.core.control.state ≡ Beacon (20 - r)
    pub part : ℕ
    pub part_low : part < 4
    pub symbol : ℕ
    pub part_is : r ≡ 4 * symbol + part
    pub driving : HasSignal n (beacon part)
    pub carrier : n.carrier ≡ cond (leb up (r + 1)) (record { on = true; run = 0 }) (record { on = false; run = r + 1 })

  -- after tick r of a round, in the ticks until the carrier is off
  pub record Fading (r : ℕ) (n : NodeState) : Type 0 where
    pub set : IsSetTo n ids wait up down
    pub after : 20 ≤ r
    pub within : r < 20 + down
    pub state : n.core.control.state ≡ Syncing
    pub quiet : HasSignal n quiet
    pub carrier : n.carrier ≡ cond (leb down (r - 19)) (record { on = false; run = 0 }) (record { on = true; run = r - 19 })

  -- after tick r of a round, in the opportunity of an ID
  pub record Turn (r : ℕ) (n : NodeState) : Type 0 where
    pub set : IsSetTo n ids wait up down
    pub c : ℕ
    pub c_low : c < ids
    pub m : ℕ
    pub m_low : 1 ≤ m
    pub m_high : m ≤ wait
    pub place : r + m ≡ 20 + down + c * wait + wait
    pub state : n.core.control.state ≡ WaitTo c m
    pub quiet : HasSignal n quiet
    pub carrier : n.carrier ≡ record { on = false; run = 0 }

  -- one tick, field by field
  pub record TickStep (n : NodeState) (state : State) (y : Signal) : Type 0 where
    pub set : IsSetTo (lone n) ids wait up down
    pub state_is : (lone n).core.control.state ≡ state
    pub driving : HasSignal (lone n) y
    pub carrier : (lone n).carrier ≡ carrier_step n.carrier (sounds y) up down

  pub ticked : (n : NodeState) (state : State) (cmd : TxCmd) (x y : Signal) → IsSetTo n ids wait up down → HasSignal n x → InRange x → IsSpare cmd → control_row n.core.control.set n.core.control.state (told_control (reading_of n) n.core) ≡ (state, cmd) → signal_step x cmd ≡ y → TickStep n state y
  ticked n state cmd x y set has low spare e step =
      let told : (given (reading_of n) n.core).1.cmd ≡ cmd = ap (λ (r : State × TxCmd). r.1) e in
      let d : DrivesTo (reading_of n) n.core (signal_tx y has.past) = signal_drives n x y cmd has low spare told step in
      let set_is : (lone n).core.control.set ≡ n.core.control.set = ap (λ (k : ControlState). k.set) d.control in
      record {
        set = record { coordinates = rw set_is set.coordinates; count = rw set_is set.count; to = rw set_is set.to; rise = set.rise; fall = set.fall };
        state_is = ap (λ (k : ControlState). k.state) d.control ∙ ap (λ (r : State × TxCmd). r.0) e;
        driving = record { past = has.past; tx = d.tx; frameless = d.frameless };
        carrier = ap (λ (q : Option Quarter). carrier_step n.carrier (is_some q || false) n.rise n.fall) d.quarter
            ∙ (ap (λ (b : Bool). carrier_step n.carrier b n.rise n.fall) (sounds_is y has.past) ∙ rw (set.rise, set.fall) refl);
      }

  waiting_more : (q : ℕ) (n : NodeState) → Waiting q n → q < 258 * wait → Waiting (q + 1) (lone n)
  waiting_more q n h lt =
      let not_yet : eqb q (258 * wait) ≡ false = search (rules, nat_tests) in
      let t = ticked n (Recover (q + 1)) NoCmd quiet quiet h.set h.quiet tt tt (rw (h.state, h.carrier, h.set.to, not_yet) refl) refl in
      record { set = t.set; state = t.state_is; quiet = t.driving; carrier = rw (t.carrier, h.carrier) refl }

  first_beacon : (q : ℕ) (n : NodeState) → Waiting q n → q ≡ 258 * wait → Sending 0 (lone n)
  first_beacon q n h e =
      let now : eqb q (258 * wait) ≡ true = search (rules, nat_tests) in
      let t = ticked n (Beacon 20) BeaconCmd quiet (beacon 0) h.set h.quiet tt tt (rw (h.state, h.carrier, h.set.to, now) refl) refl in
      record { set = t.set; within = omega arith; state = t.state_is; part = 0; part_low = omega arith; symbol = 0; part_is = refl; driving = t.driving; carrier = rw (t.carrier, h.carrier) refl }

  -- the next quarter of the beacon's symbols
  next_part : (r part symbol : ℕ) → part < 4 → r ≡ 4 * symbol + part → (p : ℕ) × (y : ℕ) × (p < 4) × (r + 1 ≡ 4 * y + p) × (signal_step (beacon part) BeaconCmd ≡ beacon p)
  next_part r part symbol low e = elim (cases_lt part 3) [
    | inl h ↦ let b : ltb part 3 ≡ true = search (rules, nat_tests) in (part + 1, symbol, omega arith, omega arith, rw b refl)
    | inr h ↦ let b : ltb part 3 ≡ false = search (rules, nat_tests) in (0, symbol + 1, omega arith, omega arith, rw b refl)
  ]

  -- carrier rises with energy, tick by tick
  rising : (r : ℕ) → carrier_step (cond (leb up (r + 1)) (record { on = true; run = 0 }) (record { on = false; run = r + 1 })) true up down ≡ cond (leb up (r + 1 + 1)) (record { on = true; run = 0 }) (record { on = false; run = r + 1 + 1 })
  rising r = elim (cases_lt (r + 1) up) [
    | inl h ↦ let b : leb up (r + 1) ≡ false = search (rules, nat_tests) in rw b refl
    | inr h ↦ let b : leb up (r + 1) ≡ true = search (rules, nat_tests) in let d : leb up (r + 1 + 1) ≡ true = search (rules, nat_tests) in rw (b, d) refl
  ]

  sending_more : (r : ℕ) (n : NodeState) → Sending r n → r < 19 → Sending (r + 1) (lone n)
  sending_more r n h lt =
      let more : eqb (20 - r) 1 ≡ false = search (rules, nat_tests) in
      let left : 20 - r - 1 ≡ 20 - (r + 1) = omega arith in
      let (p, y, low, is, next) = next_part r h.part h.symbol h.part_low h.part_is in
      let t = ticked n (Beacon (20 - (r + 1))) BeaconCmd (beacon h.part) (beacon p) h.set h.driving h.part_low tt (rw (h.state, more, left) refl) next in
      record { set = t.set; within = omega arith; state = t.state_is; part = p; part_low = low; symbol = y; part_is = is; driving = t.driving; carrier = rw (t.carrier, h.carrier) (rising r) }

  fading_first : (n : NodeState) → Sending 19 n → up ≤ 20 → 1 ≤ down → Fading 20 (lone n)
  fading_first n h high low =
      let on : leb up 20 ≡ true = search (rules, nat_tests) in
      let last : h.part ≡ 3 = omega (arith, h.part_is, h.part_low) in
      let t = ticked n Syncing NoCmd (beacon h.part) quiet h.set h.driving h.part_low tt (rw h.state refl) (rw last refl) in
      record { set = t.set; after = omega arith; within = omega arith; state = t.state_is; quiet = t.driving; carrier = rw (t.carrier, h.carrier, on) refl }

  fading_more : (r : ℕ) (n : NodeState) → Fading r n → r + 1 < 20 + down → Fading (r + 1) (lone n)
  fading_more r n h lt =
      let still_on : leb down (r - 19) ≡ false = search (rules, nat_tests) in
      let run : r - 19 + 1 ≡ r + 1 - 19 = omega (arith, h.after) in
      let t = ticked n Syncing NoCmd quiet quiet h.set h.quiet tt tt (rw (h.state, h.carrier, still_on) refl) refl in
      record { set = t.set; after = omega (arith, h.after); within = lt; state = t.state_is; quiet = t.driving; carrier = rw (t.carrier, h.carrier, still_on, run) refl }

  fading_last : (r : ℕ) (n : NodeState) → Fading r n → r + 1 ≡ 20 + down → 1 ≤ ids → 1 ≤ wait → Turn (r + 1) (lone n)
  fading_last r n h e some low =
      let off : leb down (r - 19) ≡ true = search (rules, nat_tests) in
      let none : leb ids 0 ≡ false = search (rules, nat_tests) in
      let t = ticked n (WaitTo 0 wait) NoCmd quiet quiet h.set h.quiet tt tt (rw (h.state, h.carrier, off, h.set.coordinates, h.set.count, none, h.set.to) refl) refl in
      record { set = t.set; c = 0; c_low = some; m = wait; m_low = low; m_high = omega arith; place = omega arith; state = t.state_is; quiet = t.driving; carrier = rw (t.carrier, h.carrier, off) refl }

  turn_more : (r : ℕ) (n : NodeState) (h : Turn r n) → 1 < h.m → Turn (r + 1) (lone n)
  turn_more r n h lt =
      let more : eqb h.m 1 ≡ false = search (rules, nat_tests) in
      let t = ticked n (WaitTo h.c (h.m - 1)) NoCmd quiet quiet h.set h.quiet tt tt (rw (h.state, h.carrier, more) refl) refl in
      record { set = t.set; c = h.c; c_low = h.c_low; m = h.m - 1; m_low = omega arith; m_high = omega (arith, h.m_high); place = omega (arith, h.place); state = t.state_is; quiet = t.driving; carrier = rw (t.carrier, h.carrier) refl }

  turn_next : (r : ℕ) (n : NodeState) (h : Turn r n) → h.m ≡ 1 → h.c + 1 < ids → 1 ≤ wait → Turn (r + 1) (lone n)
  turn_next r n h e lt low =
      let none : leb ids (h.c + 1) ≡ false = search (rules, nat_tests) in
      let unready : (mine n.core.control.set (h.c + 1) && false) ≡ false = never_and (mine n.core.control.set (h.c + 1)) false refl in
      let t = ticked n (WaitTo (h.c + 1) wait) NoCmd quiet quiet h.set h.quiet tt tt (rw (h.state, h.carrier, e, h.set.coordinates, h.set.count, none, unready, h.set.to) refl) refl in
      record { set = t.set; c = h.c + 1; c_low = lt; m = wait; m_low = low; m_high = omega arith; place = omega (arith, h.place); state = t.state_is; quiet = t.driving; carrier = rw (t.carrier, h.carrier) refl }

  turn_last : (r : ℕ) (n : NodeState) (h : Turn r n) → h.m ≡ 1 → h.c + 1 ≡ ids → Sending 0 (lone n)
  turn_last r n h e last =
      let all : leb ids (h.c + 1) ≡ true = search (rules, nat_tests) in
      let t = ticked n (Beacon 20) BeaconCmd quiet (beacon 0) h.set h.quiet tt tt (rw (h.state, h.carrier, e, h.set.coordinates, h.set.count, all) refl) refl in
      record { set = t.set; within = omega arith; state = t.state_is; part = 0; part_low = omega arith; symbol = 0; part_is = refl; driving = t.driving; carrier = rw (t.carrier, h.carrier) refl }

  -- the length of a round
  abbrev pub period : ℕ
  period = 20 + down + ids * wait

  -- after tick r of a round
  pub data Phase (r : ℕ) (n : NodeState) : Type 0 where
    sending : Sending r n → Phase r n
    fading : Fading r n → Phase r n
    turn : Turn r n → Phase r n

  pub record Round (t : ℕ) (n : NodeState) : Type 0 where
    pub k : ℕ
    pub r : ℕ
    pub within : r < period
    pub time : t ≡ 258 * wait + k * period + r + 1
    pub phase : Phase r n

  -- what the node keeps before tick t
  abbrev pub AtTick : ℕ → NodeState → Type 0
  AtTick t n = ((t ≤ 258 * wait) × Waiting t n) ⊎ Round t n

  module _ (ids_low : 1 ≤ ids) (wait_low : 1 ≤ wait) (up_high : up ≤ 20) (down_low : 1 ≤ down) where
    -- the next beacon begins a new round
    again : (t k r : ℕ) (n : NodeState) → t ≡ 258 * wait + k * period + r + 1 → r + 1 ≡ period → Sending 0 (lone n) → Round (t + 1) (lone n)
    again t k r n time last h = record { k = k + 1; r = 0; within = omega arith; time = omega arith; phase = sending h }

    on : (t k r : ℕ) (n : NodeState) → t ≡ 258 * wait + k * period + r + 1 → r + 1 < period → Phase (r + 1) (lone n) → Round (t + 1) (lone n)
    on t k r n time within h = record { k = k; r = r + 1; within = within; time = omega arith; phase = h }

    round_more : (t k r : ℕ) (n : NodeState) → r < period → t ≡ 258 * wait + k * period + r + 1 → Phase r n → Round (t + 1) (lone n)
    round_more t k r n within time (sending h) = elim (cases_lt r 19) [
      | inl lt ↦ on t k r n time (omega arith) (sending (sending_more r n h lt))
      | inr ge ↦
          let last : r ≡ 19 = omega (arith, h.within) in
          let there = (let P : ℕ → Type 0 = λ (r : ℕ). Sending r n in subst P last h) in
          let next : r + 1 ≡ 20 = omega arith in
          on t k r n time (omega arith) (rw next (fading (fading_first n there up_high down_low)))
    ]
    round_more t k r n within time (fading h) = elim (cases_lt (r + 1) (20 + down)) [
      | inl lt ↦ on t k r n time (omega arith) (fading (fading_more r n h lt))
      | inr ge ↦
          let room = mul-le-mul_right wait ids_low in
          on t k r n time (omega (arith, h.within, room)) (turn (fading_last r n h (omega (arith, h.within)) ids_low wait_low))
    ]
    round_more t k r n within time (turn h) = elim (cases_lt 1 h.m) [
      | inl lt ↦
          let room = mul-le-mul_right wait h.c_low in
          on t k r n time (omega (arith, h.place, room)) (turn (turn_more r n h lt))
      | inr ge ↦
          let one : h.m ≡ 1 = omega (arith, h.m_low) in
          elim (cases_lt (h.c + 1) ids) [
            | inl lt ↦
                let room = mul-le-mul_right wait lt in
                on t k r n time (omega (arith, h.place, one, room)) (turn (turn_next r n h one lt wait_low))
            | inr all ↦
                let last : h.c + 1 ≡ ids = omega (arith, h.c_low) in
                let rounds : (h.c + 1) * wait ≡ ids * wait = ap (λ (x : ℕ). x * wait) last in
                again t k r n time (omega (arith, h.place, one, rounds)) (turn_last r n h one last)
          ]
    ]

    pub at_next : (t : ℕ) (n : NodeState) → AtTick t n → AtTick (t + 1) (lone n)
    at_next t n (inl h) = elim (cases_lt t (258 * wait)) [
      | inl lt ↦ inl (omega arith, waiting_more t n h.1 lt)
      | inr ge ↦ inr (record { k = 0; r = 0; within = omega arith; time = omega (arith, h.0); phase = sending (first_beacon t n h.1 (omega (arith, h.0))) })
    ]
    at_next t n (inr h) = inr (round_more t h.k h.r n h.within h.time h.phase)
