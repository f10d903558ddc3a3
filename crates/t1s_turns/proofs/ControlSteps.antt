-- One tick of control of a node that takes part in the cycle and does not drive.
use Rattle.std.proofs.Common.{◌≡◌, ℕ, ◌+◌, ◌-◌, ◌==◌, ◌<◌, ◌≤◌, ◌⊎◌, inl, inr, Bool, true, false, ◌&&◌, not, nat_le, List, ◌∷◌, refl, sym, ◌∙◌, ap, subst, arith}
use Rattle.std.proofs.lemmas.Bool.{cases_lt, cases_eq, cond_both, false≢true}
use Rattle.std.proofs.lemmas.Bool.Decides.{nat_tests}
use Rattle.t1s_pcs_tx.specs.declared.TxCmd.{TxCmd}
use Rattle.t1s_pcs_tx.specs.declared.TxCmd.TheVariants.{None as NoCmd, Beacon as BeaconCmd, Commit as CommitCmd}
use Rattle.plca_control.specs.declared.ControlSet.{ControlSet}
use Rattle.plca_control.specs.declared.ControlIn.{ControlIn}
use Rattle.plca_control.specs.declared.State.{State}
use Rattle.plca_control.specs.declared.State.TheVariants.{Beacon, Syncing, WaitTo, Receive, Drain, Resync}
use Rattle.plca_control.specs.ControlTable.{mine, coord, reach, control_row, is_beacon}
use Rattle.t1s_world.specs.Waves.{CycleSettings, IsCycleSettings, Wave, opportunity_start, reads_beacon, next_heard}
use Rattle.t1s_turns.specs.ControlOverWaves.{WaitingControl, listens, fades, syncs, counts, commit_of}
use Rattle.t1s_turns.specs.DriveOverWaves.{Lapses}
use Rattle.t1s_turns.proofs.ShownCarrier.{CarrierShown, lasts_on, gone, caught}
use Rattle.t1s_world.proofs.Opportunities.{opportunity_first, opportunity_next, opportunity_far, opportunity_low, opportunity_one}

-- what becomes of the opportunity of ID x
pub data OpportunityOutcome (n : CycleSettings) (burst : ℕ) (ready : Bool) (x : ℕ) : State × TxCmd → Type 0 where
  beacons : n.owns 0 ≡ true → n.count ≤ x → OpportunityOutcome n burst ready x (Beacon 20, BeaconCmd)
  commits : n.owns x ≡ true → ready ≡ true → OpportunityOutcome n burst ready x (commit_of x burst, CommitCmd)
  sleeps : n.owns 0 ≡ false → x ≡ 255 → OpportunityOutcome n burst ready x (Resync, NoCmd)
  waits : x ≤ 254 → (n.owns 0 ≡ true → x < n.count) → (n.owns x ≡ true → ready ≡ false) → OpportunityOutcome n burst ready x (WaitTo x n.to, NoCmd)

module _ (s : ControlSet) (n : CycleSettings) (is : IsCycleSettings n) (same_owns : (x : ℕ) → n.owns x ≡ mine s x) (same_count : s.count ≡ n.count) (same_to : s.to ≡ n.to) where
  abbrev Outcome : Bool → ℕ → State × TxCmd → Type 0
  Outcome ready x next = OpportunityOutcome n s.burst ready x next

  low : (zero : Bool) (x : ℕ) → s.count ≤ 254 → (zero && nat_le s.count x) ≡ false → (not zero && nat_le 255 x) ≡ false → x ≤ 254
  low true x counted before awake = grind (arith, nat_tests, before, counted)
  low false x counted before awake = grind (arith, nat_tests, awake)

  pub reached : (ready : Bool) (x : ℕ) → x ≤ 255 → Outcome ready x (reach s ready x)
  reached ready x few =
      let zero = same_owns 0 in
      let owned = same_owns x in
      let counted : s.count ≤ 254 = omega (arith, same_count, is.count_high) in
      cond_both (coord s && nat_le s.count x) _ _ (Outcome ready x)
      (λ e. beacons (grind (arith, nat_tests, e, zero)) (grind (arith, nat_tests, e, same_count)))
      (λ no. cond_both (mine s x && ready) _ _ (Outcome ready x)
      (λ e. commits (grind (arith, nat_tests, e, owned)) (grind (arith, nat_tests, e)))
      (λ none. cond_both (not (coord s) && nat_le 255 x) _ _ (Outcome ready x)
      (λ e. sleeps (grind (arith, nat_tests, e, zero)) (grind (arith, nat_tests, e, few)))
      (λ awake. subst (λ (m : ℕ). Outcome ready x (WaitTo x m, NoCmd)) (sym same_to)
      (waits (low (coord s) x counted no awake) (λ own. grind (arith, nat_tests, no, zero, own, same_count)) (λ own. grind (arith, nat_tests, none, own, owned))))))

  -- What a tick comes to, where `came` are the waves that have come and `crs` is the carrier that control is shown. The node
  -- drives nothing, and waits on behind the wave a or behind a newer one; or it passes all IDs; or it starts to drive as the
  -- opportunity of x begins behind a.
  pub data NextControl (t : ℕ) (came : List Wave) (a : Wave) (ready : Bool) : Bool → State × TxCmd → Type 0 where
    goes_on : {crs : Bool} {st : State} → (crs ≡ false) ⊎ (t < a.till + n.fall) → ((x : ℕ) → a.next ≤ x → t ≡ opportunity_start n a x → Lapses n ready x) → WaitingControl n (t + 1) a st → NextControl t came a ready crs (st, NoCmd)
    newer : {st : State} (w : Wave) (rest : List Wave) → came ≡ w ∷ a ∷ rest → w.own ≡ false → t ≡ w.from + n.rise → WaitingControl n (t + 1) w st → NextControl t came a ready true (st, NoCmd)
    sleeps_in : n.owns 0 ≡ false → t ≡ opportunity_start n a 255 → NextControl t came a ready false (Resync, NoCmd)
    starts_beacon : n.owns 0 ≡ true → t ≡ opportunity_start n a n.count → a.next ≤ n.count → NextControl t came a ready false (Beacon 20, BeaconCmd)
    starts_commit : (x : ℕ) → n.owns x ≡ true → t ≡ opportunity_start n a x → a.next ≤ x → ready ≡ true → NextControl t came a ready false (commit_of x s.burst, CommitCmd)

  pub from_reach : (t : ℕ) (came : List Wave) (a : Wave) (ready : Bool) (x : ℕ) (next : State × TxCmd) → t ≡ opportunity_start n a x → a.next ≤ x → (n.owns 0 ≡ true → x ≤ n.count) → a.till + n.fall ≤ t
      → Outcome ready x next → NextControl t came a ready false next
  from_reach t came a ready x _ at first top past (beacons zero all) =
      let last : x ≡ n.count = (let low = top zero in omega (arith, all, low)) in
      starts_beacon zero (at ∙ ap (opportunity_start n a) last) (omega (arith, first, last))
  from_reach t came a ready x _ at first top past (commits own some) = starts_commit x own at first some
  from_reach t came a ready x _ at first top past (sleeps follower last) = sleeps_in follower (at ∙ ap (opportunity_start n a) last)
  from_reach t came a ready x _ at first top past (waits low more none) =
      goes_on (inl refl) (λ y order now. lapsed y (opportunity_one n a y x (omega (arith, is.to_high, is.rise_low)) order first (sym now ∙ at)))
      (counts {a = a} x n.to (omega (arith, past)) (omega (arith, at)) (omega (arith, is.to_high, is.rise_low)) (omega arith) first low more)
    where
      lapsed : (y : ℕ) → y ≡ x → Lapses n ready y
      lapsed y e = record {
        own = λ its. none (subst (λ (z : ℕ). n.owns z ≡ true) e its);
        coordinator = λ zero. let below = more zero in omega (arith, below, e);
      }

  -- while carrier of a wave lasts no opportunity begins behind it
  none_begins : (t : ℕ) (a : Wave) (ready : Bool) → t < a.till + n.fall → (x : ℕ) → a.next ≤ x → t ≡ opportunity_start n a x → Lapses n ready x
  none_begins t a ready before x order now = absurd (omega (arith, before, now, opportunity_low n a x))

  -- nor within one
  none_within : (t c m : ℕ) (a : Wave) (ready : Bool) → t + m ≡ opportunity_start n a c + n.to + 1 → 1 < m → m ≤ n.to → a.next ≤ c
      → (x : ℕ) → a.next ≤ x → t ≡ opportunity_start n a x → Lapses n ready x
  none_within t c m a ready at some most low x order now = elim (cases_lt c x) [
    | inl lt ↦ let room = opportunity_far n a c x low lt in absurd (omega (arith, room, at, some, now))
    | inr ge ↦ elim (cases_eq x c) [
      | inl equal ↦ let e : opportunity_start n a x ≡ opportunity_start n a c = ap (opportunity_start n a) equal in absurd (omega (arith, e, at, most, now))
      | inr other ↦ let room = opportunity_far n a x c order (omega (arith, ge, other)) in absurd (omega (arith, room, at, most, now))
    ]
  ]

  -- the count at which a newer wave is caught is its place
  count_is : (t c m : ℕ) (a w : Wave) → t + m ≡ opportunity_start n a c + n.to + 1 → 1 ≤ m → m ≤ n.to → a.next ≤ c
      → opportunity_start n a w.place + 1 ≤ t → t ≤ opportunity_start n a w.place + n.to → a.next ≤ w.place → c ≡ w.place
  count_is t c m a w at some few first low high order = elim (cases_eq c w.place) [
    | inl e ↦ e
    | inr other ↦ elim (cases_lt c w.place) [
      | inl lt ↦ let room = opportunity_far n a c w.place first lt in absurd (omega (arith, room, at, some, few, low, high))
      | inr ge ↦ let room = opportunity_far n a w.place c order (omega (arith, ge, other)) in absurd (omega (arith, room, at, some, few, low, high))
    ]
  ]

  module _ (t : ℕ) (came : List Wave) (a : Wave) (i : ControlIn)
      (read : a.own ≡ false → t ≡ a.till + n.fall → is_beacon i.class ≡ reads_beacon a)
      (not_own : n.owns 0 ≡ true → a.own ≡ false → reads_beacon a ≡ false) (next_is : a.till < t → a.next ≡ next_heard a) where
    at_first : (x : ℕ) → a.next ≡ x → t ≡ a.till + n.fall → t ≡ opportunity_start n a x
    at_first x first at = at ∙ sym (opportunity_first n a) ∙ ap (opportunity_start n a) first

    -- at the end of the wave
    ends : (x : ℕ) → a.next ≡ x → t ≡ a.till + n.fall → a.next ≤ n.count → NextControl t came a i.ready false (reach s i.ready x)
    ends x first at low =
        let begins : t ≡ opportunity_start n a x = at_first x first at in
        from_reach t came a i.ready x (reach s i.ready x) begins (omega (arith, first)) (λ _. omega (arith, first, low)) (omega (arith, at)) (reached i.ready x (omega (arith, first, low, is.count_high)))

    -- the row of a wave that has gone, by whether it was a beacon
    gone_row : (b : Bool) → reads_beacon a ≡ b → is_beacon i.class ≡ b → i.crs ≡ false → a.own ≡ false → t ≡ a.till + n.fall → a.next ≤ n.count → NextControl t came a i.ready false (control_row s (Receive a.place) i)
    gone_row true flag class off other at low =
        let follows : coord s ≡ false = by_coord (coord s) refl in
        let row : control_row s (Receive a.place) i ≡ reach s i.ready 0 = rw (off, class, follows) refl in
        rw row (ends 0 (next_is (omega (arith, at, is.fall_low)) ∙ rw flag refl) at low)
      where
        by_coord : (b : Bool) → coord s ≡ b → b ≡ false
        by_coord true owns = absurd (false≢true (sym (not_own (same_owns 0 ∙ owns) other) ∙ flag))
        by_coord false owns = refl
    gone_row false flag class off other at low = rw (off, class) (ends (a.place + 1) (next_is (omega (arith, at, is.fall_low)) ∙ rw flag refl) at low)

    pub listening : (b : Bool) → CarrierShown n t came a b → i.crs ≡ b → a.own ≡ false → t ≤ a.till + n.fall → a.next ≤ n.count → NextControl t came a i.ready b (control_row s (Receive a.place) i)
    listening _ (lasts_on before) e other within low = rw e (goes_on (inr before) (none_begins t a i.ready before) (listens {a = a} other (omega (arith, before))))
    listening _ (gone after) e other within low = gone_row (reads_beacon a) refl (read other (omega (arith, within, after))) e other (omega (arith, within, after)) low
    listening _ (caught w rest is_newest theirs at over low high order) e other within _ = absurd (omega (arith, low, within, opportunity_low n a w.place))

    pub counting : (b : Bool) (c m : ℕ) → CarrierShown n t came a b → i.crs ≡ b → a.till + n.fall < t → t + m ≡ opportunity_start n a c + n.to + 1 → 1 ≤ m → m ≤ n.to → a.next ≤ c
        → c ≤ 254 → (n.owns 0 ≡ true → c < n.count) → NextControl t came a i.ready b (control_row s (WaitTo c m) i)
    counting _ c m (lasts_on before) e past at some most first low coordinator = absurd (omega (arith, before, past))
    counting _ c m (caught w rest is_newest theirs now over least high order) e past at some most first low coordinator =
        let same : c ≡ w.place = count_is t c m a w at some most first least high order in
        rw (e, same) (newer w rest is_newest theirs now (listens {a = w} theirs (omega (arith, over))))
    counting _ c m (gone after) e past at some most first low coordinator = elim (cases_eq m 1) [
      | inl one ↦
          let b : (m == 1) ≡ true = grind (arith, nat_tests, one) in
          let begins : t ≡ opportunity_start n a (c + 1) = omega (arith, at, one, opportunity_next n a c first) in
          rw (e, b) (from_reach t came a i.ready (c + 1) (reach s i.ready (c + 1)) begins (omega (arith, first)) (λ zero. let below = coordinator zero in omega (arith, below)) (omega (arith, past)) (reached i.ready (c + 1) (omega (arith, low))))
      | inr not_one ↦
          let b : (m == 1) ≡ false = grind (arith, nat_tests, not_one) in
          rw (e, b) (goes_on (inl refl) (none_within t c m a i.ready at (omega (arith, some, not_one)) most first) (counts {a = a} c (m - 1) (omega (arith, past)) (omega (arith, at, some, not_one)) (omega (arith, some, not_one)) (omega (arith, most)) first low coordinator))
    ]

    pub syncing : (b : Bool) → CarrierShown n t came a b → i.crs ≡ b → a.own ≡ true → reads_beacon a ≡ true → a.till < t → t ≤ a.till + n.fall → NextControl t came a i.ready b (control_row s Syncing i)
    syncing _ (lasts_on before) e own whole after within = rw e (goes_on (inr before) (none_begins t a i.ready before) (syncs {a = a} own whole (omega (arith, after)) (omega (arith, before))))
    syncing _ (gone now) e own whole after within = let first : a.next ≡ 0 = next_is after ∙ rw whole refl in rw e (ends 0 first (omega (arith, now, within)) (omega (arith, first)))
    syncing _ (caught w rest is_newest theirs at over low high order) e own whole after within = absurd (omega (arith, low, within, opportunity_low n a w.place))

    pub draining : (b : Bool) → CarrierShown n t came a b → i.crs ≡ b → a.own ≡ true → a.beacon ≡ false → n.owns a.place ≡ true → a.till < t → t ≤ a.till + n.fall → NextControl t came a i.ready b (control_row s (Drain a.place) i)
    draining _ (lasts_on before) e own flag own_id after within = rw e (goes_on (inr before) (none_begins t a i.ready before) (fades {a = a} own flag own_id (omega (arith, after)) (omega (arith, before))))
    draining _ (gone now) e own flag own_id after within =
        let first : a.next ≡ a.place + 1 = next_is after ∙ rw flag refl in
        rw e (ends (a.place + 1) first (omega (arith, now, within)) (omega (arith, first, is.low_ids a.place own_id)))
    draining _ (caught w rest is_newest theirs at over low high order) e own flag own_id after within = absurd (omega (arith, low, within, opportunity_low n a w.place))
