-- The one node with ID 0 in its world: what it drives in each tick, and its drives.
use Rattle.std.proofs.Common.{◌≡◌, ℕ, zero, suc, ◌+◌, ◌-◌, ◌*◌, ◌%◌, ◌<◌, ◌≤◌, ◌⊎◌, inl, inr, Bool, true, false, cond, refl, arith, Option, Some, None, ◌∙◌, sym, ap, subst, min, [], ◌↔◌}
use Rattle.std.specs.Prelude.{slice_get, IsSome, IsNone}
use Rattle.std.proofs.lemmas.Bool.{cases_lt, cases_eq, false≢true}
use Rattle.std.proofs.Math.Nat.{mul-le-mul_right}
use Rattle.std.proofs.lemmas.Option.{slice_get_cases, slice_get_within, get_or_from_slice_get}
use Rattle.std.proofs.lemmas.List.{length-map}
use Rattle.t1s_base.specs.NodeIds.{has_id}
use Rattle.t1s_symbols.specs.declared.Heard.{Heard}
use Rattle.t1s_symbols.specs.declared.Heard.TheVariants.{Nothing}
use Rattle.t1s_symbols.specs.declared.Quarter.{Quarter}
use Rattle.t1s_symbols.specs.declared.Symbol.TheVariants.{N}
use Rattle.t1s_world.specs.World.{heard_at, at_depth}
use Rattle.t1s_world.specs.Drives.{IsDrive}
use Rattle.t1s_world.proofs.HearingLemmas.{heard_nothing}
use Rattle.t1s_world.proofs.ListLemmas.{slice_get-map}
use Rattle.t1s_world.proofs.WorldLemmas.{past-zero, kept_next, driven_is, driven_past, at_depth-within, at_depth-before}
use Rattle.t1s_script.specs.Script.{IsScript, IsNodeLine}
use Rattle.t1s_script.specs.declared.script.Script.{Script}
use Rattle.t1s_script.specs.declared.script.NodeLine.{NodeLine}
use Rattle.t1s_script.specs.Taps.{taps_of}
use Rattle.t1s_scramble.specs.Scrambled.{start_history}
use Rattle.t1s_pcs_tx.specs.State.{quarter_of}
use Rattle.plca_control.specs.declared.State.TheVariants.{Disabled, Recover, Resync}
use Rattle.plca_control.specs.ControlTable.{is_out}
use Rattle.t1s_node.specs.Node.{NodeState}
use Rattle.t1s_line.specs.declared.track.Track.{Track}
use Rattle.t1s_line.specs.Outcomes.{DriveOutcome, HearOutcome}
use Rattle.t1s_line.specs.Track.{drive_track, hear_track, driven_track, hearing_track}
use Rattle.t1s_line.specs.World.{machine_of, world, first_track, first_tracks, driven_in}
use Rattle.t1s_line.specs.Beacons.{IsLoneCoordinator, beacon_start, IsBeacon, DrivesAreBeacons}
use Rattle.t1s_line.proofs.HeardTicks.{drive_started, hear_started}
use Rattle.t1s_line.proofs.WithoutActs.{tick_alone, quarter_alone}
use Rattle.t1s_line.proofs.Frameless.{node_drives}
use Rattle.t1s_line.proofs.Silents.{silent_drives_none, first_frameless}
use Rattle.t1s_line.proofs.Rounds.{lone, AtTick, Phase, sending, fading, turn, at_next}

-- one tick of a started node that hears nothing
alone : (t : ℕ) (x : Heard) (k : Track) → x ≡ Nothing → k.start ≡ 0 → (hear_track t x (drive_track t k).0).0 ≡ hearing_track Nothing (driven_track k)
alone t x k e start =
    ap (λ (r : Track × DriveOutcome). (hear_track t x r.0).0) (drive_started t k (omega (arith, start)))
    ∙ (ap (λ (r : Track × HearOutcome). r.0) (hear_started t x (driven_track k) (omega (arith, start)))
    ∙ ap (λ (y : Heard). hearing_track y (driven_track k)) e)

-- control of a node with ID 0 begins in Recover, where it takes part
first_recovers : (out coordinates : Bool) → out ≡ false → coordinates ≡ true → cond out Disabled (cond coordinates (Recover 0) Resync) ≡ Recover 0
first_recovers out coordinates part zero_id = rw (part, zero_id) refl

-- the place in a round is determined
same_place : (period k r l q : ℕ) → r < period → q < period → k * period + r ≡ l * period + q → r ≡ q
same_place period k r l q hr hq e = elim (cases_lt k l) [
  | inl lt ↦ let room = mul-le-mul_right period lt in absurd (omega (arith, room))
  | inr ge ↦ elim (cases_lt l k) [
    | inl lt ↦ let room = mul-le-mul_right period lt in absurd (omega (arith, room))
    | inr le ↦ let same : k ≡ l = omega arith in let rounds : k * period ≡ l * period = ap (λ (x : ℕ). x * period) same in omega (arith, rounds)
  ]
]

none_from : (o : Option Quarter) → (IsSome o → ⊥) → IsNone o
none_from None h = refl
none_from (Some q) h = absurd (h refl)

none_not_some : (o : Option Quarter) → IsNone o → IsSome o → ⊥
none_not_some o h k = false≢true (sym h ∙ k)

part_of : (r part symbol : ℕ) → part < 4 → r ≡ 4 * symbol + part → part ≡ r % 4
part_of r part symbol low e = omega arith

-- a node that drives does so in the first 20 ticks of a round, symbol by symbol
module _ (ids wait up down : ℕ) where
  quarter_of_phase : (r : ℕ) (n : NodeState) → Phase ids wait up down r n → (quarter_of n.core.tx ≡ Some (record { sym = N; part = r % 4 })) × (r < 20) ⊎ (quarter_of n.core.tx ≡ None) × (20 ≤ r)
  quarter_of_phase r n (sending h) = inl (rw (h.driving.tx, part_of r h.part h.symbol h.part_low h.part_is) refl, h.within)
  quarter_of_phase r n (fading h) = inr (rw h.quiet.tx refl, h.after)
  quarter_of_phase r n (turn h) = inr (rw h.quiet.tx refl, omega (arith, h.place, h.m_high))

  sending_from : (t : ℕ) (n : NodeState) → AtTick ids wait up down (t + 1) n → IsSome (quarter_of n.core.tx) → (k : ℕ) × (r : ℕ) × (r < 20) × (t ≡ 258 * wait + k * (20 + down + ids * wait) + r)
  sending_from t n (inl h) some = let no : IsNone (quarter_of n.core.tx) = rw h.1.quiet.tx refl in absurd (none_not_some (quarter_of n.core.tx) no some)
  sending_from t n (inr h) some = elim (quarter_of_phase h.r n h.phase) [
    | inl drives ↦ (h.k, h.r, drives.1, omega (arith, h.time))
    | inr quiet ↦ let no : IsNone (quarter_of n.core.tx) = rw quiet.0 refl in absurd (none_not_some (quarter_of n.core.tx) no some)
  ]

  sending_to : (t : ℕ) (n : NodeState) → AtTick ids wait up down (t + 1) n → (k r : ℕ) → r < 20 → t ≡ 258 * wait + k * (20 + down + ids * wait) + r → quarter_of n.core.tx ≡ Some (record { sym = N; part = r % 4 })
  sending_to t n (inl h) k r lt e = absurd (omega (arith, h.0))
  sending_to t n (inr h) k r lt e =
      let same : h.r ≡ r = same_place (20 + down + ids * wait) h.k h.r k r h.within (omega arith) (omega (arith, h.time)) in
      elim (quarter_of_phase h.r n h.phase) [
        | inl drives ↦ rw same at drives.0
        | inr quiet ↦ absurd (omega (arith, quiet.1))
      ]

-- the drives of a node that drives in the first 20 ticks of each period
module _ (D : ℕ → Option Quarter) (first period : ℕ) (long : 20 < period) (is : (t : ℕ) → IsSome (D t) ↔ ((k : ℕ) × (r : ℕ) × (r < 20) × (t ≡ first + k * period + r))) where
  none_before : (t k : ℕ) → suc t ≡ first + k * period → IsNone (D t)
  none_before t k e = none_from (D t) (λ some.
      let (l, q, low, at) = (is t).0 some in
      let same : q + 1 ≡ 0 = same_place period l (q + 1) k 0 (omega arith) (omega arith) (omega arith) in
      omega arith)

  none_after : (t k : ℕ) → t ≡ first + k * period + 20 → IsNone (D t)
  none_after t k e = none_from (D t) (λ some.
      let (l, q, low, at) = (is t).0 some in
      let same : q ≡ 20 = same_place period l q k 20 (omega arith) long (omega arith) in
      omega arith)

  to_drive : (T a e k : ℕ) → a ≡ first + k * period → a < T → e ≡ min (a + 20) T → IsDrive D T a e
  to_drive T a e k at lt end =
      record {
        some = omega arith;
        within = omega arith;
        all = λ t from to. (is t).1 (k, t - a, omega arith, omega arith);
        before = λ t next. none_before t k (omega arith);
        after = λ more. none_after e k (omega arith);
      }

  from_drive : (T a e : ℕ) → IsDrive D T a e → (k : ℕ) × (a ≡ first + k * period) × (a < T) × (e ≡ min (a + 20) T)
  from_drive T a e h =
      let (k, r, low, at) = (is a).0 (h.all a (omega arith) h.some) in
      let begins : a ≡ first + k * period = elim (cases_eq r 0) [
        | inl zero_r ↦ omega arith
        | inr more ↦ absurd (none_not_some (D (a - 1)) (h.before (a - 1) (omega arith)) ((is (a - 1)).1 (k, r - 1, omega arith, omega arith)))
      ] in
      let not_longer : e ≤ a + 20 = elim (cases_lt (a + 20) e) [
        | inl longer ↦ absurd (none_not_some (D (a + 20)) (none_after (a + 20) k (omega arith)) (h.all (a + 20) (omega arith) longer))
        | inr fits ↦ fits
      ] in
      let not_shorter : min (a + 20) T ≤ e = elim (cases_lt e (min (a + 20) T)) [
        | inl shorter ↦ absurd (none_not_some (D e) (h.after (omega arith)) ((is e).1 (k, e - a, omega (arith, h.some), omega (arith, h.some))))
        | inr fits ↦ fits
      ] in
      (k, begins, omega (arith, h.some, h.within), omega (arith, h.within))

module _ (s : Script) (z : ℕ) (line : NodeLine) (valid : IsScript s) (none : s.acts ≡ []) (one : IsLoneCoordinator s z line) (at_once : line.start ≡ 0) where
  in_range : IsNodeLine line
  in_range = rw (get_or_from_slice_get s.nodes z line line one.here) at (valid.nodes z line (slice_get_within s.nodes z line one.here))

  others_none : (i t : ℕ) → (i ≡ z → ⊥) → driven_in s i t ≡ None
  others_none i t other = elim (slice_get_cases s.nodes i).1 [
    | inl found ↦ silent_drives_none s none t i found.0 found.2 (one.others i found.0 found.2 other)
    | inr past ↦ driven_past (machine_of s) (taps_of s) (first_tracks s) t i (omega (arith, past.0, length-map s.nodes (first_track s)))
  ]

  rows_none : (t i d : ℕ) → (i ≡ z → ⊥) → at_depth (world s t).rows i d ≡ None
  rows_none t i d other = elim (cases_lt d t) [
    | inl lt ↦ at_depth-within (machine_of s) (taps_of s) (first_tracks s) t d (t - suc d) i (omega arith) ∙ others_none i (t - suc d) other
    | inr ge ↦ at_depth-before (machine_of s) (taps_of s) (first_tracks s) t d i ge
  ]

  hears_nothing : (t : ℕ) → heard_at (machine_of s) (taps_of s) (first_tracks s) t z ≡ Nothing
  hears_nothing t = heard_nothing (at_depth (world s (suc t)).rows) (taps_of s) z (λ i d h other. rows_none (suc t) i d other)

  next : (t : ℕ) (n : NodeState) → AtTick s.count line.to s.rise s.fall t n → AtTick s.count line.to s.rise s.fall (t + 1) (lone n)
  next t n h = at_next s.count line.to s.rise s.fall valid.count_low (omega (arith, in_range.to_low)) (omega (arith, valid.rise_high)) valid.fall_low t n h

  -- what the node keeps at first
  first_waits : AtTick s.count line.to s.rise s.fall 0 (first_track s line).node
  first_waits =
      inl (
        omega arith,
        record {
          set = record { coordinates = one.zero_id; count = refl; to = refl; rise = refl; fall = refl };
          state = first_recovers (is_out line.ids) (has_id line.ids 0) one.takes_part one.zero_id;
          quiet = record { past = start_history; tx = refl; frameless = first_frameless s line };
          carrier = refl;
        },
      )

  -- and before tick t
  kept_at : (t : ℕ) → (k : Track) × (slice_get (world s t).nodes z ≡ Some k) × (k.start ≡ 0) × AtTick s.count line.to s.rise s.fall t k.node
  kept_at zero =
      let start = past-zero (machine_of s) (taps_of s) (first_tracks s) in
      (first_track s line, rw start (slice_get-map (first_track s) s.nodes z line one.here), at_once, first_waits)
  kept_at (suc t) =
      let (k, at, start, phase) = kept_at t in
      let later = kept_next (machine_of s) (taps_of s) (first_tracks s) t z k at in
      let on : AtTick s.count line.to s.rise s.fall (t + 1) (lone k.node) = next t k.node phase in
      let same : t + 1 ≡ suc t = omega arith in
      let P : ℕ → Type 0 = λ u. AtTick s.count line.to s.rise s.fall u (lone k.node) in
      (hearing_track Nothing (driven_track k), later ∙ ap Some (tick_alone s none t (heard_at (machine_of s) (taps_of s) (first_tracks s) t z) k ∙ alone t (heard_at (machine_of s) (taps_of s) (first_tracks s) t z) k (hears_nothing t) start), start, subst P same on)

  -- what it drives in tick t, from what it keeps after it
  drives_at : (t : ℕ) → (n : NodeState) × (driven_in s z t ≡ quarter_of n.core.tx) × AtTick s.count line.to s.rise s.fall (t + 1) n
  drives_at t =
      let (k, at, start, phase) = kept_at t in (
        lone k.node,
        driven_is (machine_of s) (taps_of s) (first_tracks s) t z k at ∙ (quarter_alone s none t k ∙ rw (drive_started t k (omega (arith, start))) (node_drives k.node)),
        next t k.node phase,
      )

  symbol_at : (t k r : ℕ) → r < 20 → t ≡ beacon_start s line k + r → driven_in s z t ≡ Some (record { sym = N; part = r % 4 })
  symbol_at t k r low e =
      let (n, is, phase) = drives_at t in
      is ∙ sending_to s.count line.to s.rise s.fall t n phase k r low e

  drives_in_beacons : (t : ℕ) → IsSome (driven_in s z t) ↔ ((k : ℕ) × (r : ℕ) × (r < 20) × (t ≡ 258 * line.to + k * (20 + s.fall + s.count * line.to) + r))
  drives_in_beacons t =
      let (n, is, phase) = drives_at t in (
        λ some. sending_from s.count line.to s.rise s.fall t n phase (rw is at some),
        λ at. rw (symbol_at t at.0 at.1 at.2 at.3) refl,
      )

  long : 20 < 20 + s.fall + s.count * line.to
  long = omega (arith, valid.fall_low)

  drives_from : (i a e : ℕ) → IsDrive (driven_in s i) s.end a e → (i ≡ z) × (k : ℕ) × IsBeacon s line k a e
  drives_from i a e h = elim (cases_eq i z) [
    | inl same ↦
        let there : IsDrive (driven_in s z) s.end a e = (let P : ℕ → Type 0 = λ j. IsDrive (driven_in s j) s.end a e in subst P same h) in
        let (k, begins, below, stop) = from_drive (driven_in s z) (258 * line.to) (20 + s.fall + s.count * line.to) long drives_in_beacons s.end a e there in
        (same, k, record { start = begins; below = below; stop = stop })
    | inr other ↦
        let none : IsNone (driven_in s i a) = rw (others_none i a other) refl in
        absurd (none_not_some (driven_in s i a) none (h.all a (omega arith) h.some))
  ]

  pub drives_are_beacons : DrivesAreBeacons s z line
  drives_are_beacons = record { drives = drives; symbols = symbols }
    where
      drives : (i a e : ℕ) → IsDrive (driven_in s i) s.end a e ↔ ((i ≡ z) × (k : ℕ) × IsBeacon s line k a e)
      drives i a e = (
        λ h. drives_from i a e h,
        λ b. let P : ℕ → Type 0 = λ j. IsDrive (driven_in s j) s.end a e in
            subst P (sym b.0) (to_drive (driven_in s z) (258 * line.to) (20 + s.fall + s.count * line.to) long drives_in_beacons s.end a e b.1 b.2.start b.2.below b.2.stop),
      )

      symbols : (k a e t : ℕ) → IsBeacon s line k a e → a ≤ t → t < e → driven_in s z t ≡ Some (record { sym = N; part = (t - a) % 4 })
      symbols k a e t beacon from to = symbol_at t k (t - a) (omega (arith, beacon.stop)) (omega (arith, beacon.start))
