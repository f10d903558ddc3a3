-- Signals meet at a node exactly where a noise lasts or two drives are over its point; and what is counted of it.
use Rattle.std.proofs.Common.{◌≡◌, ℕ, zero, suc, ◌+◌, ◌-◌, ◌<◌, ◌≤◌, ◌⊎◌, inl, inr, Bool, true, false, ◌&&◌, ◌||◌, lt-ltb, le-ltb, List, [], ◌∷◌, length, Some, is_some, refl, sym, ◌∙◌, ap, subst, arith, zero-add}
use Rattle.std.specs.Prelude.{◌≢◌, slice_get}
use Rattle.std.proofs.lemmas.Bool.{cases_lt, cases_eq, cases_Bool, and_parts}
use Rattle.std.proofs.lemmas.List.{length-map}
use Rattle.t1s_harness.specs.Distances.{distance}
use Rattle.t1s_harness.proofs.Distances.{distance_self, distance_symm, far_point}
use Rattle.t1s_symbols.specs.declared.Quarter.{Quarter}
use Rattle.t1s_world.specs.Drives.{IsDrive}
use Rattle.t1s_world.specs.Events.{count_below, IsNumberBelow}
use Rattle.t1s_world.specs.Hearing.{heard_of}
use Rattle.t1s_world.specs.Schedule.{Drive, IsOver}
use Rattle.t1s_world.proofs.Arrivals.{Reaches, arrivals, heard_is, one_reaches, two_reach, one_heard, two_heard}
use Rattle.t1s_world.proofs.DriveTicks.{drive_at, one_start}
use Rattle.t1s_world.proofs.EventLemmas.{none_counted}
use Rattle.t1s_world.proofs.WorldLemmas.{driven_past}
use Rattle.t1s_node.specs.Node.{is_heard, is_many}
use Rattle.t1s_script.specs.declared.script.Script.{Script}
use Rattle.t1s_script.specs.declared.script.NodeLine.{NodeLine}
use Rattle.t1s_script.specs.Taps.{tap_of, taps_of}
use Rattle.t1s_line.specs.declared.totals.NodeTotals.{NodeTotals}
use Rattle.t1s_line.specs.Acts.{is_noisy}
use Rattle.t1s_line.specs.Clashes.{AreTwo, point_of, far_from, IsDriveBelow, DrivesMeet, SignalsMeet}
use Rattle.t1s_line.specs.World.{machine_of, first_track, first_tracks, start_of, driven_in, clash_at, totals_from, totals_below}
use Rattle.t1s_line.proofs.HeardTicks.{clash_is}

-- ---- how many signals meet

-- signals meet where a node that drives or not hears these
abbrev meets : Bool → List Quarter → Bool
meets drives qs = is_many (heard_of qs) || (drives && is_heard (heard_of qs))

several : (drives : Bool) (qs : List Quarter) → meets drives qs ≡ true → (2 ≤ length qs) ⊎ ((drives ≡ true) × (1 ≤ length qs))
several drives [] e = let none : false ≡ true = (and_parts drives false e).1 in absurd (cc)
several drives (q ∷ []) e = inr ((and_parts drives true e).0, omega arith)
several drives (q ∷ r ∷ qs) e = inl (omega arith)

two_meet : (drives : Bool) (qs : List Quarter) → 2 ≤ length qs → meets drives qs ≡ true
two_meet drives [] some = absurd (omega (arith, some))
two_meet drives (q ∷ []) some = absurd (omega (arith, some))
two_meet drives (q ∷ r ∷ qs) some = refl

one_meets : (drives : Bool) (qs : List Quarter) → drives ≡ true → 1 ≤ length qs → meets drives qs ≡ true
one_meets drives [] own some = absurd (omega (arith, some))
one_meets drives (q ∷ []) own some = rw own refl
one_meets drives (q ∷ r ∷ qs) own some = refl

module _ (s : Script) (T t j : ℕ) (below : t < T) where
  abbrev ReachesIn : ℕ → Type 0
  ReachesIn i = Reaches (machine_of s) (taps_of s) (first_tracks s) t j i

  abbrev arrivals_in : List Quarter
  arrivals_in = arrivals (machine_of s) (taps_of s) (first_tracks s) t j

  -- a drive of node i is over the point of node j
  abbrev IsOverBy : Drive → Type 0
  IsOverBy a = IsDriveBelow s T a × IsOver (far_from s) a (point_of s j) t

  -- ---- who reaches the point, and by which drive

  -- the way is the same from either end
  way_is : (i : ℕ) → far_from s i (point_of s j) ≡ distance (taps_of s) j i
  way_is i = far_point (taps_of s) i j ∙ distance_symm (taps_of s) i j

  by_drive : (i : ℕ) → ReachesIn i → (a : Drive) × (a.node ≡ i) × IsOverBy a
  by_drive i r =
      let near = r.near in
      let way = way_is i in
      let (a, e, is, from, till) = drive_at (driven_in s i) T (t - distance (taps_of s) j i) (omega (arith, below)) r.drives in (
        record { node = i; beacon = false; place = 0; start = a; stop = e },
        refl,
        (is, record { reached = omega (arith, near, from, way); lasts = omega (arith, near, till, way) }),
      )

  reached_by : (a : Drive) → IsOverBy a → ReachesIn a.node
  reached_by a (is, over) =
      let from = over.reached in
      let till = over.lasts in
      let way = way_is a.node in
      record {
        near = omega (arith, from, way);
        drives = is.all (t - distance (taps_of s) j a.node) (omega (arith, from, way)) (omega (arith, from, till, way));
      }

  -- a node reaches its own point in the ticks in which it drives
  itself : is_some (driven_in s j t) ≡ true → ReachesIn j
  itself drives =
      let none = distance_self (taps_of s) j in
      let now : t - distance (taps_of s) j j ≡ t = omega (arith, none) in
      record { near = omega (arith, none); drives = ap (λ u. is_some (driven_in s j u)) now ∙ drives }

  from_itself : ReachesIn j → is_some (driven_in s j t) ≡ true
  from_itself r =
      let now : t - distance (taps_of s) j j ≡ t = omega (arith, distance_self (taps_of s) j) in
      ap (λ u. is_some (driven_in s j u)) (sym now) ∙ r.drives

  among : (i : ℕ) → ReachesIn i → i < length (taps_of s)
  among i r = elim (cases_lt i (length s.nodes)) [
    | inl lt ↦ omega (arith, lt, length-map s.nodes tap_of)
    | inr past ↦
        let u : ℕ = t - distance (taps_of s) j i in
        let none = driven_past (machine_of s) (taps_of s) (first_tracks s) u i (omega (arith, past, length-map s.nodes (first_track s))) in
        let drives = r.drives in
        absurd (let no = rw none at drives in cc)
  ]

  -- two drives that are over the point are of two nodes
  of_two_nodes : (a b : Drive) → AreTwo a b → IsOverBy a → IsOverBy b → a.node ≢ b.node
  of_two_nodes a b (inl nodes) by_a by_b same = nodes same
  of_two_nodes a b (inr starts) (is_a, over_a) (is_b, over_b) same =
      let theirs : IsDrive (driven_in s a.node) T b.start b.stop = subst (λ i. IsDrive (driven_in s i) T b.start b.stop) (sym same) is_b in
      let far : far_from s a.node (point_of s j) ≡ far_from s b.node (point_of s j) = ap (λ i. far_from s i (point_of s j)) same in
      let from = over_a.reached in
      let till = over_a.lasts in
      let low = over_b.reached in
      let high = over_b.lasts in
      starts
      (one_start (driven_in s a.node) T a.start a.stop b.start b.stop (t - far_from s a.node (point_of s j)) is_a theirs
      (omega (arith, from)) (omega (arith, from, till)) (omega (arith, low, far)) (omega (arith, low, high, far)))

  -- ---- where two drives meet, and where they are heard to meet

  meet_of : (i k : ℕ) → i ≢ k → ReachesIn i → ReachesIn k → DrivesMeet s T j t
  meet_of i k apart one other =
      let (a, of_a, by_a) = by_drive i one in
      let (b, of_b, by_b) = by_drive k other in
      record {
        one = a;
        other = b;
        two = inl (λ same. apart (sym of_a ∙ (same ∙ of_b)));
        is_one = by_a.0;
        is_other = by_b.0;
        one_over = by_a.1;
        other_over = by_b.1;
      }

  drives_meet : meets (is_some (driven_in s j t)) arrivals_in ≡ true → DrivesMeet s T j t
  drives_meet e = elim (several (is_some (driven_in s j t)) arrivals_in e) [
    | inl many ↦
        let (i, k, less, _, _, one, other) = two_reach (machine_of s) (taps_of s) (first_tracks s) t j many in
        meet_of i k (λ same. omega (arith, less, same)) one other
    | inr (drives, some) ↦
        let (i, other, reaching) = one_reaches (machine_of s) (taps_of s) (first_tracks s) t j some in
        meet_of i j other reaching (itself drives)
  ]

  one_more : (i : ℕ) → i ≢ j → ReachesIn i → ReachesIn j → meets (is_some (driven_in s j t)) arrivals_in ≡ true
  one_more i other there own =
      one_meets (is_some (driven_in s j t)) arrivals_in (from_itself own)
      (one_heard (machine_of s) (taps_of s) (first_tracks s) t j i (among i there) other there)

  two_more : (i k : ℕ) → i < k → i ≢ j → k ≢ j → ReachesIn i → ReachesIn k → meets (is_some (driven_in s j t)) arrivals_in ≡ true
  two_more i k less one other first second =
      two_meet (is_some (driven_in s j t)) arrivals_in
      (two_heard (machine_of s) (taps_of s) (first_tracks s) t j i k less (among k second) one other first second)

  reach_meets : (i k : ℕ) → i ≢ k → ReachesIn i → ReachesIn k → meets (is_some (driven_in s j t)) arrivals_in ≡ true
  reach_meets i k apart one other = elim (cases_eq i j) [
    | inl mine ↦ one_more k (λ same. apart (mine ∙ sym same)) other (subst (λ x. ReachesIn x) mine one)
    | inr first ↦ elim (cases_eq k j) [
      | inl mine ↦ one_more i first one (subst (λ x. ReachesIn x) mine other)
      | inr second ↦ elim (cases_lt i k) [
        | inl less ↦ two_more i k less first second one other
        | inr more ↦ two_more k i (omega (arith, more, apart)) second first other one
      ]
    ]
  ]

  heard_to_meet : DrivesMeet s T j t → meets (is_some (driven_in s j t)) arrivals_in ≡ true
  heard_to_meet m =
      reach_meets m.one.node m.other.node (of_two_nodes m.one m.other m.two (m.is_one, m.one_over) (m.is_other, m.other_over))
      (reached_by m.one (m.is_one, m.one_over)) (reached_by m.other (m.is_other, m.other_over))

  -- ---- the node's own counter

  module _ (there : j < length s.nodes) where
    -- what comes to the node with a noise, and without one
    noise_comes : is_noisy s.acts t ≡ true → start_of s j ≤ t → clash_at s j t ≡ true
    noise_comes noisy started = rw (clash_is s t j there, le-ltb t (start_of s j) started, noisy) refl

    quiet_is : is_noisy s.acts t ≡ false → start_of s j ≤ t → clash_at s j t ≡ meets (is_some (driven_in s j t)) arrivals_in
    quiet_is quiet started =
        rw (clash_is s t j there, le-ltb t (start_of s j) started, quiet, heard_is (machine_of s) (taps_of s) (first_tracks s) t j) refl

    pub clash_tells : clash_at s j t ≡ true → SignalsMeet s T j t
    clash_tells e = elim (cases_lt t (start_of s j)) [
      | inl early ↦
          let none : clash_at s j t ≡ false = rw (clash_is s t j there, lt-ltb t (start_of s j) early) refl in
          absurd (cc)
      | inr started ↦ elim (cases_Bool (is_noisy s.acts t)) [
        | inl noisy ↦ record { started = started; cause = inl noisy }
        | inr quiet ↦ record { started = started; cause = inr (drives_meet (sym (quiet_is quiet started) ∙ e)) }
      ]
    ]

    pub clash_told : SignalsMeet s T j t → clash_at s j t ≡ true
    clash_told m = elim (cases_Bool (is_noisy s.acts t)) [
      | inl noisy ↦ noise_comes noisy m.started
      | inr quiet ↦ quiet_is quiet m.started ∙ by m.cause quiet
    ]
      where
        by : (is_noisy s.acts t ≡ true) ⊎ DrivesMeet s T j t → is_noisy s.acts t ≡ false → meets (is_some (driven_in s j t)) arrivals_in ≡ true
        by (inl noisy) quiet = absurd (cc)
        by (inr meet) quiet = heard_to_meet meet

-- ---- what is counted of it

counted_at : (s : Script) (T i : ℕ) (ns : List NodeLine) (k : ℕ) (n : NodeTotals) → slice_get (totals_from s T i ns) k ≡ Some n
    → (k < length ns) × (n.clash ≡ count_below (clash_at s (i + k)) T)
counted_at s T i [] k n e = cc
counted_at s T i (l ∷ ns) zero n e =
    let here : i + 0 ≡ i = omega arith in
    (omega arith, rw here cc)
counted_at s T i (l ∷ ns) (suc k) n e =
    let (below, is) = counted_at s T (i + 1) ns k n e in
    let next : i + suc k ≡ i + 1 + k = omega arith in
    (omega (arith, below), rw next is)

counter_is : (s : Script) (T j : ℕ) (n : NodeTotals) → slice_get (totals_below s T) j ≡ Some n
    → (j < length s.nodes) × (n.clash ≡ count_below (clash_at s j) T)
unfolding totals_below
counter_is s T j n e = rw zero-add at (counted_at s T 0 s.nodes j n e)

pub clashes_are_meetings : (s : Script) (T j : ℕ) (n : NodeTotals) → slice_get (totals_below s T) j ≡ Some n → IsNumberBelow (SignalsMeet s T j) T n.clash
clashes_are_meetings s T j n told =
    let (there, is) = counter_is s T j n told in
    record {
      test = clash_at s j;
      exact = λ t below. (clash_tells s T t j below there, clash_told s T t j below there);
      count = is;
    }

pub none_counted_none_meet : (s : Script) (T j : ℕ) (n : NodeTotals) → slice_get (totals_below s T) j ≡ Some n → n.clash ≡ 0
    → (t : ℕ) → start_of s j ≤ t → t < T → DrivesMeet s T j t → ⊥
none_counted_none_meet s T j n told zero_told t started below meet =
    let (there, is) = counter_is s T j n told in
    none_counted (clash_at s j) T (sym is ∙ zero_told) t below (clash_told s T t j below there (record { started = started; cause = inr meet }))
