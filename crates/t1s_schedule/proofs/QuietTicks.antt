-- A tick in which no node of a fit script drives: the drives so far stay as they are.
use Rattle.std.proofs.Common.{◌≡◌, ℕ, ◌+◌, ◌-◌, ◌*◌, ◌<◌, ◌≤◌, inl, inr, Bool, true, nat_lt, ◌==◌, List, [], ◌∷◌, length, Option, Some, None, is_some, slice_get, refl, sym, ◌∙◌, ap, arith, rules}
use Rattle.std.proofs.lemmas.Bool.{cases_lt, cases_eq, true≢false}
use Rattle.std.proofs.lemmas.Bool.Decides.{nat_tests}
use Rattle.t1s_symbols.specs.declared.Quarter.{Quarter}
use Rattle.t1s_world.specs.Waves.{arrived, CycleSettings, Wave, BeginsBehind, lag, opportunity_start}
use Rattle.t1s_world.specs.Schedule.{Drive, next_after, EachDrive, IsWhole, IsSilent}
use Rattle.t1s_world.proofs.SeenWaves.{head_is, lag_low}
use Rattle.t1s_script.specs.declared.script.NodeLine.{NodeLine}
use Rattle.t1s_script.specs.declared.script.Script.{Script}
use Rattle.t1s_line.specs.World.{driven_in}
use Rattle.t1s_turns.specs.DriveOverWaves.{DriveOverWaves, quiet, goes_on, ends, starts_first_beacon, starts_beacon, starts_run}
use Rattle.t1s_schedule.specs.SharedLine.{far_in, at_in, first_beacon}
use Rattle.t1s_schedule.proofs.NodeRuns.{drives_before}
use Rattle.t1s_schedule.proofs.SharedState.{drives_in, Misses, is_on, none_drives, each_as, each_both, FitCable, cycle_in, SharedAt, of_nodes}
use Rattle.t1s_schedule.proofs.ScriptWaves.{cycle_is, owns_as, first_is, wave, waves, waves_are}
use Rattle.t1s_schedule.proofs.SharedTurns.{line_at, rise_and_fall, older_over, begun, first_past, turn, own_way, newest_come}

module _ (s : Script) (z : ℕ) (fit : FitCable s z) (t : ℕ) where
  module _ (none : (i : ℕ) → driven_in s i t ≡ None) where
    -- an open drive has ended, and was long enough
    ended : (a : Drive) (older : List Drive) → SharedAt s z t (a ∷ older) → a.stop ≡ t → a.start + 20 ≤ a.stop
    ended a older shared stop =
        let node = (of_nodes s z (a ∷ older) shared.chain).0 in
        let (line, found) = line_at s z fit a.node node.node in
        let on : drives_in (a ∷ older) a.node a.start ≡ true = (let b = is_on a a.node a.start refl (omega arith) node.some in rw b refl) in
        let drove = shared.covers a.node a.start (omega (arith, node.some, stop)) ∙ on in
        elim (cases_lt a.start line.start) [
          | inl before ↦
              let rests = drives_before s a.node line found a.start before in
              absurd (true≢false (sym drove ∙ ap (λ (o : Option Quarter). is_some o) rests))
          | inr from ↦
              let (waiting, over) = turn s z fit a.node line found t (a ∷ older) shared (omega (arith, from, node.some, stop)) in
              by line found from (driven_in s a.node t) waiting over (none a.node)
        ]
      where
        come : (line : NodeLine) (found : slice_get s.nodes a.node ≡ Some line)
            → arrived t (waves s z fit a.node line found (a ∷ older)) ≡ wave s z fit a.node line found a ∷ waves s z fit a.node line found older
        come line found =
            let no_way = own_way s z fit a.node line found a refl in
            newest_come s z fit a.node line found t a older (omega (arith, no_way, (begun s z fit t (a ∷ older) shared).0))

        by : (line : NodeLine) (found : slice_get s.nodes a.node ≡ Some line) → line.start ≤ a.start → (o : Option Quarter) (waiting : Bool)
            → DriveOverWaves (cycle_in s line) line.start t (waves s z fit a.node line found (a ∷ older)) waiting o → o ≡ None → a.start + 20 ≤ a.stop
        by line found from _ waiting (quiet h) e =
            let own : (a.node == a.node) ≡ true = search (rules, nat_tests) in
            let newest = wave s z fit a.node line found a in
            let past = h.own_over newest (waves s z fit a.node line found older) (come line found) own (omega (arith, from)) in
            absurd (omega (arith, past, stop, own_way s z fit a.node line found a refl))
        by line found from _ waiting (ends w rest at own lasts long) e =
            let newest = wave s z fit a.node line found a in
            let same = (head_is newest w (waves s z fit a.node line found older) rest (sym (come line found) ∙ at)).0 in
            omega (arith, long, stop, own_way s z fit a.node line found a refl, ap (λ (x : Wave). x.from) same)
        by line found from _ waiting (goes_on k at own lasts time spells) e = absurd (cc)
        by line found from _ waiting (starts_first_beacon coord now) e = absurd (cc)
        by line found from _ waiting (starts_beacon w rest begins coord) e = absurd (cc)
        by line found from _ waiting (starts_run w rest x begins mine some) e = absurd (cc)

    whole_next : (ds : List Drive) → SharedAt s z t ds → EachDrive (IsWhole (t + 1)) ds
    whole_next [] shared = tt
    whole_next (a ∷ older) shared = (
      λ over. elim (cases_eq a.stop t) [ inl stop ↦ ended a older shared stop | inr other ↦ shared.whole.0 (omega (arith, over, other)) ],
      each_both (IsWhole t) (λ (d : Drive). d.stop < t) (IsWhole (t + 1)) (λ d whole past over. whole past) older shared.whole.1
          (older_over s z fit t a older shared.chain (omega (arith, (begun s z fit t (a ∷ older) shared).0))),
    )

    -- ---- the coordinator lets no beacon pass

    module _ (line : NodeLine) (found : slice_get s.nodes z ≡ Some line) where
      abbrev n : CycleSettings
      n = cycle_in s line

      abbrev newest : Drive → Wave
      newest a = wave s z fit z line found a

      abbrev ws : List Drive → List Wave
      ws ds = waves s z fit z line found ds

      coordinates : n.owns 0 ≡ true
      coordinates = owns_as s z fit z line found 0 ∙ fit.owners.has_zero

      by_first : (o : Option Quarter) (waiting : Bool) → DriveOverWaves n line.start t [] waiting o → o ≡ None → t ≡ line.start + 258 * s.to → ⊥
      by_first _ waiting (quiet h) e now = h.recovers coordinates now
      by_first _ waiting (ends w rest at own lasts long) e now = absurd (cc)
      by_first _ waiting (goes_on k at own lasts time spells) e now = absurd (cc)
      by_first _ waiting (starts_first_beacon first at) e now = absurd (cc)
      by_first _ waiting (starts_beacon w rest begins first) e now = absurd (cc)
      by_first _ waiting (starts_run w rest x begins mine some) e now = absurd (cc)

      by_due : (a : Drive) (older : List Drive) (o : Option Quarter) (waiting : Bool) → DriveOverWaves n line.start t (ws (a ∷ older)) waiting o → o ≡ None
          → arrived t (ws (a ∷ older)) ≡ newest a ∷ ws older → (newest a).till < t → BeginsBehind n t (ws (a ∷ older)) (newest a) (ws older) s.count → ⊥
      by_due a older _ waiting (quiet h) e come gone begins = absurd (omega (arith, (h.lapses (newest a) (ws older) s.count begins).coordinator coordinates))
      by_due a older _ waiting (ends w rest at own lasts long) e come gone begins =
          let same = (head_is (newest a) w (ws older) rest (sym come ∙ at)).0 in
          absurd (omega (arith, lasts, gone, ap (λ (x : Wave). x.till) same))
      by_due a older _ waiting (goes_on k at own lasts time spells) e come gone begins = absurd (cc)
      by_due a older _ waiting (starts_first_beacon first at) e come gone begins = absurd (cc)
      by_due a older _ waiting (starts_beacon w rest behind first) e come gone begins = absurd (cc)
      by_due a older _ waiting (starts_run w rest x behind mine some) e come gone begins = absurd (cc)

      longer : (xs : List Wave) (w v : Wave) → w ∷ xs ≡ v ∷ w ∷ xs → ⊥
      longer xs w v e = let lengths = ap (λ (ys : List Wave). length ys) e in absurd (omega (arith, lengths))

      -- the opportunity of the next beacon, where it begins
      due : (a : Drive) (older : List Drive) → SharedAt s z t (a ∷ older) → a.stop < t
          → t ≡ a.stop + far_in s a.node (at_in s z) + s.fall + (s.count - next_after a) * s.to → arrived t (ws (a ∷ older)) ≡ newest a ∷ ws older
          → BeginsBehind n t (ws (a ∷ older)) (newest a) (ws older) s.count
      unfolding opportunity_start
      due a older shared past now come =
          let few = lag_low n (cycle_is s z fit z line found) (newest a) in
          let seen_by : (newest a).from + lag n (newest a) < t = omega (arith, now, shared.whole.0 past, few, (rise_and_fall s z fit).1) in
          let b : nat_lt ((newest a).from + lag n (newest a)) t ≡ true = search (rules, nat_tests) in
          record {
            newest = rw b refl;
            order = (waves_are s z fit z line found t (a ∷ older) shared).each.0.low;
            now = now;
            none_risen = λ v e. absurd (longer (ws older) (newest a) v (sym come ∙ e));
          }

    not_first : SharedAt s z t [] → t ≡ first_beacon s z → ⊥
    not_first shared now =
        let (line, found) = line_at s z fit z fit.coordinator in
        let first = first_is s z fit z line found refl in
        let (waiting, over) = turn s z fit z line found t [] shared (omega (arith, now, first)) in
        by_first line found (driven_in s z t) waiting over (none z) (now ∙ first)

    not_due : (a : Drive) (older : List Drive) → SharedAt s z t (a ∷ older) → a.stop < t
        → t ≡ a.stop + far_in s a.node (at_in s z) + s.fall + (s.count - next_after a) * s.to → ⊥
    not_due a older shared past now =
        let (line, found) = line_at s z fit z fit.coordinator in
        let first = first_is s z fit z line found refl in
        let start = first_past s z fit a older shared.chain in
        let (waiting, over) = turn s z fit z line found t (a ∷ older) shared (omega (arith, first, start, (begun s z fit t (a ∷ older) shared).0)) in
        let fall = (rise_and_fall s z fit).2 in
        let come = newest_come s z fit z line found t a older (omega (arith, now, shared.whole.0 past)) in
        by_due line found a older (driven_in s z t) waiting over (none z) come (omega (arith, now, fall)) (due line found a older shared past now come)

    silent_next : (ds : List Drive) → SharedAt s z t ds → IsSilent next_after (far_in s) (at_in s) s.fall s.to s.count z (first_beacon s z) (t + 1) ds
    silent_next [] shared = elim (cases_eq t (first_beacon s z)) [
      | inl now ↦ absurd (not_first shared now)
      | inr other ↦ omega (arith, shared.silent, other)
    ]
    silent_next (a ∷ older) shared = λ over. elim (cases_eq a.stop t) [
      | inl stop ↦ omega (arith, stop, (rise_and_fall s z fit).2)
      | inr other ↦
          let past : a.stop < t = omega (arith, over, other) in
          elim (cases_eq t (a.stop + far_in s a.node (at_in s z) + s.fall + (s.count - next_after a) * s.to)) [
            | inl now ↦ absurd (not_due a older shared past now)
            | inr soon ↦ omega (arith, shared.silent past, soon)
          ]
    ]

    pub stays : (ds : List Drive) → SharedAt s z t ds → SharedAt s z (t + 1) ds
    stays ds shared = record {
      chain = shared.chain;
      placed = shared.placed;
      whole = whole_next ds shared;
      silent = silent_next ds shared;
      covers = λ i v before. elim (cases_eq v t) [
        | inr other ↦ shared.covers i v (omega (arith, before, other))
        | inl now ↦
            let misses = each_as (λ (a : Drive). a.stop ≤ t) (Misses i v) (λ a past same. inr (omega (arith, past, now))) ds shared.within in
            ap (λ (u : ℕ). is_some (driven_in s i u)) now ∙ (ap (λ (o : Option Quarter). is_some o) (none i) ∙ sym (none_drives i v ds misses))
      ];
      within = each_as (λ (a : Drive). a.stop ≤ t) (λ (a : Drive). a.stop ≤ t + 1) (λ a past. omega (arith, past)) ds shared.within;
      speaks = shared.speaks;
    }
