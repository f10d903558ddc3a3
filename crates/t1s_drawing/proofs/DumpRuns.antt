-- What a dump shows is what the lines of its report tell.
use Rattle.std.proofs.Common.{◌≡◌, ◌⊎◌, ℕ, zero, suc, ◌+◌, ◌%◌, ◌<◌, ◌≤◌, ◌==◌, ◌&&◌, Bool, true, false, nat_le, List, [], ◌∷◌, ◌++◌, Option, Some, None, refl, sym, ap, subst, ◌∙◌, inl, inr, arith}
use Rattle.std.specs.Prelude.{if◌then◌else◌, is_some, ◌↔◌}
use Rattle.std.specs.Str.{bytes_eq}
use Rattle.std.proofs.lemmas.Bool.{cases_eq, cases_lt}
use Rattle.t1s_waveform.specs.Values.{changed, value_from}
use Rattle.t1s_waveform.specs.Wires.{code, heard_bits, heard_code, start_changes}
use Rattle.t1s_waveform.specs.declared.heard.Heard.{Heard}
use Rattle.t1s_waveform.specs.declared.heard.Heard.TheVariants.{Silence}
use Rattle.t1s_waveform.proofs.Dumps.{changed_other}
use Rattle.t1s_waveform.proofs.Codes.{other_heard, other_letter, start_goes}
use Rattle.t1s_drawing.specs.BarLaws.{GoesOnTo, HaveLanes}
use Rattle.t1s_drawing.specs.Dump.{event_changes, happening_changes}
use Rattle.t1s_drawing.specs.DumpLaws.{DrivesAt, DumpsShowRuns, heard_at, hears_from}
use Rattle.t1s_drawing.specs.Lines.{parts_of}
use Rattle.t1s_drawing.specs.PictureBars.{events_of}
use Rattle.t1s_drawing.specs.Shapes.{turn_of}
use Rattle.t1s_drawing.specs.declared.report.Event.{Event}
use Rattle.t1s_drawing.specs.declared.report.Happening.{Happening}
use Rattle.t1s_drawing.specs.declared.report.Happening.TheVariants.{Taken, Full, Off, InStep, LostStep, Jam, Drop, Beacon, Commit, Quiet, Leave, Good, Bad, Hears}
use Rattle.t1s_drawing.specs.declared.shapes.Part.{Part}
use Rattle.t1s_drawing.specs.declared.window.Window.{Window}
use Rattle.t1s_drawing.proofs.Bars.{ends_here, goes_on_after, goes_on_before, head_is, lane_low, no_events_end, tail_is}
use Rattle.t1s_drawing.proofs.DumpDocuments.{Climbs, IsKept, dump_tells, each_items, each_value, heard_items, values}
use Rattle.t1s_drawing.proofs.PictureBars.{pictures_have_bars}

if_same : {A : Type 0} (b : Bool) (x : A) → (if b then x else x) ≡ x
if_same true x = refl
if_same false x = refl

now_first : (tick : ℕ) → nat_le 0 tick ≡ true
now_first tick = grind arith

-- ---- the wire of what a node drives

module _ (n : ℕ) where
  -- a change of a wire with another letter
  other : (node letter tick now : ℕ) (value before : List Bool) → (letter == 97) ≡ false → changed (code n 97) tick now (code node letter) value before ≡ before
  other node letter tick now value before e = changed_other (code n 97) tick now (code node letter) value before (other_letter node n letter 97 e)

  -- the changes that begin with that of what is driven
  first_of_four : (node tick now : ℕ) (a b c d before : List Bool) →
      changed (code n 97) tick now (code node 100) d (changed (code n 97) tick now (code node 99) c (changed (code n 97) tick now (code node 98) b (changed (code n 97) tick now (code node 97) a before)))
      ≡ changed (code n 97) tick now (code node 97) a before
  first_of_four node tick now a b c d before =
      let v1 = changed (code n 97) tick now (code node 97) a before in
      let v2 = changed (code n 97) tick now (code node 98) b v1 in
      let v3 = changed (code n 97) tick now (code node 99) c v2 in
      other node 100 tick now d v3 refl ∙ (other node 99 tick now c v2 refl ∙ other node 98 tick now b v1 refl)

  kept_drives : IsKept (code n 97)
  kept_drives node tick now value =
      let v1 = changed (code n 97) tick now (code node 102) (false ∷ []) value in
      let v2 = changed (code n 97) tick now (code node 103) (false ∷ []) v1 in
      let v3 = changed (code n 97) tick now (code node 104) (false ∷ []) v2 in
      let v4 = changed (code n 97) tick now (code node 105) (false ∷ []) v3 in
      let v5 = changed (code n 97) tick now (code node 106) (false ∷ []) v4 in
      other node 107 tick now (false ∷ []) v5 refl
      ∙ (other node 106 tick now (false ∷ []) v4 refl
      ∙ (other node 105 tick now (false ∷ []) v3 refl
      ∙ (other node 104 tick now (false ∷ []) v2 refl ∙ (other node 103 tick now (false ∷ []) v1 refl ∙ other node 102 tick now (false ∷ []) value refl))))

  -- the value that a turn gives
  abbrev turned_value : Option (Option Part) → List Bool → List Bool
  turned_value (Some part) before = is_some part ∷ []
  turned_value None before = before

  abbrev drives_after : ℕ → ℕ → ℕ → Option (Option Part) → List Bool → List Bool
  drives_after tick now node turn before = if nat_le now tick && bytes_eq (code node 97) (code n 97) then turned_value turn before else before

  alone_kept : (node letter tick now : ℕ) (value before : List Bool) → (letter == 97) ≡ false → changed (code n 97) tick now (code node letter) value before ≡ drives_after tick now node None before
  alone_kept node letter tick now value before e =
      other node letter tick now value before e ∙ sym (if_same (nat_le now tick && bytes_eq (code node 97) (code n 97)) before)

  heard_other : bytes_eq heard_code (code n 97) ≡ false
  heard_other = let e : (97 == 65 + n % 32) ≡ false = grind arith in rw e refl

  drives_step : (node tick now : ℕ) (what : Happening) (before : List Bool) → value_from (code n 97) tick now before (happening_changes node what) ≡ drives_after tick now node (turn_of what) before
  drives_step node tick now Beacon before = first_of_four node tick now (true ∷ []) (true ∷ []) (false ∷ []) (false ∷ []) before
  drives_step node tick now Commit before = first_of_four node tick now (true ∷ []) (false ∷ []) (true ∷ []) (false ∷ []) before
  drives_step node tick now (Leave number) before = first_of_four node tick now (true ∷ []) (false ∷ []) (false ∷ []) (true ∷ []) before
  drives_step node tick now Quiet before = first_of_four node tick now (false ∷ []) (false ∷ []) (false ∷ []) (false ∷ []) before
  drives_step node tick now InStep before = alone_kept node 101 tick now (true ∷ []) before refl
  drives_step node tick now LostStep before = alone_kept node 101 tick now (false ∷ []) before refl
  drives_step node tick now (Taken number) before = alone_kept node 102 tick now (true ∷ []) before refl
  drives_step node tick now (Full number) before = alone_kept node 103 tick now (true ∷ []) before refl
  drives_step node tick now (Off number) before = alone_kept node 103 tick now (true ∷ []) before refl
  drives_step node tick now Good before = alone_kept node 104 tick now (true ∷ []) before refl
  drives_step node tick now Bad before = alone_kept node 105 tick now (true ∷ []) before refl
  drives_step node tick now (Jam number) before = alone_kept node 106 tick now (true ∷ []) before refl
  drives_step node tick now (Drop number) before = alone_kept node 107 tick now (true ∷ []) before refl
  drives_step node tick now (Hears what) before =
      changed_other (code n 97) tick now heard_code (heard_bits what) before heard_other ∙ sym (if_same (nat_le now tick && bytes_eq (code node 97) (code n 97)) before)

  -- the wires of two nodes
  own_code : bytes_eq (code n 97) (code n 97) ≡ true
  own_code = let e : (65 + n % 32 == 65 + n % 32) ≡ true = grind arith in rw e refl

  other_code : (node : ℕ) → n < 32 → node < 32 → (node ≡ n → ⊥) → bytes_eq (code node 97) (code n 97) ≡ false
  other_code node low below apart = rw (differ (65 + node % 32) (65 + n % 32) (λ e. apart (omega arith))) refl
    where
      differ : (a b : ℕ) → (a ≡ b → ⊥) → (a == b) ≡ false
      differ a b ne = go (a == b) refl
        where
          go : (x : Bool) → (a == b) ≡ x → x ≡ false
          go true e = absurd (ne (grind arith))
          go false e = refl

  -- ---- its first value

  start_step : (node tick : ℕ) (before : List Bool) → value_from (code n 97) tick 0 before (start_changes node) ≡ changed (code n 97) tick 0 (code node 97) (false ∷ []) before
  start_step node tick before =
      let v1 = changed (code n 97) tick 0 (code node 97) (false ∷ []) before in
      let v4 = changed (code n 97) tick 0 (code node 100) (false ∷ []) (changed (code n 97) tick 0 (code node 99) (false ∷ []) (changed (code n 97) tick 0 (code node 98) (false ∷ []) v1)) in
      let v5 = changed (code n 97) tick 0 (code node 101) (false ∷ []) v4 in
      kept_drives node tick 0 v5 ∙ (other node 101 tick 0 (false ∷ []) v4 refl ∙ first_of_four node tick 0 (false ∷ []) (false ∷ []) (false ∷ []) (false ∷ []) before)

  starts_low : (w : Window) (tick : ℕ) (count : ℕ) → count ≤ w.nodes → n < count → value_from (code n 97) tick 0 [] (each_items start_changes count) ≡ false ∷ []
  starts_low w tick zero few low = absurd (omega arith)
  starts_low w tick (suc count) few low =
      let before = value_from (code n 97) tick 0 [] (each_items start_changes count) in
      each_value w start_changes 0 (λ row. start_goes row 0) (code n 97) tick [] count (omega arith) ∙ (start_step count tick before ∙ elim (cases_eq n count) [
        | inl e ↦ subst (λ (m : ℕ). changed (code n 97) tick 0 (code m 97) (false ∷ []) before ≡ false ∷ []) e (rw (now_first tick, own_code) refl)
        | inr m ↦
            ap (changed (code n 97) tick 0 (code count 97) (false ∷ [])) (starts_low w tick count (omega arith) (omega arith))
            ∙ if_same (nat_le 0 tick && bytes_eq (code count 97) (code n 97)) (false ∷ [])
      ])

  -- ---- drives

  module _ (w : Window) (tick : ℕ) (low : n < 32) (within : tick < w.until) where
    -- what is driven goes on past the tick
    abbrev Lasts : List Event → Type 0
    Lasts events = (stop : ℕ) × GoesOnTo w events n stop × (tick < stop)

    -- it was driven before and goes on, or the events tell that it is
    abbrev Is : List Bool → List Event → Type 0
    Is before events = ((before ≡ true ∷ []) × Lasts events) ⊎ DrivesAt w events n tick

    later_member : (t : ℕ) (before : List Event) (first : Event) (rest : List Event) → Climbs t (before ++ first ∷ rest) → t ≤ first.tick
    later_member t [] first rest h = h.0
    later_member t (b ∷ before) first rest h = let more = later_member b.tick before first rest h.1 in let first_one = h.0 in omega arith

    none_late : (t : ℕ) (events : List Event) → tick < t → Climbs t events → DrivesAt w events n tick → ⊥
    none_late t events late climbs (part, start, stop, tells, begun, on) =
        let late_first : t ≤ tells.first.tick = later_member t tells.before tells.first tells.rest (subst (Climbs t) tells.events_are climbs) in
        let at = tells.tick in
        omega arith

    lasts_late : (t : ℕ) (events : List Event) → tick < t → Climbs t events → Lasts events
    lasts_late t [] late climbs = (w.until, inr (tt, refl), within)
    lasts_late t (e ∷ events) late (later, climbs) = go (lasts_late e.tick events (omega arith) climbs) (turn_of e.what) refl
      where
        on : Lasts events → (e.node ≡ n → turn_of e.what ≡ None) → Lasts (e ∷ events)
        on (stop, goes, past) stays = (stop, goes_on_before w e events n stop stays goes, past)

        go : Lasts events → (turn : Option (Option Part)) → turn_of e.what ≡ turn → Lasts (e ∷ events)
        go more None is = on more (λ at. is)
        go more (Some part) is = elim (cases_eq e.node n) [
          | inl at ↦ (
            e.tick,
            inl (record { between = []; last = e; rest = events; events_are = refl; stays = tt; at = at; ends = λ z. (let y = sym is ∙ z in cc); tick = refl }),
            omega arith,
          )
          | inr away ↦ on more (λ at. absurd (away at))
        ]

    values_late : (t : ℕ) (events : List Event) (before : List Bool) → tick < t → Climbs t events → values (code n 97) tick before events ≡ before
    values_late t [] before late climbs = refl
    values_late t (e ∷ events) before late (later, climbs) =
        ap (λ (x : List Bool). values (code n 97) tick x events) (step ∙ rw early refl) ∙ values_late e.tick events before (omega arith) climbs
      where
        step : value_from (code n 97) tick e.tick before (event_changes e) ≡ drives_after tick e.tick e.node (turn_of e.what) before
        step = drives_step e.node tick e.tick e.what before

        early : nat_le e.tick tick ≡ false
        early = grind arith

    at_before : (e : Event) (events : List Event) → DrivesAt w events n tick → DrivesAt w (e ∷ events) n tick
    at_before e events (part, start, stop, h, begun, on) = (
      part,
      start,
      stop,
      record {
        before = e ∷ h.before;
        first = h.first;
        rest = h.rest;
        events_are = ap (λ (es : List Event). e ∷ es) h.events_are;
        at = h.at;
        begins = h.begins;
        tick = h.tick;
        goes_on = h.goes_on;
      },
      begun,
      on,
    )

    -- the event begins what is driven
    abbrev Begins : Event → List Event → Type 0
    Begins e events = (e.node ≡ n) × ((part : Part) × (turn_of e.what ≡ Some (Some part))) × Lasts events

    at_which : (e : Event) (events : List Event) → DrivesAt w (e ∷ events) n tick → Begins e events ⊎ DrivesAt w events n tick
    at_which e events (part, start, stop, h, begun, on) = go h.before h.events_are
      where
        go : (before : List Event) → e ∷ events ≡ before ++ h.first ∷ h.rest → Begins e events ⊎ DrivesAt w events n tick
        go [] is =
            let same : e ≡ h.first = head_is is in
            inl (
              ap (λ (x : Event). x.node) same ∙ h.at,
              (part, ap (λ (x : Event). turn_of x.what) same ∙ h.begins),
              (stop, subst (λ (es : List Event). GoesOnTo w es n stop) (sym (tail_is is)) h.goes_on, on),
            )
        go (b ∷ before) is = inr (
          part,
          start,
          stop,
          record { before = before; first = h.first; rest = h.rest; events_are = tail_is is; at = h.at; begins = h.begins; tick = h.tick; goes_on = h.goes_on },
          begun,
          on,
        )

    abbrev Both : List Bool → List Event → Type 0
    Both before events = (values (code n 97) tick before events ≡ true ∷ []) ↔ Is before events

    -- no event of the node, or one that tells nothing of what it drives
    past : (e : Event) (events : List Event) (before : List Bool) → (e.node ≡ n → turn_of e.what ≡ None) → Both before events → Is before (e ∷ events) ↔ Is before events
    past e events before stays both = (
      λ is. elim is [
        | inl h ↦ let (set, (stop, goes, late)) = h in inl (set, (stop, goes_on_after w e events n stop stays goes, late))
        | inr at ↦ elim (at_which e events at) [
          | inl b ↦ let (here, (part, begins), lasts) = b in absurd (let z = sym begins ∙ stays here in cc)
          | inr more ↦ inr more
        ]
      ],
      λ is. elim is [
        | inl h ↦ let (set, (stop, goes, late)) = h in inl (set, (stop, goes_on_before w e events n stop stays goes, late))
        | inr at ↦ inr (at_before e events at)
      ],
    )

    -- an event by which the node turns to a part or to nothing, not later than the tick
    turn : (e : Event) (events : List Event) (before : List Bool) (part : Option Part) → e.node ≡ n → turn_of e.what ≡ Some part → e.tick ≤ tick → Is before (e ∷ events) ↔ Is (is_some part ∷ []) events
    turn e events before part here begins early = (
      λ is. elim is [
        | inl h ↦ let (set, (stop, goes, late)) = h in let ends = ends_here w e events n stop (part) here begins goes in absurd (omega arith)
        | inr at ↦ elim (at_which e events at) [
          | inl b ↦ let (at_node, (q, first), lasts) = b in inl (ap (λ (o : Option Part). is_some o ∷ []) (same_part part q (sym begins ∙ first)), lasts)
          | inr more ↦ inr more
        ]
      ],
      λ is. elim is [
        | inl h ↦ inr (drives_here part begins h.0 h.1)
        | inr at ↦ inr (at_before e events at)
      ],
    )
      where
        same_part : (p : Option Part) (q : Part) → ◌≡◌ {A = Option (Option Part)} (Some p) (Some (Some q)) → p ≡ Some q
        same_part p q e = cc

        drives_here : (p : Option Part) → turn_of e.what ≡ Some p → is_some p ∷ [] ≡ true ∷ [] → Lasts events → DrivesAt w (e ∷ events) n tick
        drives_here None is set lasts = absurd cc
        drives_here (Some q) is set (stop, goes, late) = (
          q,
          e.tick,
          stop,
          record { before = []; first = e; rest = events; events_are = refl; at = here; begins = is; tick = refl; goes_on = goes },
          early,
          late,
        )

    both_after : (e : Event) (events : List Event) (before after : List Bool) → value_from (code n 97) tick e.tick before (event_changes e) ≡ after → Is before (e ∷ events) ↔ Is after events → Both after events → Both before (e ∷ events)
    both_after e events before after step is both =
        let same = ap (λ (x : List Bool). values (code n 97) tick x events) step in (
          λ v. is.1 (both.0 (sym same ∙ v)),
          λ h. same ∙ both.1 (is.0 h),
        )

    drives : (t : ℕ) (events : List Event) (before : List Bool) → Climbs t events → HaveLanes w events → Both before events
    drives t [] before climbs lanes = (
      λ v. inl (v, (w.until, inr (tt, refl), within)),
      λ is. elim is [
        | inl h ↦ h.0
        | inr at ↦ let (part, start, stop, h, begun, on) = at in absurd (no_events_end h.before h.first h.rest h.events_are)
      ],
    )
    drives t (e ∷ events) before (later, climbs) (lane, lanes) =
        elim (cases_lt tick e.tick) [ inl late ↦ too_late late | inr early ↦ by_turn early (λ x. drives e.tick events x climbs lanes) (turn_of e.what) refl ]
      where
        step : value_from (code n 97) tick e.tick before (event_changes e) ≡ drives_after tick e.tick e.node (turn_of e.what) before
        step = drives_step e.node tick e.tick e.what before

        too_late : tick < e.tick → Both before (e ∷ events)
        too_late late =
            let all : Climbs e.tick (e ∷ events) = (omega arith, climbs) in
            let same = values_late e.tick (e ∷ events) before late all in (
              λ v. inl (sym same ∙ v, lasts_late e.tick (e ∷ events) late all),
              λ is. elim is [ inl h ↦ same ∙ h.0 | inr at ↦ absurd (none_late e.tick (e ∷ events) late all at) ],
            )

        by_turn : e.tick ≤ tick → ((x : List Bool) → Both x events) → (o : Option (Option Part)) → turn_of e.what ≡ o → Both before (e ∷ events)
        by_turn early more None is =
            both_after e events before before (step ∙ (ap (λ (o : Option (Option Part)). drives_after tick e.tick e.node o before) is ∙ if_same (nat_le e.tick tick && bytes_eq (code e.node 97) (code n 97)) before))
            (past e events before (λ at. is) (more before)) (more before)
        by_turn early more (Some part) is = elim (cases_eq e.node n) [
          | inl here ↦
              both_after e events before (is_some part ∷ [])
              (step ∙ (ap (λ (o : Option (Option Part)). drives_after tick e.tick e.node o before) is
              ∙ (ap (λ (m : ℕ). drives_after tick e.tick m (Some part) before) here ∙ rw (in_time, own_code) refl)))
              (turn e events before part here is early) (more (is_some part ∷ []))
          | inr away ↦
              both_after e events before before (step ∙ not_own away (nat_le e.tick tick))
              (past e events before (λ at. absurd (away at)) (more before)) (more before)
        ]
          where
            in_time : nat_le e.tick tick ≡ true
            in_time = grind arith

            not_own : (e.node ≡ n → ⊥) → (b : Bool) → (if b && bytes_eq (code e.node 97) (code n 97) then turned_value (turn_of e.what) before else before) ≡ before
            not_own away b = ap (λ (x : Bool). if b && x then turned_value (turn_of e.what) before else before) (other_code e.node low (lane_low w e.node lane).1 away) ∙ none b
              where
                none : (b : Bool) → (if b && false then turned_value (turn_of e.what) before else before) ≡ before
                none true = refl
                none false = refl

-- ---- the wire of what a node hears

kept_heard : IsKept heard_code
kept_heard node tick now value =
    let v1 = changed heard_code tick now (code node 102) (false ∷ []) value in
    let v2 = changed heard_code tick now (code node 103) (false ∷ []) v1 in
    let v3 = changed heard_code tick now (code node 104) (false ∷ []) v2 in
    let v4 = changed heard_code tick now (code node 105) (false ∷ []) v3 in
    let v5 = changed heard_code tick now (code node 106) (false ∷ []) v4 in
    of_node node 107 tick now v5
    ∙ (of_node node 106 tick now v4 ∙ (of_node node 105 tick now v3 ∙ (of_node node 104 tick now v2 ∙ (of_node node 103 tick now v1 ∙ of_node node 102 tick now value))))
  where
    of_node : (node letter tick now : ℕ) (before : List Bool) → changed heard_code tick now (code node letter) (false ∷ []) before ≡ before
    of_node node letter tick now before = changed_other heard_code tick now (code node letter) (false ∷ []) before (other_heard node letter)

module _ (tick : ℕ) where
  of_wire : (node letter now : ℕ) (value before : List Bool) → changed heard_code tick now (code node letter) value before ≡ before
  of_wire node letter now value before = changed_other heard_code tick now (code node letter) value before (other_heard node letter)

  of_four : (node now : ℕ) (a b c d before : List Bool) →
      changed heard_code tick now (code node 100) d (changed heard_code tick now (code node 99) c (changed heard_code tick now (code node 98) b (changed heard_code tick now (code node 97) a before))) ≡ before
  of_four node now a b c d before =
      let v1 = changed heard_code tick now (code node 97) a before in
      let v2 = changed heard_code tick now (code node 98) b v1 in
      let v3 = changed heard_code tick now (code node 99) c v2 in
      of_wire node 100 now d v3 ∙ (of_wire node 99 now c v2 ∙ (of_wire node 98 now b v1 ∙ of_wire node 97 now a before))

  bits_kept : (now : ℕ) (before : Heard) → heard_bits before ≡ heard_bits (if nat_le now tick then before else before)
  bits_kept now before = ap heard_bits (sym (if_same (nat_le now tick) before))

  hears_step : (node now : ℕ) (what : Happening) (before : Heard) → value_from heard_code tick now (heard_bits before) (happening_changes node what) ≡ heard_bits (if nat_le now tick then hears_from what before else before)
  hears_step node now Beacon before = of_four node now (true ∷ []) (true ∷ []) (false ∷ []) (false ∷ []) (heard_bits before) ∙ bits_kept now before
  hears_step node now Commit before = of_four node now (true ∷ []) (false ∷ []) (true ∷ []) (false ∷ []) (heard_bits before) ∙ bits_kept now before
  hears_step node now (Leave number) before = of_four node now (true ∷ []) (false ∷ []) (false ∷ []) (true ∷ []) (heard_bits before) ∙ bits_kept now before
  hears_step node now Quiet before = of_four node now (false ∷ []) (false ∷ []) (false ∷ []) (false ∷ []) (heard_bits before) ∙ bits_kept now before
  hears_step node now InStep before = of_wire node 101 now (true ∷ []) (heard_bits before) ∙ bits_kept now before
  hears_step node now LostStep before = of_wire node 101 now (false ∷ []) (heard_bits before) ∙ bits_kept now before
  hears_step node now (Taken number) before = of_wire node 102 now (true ∷ []) (heard_bits before) ∙ bits_kept now before
  hears_step node now (Full number) before = of_wire node 103 now (true ∷ []) (heard_bits before) ∙ bits_kept now before
  hears_step node now (Off number) before = of_wire node 103 now (true ∷ []) (heard_bits before) ∙ bits_kept now before
  hears_step node now Good before = of_wire node 104 now (true ∷ []) (heard_bits before) ∙ bits_kept now before
  hears_step node now Bad before = of_wire node 105 now (true ∷ []) (heard_bits before) ∙ bits_kept now before
  hears_step node now (Jam number) before = of_wire node 106 now (true ∷ []) (heard_bits before) ∙ bits_kept now before
  hears_step node now (Drop number) before = of_wire node 107 now (true ∷ []) (heard_bits before) ∙ bits_kept now before
  hears_step node now (Hears what) before = go (nat_le now tick)
    where
      go : (b : Bool) → (if b && true then heard_bits what else heard_bits before) ≡ heard_bits (if b then what else before)
      go true = refl
      go false = refl

  hears : (events : List Event) (before : Heard) → values heard_code tick (heard_bits before) events ≡ heard_bits (heard_at events tick before)
  hears [] before = refl
  hears (e ∷ events) before =
      ap (λ (x : List Bool). values heard_code tick x events) (hears_step e.node e.tick e.what before)
      ∙ hears events (if nat_le e.tick tick then hears_from e.what before else before)

  hears_first : (heard : Option ℕ) (node : ℕ) (before : List Bool) → heard ≡ Some node → value_from heard_code tick 0 before (heard_items heard) ≡ heard_bits Silence
  hears_first None node before is = absurd cc
  hears_first (Some k) node before is = rw (now_first tick) refl

-- ---- the law

-- what a node hears at first is no value of a wire of what a node drives
heard_kept : (n tick : ℕ) (heard : Option ℕ) (before : List Bool) → value_from (code n 97) tick 0 before (heard_items heard) ≡ before
heard_kept n tick None before = refl
heard_kept n tick (Some node) before = changed_other (code n 97) tick 0 heard_code (heard_bits Silence) before (heard_other n)

pub dumps_show_runs : DumpsShowRuns
dumps_show_runs w octets form few done =
    let events = events_of (parts_of octets) in
    let tells = dump_tells w octets form few done in
    let lanes = (pictures_have_bars w octets done).1 in
    record {
      dump = tells.0;
      drives = λ node tick low within.
          let starts = value_from (code node 97) tick 0 [] (each_items start_changes w.nodes) in
          let first : value_from (code node 97) tick 0 starts (heard_items w.heard) ≡ false ∷ [] = heard_kept node tick w.heard starts ∙ starts_low node w tick w.nodes (omega arith) low in
          let is = tells.1 (code node 97) tick (kept_drives node) ∙ ap (λ (x : List Bool). values (code node 97) tick x events) first in
          let both = drives node w tick (omega arith) within 0 events (false ∷ []) tells.2 lanes in (
            λ v. elim (both.0 (sym is ∙ v)) [ inl h ↦ absurd (let z = h.0 in cc) | inr at ↦ at ],
            λ at. is ∙ both.1 (inr at),
          );
      hears = λ node tick heard.
          let starts = value_from heard_code tick 0 [] (each_items start_changes w.nodes) in
          tells.1 heard_code tick kept_heard
          ∙ (ap (λ (x : List Bool). values heard_code tick x events) (hears_first tick w.heard node starts heard) ∙ hears tick events Silence);
    }
