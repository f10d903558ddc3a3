-- The bars of a picture are those of the events that its lines tell.
use Rattle.std.proofs.Common.{◌≡◌, ℕ, suc, zero, ◌+◌, Bool, true, false, not, nat_lt, ◌||◌, List, [], ◌∷◌, ◌++◌, Option, Some, None, Result, Ok, Err, refl, sym, ap, subst, ◌∙◌}
use Rattle.std.specs.Prelude.{if◌then◌else◌}
use Rattle.std.specs.Option.{option_to_list}
use Rattle.t1s_drawing.specs.BarLaws.{HaveLanes, bars_from, last_bars}
use Rattle.t1s_drawing.specs.Lines.{parts_of}
use Rattle.t1s_drawing.specs.Written.{drawn, going_on, line_step, opening, drawing_of, step_of, told_text}
use Rattle.t1s_drawing.specs.PictureBars.{PicturesHaveBars, bars_after, drawn_bars, event_of, events_of}
use Rattle.t1s_drawing.specs.Progress.{Stepped, after_event, at_start, event_step, has_wire, is_lane, step, told_bar}
use Rattle.t1s_drawing.specs.ReadLines.{line_of}
use Rattle.t1s_drawing.specs.declared.report.Event.{Event}
use Rattle.t1s_drawing.specs.declared.report.ReportLine.{ReportLine}
use Rattle.t1s_drawing.specs.declared.report.ReportLine.TheVariants.{Event as EventLine, Settled, Totals, Offer}
use Rattle.t1s_drawing.specs.declared.shapes.Shape.{Shape}
use Rattle.t1s_drawing.specs.declared.progress.Progress.{Progress}
use Rattle.t1s_drawing.specs.declared.progress.Reason.TheVariants.{TooLong, TooMany}
use Rattle.t1s_drawing.specs.declared.progress.Told.{Told}
use Rattle.t1s_drawing.specs.declared.window.Window.{Window}
use Rattle.t1s_drawing.proofs.Draws.{refused-after}

-- ---- the bars depend on what is driven alone

same_last : (w : Window) (p q : Progress) (count : ℕ) → p.driven ≡ q.driven → last_bars w p count ≡ last_bars w q count
same_last w p q zero e = refl
same_last w p q (suc count) e = let before = same_last w p q count e in rw (before, e) refl

same_bars : (w : Window) (events : List Event) (p q : Progress) → p.driven ≡ q.driven → bars_from w p events ≡ bars_from w q events
same_bars w [] p q e = same_last w p q w.nodes e
same_bars w (event ∷ events) p q e =
    let more = same_bars w events (after_event p event) (after_event q event) (rw e refl) in
    rw (more, e) refl

-- ---- a line that is taken

-- a line without an event: no bar, what is driven and the latest tick stay, and so do the pulses
abbrev pub StaysAsIs : Progress → Progress → Told → Type 0
StaysAsIs p q told = (told.bar ≡ None) × (q.driven ≡ p.driven) × (told.event ≡ None) × ((q.tick ≡ p.tick) × (q.pulses ≡ p.pulses))

-- Its event is at a node of the picture and not earlier, and what the dump shows; its bar is the one that the event ends, and what
-- is driven is as after the event.
abbrev pub Takes : Window → Progress → Option ReportLine → Progress → Told → Type 0
Takes w p (Some (EventLine event)) q told = (is_lane w event.node ≡ true) × (told.bar ≡ told_bar w p event) × (q ≡ after_event p event) × (nat_lt event.tick p.tick ≡ false) × (told.event ≡ Some event) × (told.before ≡ p) × (has_wire w event ≡ true)
Takes w p (Some Settled) q told = StaysAsIs p q told
Takes w p (Some (Totals node)) q told = StaysAsIs p q told
Takes w p (Some Offer) q told = StaysAsIs p q told
Takes w p None q told = ⊥

same_ok : (x y : Progress × Told) → ◌≡◌ {A = Stepped} (Ok x) (Ok y) → x ≡ y
same_ok x y e = cc

stays : (p : Progress) (x y : Progress × Told) → x ≡ y → StaysAsIs p x.0 x.1 → StaysAsIs p y.0 y.1
stays p x y e h = subst (λ (z : Progress × Told). StaysAsIs p z.0 z.1) e h

or_false : (a b : Bool) → (a || b) ≡ false → b ≡ false
or_false true b e = absurd cc
or_false false b e = e

event_taken : (w : Window) (p : Progress) (event : Event) (q : Progress) (told : Told) (late lane wire : Bool) →
    (p.in_summary || nat_lt event.tick p.tick) ≡ late → is_lane w event.node ≡ lane → has_wire w event ≡ wire → event_step w p event ≡ Ok (q, told) → Takes w p (Some (EventLine event)) q told
event_taken w p event q told true lane wire a b d h = absurd (let z = rw a at h in cc)
event_taken w p event q told false false wire a b d h = absurd (let z = rw (a, b) at h in cc)
event_taken w p event q told false true false a b d h = absurd (let z = rw (a, b, d) at h in cc)
event_taken w p event q told false true true a b d h =
    let e = same_ok _ _ (rw (a, b, d) at h) in (
      b,
      sym (ap (λ (x : Progress × Told). x.1.bar) e),
      sym (ap (λ (x : Progress × Told). x.0) e),
      or_false p.in_summary (nat_lt event.tick p.tick) a,
      sym (ap (λ (x : Progress × Told). x.1.event) e),
      sym (ap (λ (x : Progress × Told). x.1.before) e),
      d,
    )

settled_taken : (w : Window) (p : Progress) (q : Progress) (told : Told) (s : Bool) → p.in_summary ≡ s → step w p Settled ≡ Ok (q, told) → Takes w p (Some Settled) q told
settled_taken w p q told true a h = absurd (let z = rw a at h in cc)
settled_taken w p q told false a h = let e = same_ok _ _ (rw a at h) in stays p _ (q, told) e (refl, refl, refl, (refl, refl))

totals_taken : (w : Window) (p : Progress) (node : ℕ) (q : Progress) (told : Told) (s lane : Bool) → p.in_summary ≡ s → is_lane w node ≡ lane → step w p (Totals node) ≡ Ok (q, told) → Takes w p (Some (Totals node)) q told
totals_taken w p node q told false lane a b h = absurd (let z = rw a at h in cc)
totals_taken w p node q told true false a b h = absurd (let z = rw (a, b) at h in cc)
totals_taken w p node q told true true a b h = let e = same_ok _ _ (rw (a, b) at h) in stays p _ (q, told) e (refl, refl, refl, (refl, refl))

offer_taken : (w : Window) (p : Progress) (q : Progress) (told : Told) (s : Bool) → p.in_summary ≡ s → step w p Offer ≡ Ok (q, told) → Takes w p (Some Offer) q told
offer_taken w p q told false a h = absurd (let z = rw a at h in cc)
offer_taken w p q told true a h = let e = same_ok _ _ (rw a at h) in stays p _ (q, told) e (refl, refl, refl, (refl, refl))

taken : (w : Window) (p : Progress) (said : Option ReportLine) (q : Progress) (told : Told) → step_of w p said ≡ Ok (q, told) → Takes w p said q told
taken w p (Some (EventLine event)) q told h = event_taken w p event q told (p.in_summary || nat_lt event.tick p.tick) (is_lane w event.node) (has_wire w event) refl refl refl h
taken w p (Some Settled) q told h = settled_taken w p q told p.in_summary refl h
taken w p (Some (Totals node)) q told h = totals_taken w p node q told p.in_summary (is_lane w node) refl refl h
taken w p (Some Offer) q told h = offer_taken w p q told p.in_summary refl h
taken w p None q told h = absurd cc

pub line_taken : (w : Window) (p : Progress) (number : ℕ) (line : List ℕ) (q : Progress) (told : Told) → line_step w p number line ≡ Ok (q, told) → Takes w p (line_of line) q told
line_taken w p number line q told h = go (nat_lt 4096 (Rattle.std.proofs.Common.length line)) (nat_lt 1073741824 number) h
  where
    go : (a b : Bool) → (if a then Err TooLong else if b then Err TooMany else step_of w p (line_of line)) ≡ Ok (q, told) → Takes w p (line_of line) q told
    go true b e = absurd cc
    go false true e = absurd cc
    go false false e = taken w p (line_of line) q told e

-- ---- the lines

-- the bars of the events of a line and of those that follow
bars_of_line : (w : Window) (p q : Progress) (said : Option ReportLine) (told : Told) (events : List Event) → Takes w p said q told →
    option_to_list told.bar ++ bars_from w q events ≡ bars_from w p (event_of said ++ events)
bars_of_line w p q (Some (EventLine event)) told events (lane, bar, next, early, some, before, wire) = rw (bar, next) refl
bars_of_line w p q (Some Settled) told events (bar, same, none, rest) = rw bar (same_bars w events q p same)
bars_of_line w p q (Some (Totals node)) told events (bar, same, none, rest) = rw bar (same_bars w events q p same)
bars_of_line w p q (Some Offer) told events (bar, same, none, rest) = rw bar (same_bars w events q p same)
bars_of_line w p q None told events h = absurd h

lanes_of_line : (w : Window) (p q : Progress) (said : Option ReportLine) (told : Told) (events : List Event) → Takes w p said q told → HaveLanes w events → HaveLanes w (event_of said ++ events)
lanes_of_line w p q (Some (EventLine event)) told events h lanes = (h.0, lanes)
lanes_of_line w p q (Some Settled) told events h lanes = lanes
lanes_of_line w p q (Some (Totals node)) told events h lanes = lanes
lanes_of_line w p q (Some Offer) told events h lanes = lanes
lanes_of_line w p q None told events h lanes = absurd h

abbrev HasBars : Window → List (List ℕ) → Progress → ℕ → Type 0
HasBars w parts p number = (drawn_bars w parts p number ≡ bars_from w p (events_of parts)) × HaveLanes w (events_of parts)

lines_have_bars : (w : Window) (parts : List (List ℕ)) (p : Progress) (number : ℕ) → (drawn w parts p number).refused ≡ false → HasBars w parts p number
unfolding drawn drawn_bars
lines_have_bars w [] p number h = absurd cc
lines_have_bars w (part ∷ []) p number h = (refl, tt)
lines_have_bars w (part ∷ next ∷ parts) p number h = go (λ q. lines_have_bars w (next ∷ parts) q (number + 1)) (line_step w p number part) refl h
  where
    go : ((q : Progress) → (drawn w (next ∷ parts) q (number + 1)).refused ≡ false → HasBars w (next ∷ parts) q (number + 1)) → (s : Stepped) → line_step w p number part ≡ s →
        (going_on w number part s (λ q. drawn w (next ∷ parts) q (number + 1))).refused ≡ false →
        (bars_after s (λ q. drawn_bars w (next ∷ parts) q (number + 1)) ≡ bars_from w p (events_of (part ∷ next ∷ parts))) × HaveLanes w (events_of (part ∷ next ∷ parts))
    go more (Ok x) is e =
        let takes = line_taken w p number part x.0 x.1 is in
        let rest = more x.0 (sym (refused-after (told_text w part x.1) (drawn w (next ∷ parts) x.0 (number + 1))) ∙ e) in (
          ap (λ (bars : List Shape). option_to_list x.1.bar ++ bars) rest.0 ∙ bars_of_line w p x.0 (line_of part) x.1 (events_of (next ∷ parts)) takes,
          lanes_of_line w p x.0 (line_of part) x.1 (events_of (next ∷ parts)) takes rest.1,
        )
    go more (Err reason) is e = absurd cc

pub pictures_have_bars : PicturesHaveBars
unfolding drawing_of
pictures_have_bars w octets h = lines_have_bars w (parts_of octets) at_start 1 (sym (refused-after (opening w) (drawn w (parts_of octets) at_start 1)) ∙ h)
