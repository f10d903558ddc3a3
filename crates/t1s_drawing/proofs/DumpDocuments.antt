-- A whole dump is a valid one.
use Rattle.std.proofs.Common.{◌≡◌, ℕ, zero, suc, ◌+◌, ◌<◌, ◌≤◌, Bool, true, false, nat_lt, List, [], ◌∷◌, ◌++◌, codes, get_or, Option, Some, None, Ok, Err, refl, sym, ap, subst, ◌∙◌, arith, append_assoc}
use Rattle.std.specs.Prelude.{if◌then◌else◌}
use Rattle.std.specs.Fmt.{digits}
use Rattle.std.proofs.lemmas.List.{append-nil}
use Rattle.t1s_waveform.specs.Dumps.{Item, Time, HasWire, IsDump, Wire, declared_wires, items_text, scopes_text, time_text}
use Rattle.t1s_waveform.specs.Values.{value_at, value_from}
use Rattle.t1s_waveform.specs.Wires.{fall_changes, heard_bits, heard_change, heard_code, scope_of, start_changes, wires_of}
use Rattle.t1s_waveform.specs.declared.heard.Heard.{Heard}
use Rattle.t1s_waveform.specs.declared.heard.Heard.TheVariants.{Silence}
use Rattle.t1s_waveform.proofs.Dumps.{Goes, goes-append, goes_among, goes_ascend, goes_wires, items_text-append, scopes_text-append, value-append}
use Rattle.t1s_waveform.proofs.Codes.{drive_goes, each_once, falls_go, first_scopes, has_bad, has_drop, has_good, has_jam, has_refused, has_status, has_taken, heard_scopes, start_goes, three_bits, wire_first, wire_of_first, wire_of_heard}
use Rattle.t1s_drawing.specs.Dump.{before_text, changes_text, dump_closing, event_changes, event_text, falls_text, fallen_text, happening_changes, heard_scope_text, heard_start_text, last_time, moved_text, time_after, with_begin}
use Rattle.t1s_drawing.specs.Lines.{parts_of}
use Rattle.t1s_drawing.specs.Pieces.{each_text, falls_of, piece_text}
use Rattle.t1s_drawing.specs.Progress.{Stepped, at_start, has_wire, hears_at, is_lane, wired}
use Rattle.t1s_drawing.specs.PictureBars.{event_of, events_of}
use Rattle.t1s_drawing.specs.ReadLines.{line_of}
use Rattle.t1s_drawing.specs.Written.{Outcome, after, closing, closing_of, drawing_of, drawn, end_of, going_on, line_step, opening, opening_of, told_of, told_text}
use Rattle.t1s_drawing.specs.declared.report.Event.{Event}
use Rattle.t1s_drawing.specs.declared.report.Happening.{Happening}
use Rattle.t1s_drawing.specs.declared.report.Happening.TheVariants.{Taken, Full, Off, InStep, LostStep, Jam, Drop, Beacon, Commit, Quiet, Leave, Good, Bad, Hears}
use Rattle.t1s_drawing.specs.declared.report.ReportLine.{ReportLine}
use Rattle.t1s_drawing.specs.declared.report.ReportLine.TheVariants.{Event as EventLine, Settled, Totals, Offer}
use Rattle.t1s_drawing.specs.declared.progress.Progress.{Progress}
use Rattle.t1s_drawing.specs.declared.progress.Told.{Told}
use Rattle.t1s_drawing.specs.declared.window.Form.{Form}
use Rattle.t1s_drawing.specs.declared.window.Form.TheVariants.{Waveform}
use Rattle.t1s_drawing.specs.declared.window.Window.{Window}
use Rattle.t1s_drawing.specs.declared.writing.Piece.TheVariants.{Scopes, Starts, Falls}
use Rattle.t1s_drawing.proofs.Draws.{refused-after, text-after}
use Rattle.t1s_drawing.proofs.PictureBars.{StaysAsIs, Takes, line_taken}

zero_time : time_text 0 ≡ codes "#0\n"
unfolding digits
zero_time = refl

-- ---- the texts of the first nodes

-- the items of the first numbers
abbrev pub each_items : (ℕ → List Item) → ℕ → List Item
each_items f zero = []
each_items f (suc count) = each_items f count ++ f count

each_is : (g : ℕ → List ℕ) (f : ℕ → List Item) → ((row : ℕ) → g row ≡ items_text (f row)) → (count : ℕ) → each_text g count ≡ items_text (each_items f count)
each_is g f same zero = refl
each_is g f same (suc count) =
    ap (λ (t : List ℕ). t ++ g count) (each_is g f same count) ∙ (ap (λ (t : List ℕ). items_text (each_items f count) ++ t) (same count) ∙ sym (items_text-append (each_items f count) (f count)))

each_scope : (w : Window) (p : Progress) (count : ℕ) → each_text (piece_text Scopes w p) count ≡ scopes_text (first_scopes count)
each_scope w p zero = refl
each_scope w p (suc count) =
    ap (λ (t : List ℕ). t ++ piece_text Scopes w p count) (each_scope w p count)
    ∙ (ap (λ (t : List ℕ). scopes_text (first_scopes count) ++ t) (sym (append-nil (piece_text Scopes w p count))) ∙ sym (scopes_text-append (first_scopes count) (scope_of count ∷ [])))

-- ---- values

-- what happens to the value of the wire of a code at a tick
abbrev pub Says : Type 0
Says = List ℕ → ℕ → List Bool → List Bool

abbrev pub same : Says
same c tick value = value

-- the code is of no pulse
abbrev pub IsKept : List ℕ → Type 0
IsKept c = (node tick now : ℕ) (value : List Bool) → value_from c tick now value (fall_changes node) ≡ value

-- the value after the changes of events
abbrev pub values : List ℕ → ℕ → List Bool → List Event → List Bool
values c tick value [] = value
values c tick value (e ∷ events) = values c tick (value_from c tick e.tick value (event_changes e)) events

values-append : (c : List ℕ) (tick : ℕ) (value : List Bool) (a b : List Event) → values c tick value (a ++ b) ≡ values c tick (values c tick value a) b
values-append c tick value [] b = refl
values-append c tick value (e ∷ a) b = values-append c tick (value_from c tick e.tick value (event_changes e)) a b

-- ticks ascend
abbrev pub Climbs : ℕ → List Event → Type 0
Climbs t [] = Unit {0}
Climbs t (e ∷ events) = (t ≤ e.tick) × Climbs e.tick events

-- what a node hears at first
abbrev pub heard_items : Option ℕ → List Item
heard_items None = []
heard_items (Some node) = heard_change Silence ∷ []

-- ---- the items of a line

module _ (w : Window) where
  -- the wires that are declared
  abbrev ds : List Wire
  ds = declared_wires (first_scopes w.nodes ++ heard_scopes w.heard)

  at_node : (node : ℕ) (t : ℕ) (items : List Item) (u : ℕ) → node < w.nodes → Goes (wires_of node) t items u → Goes ds t items u
  at_node node t items u below h = goes_among (wires_of node) ds (λ c bits has. wire_of_first w.nodes w.heard c bits (wire_first w.nodes node c bits below has)) t items u h

  each_goes : (f : ℕ → List Item) (t : ℕ) → ((row : ℕ) → Goes (wires_of row) t (f row) t) → (count : ℕ) → count ≤ w.nodes → Goes ds t (each_items f count) t
  each_goes f t h zero few = refl
  each_goes f t h (suc count) few = goes-append ds t (each_items f count) (f count) t t (each_goes f t h count (omega arith)) (at_node count t (f count) t (omega arith) (h count))

  -- the value after the items of one more number
  pub each_value : (f : ℕ → List Item) (t : ℕ) → ((row : ℕ) → Goes (wires_of row) t (f row) t) → (c : List ℕ) (tick : ℕ) (value : List Bool) (count : ℕ) → count ≤ w.nodes →
      value_from c tick t value (each_items f (suc count)) ≡ value_from c tick t (value_from c tick t value (each_items f count)) (f count)
  each_value f t h c tick value count few = value-append ds c tick t value (each_items f count) (f count) t (each_goes f t h count few)

  each_kept : (f : ℕ → List Item) (t : ℕ) → ((row : ℕ) → Goes (wires_of row) t (f row) t) → (c : List ℕ) (tick : ℕ) (value : List Bool) → ((row : ℕ) (x : List Bool) → value_from c tick t x (f row) ≡ x) → (count : ℕ) → count ≤ w.nodes →
      value_from c tick t value (each_items f count) ≡ value
  each_kept f t h c tick value kept zero few = refl
  each_kept f t h c tick value kept (suc count) few =
      each_value f t h c tick value count (omega arith)
      ∙ (ap (λ (x : List Bool). value_from c tick t x (f count)) (each_kept f t h c tick value kept count (omega arith)) ∙ kept count value)

  falls_of_go : (p : Progress) (t row : ℕ) → Goes (wires_of row) t (falls_of p row) t
  falls_of_go p t row = go (get_or p.pulses.nodes row false)
    where
      go : (b : Bool) → Goes (wires_of row) t (if b then fall_changes row else []) t
      go true = falls_go row t
      go false = refl

  falls_of_kept : (p : Progress) (c : List ℕ) (tick t : ℕ) → IsKept c → (row : ℕ) (x : List Bool) → value_from c tick t x (falls_of p row) ≡ x
  falls_of_kept p c tick t kept row x = go (get_or p.pulses.nodes row false)
    where
      go : (b : Bool) → value_from c tick t x (if b then fall_changes row else []) ≡ x
      go true = kept row tick t x
      go false = refl

  heard_goes : (heard : Option ℕ) (node : ℕ) (what : Heard) → hears_at heard node ≡ true →
      HasWire (declared_wires (first_scopes w.nodes ++ heard_scopes heard)) heard_code (Rattle.std.proofs.Common.length (heard_bits what))
  heard_goes None node what h = absurd cc
  heard_goes (Some k) node what h = subst (HasWire (declared_wires (first_scopes w.nodes ++ heard_scopes (Some k))) heard_code) (sym (three_bits what)) (wire_of_heard w.nodes k)

  happening_goes : (node t : ℕ) (what : Happening) → node < w.nodes → wired w.heard node what ≡ true → Goes ds t (happening_changes node what) t
  happening_goes node t Beacon low h = at_node node t (happening_changes node Beacon) t low (drive_goes node true false false t)
  happening_goes node t Commit low h = at_node node t (happening_changes node Commit) t low (drive_goes node false true false t)
  happening_goes node t (Leave number) low h = at_node node t (happening_changes node (Leave number)) t low (drive_goes node false false true t)
  happening_goes node t Quiet low h = at_node node t (happening_changes node Quiet) t low (drive_goes node false false false t)
  happening_goes node t InStep low h = at_node node t (happening_changes node InStep) t low (has_status node, refl)
  happening_goes node t LostStep low h = at_node node t (happening_changes node LostStep) t low (has_status node, refl)
  happening_goes node t (Taken number) low h = at_node node t (happening_changes node (Taken number)) t low (has_taken node, refl)
  happening_goes node t (Full number) low h = at_node node t (happening_changes node (Full number)) t low (has_refused node, refl)
  happening_goes node t (Off number) low h = at_node node t (happening_changes node (Off number)) t low (has_refused node, refl)
  happening_goes node t Good low h = at_node node t (happening_changes node Good) t low (has_good node, refl)
  happening_goes node t Bad low h = at_node node t (happening_changes node Bad) t low (has_bad node, refl)
  happening_goes node t (Jam number) low h = at_node node t (happening_changes node (Jam number)) t low (has_jam node, refl)
  happening_goes node t (Drop number) low h = at_node node t (happening_changes node (Drop number)) t low (has_drop node, refl)
  happening_goes node t (Hears what) low h = (heard_goes w.heard node what h, refl)

  -- a text of items that lead from the one time to the other, and what they do to values
  record Leads (t : ℕ) (text : List ℕ) (u : ℕ) (f : Says) : Type 0 where
    items : List Item
    goes : Goes ds t items u
    is : text ≡ items_text items
    says : (c : List ℕ) (tick : ℕ) (value : List Bool) → IsKept c → value_from c tick t value items ≡ f c tick value

  leads_then : (t u v : ℕ) (a b : List ℕ) (f g : Says) → Leads t a u f → Leads u b v g → Leads t (a ++ b) v (λ c tick value. g c tick (f c tick value))
  leads_then t u v a b f g h k = record {
    items = h.items ++ k.items;
    goes = goes-append ds t h.items k.items u v h.goes k.goes;
    is = ap (λ (x : List ℕ). x ++ b) h.is ∙ (ap (λ (x : List ℕ). items_text h.items ++ x) k.is ∙ sym (items_text-append h.items k.items));
    says = λ c tick value kept.
        value-append ds c tick t value h.items k.items u h.goes
        ∙ (ap (λ (x : List Bool). value_from c tick u x k.items) (h.says c tick value kept) ∙ k.says c tick (f c tick value) kept);
  }

  leads_as : (t u : ℕ) (text : List ℕ) (f g : Says) → ((c : List ℕ) (tick : ℕ) (value : List Bool) → f c tick value ≡ g c tick value) → Leads t text u f → Leads t text u g
  leads_as t u text f g e h = record { items = h.items; goes = h.goes; is = h.is; says = λ c tick value kept. h.says c tick value kept ∙ e c tick value }

  leads_nowhere : (t u : ℕ) → t ≡ u → Leads t [] u same
  leads_nowhere t u e = record { items = []; goes = e; is = refl; says = λ c tick value kept. refl }

  leads_time : (t u : ℕ) → t < u → Leads t (time_text u) u same
  leads_time t u later = record { items = Time u ∷ []; goes = (later, refl); is = sym (append-nil (time_text u)); says = λ c tick value kept. refl }

  falls_lead : (p : Progress) → Leads p.tick (falls_text w p) (last_time p) same
  falls_lead p = go p.pulses.any
    where
      go : (b : Bool) → Leads p.tick (if b then fallen_text w p else []) (if b then p.tick + 1 else p.tick) same
      go true =
          leads_then p.tick (p.tick + 1) (p.tick + 1) (time_text (p.tick + 1)) (each_text (piece_text Falls w p) w.nodes) same same (leads_time p.tick (p.tick + 1) (omega arith))
          (record {
            items = each_items (falls_of p) w.nodes;
            goes = each_goes (falls_of p) (p.tick + 1) (falls_of_go p (p.tick + 1)) w.nodes (omega arith);
            is = each_is (piece_text Falls w p) (falls_of p) (λ row. refl) w.nodes;
            says = λ c tick value kept. each_kept (falls_of p) (p.tick + 1) (falls_of_go p (p.tick + 1)) c tick value (falls_of_kept p c tick (p.tick + 1) kept) w.nodes (omega arith);
          })
      go false = leads_nowhere p.tick p.tick refl

  -- the last time is the latest tick or the one after it
  last_bound : (p : Progress) → last_time p ≤ p.tick + 1
  last_bound p = go p.pulses.any
    where
      go : (b : Bool) → (if b then p.tick + 1 else p.tick) ≤ p.tick + 1
      go true = omega arith
      go false = omega arith

  -- to a later tick
  moved_leads : (p : Progress) (tick : ℕ) → p.tick < tick → Leads p.tick (moved_text w p tick) tick same
  moved_leads p tick later = leads_then p.tick (last_time p) tick (falls_text w p) (time_after p tick) same same (falls_lead p) (go (nat_lt (last_time p) tick) refl)
    where
      go : (b : Bool) → nat_lt (last_time p) tick ≡ b → Leads (last_time p) (if b then time_text tick else []) tick same
      go true e = leads_time (last_time p) tick (grind arith)
      go false e = leads_nowhere (last_time p) tick (let bound = last_bound p in grind arith)

  closing_leads : (p : Progress) → (u : ℕ) × Leads p.tick (dump_closing w p) u same
  closing_leads p = go (nat_lt (last_time p) w.until) refl
    where
      go : (b : Bool) → nat_lt (last_time p) w.until ≡ b → (u : ℕ) × Leads p.tick (falls_text w p ++ (if b then time_text w.until else [])) u same
      go true e = (w.until, leads_then p.tick (last_time p) w.until (falls_text w p) (time_text w.until) same same (falls_lead p) (leads_time (last_time p) w.until (grind arith)))
      go false e = (last_time p, leads_then p.tick (last_time p) (last_time p) (falls_text w p) [] same same (falls_lead p) (leads_nowhere (last_time p) (last_time p) refl))

  before_leads : (p : Progress) (event : Event) → nat_lt event.tick p.tick ≡ false → Leads p.tick (before_text w p event) event.tick same
  before_leads p event early = go (nat_lt p.tick event.tick) refl
    where
      go : (b : Bool) → nat_lt p.tick event.tick ≡ b → Leads p.tick (if b then moved_text w p event.tick else []) event.tick same
      go true e = moved_leads p event.tick (grind arith)
      go false e = leads_nowhere p.tick event.tick (grind arith)

  lane_below : (node : ℕ) → is_lane w node ≡ true → node < w.nodes
  lane_below node lane = grind arith

  -- what an event does to values
  abbrev event_says : Event → Says
  event_says event c tick value = value_from c tick event.tick value (event_changes event)

  event_leads : (p : Progress) (event : Event) → is_lane w event.node ≡ true → has_wire w event ≡ true → nat_lt event.tick p.tick ≡ false → Leads p.tick (event_text w p event) event.tick (event_says event)
  event_leads p event lane wire early =
      leads_then p.tick event.tick event.tick (before_text w p event) (items_text (event_changes event)) same (event_says event) (before_leads p event early)
      (record {
        items = event_changes event;
        goes = happening_goes event.node event.tick event.what (lane_below event.node lane) wire;
        is = refl;
        says = λ c tick value kept. refl;
      })

  -- what a line does to values
  abbrev said_says : Option ReportLine → Says
  said_says said c tick value = values c tick value (event_of said)

  -- what a line gives leads from the latest tick before it to that after it
  quiet_leads : (p q : Progress) (told : Told) → StaysAsIs p q told → Leads p.tick (changes_text w told.before told.event) q.tick same
  quiet_leads p q told (bar, driven, none, (tick, pulses)) =
      subst (λ (o : Option Event). Leads p.tick (changes_text w told.before o) q.tick same) (sym none) (leads_nowhere p.tick q.tick (sym tick))

  line_leads : (p : Progress) (said : Option ReportLine) (q : Progress) (told : Told) → Takes w p said q told → Leads p.tick (changes_text w told.before told.event) q.tick (said_says said)
  line_leads p (Some (EventLine event)) q told (lane, bar, next, early, some, before, wire) =
      subst (λ (o : Option Event). Leads p.tick (changes_text w told.before o) q.tick (event_says event)) (sym some)
      (subst (λ (r : Progress). Leads p.tick (event_text w r event) q.tick (event_says event)) (sym before)
      (subst (λ (t : ℕ). Leads p.tick (event_text w p event) t (event_says event)) (sym (ap (λ (r : Progress). r.tick) next)) (event_leads p event lane wire early)))
  line_leads p (Some Settled) q told h = quiet_leads p q told h
  line_leads p (Some (Totals node)) q told h = quiet_leads p q told h
  line_leads p (Some Offer) q told h = quiet_leads p q told h
  line_leads p None q told h = absurd h

  line_climbs : (p : Progress) (said : Option ReportLine) (q : Progress) (told : Told) (events : List Event) → Takes w p said q told → Climbs q.tick events → Climbs p.tick (event_of said ++ events)
  line_climbs p (Some (EventLine event)) q told events (lane, bar, next, early, some, before, wire) more =
      (grind arith, subst (λ (t : ℕ). Climbs t events) (ap (λ (r : Progress). r.tick) next) more)
  line_climbs p (Some Settled) q told events (bar, driven, none, (tick, pulses)) more = subst (λ (t : ℕ). Climbs t events) tick more
  line_climbs p (Some (Totals node)) q told events (bar, driven, none, (tick, pulses)) more = subst (λ (t : ℕ). Climbs t events) tick more
  line_climbs p (Some Offer) q told events (bar, driven, none, (tick, pulses)) more = subst (λ (t : ℕ). Climbs t events) tick more
  line_climbs p None q told events h more = absurd h

  -- ---- all lines

  -- what these events do to values
  abbrev all_say : List Event → Says
  all_say events c tick value = values c tick value events

  -- the text leads on, and does to values what the events do, whose ticks ascend
  abbrev LeadsOn : ℕ → List ℕ → List Event → Type 0
  LeadsOn t text events = ((u : ℕ) × Leads t text u (all_say events)) × Climbs t events

  module _ (form : w.form ≡ Waveform) where
    end_leads : (p : Progress) (number : ℕ) (part : List ℕ) → (end_of w p number part).refused ≡ false → LeadsOn p.tick (end_of w p number part).text []
    end_leads p number [] h = go p.in_summary h
      where
        go : (b : Bool) → (if b then record { text = closing w p; refused = false } else Rattle.t1s_drawing.specs.Written.refusal number Rattle.t1s_drawing.specs.declared.progress.Reason.TheVariants.End).refused ≡ false
            → LeadsOn p.tick (if b then record { text = closing w p; refused = false } else Rattle.t1s_drawing.specs.Written.refusal number Rattle.t1s_drawing.specs.declared.progress.Reason.TheVariants.End).text []
        go true e = (subst (λ (f : Form). (u : ℕ) × Leads p.tick (closing_of f w p) u same) (sym form) (closing_leads p), tt)
        go false e = absurd cc
    end_leads p number (octet ∷ part) h = absurd cc

    told_leads : (p : Progress) (line : List ℕ) (q : Progress) (told : Told) → Takes w p (line_of line) q told → Leads p.tick (told_text w line told) q.tick (said_says (line_of line))
    told_leads p line q told h = subst (λ (f : Form). Leads p.tick (told_of f w line told) q.tick (said_says (line_of line))) (sym form) (line_leads p (line_of line) q told h)

    -- a line, and then others
    lines_lead : (p : Progress) (line : List ℕ) (q : Progress) (told : Told) (more : List ℕ) (events : List Event) → Takes w p (line_of line) q told → LeadsOn q.tick more events →
        LeadsOn p.tick (told_text w line told ++ more) (event_of (line_of line) ++ events)
    lines_lead p line q told more events takes ((u, rest), climbs) = (
      (
        u,
        leads_as p.tick u (told_text w line told ++ more) (λ c tick value. values c tick (values c tick value (event_of (line_of line))) events) (all_say (event_of (line_of line) ++ events))
            (λ c tick value. sym (values-append c tick value (event_of (line_of line)) events))
            (leads_then p.tick q.tick u (told_text w line told) more (said_says (line_of line)) (all_say events) (told_leads p line q told takes) rest),
      ),
      line_climbs p (line_of line) q told events takes climbs,
    )

    drawn_leads : (parts : List (List ℕ)) (p : Progress) (number : ℕ) → (drawn w parts p number).refused ≡ false → LeadsOn p.tick (drawn w parts p number).text (events_of parts)
    unfolding drawn
    drawn_leads [] p number h = absurd cc
    drawn_leads (part ∷ []) p number h = end_leads p number part h
    drawn_leads (part ∷ next ∷ parts) p number h = go (λ q. drawn_leads (next ∷ parts) q (number + 1)) (line_step w p number part) refl h
      where
        go : ((q : Progress) → (drawn w (next ∷ parts) q (number + 1)).refused ≡ false → LeadsOn q.tick (drawn w (next ∷ parts) q (number + 1)).text (events_of (next ∷ parts))) → (s : Stepped) → line_step w p number part ≡ s →
            (going_on w number part s (λ q. drawn w (next ∷ parts) q (number + 1))).refused ≡ false →
            LeadsOn p.tick (going_on w number part s (λ q. drawn w (next ∷ parts) q (number + 1))).text (events_of (part ∷ next ∷ parts))
        go more (Ok x) is e =
            let o = drawn w (next ∷ parts) x.0 (number + 1) in
            subst (λ (t : List ℕ). LeadsOn p.tick t (events_of (part ∷ next ∷ parts))) (sym (text-after (told_text w part x.1) o))
            (lines_lead p part x.0 x.1 o.text (events_of (next ∷ parts)) (line_taken w p number part x.0 x.1 is) (more x.0 (sym (refused-after (told_text w part x.1) o) ∙ e)))
        go more (Err reason) is e = absurd cc

    -- ---- the whole text

    -- what the first values do to values
    abbrev starts_say : Says
    starts_say c tick value = value_from c tick 0 value (each_items start_changes w.nodes)

    starts : Leads 0 (each_text (piece_text Starts w at_start) w.nodes) 0 starts_say
    starts = record {
      items = each_items start_changes w.nodes;
      goes = each_goes start_changes 0 (λ row. start_goes row 0) w.nodes (omega arith);
      is = each_is (piece_text Starts w at_start) start_changes (λ row. refl) w.nodes;
      says = λ c tick value kept. refl;
    }

    abbrev heard_says : Says
    heard_says c tick value = value_from c tick 0 value (heard_items w.heard)

    heard_start : Leads 0 (heard_start_text w.heard) 0 heard_says
    heard_start = record { items = heard_items w.heard; goes = goes w.heard; is = is w.heard; says = λ c tick value kept. refl }
      where
        goes : (heard : Option ℕ) → Goes (declared_wires (first_scopes w.nodes ++ heard_scopes heard)) 0 (heard_items heard) 0
        goes None = refl
        goes (Some node) = (wire_of_heard w.nodes node, refl)

        is : (heard : Option ℕ) → heard_start_text heard ≡ items_text (heard_items heard)
        is None = refl
        is (Some node) = sym (append-nil (heard_start_text (Some node)))

    -- the value of a wire after the first values and these events
    abbrev pub last_value : List Event → List ℕ → ℕ → List Bool
    last_value events c tick = values c tick (heard_says c tick (starts_say c tick [])) events

    -- a dump whose values are those after the events
    abbrev pub TellsEvents : List ℕ → List Event → Type 0
    TellsEvents text events = (d : IsDump text) × ((c : List ℕ) (tick : ℕ) → IsKept c → value_at (Time 0 ∷ d.items) c tick ≡ last_value events c tick) × Climbs 0 events

    dump_of : w.nodes ≤ 32 → (o : Outcome) (events : List Event) → LeadsOn 0 o.text events → TellsEvents (opening w ++ o.text) events
    dump_of few o events ((u, rest), climbs) =
        let start = each_text (piece_text Starts w at_start) w.nodes in
        let all = leads_then 0 0 u start (heard_start_text w.heard ++ o.text) starts_say (λ c tick value. values c tick (heard_says c tick value) events) starts
        (leads_then 0 0 u (heard_start_text w.heard) o.text heard_says (all_say events) heard_start rest) in (
          record {
            scopes = first_scopes w.nodes ++ heard_scopes w.heard;
            items = all.items;
            once = each_once w.nodes w.heard few;
            ascend = goes_ascend ds 0 all.items u all.goes;
            have_wires = goes_wires ds 0 all.items u all.goes;
            is = ap (λ (f : Form). opening_of f w ++ o.text) form
                ∙ (regroup (with_begin w) start (heard_start_text w.heard) o.text ∙ (ap (λ (t : List ℕ). with_begin w ++ t) all.is ∙ whole_begin all.items));
          },
          (λ c tick kept. all.says c tick [] kept),
          climbs,
        )
      where
        regroup : (a b c d : List ℕ) → ((a ++ b) ++ c) ++ d ≡ a ++ (b ++ (c ++ d))
        regroup a b c d = simp append_assoc refl

        all_scopes : each_text (piece_text Scopes w at_start) w.nodes ++ heard_scope_text w.heard ≡ scopes_text (first_scopes w.nodes ++ heard_scopes w.heard)
        all_scopes =
            ap (λ (t : List ℕ). t ++ heard_scope_text w.heard) (each_scope w at_start w.nodes)
            ∙ (ap (λ (t : List ℕ). scopes_text (first_scopes w.nodes) ++ t) (heard_scope_is w.heard) ∙ sym (scopes_text-append (first_scopes w.nodes) (heard_scopes w.heard)))
          where
            heard_scope_is : (heard : Option ℕ) → heard_scope_text heard ≡ scopes_text (heard_scopes heard)
            heard_scope_is None = refl
            heard_scope_is (Some node) = sym (append-nil (heard_scope_text (Some node)))

        whole_begin : (items : List Item) → with_begin w ++ items_text items ≡ codes "$timescale 100 ns $end\n" ++ (scopes_text (first_scopes w.nodes ++ heard_scopes w.heard) ++ (codes "$enddefinitions $end\n" ++ items_text (Time 0 ∷ items)))
        whole_begin items =
            begin_is (codes "$timescale 100 ns $end\n") (each_text (piece_text Scopes w at_start) w.nodes) (heard_scope_text w.heard) (codes "$enddefinitions $end\n") (codes "#0\n") (items_text items)
            ∙ (ap (λ (t : List ℕ). codes "$timescale 100 ns $end\n" ++ (t ++ (codes "$enddefinitions $end\n" ++ (codes "#0\n" ++ items_text items)))) all_scopes
            ∙ ap (λ (z : List ℕ). codes "$timescale 100 ns $end\n" ++ (scopes_text (first_scopes w.nodes ++ heard_scopes w.heard) ++ (codes "$enddefinitions $end\n" ++ (z ++ items_text items)))) (sym zero_time))
          where
            begin_is : (t a h e z b : List ℕ) → (((t ++ a) ++ h) ++ (e ++ z)) ++ b ≡ t ++ ((a ++ h) ++ (e ++ (z ++ b)))
            begin_is t a h e z b = simp append_assoc refl

-- a dump that is not refused is a valid one, and its values are those after the events that its lines tell
pub dump_tells : (w : Window) (octets : List ℕ) (form : w.form ≡ Waveform) → w.nodes ≤ 32 → (drawing_of w octets).refused ≡ false → TellsEvents w form (drawing_of w octets).text (events_of (parts_of octets))
unfolding drawing_of after
dump_tells w octets form few h =
    let o = drawn w (parts_of octets) at_start 1 in
    dump_of w form few o (events_of (parts_of octets)) (drawn_leads w form (parts_of octets) at_start 1 h)

pub dump_valid : (w : Window) (octets : List ℕ) → w.form ≡ Waveform → w.nodes ≤ 32 → (drawing_of w octets).refused ≡ false → IsDump (drawing_of w octets).text
dump_valid w octets form few h = (dump_tells w octets form few h).0
