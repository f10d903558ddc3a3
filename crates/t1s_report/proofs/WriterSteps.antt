-- What a writer has done with one text and then another.
use Rattle.std.proofs.Common.{◌≡◌, ℕ, zero, suc, ◌+◌, ◌-◌, ◌<◌, ◌⊎◌, add-zero, ◌≤◌, Bool, true, false, List, [], ◌∷◌, ◌++◌, inl, inr, length, take, get_or, map, codes, decimal, Option, None, Some, refl, ◌∙◌, ap, arith, append_assoc, length-append}
use Rattle.std.specs.List.{concat, flat_map, join_with_byte}
use Rattle.std.proofs.lemmas.Bool.{cases_lt}
use Rattle.std.proofs.lemmas.List.{append-nil, take_all, take_more}
use Rattle.std.proofs.lemmas.List.Folds.{concat-append}
use Rattle.std.proofs.lemmas.Grind.{flat_map-append}
use Rattle.t1s_base.specs.Causes.{FaultCountRose}
use Rattle.t1s_base.specs.Octets.{Grows, GrowsByPrefix}
use Rattle.t1s_world.specs.Events.{SeesEvents, events_below}
use Rattle.t1s_world.proofs.EventLemmas.{events_below-zero, events_below-more}
use Rattle.t1s_script.specs.declared.script.Script.{Script}
use Rattle.t1s_line.specs.EventRecords.{EventRecord}
use Rattle.t1s_line.specs.declared.offers.Wait.{Wait}
use Rattle.t1s_line.specs.World.{events_at, settled_below, totals_below}
use Rattle.t1s_report.specs.declared.writer.Writer.{Writer}
use Rattle.t1s_report.specs.EventLines.{event_line}
use Rattle.t1s_report.specs.Lines.{line}
use Rattle.t1s_report.specs.Report.{event_lines_below, event_lines, summary_below, summary, report}
use Rattle.t1s_report.specs.SummaryLines.{settled_line, node_line, offer_line, waits_below}
use Rattle.t1s_report.specs.WriterStep.{WriterStep}
use Rattle.t1s_report.proofs.SinkGrowth.{grows_none, grows_more, prefix_more, prefix_wider}

-- what happened in further ticks stands after what happened before
pub events_prefix : {E : Type 0} (events : ℕ → List E) (t d : ℕ) → (rest : List E) × (events_below events (t + d) ≡ events_below events t ++ rest)
events_prefix {E} events t zero = ([], rw (add-zero, append-nil (events_below events t)) refl)
events_prefix {E} events t (suc d) =
    let (rest, more) = events_prefix events t d in
    let next : t + suc d ≡ (t + d) + 1 = omega arith in
    (rest ++ events (t + d), rw (next, events_below-more events (t + d), more) (append_assoc (events_below events t) rest (events (t + d))))

-- a line ends with LF, so it is not empty
line_written : (fields : List (List ℕ)) → 0 < length (line fields)
line_written fields = omega (arith, length-append (join_with_byte 32 fields) (10 ∷ []))

settled_written : (settled : Option ℕ) → 0 < length (settled_line settled)
settled_written None = line_written (codes "settled" ∷ codes "never" ∷ [])
settled_written (Some tick) = line_written (codes "settled" ∷ decimal tick ∷ [])

-- and so is a report, which has the line of the settled tick
pub report_written : (s : Script) → 0 < length (report s)
report_written s =
    let some = settled_written (settled_below s s.end) in
    let rest = concat (map node_line (totals_below s s.end) ++ map (λ (w : ℕ × Wait). offer_line w.0 w.1) (waits_below s s.end)) in
    omega (arith, length-append (event_lines s) (summary s), length-append (settled_line (settled_below s s.end)) rest)

module _ {K : Type 0} (written : K → Option (List ℕ)) (faults : K → ℕ) (finished : K → Bool) where
  abbrev Step : Writer K → List ℕ → Writer K → Type 0
  Step w text v = WriterStep written faults finished w text v

  pub step_none : (w : Writer K) → Step w [] w
  step_none w = record {
    same_reference = refl;
    later = omega arith;
    idle = λ e. (e, refl);
    whole = λ e f. (grows_none (written w.sink.now), refl);
    prefix = λ e f. absurd cc;
    still_unfinished = λ e. e;
    unfinished = λ e f some. absurd (omega arith);
  }

  pub step_more : (w u v : Writer K) (a b : List ℕ) → Step w a u → Step u b v → Step w (a ++ b) v
  step_more w u v a b h k = record {
    same_reference = k.same_reference ∙ h.same_reference;
    later = omega (arith, h.later, k.later);
    idle = λ e. let (s, i) = h.idle e in let (t, j) = k.idle s in (t, j ∙ i);
    whole = λ e f. elim u.stopped as (λ x. u.stopped ≡ x → Grows (written w.sink.now) (written v.sink.now) (a ++ b) × (faults v.sink.now ≡ faults w.sink.now)) [
      | true ↦ λ g. absurd (let (t, j) = k.idle g in cc)
      | false ↦ λ g.
          let (p, m) = h.whole e g in
          let (q, n) = k.whole g f in
          (grows_more (written w.sink.now) (written u.sink.now) (written v.sink.now) a b p q, n ∙ m)
    ] refl;
    prefix = λ e f. elim u.stopped as (λ x. u.stopped ≡ x → GrowsByPrefix (written w.sink.now) (written v.sink.now) (a ++ b) × FaultCountRose (faults w.sink.now) (faults v.sink.now)) [
      | true ↦ λ g.
          let (t, j) = k.idle g in
          let (p, m) = h.prefix e g in
          rw j (prefix_wider (written w.sink.now) (written u.sink.now) a b p, m)
      | false ↦ λ g.
          let (p, m) = h.whole e g in
          let (q, n) = k.prefix g f in
          (prefix_more (written w.sink.now) (written u.sink.now) (written v.sink.now) a b p q, rw m at n)
    ] refl;
    still_unfinished = λ e. k.still_unfinished (h.still_unfinished e);
    unfinished = λ e f some. elim u.stopped as (λ x. u.stopped ≡ x → finished v.sink.now ≡ false) [
      | true ↦ λ g. absurd (let (t, j) = k.idle g in cc)
      | false ↦ λ g. elim (cases_lt 0 (length b)) [
        | inl more ↦ k.unfinished g f more
        | inr none ↦ k.still_unfinished (h.unfinished e g (omega (arith, length-append a b)))
      ]
    ] refl;
  }

  -- the lines of events that were told one after another
  pub step_told : (w v : Writer K) (es : List EventRecord) → SeesEvents (λ (before : Writer K) (event : EventRecord) (after : Writer K). Step before (event_line event) after) w es v → Step w (flat_map event_line es) v
  step_told w v [] e = rw e (step_none w)
  step_told w v (e ∷ es) (u, h, k) = step_more w u v (event_line e) (flat_map event_line es) h (step_told u v es k)

  pub step_no_tick : (s : Script) (w : Writer K) → Step w (event_lines_below s 0) w
  step_no_tick s w = rw (events_below-zero (events_at s)) (step_none w)

  pub step_tick : (s : Script) (t : ℕ) (w u v : Writer K) → Step w (event_lines_below s t) u → SeesEvents (λ (before : Writer K) (event : EventRecord) (after : Writer K). Step before (event_line event) after) u (events_at s t) v → Step w (event_lines_below s (t + 1)) v
  step_tick s t w u v p told =
      rw (events_below-more (events_at s) t, flat_map-append event_line (events_below (events_at s) t) (events_at s t))
      (step_more w u v (event_lines_below s t) (flat_map event_line (events_at s t)) p (step_told u v (events_at s t) told))

  -- one more of some lines
  pub step_line : (w u v : Writer K) (lines : List (List ℕ)) (k : ℕ) → k < length lines → Step w (concat (take k lines)) u → Step u (get_or lines k []) v → Step w (concat (take (k + 1) lines)) v
  step_line w u v lines k more p q =
      let all : concat (take (k + 1) lines) ≡ concat (take k lines) ++ get_or lines k [] =
      ap concat (take_more lines k [] more) ∙ (concat-append (take k lines) (get_or lines k [] ∷ []) ∙ ap (λ (x : List ℕ). concat (take k lines) ++ x) (append-nil (get_or lines k []))) in
      rw all (step_more w u v (concat (take k lines)) (get_or lines k []) p q)

  -- and all of them
  pub step_lines : (w u : Writer K) (lines : List (List ℕ)) (k : ℕ) → length lines ≤ k → Step w (concat (take k lines)) u → Step w (concat lines) u
  step_lines w u lines k all p = rw (take_all k lines all) at p

  -- after a stop the rest of the text is not written
  pub step_stopped : (w u v : Writer K) (a b c : List ℕ) → u.stopped ≡ true → Step w a u → Step u b v → Step w (a ++ c) v
  step_stopped w u v a b c stop h k = record {
    same_reference = k.same_reference ∙ h.same_reference;
    later = omega (arith, h.later, k.later);
    idle = λ e. let (s, i) = h.idle e in let (t, j) = k.idle s in (t, j ∙ i);
    whole = λ e f. absurd (let (t, j) = k.idle stop in cc);
    prefix = λ e f.
        let (t, j) = k.idle stop in
        let (p, m) = h.prefix e stop in
        rw j (prefix_wider (written w.sink.now) (written u.sink.now) a c p, m);
    still_unfinished = λ e. k.still_unfinished (h.still_unfinished e);
    unfinished = λ e f some. absurd (let (t, j) = k.idle stop in cc);
  }

  -- the whole report, where the run was played to its end or the writer stopped in it
  pub step_report : (s : Script) (t : ℕ) (w u v : Writer K) → t ≤ s.end → (u.stopped ≡ true) ⊎ (t ≡ s.end) → Step w (event_lines_below s t) u → Step u (summary_below s t) v → Step w (report s) v
  step_report s t w u v within why h k = elim why [
    | inl stop ↦
        let (rest, more) = events_prefix (events_at s) t (s.end - t) in
        let same : t + (s.end - t) ≡ s.end = omega arith in
        let whole : events_below (events_at s) s.end ≡ events_below (events_at s) t ++ rest = rw same at more in
        rw (whole, flat_map-append event_line (events_below (events_at s) t) rest, append_assoc (event_lines_below s t) (flat_map event_line rest) (summary s))
        (step_stopped w u v (event_lines_below s t) (summary_below s t) (flat_map event_line rest ++ summary s) stop h k)
    | inr e ↦
        let all = rw e at h in
        let last = rw e at k in
        step_more w u v (event_lines s) (summary s) all last
  ]
