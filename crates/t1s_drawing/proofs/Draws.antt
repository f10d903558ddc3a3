-- How a drawing goes on, and how it ends.
use Rattle.std.proofs.Common.{◌≡◌, ◌≢◌, ◌⊎◌, ℕ, ◌+◌, ◌<◌, ◌≤◌, Bool, true, false, nat_lt, List, [], ◌∷◌, ◌++◌, length, Option, Ok, Err, refl, sym, ap, subst, ◌∙◌, inl, inr, arith, append_assoc, length-append}
use Rattle.std.proofs.lemmas.List.{append-nil}
use Rattle.std.specs.Prelude.{if◌then◌else◌}
use borrow.Author.Tests.{lt-ltb}
use Rattle.t1s_base.specs.Octets.{Grows}
use Rattle.t1s_base.proofs.Growth.{grows_then, grows_then_prefix}
use Rattle.t1s_drawing.specs.Lines.{parts_of}
use Rattle.t1s_drawing.specs.Progress.{at_start}
use Rattle.t1s_drawing.specs.Written.{Outcome, after, closing, drawn, end_of, going_on, line_step, opening, drawing_of, refusal, refused_line, told_text}
use Rattle.t1s_drawing.specs.Drawn.{Drawn, DrawEnd, DrawStop}
use Rattle.t1s_drawing.specs.DrawSteps.{TextOutcome}
use Rattle.t1s_drawing.specs.declared.drawing.Drawing.{Drawing}
use Rattle.t1s_drawing.specs.declared.progress.Progress.{Progress}
use Rattle.t1s_drawing.specs.declared.progress.Reason.{Reason}
use Rattle.t1s_drawing.specs.declared.progress.Reason.TheVariants.{TooLong, End}
use Rattle.t1s_drawing.specs.declared.progress.Told.{Told}
use Rattle.t1s_drawing.specs.declared.status.Status.{Status}
use Rattle.t1s_drawing.specs.declared.status.Status.TheVariants.{Done, Refused, WriteFault}
use Rattle.t1s_drawing.specs.declared.window.Window.{Window}
use Rattle.t1s_drawing.proofs.Parts.{first_part, in_line_push, parts-begun, parts-last, parts-line}
use Rattle.t1s_drawing.proofs.Writes.{prefix_longer}

after-after : (a b : List ℕ) (o : Outcome) → after a (after b o) ≡ after (a ++ b) o
unfolding after
after-after a b o = ap (λ (t : List ℕ). record { text = t; refused = o.refused }) (sym (append_assoc a b o.text))

pub text-after : (a : List ℕ) (o : Outcome) → (after a o).text ≡ a ++ o.text
unfolding after
text-after a o = refl

pub refused-after : (a : List ℕ) (o : Outcome) → (after a o).refused ≡ o.refused
unfolding after
refused-after a o = refl

drawn-more : (w : Window) (part : List ℕ) (octets : List ℕ) (p : Progress) (number : ℕ) →
    drawn w (part ∷ parts_of octets) p number ≡ going_on w number part (line_step w p number part) (λ q. drawn w (parts_of octets) q (number + 1))
unfolding drawn
drawn-more w part octets p number =
    let (head, tail, e) = first_part octets in
    subst (λ (parts : List (List ℕ)). drawn w (part ∷ parts) p number ≡ going_on w number part (line_step w p number part) (λ q. drawn w parts q (number + 1))) (sym e) refl

drawn-last : (w : Window) (part : List ℕ) (p : Progress) (number : ℕ) → drawn w (part ∷ []) p number ≡ end_of w p number part
unfolding drawn
drawn-last w part p number = refl

-- a line that is too long is refused, whatever follows it
long_end : (w : Window) (p : Progress) (number : ℕ) (part : List ℕ) → 4096 < length part → end_of w p number part ≡ refusal number TooLong
long_end w p number [] long = absurd (omega arith)
long_end w p number (x ∷ part) long = rw (lt-ltb 4096 (length (x ∷ part)) long) refl

drawn-long : (w : Window) (part : List ℕ) (parts : List (List ℕ)) (p : Progress) (number : ℕ) → 4096 < length part → drawn w (part ∷ parts) p number ≡ refusal number TooLong
unfolding drawn
drawn-long w part [] p number long = long_end w p number part long
drawn-long w part (next ∷ parts) p number long = rw (lt-ltb 4096 (length part) long) refl

module _ {K : Type 0} (written : K → Option (List ℕ)) (faults : K → ℕ) (finished : K → Bool) (w : Window) where
  -- the opening is written, and nothing is read
  pub begun : (d : Drawing) (first now : K) → d.line ≡ [] → d.progress ≡ at_start → d.number ≡ 1 → Grows (written first) (written now) (opening w) → faults now ≡ faults first →
      Drawn written faults w [] d first now
  unfolding drawing_of
  begun d first now line progress number grows same = record {
    text = opening w;
    grows = grows;
    kept = same;
    in_line = rw line refl;
    goes_on = λ more. rw (line, progress, number) refl;
  }

  module _ (octets : List ℕ) (d : Drawing) (first now : K) (h : Drawn written faults w octets d first now) where
    -- what is written for all, where the line that has begun ends here
    line_goes_on : (more : List ℕ) →
        drawing_of w ((octets ++ 10 ∷ []) ++ more) ≡ after h.text (going_on w d.number d.line (line_step w d.progress d.number d.line) (λ q. drawn w (parts_of more) q (d.number + 1)))
    line_goes_on more =
        ap (drawing_of w) (append_assoc octets (10 ∷ []) more) ∙ (h.goes_on (10 ∷ more)
        ∙ (ap (λ (parts : List (List ℕ)). after h.text (drawn w parts d.progress d.number)) (parts-line d.line more h.in_line)
        ∙ ap (after h.text) (drawn-more w d.line more d.progress d.number)))

    -- and it is one of the report
    taken_goes_on : (p : Progress) (told : Told) (more : List ℕ) → line_step w d.progress d.number d.line ≡ Ok (p, told) →
        drawing_of w ((octets ++ 10 ∷ []) ++ more) ≡ after (h.text ++ told_text w d.line told) (drawn w (parts_of more) p (d.number + 1))
    taken_goes_on p told more e =
        line_goes_on more ∙ (ap (λ s. after h.text (going_on w d.number d.line s (λ q. drawn w (parts_of more) q (d.number + 1)))) e
        ∙ after-after h.text (told_text w d.line told) (drawn w (parts_of more) p (d.number + 1)))

    pub line_taken : (d' : Drawing) (told : Told) (now' : K) → line_step w d.progress d.number d.line ≡ Ok (d'.progress, told) → d'.line ≡ [] → d'.number ≡ d.number + 1 →
        Grows (written now) (written now') (told_text w d.line told) → faults now' ≡ faults now → Drawn written faults w (octets ++ 10 ∷ []) d' first now'
    line_taken d' told now' e line number grows same = record {
      text = h.text ++ told_text w d.line told;
      grows = grows_then (written first) (written now) (written now') h.text (told_text w d.line told) h.grows grows;
      kept = same ∙ h.kept;
      in_line = rw line refl;
      goes_on = λ more. rw (line, number) (taken_goes_on d'.progress told more e);
    }

    -- an ending with a text that is the rest of the picture
    pub draw_ends : (all text : List ℕ) (whole status : Status) (refused : Bool) (now' : K) → drawing_of w all ≡ after h.text (record { text = text; refused = refused }) → whole ≡ (if refused then Refused else Done) →
        TextOutcome written faults finished whole text now now' status → DrawEnd written faults finished w all first now' status
    draw_ends all text whole status refused now' is which e =
        let texts : (drawing_of w all).text ≡ h.text ++ text = ap (λ (o : Outcome). o.text) is ∙ text-after h.text (record { text = text; refused = refused }) in
        let refusals : (drawing_of w all).refused ≡ refused = ap (λ (o : Outcome). o.refused) is ∙ refused-after h.text (record { text = text; refused = refused }) in
        let same = h.kept in
        let answer : status ≢ WriteFault → status ≡ whole = λ n. elim e.answer [ inl a ↦ a | inr a ↦ absurd (n a) ] in
        record {
          answer = elim e.answer [ inl a ↦ inl (a ∙ (which ∙ ap (λ (b : Bool). if b then Refused else Done) (sym refusals))) | inr a ↦ inr a ];
          whole = λ n. rw texts (grows_then (written first) (written now) (written now') h.text text h.grows (e.whole_text (answer n)));
          finish = λ n. e.end (answer n);
          prefix = λ f. rw texts (grows_then_prefix (written first) (written now) (written now') h.text text h.grows (e.prefix f));
          cause = rw same at e.cause;
        }

    -- the write of a text failed, whatever follows it in the picture
    part_ends : (all text rest : List ℕ) (refused : Bool) (now' : K) → drawing_of w all ≡ after h.text (record { text = text ++ rest; refused = refused }) →
        TextOutcome written faults finished Done text now now' WriteFault → DrawEnd written faults finished w all first now' WriteFault
    part_ends all text rest refused now' is e =
        let texts : (drawing_of w all).text ≡ h.text ++ (text ++ rest) = ap (λ (o : Outcome). o.text) is ∙ text-after h.text (record { text = text ++ rest; refused = refused }) in
        let same = h.kept in
        record {
          answer = inr refl;
          whole = λ n. absurd (n refl);
          finish = λ n. absurd (n refl);
          prefix = λ f. rw texts (grows_then_prefix (written first) (written now) (written now') h.text (text ++ rest) h.grows (prefix_longer (written now) (written now') text rest (e.prefix refl)));
          cause = rw same at e.cause;
        }

    pub line_stopped : (p : Progress) (told : Told) (now' : K) → line_step w d.progress d.number d.line ≡ Ok (p, told) →
        TextOutcome written faults finished Done (told_text w d.line told) now now' WriteFault → DrawStop written faults finished w (octets ++ 10 ∷ []) first now' WriteFault
    unfolding after
    line_stopped p told now' e out = record {
      early = λ f. cc;
      ends = λ more.
          let o = drawn w (parts_of more) p (d.number + 1) in
          part_ends ((octets ++ 10 ∷ []) ++ more) (told_text w d.line told) o.text o.refused now' (taken_goes_on p told more e ∙ sym (after-after h.text (told_text w d.line told) o)) out;
    }

    not_done : (text : List ℕ) (now' : K) (status : Status) → TextOutcome written faults finished Refused text now now' status → status ≢ Done
    not_done text now' status e f = absurd (elim e.answer [ inl a ↦ cc | inr a ↦ cc ])

    pub line_refused : (reason : Reason) (now' : K) (status : Status) → line_step w d.progress d.number d.line ≡ Err reason →
        TextOutcome written faults finished Refused (refused_line d.number reason) now now' status → DrawStop written faults finished w (octets ++ 10 ∷ []) first now' status
    line_refused reason now' status e out = record {
      early = not_done (refused_line d.number reason) now' status out;
      ends = λ more.
          draw_ends ((octets ++ 10 ∷ []) ++ more) (refused_line d.number reason) Refused status true now'
          (line_goes_on more ∙ ap (λ s. after h.text (going_on w d.number d.line s (λ q. drawn w (parts_of more) q (d.number + 1)))) e) refl out;
    }

    octet_goes_on : (octet : ℕ) (more : List ℕ) → drawing_of w ((octets ++ octet ∷ []) ++ more) ≡ after h.text (drawn w (parts_of ((d.line ++ octet ∷ []) ++ more)) d.progress d.number)
    octet_goes_on octet more =
        ap (drawing_of w) (append_assoc octets (octet ∷ []) more) ∙ (h.goes_on (octet ∷ more)
        ∙ ap (λ (o : List ℕ). after h.text (drawn w (parts_of o) d.progress d.number)) (sym (append_assoc d.line (octet ∷ []) more)))

    -- an octet of a line
    pub octet_taken : (octet : ℕ) (d' : Drawing) → (octet ≡ 10 → ⊥) → d'.line ≡ d.line ++ octet ∷ [] → d'.progress ≡ d.progress → d'.number ≡ d.number → Drawn written faults w (octets ++ octet ∷ []) d' first now
    octet_taken octet d' other line progress number = record {
      text = h.text;
      grows = h.grows;
      kept = h.kept;
      in_line = rw line (in_line_push d.line octet h.in_line other);
      goes_on = λ more. rw (line, progress, number) (octet_goes_on octet more);
    }

    -- one more than a line may have
    pub octet_refused : (octet : ℕ) (now' : K) (status : Status) → (octet ≡ 10 → ⊥) → 4096 < length d.line + 1 →
        TextOutcome written faults finished Refused (refused_line d.number TooLong) now now' status → DrawStop written faults finished w (octets ++ octet ∷ []) first now' status
    octet_refused octet now' status other long out = record {
      early = not_done (refused_line d.number TooLong) now' status out;
      ends = λ more.
          let (head, tail, parts) = parts-begun (d.line ++ octet ∷ []) more (in_line_push d.line octet h.in_line other) in
          let many : length (d.line ++ octet ∷ []) ≡ length d.line + 1 = length-append d.line (octet ∷ []) in
          let all : length ((d.line ++ octet ∷ []) ++ head) ≡ length (d.line ++ octet ∷ []) + length head = length-append (d.line ++ octet ∷ []) head in
          let longer : 4096 < length ((d.line ++ octet ∷ []) ++ head) = omega arith in
          draw_ends ((octets ++ octet ∷ []) ++ more) (refused_line d.number TooLong) Refused status true now'
          (octet_goes_on octet more ∙ (ap (λ (p : List (List ℕ)). after h.text (drawn w p d.progress d.number)) parts ∙ ap (after h.text) (drawn-long w ((d.line ++ octet ∷ []) ++ head) tail d.progress d.number longer)))
          refl out;
    }

    -- where the input ends
    at_end : drawing_of w octets ≡ after h.text (end_of w d.progress d.number d.line)
    at_end =
        ap (drawing_of w) (sym (append-nil octets)) ∙ (h.goes_on []
        ∙ (ap (λ (o : List ℕ). after h.text (drawn w (parts_of o) d.progress d.number)) (append-nil d.line)
        ∙ (ap (λ (p : List (List ℕ)). after h.text (drawn w p d.progress d.number)) (parts-last d.line h.in_line)
        ∙ ap (after h.text) (drawn-last w d.line d.progress d.number))))

    pub ended_whole : (now' : K) (status : Status) → d.line ≡ [] → d.progress.in_summary ≡ true → TextOutcome written faults finished Done (closing w d.progress) now now' status →
        DrawEnd written faults finished w octets first now' status
    ended_whole now' status empty summary out =
        let is : end_of w d.progress d.number d.line ≡ record { text = closing w d.progress; refused = false } = rw (empty, summary) refl in
        draw_ends octets (closing w d.progress) Done status false now' (at_end ∙ ap (after h.text) is) refl out

    pub ended_early : (now' : K) (status : Status) → end_of w d.progress d.number d.line ≡ refusal d.number End → TextOutcome written faults finished Refused (refused_line d.number End) now now' status →
        DrawEnd written faults finished w octets first now' status
    ended_early now' status is out = draw_ends octets (refused_line d.number End) Refused status true now' (at_end ∙ ap (after h.text) is) refl out

  -- what stopped within these octets did so within more of them
  pub stopped_within : (octets more all : List ℕ) (first now : K) (status : Status) → octets ++ more ≡ all → DrawStop written faults finished w octets first now status → DrawStop written faults finished w all first now status
  stopped_within octets more all first now status e h = record {
    early = h.early;
    ends = λ further.
        let same : octets ++ (more ++ further) ≡ all ++ further = sym (append_assoc octets more further) ∙ ap (λ (o : List ℕ). o ++ further) e in
        subst (λ (o : List ℕ). DrawEnd written faults finished w o first now status) same (h.ends (more ++ further));
  }

-- a short line that has begun, or no summary
pub early_end : (w : Window) (p : Progress) (number : ℕ) (line : List ℕ) → length line ≤ 4096 → (0 < length line) ⊎ (p.in_summary ≡ false) → end_of w p number line ≡ refusal number End
early_end w p number [] short (inl some) = absurd (omega arith)
early_end w p number [] short (inr none) = rw none refl
early_end w p number (x ∷ line) short why = rw (not_above (length (x ∷ line)) short) refl
  where
    not_above : (n : ℕ) → n ≤ 4096 → nat_lt 4096 n ≡ false
    not_above n le = grind arith
