-- What the whole call has done.
use Rattle.std.proofs.Common.{◌≡◌, ◌≢◌, ℕ, ◌⊎◌, Bool, true, false, List, [], ◌++◌, Option, Some, None, Err, refl, sym, ap, subst, ◌∙◌, inl, inr, arith}
use Rattle.std.specs.Prelude.{◌↔◌, IfSome, if◌then◌else◌}
use Rattle.std.proofs.lemmas.List.{append-nil}
use Rattle.t1s_base.specs.Causes.{FaultCountRose}
use Rattle.t1s_base.specs.Octets.{Gives, Grows, GrowsByPrefix}
use Rattle.t1s_base.proofs.Growth.{gives_nothing, prefix_of_whole}
use Rattle.t1s_drawing.specs.Calls.{HasFaultCause, Wrote}
use Rattle.t1s_drawing.specs.Drawn.{Drawn, DrawEnd, DrawStop, status_of}
use Rattle.t1s_drawing.specs.DrawCall.{DrawCall}
use Rattle.t1s_drawing.specs.Lines.{parts_of}
use Rattle.t1s_drawing.specs.Written.{Outcome, drawn, opening, drawing_of}
use Rattle.t1s_drawing.specs.Progress.{at_start}
use Rattle.t1s_drawing.specs.declared.drawing.Drawing.{Drawing}
use Rattle.t1s_drawing.specs.declared.status.Status.{Status}
use Rattle.t1s_drawing.specs.declared.status.Status.TheVariants.{Done, Refused, Usage, ReadFault, WriteFault}
use Rattle.t1s_drawing.specs.declared.window.Window.{Window}
use Rattle.t1s_drawing.proofs.Draws.{text-after}
use Rattle.t1s_drawing.proofs.Writes.{prefix_longer}

-- what is left, where the source tells it
abbrev pub left_over : Option (List ℕ) → List ℕ
left_over None = []
left_over (Some octets) = octets

pub left_over_is : (o : Option (List ℕ)) → IfSome o (λ octets. left_over o ≡ octets)
left_over_is None = tt
left_over_is (Some octets) = refl

-- at the end of the input a source has nothing left
pub nothing_left : (o p : Option (List ℕ)) (count : ℕ) → count ≡ 0 → Gives o p [] → IfSome o (λ octets. (count ≡ 0) ↔ (octets ≡ [])) → IfSome p (λ octets. [] ≡ octets)
nothing_left o None count z h e = tt
nothing_left None (Some octets) count z h e = cc
nothing_left (Some all) (Some octets) count z h e = let none : all ≡ [] = e.0 z in cc

-- where no read failed, and the answer doesn't say that one did
unfailed : {before after : ℕ} {status : Status} → after ≡ before → status ≢ ReadFault → HasFaultCause before after ReadFault status
unfailed same other = record { later = omega arith; rose = λ e. absurd (other e); kept = λ n. same }

status_no_read_fault : (o : Outcome) → status_of o ≢ ReadFault
status_no_read_fault o e = go o.refused e
  where
    go : (b : Bool) → (if b then Refused else Done) ≢ ReadFault
    go true e = cc
    go false e = cc

done_unrefused : (b : Bool) → (if b then Refused else Done) ≡ Done → b ≡ false
done_unrefused true e = absurd cc
done_unrefused false e = refl

refused_refused : (b : Bool) → (if b then Refused else Done) ≡ Refused → b ≡ true
refused_refused true e = refl
refused_refused false e = absurd cc

module _ {S K : Type 0} (left : S → Option (List ℕ)) (read_faults : S → ℕ) (written : K → Option (List ℕ)) (faults : K → ℕ) (finished : K → Bool) (w : Window) where
  no_read_fault : (octets : List ℕ) (first now : K) (status : Status) → DrawEnd written faults finished w octets first now status → status ≢ ReadFault
  no_read_fault octets first now status h e = elim h.answer [ inl a ↦ status_no_read_fault (drawing_of w octets) (sym a ∙ e) | inr a ↦ cc ]

  -- the opening was not written whole
  pub calls_unopened : {T E : Type 0} (s : S) (first now : K) (x : E) → Wrote {T = T} {E = E} written faults (opening w) first now (Err x) → DrawCall left read_faults written faults finished w s s first now WriteFault
  unfolding drawing_of
  calls_unopened s first now x h = record {
    cause = unfailed refl (λ e. cc);
    taken = [];
    beyond = left_over (left s);
    gives = gives_nothing (left s);
    rest = left_over_is (left s);
    failed = λ e. absurd cc;
    ended = λ n. record {
      answer = inr refl;
      whole = λ m. absurd (m refl);
      finish = λ m. absurd (m refl);
      prefix = λ e. rw (text-after (opening w) (drawn w (parts_of (left_over (left s))) at_start 1)) (prefix_longer (written first) (written now) (opening w) (drawn w (parts_of (left_over (left s))) at_start 1).text h.prefix);
      cause = record { later = h.cause.later; rose = λ e. h.cause.failed; kept = λ m. absurd (m refl) };
    };
    whole = λ e. cc;
  }

  module _ (s0 s : S) (first now : K) (octets : List ℕ) (d : Drawing) (h : Drawn written faults w octets d first now) where
    so_far : (more : List ℕ) → GrowsByPrefix (written first) (written now) (drawing_of w (octets ++ more)).text
    so_far more =
        let rest = drawn w (parts_of (d.line ++ more)) d.progress d.number in
        let is : (drawing_of w (octets ++ more)).text ≡ h.text ++ rest.text = ap (λ (o : Outcome). o.text) (h.goes_on more) ∙ text-after h.text rest in
        rw is (prefix_of_whole (written first) (written now) h.text rest.text h.grows)

    -- a read failed
    pub calls_failed : Gives (left s0) (left s) octets → HasFaultCause (read_faults s0) (read_faults s) ReadFault ReadFault → DrawCall left read_faults written faults finished w s0 s first now ReadFault
    calls_failed gives cause = record {
      cause = cause;
      taken = octets;
      beyond = left_over (left s);
      gives = gives;
      rest = left_over_is (left s);
      failed = λ e. (h.kept, so_far);
      ended = λ n. absurd (n refl);
      whole = λ e. cc;
    }

    -- the drawing stopped in a piece
    pub calls_stopped : (piece : List ℕ) (s' : S) (now' : K) (status : Status) → Gives (left s0) (left s') (octets ++ piece) → read_faults s' ≡ read_faults s0 →
        DrawStop written faults finished w (octets ++ piece) first now' status → DrawCall left read_faults written faults finished w s0 s' first now' status
    calls_stopped piece s' now' status gives same stop =
        let ends = stop.ends (left_over (left s')) in
        let other = no_read_fault ((octets ++ piece) ++ left_over (left s')) first now' status ends in
        record {
          cause = unfailed same other;
          taken = octets ++ piece;
          beyond = left_over (left s');
          gives = gives;
          rest = left_over_is (left s');
          failed = λ e. absurd (other e);
          ended = λ n. ends;
          whole = λ e. absurd (stop.early e);
        }

    -- the input ended
    pub calls_ended : (s' : S) (now' : K) (status : Status) → Gives (left s0) (left s') octets → read_faults s' ≡ read_faults s0 → IfSome (left s') (λ more. [] ≡ more) →
        DrawEnd written faults finished w octets first now' status → DrawCall left read_faults written faults finished w s0 s' first now' status
    calls_ended s' now' status gives same none ends =
        let other = no_read_fault octets first now' status ends in
        record {
          cause = unfailed same other;
          taken = octets;
          beyond = [];
          gives = gives;
          rest = none;
          failed = λ e. absurd (other e);
          ended = λ n. subst (λ (o : List ℕ). DrawEnd written faults finished w o first now' status) (sym (append-nil octets)) ends;
          whole = λ e. refl;
        }

  -- What the program's answer says.
  module _ (s s' : S) (k k' : K) (status : Status) (d : DrawCall left read_faults written faults finished w s s' k k' status) where
    pub no_usage : status ≢ Usage
    no_usage e = elim (d.ended (λ f. cc)).answer [ inl a ↦ go (drawing_of w (d.taken ++ d.beyond)).refused (sym a ∙ e) | inr a ↦ cc ]
      where
        go : (b : Bool) → (if b then Refused else Done) ≢ Usage
        go true e = cc
        go false e = cc

    pub finishes : (status ≡ Done) ⊎ (status ≡ Refused) → finished k' ≡ true
    finishes e = (d.ended (λ f. elim e [ inl a ↦ cc | inr a ↦ cc ])).finish (λ f. elim e [ inl a ↦ cc | inr a ↦ cc ])

    pub sink_cause : HasFaultCause (faults k) (faults k') WriteFault status
    sink_cause = go status d
      where
        go : (r : Status) → DrawCall left read_faults written faults finished w s s' k k' r → HasFaultCause (faults k) (faults k') WriteFault r
        go ReadFault c = let same = (c.failed refl).0 in record { later = omega arith; rose = λ e. absurd cc; kept = λ n. same }
        go Done c = (c.ended (λ e. cc)).cause
        go Refused c = (c.ended (λ e. cc)).cause
        go Usage c = (c.ended (λ e. cc)).cause
        go WriteFault c = (c.ended (λ e. cc)).cause

    module _ (octets : List ℕ) (told : left s ≡ Some octets) where
      all_octets : octets ≡ d.taken ++ d.beyond
      all_octets = go (left s') d.gives d.rest
        where
          go : (o : Option (List ℕ)) → Gives (left s) o d.taken → IfSome o (λ more. d.beyond ≡ more) → octets ≡ d.taken ++ d.beyond
          go None gives rest = cc
          go (Some more) gives rest = cc

      ended_of_all : status ≢ ReadFault → DrawEnd written faults finished w octets k k' status
      ended_of_all n = subst (λ (o : List ℕ). DrawEnd written faults finished w o k k' status) (sym all_octets) (d.ended n)

      reads_all : status ≡ Done → left s' ≡ Some []
      reads_all e = go (left s') d.gives d.rest
        where
          go : (o : Option (List ℕ)) → Gives (left s) o d.taken → IfSome o (λ more. d.beyond ≡ more) → o ≡ Some []
          go None gives rest = cc
          go (Some more) gives rest = ap Some (sym rest ∙ d.whole e)

      pub says_done : status ≡ Done → ((drawing_of w octets).refused ≡ false) × Grows (written k) (written k') (drawing_of w octets).text × (left s' ≡ Some [])
      says_done e =
          let ends = ended_of_all (λ f. cc) in (
            elim ends.answer [ inl a ↦ done_unrefused (drawing_of w octets).refused (sym a ∙ e) | inr a ↦ absurd cc ],
            ends.whole (λ f. cc),
            reads_all e,
          )

      pub says_refused : status ≡ Refused → ((drawing_of w octets).refused ≡ true) × Grows (written k) (written k') (drawing_of w octets).text
      says_refused e =
          let ends = ended_of_all (λ f. cc) in (
            elim ends.answer [ inl a ↦ refused_refused (drawing_of w octets).refused (sym a ∙ e) | inr a ↦ absurd cc ],
            ends.whole (λ f. cc),
          )

      pub says_prefix : status ≡ WriteFault → GrowsByPrefix (written k) (written k') (drawing_of w octets).text
      says_prefix e = (ended_of_all (λ f. cc)).prefix e

      pub completes : ¬ (FaultCountRose (read_faults s) (read_faults s')) → ¬ (FaultCountRose (faults k) (faults k')) → status ≡ status_of (drawing_of w octets)
      completes calm_source calm_sink =
          let ends = ended_of_all (λ e. calm_source (d.cause.rose e)) in
          elim ends.answer [ inl a ↦ a | inr a ↦ absurd (calm_sink (ends.cause.rose a)) ]
