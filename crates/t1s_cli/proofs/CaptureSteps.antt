-- What stands written of the capture of a node, tick by tick.
use Rattle.std.proofs.Common.{◌≡◌, ℕ, ◌+◌, ◌-◌, ◌≤◌, ◌⊎◌, Bool, true, List, [], ◌∷◌, ◌++◌, Option, refl, sym, ap, ◌∙◌, inl, inr, arith, append_assoc}
use Rattle.std.specs.Option.{option_to_list}
use Rattle.std.proofs.lemmas.List.{append-nil}
use Rattle.t1s_world.proofs.EventLemmas.{events_below-zero, events_below-more}
use Rattle.t1s_script.specs.declared.script.Script.{Script}
use Rattle.t1s_line.specs.World.{heard_by}
use Rattle.t1s_capture.specs.Captures.{header, capture_text}
use Rattle.t1s_capture.specs.Cut.{Tick, cut}
use Rattle.t1s_capture.specs.WriterTable.{WriterState, WriterStands, row_step, row_end}
use Rattle.t1s_capture.proofs.Cuts.{writer_stands_more, written}
use Rattle.t1s_report.specs.declared.writer.Writer.{Writer}
use Rattle.t1s_report.specs.HeardText.{ticks_heard, heard_text}
use Rattle.t1s_report.specs.WriterStep.{WriterStep}
use Rattle.t1s_report.proofs.WriterSteps.{events_prefix, step_more, step_stopped}

-- whatever ticks follow, what was given out so far stands after the header, and more after it
text_begins : (more ticks : List Tick) (given : List ℕ) (w : WriterState) → WriterStands ticks given w →
    (tail : List ℕ) × (capture_text w.node (cut (ticks ++ more)) ≡ (header w.node ++ given) ++ tail)
text_begins [] ticks given w h =
    let tail : List ℕ = row_end w.row ++ 0x21 ∷ [] in (
      tail,
      ap (λ (ts : List Tick). capture_text w.node (cut ts)) (append-nil ticks) ∙ (sym (written ticks given w h) ∙ sym (append_assoc (header w.node) given tail)),
    )
text_begins (t ∷ more) ticks given w h =
    let next : WriterState = record w { row = (row_step w.row t).0 } in
    let octets : List ℕ = (row_step w.row t).1 in
    let (tail, is) = text_begins more (ticks ++ t ∷ []) (given ++ octets) next (writer_stands_more ticks given w next t h refl) in (
      octets ++ tail,
      ap (λ (ts : List Tick). capture_text w.node (cut ts)) (sym (append_assoc ticks (t ∷ []) more))
          ∙ (is ∙ (ap (λ (xs : List ℕ). xs ++ tail) (sym (append_assoc (header w.node) given octets)) ∙ append_assoc (header w.node ++ given) octets tail)),
    )

module _ {K : Type 0} (written_to : K → Option (List ℕ)) (faults : K → ℕ) (finished : K → Bool) where
  -- The ticks below t were handed in, and what was given out for them is written after the header.
  pub record CaptureProgress (s : Script) (node t : ℕ) (before : Writer K) (capture : WriterState) (after : Writer K) : Type 0 where
    pub given : List ℕ
    pub writes : WriterStands (ticks_heard s node t) given capture
    pub node_is : capture.node ≡ node
    pub few : capture.ticks ≤ t
    pub puts : WriterStep written_to faults finished before (header node ++ given) after

  -- nothing was handed in
  pub captured_none : (s : Script) (node : ℕ) (before : Writer K) (capture : WriterState) (after : Writer K) →
      WriterStands [] [] capture → capture.node ≡ node → capture.ticks ≡ 0 → WriterStep written_to faults finished before (header node) after → CaptureProgress s node 0 before capture after
  captured_none s node before capture after writes node_is none puts = record {
    given = [];
    writes = rw (events_below-zero (λ u. option_to_list (heard_by s node u))) writes;
    node_is = node_is;
    few = omega arith;
    puts = rw (append-nil (header node)) puts;
  }

  module _ (s : Script) (node t : ℕ) (before : Writer K) (capture : WriterState) (so_far : Writer K) (h : CaptureProgress s node t before capture so_far) where
    -- some ticks more were handed in
    pub captured_more : (n : ℕ) (ticks : List Tick) (next : WriterState) (octets : List ℕ) (after : Writer K) → ticks_heard s node (t + n) ≡ ticks_heard s node t ++ ticks →
        WriterStands (ticks_heard s node t ++ ticks) (h.given ++ octets) next → next.node ≡ capture.node → next.ticks ≡ capture.ticks + n → WriterStep written_to faults finished so_far octets after →
        CaptureProgress s node (t + n) before next after
    captured_more n ticks next octets after heard writes node_is more puts = record {
      given = h.given ++ octets;
      writes = rw heard writes;
      node_is = node_is ∙ h.node_is;
      few = omega (arith, h.few, more);
      puts = rw (sym (append_assoc (header node) h.given octets)) (step_more written_to faults finished before so_far after (header node ++ h.given) octets h.puts puts);
    }

    -- the node hears nothing in ticks that the script doesn't give it
    pub captured_none_more : (n : ℕ) → ticks_heard s node (t + n) ≡ ticks_heard s node t → CaptureProgress s node (t + n) before capture so_far
    captured_none_more n none = record {
      given = h.given;
      writes = rw none h.writes;
      node_is = h.node_is;
      few = omega (arith, h.few);
      puts = h.puts;
    }

    heard-more : (ticks : List Tick) → option_to_list (heard_by s node t) ≡ ticks → ticks_heard s node (t + 1) ≡ ticks_heard s node t ++ ticks
    heard-more ticks e = events_below-more (λ u. option_to_list (heard_by s node u)) t ∙ ap (λ (ts : List Tick). ticks_heard s node t ++ ts) e

    -- one tick more was handed in
    pub captured_tick : (tick : Tick) (next : WriterState) (octets : List ℕ) (after : Writer K) → option_to_list (heard_by s node t) ≡ tick ∷ [] →
        WriterStands (ticks_heard s node t ++ tick ∷ []) (h.given ++ octets) next → next.node ≡ capture.node → next.ticks ≡ capture.ticks + 1 → WriterStep written_to faults finished so_far octets after →
        CaptureProgress s node (t + 1) before next after
    captured_tick tick next octets after heard = captured_more 1 (tick ∷ []) next octets after (heard-more (tick ∷ []) heard)

    -- or none
    pub captured_no_tick : option_to_list (heard_by s node t) ≡ [] → CaptureProgress s node (t + 1) before capture so_far
    captured_no_tick none = captured_none_more 1 (heard-more [] none ∙ append-nil (ticks_heard s node t))

    -- the last octets are put, where the run was played to its end or the writer stopped in it
    pub captured_whole : (octets : List ℕ) (after : Writer K) → t ≤ s.end → (so_far.stopped ≡ true) ⊎ (t ≡ s.end) →
        (header capture.node ++ (h.given ++ octets) ≡ capture_text capture.node (cut (ticks_heard s node t))) → WriterStep written_to faults finished so_far octets after →
        WriterStep written_to faults finished before (heard_text s node) after
    captured_whole octets after within (inr e) text puts =
        let last : heard_text s node ≡ capture_text node (cut (ticks_heard s node t)) = ap (λ (u : ℕ). capture_text node (cut (ticks_heard s node u))) (sym e) in
        let whole : heard_text s node ≡ (header node ++ h.given) ++ octets =
        last
        ∙ (ap (λ (n : ℕ). capture_text n (cut (ticks_heard s node t))) (sym h.node_is)
        ∙ (sym text
        ∙ (ap (λ (n : ℕ). header n ++ (h.given ++ octets)) h.node_is ∙ sym (append_assoc (header node) h.given octets)))) in
        rw whole (step_more written_to faults finished before so_far after (header node ++ h.given) octets h.puts puts)
    captured_whole octets after within (inl stop) text puts =
        let (rest, more) = events_prefix (λ u. option_to_list (heard_by s node u)) t (s.end - t) in
        let same : t + (s.end - t) ≡ s.end = omega arith in
        let all : ticks_heard s node s.end ≡ ticks_heard s node t ++ rest = rw same at more in
        let (tail, is) = text_begins rest (ticks_heard s node t) h.given capture h.writes in
        let whole : heard_text s node ≡ (header node ++ h.given) ++ tail =
        ap (λ (ts : List Tick). capture_text node (cut ts)) all
        ∙ (ap (λ (n : ℕ). capture_text n (cut (ticks_heard s node t ++ rest))) (sym h.node_is)
        ∙ (is ∙ ap (λ (n : ℕ). (header n ++ h.given) ++ tail) h.node_is)) in
        rw whole (step_stopped written_to faults finished before so_far after (header node ++ h.given) octets tail stop h.puts puts)
