-- What a pcap writer has done, event by event and tick by tick.
use Rattle.std.proofs.Common.{◌≡◌, ℕ, ◌+◌, ◌-◌, ◌⊎◌, ◌≤◌, Bool, true, List, [], ◌∷◌, ◌++◌, inl, inr, Option, None, Some, refl, sym, ◌∙◌, ap, subst, arith, append_assoc, eq-eqb}
use Rattle.std.specs.List.{cons_option, filter_map, flat_map}
use Rattle.std.specs.Option.{option_to_list}
use Rattle.std.proofs.lemmas.Grind.{flat_map-append}
use Rattle.std.proofs.lemmas.List.{append-nil}
use Rattle.std.proofs.lemmas.List.Elements.{filter_map-append}
use Rattle.t1s_world.specs.Events.{SeesEvents, events_below}
use Rattle.t1s_world.proofs.EventLemmas.{events_below-zero, events_below-more}
use Rattle.t1s_script.specs.declared.script.Script.{Script}
use Rattle.t1s_pcs_rx.specs.declared.piece.Kind.TheVariants.{Good}
use Rattle.t1s_line.specs.EventRecords.{EventRecord, ArriveRecord}
use Rattle.t1s_line.specs.World.{events_at}
use Rattle.t1s_report.specs.declared.pcap_writer.PcapWriter.{PcapWriter}
use Rattle.t1s_report.specs.PcapText.{PcapRecord, pcap_head, record_of, record_text, pcap_text, record_at, event_text, records_below, node_pcap}
use Rattle.t1s_report.specs.PcapWriterStep.{as_writer}
use Rattle.t1s_report.specs.WriterStep.{WriterStep}
use Rattle.t1s_report.proofs.WriterSteps.{events_prefix, step_none, step_more, step_stopped}

-- what a good arrival at the node adds is its record
pub good_event_text : (node tick : ℕ) (frame : List ℕ) → event_text node (ArriveRecord tick node Good frame) ≡ record_text (record_of tick frame)
good_event_text node tick frame = rw (eq-eqb node node refl) (append-nil (record_text (record_of tick frame)))

-- what events add, one after another, is the text of their records
texts_of_events : (node : ℕ) (es : List EventRecord) → flat_map (event_text node) es ≡ flat_map record_text (filter_map (record_at node) es)
texts_of_events node [] = refl
texts_of_events node (e ∷ es) = go (texts_of_events node es) (record_at node e) refl
  where
    go : flat_map (event_text node) es ≡ flat_map record_text (filter_map (record_at node) es) → (o : Option PcapRecord) → record_at node e ≡ o → flat_map (event_text node) (e ∷ es) ≡ flat_map record_text (filter_map (record_at node) (e ∷ es))
    go rest None is = rw is rest
    go rest (Some r) is =
        let one : event_text node e ≡ record_text r = ap (λ (o : Option PcapRecord). flat_map record_text (option_to_list o)) is ∙ append-nil (record_text r) in
        let next : filter_map (record_at node) (e ∷ es) ≡ r ∷ filter_map (record_at node) es = ap (λ (o : Option PcapRecord). cons_option o (filter_map (record_at node) es)) is in
        ap (λ (x : List ℕ). x ++ flat_map (event_text node) es) one ∙ (ap (λ (x : List ℕ). record_text r ++ x) rest ∙ ap (λ (rs : List PcapRecord). flat_map record_text rs) (sym next))

-- a file of the records of some events, and of further ones
file_more : (node : ℕ) (es ds : List EventRecord) →
    pcap_text (filter_map (record_at node) (es ++ ds)) ≡ pcap_text (filter_map (record_at node) es) ++ flat_map (event_text node) ds
file_more node es ds =
    let a = flat_map record_text (filter_map (record_at node) es) in
    let b = flat_map record_text (filter_map (record_at node) ds) in
    let both : flat_map record_text (filter_map (record_at node) (es ++ ds)) ≡ a ++ b =
    ap (λ (rs : List PcapRecord). flat_map record_text rs) (filter_map-append (record_at node) es ds) ∙ flat_map-append record_text (filter_map (record_at node) es) (filter_map (record_at node) ds) in
    ap (λ (x : List ℕ). pcap_head ++ x) both ∙ (sym (append_assoc pcap_head a b) ∙ ap (λ (x : List ℕ). (pcap_head ++ a) ++ x) (sym (texts_of_events node ds)))

module _ {K : Type 0} (written : K → Option (List ℕ)) (faults : K → ℕ) (finished : K → Bool) where
  -- it takes an event
  abbrev pub PcapSees : PcapWriter K → EventRecord → PcapWriter K → Type 0
  PcapSees before event after = (after.node ≡ before.node) × WriterStep written faults finished (as_writer before) (event_text before.node event) (as_writer after)

  told : (w v : PcapWriter K) (es : List EventRecord) → SeesEvents PcapSees w es v → (v.node ≡ w.node) × WriterStep written faults finished (as_writer w) (flat_map (event_text w.node) es) (as_writer v)
  told w v [] e = rw e (refl, step_none written faults finished (as_writer w))
  told w v (e ∷ es) (u, h, k) =
      let (same, after) = told u v es k in
      let rest : WriterStep written faults finished (as_writer u) (flat_map (event_text w.node) es) (as_writer v) = subst (λ (n : ℕ). WriterStep written faults finished (as_writer u) (flat_map (event_text n) es) (as_writer v)) h.0 after in
      (same ∙ h.0, step_more written faults finished (as_writer w) (as_writer u) (as_writer v) (event_text w.node e) (flat_map (event_text w.node) es) h.1 rest)

  -- the file, as far as the ticks below t go, is written
  pub record PcapProgress (s : Script) (t : ℕ) (w v : PcapWriter K) : Type 0 where
    pub node : v.node ≡ w.node
    pub step : WriterStep written faults finished (as_writer w) (pcap_text (records_below s w.node t)) (as_writer v)

  pub pcap_begins : (s : Script) (w v : PcapWriter K) → v.node ≡ w.node → WriterStep written faults finished (as_writer w) pcap_head (as_writer v) → PcapProgress s 0 w v
  pcap_begins s w v same h = record {
    node = same;
    step = rw (events_below-zero (events_at s)) (rw (append-nil pcap_head) h);
  }

  pub pcap_tick : (s : Script) (t : ℕ) (w u v : PcapWriter K) → PcapProgress s t w u → SeesEvents PcapSees u (events_at s t) v → PcapProgress s (t + 1) w v
  pcap_tick s t w u v p sees =
      let (same, after) = told u v (events_at s t) sees in
      let here : WriterStep written faults finished (as_writer u) (flat_map (event_text w.node) (events_at s t)) (as_writer v) = subst (λ (n : ℕ). WriterStep written faults finished (as_writer u) (flat_map (event_text n) (events_at s t)) (as_writer v)) p.node after in
      record {
        node = same ∙ p.node;
        step = rw (events_below-more (events_at s) t, file_more w.node (events_below (events_at s) t) (events_at s t))
            (step_more written faults finished (as_writer w) (as_writer u) (as_writer v) (pcap_text (records_below s w.node t)) (flat_map (event_text w.node) (events_at s t)) p.step here);
      }

  -- the whole file, where the run was played to its end or the writer stopped in it
  pub pcap_whole : (s : Script) (t : ℕ) (w v : PcapWriter K) → t ≤ s.end → (v.stopped ≡ true) ⊎ (t ≡ s.end) → PcapProgress s t w v → WriterStep written faults finished (as_writer w) (node_pcap s w.node) (as_writer v)
  pcap_whole s t w v within why p = elim why [
    | inl stop ↦
        let (rest, more) = events_prefix (events_at s) t (s.end - t) in
        let same : t + (s.end - t) ≡ s.end = omega arith in
        let whole : events_below (events_at s) s.end ≡ events_below (events_at s) t ++ rest = rw same at more in
        rw (whole, file_more w.node (events_below (events_at s) t) rest)
        (step_stopped written faults finished (as_writer w) (as_writer v) (as_writer v) (pcap_text (records_below s w.node t)) [] (flat_map (event_text w.node) rest) stop p.step (step_none written faults finished (as_writer v)))
    | inr e ↦ subst (λ (u : ℕ). WriterStep written faults finished (as_writer w) (pcap_text (records_below s w.node u)) (as_writer v)) e p.step
  ]
