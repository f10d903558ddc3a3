use Rattle.std.proofs.Common.{◌≡◌, ap, ◌∙◌, rules}
use Rattle.t1s_pcs_rx.specs.declared.piece.Kind.TheVariants.{Good}
use Rattle.t1s_line.specs.declared.events.Event.{Event}
use Rattle.t1s_line.specs.EventRecords.{event_record, ArriveRecord}
use Rattle.t1s_report.specs.PcapText.{event_text, record_of, record_text}
use Rattle.t1s_report.proofs.PcapSteps.{good_event_text}
use Rattle.t1s_report.proofs.pcap_writer.PcapWriterWatch.event.Goals as goal

pub returns-then-node-self : goal.returns-then-node-self
returns-then-node-self g c =
    let a = c.in-Arrive in
    let node = c.args.self.now.node in
    let good : a.kind ≡ Good = search rules in
    let arrived : event_text node (ArriveRecord a.tick a.node a.kind a.frame.now) ≡ record_text (record_of a.tick a.frame.now) =
    rw (c.if-node-self.true, good) (good_event_text node a.tick a.frame.now) in
    let told : event_text node (event_record c.args.e.now) ≡ record_text (record_of a.tick a.frame.now) =
    ap (λ (e : Event). event_text node (event_record e)) a.is ∙ arrived in
    (c.put_record.ensures.node, rw told c.put_record.ensures.text)
