use Rattle.std.proofs.Common.{◌≡◌, ◌≤◌, ◌++◌, List, ap, subst}
use Rattle.t1s_world.specs.Events.{SeesEvents}
use Rattle.t1s_world.proofs.EventLemmas.{SeesEvents-append}
use Rattle.t1s_node.specs.declared.settings.Driven.{Driven}
use Rattle.t1s_node.specs.Node.{NodeState, node_drive}
use Rattle.t1s_line.specs.EventRecords.{EventRecord}
use Rattle.t1s_line.specs.Track.{drive_events, leave_events, note_events, status_events}
use Rattle.t1s_line.proofs.HeardTicks.{drive_started}
use Rattle.t1s_segment.proofs.track.TrackNodeMachine.drive.Goals as goal

pub returns-clause-events : goal.returns-clause-events
returns-clause-events g c =
    let sees = g.W.Watch.sees in
    let t = c.args.tick in
    let k = c.args.self.now in
    let started : k.start ≤ t = c.if-tick-self.false in
    let ran : c.drive-driven.result ≡ (node_drive k.node).1 = ap (λ (r : NodeState × Driven). r.1) c.drive-driven.ensures.node in
    let events : Driven → List EventRecord = λ d. status_events t k.no k.ok d.ok ++ note_events t k.no d.note ++ drive_events t k.no k.driving d.quarter ++ leave_events t k.no d.leaves in
    rw (drive_started t k started)
    (subst (λ (d : Driven). SeesEvents sees c.args.watch.now (events d) c.tell_leave.new.watch) ran
    (SeesEvents-append sees c.args.watch.now c.tell_drive.new.watch c.tell_leave.new.watch _ _
    (SeesEvents-append sees c.args.watch.now c.tell_note.new.watch c.tell_drive.new.watch _ _
    (SeesEvents-append sees c.args.watch.now c.tell_status.new.watch c.tell_note.new.watch _ _ c.tell_status.ensures c.tell_note.ensures)
    c.tell_drive.ensures) c.tell_leave.ensures))
