use Rattle.t1s_waveform.specs.Dumps.{items_text}
use Rattle.t1s_drawing.specs.Dump.{before_text, event_changes}
use Rattle.t1s_drawing.proofs.Writes.{wrote_part, wrote_then}
use Rattle.t1s_drawing.proofs.dump.write_event.Goals as goal

pub returns-in-Ok : goal.returns-in-Ok
returns-in-Ok g c =
    wrote_then g.K.Sink.written g.K.Sink.faults c.args.sink.now c.write_before.new.sink c.write_event_changes.new.sink (before_text c.args.w.now c.args.progress.now c.args.event) (items_text (event_changes c.args.event)) c.in-Ok.field-0 c.write_event_changes.result
    c.in-Ok.ensures c.write_event_changes.ensures

pub returns-in-Err : goal.returns-in-Err
returns-in-Err g c =
    wrote_part g.K.Sink.written g.K.Sink.faults c.args.sink.now c.write_before.new.sink (before_text c.args.w.now c.args.progress.now c.args.event) (items_text (event_changes c.args.event)) c.in-Err.failed c.in-Err.failed c.in-Err.ensures
