use Rattle.std.proofs.Common.{◌≡◌, Option, None, Some, sym, ◌∙◌}
use Rattle.t1s_drawing.specs.DrawCall.{DrawCall, window_in, word_octets}
use Rattle.t1s_drawing.specs.declared.window.Window.{Window}
use Rattle.t1s_drawing.proofs.DrawCalls.{completes, finishes, no_usage, says_done, says_prefix, says_refused, sink_cause}
use Rattle.t1s_drawing.proofs.Documents.{picture_document}
use Rattle.t1s_drawing.proofs.DumpDocuments.{dump_valid}
use Rattle.t1s_drawing.proofs.DumpWords.{few_nodes}
use Rattle.t1s_drawing.proofs.program.draw.Goals as goal

-- the words name no other window
same_window : (o : Option Window) (v w : Window) → o ≡ Some v → o ≡ Some w → v ≡ w
same_window None v w p q = absurd cc
same_window (Some u) v w p q = cc

pub returns-in-Some-clause-usage : goal.returns-in-Some-clause-usage
returns-in-Some-clause-usage g c =
    let named : window_in (word_octets c.args.words.now) ≡ Some c.in-Some.w = sym c.window_in.ensures ∙ c.in-Some.is in (
      λ e. absurd (no_usage g.S.Source.left g.S.Source.faults g.K.Sink.written g.K.Sink.faults g.K.Sink.finished c.in-Some.w c.args.source.now c.draw_window.new.source c.args.sink.now c.draw_window.new.sink c.draw_window.result c.draw_window.ensures e),
      λ e. absurd (let z = sym named ∙ e in cc),
    )

pub returns-in-Some-clause-usage_leaves_both : goal.returns-in-Some-clause-usage_leaves_both
returns-in-Some-clause-usage_leaves_both g c e =
    absurd (no_usage g.S.Source.left g.S.Source.faults g.K.Sink.written g.K.Sink.faults g.K.Sink.finished c.in-Some.w c.args.source.now c.draw_window.new.source c.args.sink.now c.draw_window.new.sink c.draw_window.result c.draw_window.ensures e)

pub returns-in-Some-clause-read_fault : goal.returns-in-Some-clause-read_fault
returns-in-Some-clause-read_fault g c = c.draw_window.ensures.cause

pub returns-in-Some-clause-write_fault : goal.returns-in-Some-clause-write_fault
returns-in-Some-clause-write_fault g c =
    sink_cause g.S.Source.left g.S.Source.faults g.K.Sink.written g.K.Sink.faults g.K.Sink.finished c.in-Some.w c.args.source.now c.draw_window.new.source c.args.sink.now c.draw_window.new.sink c.draw_window.result c.draw_window.ensures

pub returns-in-Some-clause-finishes : goal.returns-in-Some-clause-finishes
returns-in-Some-clause-finishes g c =
    finishes g.S.Source.left g.S.Source.faults g.K.Sink.written g.K.Sink.faults g.K.Sink.finished c.in-Some.w c.args.source.now c.draw_window.new.source c.args.sink.now c.draw_window.new.sink c.draw_window.result c.draw_window.ensures

pub returns-in-Some-clause-done : goal.returns-in-Some-clause-done
returns-in-Some-clause-done g c w octets words =
    let same : c.in-Some.w ≡ w = same_window (window_in (word_octets c.args.words.now)) c.in-Some.w w (sym c.window_in.ensures ∙ c.in-Some.is) words in
    says_done g.S.Source.left g.S.Source.faults g.K.Sink.written g.K.Sink.faults g.K.Sink.finished w c.args.source.now c.draw_window.new.source c.args.sink.now c.draw_window.new.sink c.draw_window.result (rw same at c.draw_window.ensures) octets

pub returns-in-Some-clause-refused : goal.returns-in-Some-clause-refused
returns-in-Some-clause-refused g c w octets words =
    let same : c.in-Some.w ≡ w = same_window (window_in (word_octets c.args.words.now)) c.in-Some.w w (sym c.window_in.ensures ∙ c.in-Some.is) words in
    says_refused g.S.Source.left g.S.Source.faults g.K.Sink.written g.K.Sink.faults g.K.Sink.finished w c.args.source.now c.draw_window.new.source c.args.sink.now c.draw_window.new.sink c.draw_window.result (rw same at c.draw_window.ensures) octets

pub returns-in-Some-clause-write_fault_text : goal.returns-in-Some-clause-write_fault_text
returns-in-Some-clause-write_fault_text g c w octets words =
    let same : c.in-Some.w ≡ w = same_window (window_in (word_octets c.args.words.now)) c.in-Some.w w (sym c.window_in.ensures ∙ c.in-Some.is) words in
    says_prefix g.S.Source.left g.S.Source.faults g.K.Sink.written g.K.Sink.faults g.K.Sink.finished w c.args.source.now c.draw_window.new.source c.args.sink.now c.draw_window.new.sink c.draw_window.result (rw same at c.draw_window.ensures) octets

pub returns-in-Some-clause-read_fault_text : goal.returns-in-Some-clause-read_fault_text
returns-in-Some-clause-read_fault_text g c w words e =
    let same : c.in-Some.w ≡ w = same_window (window_in (word_octets c.args.words.now)) c.in-Some.w w (sym c.window_in.ensures ∙ c.in-Some.is) words in
    let call : DrawCall g.S.Source.left g.S.Source.faults g.K.Sink.written g.K.Sink.faults g.K.Sink.finished w c.args.source.now c.draw_window.new.source c.args.sink.now c.draw_window.new.sink c.draw_window.result = rw same at c.draw_window.ensures in
    (call.taken, call.gives, (call.failed e).1)

pub returns-in-Some-clause-completes : goal.returns-in-Some-clause-completes
returns-in-Some-clause-completes g c w octets words =
    let same : c.in-Some.w ≡ w = same_window (window_in (word_octets c.args.words.now)) c.in-Some.w w (sym c.window_in.ensures ∙ c.in-Some.is) words in
    completes g.S.Source.left g.S.Source.faults g.K.Sink.written g.K.Sink.faults g.K.Sink.finished w c.args.source.now c.draw_window.new.source c.args.sink.now c.draw_window.new.sink c.draw_window.result (rw same at c.draw_window.ensures) octets

pub returns-in-Some-clause-document : goal.returns-in-Some-clause-document
returns-in-Some-clause-document g c w octets words form told e =
    let same : c.in-Some.w ≡ w = same_window (window_in (word_octets c.args.words.now)) c.in-Some.w w (sym c.window_in.ensures ∙ c.in-Some.is) words in
    picture_document w octets form
    (says_done g.S.Source.left g.S.Source.faults g.K.Sink.written g.K.Sink.faults g.K.Sink.finished w c.args.source.now c.draw_window.new.source c.args.sink.now c.draw_window.new.sink c.draw_window.result (rw same at c.draw_window.ensures) octets told e).0

pub returns-in-Some-clause-dump : goal.returns-in-Some-clause-dump
returns-in-Some-clause-dump g c w octets words form told e =
    let same : c.in-Some.w ≡ w = same_window (window_in (word_octets c.args.words.now)) c.in-Some.w w (sym c.window_in.ensures ∙ c.in-Some.is) words in
    dump_valid w octets form (few_nodes (word_octets c.args.words.now) w words)
    (says_done g.S.Source.left g.S.Source.faults g.K.Sink.written g.K.Sink.faults g.K.Sink.finished w c.args.source.now c.draw_window.new.source c.args.sink.now c.draw_window.new.sink c.draw_window.result (rw same at c.draw_window.ensures) octets told e).0
