use Rattle.std.proofs.Common.{◌≡◌, ℕ, ◌+◌, add-zero, ◌≤◌, ◌⊎◌, true, false, Bool, Option, [], ◌∷◌, sym, ◌∙◌, ap, arith, rules, add-one}
use Rattle.std.specs.Option.{is_some, option_to_list}
use Rattle.t1s_segment.specs.Stands.{Stands}
use Rattle.t1s_capture.specs.Captures.{header}
use Rattle.t1s_capture.specs.WriterTable.{WriterState, quiet_ticks}
use Rattle.t1s_line.specs.World.{heard_by, last_heard}
use Rattle.t1s_cli.proofs.CalmTicks.{has_node, has_no_node, none_heard, silence_heard}
use Rattle.t1s_cli.proofs.CaptureSteps.{captured_more, captured_none, captured_none_more, captured_tick, captured_no_tick, captured_whole}
use Rattle.t1s_cli.proofs.capture_command.write_capture.Goals as goal

pub loop-seg-init : goal.loop-seg-init
loop-seg-init g c s stands =
    let new = c.new-capture.ensures in
    let node_is : c.new-capture.result.node ≡ c.args.node = ap (λ (w : WriterState). w.node) new.value in
    let text : c.as_slice.result.now ≡ header c.args.node = c.as_slice.ensures.octets ∙ (c.head.ensures ∙ ap header node_is) in
    (0, stands, captured_none g.K.Sink.written g.K.Sink.faults g.K.Sink.finished s c.args.node c.args.writer.now c.new-capture.result c.put_octets.new.self new.stands node_is (ap (λ (w : WriterState). w.ticks) new.value) (rw text at c.put_octets.ensures))

pub loop-seg-preserved-in-Some : goal.loop-seg-preserved-in-Some
loop-seg-preserved-in-Some g c s first =
    let (t, found, so_far) = c.loop-seg.invariant s first in
    let none : c.skip-calm.result ≡ 0 = search rules in
    let stands : Stands s t c.skip-calm.new.self = rw (none, add-zero) at (c.skip-calm.ensures.stands s t found) in
    let later = c.tick.ensures.stands s t stands in
    let told : c.heard.result ≡ heard_by s c.args.node t = rw add-one at (c.heard.ensures.value s (t + 1) later) in
    let hears : option_to_list (heard_by s c.args.node t) ≡ (c.in-Some.heard, c.in-Some.own) ∷ [] = ap option_to_list (sym told ∙ c.in-Some.is) in
    let writes = c.heard-in-Some.ensures in (
      t + 1,
      later,
      captured_tick g.K.Sink.written g.K.Sink.faults g.K.Sink.finished s c.args.node t c.args.writer.now c.loop-seg.capture c.loop-seg.writer so_far (c.in-Some.heard, c.in-Some.own) c.heard-in-Some.new.self c.heard-in-Some.result c.put_octets-in-Some.new.self
          hears (writes.stands _ so_far.given so_far.writes) writes.node writes.ticks (rw c.as_slice-in-Some.ensures.octets at c.put_octets-in-Some.ensures),
    )

pub loop-seg-preserved-in_default : goal.loop-seg-preserved-in_default
loop-seg-preserved-in_default g c s first =
    let (t, found, so_far) = c.loop-seg.invariant s first in
    let none : c.skip-calm.result ≡ 0 = search rules in
    let stands : Stands s t c.skip-calm.new.self = rw (none, add-zero) at (c.skip-calm.ensures.stands s t found) in
    let later = c.tick.ensures.stands s t stands in
    let told : c.heard.result ≡ heard_by s c.args.node t = rw add-one at (c.heard.ensures.value s (t + 1) later) in
    let absent : option_to_list (heard_by s c.args.node t) ≡ [] = ap option_to_list (sym told ∙ c.in_default.is) in
    (t + 1, later, captured_no_tick g.K.Sink.written g.K.Sink.faults g.K.Sink.finished s c.args.node t c.args.writer.now c.loop-seg.capture c.loop-seg.writer so_far absent)

pub loop-seg-preserved-then-is_some : goal.loop-seg-preserved-then-is_some
loop-seg-preserved-then-is_some g c s first =
    let (t, found, so_far) = c.loop-seg.invariant s first in
    let n = c.skip-calm.result in
    let later = c.skip-calm.ensures.stands s t found in
    let some : 1 ≤ n = search rules in
    let told = c.heard-else-calm-eq0.ensures.value s (t + n) later in
    let is : is_some c.heard-else-calm-eq0.result ≡ true = search rules in
    let (j, at) = has_node s c.args.node (t + n) (omega (arith, some)) (rw told at is) in
    let writes = c.quiet.ensures in (
      t + n,
      later,
      captured_more g.K.Sink.written g.K.Sink.faults g.K.Sink.finished s c.args.node t c.args.writer.now c.loop-seg.capture c.loop-seg.writer so_far n (quiet_ticks n) c.quiet.new.self c.quiet.result c.put_octets-then-is_some.new.self
          (silence_heard s c.args.node j t n at (c.skip-calm.ensures.calm s t found)) (writes.stands _ so_far.given so_far.writes) writes.node writes.ticks (rw c.as_slice-then-is_some.ensures.octets at c.put_octets-then-is_some.ensures),
    )

pub loop-seg-preserved : goal.loop-seg-preserved
loop-seg-preserved g c s first =
    let (t, found, so_far) = c.loop-seg.invariant s first in
    let n = c.skip-calm.result in
    let later = c.skip-calm.ensures.stands s t found in
    let some : 1 ≤ n = search rules in
    let told = c.heard-else-calm-eq0.ensures.value s (t + n) later in
    let is : is_some c.heard-else-calm-eq0.result ≡ false = search rules in
    let absent = has_no_node s c.args.node (t + n) (omega (arith, some)) (rw told at is) in
    (t + n, later, captured_none_more g.K.Sink.written g.K.Sink.faults g.K.Sink.finished s c.args.node t c.args.writer.now c.loop-seg.capture c.loop-seg.writer so_far n (none_heard s c.args.node t n absent))

pub returns : goal.returns
returns g c s first =
    let (t, stands, so_far) = c.loop-seg.invariant s first in
    let why : (c.loop-seg.writer.stopped ≡ true) ⊎ (t ≡ s.end) = c.goes_on.ensures.no_more s t stands (search rules) in
    captured_whole g.K.Sink.written g.K.Sink.faults g.K.Sink.finished s c.args.node t c.args.writer.now c.loop-seg.capture c.loop-seg.writer so_far c.finish.result c.put_octets-2.new.self stands.in_time why
    (c.finish.ensures.text _ so_far.given so_far.writes) (rw c.as_slice-2.ensures.octets at c.put_octets-2.ensures)
