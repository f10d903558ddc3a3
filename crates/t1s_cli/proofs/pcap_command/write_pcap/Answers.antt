use Rattle.std.proofs.Common.{◌≡◌, ◌+◌, add-zero, ◌⊎◌, true, rules}
use Rattle.t1s_line.specs.World.{events_at}
use Rattle.t1s_segment.specs.Stands.{Stands}
use Rattle.t1s_report.proofs.PcapSteps.{pcap_begins, pcap_tick, pcap_whole}
use Rattle.t1s_cli.proofs.CalmTicks.{none_added}
use Rattle.t1s_cli.proofs.pcap_command.write_pcap.Goals as goal

pub loop-seg-init : goal.loop-seg-init
loop-seg-init g c s stands =
    (0, stands, pcap_begins g.K.Sink.written g.K.Sink.faults g.K.Sink.finished s c.args.pcap.now c.put_head.new.self c.put_head.ensures.node c.put_head.ensures.text)

pub loop-seg-preserved-then-skip-eq0 : goal.loop-seg-preserved-then-skip-eq0
loop-seg-preserved-then-skip-eq0 g c s first =
    let (t, found, so_far) = c.loop-seg.invariant s first in
    let none : c.skip.result ≡ 0 = search rules in
    let stands : Stands s t c.skip.new.self = rw (none, add-zero) at (c.skip.ensures.stands s t found) in
    (t + 1, c.tick.ensures.stands s t stands, pcap_tick g.K.Sink.written g.K.Sink.faults g.K.Sink.finished s t c.args.pcap.now c.loop-seg.pcap c.tick.new.watch so_far (c.tick.ensures.events s t stands))

pub loop-seg-preserved : goal.loop-seg-preserved
loop-seg-preserved g c s first =
    let (t, found, so_far) = c.loop-seg.invariant s first in (
      t + c.skip.result,
      c.skip.ensures.stands s t found,
      record { node = so_far.node; step = rw (none_added (events_at s) t c.skip.result (c.skip.ensures.quiet s t found)) so_far.step },
    )

pub returns : goal.returns
returns g c s first =
    let (t, stands, so_far) = c.loop-seg.invariant s first in
    let why : (c.loop-seg.pcap.stopped ≡ true) ⊎ (t ≡ s.end) = c.goes_on.ensures.no_more s t stands (search rules) in
    pcap_whole g.K.Sink.written g.K.Sink.faults g.K.Sink.finished s t c.args.pcap.now c.loop-seg.pcap stands.in_time why so_far
