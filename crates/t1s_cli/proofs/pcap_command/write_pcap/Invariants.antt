use Rattle.std.proofs.Common.{ℕ}
use Rattle.t1s_script.specs.declared.script.Script.{Script}
use Rattle.t1s_segment.specs.Stands.{Stands, ticks_left}
use Rattle.t1s_report.proofs.PcapSteps.{PcapProgress}
use Rattle.t1s_cli.proofs.pcap_command.write_pcap.Given as goal

abbrev pub decreases-loop-seg : goal.decreases-loop-seg
decreases-loop-seg g l = ticks_left l.seg

abbrev pub invariant-loop-seg : goal.invariant-loop-seg
invariant-loop-seg g l =
    (s : Script) → Stands s 0 l.initial.seg → (t : ℕ) × Stands s t l.seg × PcapProgress g.K.Sink.written g.K.Sink.faults g.K.Sink.finished s t l.fn.pcap l.pcap
