-- What a pcap writer does is what a writer does.
use Rattle.std.specs.Prelude.{[]}
use Rattle.t1s_report.specs.declared.pcap_writer.PcapWriter.{PcapWriter}
use Rattle.t1s_report.specs.declared.writer.Writer.{Writer}

-- the writer that it is: the one with its sink and its stop, whatever stands in the room for a line
abbrev pub as_writer : {K : Type 0} → PcapWriter K → Writer K
as_writer p = record { sink = p.sink; line = []; stopped = p.stopped }
