use Rattle.t1s_report.proofs.PcapReadings.{one_pcap}
use Rattle.t1s_report.proofs.laws.one_pcap_reading.Goals as goal

pub returns : goal.returns
returns c a b h k e = one_pcap a b h k e
