use Rattle.std.proofs.Common.{◌≡◌, true, false, rules}
use Rattle.t1s_cli.proofs.pcap_command.record.Goals as goal

pub returns-then-stopped-clause-prefix : goal.returns-then-stopped-clause-prefix
returns-then-stopped-clause-prefix g c s stands =
    let stop : c.write_pcap.new.pcap.stopped ≡ true = search rules in
    let wrote = rw (c.new-pcap.ensures.node, c.new-pcap.ensures.sink) at ((c.write_pcap.ensures s stands).prefix c.new-pcap.ensures.goes_on stop).0 in
    search (rules, wrote)

pub returns-else-stopped-clause-text : goal.returns-else-stopped-clause-text
returns-else-stopped-clause-text g c s stands =
    let on : c.write_pcap.new.pcap.stopped ≡ false = search rules in
    let wrote = rw (c.new-pcap.ensures.node, c.new-pcap.ensures.sink) at ((c.write_pcap.ensures s stands).whole c.new-pcap.ensures.goes_on on).0 in
    search (rules, wrote)
