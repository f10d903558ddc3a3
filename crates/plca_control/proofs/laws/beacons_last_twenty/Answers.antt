use Rattle.plca_control.proofs.RunLaws.{beacon_lasts}
use Rattle.plca_control.proofs.laws.beacons_last_twenty.Goals as goal

pub returns : goal.returns
returns c s given t = beacon_lasts s given t
