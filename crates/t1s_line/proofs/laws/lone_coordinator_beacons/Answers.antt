use Rattle.t1s_line.proofs.BeaconTicks.{drives_are_beacons}
use Rattle.t1s_line.proofs.laws.lone_coordinator_beacons.Goals as goal

pub returns : goal.returns
returns c s z line valid none one at_once = drives_are_beacons s z line valid none one at_once
