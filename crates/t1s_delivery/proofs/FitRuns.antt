-- The frames of a fit script's run are delivered.
use Rattle.t1s_schedule.proofs.FitNumbers.{fit_cable}
use Rattle.t1s_schedule.proofs.SharedSteps.{so_far}
use Rattle.t1s_delivery.specs.Delivered.{DeliversFrames}
use Rattle.t1s_delivery.proofs.Delivered.{sent_out}
use Rattle.t1s_delivery.proofs.Due.{arrives_as}

pub delivers : DeliversFrames
delivers s T script fit =
    let (z, cable) = fit_cable s script fit in
    let known = so_far s z cable in
    record {
      sent_out = sent_out s script z cable known script.burst_high T;
      only_due = λ u j kind frame below. arrives_as s script z cable known script.burst_high u j kind frame;
    }
