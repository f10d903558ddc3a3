use Rattle.t1s_schedule.proofs.DrivesHold.{interval_holds}
use Rattle.t1s_schedule.proofs.FitNumbers.{fit_cable}
use Rattle.t1s_schedule.proofs.SharedLaw.{schedule_of}
use Rattle.t1s_schedule.proofs.SharedSteps.{so_far}
use Rattle.t1s_schedule.proofs.laws.drives_hold.Goals as goal

pub returns : goal.returns
returns c s T script fit i start stop is =
    let (z, cable) = fit_cable s script fit in
    let (ds, shared) = so_far s z cable T in
    interval_holds s z cable (so_far s z cable) script.burst_high T ds shared (schedule_of s z cable T ds shared) i start stop is
