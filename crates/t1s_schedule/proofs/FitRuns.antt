-- The drives of a fit script's first ticks share the line.
use Rattle.t1s_schedule.specs.ScheduledRun.{SharesTheLine}
use Rattle.t1s_schedule.proofs.DrivesHold.{drives_hold}
use Rattle.t1s_schedule.proofs.FitNumbers.{fit_cable}
use Rattle.t1s_schedule.proofs.SharedLaw.{schedule_of, none_overlap}
use Rattle.t1s_schedule.proofs.SharedSteps.{so_far}

pub shares_line : SharesTheLine
shares_line s T script fit =
    let (z, cable) = fit_cable s script fit in
    let (ds, shared) = so_far s z cable T in
    record {
      coordinator = z;
      has_zero = cable.has_zero;
      drives = ds;
      schedule = schedule_of s z cable T ds shared;
      holds = drives_hold s z cable (so_far s z cable) script.burst_high T ds shared;
      apart = none_overlap s z cable T ds shared;
    }
