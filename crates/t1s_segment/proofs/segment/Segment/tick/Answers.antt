use Rattle.std.proofs.Common.{◌+◌}
use Rattle.t1s_line.specs.World.{first_tracks}
use Rattle.t1s_schedule.proofs.FitRuns.{shares_line}
use Rattle.t1s_delivery.proofs.FitRuns.{delivers}
use Rattle.t1s_segment.proofs.segment.Segment.tick.Goals as goal

pub returns-clause-stands : goal.returns-clause-stands
returns-clause-stands g c s t stands =
    let before = rw (← c.self.view_is) at stands in
    let next = c.tick.ensures.plays s.acts s.nodes (first_tracks s) s.end t before.plays in
    record { valid = before.valid; in_time = next.in_time; plays = next }

pub returns-clause-events : goal.returns-clause-events
returns-clause-events g c s t stands =
    let before = rw (← c.self.view_is) at stands in
    c.tick.ensures.events s.acts s.nodes (first_tracks s) s.end t before.plays

pub returns-clause-shares_line : goal.returns-clause-shares_line
returns-clause-shares_line g c s t stands fit = shares_line s (t + 1) stands.valid fit

pub returns-clause-delivers : goal.returns-clause-delivers
returns-clause-delivers g c s t stands fit = delivers s (t + 1) stands.valid fit
