use Rattle.std.proofs.Common.{◌+◌}
use Rattle.std.specs.Prelude.{All}
use Rattle.std.proofs.lemmas.List.Elements.{All-from_recursion}
use Rattle.t1s_script.specs.declared.script.Script.{Script}
use Rattle.t1s_line.specs.CalmTicks.{IsTold}
use Rattle.t1s_line.specs.World.{first_tracks}
use Rattle.t1s_line.proofs.CalmScripts.{calm_quiet, firsts_told, run_from_script, script_from_run}
use Rattle.t1s_line.proofs.CalmTracks.{track_calm}
use Rattle.t1s_schedule.proofs.FitRuns.{shares_line}
use Rattle.t1s_delivery.proofs.FitRuns.{delivers}
use Rattle.t1s_segment.proofs.segment.Segment.skip.Goals as goal

told : (s : Script) → All IsTold (first_tracks s)
told s = All-from_recursion IsTold (first_tracks s) (firsts_told s s.nodes)

pub returns-clause-stands : goal.returns-clause-stands
returns-clause-stands c s t stands =
    let before = rw (← c.self.view_is) at stands in
    let next = c.skip.ensures.plays s.acts s.nodes (first_tracks s) s.end t track_calm (told s) before.valid.some_node before.plays in
    record { valid = before.valid; in_time = next.in_time; plays = next }

pub returns-clause-calm : goal.returns-clause-calm
returns-clause-calm c s t stands k low high =
    let before = rw (← c.self.view_is) at stands in
    script_from_run s k (c.skip.ensures.calm s.acts s.nodes (first_tracks s) s.end t track_calm (told s) before.valid.some_node before.plays k low high)

pub returns-clause-ends : goal.returns-clause-ends
returns-clause-ends c s t stands short left calm =
    let before = rw (← c.self.view_is) at stands in
    c.skip.ensures.ends s.acts s.nodes (first_tracks s) s.end t track_calm (told s) before.valid.some_node before.plays short left (run_from_script s (t + c.skip.result) calm)

pub returns-clause-quiet : goal.returns-clause-quiet
returns-clause-quiet c s t stands k low high =
    let before = rw (← c.self.view_is) at stands in
    calm_quiet s k
    (script_from_run s k (c.skip.ensures.calm s.acts s.nodes (first_tracks s) s.end t track_calm (told s) before.valid.some_node before.plays k low high))

pub returns-clause-shares_line : goal.returns-clause-shares_line
returns-clause-shares_line c s t stands fit = shares_line s (t + c.skip.result) stands.valid fit

pub returns-clause-delivers : goal.returns-clause-delivers
returns-clause-delivers c s t stands fit = delivers s (t + c.skip.result) stands.valid fit
