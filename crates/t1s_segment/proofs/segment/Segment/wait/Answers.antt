use Rattle.std.proofs.Common.{◌∙◌}
use Rattle.t1s_line.specs.World.{first_tracks}
use Rattle.t1s_line.proofs.WaitsTold.{wait_is}
use Rattle.t1s_segment.proofs.segment.Segment.wait.Goals as goal

pub returns : goal.returns
returns c s t stands =
    let before = rw (← c.self.view_is) at stands in
    c.wait.ensures s.acts s.nodes (first_tracks s) s.end t before.plays ∙ wait_is s t c.args.number before.valid before.in_time
