use Rattle.std.proofs.Common.{◌∙◌}
use Rattle.t1s_line.specs.World.{first_tracks}
use Rattle.t1s_line.proofs.HeardTicks.{last_heard_is}
use Rattle.t1s_segment.proofs.segment.Segment.heard.Goals as goal

pub returns-clause-value : goal.returns-clause-value
returns-clause-value c s t stands =
    let before = rw (← c.self.view_is) at stands in
    c.heard.ensures.value s.acts s.nodes (first_tracks s) s.end t before.plays ∙ last_heard_is s c.args.node t
