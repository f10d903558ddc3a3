use Rattle.std.proofs.Common.{◌≡◌, take, map}
use Rattle.t1s_line.specs.World.{first_track}
use Rattle.t1s_segment.proofs.segment.Segment.new.Given as goal

abbrev pub invariant-loop-line : goal.invariant-loop-line
invariant-loop-line l = l.tracks.items ≡ map (first_track l.s) (take l.line-index l.lines)
