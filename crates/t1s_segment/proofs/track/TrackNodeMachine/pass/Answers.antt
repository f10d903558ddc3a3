use Rattle.t1s_line.proofs.CalmTracks.{node_calm}
use Rattle.t1s_segment.proofs.track.TrackNodeMachine.pass.Goals as goal

pub pass-requires : goal.pass-requires
pass-requires c = node_calm c.args.tick c.args.n c.args.self.now c.if-tick-self.true c.requires
