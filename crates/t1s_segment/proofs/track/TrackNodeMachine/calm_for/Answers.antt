use Rattle.std.proofs.Common.{◌<◌, arith}
use Rattle.t1s_line.proofs.CalmTracks.{calm_before, calm_started}
use Rattle.t1s_segment.proofs.track.TrackNodeMachine.calm_for.Goals as goal

pub returns-then-tick-self-2 : goal.returns-then-tick-self-2
returns-then-tick-self-2 c = rw c.min.ensures (calm_before c.args.tick c.args.self.now c.if-tick-self-2.true c.args.most)

pub returns : goal.returns
returns c =
    let started : c.args.self.now.start < c.args.tick = omega (arith, c.if-tick-self.false, c.if-tick-self-2.false) in
    calm_started c.args.tick c.args.self.now c.args.most c.calm_for.result started c.calm_for.ensures
