use Rattle.std.proofs.Common.{◌≡◌, ◌+◌, ◌≤◌, length, ap, arith}
use Rattle.t1s_frame.specs.PackedNibbles.{packed_nibbles}
use Rattle.t1s_frame.proofs.PackedNibbles.{length-packed}
use Rattle.t1s_frame.proofs.piece_nibbles.PieceNibbles.count.Goals as goal

pub returns : goal.returns
returns c =
    let least : 1 ≤ c.self.inside.end = c.self.invariant.least in
    let most : c.self.inside.end ≤ 3048 = c.self.invariant.most in
    let long : length c.self.inside.packed ≡ 1524 = c.self.told in
    let count : length (packed_nibbles c.self.inside.packed c.self.inside.end) + 1 ≡ c.self.inside.end = length-packed c.self.inside.packed c.self.inside.end least (omega arith) in
    let same : length (packed_nibbles c.self.inside.packed c.self.inside.end) ≡ length c.args.self.now = ap length c.self.view_is in
    omega arith
