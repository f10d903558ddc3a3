use Rattle.t1s_frame.proofs.PackedNibbles.{packed-none}
use Rattle.t1s_frame.proofs.piece_nibbles.PieceNibbles.clear.Goals as goal

pub returns : goal.returns
returns c = packed-none c.self.inside.packed
