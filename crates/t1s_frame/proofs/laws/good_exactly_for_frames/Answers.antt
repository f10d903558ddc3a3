use Rattle.t1s_frame.proofs.Pieces.{good_exactly_for_frames as good_for_frames}
use Rattle.t1s_frame.proofs.laws.good_exactly_for_frames.Goals as goal

pub returns : goal.returns
returns c = good_for_frames
