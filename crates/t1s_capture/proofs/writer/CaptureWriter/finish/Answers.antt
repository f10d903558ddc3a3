use Rattle.t1s_capture.proofs.Cuts.{written}
use Rattle.t1s_capture.proofs.writer.CaptureWriter.finish.Goals as goal

pub returns : goal.returns
returns c = record { text = λ ticks given w. rw c.last_octets.ensures (written ticks given c.args.self w) }
