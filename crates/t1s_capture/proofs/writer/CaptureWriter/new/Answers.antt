use Rattle.std.proofs.Common.{refl}
use Rattle.t1s_capture.proofs.Cuts.{writer_stands_new}
use Rattle.t1s_capture.proofs.writer.CaptureWriter.new.Goals as goal

pub returns-clause-stands : goal.returns-clause-stands
returns-clause-stands c = writer_stands_new _ refl
