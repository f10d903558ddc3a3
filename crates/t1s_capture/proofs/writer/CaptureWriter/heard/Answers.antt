use Rattle.t1s_capture.proofs.Cuts.{writer_stands_more}
use Rattle.t1s_capture.proofs.writer.CaptureWriter.heard.Goals as goal

pub returns-clause-stands : goal.returns-clause-stands
returns-clause-stands c ticks given w =
    rw c.go_on.ensures.octets (writer_stands_more ticks given c.args.self.now c.go_on.new.self (c.args.h, c.args.own) w c.go_on.ensures.row)
