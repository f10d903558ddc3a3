use Rattle.std.proofs.Common.{◌≡◌, ◌-◌, length, drop}
use Rattle.std.specs.Io.KnownBytes.{append_known, Keeps}
use Rattle.t1s.proofs.room_writer.RoomWriter.pass_on.Given as goal

abbrev pub invariant-loop-self : goal.invariant-loop-self
invariant-loop-self g l =
    Keeps (append_known (g.W.Write.contents l.initial.self.inner) (drop l.initial.self.passed l.initial.self.held.items)) (append_known (g.W.Write.contents l.self.inner) (drop l.self.passed l.self.held.items))

abbrev pub decreases-loop-self : goal.decreases-loop-self
decreases-loop-self g l = length l.self.held.items - l.self.passed
