use Rattle.std.proofs.Common.{ℕ, take, drop}
use Rattle.std.specs.Io.KnownBytes.{append_known, Appends}
use Rattle.t1s.proofs.Rooms.{keeps-trans, keeps-passed, rest_all}
use Rattle.t1s.proofs.room_writer.RoomWriter.pass_on.Goals as goal

pub loop-self-preserved : goal.loop-self-preserved
loop-self-preserved g c =
    let contents = g.W.Write.contents in
    let before = c.loop-self.self in
    let taken : Appends (contents before.inner) (contents c.write.new.self) (take c.in-Ok.count (drop before.passed before.held.items)) = rw (c.as_slice.ensures.value, rest_all) at c.in-Ok.ensures.bytes in
    keeps-trans (append_known (contents c.args.self.now.inner) (drop c.args.self.now.passed c.args.self.now.held.items)) (append_known (contents before.inner) (drop before.passed before.held.items)) _
    c.loop-self.invariant (keeps-passed (contents before.inner) (contents c.write.new.self) before.held.items before.passed c.in-Ok.count taken)
