use Rattle.std.proofs.Common.{sym}
use Rattle.t1s_pcs_rx.proofs.NibbleRoom.{closed-nibbles, room-taken}
use Rattle.t1s_pcs_rx.proofs.reader.Reader.judge.Goals as goal

pub invariant_of-self : goal.invariant_of-self
invariant_of-self c =
    let before = rw (← c.self.view_is) at c.requires.heard in
    let after = room-taken c.args.place c.in-Ok.next c.args.quarter.sym c.self.inside.pieces.history c.self.inside.pieces.nibbles (sym c.in-Ok.ensures.step) before in
    record { heard = rw (c.take-in-Ok.ensures, c.nibbles-groups.ensures.value) after }

pub returns-in-Ok-clause-heard : goal.returns-in-Ok-clause-heard
returns-in-Ok-clause-heard c =
    rw (c.closing.ensures, c.take-in-Ok.ensures, ← c.self.view_is)
    (closed-nibbles c.lead-lead.result c.nibbles-groups.result c.nibbles-groups.result c.self.inside.pieces.history c.self.inside.pieces.nibbles c.args.quarter.sym)
