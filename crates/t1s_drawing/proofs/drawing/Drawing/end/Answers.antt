use Rattle.std.proofs.Common.{◌≡◌, ◌≤◌, ◌<◌, ◌⊎◌, ℕ, List, [], ◌∷◌, length, refl, inl, inr, arith, true, false}
use Rattle.t1s_drawing.specs.Written.{closing}
use Rattle.t1s_drawing.specs.declared.status.Status.TheVariants.{Done}
use Rattle.t1s_drawing.proofs.Draws.{early_end, ended_early, ended_whole}
use Rattle.t1s_drawing.proofs.Writes.{outcome_failed, outcome_finished}
use Rattle.t1s_drawing.proofs.drawing.Drawing.end.Goals as goal
use Rattle.t1s_drawing.proofs.drawing.Drawing.end.Goals.{then-not-is_empty-via-then-not-is_empty, then-not-is_empty-via-else-not-is_empty+then-not-self}

nil_of : (xs : List ℕ) → length xs ≡ 0 → xs ≡ []
nil_of [] e = refl
nil_of (x ∷ xs) e = absurd (omega arith)

pub returns-then-not-is_empty : goal.returns-then-not-is_empty
returns-then-not-is_empty g c first octets h =
    let short : length c.args.self.now.line ≤ 4096 = c.as_slice.ensures.fits in
    let why : (0 < length c.args.self.now.line) ⊎ (c.args.self.now.progress.in_summary ≡ false) =
    elim c.then-not-is_empty.branch [
      | then-not-is_empty-via-then-not-is_empty w ↦ inl (let t = w.if-not-is_empty.true in let e = c.is_empty.ensures in let v = c.as_slice.ensures.value in grind arith)
      | then-not-is_empty-via-else-not-is_empty+then-not-self w ↦ inr (let t = w.if-not-self.true in grind arith)
    ] in
    ended_early g.K.Sink.written g.K.Sink.faults g.K.Sink.finished c.args.w.now octets c.args.self.now first c.args.sink.now h c.refuse.new.sink c.refuse.result
    (early_end c.args.w.now c.args.self.now.progress c.args.self.now.number c.args.self.now.line short why) c.refuse.ensures

pub returns-in-Ok : goal.returns-in-Ok
returns-in-Ok g c first octets h =
    let none : length c.args.self.now.line ≡ 0 = let t = c.if-not-is_empty.false in let e = c.is_empty.ensures in let v = c.as_slice.ensures.value in grind arith in
    let empty = nil_of c.args.self.now.line none in
    let summary : c.args.self.now.progress.in_summary ≡ true = let t = c.if-not-self.false in grind arith in
    ended_whole g.K.Sink.written g.K.Sink.faults g.K.Sink.finished c.args.w.now octets c.args.self.now first c.args.sink.now h c.finish.new.sink c.finish.result empty summary
    (outcome_finished g.K.Sink.written g.K.Sink.faults g.K.Sink.finished Done (closing c.args.w.now c.args.self.now.progress) c.args.sink.now c.write_closing.new.sink c.finish.new.sink c.in-Ok.field-0 c.finish.result
    (λ e. cc) c.in-Ok.ensures c.finish.ensures.answer c.finish.ensures.end c.finish.ensures.octets c.finish.ensures.cause)

pub returns-in-Err : goal.returns-in-Err
returns-in-Err g c first octets h =
    let none : length c.args.self.now.line ≡ 0 = let t = c.if-not-is_empty.false in let e = c.is_empty.ensures in let v = c.as_slice.ensures.value in grind arith in
    let empty = nil_of c.args.self.now.line none in
    let summary : c.args.self.now.progress.in_summary ≡ true = let t = c.if-not-self.false in grind arith in
    ended_whole g.K.Sink.written g.K.Sink.faults g.K.Sink.finished c.args.w.now octets c.args.self.now first c.args.sink.now h c.write_closing.new.sink Rattle.t1s_drawing.specs.declared.status.Status.TheVariants.WriteFault empty summary
    (outcome_failed g.K.Sink.written g.K.Sink.faults g.K.Sink.finished Done (closing c.args.w.now c.args.self.now.progress) c.args.sink.now c.write_closing.new.sink c.in-Err.field-0 (λ e. cc) c.in-Err.ensures)
