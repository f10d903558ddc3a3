use Rattle.std.proofs.Common.{◌≡◌, ℕ, List, [], ◌++◌, length, take, refl, subst, ◌∙◌, arith, rules}
use Rattle.std.proofs.lemmas.List.{append-nil}
use Rattle.t1s_base.specs.Octets.{Gives}
use Rattle.t1s_base.proofs.Growth.{gives_nothing, gives_then}
use Rattle.t1s_drawing.proofs.DrawCalls.{calls_ended, calls_failed, calls_stopped, nothing_left}
use Rattle.t1s_drawing.proofs.program.read_report.Goals as goal

pub loop-drawing-init : goal.loop-drawing-init
loop-drawing-init g c = record {
  so_far = ([], λ first h. h, gives_nothing (g.S.Source.left c.args.source.now));
  number = c.requires;
  kept = refl;
  room = search rules;
}

pub returns-in-Ok-eq0 : goal.returns-in-Ok-eq0
returns-in-Ok-eq0 g c first h =
    let (octets, so_far, gives) = c.loop-drawing.invariant.so_far in
    let z : c.in-Ok-eq0.field-0 ≡ 0 = c.in-Ok-eq0.field-0-test in
    let none : Gives (g.S.Source.left c.loop-drawing.source) (g.S.Source.left c.read.new.self) [] = rw z at c.in-Ok-eq0.ensures.octets in
    let left = nothing_left (g.S.Source.left c.loop-drawing.source) (g.S.Source.left c.read.new.self) c.in-Ok-eq0.field-0 z none c.in-Ok-eq0.ensures.end in
    let all : Gives (g.S.Source.left c.args.source.now) (g.S.Source.left c.read.new.self) octets =
    subst (λ (o : List ℕ). Gives (g.S.Source.left c.args.source.now) (g.S.Source.left c.read.new.self) o) (append-nil octets)
    (gives_then (g.S.Source.left c.args.source.now) (g.S.Source.left c.loop-drawing.source) (g.S.Source.left c.read.new.self) octets [] gives none) in
    calls_ended g.S.Source.left g.S.Source.faults g.K.Sink.written g.K.Sink.faults g.K.Sink.finished c.args.w.now c.args.source.now c.loop-drawing.source first c.loop-drawing.sink octets c.loop-drawing.drawing (so_far first h)
    c.read.new.self c.end.new.sink c.end.result all (c.in-Ok-eq0.ensures.cause.kept ∙ c.loop-drawing.invariant.kept) left (c.end.ensures first octets (so_far first h))

pub loop-drawing-smaller : goal.loop-drawing-smaller
loop-drawing-smaller g c =
    let n : c.in-Ok.count ≡ length (take c.in-Ok.count c.read.new.into) = c.in-Ok.ensures.bound.1 in
    let some = c.in-Ok.count-test.1 in
    let further = c.in-Ok-take_piece.ensures.further in
    omega arith

pub loop-drawing-preserved : goal.loop-drawing-preserved
loop-drawing-preserved g c =
    let (octets, so_far, gives) = c.loop-drawing.invariant.so_far in
    let piece = take c.in-Ok.count c.read.new.into in
    record {
      so_far = (
        octets ++ piece,
        λ first h. c.in-Ok-take_piece.ensures.ok first octets (so_far first h),
        gives_then (g.S.Source.left c.args.source.now) (g.S.Source.left c.loop-drawing.source) (g.S.Source.left c.read.new.self) octets piece gives c.in-Ok.ensures.octets,
      );
      number = c.in-Ok-take_piece.ensures.number;
      kept = c.in-Ok.ensures.cause.kept ∙ c.loop-drawing.invariant.kept;
      room = c.read.auto.into ∙ c.loop-drawing.invariant.room;
    }

pub returns-in-Err-take_piece : goal.returns-in-Err-take_piece
returns-in-Err-take_piece g c first h =
    let (octets, so_far, gives) = c.loop-drawing.invariant.so_far in
    let piece = take c.in-Ok.count c.read.new.into in
    calls_stopped g.S.Source.left g.S.Source.faults g.K.Sink.written g.K.Sink.faults g.K.Sink.finished c.args.w.now c.args.source.now c.loop-drawing.source first c.loop-drawing.sink octets c.loop-drawing.drawing (so_far first h)
    piece c.read.new.self c.take_piece.new.sink c.in-Err-take_piece.status
    (gives_then (g.S.Source.left c.args.source.now) (g.S.Source.left c.loop-drawing.source) (g.S.Source.left c.read.new.self) octets piece gives c.in-Ok.ensures.octets)
    (c.in-Ok.ensures.cause.kept ∙ c.loop-drawing.invariant.kept) (c.in-Err-take_piece.ensures.err first octets (so_far first h))

pub returns-in-Err : goal.returns-in-Err
returns-in-Err g c first h =
    let (octets, so_far, gives) = c.loop-drawing.invariant.so_far in
    let all : Gives (g.S.Source.left c.args.source.now) (g.S.Source.left c.read.new.self) octets = rw (← c.in-Err.ensures.none_taken) at gives in
    calls_failed g.S.Source.left g.S.Source.faults g.K.Sink.written g.K.Sink.faults g.K.Sink.finished c.args.w.now c.args.source.now c.read.new.self first c.loop-drawing.sink octets c.loop-drawing.drawing (so_far first h) all
    (record { later = rw c.loop-drawing.invariant.kept at c.in-Err.ensures.cause.later; rose = λ e. rw c.loop-drawing.invariant.kept at c.in-Err.ensures.cause.failed; kept = λ n. absurd (n refl) })
