use Rattle.std.proofs.Common.{◌≡◌, ℕ, ◌+◌, ◌≤◌, List, [], ◌++◌, length, take, refl, subst, ◌∙◌, arith, rules, length-append}
use Rattle.std.proofs.lemmas.List.{append-nil}
use Rattle.t1s_base.specs.Octets.{Gives}
use Rattle.t1s_capture.specs.Stands.{Stands}
use Rattle.t1s_capture.proofs.Steps.{taken_all}
use Rattle.t1s_cli.specs.DecodeProgress.{DecodeProgress}
use Rattle.t1s_cli.proofs.DecodeEnds.{none_decoded}
use Rattle.t1s_base.proofs.Growth.{gives_then}
use Rattle.t1s_cli.proofs.CaptureCalls.{nothing_left, calls_failed, calls_stopped, calls_ended}
use Rattle.t1s_cli.proofs.decode_command.decode_command.Goals as goal

pub loop-decoder-init : goal.loop-decoder-init
loop-decoder-init g c = record {
  so_far = ([], none_decoded g.K.Sink.written g.K.Sink.faults g.K.Sink.finished c.new-decoder.result c.args.sink.now c.new-decoder.ensures.stands, search rules);
  kept = refl;
  room = search rules;
}

pub returns-in-Ok-eq0 : goal.returns-in-Ok-eq0
returns-in-Ok-eq0 g c =
    let (octets, h, gives) = c.loop-decoder.invariant.so_far in
    let z : c.in-Ok-eq0.field-0 ≡ 0 = c.in-Ok-eq0.field-0-test in
    let none : Gives (g.S.Source.left c.loop-decoder.source) (g.S.Source.left c.read.new.self) [] = rw z at c.in-Ok-eq0.ensures.octets in
    let left = nothing_left (g.S.Source.left c.loop-decoder.source) (g.S.Source.left c.read.new.self) c.in-Ok-eq0.field-0 z none c.in-Ok-eq0.ensures.end in
    let all : Gives (g.S.Source.left c.args.source.now) (g.S.Source.left c.read.new.self) octets =
    subst (λ (o : List ℕ). Gives (g.S.Source.left c.args.source.now) (g.S.Source.left c.read.new.self) o) (append-nil octets)
    (gives_then (g.S.Source.left c.args.source.now) (g.S.Source.left c.loop-decoder.source) (g.S.Source.left c.read.new.self) octets [] gives none) in
    calls_ended g.S.Source.left g.S.Source.faults g.K.Sink.written g.K.Sink.faults g.K.Sink.finished c.args.source.now c.loop-decoder.source c.args.sink.now c.loop-decoder.sink octets c.loop-decoder.decoder h
    c.read.new.self c.decode_end.new.sink c.decode_end.result all (c.in-Ok-eq0.ensures.cause.kept ∙ c.loop-decoder.invariant.kept) left (c.decode_end.ensures c.args.sink.now octets h)

pub loop-decoder-smaller : goal.loop-decoder-smaller
loop-decoder-smaller g c =
    let (octets, h, gives) = c.loop-decoder.invariant.so_far in
    let count = c.in-Ok.count in
    let piece = take count c.read.new.into in
    let n : count ≡ length piece = c.in-Ok.ensures.bound.1 in
    let some = c.in-Ok.count-test.1 in
    let before : Stands octets c.loop-decoder.decoder = h.stands in
    let next : DecodeProgress g.K.Sink.written g.K.Sink.faults (octets ++ piece) c.decode_piece.new.decoder c.args.sink.now c.decode_piece.new.sink = c.in-Ok-decode_piece.ensures.ok c.args.sink.now octets h in
    let after : Stands (octets ++ piece) c.decode_piece.new.decoder = next.stands in
    let more : length (octets ++ piece) ≡ length octets + length piece = length-append octets piece in
    let taken : c.loop-decoder.decoder.taken ≡ length octets = taken_all octets c.loop-decoder.decoder before in
    let taken' : c.decode_piece.new.decoder.taken ≡ length (octets ++ piece) = taken_all (octets ++ piece) c.decode_piece.new.decoder after in
    let limit = after.limit in
    omega arith

pub loop-decoder-preserved : goal.loop-decoder-preserved
loop-decoder-preserved g c =
    let (octets, h, gives) = c.loop-decoder.invariant.so_far in
    let piece = take c.in-Ok.count c.read.new.into in
    record {
      so_far = (
        octets ++ piece,
        c.in-Ok-decode_piece.ensures.ok c.args.sink.now octets h,
        gives_then (g.S.Source.left c.args.source.now) (g.S.Source.left c.loop-decoder.source) (g.S.Source.left c.read.new.self) octets piece gives c.in-Ok.ensures.octets,
      );
      kept = c.in-Ok.ensures.cause.kept ∙ c.loop-decoder.invariant.kept;
      room = c.read.auto.into ∙ c.loop-decoder.invariant.room;
    }

pub returns-in-Err-decode_piece : goal.returns-in-Err-decode_piece
returns-in-Err-decode_piece g c =
    let (octets, h, gives) = c.loop-decoder.invariant.so_far in
    let piece = take c.in-Ok.count c.read.new.into in
    let n : c.in-Ok.count ≡ length piece = c.in-Ok.ensures.bound.1 in
    let few : c.in-Ok.count ≤ 4096 = rw (c.read.auto.into ∙ c.loop-decoder.invariant.room) at c.in-Ok.ensures.bound.0 in
    let short : length piece ≤ 4096 = omega arith in
    calls_stopped g.S.Source.left g.S.Source.faults g.K.Sink.written g.K.Sink.faults g.K.Sink.finished c.args.source.now c.loop-decoder.source c.args.sink.now c.loop-decoder.sink octets c.loop-decoder.decoder h
    piece c.read.new.self c.decode_piece.new.sink c.in-Err-decode_piece.status
    (gives_then (g.S.Source.left c.args.source.now) (g.S.Source.left c.loop-decoder.source) (g.S.Source.left c.read.new.self) octets piece gives c.in-Ok.ensures.octets)
    (c.in-Ok.ensures.cause.kept ∙ c.loop-decoder.invariant.kept) short (c.in-Err-decode_piece.ensures.err c.args.sink.now octets h)

pub returns-in-Err : goal.returns-in-Err
returns-in-Err g c =
    let (octets, h, gives) = c.loop-decoder.invariant.so_far in
    let all : Gives (g.S.Source.left c.args.source.now) (g.S.Source.left c.read.new.self) octets = rw (← c.in-Err.ensures.none_taken) at gives in
    calls_failed g.S.Source.left g.S.Source.faults g.K.Sink.written g.K.Sink.faults g.K.Sink.finished c.args.source.now c.read.new.self c.args.sink.now c.loop-decoder.sink octets c.loop-decoder.decoder h all
    (record { later = rw c.loop-decoder.invariant.kept at c.in-Err.ensures.cause.later; rose = λ e. rw c.loop-decoder.invariant.kept at c.in-Err.ensures.cause.failed; kept = λ n. absurd (n refl) })
