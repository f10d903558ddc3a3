use Rattle.std.proofs.Common.{◌≡◌, ℕ, ◌+◌, ◌≤◌, List, [], ◌∷◌, ◌++◌, length, take, drop, sym, subst, arith, length-drop}
use Rattle.std.proofs.lemmas.List.{take_all}
use Rattle.t1s_capture.specs.State.{DecoderState}
use Rattle.t1s_capture.specs.Answers.{IsFed}
use Rattle.t1s_capture.specs.Advances.{advance_next}
use Rattle.t1s_capture.specs.Outcomes.{decoder_left}
use Rattle.t1s_cli.specs.DecodeProgress.{ShownItems, DecodeProgress}
use Rattle.t1s_cli.proofs.DecodeEnds.{stopped_within, shown_after}
use Rattle.t1s_cli.proofs.FedPieces.{answers, taken, taken_of_all, rest_all}
use Rattle.t1s_cli.proofs.decode_command.decode_piece.Goals as goal

pub loop-at-preserved : goal.loop-at-preserved
loop-at-preserved g c =
    let piece = c.args.piece.now in
    let at = c.loop-at.at in
    let count = c.advance.result.0 in
    let left = decoder_left c.loop-at.decoder (drop at piece) in
    let v = c.advance.follows.lender-at-none in
    let is : v ≡ left = rw rest_all at c.advance.follows.holds-at-none in
    record {
      within = let fits : count ≤ length (drop at piece) = rw rest_all at c.advance.ensures.within in omega (arith, length-drop at piece, c.loop-at.invariant.within);
      so_far = λ first octets h.
          let so_far = c.loop-at.invariant.so_far first octets h in
          let front = octets ++ take at piece in
          let fed : IsFed front (drop at piece) count (advance_next c.advance.result.1 left) = rw rest_all at (c.advance.ensures.fed front so_far.stands) in
          let shown : ShownItems g.K.Sink.written g.K.Sink.faults (front ++ fed.silent) first c.loop-at.sink = shown_after g.K.Sink.written g.K.Sink.faults g.K.Sink.finished front fed.silent first c.loop-at.sink so_far.shown fed.none in
          let here = c.in-Ok.ensures.ok first (front ++ fed.silent) fed.last left (answers octets piece at count (advance_next c.advance.result.1 left) fed) shown in
          let stays : DecodeProgress g.K.Sink.written g.K.Sink.faults ((front ++ fed.silent) ++ fed.last ∷ []) v first c.write_answer.new.sink =
          subst (λ (d : DecoderState). DecodeProgress g.K.Sink.written g.K.Sink.faults ((front ++ fed.silent) ++ fed.last ∷ []) d first c.write_answer.new.sink) (sym is) here in
          subst (λ (o : List ℕ). DecodeProgress g.K.Sink.written g.K.Sink.faults o v first c.write_answer.new.sink) (taken octets piece at count (advance_next c.advance.result.1 left) fed) stays;
    }

pub returns-in-Err-clause-err : goal.returns-in-Err-clause-err
returns-in-Err-clause-err g c first octets h =
    let piece = c.args.piece.now in
    let at = c.loop-at.at in
    let count = c.advance.result.0 in
    let left = decoder_left c.loop-at.decoder (drop at piece) in
    let so_far = c.loop-at.invariant.so_far first octets h in
    let front = octets ++ take at piece in
    let fed : IsFed front (drop at piece) count (advance_next c.advance.result.1 left) = rw rest_all at (c.advance.ensures.fed front so_far.stands) in
    let shown : ShownItems g.K.Sink.written g.K.Sink.faults (front ++ fed.silent) first c.loop-at.sink = shown_after g.K.Sink.written g.K.Sink.faults g.K.Sink.finished front fed.silent first c.loop-at.sink so_far.shown fed.none in
    stopped_within g.K.Sink.written g.K.Sink.faults g.K.Sink.finished ((front ++ fed.silent) ++ fed.last ∷ []) (drop (at + count) piece) (octets ++ piece) first c.write_answer.new.sink c.in-Err.status
    (taken_of_all octets piece at count (advance_next c.advance.result.1 left) fed)
    (c.in-Err.ensures.err first (front ++ fed.silent) fed.last left (answers octets piece at count (advance_next c.advance.result.1 left) fed) shown)

pub returns-clause-ok : goal.returns-clause-ok
returns-clause-ok g c first octets h =
    let at = c.loop-at.at in
    let piece = c.args.piece.now in
    let all : take at piece ≡ piece = take_all at piece (omega (arith, c.loop-at.invariant.within)) in
    subst (λ (o : List ℕ). DecodeProgress g.K.Sink.written g.K.Sink.faults (octets ++ o) c.loop-at.decoder first c.loop-at.sink) all
    (c.loop-at.invariant.so_far first octets h)
