use Rattle.std.proofs.Common.{◌≡◌, ◌+◌, ◌<◌, add-one, List, ℕ, [], ◌∷◌, ◌++◌, take, drop, get_or, sym, ap, ◌∙◌, append_assoc, arith, length}
use Rattle.std.proofs.lemmas.List.{take-append-drop}
use Rattle.std.proofs.Math.Seq.{take-suc}
use Rattle.t1s_drawing.proofs.Draws.{stopped_within}
use Rattle.t1s_drawing.proofs.drawing.Drawing.take_piece.Goals as goal

-- the octets of a piece up to one of them, that one, and the rest
piece_is : (octets piece : List ℕ) (at : ℕ) → at < length piece → ((octets ++ take at piece) ++ get_or piece at 0 ∷ []) ++ drop (at + 1) piece ≡ octets ++ piece
piece_is octets piece at below =
    let next : take (at + 1) piece ≡ take at piece ++ get_or piece at 0 ∷ [] = ap (λ (n : ℕ). take n piece) (add-one at) ∙ take-suc piece at 0 below in
    ap (λ (t : List ℕ). t ++ drop (at + 1) piece) (append_assoc octets (take at piece) (get_or piece at 0 ∷ []) ∙ ap (λ (t : List ℕ). octets ++ t) (sym next))
    ∙ (append_assoc octets (take (at + 1) piece) (drop (at + 1) piece) ∙ ap (λ (t : List ℕ). octets ++ t) (take-append-drop (at + 1) piece))

pub returns-in-Err-clause-err : goal.returns-in-Err-clause-err
returns-in-Err-clause-err g c first octets h =
    let piece = c.args.piece.now in
    let at = c.loop-octet.octet-index in
    let octet = get_or piece at 0 in
    let rest = drop (at + 1) piece in
    let all : ((octets ++ take at piece) ++ octet ∷ []) ++ rest ≡ octets ++ piece = piece_is octets piece at (omega (arith, c.loop-octet-test.true, c.loop-octet.auto.octet-index-end)) in
    stopped_within g.K.Sink.written g.K.Sink.faults g.K.Sink.finished c.args.w.now ((octets ++ take at piece) ++ octet ∷ []) rest (octets ++ piece) first c.take.new.sink c.in-Err.status all
    (c.in-Err.ensures.err first (octets ++ take at piece) (c.loop-octet.invariant.so_far first octets h))
