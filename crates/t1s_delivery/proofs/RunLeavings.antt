-- The pieces of an own run one by one: where the first H of each begins, where its closer ends, and what leaves in it.
use Rattle.std.proofs.Common.{◌≡◌, ℕ, ◌+◌, ◌*◌, ◌≤◌, inl, inr, Bool, true, List, [], ◌∷◌, ◌++◌, length, map, replicate, refl, ◌∙◌, ap, ap₂, subst, arith}
use Rattle.std.proofs.lemmas.List.{length-append, map-append}
use Rattle.std.proofs.lemmas.List.Concat.{flat_map-append}
use Rattle.t1s_symbols.specs.declared.Symbol.TheVariants.{J}
use Rattle.t1s_frame.specs.Frame.{nibble_list}
use Rattle.t1s_frame.proofs.Nibbles.{length-nibble_list}
use Rattle.t1s_grammar.specs.Burst.{Piece, piece_symbols, pieces_symbols}
use Rattle.t1s_grammar.specs.Reading.{StandsForFrame}
use Rattle.t1s_pcs_rx.specs.Tails.{EndsAt}
use Rattle.t1s_script.specs.declared.script.Script.{Script}
use Rattle.t1s_line.specs.Happenings.{IsLeaving}
use Rattle.t1s_turns.specs.OwnRun.{OwnPiece, piece_of, ticks_of, run_symbols, IsFirstH}
use Rattle.t1s_turns.proofs.OwnRunPiece.{length-sent}
use Rattle.t1s_schedule.specs.DriveContents.{IsOfferTo, AreLeavings}

-- a piece of these, with those before it and those behind it
pub record Carried (pieces : List OwnPiece) : Type 0 where
  pub before : List OwnPiece
  pub piece : OwnPiece
  pub after : List OwnPiece
  pub among : pieces ≡ before ++ piece ∷ after

-- how many symbols these pieces have
abbrev pub symbols_of : List OwnPiece → ℕ
symbols_of pieces = length (pieces_symbols (map piece_of pieces))

pub symbols-cons : (p : OwnPiece) (ps : List OwnPiece) → symbols_of (p ∷ ps) ≡ length (piece_symbols (piece_of p)) + symbols_of ps
symbols-cons p ps = length-append (piece_symbols (piece_of p)) (pieces_symbols (map piece_of ps))

pub length-piece : (p : OwnPiece) → length (piece_symbols (piece_of p)) ≡ p.lead + length (nibble_list p.offer.frame)
length-piece p =
    let long = length-nibble_list p.offer.frame in
    length-sent p.lead p.past p.offer.frame true (omega (arith, long))

-- the tick in which its first H begins, where the lead of the first piece begins in tick t
abbrev pub first_h : {pieces : List OwnPiece} → ℕ → Carried pieces → ℕ
first_h t c = t + 4 * symbols_of c.before + 4 * c.piece.lead

-- and the tick behind its closer
pub end_is : {pieces : List OwnPiece} (t : ℕ) (c : Carried pieces)
    → t + 4 * (symbols_of c.before + length (piece_symbols (piece_of c.piece))) ≡ first_h t c + 4 * length (nibble_list c.piece.offer.frame)
end_is t c = let long = length-piece c.piece in omega (arith, long)

pub pieces_are : {pieces : List OwnPiece} (c : Carried pieces)
    → map piece_of pieces ≡ map piece_of c.before ++ piece_of c.piece ∷ map piece_of c.after
pieces_are c = ap (λ (ps : List OwnPiece). map piece_of ps) c.among ∙ map-append piece_of c.before (c.piece ∷ c.after)

abbrev pub ending_of : {pieces : List OwnPiece} (c : Carried pieces) (tick : ℕ)
    → tick + 1 ≡ 4 * (symbols_of c.before + length (piece_symbols (piece_of c.piece)))
    → EndsAt (map piece_of pieces) tick
ending_of c tick ends =
    record { before = map piece_of c.before; piece = piece_of c.piece; after = map piece_of c.after; among = pieces_are c; ends = ends }

-- it lies in the run
pub ends_within : {pieces : List OwnPiece} (c : Carried pieces) (rest : ℕ)
    → symbols_of c.before + length (piece_symbols (piece_of c.piece)) ≤ length (run_symbols pieces rest)
ends_within {pieces = pieces} c rest =
    let whole = length-append (pieces_symbols (map piece_of pieces)) (replicate rest J) in
    let parts : symbols_of pieces ≡ length (pieces_symbols (map piece_of c.before) ++ pieces_symbols (piece_of c.piece ∷ map piece_of c.after)) =
    ap length (ap pieces_symbols (pieces_are c) ∙ flat_map-append piece_symbols (map piece_of c.before)
    (piece_of c.piece ∷ map piece_of c.after)) in
    let first = length-append (pieces_symbols (map piece_of c.before)) (pieces_symbols (piece_of c.piece ∷ map piece_of c.after)) in
    let then = symbols-cons c.piece c.after in
    omega (arith, whole, parts, first, then)

-- ---- a first H is that of a piece

pub carried_at : (t : ℕ) (pieces : List OwnPiece) (v : ℕ) → IsFirstH t pieces v → (c : Carried pieces) × (v ≡ first_h t c)
carried_at t [] v h = absurd h
carried_at t (p ∷ ps) v (inl here) = (record { before = []; piece = p; after = ps; among = refl }, omega (arith, here))
carried_at t (p ∷ ps) v (inr later) =
    let (c, at) = carried_at (t + ticks_of p) ps v later in
    let more = symbols-cons p c.before in (
      record { before = p ∷ c.before; piece = c.piece; after = c.after; among = ap (λ (r : List OwnPiece). p ∷ r) c.among },
      omega (arith, at, more),
    )

-- and what is read as a piece of the run is one that was sent
pub carried_from : (pieces : List OwnPiece) (before : List Piece) (piece : Piece) (after : List Piece)
    → map piece_of pieces ≡ before ++ piece ∷ after
    → (c : Carried pieces) × (map piece_of c.before ≡ before) × (piece_of c.piece ≡ piece)
carried_from [] [] piece after e = absurd (cc)
carried_from [] (b ∷ bs) piece after e = absurd (cc)
carried_from (p ∷ ps) [] piece after e = (record { before = []; piece = p; after = ps; among = refl }, refl, cc)
carried_from (p ∷ ps) (b ∷ bs) piece after e =
    let (c, same, is) = carried_from ps bs piece after (cc) in
    let first : piece_of p ≡ b = cc in (
      record { before = p ∷ c.before; piece = c.piece; after = c.after; among = ap (λ (r : List OwnPiece). p ∷ r) c.among },
      ap₂ (λ (x : Piece) (xs : List Piece). x ∷ xs) first same,
      is,
    )

-- ---- what leaves

pub record LeavesPiece (s : Script) (i v : ℕ) (p : OwnPiece) : Type 0 where
  pub leaves : IsLeaving s v i p.offer.number
  pub offer : IsOfferTo s i v p.offer
  pub stands : (heard : List Bool) → StandsForFrame heard (piece_of p) p.offer.frame

leaves_in : (s : Script) (i t : ℕ) (before : List OwnPiece) (p : OwnPiece) (after : List OwnPiece) → AreLeavings s i t (before ++ p ∷ after)
    → (v : ℕ) → v ≡ t + 4 * symbols_of before + 4 * p.lead → LeavesPiece s i v p
leaves_in s i t [] p after h v at =
    let now : t + 4 * p.lead ≡ v = omega (arith, at) in
    record {
      leaves = subst (λ (w : ℕ). IsLeaving s w i p.offer.number) now h.0;
      offer = subst (λ (w : ℕ). IsOfferTo s i w p.offer) now h.1;
      stands = h.2;
    }
leaves_in s i t (b ∷ bs) p after h v at =
    let more = symbols-cons b bs in
    leaves_in s i (t + ticks_of b) bs p after h.3 v (omega (arith, at, more))

pub leaves_piece : (s : Script) (i t : ℕ) (pieces : List OwnPiece) → AreLeavings s i t pieces → (c : Carried pieces)
    → LeavesPiece s i (first_h t c) c.piece
leaves_piece s i t pieces h c =
    leaves_in s i t c.before c.piece c.after (subst (λ (ps : List OwnPiece). AreLeavings s i t ps) c.among h) (first_h t c) refl
