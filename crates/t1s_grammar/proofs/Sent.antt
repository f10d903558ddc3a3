-- Sent pieces are pieces of the grammar, and are read as what they were sent for.
use Rattle.std.proofs.Common.{◌≡◌, refl, ℕ, suc, ◌+◌, ◌*◌, ◌/◌, ◌%◌, ◌<◌, ◌≤◌, Bool, true, false, List, [], ◌∷◌, length, drop, replicate, sym, ap, ◌∙◌, arith, length-drop}
use Rattle.std.specs.Prelude.{All}
use Rattle.std.proofs.lemmas.List.{drop-drop}
use Rattle.std.proofs.lemmas.List.Elements.{All-append, All-cons, All-drop, All-replicate}
use Rattle.t1s_scramble.specs.Scrambled.{scrambled_nibbles, descrambled_nibbles}
use Rattle.t1s_scramble.proofs.Nibbles.{length-scrambled_nibbles, length-descrambled_nibbles, scrambled_nibbles-below, descrambled_nibbles-below, nibbles_find_step}
use Rattle.t1s_frame.specs.Frame.{IsFrame, nibble_list, nibbles_of}
use Rattle.t1s_frame.specs.Arrivals.{arrival_of}
use Rattle.t1s_frame.specs.declared.arrivals.Arrival.TheVariants.{Good}
use Rattle.t1s_frame.proofs.Nibbles.{length-nibble_list}
use Rattle.t1s_frame.proofs.Pieces.{good_exactly_for_frames}
use Rattle.t1s_grammar.specs.Burst.{Piece, IsPieceInRange, IsCloser, IsBurst, piece_symbols}
use Rattle.t1s_grammar.specs.Sent.{carried_nibbles, sent_piece, sent_closer}
use Rattle.t1s_grammar.specs.Reading.{heard_nibbles, kind_of, kind_by, classified, StandsForFrame}
use Rattle.t1s_grammar.specs.Laws.{SentPiecesAreRead}
use Rattle.t1s_grammar.proofs.Longer.{All-nil}
use Rattle.t1s_grammar.proofs.Beginnings.{IsBurst-pieces}

abbrev IsNibble : ℕ → Type 0
IsNibble n = n < 16

nibbles_of-below : (xs : List ℕ) → All (λ x. x < 256) xs → All IsNibble (nibbles_of xs)
nibbles_of-below [] h = All-nil IsNibble
nibbles_of-below (x ∷ xs) h =
    let octet : x < 256 = h 0 0 (omega arith) in
    All-cons IsNibble (x % 16) (x / 16 ∷ nibbles_of xs) (omega arith)
    (All-cons IsNibble (x / 16) (nibbles_of xs) (omega arith)
    (nibbles_of-below xs (λ k d l. h (suc k) d (omega arith))))

pub nibble_list-below : (xs : List ℕ) → All (λ x. x < 256) xs → All IsNibble (nibble_list xs)
unfolding nibble_list
nibble_list-below xs h =
    All-append IsNibble (replicate 15 5) (13 ∷ nibbles_of xs) (All-replicate IsNibble 15 5 (omega arith))
    (All-cons IsNibble 13 (nibbles_of xs) (omega arith) (nibbles_of-below xs h))

pub length-carried : (octets : List ℕ) → length (carried_nibbles octets) ≡ 12 + 2 * length octets
length-carried octets = omega (arith, length-drop 4 (nibble_list octets), length-nibble_list octets)

pub carried-below : (octets : List ℕ) → IsFrame octets → All IsNibble (carried_nibbles octets)
carried-below octets h = All-drop IsNibble 4 (nibble_list octets) (nibble_list-below octets h.ranges)

-- what is carried from the tenth nibble on
carried-heard : (octets : List ℕ) → drop 9 (carried_nibbles octets) ≡ 5 ∷ 5 ∷ 13 ∷ nibbles_of octets
unfolding nibble_list
carried-heard octets = refl

IsCloser-sent : (good : Bool) → IsCloser (sent_closer good)
IsCloser-sent true = tt
IsCloser-sent false = tt

pub sent-in_range : (lead : ℕ) (past : List Bool) (octets : List ℕ) (good : Bool) → 2 ≤ lead → lead ≤ 4096 → IsFrame octets
    → IsPieceInRange (sent_piece lead past octets good)
sent-in_range lead past octets good least most h =
    let fewest : 64 ≤ length octets = h.shortest in
    let longest : length octets ≤ 1522 = h.longest in
    let long : length (scrambled_nibbles past (carried_nibbles octets)) ≡ 12 + 2 * length octets
    = length-scrambled_nibbles past (carried_nibbles octets) ∙ length-carried octets in
    record {
      least_lead = least;
      most_lead = most;
      least_nibbles = omega arith;
      most_nibbles = omega arith;
      nibbles = scrambled_nibbles-below past (carried_nibbles octets);
      closer = IsCloser-sent good;
    }

sent-heard : (lead : ℕ) (sent heard : List Bool) (octets : List ℕ) (good : Bool) → IsFrame octets
    → heard_nibbles heard (sent_piece lead sent octets good) ≡ 5 ∷ 5 ∷ 13 ∷ nibbles_of octets
sent-heard lead sent heard octets good h =
    let got : List ℕ = descrambled_nibbles heard (scrambled_nibbles sent (carried_nibbles octets)) in
    sym (drop-drop 4 5 got)
    ∙ ap (drop 4) (nibbles_find_step heard sent (carried_nibbles octets) (carried-below octets h))
    ∙ drop-drop 4 5 (carried_nibbles octets)
    ∙ carried-heard octets

sent-good : (lead : ℕ) (sent heard : List Bool) (octets : List ℕ) (good : Bool) → IsFrame octets
    → arrival_of (heard_nibbles heard (sent_piece lead sent octets good)) ≡ Good
sent-good lead sent heard octets good h =
    let longest : length octets ≤ 1522 = h.longest in
    let line : List ℕ = scrambled_nibbles sent (carried_nibbles octets) in
    let got : List ℕ = descrambled_nibbles heard line in
    let long : length got ≡ 12 + 2 * length octets
    = length-descrambled_nibbles heard line
    ∙ length-scrambled_nibbles sent (carried_nibbles octets) ∙ length-carried octets in
    let short : length (drop 9 got) ≤ 3047 = omega (arith, length-drop 9 got) in
    (good_exactly_for_frames (drop 9 got) (All-drop IsNibble 9 got (descrambled_nibbles-below heard line)) short).1
    (octets, h, sent-heard lead sent heard octets good h)

one-piece : (p : Piece) → IsPieceInRange p → IsBurst (piece_symbols p)
one-piece p h = IsBurst-pieces [] p (record { count = omega arith; in_range = All-nil IsPieceInRange }) h

sent-frame : (lead : ℕ) (sent heard : List Bool) (octets : List ℕ) (good : Bool) → IsFrame octets → good ≡ true
    → StandsForFrame heard (sent_piece lead sent octets good) octets
sent-frame lead sent heard octets good h e = record {
  closer = ap sent_closer e;
  heard = sent-heard lead sent heard octets good h;
}

sent-kind : (lead : ℕ) (sent heard : List Bool) (octets : List ℕ) (good : Bool) → IsFrame octets → good ≡ true
    → kind_of heard (sent_piece lead sent octets good) ≡ classified Good
sent-kind lead sent heard octets good h e =
    ap (λ g. kind_by (sent_closer g) (heard_nibbles heard (sent_piece lead sent octets good))) e
    ∙ ap classified (sent-good lead sent heard octets good h)

pub sent_pieces_are_read : SentPiecesAreRead
sent_pieces_are_read lead sent heard octets good least most h =
    let here : IsPieceInRange (sent_piece lead sent octets good) = sent-in_range lead sent octets good least most h in
    record {
      piece = (sent_piece lead sent octets good, here, refl);
      burst = one-piece (sent_piece lead sent octets good) here;
      frame = sent-frame lead sent heard octets good h;
      kind = sent-kind lead sent heard octets good h;
    }
