-- Each beginning goes on to a burst, and a `Place` that takes a symbol stands for the list with it.
use Rattle.std.proofs.Common.{◌≡◌, refl, ℕ, zero, suc, ◌+◌, ◌-◌, ◌<◌, ◌≤◌, true, List, [], ◌∷◌, ◌++◌, length, map, replicate, Ok, Err, is_ok, sym, ap, ◌∙◌, arith, append_assoc, length-append}
use Rattle.std.proofs.lemmas.Bool.{eqb-true}
use Rattle.std.proofs.lemmas.List.{append-nil, length-replicate, replicate-append-replicate}
use Rattle.std.proofs.lemmas.List.Elements.{All-append, All-replicate}
use Rattle.t1s_symbols.specs.declared.Symbol.{Symbol}
use Rattle.t1s_symbols.specs.declared.Symbol.TheVariants.{Nibble, J, T, R, H, N}
use Rattle.t1s_symbols.specs.Ranges.{IsSymbol}
use Rattle.t1s_grammar.specs.Burst.{Piece, IsPieceInRange, open_symbols, piece_symbols, pieces_symbols, IsBurst, BeginsBurst, beacon, run, bare}
use Rattle.t1s_grammar.specs.Prefixes.{Beginning, beginning_symbols, IsBeginning, IsLead, ArePieces, AreNibbles, phase_of, Stands, beacon as in_beacon, between, opened, within, ended}
use Rattle.t1s_grammar.specs.PlaceTable.{start_phase, place_step, ends_burst}
use Rattle.t1s_grammar.specs.Longer.{with_symbol}
use Rattle.t1s_grammar.proofs.Longer.{All-nil, more_pieces, ArePieces-push, open-append, more}
use Rattle.t1s_grammar.proofs.Judgements.{Judgement, after, ends, after-append, after-err, after-burst, after-stands, some_pieces}
use Rattle.t1s_grammar.specs.declared.place.Phase.{Phase}
use Rattle.t1s_grammar.specs.declared.place.Phase.TheVariants.{Between}

-- ---- a burst

nothing_yet : ends_burst (Between 0 0) ≡ true → ⊥
nothing_yet h = cc

IsBurst-between : (ps : List Piece) (lead : ℕ) → ArePieces ps 4096 → lead ≤ 4096
    → ends_burst (Between (length ps) lead) ≡ true → IsBurst (pieces_symbols ps ++ replicate lead J)
IsBurst-between [] zero h l e = absurd (nothing_yet e)
IsBurst-between [] (suc n) h l e = bare (suc n, omega arith, l, refl)
IsBurst-between (p ∷ ps) lead h l e = run (record {
  pieces = p ∷ ps;
  rest = lead;
  least_pieces = omega arith;
  most_pieces = h.count;
  in_range = h.in_range;
  most_rest = l;
  spelled = refl;
})

-- a beginning at whose phase a burst ends is a burst
IsBurst-beginning : (b : Beginning) → IsBeginning b → ends_burst (phase_of b) ≡ true → IsBurst (beginning_symbols b)
IsBurst-beginning (in_beacon count) h e =
    let five : count ≡ 5 = eqb-true count 5 e in beacon (ap (λ n. replicate n N) five)
IsBurst-beginning (between ps lead) h e = IsBurst-between ps lead h.0 h.1 e
IsBurst-beginning (opened ps lead) h e = absurd cc
IsBurst-beginning (within ps lead ns) h e = absurd cc
IsBurst-beginning (ended ps lead ns) h e = absurd cc

pub IsBurst-stands : (symbols : List Symbol) (q : Phase) → Stands symbols q → ends_burst q ≡ true → IsBurst symbols
IsBurst-stands symbols q h e =
    rw h.spelled (IsBurst-beginning h.beginning h.in_range (ap ends_burst (sym h.counted) ∙ e))

-- whole pieces are a burst
pub IsBurst-pieces : (ps : List Piece) (p : Piece) → ArePieces ps 4095 → IsPieceInRange p
    → IsBurst (pieces_symbols ps ++ piece_symbols p)
IsBurst-pieces ps p h here =
    let all : ArePieces (ps ++ p ∷ []) 4096 = ArePieces-push ps p h here in
    run (record {
      pieces = ps ++ p ∷ [];
      rest = 0;
      least_pieces = omega (arith, length-append ps (p ∷ []));
      most_pieces = all.count;
      in_range = all.in_range;
      most_rest = omega arith;
      spelled = sym (append-nil (pieces_symbols (ps ++ p ∷ [])) ∙ more_pieces ps p);
    })

-- ---- a beginning goes on to a burst

pub BeginsBurst-shorter : (a b : List Symbol) → BeginsBurst (a ++ b) → BeginsBurst a
BeginsBurst-shorter a b h = (b ++ h.0, rw (← append_assoc a b h.0) h.1)

BeginsBurst-whole : (symbols : List Symbol) → IsBurst symbols → BeginsBurst symbols
BeginsBurst-whole symbols h = ([], rw (append-nil symbols) h)

BeginsBurst-between : (ps : List Piece) (lead : ℕ) → ArePieces ps 4096 → lead ≤ 4096
    → BeginsBurst (pieces_symbols ps ++ replicate lead J)
BeginsBurst-between [] zero h l = (J ∷ [], bare (1, omega arith, omega arith, refl))
BeginsBurst-between [] (suc n) h l = BeginsBurst-whole (replicate (suc n) J) (bare (suc n, omega arith, l, refl))
BeginsBurst-between (p ∷ ps) lead h l =
    BeginsBurst-whole (pieces_symbols (p ∷ ps) ++ replicate lead J)
    (IsBurst-between (p ∷ ps) lead h l (some_pieces (length (p ∷ ps)) lead (omega arith)))

-- nibbles of a piece, and nibbles 5 up to nine
padding : (ns : List ℕ) → List ℕ
padding ns = replicate (9 - length ns) 5

padded_piece : ℕ → List ℕ → Piece
padded_piece lead ns = record { lead = lead; nibbles = ns ++ padding ns; closer = R }

padded_piece-in_range : (lead : ℕ) (ns : List ℕ) → IsLead lead → AreNibbles ns 0 → IsPieceInRange (padded_piece lead ns)
unfolding padded_piece padding
padded_piece-in_range lead ns l h =
    let most : length ns ≤ 3056 = h.most in
    let long : length (ns ++ padding ns) ≡ length ns + (9 - length ns)
    = length-append ns (padding ns) ∙ ap (λ n. length ns + n) (length-replicate (9 - length ns) 5) in
    record {
      least_lead = l.least;
      most_lead = l.most;
      least_nibbles = omega arith;
      most_nibbles = omega arith;
      nibbles =
          All-append (λ n. n < 16) ns (padding ns) h.ranges (All-replicate (λ n. n < 16) (9 - length ns) 5 (omega arith));
      closer = tt;
    }

-- the second H of a piece
open-second : (ps : List Piece) (lead : ℕ)
    → pieces_symbols ps ++ replicate lead J ++ H ∷ [] ++ H ∷ [] ≡ pieces_symbols ps ++ open_symbols lead []
open-second ps lead =
    append_assoc (pieces_symbols ps ++ replicate lead J) (H ∷ []) (H ∷ [])
    ∙ append_assoc (pieces_symbols ps) (replicate lead J) (H ∷ H ∷ [])

-- the closer of a piece
close-piece : (ps : List Piece) (p : Piece)
    → pieces_symbols ps ++ open_symbols p.lead p.nibbles ++ T ∷ [] ++ p.closer ∷ [] ≡ pieces_symbols ps ++ piece_symbols p
close-piece ps p =
    append_assoc (pieces_symbols ps ++ open_symbols p.lead p.nibbles) (T ∷ []) (p.closer ∷ [])
    ∙ append_assoc (pieces_symbols ps) (open_symbols p.lead p.nibbles) (T ∷ p.closer ∷ [])

BeginsBurst-within : (ps : List Piece) (lead : ℕ) (ns : List ℕ) → ArePieces ps 4095 → IsLead lead → AreNibbles ns 0
    → BeginsBurst (pieces_symbols ps ++ open_symbols lead ns)
unfolding padded_piece
BeginsBurst-within ps lead ns h l m =
    let rest : List Symbol = map Nibble (padding ns) ++ T ∷ R ∷ [] in
    let same : (pieces_symbols ps ++ open_symbols lead ns) ++ rest ≡ pieces_symbols ps ++ piece_symbols (padded_piece lead ns)
    = append_assoc (pieces_symbols ps) (open_symbols lead ns) rest
    ∙ ap (λ ss. pieces_symbols ps ++ ss)
    (sym (append_assoc (open_symbols lead ns) (map Nibble (padding ns)) (T ∷ R ∷ []))
    ∙ ap (λ ss. ss ++ T ∷ R ∷ []) (sym (open-append lead ns (padding ns)))) in
    (rest, rw same (IsBurst-pieces ps (padded_piece lead ns) h (padded_piece-in_range lead ns l m)))

BeginsBurst-beginning : (b : Beginning) → IsBeginning b → BeginsBurst (beginning_symbols b)
BeginsBurst-beginning (in_beacon count) h =
    let all : count + (5 - count) ≡ 5 = omega (arith, h.1) in
    (replicate (5 - count) N, beacon (replicate-append-replicate count (5 - count) N ∙ ap (λ n. replicate n N) all))
BeginsBurst-beginning (between ps lead) h = BeginsBurst-between ps lead h.0 h.1
BeginsBurst-beginning (opened ps lead) h =
    let none : AreNibbles [] 0 =
    record { fewest = omega arith; most = omega arith; ranges = All-nil (λ n. n < 16) } in
    BeginsBurst-shorter (pieces_symbols ps ++ replicate lead J ++ H ∷ []) (H ∷ [])
    (rw (open-second ps lead) (BeginsBurst-within ps lead [] h.0 h.1 none))
BeginsBurst-beginning (within ps lead ns) h = BeginsBurst-within ps lead ns h.0 h.1 h.2
BeginsBurst-beginning (ended ps lead ns) h =
    let p : Piece = record { lead = lead; nibbles = ns; closer = R } in
    let here : IsPieceInRange p = record {
      least_lead = h.1.least;
      most_lead = h.1.most;
      least_nibbles = h.2.fewest;
      most_nibbles = h.2.most;
      nibbles = h.2.ranges;
      closer = tt;
    } in
    (R ∷ [], rw (close-piece ps p) (IsBurst-pieces ps p h.0 here))

pub BeginsBurst-stands : (symbols : List Symbol) (q : Phase) → Stands symbols q → BeginsBurst symbols
BeginsBurst-stands symbols q h = rw h.spelled (BeginsBurst-beginning h.beginning h.in_range)

-- ---- a symbol more

-- what is taken stands for the list with it
pub Stands-take : (symbols : List Symbol) (p q : Phase) (s : Symbol) → IsSymbol s → Stands symbols p
    → place_step p s ≡ Ok q → Stands (symbols ++ s ∷ []) q
Stands-take symbols p q s i h e =
    let m = more h.beginning s q (ap (λ x. place_step x s) (sym h.counted) ∙ e) in
    record {
      beginning = with_symbol h.beginning s;
      in_range = m.in_range h.in_range i;
      spelled = ap (λ ss. ss ++ s ∷ []) h.spelled ∙ sym m.symbols;
      counted = sym m.phase;
    }

ok_before : (more : List Symbol) (r : Judgement) → ends (after more r) ≡ true → is_ok r ≡ true
ok_before more (Ok q) h = refl
ok_before more (Err e) h = sym (ap ends (after-err more e)) ∙ h

-- what begins a burst is taken
pub taken-begins : (symbols : List Symbol) (p : Phase) (s : Symbol) → Stands symbols p
    → BeginsBurst (symbols ++ s ∷ []) → is_ok (place_step p s) ≡ true
taken-begins symbols p s h b =
    let here : after (symbols ++ s ∷ []) (Ok start_phase) ≡ place_step p s
    = after-append symbols (s ∷ []) (Ok start_phase) ∙ ap (after (s ∷ [])) (after-stands symbols p h) in
    ok_before b.0 (place_step p s)
    (sym (ap ends (after-append (symbols ++ s ∷ []) b.0 (Ok start_phase) ∙ ap (after b.0) here))
    ∙ after-burst (symbols ++ s ∷ [] ++ b.0) b.1)

-- where a burst ends, a `Place` knows it
pub stands-burst : (symbols : List Symbol) (q : Phase) → Stands symbols q → IsBurst symbols → ends_burst q ≡ true
stands-burst symbols q h b = sym (ap ends (after-stands symbols q h)) ∙ after-burst symbols b

pub Stands-start : Stands [] start_phase
Stands-start =
    record {
      beginning = between [] 0;
      in_range = (record { count = omega arith; in_range = All-nil IsPieceInRange }, omega arith);
      spelled = refl;
      counted = refl;
    }
