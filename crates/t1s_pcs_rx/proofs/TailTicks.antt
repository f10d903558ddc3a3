-- What is told of a burst in each of the ticks in which it is heard.
use Rattle.std.proofs.Common.{◌≡◌, refl, ℕ, zero, suc, ◌+◌, ◌-◌, ◌*◌, ◌/◌, ◌%◌, ◌<◌, ◌≤◌, inl, inr, Bool, true, false, ◌==◌, nat_le, List, [], ◌∷◌, ◌++◌, length, drop, slice_get, sym, ap, ◌∙◌, arith, length-append}
use Rattle.std.specs.Prelude.{Option, Some, None, All}
use Rattle.std.specs.List.{flat_map}
use Rattle.std.proofs.lemmas.Bool.{cases_Bool, cases_eq, cases_lt, eq-eqb, eqb-true, and_parts, leb-true, le-leb, lt-leb}
use Rattle.std.proofs.lemmas.List.{length-replicate}
use Rattle.std.proofs.lemmas.List.Elements.{All-head, All-same, All-tail}
use Rattle.t1s_symbols.specs.declared.Heard.{Heard}
use Rattle.t1s_symbols.specs.declared.Symbol.{Symbol}
use Rattle.t1s_scramble.specs.Scrambled.{descrambler_after}
use Rattle.t1s_grammar.specs.Burst.{Piece, IsPieceInRange, piece_symbols, pieces_symbols, IsBurst, beacon, run, bare}
use Rattle.t1s_grammar.specs.Reading.{StandsForFrame}
use Rattle.t1s_pcs_rx.specs.Receiver.{Receiver}
use Rattle.t1s_pcs_rx.specs.ReceiveTable.{receive_event, receive_step}
use Rattle.t1s_pcs_rx.specs.Views.{View, view_of}
use Rattle.t1s_pcs_rx.specs.Laws.{events_heard, piece_events, quarters, run_events}
use Rattle.t1s_pcs_rx.specs.Tails.{EachPieceGivesEvent, EndsAt, HearsPart, OnlyPiecesGiveEvents, PiecesEndApart, ReadsFrom, ShowsPiece, TailsShowFrames, WholePiecesGiveEvents, is_read_from, past_after, piece_ticks, pieces_of, pieces_read, quiet, run_tail_events, run_ticks, shortened, tail_events}
use Rattle.t1s_pcs_rx.proofs.Bursts.{length-piece}
use Rattle.t1s_pcs_rx.proofs.Frames.{frames_are_shown}
use Rattle.t1s_pcs_rx.proofs.Tails.{tail-told}

-- ---- an element of a list

slice_get-drop : {X : Type 0} (n : ℕ) (xs : List X) (i : ℕ) → slice_get (drop n xs) i ≡ slice_get xs (n + i)
slice_get-drop zero xs i = let e : i ≡ 0 + i = omega arith in ap (slice_get xs) e
slice_get-drop (suc n) [] i = refl
slice_get-drop (suc n) (x ∷ xs) i =
    let e : suc (n + i) ≡ suc n + i = omega arith in
    slice_get-drop n xs i ∙ ap (slice_get (x ∷ xs)) e

slice_get-left : {X : Type 0} (xs ys : List X) (i : ℕ) → i < length xs → slice_get (xs ++ ys) i ≡ slice_get xs i
slice_get-left [] ys i h = absurd (omega arith)
slice_get-left (x ∷ xs) ys zero h = refl
slice_get-left (x ∷ xs) ys (suc i) h = slice_get-left xs ys i (omega arith)

slice_get-right : {X : Type 0} (xs ys : List X) (i n : ℕ) → length xs ≡ n → n ≤ i → slice_get (xs ++ ys) i ≡ slice_get ys (i - n)
slice_get-right [] ys i n e h = let same : i ≡ i - n = omega arith in ap (slice_get ys) same
slice_get-right (x ∷ xs) ys zero n e h = absurd (omega arith)
slice_get-right (x ∷ xs) ys (suc i) n e h =
    let same : i - (n - 1) ≡ suc i - n = omega arith in
    slice_get-right xs ys i (n - 1) (omega arith) (omega arith) ∙ ap (slice_get ys) same

-- ---- the events of ticks, one by one

events-at : (m : ℕ) (hs : List Heard) (receivers : ℕ → Receiver) (heard : ℕ → Heard)
    → ((k : ℕ) → k ≤ m → slice_get hs k ≡ Some (heard k))
    → ((k : ℕ) → k < m → receivers (suc k) ≡ receive_step (receivers k) (heard k) false)
    → slice_get (events_heard (receivers 0) hs) m ≡ Some (receive_event (receivers m) (heard m) false)
events-at m [] receivers heard hears goes = let none : None ≡ Some (heard 0) = hears 0 (omega arith) in absurd (cc)
events-at zero (h ∷ hs) receivers heard hears goes =
    let here : Some h ≡ Some (heard 0) = hears 0 (omega arith) in
    ap (λ o. Some (receive_event (receivers 0) o false)) (let e : h ≡ heard 0 = cc in e)
events-at (suc m) (h ∷ hs) receivers heard hears goes =
    let here : Some h ≡ Some (heard 0) = hears 0 (omega arith) in
    let same : h ≡ heard 0 = cc in
    let first : receive_step (receivers 0) h false ≡ receivers 1
    = ap (λ o. receive_step (receivers 0) o false) same ∙ sym (goes 0 (omega arith)) in
    ap (λ r. slice_get (events_heard r hs) m) first
    ∙ events-at m hs (λ k. receivers (suc k)) (λ k. heard (suc k)) (λ k l. hears (suc k) (omega arith)) (λ k l. goes (suc k) (omega arith))

part-at : (receivers : ℕ → Receiver) (heard : ℕ → Heard) (symbols : List Symbol) (burst : IsBurst symbols) (from ticks : ℕ)
    → HearsPart receivers heard symbols from ticks → (m : ℕ) → m < ticks
    → slice_get (tail_events (receivers 0).history from burst) m ≡ Some (receive_event (receivers m) (heard m) false)
part-at receivers heard symbols burst from ticks p m l =
    ap (λ es. slice_get es m) (sym (tail-told (receivers 0) symbols burst from p.outside))
    ∙ events-at m (drop from (flat_map quarters symbols)) receivers heard
    (λ k h. slice_get-drop from (flat_map quarters symbols) k ∙ p.hears k (omega arith))
    (λ k h. let e : suc k ≡ k + 1 = omega arith in ap receivers e ∙ p.goes_on k (omega arith))

-- ---- an event of a run

quiet-none : (n m : ℕ) (view : View) → slice_get (quiet n) m ≡ Some (Some view) → ⊥
quiet-none zero m view e = absurd (cc)
quiet-none (suc n) zero view e = absurd (cc)
quiet-none (suc n) (suc m) view e = quiet-none n m view e

length-events : (past : List Bool) (p : Piece) → length (piece_events past p) ≡ piece_ticks p
length-events past p =
    let e : length (piece_events past p) ≡ length (quiet (piece_ticks p - 1)) + 1
    = length-append (quiet (piece_ticks p - 1)) (Some (view_of past p) ∷ []) in
    omega (arith, e, length-replicate {A = Option View} (piece_ticks p - 1) None, length-piece p)

-- an event in the ticks of a piece
piece-shows : (past : List Bool) (p : Piece) (m : ℕ) (view : View) → slice_get (piece_events past p) m ≡ Some (Some view)
    → (m + 1 ≡ piece_ticks p) × (view ≡ view_of past p)
piece-shows past p m view e =
    let n : ℕ = piece_ticks p - 1 in
    let long : length (quiet n) ≡ n = length-replicate n None in
    let some : length (piece_symbols p) ≡ p.lead + (1 + (1 + length p.nibbles)) + 2 = length-piece p in
    elim (cases_lt m n) [
      | inl less ↦
          let here : slice_get (quiet n) m ≡ Some (Some view)
          = sym (slice_get-left (quiet n) (Some (view_of past p) ∷ []) m (omega arith)) ∙ e in
          absurd (quiet-none n m view here)
      | inr more ↦
          let last : slice_get (Some (view_of past p) ∷ []) (m - n) ≡ Some (Some view)
          = sym (slice_get-right (quiet n) (Some (view_of past p) ∷ []) m n long more) ∙ e in
          elim (cases_eq m n) [
            | inl same ↦
                let zero : m - n ≡ 0 = omega arith in
                let is : Some (Some (view_of past p)) ≡ Some (Some view) = rw zero at last in
                (omega arith, cc)
            | inr other ↦
                let one : m - n ≡ suc (m - n - 1) = omega (arith, other) in
                let none : None ≡ Some (Some view) = rw one at last in
                absurd (cc)
          ]
    ]

pieces-cons : (p : Piece) (ps : List Piece) → length (pieces_symbols (p ∷ ps)) ≡ length (piece_symbols p) + length (pieces_symbols ps)
pieces-cons p ps = length-append (piece_symbols p) (pieces_symbols ps)

ends-after : (p : Piece) (before : List Piece) (symbols tick m : ℕ) → tick + 1 ≡ 4 * (length (pieces_symbols before) + symbols)
    → m ≡ piece_ticks p + tick → m + 1 ≡ 4 * (length (pieces_symbols (p ∷ before)) + symbols)
ends-after p before symbols tick m e same = omega (arith, pieces-cons p before)

-- a piece that ends with a tick of pieces, after one more
abbrev ending-after : (p : Piece) (ps : List Piece) (tick m : ℕ) → EndsAt ps tick → m ≡ piece_ticks p + tick → EndsAt (p ∷ ps) m
ending-after p ps tick m ending e = record {
  before = p ∷ ending.before;
  piece = ending.piece;
  after = ending.after;
  among = ap (λ qs. p ∷ qs) ending.among;
  ends = ends-after p ending.before (length (piece_symbols ending.piece)) tick m ending.ends e;
}

-- an event in the ticks of a run that is read from its first tick on
record Shows (past : List Bool) (pieces : List Piece) (tick : ℕ) (view : View) : Type 0 where
  ending : EndsAt pieces tick
  shows : view ≡ view_of (past_after past ending.before) ending.piece

run-shows : (past : List Bool) (pieces : List Piece) (rest m : ℕ) (view : View)
    → slice_get (run_events past pieces rest) m ≡ Some (Some view) → Shows past pieces m view
run-shows past [] rest m view e = absurd (quiet-none (4 * rest) m view e)
run-shows past (p ∷ ps) rest m view e =
    let long : length (piece_events past p) ≡ piece_ticks p = length-events past p in
    let others : List (Option View) = run_events (descrambler_after past p.nibbles) ps rest in
    elim (cases_lt m (piece_ticks p)) [
      | inl less ↦
          let here : (m + 1 ≡ piece_ticks p) × (view ≡ view_of past p)
          = piece-shows past p m view (sym (slice_get-left (piece_events past p) others m (omega arith)) ∙ e) in
          record {
            ending = record { before = []; piece = p; after = ps; among = refl; ends = omega (arith, here.0) };
            shows = here.1;
          }
      | inr more ↦
          let s : Shows (descrambler_after past p.nibbles) ps (m - piece_ticks p) view
          = run-shows (descrambler_after past p.nibbles) ps rest (m - piece_ticks p) view
          (sym (slice_get-right (piece_events past p) others m (piece_ticks p) long more) ∙ e) in
          record { ending = ending-after p ps (m - piece_ticks p) m s.ending (omega arith); shows = s.shows }
    ]

length-shortened : (p : Piece) (k : ℕ) → k ≤ p.lead → length (piece_symbols (shortened p k)) + k ≡ length (piece_symbols p)
length-shortened p k h = omega (arith, length-piece p, length-piece (shortened p k))

-- a piece of which no J is missing
shortened-none : (p : Piece) → shortened p 0 ≡ p
shortened-none p =
    let e : p.lead - 0 ≡ p.lead = omega arith in
    ap (λ n. record p { lead = n }) e

-- a piece among others that are in range
in_range-at : (before after : List Piece) (p : Piece) → All IsPieceInRange (before ++ p ∷ after) → IsPieceInRange p
in_range-at [] after p h = All-head IsPieceInRange p after h
in_range-at (b ∷ bs) after p h = in_range-at bs after p (All-tail IsPieceInRange b (bs ++ p ∷ after) h)

-- an event in the ticks of a tail that begins in a piece from which on it is read
first-shows : (past : List Bool) (from : ℕ) (p : Piece) (ps : List Piece) (rest m : ℕ) (view : View) → All IsPieceInRange ps
    → from % 4 ≡ 0 → from / 4 + 2 ≤ p.lead → from < piece_ticks p
    → slice_get (run_events past (shortened p (from / 4) ∷ ps) rest) m ≡ Some (Some view) → ShowsPiece past (p ∷ ps) from (from + m) view
first-shows past from p ps rest m view h whole long within e =
    let k : ℕ = from / 4 in
    let q : Piece = shortened p k in
    let others : List (Option View) = run_events (descrambler_after past p.nibbles) ps rest in
    let ticks : length (piece_events past q) ≡ piece_ticks q = length-events past q in
    let fewer : length (piece_symbols q) + k ≡ length (piece_symbols p) = length-shortened p k (omega arith) in
    let begins : from ≡ 4 * k = omega arith in
    elim (cases_lt m (piece_ticks q)) [
      | inl less ↦
          let here : (m + 1 ≡ piece_ticks q) × (view ≡ view_of past q)
          = piece-shows past q m view (sym (slice_get-left (piece_events past q) others m (omega arith)) ∙ e) in
          record {
            ending = record { before = []; piece = p; after = ps; among = refl; ends = omega (arith, here.0) };
            skipped = k;
            led = long;
            heard = omega arith;
            gone = [];
            read = [];
            earlier = refl;
            shows = here.1;
          }
      | inr more ↦
          let s : Shows (descrambler_after past p.nibbles) ps (m - piece_ticks q) view
          = run-shows (descrambler_after past p.nibbles) ps rest (m - piece_ticks q) view
          (sym (slice_get-right (piece_events past q) others m (piece_ticks q) ticks more) ∙ e) in
          let joined : length (pieces_symbols (p ∷ s.ending.before)) ≡ length (piece_symbols p) + length (pieces_symbols s.ending.before)
          = pieces-cons p s.ending.before in
          let is : IsPieceInRange s.ending.piece
          = in_range-at s.ending.before s.ending.after s.ending.piece (All-same IsPieceInRange _ _ (sym s.ending.among) h) in
          record {
            ending = ending-after p ps (m - piece_ticks q) (from + m) s.ending (omega arith);
            skipped = 0;
            led = omega (arith, is.least_lead);
            heard = omega (arith, joined);
            gone = [];
            read = p ∷ s.ending.before;
            earlier = refl {a = p ∷ s.ending.before};
            shows = s.shows ∙ ap (view_of (past_after past (p ∷ s.ending.before))) (sym (shortened-none s.ending.piece));
          }
    ]

tail-shows : (past : List Bool) (from : ℕ) (pieces : List Piece) (rest m : ℕ) (view : View) → All IsPieceInRange pieces
    → slice_get (run_tail_events past from pieces rest) m ≡ Some (Some view) → ShowsPiece past pieces from (from + m) view
tail-shows past from [] rest m view h e = absurd (quiet-none (4 * rest - from) m view e)
tail-shows past from (p ∷ ps) rest m view h e =
    let ticks : ℕ = piece_ticks p in
    let later : All IsPieceInRange ps = All-tail IsPieceInRange p ps h in
    elim (cases_lt from ticks) [
      | inl within ↦
          let b : nat_le ticks from ≡ false = lt-leb ticks from within in
          let here = rw b at e in
          elim (cases_Bool (is_read_from from p)) [
            | inl reads ↦
                let parts : (((from % 4) == 0) ≡ true) × (nat_le (from / 4 + 2) p.lead ≡ true)
                = and_parts ((from % 4) == 0) (nat_le (from / 4 + 2) p.lead) reads in
                first-shows past from p ps rest m view later (eqb-true (from % 4) 0 parts.0) (leb-true (from / 4 + 2) p.lead parts.1) within
                (rw reads at here)
            | inr never ↦ absurd (quiet-none (run_ticks (p ∷ ps) rest - from) m view (rw never at here))
          ]
      | inr gone ↦
          let b : nat_le ticks from ≡ true = le-leb ticks from gone in
          let s : ShowsPiece past ps (from - ticks) (from - ticks + m) view
          = tail-shows past (from - ticks) ps rest m view later (rw b at e) in
          let joined : length (pieces_symbols (p ∷ s.ending.before)) ≡ length (piece_symbols p) + length (pieces_symbols s.ending.before)
          = pieces-cons p s.ending.before in
          record {
            ending = ending-after p ps (from - ticks + m) (from + m) s.ending (omega arith);
            skipped = s.skipped;
            led = s.led;
            heard = omega (arith, s.heard, joined);
            gone = p ∷ s.gone;
            read = s.read;
            earlier = ap (λ qs. p ∷ qs) s.earlier;
            shows = s.shows;
          }
    ]

pub only_pieces_give_events : OnlyPiecesGiveEvents
only_pieces_give_events receivers heard symbols burst from ticks p m view l e =
    burst-shows burst (part-at receivers heard symbols burst from ticks p m l ∙ ap (λ o. Some o) e)
  where
    burst-shows : (b : IsBurst symbols) → slice_get (tail_events (receivers 0).history from b) m ≡ Some (Some view)
        → ShowsPiece (receivers 0).history (pieces_of b) from (from + m) view
    burst-shows (beacon h) is = absurd (quiet-none (20 - from) m view is)
    burst-shows (run h) is = tail-shows (receivers 0).history from h.pieces h.rest m view h.in_range is
    burst-shows (bare h) is = absurd (quiet-none (4 * h.0 - from) m view is)

-- ---- each piece is told

piece-tells : (past : List Bool) (p : Piece) (m : ℕ) → m + 1 ≡ piece_ticks p
    → slice_get (piece_events past p) m ≡ Some (Some (view_of past p))
piece-tells past p m e =
    let n : ℕ = piece_ticks p - 1 in
    let long : length (quiet n) ≡ n = length-replicate n None in
    let zero : m - n ≡ 0 = omega arith in
    slice_get-right (quiet n) (Some (view_of past p) ∷ []) m n long (omega arith)
    ∙ ap (slice_get (Some (view_of past p) ∷ [])) zero

run-tells : (past : List Bool) (before after : List Piece) (p : Piece) (rest m : ℕ)
    → m + 1 ≡ 4 * (length (pieces_symbols before) + length (piece_symbols p))
    → slice_get (run_events past (before ++ p ∷ after) rest) m ≡ Some (Some (view_of (past_after past before) p))
run-tells past [] after p rest m e =
    let ends : m + 1 ≡ piece_ticks p = omega arith in
    slice_get-left (piece_events past p) (run_events (descrambler_after past p.nibbles) after rest) m (omega (arith, length-events past p))
    ∙ piece-tells past p m ends
run-tells past (b ∷ bs) after p rest m e =
    let others : List (Option View) = run_events (descrambler_after past b.nibbles) (bs ++ p ∷ after) rest in
    let ticks : length (piece_events past b) ≡ piece_ticks b = length-events past b in
    let joined : length (pieces_symbols (b ∷ bs)) ≡ length (piece_symbols b) + length (pieces_symbols bs)
    = pieces-cons b bs in
    let some : length (piece_symbols p) ≡ p.lead + (1 + (1 + length p.nibbles)) + 2 = length-piece p in
    slice_get-right (piece_events past b) others m (piece_ticks b) ticks (omega arith)
    ∙ run-tells (descrambler_after past b.nibbles) bs after p rest (m - piece_ticks b) (omega arith)

ending-tells : (past : List Bool) (pieces : List Piece) (rest m : ℕ) (ending : EndsAt pieces m)
    → slice_get (run_events past pieces rest) m ≡ Some (Some (view_of (past_after past ending.before) ending.piece))
ending-tells past pieces rest m ending =
    ap (λ ps. slice_get (run_events past ps rest) m) ending.among
    ∙ run-tells past ending.before ending.after ending.piece rest m ending.ends

-- the events of a tail that is read
tail-reads : (past : List Bool) (gone later : List Piece) (first : Piece) (rest skipped : ℕ) → skipped + 2 ≤ first.lead
    → run_tail_events past (4 * (length (pieces_symbols gone) + skipped)) (gone ++ first ∷ later) rest
    ≡ run_events past (shortened first skipped ∷ later) rest
tail-reads past [] later first rest skipped h =
    let from : ℕ = 4 * (0 + skipped) in
    let some : length (piece_symbols first) ≡ first.lead + (1 + (1 + length first.nibbles)) + 2 = length-piece first in
    let within : nat_le (piece_ticks first) from ≡ false = lt-leb (piece_ticks first) from (omega arith) in
    let whole : ((from % 4) == 0) ≡ true = eq-eqb (from % 4) 0 (omega arith) in
    let k : from / 4 ≡ skipped = omega arith in
    let long : nat_le (from / 4 + 2) first.lead ≡ true = le-leb (from / 4 + 2) first.lead (omega arith) in
    rw (within, whole, long) (ap (λ n. run_events past (shortened first n ∷ later) rest) k)
tail-reads past (g ∷ gs) later first rest skipped h =
    let from : ℕ = 4 * (length (pieces_symbols (g ∷ gs)) + skipped) in
    let joined : length (pieces_symbols (g ∷ gs)) ≡ length (piece_symbols g) + length (pieces_symbols gs)
    = pieces-cons g gs in
    let past_first : nat_le (piece_ticks g) from ≡ true = le-leb (piece_ticks g) from (omega arith) in
    let back : from - piece_ticks g ≡ 4 * (length (pieces_symbols gs) + skipped) = omega arith in
    rw past_first
    (ap (λ n. run_tail_events past n (gs ++ first ∷ later) rest) back ∙ tail-reads past gs later first rest skipped h)

reading-reads : (past : List Bool) (pieces : List Piece) (rest from : ℕ) (reading : ReadsFrom pieces from)
    → run_tail_events past from pieces rest ≡ run_events past (pieces_read reading) rest
reading-reads past pieces rest from reading =
    ap (λ ps. run_tail_events past from ps rest) reading.among
    ∙ ap (λ n. run_tail_events past n (reading.gone ++ reading.first ∷ reading.later) rest) reading.begins
    ∙ tail-reads past reading.gone reading.later reading.first rest reading.skipped reading.led

-- no piece stands in an empty list
none-among : (before after : List Piece) (p : Piece) → [] ≡ before ++ p ∷ after → ⊥
none-among [] after p e = absurd (cc)
none-among (b ∷ bs) after p e = absurd (cc)

event-is : (event : Option View) (view : View) (events : List (Option View)) (m : ℕ) → slice_get events m ≡ Some event
    → slice_get events m ≡ Some (Some view) → event ≡ Some view
event-is event view events m here is = cc

pub each_piece_gives_event : EachPieceGivesEvent
each_piece_gives_event receivers heard symbols burst from ticks p reading m l ending =
    event-is (receive_event (receivers m) (heard m) false)
    (view_of (past_after (receivers 0).history ending.before) ending.piece)
    (tail_events (receivers 0).history from burst) m
    (part-at receivers heard symbols burst from ticks p m l) (tells burst reading ending)
  where
    tells : (b : IsBurst symbols) (r : ReadsFrom (pieces_of b) from) (e : EndsAt (pieces_read r) m)
        → slice_get (tail_events (receivers 0).history from b) m
        ≡ Some (Some (view_of (past_after (receivers 0).history e.before) e.piece))
    tells (beacon h) r e = absurd (none-among r.gone r.later r.first r.among)
    tells (run h) r e =
        ap (λ es. slice_get es m) (reading-reads (receivers 0).history h.pieces h.rest from r)
        ∙ ending-tells (receivers 0).history (pieces_read r) h.rest m e
    tells (bare h) r e = absurd (none-among r.gone r.later r.first r.among)

whole-reads : (past : List Bool) (pieces : List Piece) (rest : ℕ) → All IsPieceInRange pieces
    → run_tail_events past 0 pieces rest ≡ run_events past pieces rest
whole-reads past [] rest h = let e : 4 * rest - 0 ≡ 4 * rest = omega arith in ap quiet e
whole-reads past (p ∷ ps) rest h =
    let is : IsPieceInRange p = All-head IsPieceInRange p ps h in
    tail-reads past [] ps p rest 0 is.least_lead
    ∙ ap (λ q. run_events past (q ∷ ps) rest) (shortened-none p)

pub whole_pieces_give_events : WholePiecesGiveEvents
whole_pieces_give_events receivers heard symbols burst ticks p m l ending =
    event-is (receive_event (receivers m) (heard m) false)
    (view_of (past_after (receivers 0).history ending.before) ending.piece)
    (tail_events (receivers 0).history 0 burst) m
    (part-at receivers heard symbols burst 0 ticks p m l) (tells burst ending)
  where
    tells : (b : IsBurst symbols) (e : EndsAt (pieces_of b) m)
        → slice_get (tail_events (receivers 0).history 0 b) m
        ≡ Some (Some (view_of (past_after (receivers 0).history e.before) e.piece))
    tells (beacon h) e = absurd (none-among e.before e.after e.piece e.among)
    tells (run h) e =
        ap (λ es. slice_get es m) (whole-reads (receivers 0).history h.pieces h.rest h.in_range)
        ∙ ending-tells (receivers 0).history h.pieces h.rest m e
    tells (bare h) e = absurd (none-among e.before e.after e.piece e.among)

-- ---- two pieces, and frames

apart : (a b x y : List Piece) (p q : Piece) → a ++ p ∷ x ≡ b ++ q ∷ y
    → length (pieces_symbols a) + length (piece_symbols p) ≡ length (pieces_symbols b) + length (piece_symbols q)
    → (a ≡ b) × (p ≡ q)
apart [] [] x y p q e ends = (refl, cc)
apart [] (d ∷ b) x y p q e ends =
    let long : length (piece_symbols p) ≡ length (piece_symbols d) = ap (λ z. length (piece_symbols z)) (cc) in
    absurd (omega (arith, pieces-cons d b, length-piece q))
apart (c ∷ a) [] x y p q e ends =
    let long : length (piece_symbols c) ≡ length (piece_symbols q) = ap (λ z. length (piece_symbols z)) (cc) in
    absurd (omega (arith, pieces-cons c a, length-piece p))
apart (c ∷ a) (d ∷ b) x y p q e ends =
    let same : c ≡ d = cc in
    let others : a ++ p ∷ x ≡ b ++ q ∷ y = cc in
    let long : length (piece_symbols c) ≡ length (piece_symbols d) = ap (λ z. length (piece_symbols z)) same in
    let rest : (a ≡ b) × (p ≡ q) = apart a b x y p q others (omega (arith, pieces-cons c a, pieces-cons d b)) in
    let first : a ≡ b = rest.0 in
    (cc, rest.1)

pub pieces_end_apart : PiecesEndApart
pieces_end_apart pieces tick one other =
    apart one.before other.before one.after other.after one.piece other.piece (sym one.among ∙ other.among)
    (omega (arith, one.ends, other.ends))

pub tails_show_frames : TailsShowFrames
tails_show_frames past pieces from tick view shown octets frame stands =
    let heard : List Bool = past_after past shown.read in
    let piece : Piece = shortened shown.ending.piece shown.skipped in
    let s : StandsForFrame heard shown.ending.piece octets = stands heard in
    let told = frames_are_shown heard piece octets frame (record { closer = s.closer; heard = s.heard }) in
    (ap (λ v. v.kind) (shown.shows ∙ told), ap (λ v. v.frame) (shown.shows ∙ told))
