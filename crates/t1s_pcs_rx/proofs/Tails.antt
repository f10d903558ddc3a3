-- The events of a burst that is heard from any of its ticks on.
use Rattle.std.proofs.Common.{◌≡◌, refl, ℕ, zero, suc, ◌+◌, ◌-◌, ◌*◌, ◌/◌, ◌%◌, ◌<◌, ◌≤◌, inl, inr, Bool, true, false, ◌==◌, nat_le, List, [], ◌∷◌, ◌++◌, length, map, replicate, take, drop, sym, ap, ◌∙◌, subst, arith, append_assoc, length-append}
use Rattle.std.specs.Prelude.{None, Err, All}
use Rattle.std.specs.List.{flat_map}
use Rattle.std.proofs.lemmas.Bool.{cases_eq, cases_lt, eq-eqb, le-leb, lt-leb, ne_eqb}
use Rattle.std.proofs.lemmas.List.{append-nil, drop-append-le, drop-drop, drop-replicate, drop_all, length-drop, length-replicate}
use Rattle.std.proofs.lemmas.List.Concat.{flat_map-append}
use Rattle.std.proofs.Math.Seq.{drop-append-add}
use Rattle.t1s_symbols.specs.declared.Heard.{Heard}
use Rattle.t1s_symbols.specs.declared.Symbol.{Symbol}
use Rattle.t1s_symbols.specs.declared.Symbol.TheVariants.{Nibble, J, K, T, R, H, N, S}
use Rattle.t1s_grammar.specs.declared.place.Phase.TheVariants.{Beacon}
use Rattle.t1s_grammar.specs.declared.place.PlaceFault.TheVariants.{NotHere}
use Rattle.t1s_grammar.specs.Burst.{Piece, IsPieceInRange, IsCloser, piece_symbols, pieces_symbols, IsBurst, beacon, run, bare}
use Rattle.t1s_grammar.specs.PlaceTable.{start_phase, place_step}
use Rattle.t1s_pcs_rx.specs.declared.reader.Burst.TheVariants.{Outside}
use Rattle.t1s_pcs_rx.specs.Receiver.{Receiver}
use Rattle.t1s_pcs_rx.specs.ReceiveTable.{closing_in, receive_event, receive_step}
use Rattle.t1s_pcs_rx.specs.Laws.{burst_events, events_heard, no_events, quarters, run_events}
use Rattle.t1s_pcs_rx.specs.Tails.{TailsAreRead, piece_tail_events, piece_ticks, quiet, run_tail_events, run_ticks, shortened, tail_events}
use Rattle.t1s_pcs_rx.proofs.Bursts.{at-begun, begun, entering, goes-beacon, no_events-suc, outside, pieces_are_handed_on}
use Rattle.t1s_pcs_rx.proofs.Ended.{known_burst}
use Rattle.t1s_pcs_rx.proofs.Ticks.{Goes, goes-symbol, goes-then}
use Rattle.t1s_pcs_rx.proofs.Refused.{first-quiet, late-quiet, short-quiet}

-- ---- what is heard of symbols from a tick of them on

pub length-quarters : (symbols : List Symbol) → length (flat_map quarters symbols) ≡ 4 * length symbols
length-quarters [] = refl
length-quarters (s ∷ ss) = omega (arith, length-quarters ss)

drop-whole : (k : ℕ) (symbols : List Symbol) → drop (4 * k) (flat_map quarters symbols) ≡ flat_map quarters (drop k symbols)
drop-whole zero symbols = refl
drop-whole (suc k) [] = drop_all (4 * suc k) [] (omega arith)
drop-whole (suc k) (s ∷ ss) =
    let e : 4 * suc k ≡ suc (suc (suc (suc (4 * k)))) = omega arith in
    rw e (drop-whole k ss)

-- the symbol in which the tick lies, and the part of it
drop-within : (symbols : List Symbol) (from : ℕ)
    → drop from (flat_map quarters symbols) ≡ drop (from % 4) (flat_map quarters (drop (from / 4) symbols))
drop-within symbols from =
    let e : from ≡ 4 * (from / 4) + from % 4 = omega arith in
    ap (λ n. drop n (flat_map quarters symbols)) e
    ∙ sym (drop-drop (from % 4) (4 * (from / 4)) (flat_map quarters symbols))
    ∙ ap (drop (from % 4)) (drop-whole (from / 4) symbols)

drop-at : (symbols : List Symbol) (from : ℕ) → from % 4 ≡ 0
    → drop from (flat_map quarters symbols) ≡ flat_map quarters (drop (from / 4) symbols)
drop-at symbols from e = drop-within symbols from ∙ ap (λ n. drop n (flat_map quarters (drop (from / 4) symbols))) e

drop-after : (a b : List Symbol) (from : ℕ) → 4 * length a ≤ from
    → drop from (flat_map quarters (a ++ b)) ≡ drop (from - 4 * length a) (flat_map quarters b)
drop-after a b from h =
    let e : from ≡ length (flat_map quarters a) + (from - 4 * length a) = omega (arith, length-quarters a) in
    ap (drop from) (flat_map-append quarters a b)
    ∙ ap (λ n. drop n (flat_map quarters a ++ flat_map quarters b)) e
    ∙ drop-append-add (flat_map quarters a) (flat_map quarters b) (from - 4 * length a)

-- ---- a tail without an event

abbrev IsQuietFrom : Receiver → ℕ → List Symbol → Type 0
IsQuietFrom r from symbols = events_heard (outside r) (drop from (flat_map quarters symbols)) ≡ quiet (4 * length symbols - from)

quiet-from : (r : Receiver) (symbols : List Symbol) (from : ℕ) (hs : List Heard) → drop from (flat_map quarters symbols) ≡ hs
    → events_heard (outside r) hs ≡ quiet (length hs) → IsQuietFrom r from symbols
quiet-from r symbols from hs e h =
    subst (λ (ts : List Heard). events_heard (outside r) ts ≡ quiet (length ts)) (sym e) h
    ∙ ap quiet (length-drop from (flat_map quarters symbols) ∙ ap (λ n. n - from) (length-quarters symbols))

late-from : (r : Receiver) (symbols : List Symbol) (from : ℕ) → 0 < from % 4 → IsQuietFrom r from symbols
late-from r symbols from h =
    quiet-from r symbols from (drop (from % 4) (flat_map quarters (drop (from / 4) symbols))) (drop-within symbols from)
    (late-quiet r (drop (from / 4) symbols) (from % 4) h (omega arith))

-- ---- whole symbols

whole-told : (r : Receiver) (symbols : List Symbol) (burst : IsBurst symbols)
    → events_heard (outside r) (flat_map quarters symbols) ≡ burst_events r.history burst
unfolding receive_step closing_in
whole-told r symbols burst = ap (drop 1) (pieces_are_handed_on r symbols burst)

-- J alone give nothing
leads-told : (r : Receiver) (n : ℕ) → n ≤ 4096 → events_heard (outside r) (flat_map quarters (replicate n J)) ≡ no_events n
leads-told r zero h = refl
leads-told r (suc n) h = whole-told r (replicate (suc n) J) (bare (suc n, omega arith, h, refl))

leads-from : (r : Receiver) (rest from : ℕ) → rest ≤ 4096
    → events_heard (outside r) (drop from (flat_map quarters (replicate rest J))) ≡ quiet (4 * rest - from)
leads-from r rest from h =
    elim (cases_eq (from % 4) 0) [
      | inl e ↦
          let fewer : rest - from / 4 ≤ 4096 = omega arith in
          let ticks : 4 * (rest - from / 4) ≡ 4 * rest - from = omega arith in
          ap (events_heard (outside r))
          (drop-at (replicate rest J) from e ∙ ap (flat_map quarters) (drop-replicate (from / 4) rest J))
          ∙ leads-told r (rest - from / 4) fewer
          ∙ ap quiet ticks
      | inr ne ↦
          let length-leads : length (replicate rest J) ≡ rest = length-replicate rest J in
          let off : 0 < from % 4 = omega (arith, ne) in
          late-from r (replicate rest J) from off ∙ ap (λ n. quiet (4 * n - from)) length-leads
    ]

-- ---- a beacon

beacons-told : (r : Receiver) (n : ℕ) → n ≤ 5 → events_heard (outside r) (flat_map quarters (replicate n N)) ≡ no_events n
beacons-told r zero h = refl
beacons-told r (suc n) h =
    let past : List Bool = r.history in
    let heard : List ℕ = r.nibbles in
    let first : Goes (begun r) (quarters N) (None ∷ None ∷ None ∷ None ∷ []) (Beacon 1) past heard
    = goes-symbol (begun r) start_phase (Beacon 1) past heard N (at-begun r) refl in
    let all : Goes (begun r) (quarters N ++ flat_map quarters (replicate n N)) (None ∷ None ∷ None ∷ None ∷ no_events n) (Beacon (1 + n)) past heard
    = goes-then (begun r) (quarters N) (flat_map quarters (replicate n N)) (None ∷ None ∷ None ∷ None ∷ []) (no_events n)
    (Beacon 1) (Beacon (1 + n)) past past heard heard first (λ m there. goes-beacon n 1 past heard m (omega arith) there) in
    entering r (replicate (suc n) N)
    ∙ ap (events_heard (begun r)) (sym (append-nil (flat_map quarters (replicate (suc n) N))))
    ∙ all.told []
    ∙ append-nil (None ∷ None ∷ None ∷ None ∷ no_events n)
    ∙ sym (no_events-suc n)

beacon-from : (r : Receiver) (from : ℕ)
    → events_heard (outside r) (drop from (flat_map quarters (replicate 5 N))) ≡ quiet (20 - from)
beacon-from r from =
    elim (cases_eq (from % 4) 0) [
      | inl e ↦
          let fewer : 5 - from / 4 ≤ 5 = omega arith in
          let ticks : 4 * (5 - from / 4) ≡ 20 - from = omega arith in
          ap (events_heard (outside r))
          (drop-at (replicate 5 N) from e ∙ ap (flat_map quarters) (drop-replicate (from / 4) 5 N))
          ∙ beacons-told r (5 - from / 4) fewer
          ∙ ap quiet ticks
      | inr ne ↦ late-from r (replicate 5 N) from (omega (arith, ne))
    ]

-- ---- a run

-- the symbols of a piece after its lead, none of which may begin a burst
abbrev after_lead : List ℕ → Symbol → List Symbol
after_lead nibbles closer = H ∷ H ∷ (map Nibble nibbles ++ T ∷ closer ∷ [])

abbrev BeginNone : List Symbol → Type 0
BeginNone [] = Unit {0}
BeginNone (s ∷ ss) = (place_step start_phase s ≡ Err NotHere) × BeginNone ss

closer-none : (s : Symbol) → IsCloser s → place_step start_phase s ≡ Err NotHere
closer-none R h = refl
closer-none K h = refl
closer-none S h = refl
closer-none _ h = absurd h

nibbles-none : (ns : List ℕ) (s : Symbol) → IsCloser s → BeginNone (map Nibble ns ++ T ∷ s ∷ [])
nibbles-none [] s h = (refl, (closer-none s h, tt))
nibbles-none (n ∷ ns) s h = (refl, nibbles-none ns s h)

after-none : (ns : List ℕ) (s : Symbol) → IsCloser s → BeginNone (after_lead ns s)
after-none ns s h = (refl, (refl, nibbles-none ns s h))

-- the symbol at a place among such ones
record Found (symbols : List Symbol) (n : ℕ) : Type 0 where
  symbol : Symbol
  more : List Symbol
  is : drop n symbols ≡ symbol ∷ more
  none : place_step start_phase symbol ≡ Err NotHere

found : (a b : List Symbol) (n : ℕ) → BeginNone a → n < length a → Found (a ++ b) n
found [] b n h l = absurd (omega arith)
found (s ∷ ss) b zero h l = record { symbol = s; more = ss ++ b; is = refl; none = h.0 }
found (s ∷ ss) b (suc n) h l =
    let f : Found (ss ++ b) n = found ss b n h.1 (omega arith) in
    record { symbol = f.symbol; more = f.more; is = f.is; none = f.none }

piece-split : (p : Piece) → piece_symbols p ≡ replicate p.lead J ++ after_lead p.nibbles p.closer
piece-split p = append_assoc (replicate p.lead J) (H ∷ H ∷ map Nibble p.nibbles) (T ∷ p.closer ∷ [])

-- the symbols of a piece and more, from one of the J of its lead on, and from after it on
drop-lead : (p : Piece) (more : List Symbol) (k : ℕ) → k ≤ p.lead
    → drop k (piece_symbols p ++ more) ≡ piece_symbols (shortened p k) ++ more
drop-lead p more k h =
    let few : k ≤ length (replicate p.lead J) = omega (arith, length-replicate p.lead J) in
    let rest : List Symbol = after_lead p.nibbles p.closer in
    ap (λ ss. drop k (ss ++ more)) (piece-split p)
    ∙ ap (drop k) (append_assoc (replicate p.lead J) rest more)
    ∙ drop-append-le k (replicate p.lead J) (rest ++ more) few
    ∙ ap (λ ss. ss ++ (rest ++ more)) (drop-replicate k p.lead J)
    ∙ sym (append_assoc (replicate (p.lead - k) J) rest more)
    ∙ ap (λ ss. ss ++ more) (sym (piece-split (shortened p k)))

drop-after_lead : (p : Piece) (more : List Symbol) (k : ℕ) → p.lead ≤ k
    → drop k (piece_symbols p ++ more) ≡ drop (k - p.lead) (after_lead p.nibbles p.closer ++ more)
drop-after_lead p more k h =
    let rest : List Symbol = after_lead p.nibbles p.closer in
    let e : k ≡ length (replicate p.lead J) + (k - p.lead) = omega (arith, length-replicate p.lead J) in
    ap (λ ss. drop k (ss ++ more)) (piece-split p)
    ∙ ap (drop k) (append_assoc (replicate p.lead J) rest more)
    ∙ ap (λ n. drop n (replicate p.lead J ++ (rest ++ more))) e
    ∙ drop-append-add (replicate p.lead J) (rest ++ more) (k - p.lead)

length-split : (p : Piece) → length (piece_symbols p) ≡ p.lead + length (after_lead p.nibbles p.closer)
length-split p =
    ap length (piece-split p)
    ∙ length-append (replicate p.lead J) (after_lead p.nibbles p.closer)
    ∙ ap (λ n. n + length (after_lead p.nibbles p.closer)) (length-replicate p.lead J)

-- a tick of a symbol in which nothing may begin, and of a last J before H
unread-from : (r : Receiver) (p : Piece) (more : List Symbol) (from : ℕ) → IsCloser p.closer → from % 4 ≡ 0
    → from < piece_ticks p → p.lead < from / 4 + 2 → IsQuietFrom r from (piece_symbols p ++ more)
unread-from r p more from closes whole less few =
    let k : ℕ = from / 4 in
    let rest : List Symbol = after_lead p.nibbles p.closer in
    elim (cases_lt k p.lead) [
      | inl in_lead ↦
          let one : p.lead - k ≡ 1 = omega arith in
          let hs : List Symbol = H ∷ (map Nibble p.nibbles ++ T ∷ p.closer ∷ []) ++ more in
          let last : piece_symbols (shortened p k) ++ more ≡ J ∷ H ∷ hs
          = ap (λ ss. ss ++ more) (piece-split (shortened p k)) ∙ ap (λ n. (replicate n J ++ rest) ++ more) one in
          quiet-from r (piece_symbols p ++ more) from (flat_map quarters (J ∷ H ∷ hs))
          (drop-at (piece_symbols p ++ more) from whole ∙ ap (flat_map quarters) (drop-lead p more k (omega arith) ∙ last))
          (short-quiet r hs)
      | inr past_lead ↦
          let f : Found (rest ++ more) (k - p.lead)
          = found rest more (k - p.lead) (after-none p.nibbles p.closer closes) (omega (arith, length-split p)) in
          quiet-from r (piece_symbols p ++ more) from (flat_map quarters (f.symbol ∷ f.more))
          (drop-at (piece_symbols p ++ more) from whole ∙ ap (flat_map quarters) (drop-after_lead p more k past_lead ∙ f.is))
          (first-quiet r f.symbol f.more f.none)
    ]

in_range-shortened : (p : Piece) (ps : List Piece) (k : ℕ) → All IsPieceInRange (p ∷ ps) → k + 2 ≤ p.lead
    → All IsPieceInRange (shortened p k ∷ ps)
in_range-shortened p ps k h l zero d less =
    let is : IsPieceInRange p = h 0 p (omega arith) in
    record {
      least_lead = omega arith;
      most_lead = omega (arith, is.most_lead);
      least_nibbles = is.least_nibbles;
      most_nibbles = is.most_nibbles;
      nibbles = is.nibbles;
      closer = is.closer;
    }
in_range-shortened p ps k h l (suc n) d less = h (suc n) d less

-- pieces, and so many J after them
abbrev run_symbols : List Piece → ℕ → List Symbol
run_symbols pieces rest = pieces_symbols pieces ++ replicate rest J

run_symbols-cons : (p : Piece) (ps : List Piece) (rest : ℕ) → run_symbols (p ∷ ps) rest ≡ piece_symbols p ++ run_symbols ps rest
run_symbols-cons p ps rest = append_assoc (piece_symbols p) (pieces_symbols ps) (replicate rest J)

run_ticks-is : (ps : List Piece) (rest : ℕ) → 4 * length (run_symbols ps rest) ≡ run_ticks ps rest
run_ticks-is [] rest = ap (λ n. 4 * n) (length-replicate rest J)
run_ticks-is (p ∷ ps) rest =
    let others : ℕ = run_ticks ps rest in
    let e : length (run_symbols (p ∷ ps) rest) ≡ length (piece_symbols p) + length (run_symbols ps rest)
    = ap length (run_symbols-cons p ps rest) ∙ length-append (piece_symbols p) (run_symbols ps rest) in
    omega (arith, run_ticks-is ps rest, e)

run-told : (r : Receiver) (p : Piece) (ps : List Piece) (rest : ℕ) → length (p ∷ ps) ≤ 4096 → All IsPieceInRange (p ∷ ps) → rest ≤ 4096
    → events_heard (outside r) (flat_map quarters (run_symbols (p ∷ ps) rest)) ≡ run_events r.history (p ∷ ps) rest
run-told r p ps rest few h most =
    whole-told r (run_symbols (p ∷ ps) rest)
    (run (record { pieces = p ∷ ps; rest = rest; least_pieces = omega arith; most_pieces = few; in_range = h; most_rest = most; spelled = refl }))

-- the tail of a run that begins within its first piece
run-within : (r : Receiver) (p : Piece) (ps : List Piece) (rest from : ℕ) → length (p ∷ ps) ≤ 4096 → All IsPieceInRange (p ∷ ps)
    → rest ≤ 4096 → from < piece_ticks p
    → events_heard (outside r) (drop from (flat_map quarters (run_symbols (p ∷ ps) rest)))
    ≡ piece_tail_events r.history from p ps rest
run-within r p ps rest from few h most less =
    let k : ℕ = from / 4 in
    let all : List Symbol = run_symbols (p ∷ ps) rest in
    let more : List Symbol = run_symbols ps rest in
    let split : all ≡ piece_symbols p ++ more = run_symbols-cons p ps rest in
    let is : IsPieceInRange p = h 0 p (omega arith) in
    let ticks : quiet (4 * length all - from) ≡ quiet (run_ticks (p ∷ ps) rest - from)
    = ap (λ n. quiet (n - from)) (run_ticks-is (p ∷ ps) rest) in
    elim (cases_eq (from % 4) 0) [
      | inl e ↦
          let whole : ((from % 4) == 0) ≡ true = eq-eqb (from % 4) 0 e in
          elim (cases_lt p.lead (k + 2)) [
            | inl short ↦
                let b : nat_le (k + 2) p.lead ≡ false = lt-leb (k + 2) p.lead short in
                rw (whole, b)
                (subst (λ (ss : List Symbol). events_heard (outside r) (drop from (flat_map quarters ss)) ≡ quiet (4 * length ss - from))
                (sym split) (unread-from r p more from is.closer e less short)
                ∙ ticks)
            | inr long ↦
                let b : nat_le (k + 2) p.lead ≡ true = le-leb (k + 2) p.lead long in
                rw (whole, b)
                (ap (λ ss. events_heard (outside r) (drop from (flat_map quarters ss))) split
                ∙ ap (events_heard (outside r))
                (drop-at (piece_symbols p ++ more) from e ∙ ap (flat_map quarters) (drop-lead p more k (omega arith) ∙ sym (run_symbols-cons (shortened p k) ps rest)))
                ∙ run-told r (shortened p k) ps rest few (in_range-shortened p ps k h long) most)
          ]
      | inr ne ↦
          let part : ((from % 4) == 0) ≡ false = ne_eqb (from % 4) 0 ne in
          rw part (late-from r all from (omega (arith, ne)) ∙ ticks)
    ]

run-from : (r : Receiver) (pieces : List Piece) (rest from : ℕ) → length pieces ≤ 4096 → All IsPieceInRange pieces → rest ≤ 4096
    → events_heard (outside r) (drop from (flat_map quarters (run_symbols pieces rest))) ≡ run_tail_events r.history from pieces rest
run-from r [] rest from few h most = leads-from r rest from most
run-from r (p ∷ ps) rest from few h most =
    elim (cases_lt from (piece_ticks p)) [
      | inl less ↦
          let b : nat_le (piece_ticks p) from ≡ false = lt-leb (piece_ticks p) from less in
          rw b (run-within r p ps rest from few h most less)
      | inr gone ↦
          let b : nat_le (piece_ticks p) from ≡ true = le-leb (piece_ticks p) from gone in
          rw b
          (ap (λ ss. events_heard (outside r) (drop from (flat_map quarters ss))) (run_symbols-cons p ps rest)
          ∙ ap (events_heard (outside r)) (drop-after (piece_symbols p) (run_symbols ps rest) from gone)
          ∙ run-from r ps rest (from - piece_ticks p) (omega arith) (λ k d l. h (suc k) d (omega arith)) most)
    ]

-- ---- any burst

burst-from : (r : Receiver) (symbols : List Symbol) (burst : IsBurst symbols) (from : ℕ)
    → events_heard (outside r) (drop from (flat_map quarters symbols)) ≡ tail_events r.history from burst
burst-from r symbols (beacon h) from = rw h (beacon-from r from)
burst-from r symbols (run h) from =
    ap (λ ss. events_heard (outside r) (drop from (flat_map quarters ss))) h.spelled
    ∙ run-from r h.pieces h.rest from h.most_pieces h.in_range h.most_rest
burst-from r symbols (bare h) from =
    ap (λ ss. events_heard (outside r) (drop from (flat_map quarters ss))) h.3
    ∙ leads-from r h.0 from h.2

-- what is told up to a tick hangs on nothing after it
events_heard-take : (n : ℕ) (r : Receiver) (hs : List Heard) → events_heard r (take n hs) ≡ take n (events_heard r hs)
events_heard-take zero r hs = refl
events_heard-take (suc n) r [] = refl
events_heard-take (suc n) r (h ∷ hs) = ap (λ es. receive_event r h false ∷ es) (events_heard-take n (receive_step r h false) hs)

pub tail-told : (r : Receiver) (symbols : List Symbol) (burst : IsBurst symbols) (from : ℕ) → r.burst ≡ Outside
    → events_heard r (drop from (flat_map quarters symbols)) ≡ tail_events r.history from burst
tail-told r symbols burst from e =
    ap (λ x. events_heard x (drop from (flat_map quarters symbols))) (known_burst r Outside e)
    ∙ burst-from r symbols burst from

pub tails_are_read : TailsAreRead
tails_are_read r symbols burst from ticks e =
    events_heard-take ticks r (drop from (flat_map quarters symbols)) ∙ ap (take ticks) (tail-told r symbols burst from e)
