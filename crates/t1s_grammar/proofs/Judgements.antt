-- The phase after a list of symbols: what the table of steps makes of whole pieces, runs and bursts.
use Rattle.std.proofs.Common.{◌≡◌, refl, ℕ, zero, suc, ◌+◌, ◌<◌, ◌≤◌, Bool, true, false, List, [], ◌∷◌, ◌++◌, length, map, replicate, Result, Ok, Err, sym, ap, ◌∙◌, arith}
use Rattle.std.specs.Prelude.{All}
use Rattle.std.proofs.lemmas.Grind.{common_steps}
use Rattle.std.proofs.lemmas.Bool.{lt-ltb}
use Rattle.t1s_symbols.specs.declared.Symbol.{Symbol}
use Rattle.t1s_symbols.specs.declared.Symbol.TheVariants.{Nibble, J, K, T, R, H, N, S}
use Rattle.t1s_grammar.specs.Burst.{Piece, IsPieceInRange, IsCloser, open_symbols, piece_symbols, pieces_symbols, IsBurst, beacon, run, bare}
use Rattle.t1s_grammar.specs.Prefixes.{Beginning, beginning_symbols, IsBeginning, IsLead, phase_of, Stands, beacon as in_beacon, between, opened, within, ended}
use Rattle.t1s_grammar.specs.PlaceTable.{start_phase, place_step, between_step, within_step, beacon_step, ended_step, ends_burst}
use Rattle.t1s_grammar.specs.declared.place.Phase.{Phase}
use Rattle.t1s_grammar.specs.declared.place.Phase.TheVariants.{Beacon, Between, Opened, Within, Ended}
use Rattle.t1s_grammar.specs.declared.place.PlaceFault.{PlaceFault}

abbrev pub Judgement : Type 0
Judgement = Result Phase PlaceFault

abbrev pub taken : Phase → Judgement
taken q = Ok q

abbrev pub refused : PlaceFault → Judgement
refused e = Err e

-- the next symbol, where none was refused before
abbrev pub step_on : Judgement → Symbol → Judgement
step_on (Ok q) s = place_step q s
step_on (Err e) s = Err e

-- the judgement of a list of symbols, after a judgement
abbrev pub after : List Symbol → Judgement → Judgement
after [] r = r
after (s ∷ ss) r = after ss (step_on r s)

pub after-append : (a b : List Symbol) (r : Judgement) → after (a ++ b) r ≡ after b (after a r)
after-append [] b r = refl
after-append (s ∷ ss) b r = after-append ss b (step_on r s)

pub after-err : (a : List Symbol) (e : PlaceFault) → after a (Err e) ≡ Err e
after-err [] e = refl
after-err (s ∷ ss) e = after-err ss e

-- ---- one symbol

pub step-J : (closed lead : ℕ) → lead < 4096 → between_step closed lead J ≡ Ok (Between closed (lead + 1))
step-J closed lead h = rw (lt-ltb lead 4096 h) refl

pub step-N : (count : ℕ) → count < 5 → beacon_step count N ≡ Ok (Beacon (count + 1))
step-N count h = rw (lt-ltb count 5 h) refl

pub step-H : (closed lead : ℕ) → 2 ≤ lead → closed < 4096 → between_step closed lead H ≡ Ok (Opened closed lead)
step-H closed lead h l = grind (arith, common_steps)

pub step-nibble : (closed lead count n : ℕ) → count < 3056
    → within_step closed lead count (Nibble n) ≡ Ok (Within closed lead (count + 1))
step-nibble closed lead count n h = rw (lt-ltb count 3056 h) refl

pub step-T : (closed lead count : ℕ) → 9 ≤ count → within_step closed lead count T ≡ Ok (Ended closed lead count)
step-T closed lead count h = grind (arith, common_steps)

pub step-closer : (closed : ℕ) (s : Symbol) → IsCloser s → ended_step closed s ≡ Ok (Between (closed + 1) 0)
step-closer closed R h = refl
step-closer closed K h = refl
step-closer closed S h = refl
step-closer closed _ h = absurd h

-- ---- the parts of a burst

pub after-leads : (n i closed : ℕ) → i + n ≤ 4096
    → after (replicate n J) (Ok (Between closed i)) ≡ Ok (Between closed (i + n))
after-leads zero i closed h = let same : i ≡ i + 0 = omega arith in ap (λ m. Ok (Between closed m)) same
after-leads (suc n) i closed h =
    let same : i + 1 + n ≡ i + suc n = omega arith in
    ap (after (replicate n J)) (step-J closed i (omega arith))
    ∙ after-leads n (i + 1) closed (omega arith)
    ∙ ap (λ m. Ok (Between closed m)) same

pub after-beacon : (n i : ℕ) → i + n ≤ 5 → after (replicate n N) (Ok (Beacon i)) ≡ Ok (Beacon (i + n))
after-beacon zero i h = let same : i ≡ i + 0 = omega arith in ap (λ m. Ok (Beacon m)) same
after-beacon (suc n) i h =
    let same : i + 1 + n ≡ i + suc n = omega arith in
    ap (after (replicate n N)) (step-N i (omega arith))
    ∙ after-beacon n (i + 1) (omega arith)
    ∙ ap (λ m. Ok (Beacon m)) same

pub after-nibbles : (ns : List ℕ) (i closed lead : ℕ) → i + length ns ≤ 3056
    → after (map Nibble ns) (Ok (Within closed lead i)) ≡ Ok (Within closed lead (i + length ns))
after-nibbles [] i closed lead h = let same : i ≡ i + 0 = omega arith in ap (λ m. Ok (Within closed lead m)) same
after-nibbles (n ∷ ns) i closed lead h =
    let same : i + 1 + length ns ≡ i + length (n ∷ ns) = omega arith in
    ap (after (map Nibble ns)) (step-nibble closed lead i n (omega arith))
    ∙ after-nibbles ns (i + 1) closed lead (omega arith)
    ∙ ap (λ m. Ok (Within closed lead m)) same

pub after-lead : (closed lead : ℕ) → lead ≤ 4096 → after (replicate lead J) (Ok (Between closed 0)) ≡ Ok (Between closed lead)
after-lead closed lead h =
    let same : 0 + lead ≡ lead = omega arith in
    after-leads lead 0 closed (omega arith) ∙ ap (λ m. Ok (Between closed m)) same

pub after-open : (closed lead : ℕ) (ns : List ℕ) → closed < 4096 → IsLead lead → length ns ≤ 3056
    → after (open_symbols lead ns) (Ok (Between closed 0)) ≡ Ok (Within closed lead (length ns))
after-open closed lead ns few l h =
    let same : 0 + length ns ≡ length ns = omega arith in
    after-append (replicate lead J) (H ∷ H ∷ map Nibble ns) (Ok (Between closed 0))
    ∙ ap (after (H ∷ H ∷ map Nibble ns)) (after-lead closed lead l.most)
    ∙ ap (after (H ∷ map Nibble ns)) (step-H closed lead l.least few)
    ∙ after-nibbles ns 0 closed lead (omega arith)
    ∙ ap (λ m. Ok (Within closed lead m)) same

pub after-piece : (p : Piece) (closed : ℕ) → IsPieceInRange p → closed < 4096
    → after (piece_symbols p) (Ok (Between closed 0)) ≡ Ok (Between (closed + 1) 0)
after-piece p closed h few =
    after-append (open_symbols p.lead p.nibbles) (T ∷ p.closer ∷ []) (Ok (Between closed 0))
    ∙ ap (after (T ∷ p.closer ∷ []))
    (after-open closed p.lead p.nibbles few (record { least = h.least_lead; most = h.most_lead }) h.most_nibbles)
    ∙ ap (after (p.closer ∷ [])) (step-T closed p.lead (length p.nibbles) h.least_nibbles)
    ∙ step-closer closed p.closer h.closer

pub after-pieces : (ps : List Piece) (closed : ℕ) → All IsPieceInRange ps → closed + length ps ≤ 4096
    → after (pieces_symbols ps) (Ok (Between closed 0)) ≡ Ok (Between (closed + length ps) 0)
after-pieces [] closed h few = let same : closed ≡ closed + 0 = omega arith in ap (λ m. Ok (Between m 0)) same
after-pieces (p ∷ ps) closed h few =
    let same : closed + 1 + length ps ≡ closed + length (p ∷ ps) = omega arith in
    after-append (piece_symbols p) (pieces_symbols ps) (Ok (Between closed 0))
    ∙ ap (after (pieces_symbols ps)) (after-piece p closed (h 0 p (omega arith)) (omega arith))
    ∙ after-pieces ps (closed + 1) (λ k d l. h (suc k) d (omega arith)) (omega arith)
    ∙ ap (λ m. Ok (Between m 0)) same

-- whole pieces from the start, and then more
pub after-run : (ps : List Piece) (more : List Symbol) → All IsPieceInRange ps → length ps ≤ 4096
    → after (pieces_symbols ps ++ more) (Ok start_phase) ≡ after more (Ok (Between (length ps) 0))
after-run ps more h few =
    let same : 0 + length ps ≡ length ps = omega arith in
    after-append (pieces_symbols ps) more (Ok start_phase)
    ∙ ap (after more) (after-pieces ps 0 h (omega arith) ∙ ap (λ m. Ok (Between m 0)) same)

pub after-beginning : (b : Beginning) → IsBeginning b → after (beginning_symbols b) (Ok start_phase) ≡ Ok (phase_of b)
after-beginning (in_beacon zero) h = absurd (omega arith)
after-beginning (in_beacon (suc n)) h =
    let same : 1 + n ≡ suc n = omega arith in after-beacon n 1 (omega arith) ∙ ap (λ m. Ok (Beacon m)) same
after-beginning (between ps lead) h =
    after-run ps (replicate lead J) h.0.in_range h.0.count ∙ after-lead (length ps) lead h.1
after-beginning (opened ps lead) h =
    let few : length ps ≤ 4095 = h.0.count in
    after-append (pieces_symbols ps ++ replicate lead J) (H ∷ []) (Ok start_phase)
    ∙ ap (after (H ∷ [])) (after-run ps (replicate lead J) h.0.in_range (omega arith) ∙ after-lead (length ps) lead h.1.most)
    ∙ step-H (length ps) lead h.1.least (omega arith)
after-beginning (within ps lead ns) h =
    let few : length ps ≤ 4095 = h.0.count in
    after-run ps (open_symbols lead ns) h.0.in_range (omega arith)
    ∙ after-open (length ps) lead ns (omega arith) h.1 h.2.most
after-beginning (ended ps lead ns) h =
    let few : length ps ≤ 4095 = h.0.count in
    after-append (pieces_symbols ps ++ open_symbols lead ns) (T ∷ []) (Ok start_phase)
    ∙ ap (after (T ∷ []))
    (after-run ps (open_symbols lead ns) h.0.in_range (omega arith)
    ∙ after-open (length ps) lead ns (omega arith) h.1 h.2.most)
    ∙ step-T (length ps) lead (length ns) h.2.fewest

-- what a list of symbols stands at is its judgement
pub after-stands : (symbols : List Symbol) (q : Phase) → Stands symbols q → after symbols (Ok start_phase) ≡ Ok q
after-stands symbols q h =
    ap (λ ss. after ss (Ok start_phase)) h.spelled ∙ after-beginning h.beginning h.in_range ∙ ap Ok (sym h.counted)

-- whether a judgement is the end of a burst
abbrev pub ends : Judgement → Bool
ends (Ok q) = ends_burst q
ends (Err e) = false

some_lead : (count : ℕ) → 1 ≤ count → ends_burst (Between 0 count) ≡ true
some_lead count h = grind (arith, common_steps)

pub some_pieces : (count lead : ℕ) → 1 ≤ count → ends_burst (Between count lead) ≡ true
some_pieces count lead h = grind (arith, common_steps)

-- a whole burst is no more than its end
pub after-burst : (symbols : List Symbol) → IsBurst symbols → ends (after symbols (Ok start_phase)) ≡ true
after-burst symbols (beacon h) = ap (λ ss. ends (after ss (Ok start_phase))) h
after-burst symbols (run h) =
    ap (λ ss. ends (after ss (Ok start_phase))) h.spelled
    ∙ ap ends (after-run h.pieces (replicate h.rest J) h.in_range h.most_pieces ∙ after-lead (length h.pieces) h.rest h.most_rest)
    ∙ some_pieces (length h.pieces) h.rest h.least_pieces
after-burst symbols (bare h) =
    ap (λ ss. ends (after ss (Ok start_phase))) h.3 ∙ ap ends (after-lead 0 h.0 h.2) ∙ some_lead h.0 h.1
