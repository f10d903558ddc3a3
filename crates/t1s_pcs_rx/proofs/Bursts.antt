-- The events of a burst that is heard.
use Rattle.std.proofs.Common.{◌≡◌, refl, ℕ, zero, suc, ◌+◌, ◌-◌, ◌*◌, ◌<◌, ◌≤◌, Bool, true, false, List, [], ◌∷◌, ◌++◌, length, map, replicate, drop, sym, ap, ◌∙◌, arith, append_assoc, length-append}
use Rattle.std.specs.Prelude.{Option, Some, None, All, nat_lt, if◌then◌else◌}
use Rattle.std.specs.List.{flat_map}
use Rattle.std.proofs.lemmas.List.{append-nil, drop-append-le, length-map, length-replicate, replicate-append-replicate}
use Rattle.std.proofs.lemmas.List.Concat.{flat_map-append}
use Rattle.std.proofs.lemmas.Grind.{common_steps}
use Rattle.std.proofs.Math.ListN.{drop_of_length-le}
use Rattle.t1s_symbols.specs.declared.Heard.TheVariants.{Nothing}
use Rattle.t1s_symbols.specs.declared.Class.TheVariants.{None as Unread}
use Rattle.t1s_symbols.specs.declared.Symbol.{Symbol}
use Rattle.t1s_symbols.specs.declared.Symbol.TheVariants.{Nibble, J, K, T, R, H, N, S}
use Rattle.t1s_scramble.specs.Scrambled.{descrambled_nibble, descrambled_nibbles, descrambler_after}
use Rattle.t1s_scramble.proofs.Nibbles.{descrambled_nibbles-nil, descrambled_nibbles-push, descrambler_after-nil, descrambler_after-append, length-descrambled_nibbles}
use Rattle.t1s_grammar.specs.declared.place.Phase.TheVariants.{Beacon, Between, Opened, Within, Ended}
use Rattle.t1s_grammar.specs.Burst.{Piece, IsPieceInRange, IsCloser, piece_symbols, pieces_symbols, open_symbols, IsBurst, beacon, run, bare}
use Rattle.t1s_grammar.specs.Reading.{heard_nibbles}
use Rattle.t1s_grammar.specs.PlaceTable.{start_phase}
use Rattle.t1s_grammar.proofs.Longer.{All-nil}
use Rattle.t1s_grammar.proofs.Judgements.{step-J, step-N, step-H, step-nibble, step-T}
use Rattle.t1s_pcs_rx.specs.declared.reader.Burst.TheVariants.{Outside, Reading}
use Rattle.t1s_pcs_rx.specs.Receiver.{Receiver}
use Rattle.t1s_pcs_rx.specs.PieceReading.{nibbles_after}
use Rattle.t1s_pcs_rx.specs.ReceiveTable.{closing_in, receive_step}
use Rattle.t1s_pcs_rx.specs.Views.{View, view_of, view_by, closer_of}
use Rattle.t1s_pcs_rx.specs.Laws.{PiecesAreHandedOn, burst_events, events_heard, no_events, piece_events, quarters, run_events}
use Rattle.t1s_pcs_rx.proofs.Ticks.{At, Goes, goes-symbol, goes-then, tick}

abbrev Events : Type 0
Events = List (Option View)

-- four ticks more without an event
pub no_events-suc : (n : ℕ) → no_events (suc n) ≡ None ∷ None ∷ None ∷ None ∷ no_events n
no_events-suc n =
    let e : 4 * suc n ≡ suc (suc (suc (suc (4 * n)))) = omega arith in
    ap (λ k. replicate k None) e

-- ---- the parts of a burst

goes-leads : (n i closed : ℕ) (past : List Bool) (heard : List ℕ) (r : Receiver) → i + n ≤ 4096 → At r (Between closed i) past heard
    → Goes r (flat_map quarters (replicate n J)) (no_events n) (Between closed (i + n)) past heard
goes-leads zero i closed past heard r h at =
    let same : i ≡ i + 0 = omega arith in
    rw (← same) (record { next = r; at_place = at; told = λ rest. refl })
goes-leads (suc n) i closed past heard r h at =
    let same : i + 1 + n ≡ i + suc n = omega arith in
    let first : Goes r (quarters J) (None ∷ None ∷ None ∷ None ∷ []) (Between closed (i + 1)) past heard
    = goes-symbol r (Between closed i) (Between closed (i + 1)) past heard J at (step-J closed i (omega arith)) in
    rw (no_events-suc n, ← same)
    (goes-then r (quarters J) (flat_map quarters (replicate n J)) (None ∷ None ∷ None ∷ None ∷ []) (no_events n)
    (Between closed (i + 1)) (Between closed (i + 1 + n)) past past heard heard first
    (λ m there. goes-leads n (i + 1) closed past heard m (omega arith) there))

goes-lead : (n closed : ℕ) (past : List Bool) (heard : List ℕ) (r : Receiver) → n ≤ 4096 → At r (Between closed 0) past heard
    → Goes r (flat_map quarters (replicate n J)) (no_events n) (Between closed n) past heard
goes-lead n closed past heard r h at =
    let same : 0 + n ≡ n = omega arith in
    let g : Goes r (flat_map quarters (replicate n J)) (no_events n) (Between closed (0 + n)) past heard
    = goes-leads n 0 closed past heard r (omega arith) at in
    rw same at g

pub goes-beacon : (n i : ℕ) (past : List Bool) (heard : List ℕ) (r : Receiver) → i + n ≤ 5 → At r (Beacon i) past heard
    → Goes r (flat_map quarters (replicate n N)) (no_events n) (Beacon (i + n)) past heard
goes-beacon zero i past heard r h at =
    let same : i ≡ i + 0 = omega arith in
    rw (← same) (record { next = r; at_place = at; told = λ rest. refl })
goes-beacon (suc n) i past heard r h at =
    let same : i + 1 + n ≡ i + suc n = omega arith in
    let first : Goes r (quarters N) (None ∷ None ∷ None ∷ None ∷ []) (Beacon (i + 1)) past heard
    = goes-symbol r (Beacon i) (Beacon (i + 1)) past heard N at (step-N i (omega arith)) in
    rw (no_events-suc n, ← same)
    (goes-then r (quarters N) (flat_map quarters (replicate n N)) (None ∷ None ∷ None ∷ None ∷ []) (no_events n)
    (Beacon (i + 1)) (Beacon (i + 1 + n)) past past heard heard first
    (λ m there. goes-beacon n (i + 1) past heard m (omega arith) there))

-- the elements from the tenth on, with one more
drop-more : (xs : List ℕ) (d k : ℕ) → length xs ≡ k
    → (if nat_lt k 9 then drop 9 xs else drop 9 xs ++ d ∷ []) ≡ drop 9 (xs ++ d ∷ [])
drop-more xs d k e = grind (arith, common_steps, drop_of_length-le, drop-append-le)

pub heard-more : (past : List Bool) (done : List ℕ) (n : ℕ)
    → nibbles_after (length done) (descrambler_after past done) (drop 9 (descrambled_nibbles past done)) (Nibble n)
    ≡ drop 9 (descrambled_nibbles past (done ++ n ∷ []))
heard-more past done n =
    drop-more (descrambled_nibbles past done) (descrambled_nibble (descrambler_after past done) n) (length done)
    (length-descrambled_nibbles past done)
    ∙ ap (drop 9) (sym (descrambled_nibbles-push past done n))

goes-nibbles : (ns done : List ℕ) (closed lead : ℕ) (past : List Bool) (r : Receiver) → length done + length ns ≤ 3056
    → At r (Within closed lead (length done)) (descrambler_after past done) (drop 9 (descrambled_nibbles past done))
    → Goes r (flat_map quarters (map Nibble ns)) (no_events (length ns)) (Within closed lead (length done + length ns))
    (descrambler_after past (done ++ ns)) (drop 9 (descrambled_nibbles past (done ++ ns)))
goes-nibbles [] done closed lead past r h at =
    let same : length done ≡ length done + 0 = omega arith in
    rw (append-nil done, ← same) (record { next = r; at_place = at; told = λ rest. refl })
goes-nibbles (n ∷ ns) done closed lead past r h at =
    let more : List ℕ = done ++ n ∷ [] in
    let one : length more ≡ length done + 1 = length-append done (n ∷ []) in
    let all : more ++ ns ≡ done ++ n ∷ ns = append_assoc done (n ∷ []) ns in
    let same : length more + length ns ≡ length done + suc (length ns) = omega arith in
    let first : Goes r (quarters (Nibble n)) (None ∷ None ∷ None ∷ None ∷ []) (Within closed lead (length done + 1))
    (descrambler_after (descrambler_after past done) (n ∷ []))
    (nibbles_after (length done) (descrambler_after past done) (drop 9 (descrambled_nibbles past done)) (Nibble n))
    = goes-symbol r (Within closed lead (length done)) (Within closed lead (length done + 1)) (descrambler_after past done)
    (drop 9 (descrambled_nibbles past done)) (Nibble n) at (step-nibble closed lead (length done) n (omega arith)) in
    let here : Goes r (quarters (Nibble n)) (None ∷ None ∷ None ∷ None ∷ []) (Within closed lead (length more))
    (descrambler_after past more) (drop 9 (descrambled_nibbles past more))
    = rw (one, descrambler_after-append past done (n ∷ []), ← heard-more past done n) first in
    rw (no_events-suc (length ns), ← all, ← same)
    (goes-then r (quarters (Nibble n)) (flat_map quarters (map Nibble ns)) (None ∷ None ∷ None ∷ None ∷ []) (no_events (length ns))
    (Within closed lead (length more)) (Within closed lead (length more + length ns)) (descrambler_after past more)
    (descrambler_after past (more ++ ns)) (drop 9 (descrambled_nibbles past more)) (drop 9 (descrambled_nibbles past (more ++ ns))) here
    (λ m there. goes-nibbles ns more closed lead past m (omega arith) there))

-- all nibbles of a piece
goes-all : (ns : List ℕ) (closed lead : ℕ) (past : List Bool) (r : Receiver) → length ns ≤ 3056
    → At r (Within closed lead 0) past []
    → Goes r (flat_map quarters (map Nibble ns)) (no_events (length ns)) (Within closed lead (length ns))
    (descrambler_after past ns) (drop 9 (descrambled_nibbles past ns))
goes-all ns closed lead past r h at =
    let same : 0 + length ns ≡ length ns = omega arith in
    let start : At r (Within closed lead 0) (descrambler_after past []) (drop 9 (descrambled_nibbles past []))
    = rw (descrambler_after-nil past, descrambled_nibbles-nil past) at in
    let g : Goes r (flat_map quarters (map Nibble ns)) (no_events (length ns)) (Within closed lead (0 + length ns))
    (descrambler_after past ns) (drop 9 (descrambled_nibbles past ns))
    = goes-nibbles ns [] closed lead past r (omega arith) start in
    rw same at g

goes-closer : (r : Receiver) (closed lead groups : ℕ) (past : List Bool) (heard : List ℕ) (s : Symbol) → IsCloser s
    → At r (Ended closed lead groups) past heard
    → Goes r (quarters s) (None ∷ None ∷ None ∷ Some (view_by lead groups (closer_of s) heard) ∷ []) (Between (closed + 1) 0) past heard
goes-closer r closed lead groups past heard R h at = goes-symbol r (Ended closed lead groups) (Between (closed + 1) 0) past heard R at refl
goes-closer r closed lead groups past heard K h at = goes-symbol r (Ended closed lead groups) (Between (closed + 1) 0) past heard K at refl
goes-closer r closed lead groups past heard S h at = goes-symbol r (Ended closed lead groups) (Between (closed + 1) 0) past heard S at refl
goes-closer r closed lead groups past heard _ h at = absurd h

-- ---- a piece

no_events-join : (a b : ℕ) → no_events a ++ no_events b ≡ no_events (a + b)
no_events-join a b =
    let e : 4 * a + 4 * b ≡ 4 * (a + b) = omega arith in
    replicate-append-replicate (4 * a) (4 * b) None ∙ ap (λ n. replicate n None) e

pub length-piece : (p : Piece) → length (piece_symbols p) ≡ p.lead + (1 + (1 + length p.nibbles)) + 2
length-piece p =
    length-append (open_symbols p.lead p.nibbles) (T ∷ p.closer ∷ [])
    ∙ ap (λ n. n + 2) (length-append (replicate p.lead J) (H ∷ H ∷ map Nibble p.nibbles)
    ∙ omega (arith, length-replicate p.lead J, length-map p.nibbles Nibble))

-- the events of a piece, part by part
piece_told : (lead groups : ℕ) (v : View) (total : ℕ) → total ≡ lead + (1 + (1 + groups)) + 2
    → (no_events lead ++ (no_events 1 ++ (no_events 1 ++ no_events groups))) ++ (no_events 1 ++ None ∷ None ∷ None ∷ Some v ∷ [])
    ≡ replicate (4 * total - 1) None ++ Some v ∷ []
piece_told lead groups v total e =
    let k : ℕ = lead + (1 + (1 + groups)) in
    let few : 4 * k + 7 ≡ 4 * total - 1 = omega arith in
    let front : no_events lead ++ (no_events 1 ++ (no_events 1 ++ no_events groups)) ≡ no_events k
    = ap (λ es. no_events lead ++ (no_events 1 ++ es)) (no_events-join 1 groups)
    ∙ ap (λ es. no_events lead ++ es) (no_events-join 1 (1 + groups))
    ∙ no_events-join lead (1 + (1 + groups)) in
    ap (λ es. es ++ (no_events 1 ++ None ∷ None ∷ None ∷ Some v ∷ [])) front
    ∙ sym (append_assoc (no_events k) (replicate 7 None) (Some v ∷ []))
    ∙ ap (λ es. es ++ Some v ∷ []) (replicate-append-replicate (4 * k) 7 None)
    ∙ ap (λ n. replicate n None ++ Some v ∷ []) few

-- the quarters of a piece, part by part
piece_heard : (lead : ℕ) (ns : List ℕ) (s : Symbol)
    → flat_map quarters (open_symbols lead ns ++ T ∷ s ∷ [])
    ≡ (flat_map quarters (replicate lead J) ++ (quarters H ++ (quarters H ++ flat_map quarters (map Nibble ns)))) ++ (quarters T ++ quarters s)
piece_heard lead ns s =
    flat_map-append quarters (open_symbols lead ns) (T ∷ s ∷ [])
    ∙ ap (λ hs. hs ++ (quarters T ++ quarters s)) (flat_map-append quarters (replicate lead J) (H ∷ H ∷ map Nibble ns))

goes-piece : (p : Piece) (closed : ℕ) (past : List Bool) (before : List ℕ) (r : Receiver) → IsPieceInRange p → closed < 4096
    → At r (Between closed 0) past before
    → Goes r (flat_map quarters (piece_symbols p)) (piece_events past p) (Between (closed + 1) 0)
    (descrambler_after past p.nibbles) (heard_nibbles past p)
goes-piece p closed past before r h few at =
    let lead : ℕ = p.lead in
    let ns : List ℕ = p.nibbles in
    let g : ℕ = length ns in
    let now : List Bool = descrambler_after past ns in
    let heard : List ℕ = heard_nibbles past p in
    let silent : Events = None ∷ None ∷ None ∷ None ∷ [] in
    let told : Events = None ∷ None ∷ None ∷ Some (view_by lead g (closer_of p.closer) heard) ∷ [] in
    let least : 2 ≤ lead = h.least_lead in
    let most : lead ≤ 4096 = h.most_lead in
    let fewest : 9 ≤ g = h.least_nibbles in
    let longest : g ≤ 3056 = h.most_nibbles in
    rw (piece_heard lead ns p.closer, ← piece_told lead g (view_of past p) (length (piece_symbols p)) (length-piece p))
    (goes-then r (flat_map quarters (replicate lead J) ++ (quarters H ++ (quarters H ++ flat_map quarters (map Nibble ns))))
    (quarters T ++ quarters p.closer) (no_events lead ++ (silent ++ (silent ++ no_events g))) (silent ++ told)
    (Within closed lead g) (Between (closed + 1) 0) now now heard heard
    (goes-then r (flat_map quarters (replicate lead J)) (quarters H ++ (quarters H ++ flat_map quarters (map Nibble ns)))
    (no_events lead) (silent ++ (silent ++ no_events g)) (Between closed lead) (Within closed lead g) past now before heard
    (goes-lead lead closed past before r most at)
    (λ a there. goes-then a (quarters H) (quarters H ++ flat_map quarters (map Nibble ns)) silent (silent ++ no_events g)
    (Opened closed lead) (Within closed lead g) past now [] heard
    (goes-symbol a (Between closed lead) (Opened closed lead) past before H there (step-H closed lead least few))
    (λ b opened. goes-then b (quarters H) (flat_map quarters (map Nibble ns)) silent (no_events g)
    (Within closed lead 0) (Within closed lead g) past now [] heard
    (goes-symbol b (Opened closed lead) (Within closed lead 0) past [] H opened refl)
    (λ c within. goes-all ns closed lead past c longest within))))
    (λ d all. goes-then d (quarters T) (quarters p.closer) silent told (Ended closed lead g) (Between (closed + 1) 0) now now heard heard
    (goes-symbol d (Within closed lead g) (Ended closed lead g) now heard T all (step-T closed lead g fewest))
    (λ e ended. goes-closer e closed lead g now heard p.closer h.closer ended)))

-- ---- a burst

run-told : (pieces : List Piece) (rest closed : ℕ) (past : List Bool) (heard : List ℕ) (r : Receiver)
    → closed + length pieces ≤ 4096 → All IsPieceInRange pieces → rest ≤ 4096 → At r (Between closed 0) past heard
    → events_heard r (flat_map quarters (pieces_symbols pieces ++ replicate rest J)) ≡ run_events past pieces rest
run-told [] rest closed past heard r few h most at =
    let g : Goes r (flat_map quarters (replicate rest J)) (no_events rest) (Between closed rest) past heard
    = goes-lead rest closed past heard r most at in
    ap (events_heard r) (sym (append-nil (flat_map quarters (replicate rest J))))
    ∙ g.told []
    ∙ append-nil (no_events rest)
run-told (p ∷ ps) rest closed past heard r few h most at =
    let g : Goes r (flat_map quarters (piece_symbols p)) (piece_events past p) (Between (closed + 1) 0)
    (descrambler_after past p.nibbles) (heard_nibbles past p)
    = goes-piece p closed past heard r (h 0 p (omega arith)) (omega arith) at in
    let others : List Symbol = pieces_symbols ps ++ replicate rest J in
    ap (λ ss. events_heard r (flat_map quarters ss)) (append_assoc (piece_symbols p) (pieces_symbols ps) (replicate rest J))
    ∙ ap (events_heard r) (flat_map-append quarters (piece_symbols p) others)
    ∙ g.told (flat_map quarters others)
    ∙ ap (λ es. piece_events past p ++ es)
    (run-told ps rest (closed + 1) (descrambler_after past p.nibbles) (heard_nibbles past p) g.next (omega arith)
    (λ k d l. h (suc k) d (omega arith)) most g.at_place)

-- a receiver that hears nothing, and one at the beginning of a burst
abbrev pub outside : Receiver → Receiver
outside r = record r { burst = Outside }

abbrev pub begun : Receiver → Receiver
begun r = record r { class = Unread; burst = Reading None true start_phase }

silence : (r : Receiver) → receive_step r Nothing false ≡ outside r
unfolding receive_step
silence r = refl

silence-none : (r : Receiver) → closing_in r Nothing false ≡ None
unfolding closing_in
silence-none r = refl

pub entering : (r : Receiver) (symbols : List Symbol)
    → events_heard (outside r) (flat_map quarters symbols) ≡ events_heard (begun r) (flat_map quarters symbols)
unfolding receive_step closing_in
entering r [] = refl
entering r (s ∷ ss) = refl

pub at-begun : (r : Receiver) → At (begun r) start_phase r.history r.nibbles
at-begun r = record { class = Unread; last = None; fresh = true; is = refl }

burst-told : (r : Receiver) (symbols : List Symbol) (burst : IsBurst symbols)
    → events_heard (begun r) (flat_map quarters symbols) ≡ burst_events r.history burst
burst-told r symbols (beacon h) =
    let past : List Bool = r.history in
    let heard : List ℕ = r.nibbles in
    let first : Goes (begun r) (quarters N) (None ∷ None ∷ None ∷ None ∷ []) (Beacon 1) past heard
    = goes-symbol (begun r) start_phase (Beacon 1) past heard N (at-begun r) refl in
    let all : Goes (begun r) (quarters N ++ flat_map quarters (replicate 4 N)) (None ∷ None ∷ None ∷ None ∷ no_events 4) (Beacon 5) past heard
    = goes-then (begun r) (quarters N) (flat_map quarters (replicate 4 N)) (None ∷ None ∷ None ∷ None ∷ []) (no_events 4)
    (Beacon 1) (Beacon 5) past past heard heard first (λ m there. goes-beacon 4 1 past heard m (omega arith) there) in
    rw h (all.told [])
burst-told r symbols (run h) =
    rw (h.spelled) (run-told h.pieces h.rest 0 r.history r.nibbles (begun r) (omega (arith, h.most_pieces)) h.in_range h.most_rest (at-begun r))
burst-told r symbols (bare h) =
    rw (h.3) (run-told [] h.0 0 r.history r.nibbles (begun r) (omega arith) (All-nil IsPieceInRange) h.2 (at-begun r))

pub pieces_are_handed_on : PiecesAreHandedOn
pieces_are_handed_on r symbols burst =
    tick r (outside r) Nothing None (flat_map quarters symbols) (silence-none r) (silence r)
    ∙ ap (λ es. None ∷ es) (entering r symbols ∙ burst-told r symbols burst)
