-- The counts, the views and the history of the descrambler after one item, one piece or one nibble more.
use Rattle.std.proofs.Common.{◌≡◌, ℕ, zero, suc, ◌+◌, ◌<◌, ◌≤◌, Bool, true, false, cond, List, [], ◌∷◌, ◌++◌, length, drop, nat_lt, if◌then◌else◌, refl, sym, ap, ◌∙◌, arith, append_assoc}
use Rattle.std.specs.Prelude.{count_by}
use Rattle.std.specs.List.{flat_map}
use Rattle.std.proofs.lemmas.Bool.{ltb-true, ltb-false}
use Rattle.std.proofs.lemmas.List.{append-nil}
use Rattle.std.proofs.lemmas.List.Concat.{flat_map-append}
use Rattle.std.proofs.lemmas.List.Sums.{sum_by-append}
use Rattle.t1s_scramble.specs.Scrambled.{start_history, descrambled_nibble, descrambled_nibbles, descrambler_after}
use Rattle.t1s_scramble.proofs.Nibbles.{descrambler_after-nil, descrambler_after-append, descrambled_nibbles-nil, descrambled_nibbles-push, length-descrambled_nibbles}
use Rattle.t1s_grammar.specs.Burst.{Piece}
use Rattle.t1s_grammar.specs.Prefixes.{Beginning, whole_pieces, last_nibbles}
use Rattle.t1s_pcs_rx.specs.Views.{View, view_of}
use Rattle.t1s_capture.specs.Captures.{CaptureItem, no_symbols, item_ticks, ticks_of}
use Rattle.t1s_capture.specs.Pieces.{pieces_nibbles, nibbles_in, item_symbols, item_nibbles, item_pieces, items_history, piece_views, item_views, views_of, is_good, is_beacon, is_run, is_bare, is_torn, counts_with}
use Rattle.t1s_capture.specs.Stands.{piece_nibbles, views_at}
use Rattle.t1s_capture.proofs.Texts.{ticks_of-push}

-- ---- histories

pub history_push : (items : List CaptureItem) (x : CaptureItem) → items_history (items ++ x ∷ []) ≡ descrambler_after (items_history items) (item_nibbles x)
unfolding items_history
history_push items x =
    ap (λ (ns : List ℕ). descrambler_after start_history ns)
    (flat_map-append item_nibbles items (x ∷ []) ∙ ap (λ (ns : List ℕ). flat_map item_nibbles items ++ ns) (append-nil (item_nibbles x)))
    ∙ descrambler_after-append start_history (flat_map item_nibbles items) (item_nibbles x)

pub history_none : items_history [] ≡ start_history
unfolding items_history
history_none = descrambler_after-nil start_history

-- the history after a tail without symbols
pub history_rests : (past : List Bool) → descrambler_after past (nibbles_in no_symbols) ≡ past
history_rests past = descrambler_after-nil past

pub pieces_nibbles-push : (ps : List Piece) (p : Piece) → pieces_nibbles (ps ++ p ∷ []) ≡ pieces_nibbles ps ++ p.nibbles
pieces_nibbles-push ps p =
    flat_map-append (λ (q : Piece). q.nibbles) ps (p ∷ []) ∙ ap (λ (ns : List ℕ). pieces_nibbles ps ++ ns) (append-nil p.nibbles)

-- a nibble more
pub history_more : (past : List Bool) (xs ns : List ℕ) (n : ℕ) →
    descrambler_after (descrambler_after past (xs ++ ns)) (n ∷ []) ≡ descrambler_after past (xs ++ (ns ++ n ∷ []))
history_more past xs ns n =
    sym (descrambler_after-append past (xs ++ ns) (n ∷ [])) ∙ ap (λ (ys : List ℕ). descrambler_after past ys) (append_assoc xs ns (n ∷ []))

-- ---- the nibbles that are kept

pub no_nibbles : (past : List Bool) (b : Beginning) → last_nibbles b ≡ [] → piece_nibbles past b ≡ []
no_nibbles past b e =
    ap (λ (ns : List ℕ). drop 9 (descrambled_nibbles (descrambler_after past (pieces_nibbles (whole_pieces b))) ns)) e
    ∙ ap (λ (ns : List ℕ). drop 9 ns) (descrambled_nibbles-nil (descrambler_after past (pieces_nibbles (whole_pieces b))))

drop_few : (k : ℕ) (xs : List ℕ) (x : ℕ) → length xs < k → drop k (xs ++ x ∷ []) ≡ drop k xs
drop_few zero xs x h = absurd (omega arith)
drop_few (suc zero) [] x h = refl
drop_few (suc (suc k)) [] x h = refl
drop_few (suc k) (y ∷ xs) x h = drop_few k xs x (omega arith)

drop_many : (k : ℕ) (xs : List ℕ) (x : ℕ) → k ≤ length xs → drop k (xs ++ x ∷ []) ≡ drop k xs ++ x ∷ []
drop_many zero xs x h = refl
drop_many (suc k) [] x h = absurd (omega arith)
drop_many (suc k) (y ∷ xs) x h = drop_many k xs x (omega arith)

drop_push : (k : ℕ) (xs : List ℕ) (x : ℕ) → drop k (xs ++ x ∷ []) ≡ (if nat_lt (length xs) k then drop k xs else drop k xs ++ x ∷ [])
drop_push k xs x = by_length (nat_lt (length xs) k) refl
  where
    by_length : (p : Bool) → nat_lt (length xs) k ≡ p → drop k (xs ++ x ∷ []) ≡ (if p then drop k xs else drop k xs ++ x ∷ [])
    by_length true e = drop_few k xs x (ltb-true (length xs) k e)
    by_length false e = drop_many k xs x (ltb-false (length xs) k e)

pub nibbles_more : (past : List Bool) (ns : List ℕ) (n : ℕ) →
    drop 9 (descrambled_nibbles past (ns ++ n ∷ []))
    ≡ (if nat_lt (length ns) 9 then drop 9 (descrambled_nibbles past ns)
    else drop 9 (descrambled_nibbles past ns) ++ descrambled_nibble (descrambler_after past ns) n ∷ [])
nibbles_more past ns n =
    ap (λ (xs : List ℕ). drop 9 xs) (descrambled_nibbles-push past ns n)
    ∙ drop_push 9 (descrambled_nibbles past ns) (descrambled_nibble (descrambler_after past ns) n)
    ∙ ap (λ (k : ℕ). if nat_lt k 9 then drop 9 (descrambled_nibbles past ns)
    else drop 9 (descrambled_nibbles past ns) ++ descrambled_nibble (descrambler_after past ns) n ∷ []) (length-descrambled_nibbles past ns)

-- ---- views

pub piece_views-none : (past : List Bool) → piece_views past [] ≡ []
unfolding piece_views
piece_views-none past = refl

pub piece_views-push : (ps : List Piece) (past : List Bool) (p : Piece) →
    piece_views past (ps ++ p ∷ []) ≡ piece_views past ps ++ view_of (descrambler_after past (pieces_nibbles ps)) p ∷ []
unfolding piece_views
piece_views-push [] past p = ap (λ (h : List Bool). view_of h p ∷ []) (sym (descrambler_after-nil past))
piece_views-push (q ∷ ps) past p =
    ap (λ (vs : List View). view_of past q ∷ vs)
    (piece_views-push ps (descrambler_after past q.nibbles) p
    ∙ ap (λ (h : List Bool). piece_views (descrambler_after past q.nibbles) ps ++ view_of h p ∷ []) (sym (descrambler_after-append past q.nibbles (pieces_nibbles ps))))

item_views-push : (items : List CaptureItem) (past : List Bool) (x : CaptureItem) →
    item_views past (items ++ x ∷ []) ≡ item_views past items ++ piece_views (descrambler_after past (flat_map item_nibbles items)) (item_pieces x)
unfolding item_views
item_views-push [] past x =
    append-nil (piece_views past (item_pieces x)) ∙ ap (λ (h : List Bool). piece_views h (item_pieces x)) (sym (descrambler_after-nil past))
item_views-push (y ∷ items) past x =
    ap (λ (vs : List View). piece_views past (item_pieces y) ++ vs)
    (item_views-push items (descrambler_after past (item_nibbles y)) x
    ∙ ap (λ (h : List Bool). item_views (descrambler_after past (item_nibbles y)) items ++ piece_views h (item_pieces x)) (sym (descrambler_after-append past (item_nibbles y) (flat_map item_nibbles items))))
    ∙ sym (append_assoc (piece_views past (item_pieces y)) (item_views (descrambler_after past (item_nibbles y)) items) _)

pub views_push : (items : List CaptureItem) (x : CaptureItem) → views_of (items ++ x ∷ []) ≡ views_at items (item_symbols x)
unfolding items_history
views_push items x = item_views-push items start_history x

pub views_rest : (items : List CaptureItem) → views_at items no_symbols ≡ views_of items
views_rest items = ap (λ (vs : List View). views_of items ++ vs) (piece_views-none (items_history items)) ∙ append-nil (views_of items)

pub views_none : views_at [] no_symbols ≡ []
unfolding item_views
views_none = views_rest []

-- after an item more
pub views_after : (items : List CaptureItem) (x : CaptureItem) → views_at (items ++ x ∷ []) no_symbols ≡ views_at items (item_symbols x)
views_after items x = views_rest (items ++ x ∷ []) ∙ views_push items x

-- ---- counts

pub count_push : {X : Type 0} (f : X → Bool) (xs : List X) (x : X) → count_by f (xs ++ x ∷ []) ≡ count_by f xs + cond (f x) 1 0
count_push f xs x = omega (arith, sum_by-append (λ y. cond (f y) 1 0) xs (x ∷ []))

-- the counts of these items with one more, by what it adds
pub counts_push : (items : List CaptureItem) (x : CaptureItem) (vs : List View) →
    counts_with (items ++ x ∷ []) vs ≡ record {
      ticks = ticks_of items + item_ticks x;
      beacons = count_by is_beacon items + cond (is_beacon x) 1 0;
      runs = count_by is_run items + cond (is_run x) 1 0;
      bare = count_by is_bare items + cond (is_bare x) 1 0;
      torn = count_by is_torn items + cond (is_torn x) 1 0;
      pieces = length vs;
      good = count_by is_good vs;
    }
counts_push items x vs =
    let a = ticks_of-push items x in
    let b = count_push is_beacon items x in
    let c = count_push is_run items x in
    let d = count_push is_bare items x in
    let e = count_push is_torn items x in
    cc
