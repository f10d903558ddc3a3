-- A piece that is handed out at an octet of a capture is one that the capture shows: what octets show, more octets show too.
use Rattle.std.proofs.Common.{◌≡◌, refl, ℕ, ◌+◌, ◌*◌, Bool, true, false, List, [], ◌∷◌, ◌++◌, length, sym, ap, ap₂, subst, ◌∙◌, arith, append_assoc, length-append, inl, inr, if◌then◌else◌}
use Rattle.std.specs.List.{flat_map}
use Rattle.std.specs.Prelude.{◌⊎◌, Contains, Result, Ok, Err, ◌==◌, ◌&&◌}
use Rattle.std.proofs.lemmas.Bool.{eqb-true}
use Rattle.std.proofs.lemmas.List.{append-nil}
use Rattle.std.proofs.lemmas.List.Sums.{sum_by-append}
use Rattle.std.proofs.lemmas.List.Elements.{Contains-append_left, Contains-append_right, Contains-push}
use Rattle.t1s_symbols.specs.declared.Symbol.{Symbol}
use Rattle.t1s_symbols.specs.declared.Symbol.TheVariants.{Nibble, J, H, N}
use Rattle.t1s_scramble.specs.Scrambled.{start_history, descrambler_after}
use Rattle.t1s_scramble.proofs.Nibbles.{descrambler_after-append, descrambler_after-nil}
use Rattle.t1s_grammar.specs.declared.place.Phase.{Phase}
use Rattle.t1s_grammar.specs.declared.place.PlaceFault.{PlaceFault}
use Rattle.t1s_grammar.specs.declared.place.PlaceFault.TheVariants.{NotHere, TooLong as OneTooMany}
use Rattle.t1s_grammar.specs.Burst.{Piece, piece_symbols, pieces_symbols}
use Rattle.t1s_grammar.specs.Longer.{with_symbol, piece_of}
use Rattle.t1s_grammar.specs.PlaceTable.{place_step, ends_burst}
use Rattle.t1s_grammar.specs.Prefixes.{Beginning, phase_of, whole_pieces, beacon, between, opened, within, ended as ended_piece}
use Rattle.t1s_grammar.proofs.Longer.{none_before, refused-taken}
use Rattle.t1s_pcs_rx.specs.Views.{View, view_of}
use Rattle.t1s_pcs_rx.proofs.Bursts.{length-piece}
use Rattle.t1s_capture.specs.declared.items.Why.TheVariants.{CountZero, GapTwice, Place}
use Rattle.t1s_capture.specs.declared.stage.CountSoFar.{CountSoFar}
use Rattle.t1s_capture.specs.declared.stage.CountSoFar.TheVariants.{Nothing, One, Two, Three}
use Rattle.t1s_capture.specs.Captures.{CaptureItem, Gap, Burst, Torn, IsCaptureOf, no_symbols, symbol_count, item_ticks, ticks_of}
use Rattle.t1s_capture.specs.DecoderTable.{octet_kind, count_of}
use Rattle.t1s_capture.specs.DecodedItems.{PieceItem, IsItemOctet}
use Rattle.t1s_capture.specs.declared.stage.OctetKind.{OctetKind}
use Rattle.t1s_capture.specs.declared.stage.OctetKind.TheVariants.{Gap as GapOctet, End, Torn as TornOctet, Known, Unknown}
use Rattle.t1s_capture.specs.Pieces.{item_pieces, item_nibbles, items_history, pieces_nibbles}
use Rattle.t1s_capture.specs.PrefixParts.{Tail, in_gap, in_burst, in_blur, after_torn, ended, PrefixParts, in_magic, at_version, at_node, with_items}
use Rattle.t1s_capture.specs.Stands.{needs_blur, ends_with_gap}
use Rattle.t1s_capture.proofs.NextParts.{NextParts, next_is, fails, next_parts, next_in_gap, next_in_blur, next_by_symbol, next_in_burst, next_after_torn, next_in_tail}
use Rattle.t1s_capture.proofs.ReadBack.{reads, reads_from, reads-append}
use Rattle.t1s_capture.proofs.Whole.{reads-made, capture_made}
use Rattle.t1s_reception.specs.ShownPieces.{ShownPiece, shown_pieces, shown_from, shown_in}
use Rattle.t1s_reception.proofs.ItemOctets.{behind, split}
use Rattle.t1s_reception.proofs.TakenSymbols.{shown_pieces-push}

-- ---- one item more

shown_from-push : (xs : List CaptureItem) (x : CaptureItem) (start : ℕ) (past : List Bool)
    → shown_from start past (xs ++ x ∷ [])
    ≡ shown_from start past xs ++ shown_pieces (start + ticks_of xs) (descrambler_after past (flat_map item_nibbles xs)) (item_pieces x)
shown_from-push [] x start past =
    let same : start ≡ start + ticks_of [] = omega arith in
    append-nil (shown_pieces start past (item_pieces x))
    ∙ ap₂ (λ (n : ℕ) (h : List Bool). shown_pieces n h (item_pieces x)) same (sym (descrambler_after-nil past))
shown_from-push (y ∷ ys) x start past =
    let first : List ShownPiece = shown_pieces start past (item_pieces y) in
    let next : ℕ = start + item_ticks y in
    let later : List Bool = descrambler_after past (item_nibbles y) in
    let same : start + item_ticks y + ticks_of ys ≡ start + ticks_of (y ∷ ys) = omega (arith, sum_by-append item_ticks (y ∷ []) ys) in
    ap (λ (zs : List ShownPiece). first ++ zs)
    (shown_from-push ys x next later
    ∙ ap₂ (λ (n : ℕ) (h : List Bool). shown_from next later ys ++ shown_pieces n h (item_pieces x)) same
    (sym (descrambler_after-append past (item_nibbles y) (flat_map item_nibbles ys))))
    ∙ sym (append_assoc first (shown_from next later ys)
    (shown_pieces (start + ticks_of (y ∷ ys)) (descrambler_after past (flat_map item_nibbles (y ∷ ys))) (item_pieces x)))

shown_in-push : (xs : List CaptureItem) (x : CaptureItem)
    → shown_in (xs ++ x ∷ []) ≡ shown_in xs ++ shown_pieces (ticks_of xs) (items_history xs) (item_pieces x)
unfolding items_history
shown_in-push xs x =
    let same : 0 + ticks_of xs ≡ ticks_of xs = omega arith in
    shown_from-push xs x 0 start_history
    ∙ ap (λ (n : ℕ). shown_in xs ++ shown_pieces n (descrambler_after start_history (flat_map item_nibbles xs)) (item_pieces x)) same

-- ---- what octets show that begin a capture

abbrev tail_shown : List CaptureItem → Tail → List ShownPiece
tail_shown items (in_gap count) = []
tail_shown items (in_burst b) = shown_pieces (ticks_of items) (items_history items) (whole_pieces b)
tail_shown items (in_blur b count) = shown_pieces (ticks_of items) (items_history items) (whole_pieces b)
tail_shown items after_torn = []
tail_shown items ended = []

abbrev shows : PrefixParts → List ShownPiece
shows (in_magic n) = []
shows at_version = []
shows at_node = []
shows (with_items node items tail) = shown_in items ++ tail_shown items tail

-- this piece is among what they show, or they are refused
abbrev Shows : ShownPiece → NextParts → Type 0
Shows p (Ok f) = Contains (shows f) p
Shows p (Err why) = Unit {0}

-- a beginning without a symbol has no whole piece
no_pieces : (b : Beginning) → (symbol_count b == 0) ≡ true → (ps : List Piece) → whole_pieces b ≡ ps → ps ≡ []
no_pieces b none [] e = refl
no_pieces b none (p ∷ ps) e =
    let zero : symbol_count b ≡ 0 = eqb-true (symbol_count b) 0 none in
    let all : symbol_count b ≡ length (pieces_symbols (p ∷ ps) ++ behind b) =
    ap length (split b) ∙ ap (λ (zs : List Piece). length (pieces_symbols zs ++ behind b)) e in
    absurd (omega (
      arith,
      zero,
      all,
      length-append (pieces_symbols (p ∷ ps)) (behind b),
      length-append (piece_symbols p) (pieces_symbols ps),
      length-piece p,
    ))

-- a symbol that is taken ends a piece, or leaves the whole pieces as they are
grown : (b : Beginning) (s : Symbol) (q : Phase) → place_step (phase_of b) s ≡ Ok q
    → (whole_pieces (with_symbol b s) ≡ whole_pieces b) ⊎ ((p : Piece) × (whole_pieces (with_symbol b s) ≡ whole_pieces b ++ p ∷ []))
grown (beacon count) s q e = inl refl
grown (between ps lead) J q e = inl refl
grown (between ps lead) H q e = inl refl
grown (between ps lead) N q e = inl (sym (none_before ps lead q e).0)
grown (between ps lead) _ q e = absurd (refused-taken NotHere q e)
grown (opened ps lead) s q e = inl refl
grown (within ps lead ns) (Nibble n) q e = inl refl
grown (within ps lead ns) _ q e = inl refl
grown (ended_piece ps lead ns) s q e = inr (piece_of lead ns s, refl)

module _ (p : ShownPiece) (node : ℕ) (items : List CaptureItem) where
  -- an item ends
  closing : (x : CaptureItem) → Contains (shown_in items ++ shown_pieces (ticks_of items) (items_history items) (item_pieces x)) p
      → Contains (shown_in (items ++ x ∷ []) ++ []) p
  closing x c =
      subst (λ (zs : List ShownPiece). Contains (zs ++ []) p) (sym (shown_in-push items x))
      (Contains-append_left (shown_in items ++ shown_pieces (ticks_of items) (items_history items) (item_pieces x)) [] p c)

  without : (b : Beginning) → (symbol_count b == 0) ≡ true
      → Contains (shown_in items ++ shown_pieces (ticks_of items) (items_history items) (whole_pieces b)) p → Contains (shown_in items ++ []) p
  without b none c =
      subst (λ (zs : List Piece). Contains (shown_in items ++ shown_pieces (ticks_of items) (items_history items) zs) p)
      (no_pieces b none (whole_pieces b) refl) c

  gap_on : (count : CountSoFar) (d : ℕ) → Contains (shown_in items ++ []) p → Shows p (next_in_gap node items count d)
  gap_on Nothing d c = c
  gap_on (One a) d c = c
  gap_on (Two a b) d c = c
  gap_on (Three a b e) d c = by_test (count_of a b e d == 0)
    where
      by_test : (z : Bool) → Shows p (if z then fails CountZero else next_is (with_items node (items ++ Gap (count_of a b e d) ∷ []) (in_burst no_symbols)))
      by_test true = tt
      by_test false = closing (Gap (count_of a b e d)) c

  module _ (b : Beginning) (c : Contains (shown_in items ++ shown_pieces (ticks_of items) (items_history items) (whole_pieces b)) p) where
    blur_on : (count : CountSoFar) (d : ℕ) → Shows p (next_in_blur node items b count d)
    blur_on Nothing d = c
    blur_on (One x) d = c
    blur_on (Two x y) d = c
    blur_on (Three x y z) d = by_test (needs_blur b && (count_of x y z d == 0))
      where
        by_test : (w : Bool) → Shows p (if w then fails CountZero else next_is (with_items node (items ++ Torn b (count_of x y z d) ∷ []) after_torn))
        by_test true = tt
        by_test false = closing (Torn b (count_of x y z d)) c

    symbol_on : (s : Symbol) → Shows p (next_in_burst (Known s) node items b)
    symbol_on s = by_place (place_step (phase_of b) s) refl
      where
        more : (whole_pieces (with_symbol b s) ≡ whole_pieces b) ⊎ ((r : Piece) × (whole_pieces (with_symbol b s) ≡ whole_pieces b ++ r ∷ []))
            → Contains (shown_in items ++ shown_pieces (ticks_of items) (items_history items) (whole_pieces (with_symbol b s))) p
        more (inl same) =
            subst (λ (zs : List Piece). Contains (shown_in items ++ shown_pieces (ticks_of items) (items_history items) zs) p) (sym same) c
        more (inr one) =
            let before : List ShownPiece = shown_pieces (ticks_of items) (items_history items) (whole_pieces b) in
            let last : ShownPiece = record {
              start = ticks_of items + 4 * length (pieces_symbols (whole_pieces b));
              view = view_of (descrambler_after (items_history items) (pieces_nibbles (whole_pieces b))) one.0;
            } in
            let pushed = shown_pieces-push (ticks_of items) (items_history items) (whole_pieces b) one.0 in
            subst (λ (zs : List ShownPiece). Contains zs p)
            (append_assoc (shown_in items) before (last ∷ [])
            ∙ ap (λ (zs : List ShownPiece). shown_in items ++ zs)
            (sym (ap (shown_pieces (ticks_of items) (items_history items)) one.1 ∙ pushed)))
            (Contains-append_left (shown_in items ++ before) (last ∷ []) p c)

        by_place : (x : Result Phase PlaceFault) → place_step (phase_of b) s ≡ x → Shows p (next_by_symbol node items b s x)
        by_place (Ok q) e = more (grown b s q e)
        by_place (Err OneTooMany) e = tt
        by_place (Err NotHere) e = tt

    burst_on : (kind : OctetKind) → Shows p (next_in_burst kind node items b)
    burst_on GapOctet = by_test (ends_burst (phase_of b)) (symbol_count b == 0) (ends_with_gap items) refl
      where
        by_test : (whole none gap : Bool) → (symbol_count b == 0) ≡ none
            → Shows p (if whole then next_is (with_items node (items ++ Burst b ∷ []) (in_gap Nothing))
            else (if none then (if gap then fails GapTwice else next_is (with_items node items (in_gap Nothing))) else fails Place))
        by_test true none gap e = closing (Burst b) c
        by_test false true true e = tt
        by_test false true false e = without b e c
        by_test false false gap e = tt
    burst_on End = by_test (ends_burst (phase_of b)) (symbol_count b == 0) refl
      where
        by_test : (whole none : Bool) → (symbol_count b == 0) ≡ none
            → Shows p (if whole then next_is (with_items node (items ++ Burst b ∷ []) ended)
            else (if none then next_is (with_items node items ended) else fails Place))
        by_test true none e = closing (Burst b) c
        by_test false true e = without b e c
        by_test false false e = tt
    burst_on TornOctet = c
    burst_on (Known s) = symbol_on s
    burst_on Unknown = tt

  torn_on : (kind : OctetKind) → Contains (shown_in items ++ []) p → Shows p (next_after_torn kind node items)
  torn_on GapOctet c = c
  torn_on End c = c
  torn_on TornOctet c = tt
  torn_on (Known s) c = tt
  torn_on Unknown c = tt

  tail_on : (tail : Tail) (o : ℕ) → Contains (shown_in items ++ tail_shown items tail) p → Shows p (next_in_tail tail node items o)
  tail_on (in_gap count) o c = gap_on count o c
  tail_on (in_burst b) o c = burst_on b c (octet_kind o)
  tail_on (in_blur b count) o c = blur_on b c count o
  tail_on after_torn o c = torn_on (octet_kind o) c
  tail_on ended o c = tt

parts_on : (p : ShownPiece) (f : PrefixParts) (o : ℕ) → Contains (shows f) p → Shows p (next_parts f o)
parts_on p (in_magic n) o c = absurd (omega (arith, c.1))
parts_on p at_version o c = absurd (omega (arith, c.1))
parts_on p at_node o c = absurd (omega (arith, c.1))
parts_on p (with_items node items tail) o c = tail_on p node items tail o c

-- what octets show, more octets show too
shows_on : (p : ShownPiece) (os : List ℕ) (r : NextParts) → Shows p r → Shows p (reads_from r os)
shows_on p [] r c = c
shows_on p (o ∷ os) (Ok f) c = shows_on p os (next_parts f o) (parts_on p f o c)
shows_on p (o ∷ os) (Err why) c = shows_on p os (Err why) tt

-- ---- the piece of an octet

pub only_shown : (octets : List ℕ) (node : ℕ) (items : List CaptureItem) → IsCaptureOf octets node items
    → (before : List ℕ) (octet : ℕ) (rest : List ℕ) (p : ShownPiece) → octets ≡ before ++ octet ∷ rest
    → IsItemOctet before octet (PieceItem p.start p.view) → Contains (shown_in items) p
only_shown octets node items capture before octet rest p text h =
    let f : PrefixParts = with_items h.node h.items (in_burst (between (h.pieces ++ h.piece ∷ []) 0)) in
    let shown : List ShownPiece = shown_pieces (ticks_of h.items) (items_history h.items) h.pieces in
    let here : Contains (shown_in h.items ++ shown_pieces (ticks_of h.items) (items_history h.items) (h.pieces ++ h.piece ∷ [])) p =
    subst (λ (zs : List ShownPiece). Contains (shown_in h.items ++ zs) p) (sym (shown_pieces-push (ticks_of h.items) (items_history h.items) h.pieces h.piece))
    (Contains-append_right (shown_in h.items) _ p
    (subst (Contains _)
    (ap₂ (λ (n : ℕ) (v : View). record { start = n; view = v }) (sym h.starts) (sym h.shows))
    (Contains-push shown (record {
      start = ticks_of h.items + 4 * length (pieces_symbols h.pieces);
      view = view_of (descrambler_after (items_history h.items) (pieces_nibbles h.pieces)) h.piece;
    })))) in
    let reading : reads_from (next_is f) rest ≡ next_is (with_items node items ended) =
    sym (ap reads (text ∙ sym (append_assoc before (octet ∷ []) rest))
    ∙ reads-append (next_is (in_magic 0)) (before ++ octet ∷ []) rest
    ∙ ap (λ (r : NextParts). reads_from r rest) (reads-made (before ++ octet ∷ []) f h.made))
    ∙ reads-made octets (with_items node items ended) (capture_made octets node items capture) in
    subst (λ (zs : List ShownPiece). Contains zs p) (append-nil (shown_in items))
    (subst (Shows p) reading (shows_on p rest (next_is f) here))
