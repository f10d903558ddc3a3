-- Each piece that a capture shows is handed out at the octet of its closer.
use Rattle.std.proofs.Common.{◌≡◌, refl, ℕ, ◌+◌, ◌*◌, ◌≤◌, Bool, List, [], ◌∷◌, ◌++◌, length, map, sym, ap, ap₂, subst, ◌∙◌, arith, append_assoc, length-append}
use Rattle.std.specs.Prelude.{All, ◌^◌}
use Rattle.std.specs.List.{flat_map}
use Rattle.std.proofs.lemmas.List.{append-nil, map-append}
use Rattle.std.proofs.lemmas.List.Concat.{flat_map-append}
use Rattle.std.proofs.lemmas.List.Elements.{All-append, All-cons}
use Rattle.t1s_symbols.specs.declared.Symbol.{Symbol}
use Rattle.t1s_symbols.specs.GroupTable.{group}
use Rattle.t1s_scramble.specs.Scrambled.{start_history, descrambler_after}
use Rattle.t1s_scramble.proofs.Nibbles.{descrambler_after-append, descrambler_after-nil}
use Rattle.t1s_grammar.specs.Burst.{Piece, piece_symbols, pieces_symbols}
use Rattle.t1s_grammar.specs.Prefixes.{Beginning, beginning_symbols, ArePieces, IsBeginning, between}
use Rattle.t1s_grammar.proofs.Longer.{All-nil, more_pieces}
use Rattle.t1s_pcs_rx.specs.Views.{View, view_of}
use Rattle.t1s_capture.specs.Captures.{CaptureItem, Torn, IsItemList, IsCaptureOf, is_gap, symbol_octets, item_octets, item_ticks, begun_text, ticks_of}
use Rattle.t1s_capture.specs.DecodedItems.{IsPieceOctet}
use Rattle.t1s_capture.specs.Pieces.{item_symbols, item_pieces, item_nibbles, items_history, pieces_nibbles, piece_views, item_views, views_of}
use Rattle.t1s_capture.proofs.Counted.{history_push, history_none, pieces_nibbles-push}
use Rattle.t1s_capture.proofs.Sound.{torn_item_of}
use Rattle.t1s_capture.proofs.Texts.{last_item, list_before, list_like, ticks_of-push}
use Rattle.t1s_reception.specs.HandedOut.{IsHandedOut}
use Rattle.t1s_reception.specs.ShownPieces.{ShownPiece, shown_pieces, shown_from, shown_in}
use Rattle.t1s_reception.proofs.ItemOctets.{behind, split, in_whole, in_torn, whole_fit, before_fit, up_to_end, closes, blur_of, HasPieces, has_pieces, octets_are, symbols_fit, text_around}

-- ---- a piece in a capture

module _ (octets : List ℕ) (node : ℕ) (xs ys : List CaptureItem) (x : CaptureItem) (capture : IsCaptureOf octets node (xs ++ x ∷ ys))
    (short : length octets ≤ 2 ^ 30) (ps qs : List Piece) (p : Piece) (among : item_pieces x ≡ (ps ++ p ∷ []) ++ qs) where
  abbrev c : Beginning
  c = between (ps ++ p ∷ []) 0

  abbrev front : List ℕ
  front = begun_text node xs ++ map group (up_to_end ps p)

  abbrev later : List ℕ
  later = (map group (pieces_symbols qs ++ behind (item_symbols x)) ++ blur_of x) ++ (flat_map item_octets ys ++ 0x21 ∷ [])

  has : HasPieces x
  has = has_pieces x ps qs p among

  up_to_here : IsItemList (xs ++ x ∷ [])
  up_to_here = list_before (xs ++ x ∷ []) ys (subst IsItemList (sym (append_assoc xs (x ∷ []) ys)) capture.valid)

  c_fits : IsBeginning c
  c_fits =
      let all = whole_fit (item_symbols x) (symbols_fit x has (last_item xs x up_to_here)) in
      (before_fit (ps ++ p ∷ []) qs (subst (λ (zs : List Piece). ArePieces zs 4096) among all), omega arith)

  not_gap : (z : CaptureItem) → HasPieces z → is_gap z ≡ is_gap (Torn c 1)
  not_gap _ in_whole = refl
  not_gap _ in_torn = refl

  list_fits : IsItemList (xs ++ Torn c 1 ∷ [])
  list_fits = list_like xs x (Torn c 1) (not_gap x has) (torn_item_of c c_fits) up_to_here

  c_symbols : beginning_symbols c ≡ up_to_end ps p ++ p.closer ∷ []
  c_symbols = append-nil (pieces_symbols (ps ++ p ∷ [])) ∙ closes ps p

  c_octets : symbol_octets c ≡ map group (up_to_end ps p) ++ group p.closer ∷ []
  c_octets = ap (map group) c_symbols ∙ map-append group (up_to_end ps p) (p.closer ∷ [])

  x_symbols : beginning_symbols (item_symbols x) ≡ (up_to_end ps p ++ p.closer ∷ []) ++ (pieces_symbols qs ++ behind (item_symbols x))
  x_symbols =
      split (item_symbols x)
      ∙ ap (λ (zs : List Piece). pieces_symbols zs ++ behind (item_symbols x)) among
      ∙ ap (λ (ss : List Symbol). ss ++ behind (item_symbols x)) (flat_map-append piece_symbols (ps ++ p ∷ []) qs)
      ∙ append_assoc (pieces_symbols (ps ++ p ∷ [])) (pieces_symbols qs) (behind (item_symbols x))
      ∙ ap (λ (ss : List Symbol). ss ++ (pieces_symbols qs ++ behind (item_symbols x))) (closes ps p)

  x_octets : item_octets x
      ≡ (map group (up_to_end ps p) ++ group p.closer ∷ []) ++ (map group (pieces_symbols qs ++ behind (item_symbols x)) ++ blur_of x)
  x_octets =
      let more : List Symbol = pieces_symbols qs ++ behind (item_symbols x) in
      octets_are x has
      ∙ ap (λ (os : List ℕ). os ++ blur_of x)
      (ap (map group) x_symbols
      ∙ map-append group (up_to_end ps p ++ p.closer ∷ []) (pieces_symbols qs ++ behind (item_symbols x))
      ∙ ap (λ (os : List ℕ). os ++ map group (pieces_symbols qs ++ behind (item_symbols x))) (map-append group (up_to_end ps p) (p.closer ∷ [])))
      ∙ append_assoc (map group (up_to_end ps p) ++ group p.closer ∷ []) (map group (pieces_symbols qs ++ behind (item_symbols x))) (blur_of x)

  around : (a f m e : List ℕ) (o : ℕ) → a ++ (((f ++ o ∷ []) ++ m) ++ e) ≡ (a ++ f) ++ o ∷ (m ++ e)
  around a f m e o =
      ap (λ (zs : List ℕ). a ++ zs) (append_assoc (f ++ o ∷ []) m e ∙ append_assoc f (o ∷ []) (m ++ e))
      ∙ sym (append_assoc a f (o ∷ (m ++ e)))

  here : octets ≡ front ++ group p.closer ∷ later
  here =
      capture.text
      ∙ text_around node xs ys x
      ∙ ap (λ (os : List ℕ). begun_text node xs ++ (os ++ (flat_map item_octets ys ++ 0x21 ∷ []))) x_octets
      ∙ around (begun_text node xs) (map group (up_to_end ps p)) (map group (pieces_symbols qs ++ behind (item_symbols x)) ++ blur_of x)
      (flat_map item_octets ys ++ 0x21 ∷ []) (group p.closer)

  pub handed_out : IsHandedOut octets
      (record { start = ticks_of xs + 4 * length (pieces_symbols ps); view = view_of (descrambler_after (items_history xs) (pieces_nibbles ps)) p })
  handed_out =
      let count : length octets ≡ length front + length (group p.closer ∷ later) = ap length here ∙ length-append front (group p.closer ∷ later) in
      let octet : IsPieceOctet front (group p.closer) (ticks_of xs + 4 * length (pieces_symbols ps))
      (view_of (descrambler_after (items_history xs) (pieces_nibbles ps)) p)
      = record {
        node = node;
        items = xs;
        pieces = ps;
        piece = p;
        within_limit = omega (arith, count, short);
        made = record {
          in_range = (capture.node_in_range, list_fits);
          text = append_assoc (begun_text node xs) (map group (up_to_end ps p)) (group p.closer ∷ [])
              ∙ ap (λ (os : List ℕ). begun_text node xs ++ os) (sym c_octets);
        };
        starts = refl;
        shows = refl;
      } in
      (front, group p.closer, later, here, octet)

-- ---- all pieces

module _ (octets : List ℕ) (node : ℕ) (short : length octets ≤ 2 ^ 30) where
  pieces_out : (qs ps : List Piece) (xs ys : List CaptureItem) (x : CaptureItem) → IsCaptureOf octets node (xs ++ x ∷ ys) → item_pieces x ≡ ps ++ qs
      → (start : ℕ) (past : List Bool) → start ≡ ticks_of xs + 4 * length (pieces_symbols ps)
      → past ≡ descrambler_after (items_history xs) (pieces_nibbles ps) → All (IsHandedOut octets) (shown_pieces start past qs)
  pieces_out [] ps xs ys x capture among start past s h = All-nil (IsHandedOut octets)
  pieces_out (q ∷ qs) ps xs ys x capture among start past s h =
      let next : item_pieces x ≡ (ps ++ q ∷ []) ++ qs = among ∙ sym (append_assoc ps (q ∷ []) qs) in
      let out = handed_out octets node xs ys x capture short ps qs q next in
      let longer : start + 4 * length (piece_symbols q) ≡ ticks_of xs + 4 * length (pieces_symbols (ps ++ q ∷ [])) =
      omega (arith, s, ap length (more_pieces ps q), length-append (pieces_symbols ps) (piece_symbols q)) in
      let on : descrambler_after past q.nibbles ≡ descrambler_after (items_history xs) (pieces_nibbles (ps ++ q ∷ [])) =
      ap (λ (b : List Bool). descrambler_after b q.nibbles) h
      ∙ sym (descrambler_after-append (items_history xs) (pieces_nibbles ps) q.nibbles)
      ∙ ap (descrambler_after (items_history xs)) (sym (pieces_nibbles-push ps q)) in
      All-cons (IsHandedOut octets) (record { start = start; view = view_of past q })
      (shown_pieces (start + 4 * length (piece_symbols q)) (descrambler_after past q.nibbles) qs)
      (subst (λ (n : ℕ). IsHandedOut octets (record { start = n; view = view_of past q })) (sym s)
      (subst (λ (b : List Bool). IsHandedOut octets (record { start = ticks_of xs + 4 * length (pieces_symbols ps); view = view_of b q })) (sym h) out))
      (pieces_out qs (ps ++ q ∷ []) xs ys x capture next (start + 4 * length (piece_symbols q)) (descrambler_after past q.nibbles) longer on)

  items_out : (ys xs : List CaptureItem) → IsCaptureOf octets node (xs ++ ys) → (start : ℕ) (past : List Bool)
      → start ≡ ticks_of xs → past ≡ items_history xs
      → All (IsHandedOut octets) (shown_from start past ys)
  items_out [] xs capture start past s h = All-nil (IsHandedOut octets)
  items_out (y ∷ ys) xs capture start past s h =
      let none : start ≡ ticks_of xs + 4 * length (pieces_symbols []) = omega (arith, s) in
      let next : IsCaptureOf octets node ((xs ++ y ∷ []) ++ ys) = subst (IsCaptureOf octets node) (sym (append_assoc xs (y ∷ []) ys)) capture in
      All-append (IsHandedOut octets) (shown_pieces start past (item_pieces y)) (shown_from (start + item_ticks y) (descrambler_after past (item_nibbles y)) ys)
      (pieces_out (item_pieces y) [] xs ys y capture refl start past none (h ∙ sym (descrambler_after-nil (items_history xs))))
      (items_out ys (xs ++ y ∷ []) next (start + item_ticks y) (descrambler_after past (item_nibbles y)) (omega (arith, s, ticks_of-push xs y))
      (ap (λ (b : List Bool). descrambler_after b (item_nibbles y)) h ∙ sym (history_push xs y)))

-- ---- their views

abbrev pub view_in : ShownPiece → View
view_in p = p.view

views_pieces : (ps : List Piece) (start : ℕ) (past : List Bool) → map view_in (shown_pieces start past ps) ≡ piece_views past ps
unfolding piece_views
views_pieces [] start past = refl
views_pieces (p ∷ ps) start past =
    ap (λ (vs : List View). view_of past p ∷ vs) (views_pieces ps (start + 4 * length (piece_symbols p)) (descrambler_after past p.nibbles))

views_items : (xs : List CaptureItem) (start : ℕ) (past : List Bool) → map view_in (shown_from start past xs) ≡ item_views past xs
unfolding item_views
views_items [] start past = refl
views_items (x ∷ xs) start past =
    map-append view_in (shown_pieces start past (item_pieces x)) (shown_from (start + item_ticks x) (descrambler_after past (item_nibbles x)) xs)
    ∙ ap₂ (λ (a b : List View). a ++ b) (views_pieces (item_pieces x) start past)
    (views_items xs (start + item_ticks x) (descrambler_after past (item_nibbles x)))

pub each_handed_out : (octets : List ℕ) (node : ℕ) (items : List CaptureItem) → IsCaptureOf octets node items → length octets ≤ 2 ^ 30
    → All (IsHandedOut octets) (shown_in items)
each_handed_out octets node items capture short = items_out octets node short items [] capture 0 start_history refl (sym history_none)

pub views_counted : (items : List CaptureItem) → map view_in (shown_in items) ≡ views_of items
views_counted items = views_items items 0 start_history
