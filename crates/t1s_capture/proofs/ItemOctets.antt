-- The items are handed out exactly at their octets.
use Rattle.std.proofs.Common.{◌≡◌, ◌≢◌, ℕ, ◌+◌, ◌*◌, ◌^◌, ◌<◌, ◌⊎◌, Bool, true, false, List, [], ◌∷◌, ◌++◌, length, Result, Ok, Err, Option, None, Some, refl, sym, ap, subst, ◌∙◌, inl, inr, arith, nat_lt, if◌then◌else◌}
use Rattle.std.specs.Prelude.{◌==◌, ◌&&◌, slice_index}
use Rattle.t1s_base.specs.Limits.{most_nodes}
use Rattle.t1s_symbols.specs.declared.Symbol.{Symbol}
use Rattle.t1s_symbols.specs.declared.Symbol.TheVariants.{Nibble, J, K, T, R, H, N, S}
use Rattle.t1s_scramble.specs.Scrambled.{descrambler_after}
use Rattle.t1s_grammar.specs.Burst.{Piece, pieces_symbols}
use Rattle.t1s_grammar.specs.Prefixes.{Beginning, phase_of, beacon, between, opened, within, ended as ended_piece}
use Rattle.t1s_grammar.specs.PlaceTable.{place_step, ends_burst}
use Rattle.t1s_grammar.specs.declared.place.Phase.{Phase}
use Rattle.t1s_grammar.specs.declared.place.PlaceFault.{PlaceFault}
use Rattle.t1s_grammar.specs.declared.place.PlaceFault.TheVariants.{NotHere, TooLong as OneTooMany}
use Rattle.t1s_grammar.proofs.Judgements.{taken as place_taken}
use Rattle.t1s_pcs_rx.specs.Views.{View, view_of}
use Rattle.t1s_capture.specs.declared.items.Why.TheVariants.{Magic as BadMagic, Version as BadVersion, NodeByte, CountZero, GapTwice, Place, BurstLong}
use Rattle.t1s_capture.specs.declared.stage.CountSoFar.{CountSoFar}
use Rattle.t1s_capture.specs.declared.stage.CountSoFar.TheVariants.{Nothing, One, Two, Three}
use Rattle.t1s_capture.specs.declared.stage.OctetKind.{OctetKind}
use Rattle.t1s_capture.specs.declared.stage.OctetKind.TheVariants.{Gap as GapOctet, End, Torn as TornOctet, Known, Unknown}
use Rattle.t1s_capture.specs.Captures.{CaptureItem, Gap, Burst, Torn, magic, no_symbols, symbol_count, ticks_of}
use Rattle.t1s_capture.specs.Pieces.{items_history, pieces_nibbles}
use Rattle.t1s_capture.specs.PrefixParts.{Tail, in_gap, in_burst, in_blur, after_torn, ended, PrefixParts, in_magic, at_version, at_node, with_items, AreMadeOf}
use Rattle.t1s_capture.specs.DecodedItems.{DecodedItem, PieceItem, BeaconItem, RunItem, BareItem, TornItem, burst_item, IsPieceOctet, IsBurstOctet, IsTornOctet, IsItemOctet}
use Rattle.t1s_capture.specs.DecoderTable.{octet_kind, count_of}
use Rattle.t1s_capture.specs.Stands.{ends_with_gap, needs_blur}
use Rattle.t1s_grammar.specs.Longer.{with_symbol, piece_of}
use Rattle.t1s_capture.proofs.Texts.{last_of, no_last}
use Rattle.t1s_capture.proofs.OctetKinds.{HasKind, has_kind}
use Rattle.t1s_capture.proofs.NextParts.{NextParts, next_is, fails, next_parts, next_in_magic, next_at_version, next_in_blur, next_in_burst, next_by_symbol, next_after_torn, end_blur, item_at, piece_item, closer_item, symbol_item, burst_item_at, whole_burst_item, blur_item_at, torn_item}
use Rattle.t1s_capture.proofs.Sound.{same_parts, no_parts, unstopped, is_burst, burst_ends, begun}
use Rattle.t1s_capture.proofs.Whole.{made_once, made_more, next_from, same_items}
use Rattle.t1s_capture.proofs.States.{not_taken}

-- ---- an item that is handed out is at its octet

same_item : (x y : DecodedItem) → ◌≡◌ {A = Option DecodedItem} (Some x) (Some y) → x ≡ y
same_item x y e = cc

no_item : (y : DecodedItem) → ◌≡◌ {A = Option DecodedItem} None (Some y) → ⊥
no_item y e = cc

item_if : (b : Bool) (x y : DecodedItem) → ◌≡◌ {A = Option DecodedItem} (if b then Some x else None) (Some y) → (b ≡ true) × (x ≡ y)
item_if true x y e = (refl, same_item x y e)
item_if false x y e = absurd (no_item y e)

item_unless : (b : Bool) (x y : DecodedItem) → ◌≡◌ {A = Option DecodedItem} (if b then None else Some x) (Some y) → (b ≡ false) × (x ≡ y)
item_unless true x y e = absurd (no_item y e)
item_unless false x y e = (refl, same_item x y e)

burst_octet : (octets : List ℕ) (o start : ℕ) (b : Beginning) → IsBurstOctet octets o (burst_item start b) → IsItemOctet octets o (burst_item start b)
burst_octet octets o start (beacon n) h = h
burst_octet octets o start (between [] lead) h = h
burst_octet octets o start (between (p ∷ ps) lead) h = h
burst_octet octets o start (opened ps lead) h = h
burst_octet octets o start (within ps lead ns) h = h
burst_octet octets o start (ended_piece ps lead ns) h = h

module _ (octets : List ℕ) (o : ℕ) (node : ℕ) (items : List CaptureItem) (b : Beginning) (m : AreMadeOf octets (with_items node items (in_burst b))) (short : length octets < 2 ^ 30) (low : o < 256) where
  whole_here : (item : DecodedItem) → (o ≡ 0x20) ⊎ (o ≡ 0x21) → whole_burst_item items b ≡ Some item → IsItemOctet octets o item
  whole_here item next e =
      let t = item_if (ends_burst (phase_of b)) (burst_item (ticks_of items) b) item e in
      subst (λ (i : DecodedItem). IsItemOctet octets o i) t.1
      (burst_octet octets o (ticks_of items) b (record {
        node = node;
        items = items;
        symbols = b;
        within_limit = short;
        made = m;
        burst = is_burst b (begun items b m.in_range.1) t.0;
        next = next;
        is = refl;
      }))

piece_here : (octets : List ℕ) (o node : ℕ) (items : List CaptureItem) (ps : List Piece) (lead : ℕ) (ns : List ℕ) (s : Symbol) → length octets < 2 ^ 30 →
    AreMadeOf (octets ++ o ∷ []) (with_items node items (in_burst (between (ps ++ piece_of lead ns s ∷ []) 0))) →
    IsItemOctet octets o (piece_item items (ended_piece ps lead ns) s)
piece_here octets o node items ps lead ns s short m = record {
  node = node;
  items = items;
  pieces = ps;
  piece = piece_of lead ns s;
  within_limit = short;
  made = m;
  starts = refl;
  shows = refl;
}

-- a closer that is taken stands after T
closer_here : (octets : List ℕ) (o node : ℕ) (items : List CaptureItem) (b : Beginning) (s : Symbol) (q : Phase) (item : DecodedItem) → length octets < 2 ^ 30 →
    place_step (phase_of b) s ≡ place_taken q → AreMadeOf (octets ++ o ∷ []) (with_items node items (in_burst (with_symbol b s))) → closer_item items b s ≡ Some item →
    IsItemOctet octets o item
closer_here octets o node items b (Nibble n) q item short p m e = absurd (no_item item e)
closer_here octets o node items b J q item short p m e = absurd (no_item item e)
closer_here octets o node items b T q item short p m e = absurd (no_item item e)
closer_here octets o node items b H q item short p m e = absurd (no_item item e)
closer_here octets o node items b N q item short p m e = absurd (no_item item e)
closer_here octets o node items (beacon k) R q item short p m e = absurd (not_taken q p)
closer_here octets o node items (between ps lead) R q item short p m e = absurd (not_taken q p)
closer_here octets o node items (opened ps lead) R q item short p m e = absurd (not_taken q p)
closer_here octets o node items (within ps lead ns) R q item short p m e = absurd (not_taken q p)
closer_here octets o node items (ended_piece ps lead ns) R q item short p m e =
    subst (λ (i : DecodedItem). IsItemOctet octets o i) (same_item (piece_item items (ended_piece ps lead ns) R) item e) (piece_here octets o node items ps lead ns R short m)
closer_here octets o node items (beacon k) K q item short p m e = absurd (not_taken q p)
closer_here octets o node items (between ps lead) K q item short p m e = absurd (not_taken q p)
closer_here octets o node items (opened ps lead) K q item short p m e = absurd (not_taken q p)
closer_here octets o node items (within ps lead ns) K q item short p m e = absurd (not_taken q p)
closer_here octets o node items (ended_piece ps lead ns) K q item short p m e =
    subst (λ (i : DecodedItem). IsItemOctet octets o i) (same_item (piece_item items (ended_piece ps lead ns) K) item e) (piece_here octets o node items ps lead ns K short m)
closer_here octets o node items (beacon k) S q item short p m e = absurd (not_taken q p)
closer_here octets o node items (between ps lead) S q item short p m e = absurd (not_taken q p)
closer_here octets o node items (opened ps lead) S q item short p m e = absurd (not_taken q p)
closer_here octets o node items (within ps lead ns) S q item short p m e = absurd (not_taken q p)
closer_here octets o node items (ended_piece ps lead ns) S q item short p m e =
    subst (λ (i : DecodedItem). IsItemOctet octets o i) (same_item (piece_item items (ended_piece ps lead ns) S) item e) (piece_here octets o node items ps lead ns S short m)

symbol_here : (octets : List ℕ) (o node : ℕ) (items : List CaptureItem) (b : Beginning) (s : Symbol) (r : Result Phase PlaceFault) (g : PrefixParts) (item : DecodedItem) → length octets < 2 ^ 30 →
    place_step (phase_of b) s ≡ r → next_by_symbol node items b s r ≡ next_is g → AreMadeOf (octets ++ o ∷ []) g → symbol_item items b s r ≡ Some item →
    IsItemOctet octets o item
symbol_here octets o node items b s (Ok q) g item short p e m i =
    closer_here octets o node items b s q item short p
    (subst (λ (x : PrefixParts). AreMadeOf (octets ++ o ∷ []) x) (sym (same_parts (with_items node items (in_burst (with_symbol b s))) g e)) m) i
symbol_here octets o node items b s (Err x) g item short p e m i = absurd (no_item item i)

burst_here : (octets : List ℕ) (o node : ℕ) (items : List CaptureItem) (b : Beginning) (k : OctetKind) (g : PrefixParts) (item : DecodedItem) → length octets < 2 ^ 30 → o < 256 →
    AreMadeOf octets (with_items node items (in_burst b)) → HasKind o k → next_in_burst k node items b ≡ next_is g → AreMadeOf (octets ++ o ∷ []) g →
    burst_item_at k items b ≡ Some item → IsItemOctet octets o item
burst_here octets o node items b GapOctet g item short low m is e n i = whole_here octets o node items b m short low item (inl is) i
burst_here octets o node items b End g item short low m is e n i = whole_here octets o node items b m short low item (inr is) i
burst_here octets o node items b TornOctet g item short low m is e n i = absurd (no_item item i)
burst_here octets o node items b (Known s) g item short low m is e n i =
    symbol_here octets o node items b s (place_step (phase_of b) s) g item short refl e n i
burst_here octets o node items b Unknown g item short low m is e n i = absurd (no_item item i)

blur_here : (octets : List ℕ) (o node : ℕ) (items : List CaptureItem) (b : Beginning) (count : CountSoFar) (g : PrefixParts) (item : DecodedItem) → length octets < 2 ^ 30 →
    next_in_blur node items b count o ≡ next_is g → AreMadeOf (octets ++ o ∷ []) g → blur_item_at count items b o ≡ Some item → IsItemOctet octets o item
blur_here octets o node items b Nothing g item short e n i = absurd (no_item item i)
blur_here octets o node items b (One a) g item short e n i = absurd (no_item item i)
blur_here octets o node items b (Two a c) g item short e n i = absurd (no_item item i)
blur_here octets o node items b (Three a c d) g item short e n i =
    let count : ℕ = count_of a c d o in
    let t = item_unless (needs_blur b && (count_of a c d o == 0))
    (TornItem (ticks_of items) (ticks_of items + (4 * symbol_count b + count_of a c d o)) (symbol_count b) (count_of a c d o)) item i in
    let u = unstopped (needs_blur b && (count_of a c d o == 0)) (next_is (with_items node (items ++ Torn b (count_of a c d o) ∷ []) after_torn)) CountZero g e in
    subst (λ (x : DecodedItem). IsItemOctet octets o x) t.1
    (record {
      node = node;
      items = items;
      begun = b;
      within_limit = short;
      made = subst (λ (x : PrefixParts). AreMadeOf (octets ++ o ∷ []) x) (sym (same_parts (with_items node (items ++ Torn b (count_of a c d o) ∷ []) after_torn) g u.1)) n;
      starts = refl;
      ends = refl;
      counted = refl;
    })

pub yield_at_octet : (octets : List ℕ) (f g : PrefixParts) (o : ℕ) (item : DecodedItem) → length octets < 2 ^ 30 → o < 256 → AreMadeOf octets f → next_parts f o ≡ next_is g →
    item_at f o ≡ Some item → IsItemOctet octets o item
yield_at_octet octets (in_magic n) g o item short low m e i = absurd (no_item item i)
yield_at_octet octets at_version g o item short low m e i = absurd (no_item item i)
yield_at_octet octets at_node g o item short low m e i = absurd (no_item item i)
yield_at_octet octets (with_items node items (in_gap count)) g o item short low m e i = absurd (no_item item i)
yield_at_octet octets (with_items node items (in_burst b)) g o item short low m e i =
    burst_here octets o node items b (octet_kind o) g item short low m (has_kind o) e (made_more octets o (with_items node items (in_burst b)) g low m e) i
yield_at_octet octets (with_items node items (in_blur b count)) g o item short low m e i =
    blur_here octets o node items b count g item short e (made_more octets o (with_items node items (in_blur b count)) g low m e) i
yield_at_octet octets (with_items node items after_torn) g o item short low m e i = absurd (no_item item i)
yield_at_octet octets (with_items node items ended) g o item short low m e i = absurd (no_item item i)

-- ---- an item at its octet is handed out

-- the item is handed out there
pub record YieldsAt (f : PrefixParts) (o : ℕ) (item : DecodedItem) : Type 0 where
  pub next : PrefixParts
  pub leads : next_parts f o ≡ next_is next
  pub yields : item_at f o ≡ Some item

at_gap : (node : ℕ) (items : List CaptureItem) (b : Beginning) → ends_burst (phase_of b) ≡ true →
    YieldsAt (with_items node items (in_burst b)) 0x20 (burst_item (ticks_of items) b)
at_gap node items b e = record {
  next = with_items node (items ++ Burst b ∷ []) (in_gap Nothing);
  leads = rw e refl;
  yields = rw e refl;
}

at_end : (node : ℕ) (items : List CaptureItem) (b : Beginning) → ends_burst (phase_of b) ≡ true →
    YieldsAt (with_items node items (in_burst b)) 0x21 (burst_item (ticks_of items) b)
at_end node items b e = record {
  next = with_items node (items ++ Burst b ∷ []) ended;
  leads = rw e refl;
  yields = rw e refl;
}

burst_yields : (octets : List ℕ) (f : PrefixParts) (o : ℕ) (item : DecodedItem) → AreMadeOf octets f → IsBurstOctet octets o item → YieldsAt f o item
burst_yields octets f o item m h =
    let e : with_items h.node h.items (in_burst h.symbols) ≡ f = made_once octets (with_items h.node h.items (in_burst h.symbols)) f h.made m in
    let whole : ends_burst (phase_of h.symbols) ≡ true = burst_ends h.symbols (begun h.items h.symbols h.made.in_range.1) h.burst in
    subst (λ (x : PrefixParts). YieldsAt x o item) e (subst (λ (i : DecodedItem). YieldsAt (with_items h.node h.items (in_burst h.symbols)) o i) (sym h.is)
    (by_next h.next whole))
  where
    by_next : (o ≡ 0x20) ⊎ (o ≡ 0x21) → ends_burst (phase_of h.symbols) ≡ true → YieldsAt (with_items h.node h.items (in_burst h.symbols)) o (burst_item (ticks_of h.items) h.symbols)
    by_next (inl is) w = subst (λ (x : ℕ). YieldsAt (with_items h.node h.items (in_burst h.symbols)) x (burst_item (ticks_of h.items) h.symbols)) (sym is) (at_gap h.node h.items h.symbols w)
    by_next (inr is) w = subst (λ (x : ℕ). YieldsAt (with_items h.node h.items (in_burst h.symbols)) x (burst_item (ticks_of h.items) h.symbols)) (sym is) (at_end h.node h.items h.symbols w)

-- the item of the piece that has ended last
abbrev pub last_piece_item : List CaptureItem → List Piece → Piece → DecodedItem
last_piece_item items ps p =
    PieceItem (ticks_of items + 4 * length (pieces_symbols ps)) (view_of (descrambler_after (items_history items) (pieces_nibbles ps)) p)

abbrev pub PieceIsNext : List CaptureItem → List Piece → Piece → Option DecodedItem → Type 0
PieceIsNext items ps p item = item ≡ Some (last_piece_item items ps p)

abbrev pub piece_parts : ℕ → List CaptureItem → List Piece → Piece → PrefixParts
piece_parts node items ps p = with_items node items (in_burst (between (ps ++ p ∷ []) 0))

not_empty : (node node' : ℕ) (items items' : List CaptureItem) (ps : List Piece) (p : Piece) → next_is (with_items node items (in_burst no_symbols)) ≡ next_is (piece_parts node' items' ps p) → ⊥
not_empty node node' items items' ps p e = let k : ps ++ p ∷ [] ≡ [] = cc in no_last ps p k

closer_next : (node node' : ℕ) (items items' : List CaptureItem) (qs ps : List Piece) (lead : ℕ) (ns : List ℕ) (s : Symbol) (p : Piece) →
    next_is (with_items node items (in_burst (between (qs ++ piece_of lead ns s ∷ []) 0))) ≡ next_is (piece_parts node' items' ps p) →
    PieceIsNext items' ps p (Some (piece_item items (ended_piece qs lead ns) s))
closer_next node node' items items' qs ps lead ns s p e =
    let same : items ≡ items' = cc in
    let lists : qs ++ piece_of lead ns s ∷ [] ≡ ps ++ p ∷ [] = cc in
    let t = last_of qs ps (piece_of lead ns s) p lists in
    let a = t.0 in
    let b = t.1 in
    ap (λ (xs : List CaptureItem). Some (last_piece_item xs qs (piece_of lead ns s))) same
    ∙ ap (λ (xs : List Piece). Some (last_piece_item items' xs (piece_of lead ns s))) a
    ∙ ap (λ (x : Piece). Some (last_piece_item items' ps x)) b

symbol_next : (node node' : ℕ) (items items' : List CaptureItem) (b : Beginning) (s : Symbol) (q : Phase) (ps : List Piece) (p : Piece) → place_step (phase_of b) s ≡ place_taken q →
    next_is (with_items node items (in_burst (with_symbol b s))) ≡ next_is (piece_parts node' items' ps p) → PieceIsNext items' ps p (closer_item items b s)
symbol_next node node' items items' (beacon k) s q ps p t e = cc
symbol_next node node' items items' (between qs lead) J q ps p t e = let k : lead + 1 ≡ 0 = cc in absurd (omega arith)
symbol_next node node' items items' (between qs lead) H q ps p t e = cc
symbol_next node node' items items' (between qs lead) (Nibble n) q ps p t e = cc
symbol_next node node' items items' (between qs lead) K q ps p t e = cc
symbol_next node node' items items' (between qs lead) T q ps p t e = cc
symbol_next node node' items items' (between qs lead) R q ps p t e = cc
symbol_next node node' items items' (between qs lead) N q ps p t e = cc
symbol_next node node' items items' (between qs lead) S q ps p t e = cc
symbol_next node node' items items' (opened qs lead) s q ps p t e = cc
symbol_next node node' items items' (within qs lead ns) (Nibble n) q ps p t e = cc
symbol_next node node' items items' (within qs lead ns) J q ps p t e = cc
symbol_next node node' items items' (within qs lead ns) K q ps p t e = cc
symbol_next node node' items items' (within qs lead ns) T q ps p t e = cc
symbol_next node node' items items' (within qs lead ns) R q ps p t e = cc
symbol_next node node' items items' (within qs lead ns) H q ps p t e = cc
symbol_next node node' items items' (within qs lead ns) N q ps p t e = cc
symbol_next node node' items items' (within qs lead ns) S q ps p t e = cc
symbol_next node node' items items' (ended_piece qs lead ns) R q ps p t e = closer_next node node' items items' qs ps lead ns R p e
symbol_next node node' items items' (ended_piece qs lead ns) K q ps p t e = closer_next node node' items items' qs ps lead ns K p e
symbol_next node node' items items' (ended_piece qs lead ns) S q ps p t e = closer_next node node' items items' qs ps lead ns S p e
symbol_next node node' items items' (ended_piece qs lead ns) (Nibble n) q ps p t e = absurd (not_taken q t)
symbol_next node node' items items' (ended_piece qs lead ns) J q ps p t e = absurd (not_taken q t)
symbol_next node node' items items' (ended_piece qs lead ns) T q ps p t e = absurd (not_taken q t)
symbol_next node node' items items' (ended_piece qs lead ns) H q ps p t e = absurd (not_taken q t)
symbol_next node node' items items' (ended_piece qs lead ns) N q ps p t e = absurd (not_taken q t)

judgement_next : (node node' : ℕ) (items items' : List CaptureItem) (b : Beginning) (s : Symbol) (r : Result Phase PlaceFault) (ps : List Piece) (p : Piece) → place_step (phase_of b) s ≡ r →
    next_by_symbol node items b s r ≡ next_is (piece_parts node' items' ps p) → PieceIsNext items' ps p (symbol_item items b s r)
judgement_next node node' items items' b s (Ok q) ps p t e = symbol_next node node' items items' b s q ps p t e
judgement_next node node' items items' b s (Err OneTooMany) ps p t e = absurd (no_parts BurstLong (piece_parts node' items' ps p) e)
judgement_next node node' items items' b s (Err NotHere) ps p t e = absurd (no_parts Place (piece_parts node' items' ps p) e)

-- two ways that a test may go, of which neither leads there
neither : (b : Bool) (x y g : NextParts) → (x ≡ g → ⊥) → (y ≡ g → ⊥) → (if b then x else y) ≡ g → ⊥
neither true x y g h k e = h e
neither false x y g h k e = k e

gap_next : (node node' : ℕ) (items items' : List CaptureItem) (b : Beginning) (tail : Tail) → next_in_burst GapOctet node items b ≡ next_is (with_items node' items' tail) →
    tail ≢ in_gap Nothing → ⊥
gap_next node node' items items' b tail e other =
    neither (ends_burst (phase_of b)) (next_is (with_items node (items ++ Burst b ∷ []) (in_gap Nothing)))
    (if symbol_count b == 0 then (if ends_with_gap items then fails GapTwice else next_is (with_items node items (in_gap Nothing))) else fails Place) (next_is (with_items node' items' tail))
    (λ k. other cc)
    (λ k. neither (symbol_count b == 0) (if ends_with_gap items then fails GapTwice else next_is (with_items node items (in_gap Nothing))) (fails Place) (next_is (with_items node' items' tail))
    (λ j. neither (ends_with_gap items) (fails GapTwice) (next_is (with_items node items (in_gap Nothing))) (next_is (with_items node' items' tail)) (λ i. cc) (λ i. other cc) j)
    (λ j. cc) k) e

end_next : (node node' : ℕ) (items items' : List CaptureItem) (b : Beginning) (tail : Tail) → next_in_burst End node items b ≡ next_is (with_items node' items' tail) →
    tail ≢ ended → ⊥
end_next node node' items items' b tail e other =
    neither (ends_burst (phase_of b)) (next_is (with_items node (items ++ Burst b ∷ []) ended))
    (if symbol_count b == 0 then next_is (with_items node items ended) else fails Place) (next_is (with_items node' items' tail))
    (λ k. other cc)
    (λ k. neither (symbol_count b == 0) (next_is (with_items node items ended)) (fails Place) (next_is (with_items node' items' tail)) (λ j. other cc) (λ j. cc) k) e

burst_next : (k : OctetKind) (node node' : ℕ) (items items' : List CaptureItem) (b : Beginning) (ps : List Piece) (p : Piece) →
    next_in_burst k node items b ≡ next_is (piece_parts node' items' ps p) → PieceIsNext items' ps p (burst_item_at k items b)
burst_next GapOctet node node' items items' b ps p e = absurd (gap_next node node' items items' b (in_burst (between (ps ++ p ∷ []) 0)) e (λ k. cc))
burst_next End node node' items items' b ps p e = absurd (end_next node node' items items' b (in_burst (between (ps ++ p ∷ []) 0)) e (λ k. cc))
burst_next TornOctet node node' items items' b ps p e = cc
burst_next (Known s) node node' items items' b ps p e = judgement_next node node' items items' b s (place_step (phase_of b) s) ps p refl e
burst_next Unknown node node' items items' b ps p e = cc

magic_next : (n o node : ℕ) (items : List CaptureItem) (tail : Tail) → next_in_magic n o ≡ next_is (with_items node items tail) → ⊥
magic_next n o node items tail e =
    neither (o == slice_index magic n) (if n == 3 then next_is at_version else next_is (in_magic (n + 1))) (fails BadMagic) (next_is (with_items node items tail))
    (λ k. neither (n == 3) (next_is at_version) (next_is (in_magic (n + 1))) (next_is (with_items node items tail)) (λ j. cc) (λ j. cc) k) (λ k. cc) e

version_next : (o node : ℕ) (items : List CaptureItem) (tail : Tail) → next_at_version o ≡ next_is (with_items node items tail) → ⊥
version_next o node items tail e = neither (o == 1) (next_is at_node) (fails BadVersion) (next_is (with_items node items tail)) (λ k. cc) (λ k. cc) e

piece_next : (f : PrefixParts) (o node : ℕ) (items : List CaptureItem) (ps : List Piece) (p : Piece) → next_parts f o ≡ next_is (piece_parts node items ps p) → PieceIsNext items ps p (item_at f o)
piece_next (in_magic n) o node items ps p e = absurd (magic_next n o node items (in_burst (between (ps ++ p ∷ []) 0)) e)
piece_next at_version o node items ps p e = absurd (version_next o node items (in_burst (between (ps ++ p ∷ []) 0)) e)
piece_next at_node o node items ps p e =
    absurd (neither (nat_lt o most_nodes) (next_is (with_items o [] (in_burst no_symbols))) (fails NodeByte) (next_is (piece_parts node items ps p)) (not_empty o node [] items ps p) (λ k. cc) e)
piece_next (with_items node' items' (in_gap Nothing)) o node items ps p e = cc
piece_next (with_items node' items' (in_gap (One a))) o node items ps p e = cc
piece_next (with_items node' items' (in_gap (Two a b))) o node items ps p e = cc
piece_next (with_items node' items' (in_gap (Three a b c))) o node items ps p e =
    absurd (neither (count_of a b c o == 0) (fails CountZero) (next_is (with_items node' (items' ++ Gap (count_of a b c o) ∷ []) (in_burst no_symbols))) (next_is (piece_parts node items ps p))
    (λ k. cc) (not_empty node' node (items' ++ Gap (count_of a b c o) ∷ []) items ps p) e)
piece_next (with_items node' items' (in_burst b)) o node items ps p e = burst_next (octet_kind o) node' node items' items b ps p e
piece_next (with_items node' items' (in_blur b Nothing)) o node items ps p e = cc
piece_next (with_items node' items' (in_blur b (One a))) o node items ps p e = cc
piece_next (with_items node' items' (in_blur b (Two a c))) o node items ps p e = cc
piece_next (with_items node' items' (in_blur b (Three a c d))) o node items ps p e =
    absurd (neither (needs_blur b && (count_of a c d o == 0)) (fails CountZero) (next_is (with_items node' (items' ++ Torn b (count_of a c d o) ∷ []) after_torn)) (next_is (piece_parts node items ps p))
    (λ k. cc) (λ k. cc) e)
piece_next (with_items node' items' after_torn) o node items ps p e = by_kind (octet_kind o) e
  where
    by_kind : (k : OctetKind) → next_after_torn k node' items' ≡ next_is (piece_parts node items ps p) → PieceIsNext items ps p None
    by_kind GapOctet e = cc
    by_kind End e = cc
    by_kind TornOctet e = cc
    by_kind (Known s) e = cc
    by_kind Unknown e = cc
piece_next (with_items node' items' ended) o node items ps p e = cc

-- the item of a torn burst
abbrev pub TornIsNext : List CaptureItem → Beginning → ℕ → Option DecodedItem → Type 0
TornIsNext items b n item = item ≡ Some (TornItem (ticks_of items) (ticks_of items + (4 * symbol_count b + n)) (symbol_count b) n)

abbrev pub torn_parts : ℕ → List CaptureItem → Beginning → ℕ → PrefixParts
torn_parts node items b n = with_items node (items ++ Torn b n ∷ []) after_torn

torn_burst_next : (k : OctetKind) (node node' : ℕ) (items items' : List CaptureItem) (b c : Beginning) (n : ℕ) → next_in_burst k node items b ≡ next_is (torn_parts node' items' c n) → ⊥
torn_burst_next GapOctet node node' items items' b c n e = gap_next node node' items (items' ++ Torn c n ∷ []) b after_torn e (λ k. cc)
torn_burst_next End node node' items items' b c n e = end_next node node' items (items' ++ Torn c n ∷ []) b after_torn e (λ k. cc)
torn_burst_next TornOctet node node' items items' b c n e = cc
torn_burst_next (Known s) node node' items items' b c n e = by_place (place_step (phase_of b) s) e
  where
    by_place : (r : Result Phase PlaceFault) → next_by_symbol node items b s r ≡ next_is (torn_parts node' items' c n) → ⊥
    by_place (Ok q) e = cc
    by_place (Err OneTooMany) e = cc
    by_place (Err NotHere) e = cc
torn_burst_next Unknown node node' items items' b c n e = cc

blur_next : (node node' : ℕ) (items items' : List CaptureItem) (b c : Beginning) (n k : ℕ) → end_blur node items b k ≡ next_is (torn_parts node' items' c n) →
    TornIsNext items' c n (torn_item items b k)
blur_next node node' items items' b c n k e =
    let u = unstopped (needs_blur b && (k == 0)) (next_is (with_items node (items ++ Torn b k ∷ []) after_torn)) CountZero (torn_parts node' items' c n) e in
    let f = u.1 in
    let lists : items ++ Torn b k ∷ [] ≡ items' ++ Torn c n ∷ [] = cc in
    let t = last_of items items' (Torn b k) (Torn c n) lists in
    let a = t.0 in
    let x = t.1 in
    let same_b : b ≡ c = cc in
    let same_n : k ≡ n = cc in
    ap (λ (q : Bool). if q then None else Some (TornItem (ticks_of items) (ticks_of items + (4 * symbol_count b + k)) (symbol_count b) k)) u.0
    ∙ ap (λ (xs : List CaptureItem). Some (TornItem (ticks_of xs) (ticks_of xs + (4 * symbol_count b + k)) (symbol_count b) k)) a
    ∙ ap (λ (y : Beginning). Some (TornItem (ticks_of items') (ticks_of items' + (4 * symbol_count y + k)) (symbol_count y) k)) same_b
    ∙ ap (λ (y : ℕ). Some (TornItem (ticks_of items') (ticks_of items' + (4 * symbol_count c + y)) (symbol_count c) y)) same_n

torn_next : (f : PrefixParts) (o node : ℕ) (items : List CaptureItem) (c : Beginning) (n : ℕ) → next_parts f o ≡ next_is (torn_parts node items c n) → TornIsNext items c n (item_at f o)
torn_next (in_magic k) o node items c n e = absurd (magic_next k o node (items ++ Torn c n ∷ []) after_torn e)
torn_next at_version o node items c n e = absurd (version_next o node (items ++ Torn c n ∷ []) after_torn e)
torn_next at_node o node items c n e =
    absurd (neither (nat_lt o most_nodes) (next_is (with_items o [] (in_burst no_symbols))) (fails NodeByte) (next_is (torn_parts node items c n)) (λ k. cc) (λ k. cc) e)
torn_next (with_items node' items' (in_gap Nothing)) o node items c n e = cc
torn_next (with_items node' items' (in_gap (One a))) o node items c n e = cc
torn_next (with_items node' items' (in_gap (Two a b))) o node items c n e = cc
torn_next (with_items node' items' (in_gap (Three a b d))) o node items c n e =
    absurd (neither (count_of a b d o == 0) (fails CountZero) (next_is (with_items node' (items' ++ Gap (count_of a b d o) ∷ []) (in_burst no_symbols))) (next_is (torn_parts node items c n))
    (λ k. cc) (λ k. cc) e)
torn_next (with_items node' items' (in_burst b)) o node items c n e = absurd (torn_burst_next (octet_kind o) node' node items' items b c n e)
torn_next (with_items node' items' (in_blur b Nothing)) o node items c n e = cc
torn_next (with_items node' items' (in_blur b (One a))) o node items c n e = cc
torn_next (with_items node' items' (in_blur b (Two a d))) o node items c n e = cc
torn_next (with_items node' items' (in_blur b (Three a d x))) o node items c n e = blur_next node' node items' items b c n (count_of a d x o) e
torn_next (with_items node' items' after_torn) o node items c n e = by_kind (octet_kind o) e
  where
    by_kind : (k : OctetKind) → next_after_torn k node' items' ≡ next_is (torn_parts node items c n) → TornIsNext items c n None
    by_kind GapOctet e = cc
    by_kind End e = cc
    by_kind TornOctet e = cc
    by_kind (Known s) e = cc
    by_kind Unknown e = cc
torn_next (with_items node' items' ended) o node items c n e = cc

piece_yields : (octets : List ℕ) (f : PrefixParts) (o start : ℕ) (view : View) → AreMadeOf octets f → IsPieceOctet octets o start view → YieldsAt f o (PieceItem start view)
piece_yields octets f o start view m h =
    let e : next_parts f o ≡ next_is (piece_parts h.node h.items h.pieces h.piece) = next_from octets o f (piece_parts h.node h.items h.pieces h.piece) m h.made in
    let a = h.starts in
    let b = h.shows in
    let is : last_piece_item h.items h.pieces h.piece ≡ PieceItem start view = cc in
    record {
      next = piece_parts h.node h.items h.pieces h.piece;
      leads = e;
      yields = piece_next f o h.node h.items h.pieces h.piece e ∙ ap (λ (i : DecodedItem). Some i) is;
    }

torn_yields : (octets : List ℕ) (f : PrefixParts) (o start end symbols blur : ℕ) → AreMadeOf octets f → IsTornOctet octets o start end symbols blur → YieldsAt f o (TornItem start end symbols blur)
torn_yields octets f o start end symbols blur m h =
    let e : next_parts f o ≡ next_is (torn_parts h.node h.items h.begun blur) = next_from octets o f (torn_parts h.node h.items h.begun blur) m h.made in
    let a = h.starts in
    let b = h.ends in
    let c = h.counted in
    let is : TornItem (ticks_of h.items) (ticks_of h.items + (4 * symbol_count h.begun + blur)) (symbol_count h.begun) blur ≡ TornItem start end symbols blur = cc in
    record {
      next = torn_parts h.node h.items h.begun blur;
      leads = e;
      yields = torn_next f o h.node h.items h.begun blur e ∙ ap (λ (i : DecodedItem). Some i) is;
    }

pub octet_yields : (octets : List ℕ) (f : PrefixParts) (o : ℕ) (item : DecodedItem) → AreMadeOf octets f → IsItemOctet octets o item → YieldsAt f o item
octet_yields octets f o (PieceItem start view) m h = piece_yields octets f o start view m h
octet_yields octets f o (BeaconItem start) m h = burst_yields octets f o (BeaconItem start) m h
octet_yields octets f o (RunItem start end pieces) m h = burst_yields octets f o (RunItem start end pieces) m h
octet_yields octets f o (BareItem start end) m h = burst_yields octets f o (BareItem start end) m h
octet_yields octets f o (TornItem start end symbols blur) m h = torn_yields octets f o start end symbols blur m h

-- the octets before an item's octet are within the limit
pub item_within : (octets : List ℕ) (o : ℕ) (item : DecodedItem) → IsItemOctet octets o item → length octets < 2 ^ 30
item_within octets o (PieceItem start view) h = h.within_limit
item_within octets o (BeaconItem start) h = h.within_limit
item_within octets o (RunItem start end pieces) h = h.within_limit
item_within octets o (BareItem start end) h = h.within_limit
item_within octets o (TornItem start end symbols blur) h = h.within_limit

-- ---- an octet hands out one item at most

-- where it is known what the octets before it are made of
one_by_parts : (octets : List ℕ) (f : PrefixParts) (o : ℕ) (x y : DecodedItem) → AreMadeOf octets f → IsItemOctet octets o x → IsItemOctet octets o y → x ≡ y
one_by_parts octets f o x y m h k =
    let a = octet_yields octets f o x m h in let b = octet_yields octets f o y m k in same_item x y (sym a.yields ∙ b.yields)

-- the octets up to a closer are no others than those up to the end of a torn burst
closed_or_torn : (octets : List ℕ) (o start : ℕ) (view : View) (start' end symbols blur : ℕ) → IsPieceOctet octets o start view → IsTornOctet octets o start' end symbols blur → ⊥
closed_or_torn octets o start view start' end symbols blur h k =
    let t = same_items h.node k.node h.items (k.items ++ Torn k.begun blur ∷ []) (in_burst (between (h.pieces ++ h.piece ∷ []) 0)) after_torn
    (made_once (octets ++ o ∷ []) (piece_parts h.node h.items h.pieces h.piece) (with_items k.node (k.items ++ Torn k.begun blur ∷ []) after_torn) h.made k.made) in
    let e = t.2 in cc

one_piece : (octets : List ℕ) (o start start' : ℕ) (view view' : View) → IsPieceOctet octets o start view → IsPieceOctet octets o start' view' → PieceItem start view ≡ PieceItem start' view'
one_piece octets o start start' view view' h k =
    let t = same_items h.node k.node h.items k.items (in_burst (between (h.pieces ++ h.piece ∷ []) 0)) (in_burst (between (k.pieces ++ k.piece ∷ []) 0))
    (made_once (octets ++ o ∷ []) (piece_parts h.node h.items h.pieces h.piece) (piece_parts k.node k.items k.pieces k.piece) h.made k.made) in
    let items = t.1 in
    let tails = t.2 in
    let lists : h.pieces ++ h.piece ∷ [] ≡ k.pieces ++ k.piece ∷ [] = cc in
    let last = last_of h.pieces k.pieces h.piece k.piece lists in
    let pieces = last.0 in
    let piece = last.1 in
    let a = h.starts in
    let b = h.shows in
    let c = k.starts in
    let d = k.shows in
    cc

one_torn : (octets : List ℕ) (o start start' end end' symbols symbols' blur blur' : ℕ) → IsTornOctet octets o start end symbols blur → IsTornOctet octets o start' end' symbols' blur' →
    TornItem start end symbols blur ≡ TornItem start' end' symbols' blur'
one_torn octets o start start' end end' symbols symbols' blur blur' h k =
    let t = same_items h.node k.node (h.items ++ Torn h.begun blur ∷ []) (k.items ++ Torn k.begun blur' ∷ []) after_torn after_torn
    (made_once (octets ++ o ∷ []) (torn_parts h.node h.items h.begun blur) (torn_parts k.node k.items k.begun blur') h.made k.made) in
    let last = last_of h.items k.items (Torn h.begun blur) (Torn k.begun blur') t.1 in
    let items = last.0 in
    let torn = last.1 in
    let begun' : h.begun ≡ k.begun = cc in
    let blurs : blur ≡ blur' = cc in
    let a = h.starts in
    let b = h.ends in
    let c = h.counted in
    let d = k.starts in
    let e = k.ends in
    let f = k.counted in
    cc

pub one_item : (octets : List ℕ) (o : ℕ) (x y : DecodedItem) → IsItemOctet octets o x → IsItemOctet octets o y → x ≡ y
one_item octets o (BeaconItem start) y h k = one_by_parts octets (with_items h.node h.items (in_burst h.symbols)) o (BeaconItem start) y h.made h k
one_item octets o (RunItem start end pieces) y h k = one_by_parts octets (with_items h.node h.items (in_burst h.symbols)) o (RunItem start end pieces) y h.made h k
one_item octets o (BareItem start end) y h k = one_by_parts octets (with_items h.node h.items (in_burst h.symbols)) o (BareItem start end) y h.made h k
one_item octets o (PieceItem start view) (BeaconItem start') h k = one_by_parts octets (with_items k.node k.items (in_burst k.symbols)) o (PieceItem start view) (BeaconItem start') k.made h k
one_item octets o (PieceItem start view) (RunItem start' end pieces) h k = one_by_parts octets (with_items k.node k.items (in_burst k.symbols)) o (PieceItem start view) (RunItem start' end pieces) k.made h k
one_item octets o (PieceItem start view) (BareItem start' end) h k = one_by_parts octets (with_items k.node k.items (in_burst k.symbols)) o (PieceItem start view) (BareItem start' end) k.made h k
one_item octets o (PieceItem start view) (PieceItem start' view') h k = one_piece octets o start start' view view' h k
one_item octets o (PieceItem start view) (TornItem start' end symbols blur) h k = absurd (closed_or_torn octets o start view start' end symbols blur h k)
one_item octets o (TornItem start end symbols blur) (BeaconItem start') h k = one_by_parts octets (with_items k.node k.items (in_burst k.symbols)) o (TornItem start end symbols blur) (BeaconItem start') k.made h k
one_item octets o (TornItem start end symbols blur) (RunItem start' end' pieces) h k = one_by_parts octets (with_items k.node k.items (in_burst k.symbols)) o (TornItem start end symbols blur) (RunItem start' end' pieces) k.made h k
one_item octets o (TornItem start end symbols blur) (BareItem start' end') h k = one_by_parts octets (with_items k.node k.items (in_burst k.symbols)) o (TornItem start end symbols blur) (BareItem start' end') k.made h k
one_item octets o (TornItem start end symbols blur) (PieceItem start' view) h k = absurd (closed_or_torn octets o start' view start end symbols blur k h)
one_item octets o (TornItem start end symbols blur) (TornItem start' end' symbols' blur') h k = one_torn octets o start start' end end' symbols symbols' blur blur' h k
