-- Octets are made of one thing alone: what they grow to, octet by octet.
use Rattle.std.proofs.Common.{replicate, ◌≡◌, ℕ, zero, suc, ◌<◌, ◌≤◌, Bool, true, false, List, [], ◌∷◌, ◌++◌, map, take, Ok, Err, refl, sym, ap, subst, ◌∙◌, arith, append_assoc, if◌then◌else◌}
use Rattle.std.specs.Prelude.{All, ◌==◌, ◌&&◌}
use Rattle.std.proofs.lemmas.Bool.{lt-ltb, ne_eqb}
use Rattle.std.proofs.lemmas.List.{append-nil}
use Rattle.std.proofs.lemmas.List.Elements.{All-head}
use Rattle.t1s_base.specs.Limits.{most_nodes}
use Rattle.t1s_symbols.specs.GroupTable.{group}
use Rattle.t1s_symbols.specs.Ranges.{IsSymbol}
use Rattle.t1s_symbols.specs.declared.Symbol.{Symbol}
use Rattle.t1s_symbols.specs.declared.Symbol.TheVariants.{Nibble, J, K, T, R, H, N, S}
use Rattle.t1s_grammar.specs.Burst.{Piece, IsPieceInRange, IsCloser, open_symbols, piece_symbols, pieces_symbols}
use Rattle.t1s_grammar.specs.Prefixes.{Beginning, beginning_symbols, IsBeginning, phase_of, beacon, between, opened, within, ended as ended_piece}
use Rattle.t1s_grammar.specs.PlaceTable.{place_step, ends_burst}
use Rattle.t1s_grammar.specs.declared.place.Phase.{Phase}
use Rattle.t1s_grammar.proofs.Judgements.{Judgement, taken, after, after-err, after-beginning}
use Rattle.t1s_capture.specs.declared.items.Why.{Why}
use Rattle.t1s_capture.specs.declared.items.Why.TheVariants.{CountZero, GapTwice}
use Rattle.t1s_capture.specs.declared.stage.CountSoFar.{CountSoFar}
use Rattle.t1s_capture.specs.declared.stage.CountSoFar.TheVariants.{Nothing, One, Two, Three}
use Rattle.t1s_capture.specs.Captures.{CaptureItem, Gap, Burst, Torn, magic, header, no_symbols, symbol_octets, item_octets, count_octets, NeedsBlur, IsItem, is_gap, Alternates, IsItemList, begun_text}
use Rattle.t1s_capture.specs.PrefixParts.{Tail, in_gap, in_burst, in_blur, after_torn, ended, PrefixParts, in_magic, at_version, at_node, with_items, counted_octets, ArePartsInRange, parts_octets}
use Rattle.t1s_capture.specs.Stands.{ends_with_gap, needs_blur}
use Rattle.t1s_grammar.proofs.Longer.{more}
use Rattle.t1s_capture.proofs.WithSymbols.{with_symbols, with_symbols-beginning}
use Rattle.t1s_grammar.specs.Longer.{with_symbol}
use Rattle.t1s_capture.proofs.Texts.{octets_of, count_of-octets, last_of, no_last, Alternates-two, All-back, list_before}
use Rattle.t1s_capture.proofs.OctetKinds.{group_kind}
use Rattle.t1s_capture.proofs.NextParts.{NextParts, next_is, fails, next_parts, next_by_symbol, next_in_burst, end_gap, end_blur}
use Rattle.t1s_capture.proofs.Sound.{burst_ends, needed_blur, begun}
use Rattle.t1s_grammar.proofs.Longer.{refused-taken}

-- one octet more, where none was refused before, and a list of octets more
abbrev pub step_on : NextParts → ℕ → NextParts
step_on (Ok f) o = next_parts f o
step_on (Err why) o = Err why

abbrev pub reads_from : NextParts → List ℕ → NextParts
reads_from r [] = r
reads_from r (o ∷ os) = reads_from (step_on r o) os

abbrev pub reads : List ℕ → NextParts
reads octets = reads_from (next_is (in_magic 0)) octets

pub reads-append : (r : NextParts) (a b : List ℕ) → reads_from r (a ++ b) ≡ reads_from (reads_from r a) b
reads-append r [] b = refl
reads-append r (o ∷ a) b = reads-append (step_on r o) a b

pub reads-err : (why : Why) (a : List ℕ) → reads_from (fails why) a ≡ fails why
reads-err why [] = refl
reads-err why (o ∷ a) = reads-err why a

-- ---- the symbols of a burst

-- all of these are symbols
abbrev pub AreSymbols : List Symbol → Type 0
AreSymbols [] = Unit {0}
AreSymbols (s ∷ ss) = IsSymbol s × AreSymbols ss

-- where the symbols are judged well, the burst grows by them
reads-symbols : (ss : List Symbol) (node : ℕ) (items : List CaptureItem) (b : Beginning) (q : Phase) → AreSymbols ss →
    after ss (taken (phase_of b)) ≡ taken q →
    reads_from (next_is (with_items node items (in_burst b))) (map group ss) ≡ next_is (with_items node items (in_burst (with_symbols b ss)))
reads-symbols [] node items b q h e = refl
reads-symbols (s ∷ ss) node items b q h e = by_step (λ c k. reads-symbols ss node items c q h.1 k) (place_step (phase_of b) s) refl e
  where
    by_step : ((c : Beginning) → after ss (taken (phase_of c)) ≡ taken q →
        reads_from (next_is (with_items node items (in_burst c))) (map group ss) ≡ next_is (with_items node items (in_burst (with_symbols c ss)))) →
        (r : Judgement) → place_step (phase_of b) s ≡ r → after ss r ≡ taken q →
        reads_from (next_is (with_items node items (in_burst b))) (group s ∷ map group ss) ≡ next_is (with_items node items (in_burst (with_symbols (with_symbol b s) ss)))
    by_step others (Ok p) is e =
        let one : next_parts (with_items node items (in_burst b)) (group s) ≡ next_is (with_items node items (in_burst (with_symbol b s))) =
        ap (λ m. next_in_burst m node items b) (group_kind s h.0) ∙ ap (λ r. next_by_symbol node items b s r) is in
        let t = more b s p is in
        ap (λ r. reads_from r (map group ss)) one
        ∙ others (with_symbol b s) (ap (λ (x : Phase). after ss (taken x)) t.phase ∙ e)
    by_step others (Err x) is e = absurd (refused-taken x q (sym (after-err ss x) ∙ e))

AreSymbols-append : (xs ys : List Symbol) → AreSymbols xs → AreSymbols ys → AreSymbols (xs ++ ys)
AreSymbols-append [] ys h k = k
AreSymbols-append (x ∷ xs) ys h k = (h.0, AreSymbols-append xs ys h.1 k)

AreSymbols-J : (n : ℕ) → AreSymbols (replicate n J)
AreSymbols-J zero = tt
AreSymbols-J (suc n) = (tt, AreSymbols-J n)

AreSymbols-N : (n : ℕ) → AreSymbols (replicate n N)
AreSymbols-N zero = tt
AreSymbols-N (suc n) = (tt, AreSymbols-N n)

AreSymbols-nibbles : (ns : List ℕ) → All (λ n. n < 16) ns → AreSymbols (map Nibble ns)
AreSymbols-nibbles [] h = tt
AreSymbols-nibbles (n ∷ ns) h = (h 0 0 (omega arith), AreSymbols-nibbles ns (λ k d l. h (suc k) d (omega arith)))

AreSymbols-open : (lead : ℕ) (ns : List ℕ) → All (λ n. n < 16) ns → AreSymbols (open_symbols lead ns)
AreSymbols-open lead ns h =
    AreSymbols-append (replicate lead J) (H ∷ H ∷ map Nibble ns) (AreSymbols-J lead) (tt, (tt, AreSymbols-nibbles ns h))

closer_symbol : (s : Symbol) → IsCloser s → IsSymbol s
closer_symbol R h = tt
closer_symbol K h = tt
closer_symbol S h = tt
closer_symbol _ h = absurd h

AreSymbols-pieces : (ps : List Piece) → All IsPieceInRange ps → AreSymbols (pieces_symbols ps)
AreSymbols-pieces [] h = tt
AreSymbols-pieces (p ∷ ps) h =
    let here : IsPieceInRange p = h 0 p (omega arith) in
    AreSymbols-append (piece_symbols p) (pieces_symbols ps)
    (AreSymbols-append (open_symbols p.lead p.nibbles) (T ∷ p.closer ∷ [])
    (AreSymbols-open p.lead p.nibbles here.nibbles) (tt, (closer_symbol p.closer here.closer, tt)))
    (AreSymbols-pieces ps (λ k d l. h (suc k) d (omega arith)))

pub AreSymbols-beginning : (b : Beginning) → IsBeginning b → AreSymbols (beginning_symbols b)
AreSymbols-beginning (beacon n) h = AreSymbols-N n
AreSymbols-beginning (between ps lead) h =
    AreSymbols-append (pieces_symbols ps) (replicate lead J) (AreSymbols-pieces ps h.0.in_range) (AreSymbols-J lead)
AreSymbols-beginning (opened ps lead) h =
    AreSymbols-append (pieces_symbols ps ++ replicate lead J) (H ∷ [])
    (AreSymbols-append (pieces_symbols ps) (replicate lead J) (AreSymbols-pieces ps h.0.in_range) (AreSymbols-J lead)) (tt, tt)
AreSymbols-beginning (within ps lead ns) h =
    AreSymbols-append (pieces_symbols ps) (open_symbols lead ns) (AreSymbols-pieces ps h.0.in_range) (AreSymbols-open lead ns h.2.ranges)
AreSymbols-beginning (ended_piece ps lead ns) h =
    AreSymbols-append (pieces_symbols ps ++ open_symbols lead ns) (T ∷ [])
    (AreSymbols-append (pieces_symbols ps) (open_symbols lead ns) (AreSymbols-pieces ps h.0.in_range) (AreSymbols-open lead ns h.2.ranges)) (tt, tt)

reads-burst : (node : ℕ) (items : List CaptureItem) (b : Beginning) → IsBeginning b →
    reads_from (next_is (with_items node items (in_burst no_symbols))) (symbol_octets b) ≡ next_is (with_items node items (in_burst b))
reads-burst node items b h =
    reads-symbols (beginning_symbols b) node items no_symbols (phase_of b) (AreSymbols-beginning b h) (after-beginning b h)
    ∙ ap (λ (c : Beginning). next_is (with_items node items (in_burst c))) (with_symbols-beginning b h)

-- ---- after whole items

-- what octets are made of that end after these items
pub data Rest (node : ℕ) (done : List CaptureItem) (f : PrefixParts) : Type 0 where
  rest_first : done ≡ [] → f ≡ with_items node done (in_burst no_symbols) → Rest node done f
  rest_gap : (xs : List CaptureItem) → (n : ℕ) → done ≡ xs ++ Gap n ∷ [] → f ≡ with_items node done (in_burst no_symbols) → Rest node done f
  rest_torn : (xs : List CaptureItem) → (b : Beginning) → (n : ℕ) → done ≡ xs ++ Torn b n ∷ [] → f ≡ with_items node done after_torn → Rest node done f
  rest_burst : (xs : List CaptureItem) → (b : Beginning) → done ≡ xs ++ Burst b ∷ [] → ends_burst (phase_of b) ≡ true → f ≡ with_items node xs (in_burst b) → Rest node done f

-- an item that stands last in a list and one that follows it are not alike
apart : (done xs : List CaptureItem) (x y : CaptureItem) (ys : List CaptureItem) → done ≡ xs ++ x ∷ [] → Alternates (done ++ y ∷ ys) → is_gap x ≡ is_gap y → ⊥
apart done xs x y ys is h e = Alternates-two xs x y ys (subst (λ (zs : List CaptureItem). Alternates (zs ++ y ∷ ys)) is h) e

-- where a burst follows, a burst may begin
burst_follows : (node : ℕ) (done : List CaptureItem) (f : PrefixParts) (y : CaptureItem) (ys : List CaptureItem) → Rest node done f →
    is_gap y ≡ false → Alternates (done ++ y ∷ ys) → f ≡ with_items node done (in_burst no_symbols)
burst_follows node done f y ys (rest_first none is) e h = is
burst_follows node done f y ys (rest_gap xs n last is) e h = is
burst_follows node done f y ys (rest_torn xs b n last is) e h = absurd (apart done xs (Torn b n) y ys last h (sym e))
burst_follows node done f y ys (rest_burst xs b last whole is) e h = absurd (apart done xs (Burst b) y ys last h (sym e))

-- where a gap follows, one may begin
gap_follows : (node : ℕ) (done : List CaptureItem) (f : PrefixParts) (y : CaptureItem) (ys : List CaptureItem) → Rest node done f →
    is_gap y ≡ true → Alternates (done ++ y ∷ ys) → next_parts f 0x20 ≡ next_is (with_items node done (in_gap Nothing))
gap_follows node done f y ys (rest_first none is) e h =
    ap (λ (x : PrefixParts). next_parts x 0x20) is
    ∙ ap (λ (xs : List CaptureItem). if ends_with_gap xs then fails GapTwice else next_is (with_items node done (in_gap Nothing))) none
gap_follows node done f y ys (rest_gap xs n last is) e h = absurd (apart done xs (Gap n) y ys last h (sym e))
gap_follows node done f y ys (rest_torn xs b n last is) e h = ap (λ (x : PrefixParts). next_parts x 0x20) is
gap_follows node done f y ys (rest_burst xs b last whole is) e h =
    ap (λ (x : PrefixParts). next_parts x 0x20) is
    ∙ rw whole refl
    ∙ ap (λ (zs : List CaptureItem). next_is (with_items node zs (in_gap Nothing))) (sym last)

-- the end may follow any item
end_follows : (node : ℕ) (done : List CaptureItem) (f : PrefixParts) → Rest node done f → next_parts f 0x21 ≡ next_is (with_items node done ended)
end_follows node done f (rest_first none is) = ap (λ (x : PrefixParts). next_parts x 0x21) is
end_follows node done f (rest_gap xs n last is) = ap (λ (x : PrefixParts). next_parts x 0x21) is
end_follows node done f (rest_torn xs b n last is) = ap (λ (x : PrefixParts). next_parts x 0x21) is
end_follows node done f (rest_burst xs b last whole is) =
    ap (λ (x : PrefixParts). next_parts x 0x21) is
    ∙ rw whole refl
    ∙ ap (λ (zs : List CaptureItem). next_is (with_items node zs ended)) (sym last)

-- ---- one item, and all items

pub record Ran (node : ℕ) (done : List CaptureItem) (f : PrefixParts) (octets : List ℕ) : Type 0 where
  pub parts : PrefixParts
  pub rest : Rest node done parts
  pub ran : reads_from (next_is f) octets ≡ next_is parts

gap_counted : (node : ℕ) (done : List CaptureItem) (n : ℕ) → 1 ≤ n →
    reads_from (next_is (with_items node done (in_gap Nothing))) (count_octets n) ≡ next_is (with_items node (done ++ Gap n ∷ []) (in_burst no_symbols))
gap_counted node done n h =
    ap (λ (k : ℕ). end_gap node done k) (count_of-octets n)
    ∙ rw (ne_eqb n 0 (λ e. omega arith)) refl

ran_gap : (node : ℕ) (done : List CaptureItem) (f : PrefixParts) (n : ℕ) (ys : List CaptureItem) → Rest node done f → IsItem (Gap n) →
    Alternates (done ++ Gap n ∷ ys) → Ran node (done ++ Gap n ∷ []) f (item_octets (Gap n))
unfolding item_octets
ran_gap node done f n ys r h a = record {
  parts = with_items node (done ++ Gap n ∷ []) (in_burst no_symbols);
  rest = rest_gap done n refl refl;
  ran = ap (λ r. reads_from r (count_octets n)) (gap_follows node done f (Gap n) ys r refl a) ∙ gap_counted node done n h.0;
}

ran_burst : (node : ℕ) (done : List CaptureItem) (f : PrefixParts) (b : Beginning) (ys : List CaptureItem) → Rest node done f → IsItem (Burst b) →
    Alternates (done ++ Burst b ∷ ys) → Ran node (done ++ Burst b ∷ []) f (item_octets (Burst b))
unfolding item_octets
ran_burst node done f b ys r h a = record {
  parts = with_items node done (in_burst b);
  rest = rest_burst done b refl (burst_ends b h.0 h.1) refl;
  ran = ap (λ (x : PrefixParts). reads_from (next_is x) (symbol_octets b)) (burst_follows node done f (Burst b) ys r refl a) ∙ reads-burst node done b h.0;
}

blur_test : (b : Beginning) (n : ℕ) → IsBeginning b → (NeedsBlur b → 1 ≤ n) → (needs_blur b && (n == 0)) ≡ false
blur_test b n h k = by_need (needs_blur b) refl
  where
    by_need : (p : Bool) → needs_blur b ≡ p → (p && (n == 0)) ≡ false
    by_need true e = let some : 1 ≤ n = k (needed_blur b h e) in ne_eqb n 0 (λ z. omega arith)
    by_need false e = refl

blur_counted : (node : ℕ) (done : List CaptureItem) (b : Beginning) (n : ℕ) → IsItem (Torn b n) →
    reads_from (next_is (with_items node done (in_blur b Nothing))) (count_octets n) ≡ next_is (with_items node (done ++ Torn b n ∷ []) after_torn)
blur_counted node done b n h =
    ap (λ (k : ℕ). end_blur node done b k) (count_of-octets n)
    ∙ ap (λ (t : Bool). if t then fails CountZero else next_is (with_items node (done ++ Torn b n ∷ []) after_torn)) (blur_test b n h.0 h.2)

reads-torn : (node : ℕ) (done : List CaptureItem) (b : Beginning) (more' : List ℕ) → IsBeginning b →
    reads_from (next_is (with_items node done (in_burst no_symbols))) (symbol_octets b ++ 0x22 ∷ more') ≡ reads_from (next_is (with_items node done (in_blur b Nothing))) more'
reads-torn node done b more' h =
    reads-append (next_is (with_items node done (in_burst no_symbols))) (symbol_octets b) (0x22 ∷ more')
    ∙ ap (λ r. reads_from r (0x22 ∷ more')) (reads-burst node done b h)

ran_torn : (node : ℕ) (done : List CaptureItem) (f : PrefixParts) (b : Beginning) (n : ℕ) (ys : List CaptureItem) → Rest node done f → IsItem (Torn b n) →
    Alternates (done ++ Torn b n ∷ ys) → Ran node (done ++ Torn b n ∷ []) f (item_octets (Torn b n))
unfolding item_octets
ran_torn node done f b n ys r h a = record {
  parts = with_items node (done ++ Torn b n ∷ []) after_torn;
  rest = rest_torn done b n refl refl;
  ran = ap (λ (x : PrefixParts). reads_from (next_is x) (symbol_octets b ++ 0x22 ∷ count_octets n)) (burst_follows node done f (Torn b n) ys r refl a)
      ∙ reads-torn node done b (count_octets n) h.0
      ∙ blur_counted node done b n h;
}

ran_item : (node : ℕ) (done : List CaptureItem) (f : PrefixParts) (x : CaptureItem) (ys : List CaptureItem) → Rest node done f → IsItem x →
    Alternates (done ++ x ∷ ys) → Ran node (done ++ x ∷ []) f (item_octets x)
ran_item node done f (Gap n) ys r h a = ran_gap node done f n ys r h a
ran_item node done f (Burst b) ys r h a = ran_burst node done f b ys r h a
ran_item node done f (Torn b n) ys r h a = ran_torn node done f b n ys r h a

ran_items : (items : List CaptureItem) (node : ℕ) (done : List CaptureItem) (f : PrefixParts) → Rest node done f → IsItemList (done ++ items) →
    Ran node (done ++ items) f (octets_of items)
ran_items [] node done f r h = record {
  parts = f;
  rest = subst (λ (xs : List CaptureItem). Rest node xs f) (sym (append-nil done)) r;
  ran = refl;
}
ran_items (x ∷ xs) node done f r h =
    let same : (done ++ x ∷ []) ++ xs ≡ done ++ x ∷ xs = append_assoc done (x ∷ []) xs in
    let item : IsItem x = All-head IsItem x xs (All-back done (x ∷ xs) h.each) in
    let one : Ran node (done ++ x ∷ []) f (item_octets x) = ran_item node done f x xs r item h.alternate in
    let others : Ran node ((done ++ x ∷ []) ++ xs) one.parts (octets_of xs) =
    ran_items xs node (done ++ x ∷ []) one.parts one.rest (subst (λ (ys : List CaptureItem). IsItemList ys) (sym same) h) in
    record {
      parts = others.parts;
      rest = subst (λ (ys : List CaptureItem). Rest node ys others.parts) same others.rest;
      ran = reads-append (next_is f) (item_octets x) (octets_of xs)
          ∙ ap (λ r. reads_from r (octets_of xs)) one.ran
          ∙ others.ran;
    }

reads-header : (node : ℕ) → node < most_nodes → reads (header node) ≡ next_is (with_items node [] (in_burst no_symbols))
reads-header node h = rw (lt-ltb node most_nodes h) refl

pub record AtItems (node : ℕ) (items : List CaptureItem) : Type 0 where
  pub parts : PrefixParts
  pub rest : Rest node items parts
  pub read : reads (begun_text node items) ≡ next_is parts

pub reads-items : (node : ℕ) (items : List CaptureItem) → node < most_nodes → IsItemList items → AtItems node items
reads-items node items h v =
    let all : Ran node ([] ++ items) (with_items node [] (in_burst no_symbols)) (octets_of items) =
    ran_items items node [] (with_items node [] (in_burst no_symbols)) (rest_first refl refl) v in
    record {
      parts = all.parts;
      rest = all.rest;
      read = reads-append (next_is (in_magic 0)) (header node) (octets_of items)
          ∙ ap (λ r. reads_from r (octets_of items)) (reads-header node h)
          ∙ all.ran;
    }

-- ---- whatever octets are made of, they read to that

-- octets after items
reads-with_items : (node : ℕ) (items : List CaptureItem) (more' : List ℕ) (a : AtItems node items) (g : NextParts) → reads_from (next_is a.parts) more' ≡ g →
    reads (begun_text node items ++ more') ≡ g
reads-with_items node items more' a g e =
    reads-append (next_is (in_magic 0)) (begun_text node items) more' ∙ ap (λ r. reads_from r more') a.read ∙ e

counts_gap : (node : ℕ) (items : List CaptureItem) (count : CountSoFar) →
    reads_from (next_is (with_items node items (in_gap Nothing))) (counted_octets count) ≡ next_is (with_items node items (in_gap count))
counts_gap node items Nothing = refl
counts_gap node items (One a) = refl
counts_gap node items (Two a b) = refl
counts_gap node items (Three a b c) = refl

counts_blur : (node : ℕ) (items : List CaptureItem) (b : Beginning) (count : CountSoFar) →
    reads_from (next_is (with_items node items (in_blur b Nothing))) (counted_octets count) ≡ next_is (with_items node items (in_blur b count))
counts_blur node items b Nothing = refl
counts_blur node items b (One a) = refl
counts_blur node items b (Two a c) = refl
counts_blur node items b (Three a c d) = refl

torn_rest : (node : ℕ) (items : List CaptureItem) (f : PrefixParts) (xs : List CaptureItem) (b : Beginning) (n : ℕ) → Rest node items f →
    items ≡ xs ++ Torn b n ∷ [] → f ≡ with_items node items after_torn
torn_rest node items f xs b n (rest_first none is) e = absurd (no_last xs (Torn b n) (sym e ∙ none))
torn_rest node items f xs b n (rest_gap ys m last is) e = let k = (last_of xs ys (Torn b n) (Gap m) (sym e ∙ last)).1 in cc
torn_rest node items f xs b n (rest_torn ys c m last is) e = is
torn_rest node items f xs b n (rest_burst ys c last whole is) e = let k = (last_of xs ys (Torn b n) (Burst c) (sym e ∙ last)).1 in cc

reads-tail : (node : ℕ) (items : List CaptureItem) (tail : Tail) → ArePartsInRange (with_items node items tail) →
    reads (parts_octets (with_items node items tail)) ≡ next_is (with_items node items tail)
reads-tail node items (in_gap count) h =
    let a = reads-items node items h.0 (list_before items (Gap 1 ∷ []) h.1.0) in
    reads-with_items node items (0x20 ∷ counted_octets count) a (next_is (with_items node items (in_gap count)))
    (ap (λ r. reads_from r (counted_octets count)) (gap_follows node items a.parts (Gap 1) [] a.rest refl h.1.0.alternate)
    ∙ counts_gap node items count)
reads-tail node items (in_burst b) h =
    let a = reads-items node items h.0 (list_before items (Torn b 1 ∷ []) h.1) in
    reads-with_items node items (symbol_octets b) a (next_is (with_items node items (in_burst b)))
    (ap (λ (x : PrefixParts). reads_from (next_is x) (symbol_octets b)) (burst_follows node items a.parts (Torn b 1) [] a.rest refl h.1.alternate)
    ∙ reads-burst node items b (begun items b h.1))
reads-tail node items (in_blur b count) h =
    let a = reads-items node items h.0 (list_before items (Torn b 1 ∷ []) h.1.0) in
    reads-with_items node items (symbol_octets b ++ 0x22 ∷ counted_octets count) a (next_is (with_items node items (in_blur b count)))
    (ap (λ (x : PrefixParts). reads_from (next_is x) (symbol_octets b ++ 0x22 ∷ counted_octets count)) (burst_follows node items a.parts (Torn b 1) [] a.rest refl h.1.0.alternate)
    ∙ reads-torn node items b (counted_octets count) (begun items b h.1.0)
    ∙ counts_blur node items b count)
reads-tail node items after_torn h =
    let t = h.1.1 in
    let a = reads-items node items h.0 h.1.0 in
    reads-with_items node items [] a (next_is (with_items node items after_torn))
    (ap (λ (x : PrefixParts). next_is x) (torn_rest node items a.parts t.0 t.1 t.2 a.rest t.3))
reads-tail node items ended h =
    let a = reads-items node items h.0 h.1 in
    reads-with_items node items (0x21 ∷ []) a (next_is (with_items node items ended)) (end_follows node items a.parts a.rest)

reads-magic : (n : ℕ) → n < 4 → reads (take n magic) ≡ next_is (in_magic n)
reads-magic zero h = refl
reads-magic (suc zero) h = refl
reads-magic (suc (suc zero)) h = refl
reads-magic (suc (suc (suc zero))) h = refl
reads-magic (suc (suc (suc (suc n)))) h = absurd (omega arith)

pub reads-parts : (f : PrefixParts) → ArePartsInRange f → reads (parts_octets f) ≡ next_is f
reads-parts (in_magic n) h = reads-magic n h
reads-parts at_version h = refl
reads-parts at_node h = refl
reads-parts (with_items node items tail) h = reads-tail node items tail h
