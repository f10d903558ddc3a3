-- What is cut from ticks, row by row, and what is read of a row.
use Rattle.std.proofs.Common.{◌≡◌, ◌≢◌, ℕ, ◌+◌, ◌*◌, ◌-◌, ◌<◌, Bool, true, false, not, List, [], ◌∷◌, ◌++◌, length, Option, None, Some, Result, Ok, Err, is_ok, refl, sym, ap, subst, ◌∙◌, arith, append_assoc, length-append, if◌then◌else◌}
use Rattle.std.specs.Prelude.{◌==◌, ◌&&◌}
use Rattle.std.specs.List.{flat_map}
use Rattle.std.proofs.lemmas.Bool.{eqb-true, eq-eqb, and_parts}
use Rattle.std.proofs.lemmas.List.{append-nil}
use Rattle.t1s_symbols.specs.declared.Symbol.{Symbol}
use Rattle.t1s_symbols.specs.declared.Quarter.{Quarter}
use Rattle.t1s_symbols.specs.declared.Heard.{Heard}
use Rattle.t1s_symbols.specs.declared.Heard.TheVariants.{Nothing, One, Many}
use Rattle.t1s_symbols.specs.Symbols.{same_symbol}
use Rattle.t1s_symbols.specs.Ranges.{IsSymbol}
use Rattle.t1s_symbols.proofs.Quarters.{same_symbol-refl, same_symbol-sound}
use Rattle.t1s_grammar.specs.Burst.{IsBurst, BeginsBurst}
use Rattle.t1s_grammar.specs.Prefixes.{Beginning, beginning_symbols, IsBeginning, phase_of}
use Rattle.t1s_grammar.specs.PlaceTable.{place_step, ends_burst}
use Rattle.t1s_grammar.specs.declared.place.Phase.{Phase}
use Rattle.t1s_grammar.specs.declared.place.PlaceFault.{PlaceFault}
use Rattle.t1s_grammar.proofs.Beginnings.{BeginsBurst-stands, taken-begins}
use Rattle.t1s_capture.specs.Captures.{CaptureItem, Gap, Burst, Torn, no_symbols, symbol_count}
use Rattle.t1s_grammar.specs.Longer.{with_symbol}
use Rattle.t1s_capture.specs.Cut.{Tick, is_silent, AreSilent, AreHeard, quarter_heard, quarter_of, is_part, symbol_by, on_place, on_symbol, read_on, burst_or_torn, row_items, goes_on, cut_from, cut}
use Rattle.t1s_capture.specs.CutRows.{part_tick, symbol_ticks, CutsReadWhatIsHeard, SilenceIsOneGap, RowsAreCutApart}
use Rattle.t1s_grammar.proofs.Longer.{more}
use Rattle.t1s_capture.proofs.Sound.{burst_place, is_burst, burst_ends}
use Rattle.t1s_capture.proofs.Cuts.{goes_same}
use Rattle.t1s_capture.proofs.CutItems.{quarter_symbol, symbol_read, read_begins, nothing_begun}

-- ---- one symbol

-- the symbol whose parts four ticks are
abbrev pub symbol_in : Tick → Tick → Tick → Tick → Option Symbol
symbol_in t u v w = symbol_by (quarter_of t) (quarter_of u) (quarter_of v) (quarter_of w)

symbol_heard : (s : Symbol) → symbol_in (part_tick s 0) (part_tick s 1) (part_tick s 2) (part_tick s 3) ≡ Some s
symbol_heard s = ap (λ (b : Bool). if true && ((b && true) && ((b && true) && (b && true))) then Some s else None) (same_symbol-refl s)

heard_alone : (h : Heard) (own : Bool) (q : Quarter) → quarter_heard h own ≡ Some q → ◌≡◌ {A = Tick} (h, own) (One q, false)
heard_alone Nothing own q e = cc
heard_alone (One p) true q e = cc
heard_alone (One p) false q e = let same : p ≡ q = cc in ap (λ (x : Quarter). (One x, false)) same
heard_alone Many own q e = cc

-- the tick of a part
part_heard : (s : Symbol) (part : ℕ) (t : Tick) (o : Option Quarter) → quarter_of t ≡ o → is_part s part o ≡ true → t ≡ part_tick s part
part_heard s part t None e k = cc
part_heard s part t (Some q) e k =
    let parts = and_parts (same_symbol s q.sym) (q.part == part) k in
    let same : s ≡ q.sym = same_symbol-sound s q.sym parts.0 in
    let is : q.part ≡ part = eqb-true q.part part parts.1 in
    heard_alone t.0 t.1 q e
    ∙ ap (λ (x : Symbol). (One (record { sym = x; part = q.part }), false)) (sym same)
    ∙ ap (λ (n : ℕ). (One (record { sym = s; part = n }), false)) is

-- four ticks that are the parts of a symbol
are_parts : (t u v w : Tick) (s : Symbol) → symbol_in t u v w ≡ Some s → t ∷ u ∷ v ∷ w ∷ [] ≡ symbol_ticks s
are_parts t u v w s e = by_first (quarter_of t) refl e
  where
    by_test : (q : Quarter) → quarter_of t ≡ Some q → (a b c d : Bool) → (q.part == 0) ≡ a → is_part q.sym 1 (quarter_of u) ≡ b → is_part q.sym 2 (quarter_of v) ≡ c → is_part q.sym 3 (quarter_of w) ≡ d →
        ◌≡◌ {A = Option Symbol} (if a && (b && (c && d)) then Some q.sym else None) (Some s) → t ∷ u ∷ v ∷ w ∷ [] ≡ symbol_ticks s
    by_test q k true true true true ea eb ec ed f =
        let same : q.sym ≡ s = cc in
        let zero_part : q.part ≡ 0 = eqb-true q.part 0 ea in
        let first : t ≡ part_tick q.sym 0 = heard_alone t.0 t.1 q k ∙ ap (λ (n : ℕ). (One (record { sym = q.sym; part = n }), false)) zero_part in
        let second = part_heard q.sym 1 u (quarter_of u) refl eb in
        let third = part_heard q.sym 2 v (quarter_of v) refl ec in
        let fourth = part_heard q.sym 3 w (quarter_of w) refl ed in
        ap (λ (x : Tick). x ∷ u ∷ v ∷ w ∷ []) first
        ∙ ap (λ (x : Tick). part_tick q.sym 0 ∷ x ∷ v ∷ w ∷ []) second
        ∙ ap (λ (x : Tick). part_tick q.sym 0 ∷ part_tick q.sym 1 ∷ x ∷ w ∷ []) third
        ∙ ap (λ (x : Tick). part_tick q.sym 0 ∷ part_tick q.sym 1 ∷ part_tick q.sym 2 ∷ x ∷ []) fourth
        ∙ ap symbol_ticks same
    by_test q k false b c d ea eb ec ed f = cc
    by_test q k true false c d ea eb ec ed f = cc
    by_test q k true true false d ea eb ec ed f = cc
    by_test q k true true true false ea eb ec ed f = cc

    by_first : (o : Option Quarter) → quarter_of t ≡ o → symbol_by o (quarter_of u) (quarter_of v) (quarter_of w) ≡ Some s → t ∷ u ∷ v ∷ w ∷ [] ≡ symbol_ticks s
    by_first None k f = cc
    by_first (Some q) k f =
        by_test q k (q.part == 0) (is_part q.sym 1 (quarter_of u)) (is_part q.sym 2 (quarter_of v)) (is_part q.sym 3 (quarter_of w)) refl refl refl refl f

-- four ticks with which a symbol begins are read as it
read_as : (t u v w : Tick) (s : Symbol) (rest others : List Tick) → t ∷ u ∷ v ∷ w ∷ rest ≡ symbol_ticks s ++ others → symbol_in t u v w ≡ Some s
read_as t u v w s rest others e =
    let first : t ≡ part_tick s 0 = cc in
    let second : u ≡ part_tick s 1 = cc in
    let third : v ≡ part_tick s 2 = cc in
    let fourth : w ≡ part_tick s 3 = cc in
    ap (λ (x : Tick). symbol_in x u v w) first
    ∙ ap (λ (x : Tick). symbol_in (part_tick s 0) x v w) second
    ∙ ap (λ (x : Tick). symbol_in (part_tick s 0) (part_tick s 1) x w) third
    ∙ ap (λ (x : Tick). symbol_in (part_tick s 0) (part_tick s 1) (part_tick s 2) x) fourth
    ∙ symbol_heard s

-- ---- all ticks of a row

-- what is read of ticks after the symbols b
record Reads (b : Beginning) (ts : List Tick) : Type 0 where
  symbols : List Symbol
  left : List Tick
  adds : beginning_symbols (read_on b ts) ≡ beginning_symbols b ++ symbols
  heard : ts ≡ flat_map symbol_ticks symbols ++ left
  longest : (s : Symbol) (rest : List Tick) → left ≡ symbol_ticks s ++ rest → BeginsBurst (beginning_symbols (read_on b ts) ++ s ∷ []) → ⊥

-- ticks of which no symbol is read
reads_none : (b : Beginning) (ts : List Tick) → read_on b ts ≡ b →
    ((s : Symbol) (rest : List Tick) → ts ≡ symbol_ticks s ++ rest → BeginsBurst (beginning_symbols b ++ s ∷ []) → ⊥) → Reads b ts
reads_none b ts same none = record {
  symbols = [];
  left = ts;
  adds = ap beginning_symbols same ∙ sym (append-nil (beginning_symbols b));
  heard = refl;
  longest = λ s rest e k. none s rest e (subst (λ (c : Beginning). BeginsBurst (beginning_symbols c ++ s ∷ [])) same k);
}

-- fewer than four
reads_few : (b : Beginning) (ts : List Tick) → length ts < 4 → read_on b ts ≡ b → Reads b ts
reads_few b ts few same =
    reads_none b ts same
    (λ s rest e k. absurd (let long : length ts ≡ length (symbol_ticks s ++ rest) = ap length e in omega (arith, few, long)))

-- four ticks that are a symbol, which may stand there
reads_more : (b c : Beginning) (s : Symbol) (ts first rest : List Tick) → ts ≡ first ++ rest → first ≡ symbol_ticks s →
    read_on b ts ≡ read_on c rest → beginning_symbols c ≡ beginning_symbols b ++ s ∷ [] → Reads c rest → Reads b ts
reads_more b c s ts first rest parts is same more_symbols r = record {
  symbols = s ∷ r.symbols;
  left = r.left;
  adds =
      ap beginning_symbols same
      ∙ r.adds
      ∙ ap (λ (ss : List Symbol). ss ++ r.symbols) more_symbols
      ∙ append_assoc (beginning_symbols b) (s ∷ []) r.symbols;
  heard =
      parts
      ∙ ap (λ (xs : List Tick). xs ++ rest) is
      ∙ ap (λ (xs : List Tick). symbol_ticks s ++ xs) r.heard;
  longest = λ x others e k. r.longest x others e (subst (λ (d : Beginning). BeginsBurst (beginning_symbols d ++ x ∷ [])) same k);
}

begun_place : (b : Beginning) → IsBeginning b → BeginsBurst (beginning_symbols b)
begun_place b h = BeginsBurst-stands (beginning_symbols b) (phase_of b) (burst_place b h)

reads : (ts : List Tick) (b : Beginning) → IsBeginning b → AreHeard ts → Reads b ts
reads [] b h r = reads_few b [] (omega arith) refl
reads (t ∷ []) b h r = reads_few b (t ∷ []) (omega arith) refl
reads (t ∷ u ∷ []) b h r = reads_few b (t ∷ u ∷ []) (omega arith) refl
reads (t ∷ u ∷ v ∷ []) b h r = reads_few b (t ∷ u ∷ v ∷ []) (omega arith) refl
reads (t ∷ u ∷ v ∷ w ∷ rest) b h r = by_symbol (λ c k. reads rest c k r.1.1.1.1) (symbol_in t u v w) refl
  where
    on_ticks : (o : Option Symbol) → symbol_in t u v w ≡ o → read_on b (t ∷ u ∷ v ∷ w ∷ rest) ≡ on_symbol b o (λ c. read_on c rest)
    on_ticks o e = ap (λ (x : Option Symbol). on_symbol b x (λ c. read_on c rest)) e

    by_place : ((c : Beginning) → IsBeginning c → Reads c rest) → (s : Symbol) → symbol_in t u v w ≡ Some s → IsSymbol s → (x : Result Phase PlaceFault) → place_step (phase_of b) s ≡ x →
        Reads b (t ∷ u ∷ v ∷ w ∷ rest)
    by_place others s e k (Ok q) f =
        let m = more b s q f in
        let same : read_on b (t ∷ u ∷ v ∷ w ∷ rest) ≡ read_on (with_symbol b s) rest =
        on_ticks (Some s) e ∙ ap (λ (x : Result Phase PlaceFault). on_place b s x (λ c. read_on c rest)) f in
        reads_more b (with_symbol b s) s (t ∷ u ∷ v ∷ w ∷ rest) (t ∷ u ∷ v ∷ w ∷ []) rest refl (are_parts t u v w s e) same m.symbols (others (with_symbol b s) (m.in_range h k))
    by_place others s e k (Err fault) f =
        let same : read_on b (t ∷ u ∷ v ∷ w ∷ rest) ≡ b =
        on_ticks (Some s) e ∙ ap (λ (x : Result Phase PlaceFault). on_place b s x (λ c. read_on c rest)) f in
        reads_none b (t ∷ u ∷ v ∷ w ∷ rest) same
        (λ x others_left is begins.
        let other : symbol_in t u v w ≡ Some x = read_as t u v w x rest others_left is in
        let one : s ≡ x = cc in
        let taken : is_ok (place_step (phase_of b) x) ≡ true = taken-begins (beginning_symbols b) (phase_of b) x (burst_place b h) begins in
        cc)

    by_symbol : ((c : Beginning) → IsBeginning c → Reads c rest) → (o : Option Symbol) → symbol_in t u v w ≡ o → Reads b (t ∷ u ∷ v ∷ w ∷ rest)
    by_symbol others None e =
        reads_none b (t ∷ u ∷ v ∷ w ∷ rest) (on_ticks None e)
        (λ x others_left is begins. let other : symbol_in t u v w ≡ Some x = read_as t u v w x rest others_left is in cc)
    by_symbol others (Some s) e =
        by_place others s e
        (symbol_read (quarter_of t) (quarter_of u) (quarter_of v) (quarter_of w) s (λ q k. quarter_symbol t.0 t.1 q r.0 k) e)
        (place_step (phase_of b) s) refl

-- ---- rows

-- a row that has begun, and more ticks of it
one_row : (ts : List Tick) (b : Bool) (r : Tick) (rs : List Tick) → is_silent r ≡ b → AreSilent b ts → cut_from (r ∷ rs) ts ≡ row_items (r ∷ (rs ++ ts))
one_row [] b r rs e h = ap (λ (xs : List Tick). row_items (r ∷ xs)) (sym (append-nil rs))
one_row (t ∷ ts) b r rs e h =
    ap (λ (x : Bool). if x then cut_from (r ∷ (rs ++ t ∷ [])) ts else row_items (r ∷ rs) ++ cut_from (t ∷ []) ts) (goes b e h.0)
    ∙ one_row ts b r (rs ++ t ∷ []) e h.1
    ∙ ap (λ (xs : List Tick). row_items (r ∷ xs)) (append_assoc rs (t ∷ []) ts)
  where
    goes : (x : Bool) → is_silent r ≡ x → is_silent t ≡ x → goes_on (r ∷ rs) t ≡ true
    goes true f g = ap (λ (y : Bool). if y then is_silent t else not (is_silent t)) f ∙ g
    goes false f g = ap (λ (y : Bool). if y then is_silent t else not (is_silent t)) f ∙ ap not g

cut_row : (b : Bool) (t : Tick) (ts : List Tick) → AreSilent b (t ∷ ts) → cut (t ∷ ts) ≡ row_items (t ∷ ts)
unfolding cut
cut_row b t ts h = one_row ts b t [] h.0 h.1

pub silence_is_one_gap : SilenceIsOneGap
silence_is_one_gap [] some h = absurd (some refl)
silence_is_one_gap (t ∷ ts) some h =
    cut_row true t ts h
    ∙ ap (λ (b : Bool). (if b then Gap (length (t ∷ ts)) else burst_or_torn (read_on no_symbols (t ∷ ts)) (length (t ∷ ts))) ∷ []) h.0

length-heard : (ss : List Symbol) → length (flat_map symbol_ticks ss) ≡ 4 * length ss
length-heard [] = refl
length-heard (s ∷ ss) = omega (arith, length-append (symbol_ticks s) (flat_map symbol_ticks ss), length-heard ss)

no_ticks : (ts : List Tick) → length ts ≡ 0 → ts ≡ []
no_ticks [] e = refl
no_ticks (t ∷ ts) e = absurd (omega arith)

-- the item of a row, by what is left over
item_whole : (c : Beginning) (n : ℕ) (left : List Tick) → IsBeginning c → n ≡ 4 * symbol_count c + length left → left ≡ [] → IsBurst (beginning_symbols c) → burst_or_torn c n ≡ Burst c
item_whole c n left h e none burst =
    let zero_left : length left ≡ 0 = ap length none in
    let whole : (n == 4 * symbol_count c) ≡ true = eq-eqb n (4 * symbol_count c) (omega (arith, e, zero_left)) in
    ap (λ (b : Bool). if b && ends_burst (phase_of c) then Burst c else Torn c (n - 4 * symbol_count c)) whole
    ∙ ap (λ (b : Bool). if b then Burst c else Torn c (n - 4 * symbol_count c)) (burst_ends c h burst)

item_torn : (c : Beginning) (n : ℕ) (left : List Tick) → IsBeginning c → n ≡ 4 * symbol_count c + length left → (left ≡ [] → IsBurst (beginning_symbols c) → ⊥) → burst_or_torn c n ≡ Torn c (length left)
item_torn c n left h e apart = by_test (n == 4 * symbol_count c) (ends_burst (phase_of c)) refl refl
  where
    blur : n - 4 * symbol_count c ≡ length left
    blur = omega (arith, e)

    by_test : (p q : Bool) → (n == 4 * symbol_count c) ≡ p → ends_burst (phase_of c) ≡ q →
        (if p && q then Burst c else Torn c (n - 4 * symbol_count c)) ≡ Torn c (length left)
    by_test true true ep eq =
        let same : n ≡ 4 * symbol_count c = eqb-true n (4 * symbol_count c) ep in
        absurd (apart (no_ticks left (omega (arith, e, same))) (is_burst c h eq))
    by_test true false ep eq = ap (λ (k : ℕ). Torn c k) blur
    by_test false q ep eq = ap (λ (k : ℕ). Torn c k) blur

pub cuts_read_what_is_heard : CutsReadWhatIsHeard
cuts_read_what_is_heard [] some sound r = absurd (some refl)
cuts_read_what_is_heard (t ∷ ts) some sound r =
    let row = reads (t ∷ ts) no_symbols nothing_begun r in
    let begun = read_begins (t ∷ ts) no_symbols nothing_begun r in
    let counted : length (t ∷ ts) ≡ 4 * symbol_count (read_on no_symbols (t ∷ ts)) + length row.left =
    ap length row.heard ∙ length-append (flat_map symbol_ticks row.symbols) row.left ∙ ap (λ (n : ℕ). n + length row.left) (length-heard row.symbols ∙ ap (λ (ss : List Symbol). 4 * length ss) (sym row.adds)) in
    let item : cut (t ∷ ts) ≡ burst_or_torn (read_on no_symbols (t ∷ ts)) (length (t ∷ ts)) ∷ [] =
    cut_row false t ts sound
    ∙ ap (λ (b : Bool). (if b then Gap (length (t ∷ ts)) else burst_or_torn (read_on no_symbols (t ∷ ts)) (length (t ∷ ts))) ∷ []) sound.0 in
    record {
      symbols = read_on no_symbols (t ∷ ts);
      left = row.left;
      read = record {
        heard = row.heard ∙ ap (λ (ss : List Symbol). flat_map symbol_ticks ss ++ row.left) (sym row.adds);
        begins = begun_place (read_on no_symbols (t ∷ ts)) begun;
        longest = row.longest;
      };
      whole = λ none burst. item ∙ ap (λ (x : CaptureItem). x ∷ []) (item_whole (read_on no_symbols (t ∷ ts)) (length (t ∷ ts)) row.left begun counted none burst);
      torn = λ apart. item ∙ ap (λ (x : CaptureItem). x ∷ []) (item_torn (read_on no_symbols (t ∷ ts)) (length (t ∷ ts)) row.left begun counted apart);
    }

-- ---- rows that are cut apart

new_row : (row : List Tick) (x y : Tick) → is_silent x ≢ is_silent y → goes_on row x ≡ true → goes_on (row ++ x ∷ []) y ≡ false
new_row [] x y apart e = by_kind (is_silent x) (is_silent y) refl refl
  where
    by_kind : (a b : Bool) → is_silent x ≡ a → is_silent y ≡ b → (if a then b else not b) ≡ false
    by_kind true true f g = absurd (apart (f ∙ sym g))
    by_kind true false f g = refl
    by_kind false true f g = refl
    by_kind false false f g = absurd (apart (f ∙ sym g))
new_row (r ∷ rs) x y apart e =
    let same = goes_same r x rs e in
    by_kind (is_silent r) (is_silent y) (λ k. apart (same ∙ k)) refl
  where
    by_kind : (a b : Bool) → (a ≡ b → ⊥) → is_silent y ≡ b → (if a then b else not b) ≡ false
    by_kind true true f g = absurd (f refl)
    by_kind true false f g = refl
    by_kind false true f g = refl
    by_kind false false f g = absurd (f refl)

apart_from : (before row after : List Tick) (x y : Tick) → is_silent x ≢ is_silent y →
    cut_from row (before ++ x ∷ y ∷ after) ≡ cut_from row (before ++ x ∷ []) ++ cut_from (y ∷ []) after
apart_from [] row after x y apart = by_test (goes_on row x) refl
  where
    ends : (rs : List Tick) → goes_on rs y ≡ false → cut_from rs (y ∷ after) ≡ row_items rs ++ cut_from (y ∷ []) after
    ends rs e = ap (λ (b : Bool). if b then cut_from (rs ++ y ∷ []) after else row_items rs ++ cut_from (y ∷ []) after) e

    by_test : (b : Bool) → goes_on row x ≡ b →
        (if b then cut_from (row ++ x ∷ []) (y ∷ after) else row_items row ++ cut_from (x ∷ []) (y ∷ after))
        ≡ (if b then row_items (row ++ x ∷ []) else row_items row ++ row_items (x ∷ [])) ++ cut_from (y ∷ []) after
    by_test true e = ends (row ++ x ∷ []) (new_row row x y apart e)
    by_test false e =
        ap (λ (xs : List CaptureItem). row_items row ++ xs) (ends (x ∷ []) (new_row [] x y apart refl))
        ∙ sym (append_assoc (row_items row) (row_items (x ∷ [])) (cut_from (y ∷ []) after))
apart_from (z ∷ zs) row after x y apart =
    by_test (goes_on row z) (apart_from zs (row ++ z ∷ []) after x y apart) (apart_from zs (z ∷ []) after x y apart)
  where
    by_test : (b : Bool) →
        cut_from (row ++ z ∷ []) (zs ++ x ∷ y ∷ after) ≡ cut_from (row ++ z ∷ []) (zs ++ x ∷ []) ++ cut_from (y ∷ []) after →
        cut_from (z ∷ []) (zs ++ x ∷ y ∷ after) ≡ cut_from (z ∷ []) (zs ++ x ∷ []) ++ cut_from (y ∷ []) after →
        (if b then cut_from (row ++ z ∷ []) (zs ++ x ∷ y ∷ after) else row_items row ++ cut_from (z ∷ []) (zs ++ x ∷ y ∷ after))
        ≡ (if b then cut_from (row ++ z ∷ []) (zs ++ x ∷ []) else row_items row ++ cut_from (z ∷ []) (zs ++ x ∷ [])) ++ cut_from (y ∷ []) after
    by_test true e f = e
    by_test false e f =
        ap (λ (xs : List CaptureItem). row_items row ++ xs) f
        ∙ sym (append_assoc (row_items row) (cut_from (z ∷ []) (zs ++ x ∷ [])) (cut_from (y ∷ []) after))

pub rows_are_cut_apart : RowsAreCutApart
unfolding cut
rows_are_cut_apart before after x y apart = apart_from before [] after x y apart
