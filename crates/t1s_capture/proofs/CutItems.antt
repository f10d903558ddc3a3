-- What is cut from ticks may stand in a capture.
use Rattle.std.proofs.Common.{◌≡◌, ◌≢◌, ℕ, zero, suc, ◌+◌, ◌*◌, ◌-◌, ◌^◌, ◌<◌, ◌≤◌, ◌⊎◌, Bool, true, false, not, List, [], ◌∷◌, ◌++◌, length, Option, None, Some, Result, Ok, Err, refl, sym, ap, subst, ◌∙◌, inl, inr, arith, length-append, if◌then◌else◌}
use Rattle.std.specs.Prelude.{◌==◌, ◌&&◌, All}
use Rattle.std.proofs.lemmas.Bool.{eqb-true, eqb-false}
use Rattle.std.proofs.lemmas.List.Elements.{All-cons}
use Rattle.std.proofs.lemmas.List.Sums.{sum_by-append}
use Rattle.t1s_symbols.specs.declared.Symbol.{Symbol}
use Rattle.t1s_symbols.specs.declared.Quarter.{Quarter}
use Rattle.t1s_symbols.specs.declared.Heard.{Heard}
use Rattle.t1s_symbols.specs.declared.Heard.TheVariants.{Nothing, One, Many}
use Rattle.t1s_symbols.specs.Ranges.{IsSymbol, IsHeard}
use Rattle.t1s_grammar.specs.Prefixes.{Beginning, beginning_symbols, IsBeginning, phase_of}
use Rattle.t1s_grammar.specs.PlaceTable.{start_phase, place_step, ends_burst}
use Rattle.t1s_grammar.specs.declared.place.Phase.{Phase}
use Rattle.t1s_grammar.specs.declared.place.PlaceFault.{PlaceFault}
use Rattle.t1s_capture.specs.Captures.{CaptureItem, Gap, Burst, Torn, no_symbols, symbol_count, item_ticks, NeedsBlur, IsItem, is_gap, AlternatesFrom, IsItemList, ticks_of}
use Rattle.t1s_capture.specs.Cut.{Tick, is_silent, AreSilent, IsRow, quarter_heard, quarter_of, is_part, symbol_by, on_place, on_symbol, read_on, burst_or_torn, row_items, goes_on, cut_from, cut, AreHeard, CutsAreCaptures}
use Rattle.t1s_capture.specs.WriterTable.{reading, row_from}
use Rattle.t1s_grammar.proofs.Longer.{more}
use Rattle.t1s_capture.proofs.Sound.{is_burst, burst_ends}
use Rattle.t1s_capture.proofs.Rows.{ReadsTo, row_reads}
use Rattle.t1s_capture.proofs.Cuts.{goes_apart, row_push}

-- ---- the symbols that are read

pub quarter_symbol : (h : Heard) (own : Bool) (q : Quarter) → IsHeard h → quarter_heard h own ≡ Some q → IsSymbol q.sym
quarter_symbol Nothing own q r e = cc
quarter_symbol (One p) true q r e = cc
quarter_symbol (One p) false q r e =
    let same : p ≡ q = cc in subst (λ (x : Quarter). IsSymbol x.sym) same r.sym
quarter_symbol Many own q r e = cc

pub symbol_read : (a b c d : Option Quarter) (s : Symbol) → ((q : Quarter) → a ≡ Some q → IsSymbol q.sym) → symbol_by a b c d ≡ Some s → IsSymbol s
symbol_read None b c d s h e = cc
symbol_read (Some q) b c d s h e = by_test ((q.part == 0) && (is_part q.sym 1 b && (is_part q.sym 2 c && is_part q.sym 3 d))) e
  where
    by_test : (p : Bool) → ◌≡◌ {A = Option Symbol} (if p then Some q.sym else None) (Some s) → IsSymbol s
    by_test true k = let same : q.sym ≡ s = cc in subst IsSymbol same (h q refl)
    by_test false k = cc

pub read_begins : (ts : List Tick) (b : Beginning) → IsBeginning b → AreHeard ts → IsBeginning (read_on b ts)
read_begins [] b h r = h
read_begins (t ∷ []) b h r = h
read_begins (t ∷ u ∷ []) b h r = h
read_begins (t ∷ u ∷ v ∷ []) b h r = h
read_begins (t ∷ u ∷ v ∷ w ∷ rest) b h r =
    by_symbol (λ c k. read_begins rest c k r.1.1.1.1) (symbol_by (quarter_of t) (quarter_of u) (quarter_of v) (quarter_of w)) refl
  where
    by_place : ((c : Beginning) → IsBeginning c → IsBeginning (read_on c rest)) → (s : Symbol) → IsSymbol s → (x : Result Phase PlaceFault) → place_step (phase_of b) s ≡ x →
        IsBeginning (on_place b s x (λ c. read_on c rest))
    by_place others s k (Ok q) e = others _ ((more b s q e).in_range h k)
    by_place others s k (Err y) e = h

    by_symbol : ((c : Beginning) → IsBeginning c → IsBeginning (read_on c rest)) → (o : Option Symbol) → symbol_by (quarter_of t) (quarter_of u) (quarter_of v) (quarter_of w) ≡ o →
        IsBeginning (on_symbol b o (λ c. read_on c rest))
    by_symbol others None e = h
    by_symbol others (Some s) e =
        by_place others s
        (symbol_read (quarter_of t) (quarter_of u) (quarter_of v) (quarter_of w) s (λ q k. quarter_symbol t.0 t.1 q r.0 k) e)
        (place_step (phase_of b) s) refl

-- ---- the item of a row

pub nothing_begun : IsBeginning no_symbols
nothing_begun = (record { count = omega arith; in_range = λ k d lt. absurd (omega arith) }, omega arith)

no_count : (c : Beginning) → beginning_symbols c ≡ [] → symbol_count c ≡ 0
no_count c e = ap length e

burst_item_of : (c : Beginning) (n left : ℕ) → IsBeginning c → 1 ≤ n → n < 2 ^ 32 → n ≡ 4 * symbol_count c + left →
    IsItem (burst_or_torn c n) × (is_gap (burst_or_torn c n) ≡ false) × (item_ticks (burst_or_torn c n) ≡ n)
burst_item_of c n left h some few e = by_test (n == 4 * symbol_count c) (ends_burst (phase_of c)) refl refl
  where
    torn : (NeedsBlur c → 1 ≤ n - 4 * symbol_count c) →
        IsItem (Torn c (n - 4 * symbol_count c)) × (is_gap (Torn c (n - 4 * symbol_count c)) ≡ false) × (item_ticks (Torn c (n - 4 * symbol_count c)) ≡ n)
    torn k = ((h, omega (arith, few), k), refl, omega (arith, e))

    needs : (n ≢ 4 * symbol_count c) ⊎ (ends_burst (phase_of c) ≡ false) → NeedsBlur c → 1 ≤ n - 4 * symbol_count c
    needs x (inl none) = let z : symbol_count c ≡ 0 = no_count c none in omega (arith, z, some)
    needs (inl apart) (inr burst) = by_left left e
      where
        by_left : (l : ℕ) → n ≡ 4 * symbol_count c + l → 1 ≤ n - 4 * symbol_count c
        by_left zero k = absurd (apart (omega (arith, k)))
        by_left (suc l) k = omega (arith, k)
    needs (inr none) (inr burst) = let k = sym (burst_ends c h burst) ∙ none in cc

    by_test : (p q : Bool) → (n == 4 * symbol_count c) ≡ p → ends_burst (phase_of c) ≡ q →
        IsItem (if p && q then Burst c else Torn c (n - 4 * symbol_count c)) × (is_gap (if p && q then Burst c else Torn c (n - 4 * symbol_count c)) ≡ false)
        × (item_ticks (if p && q then Burst c else Torn c (n - 4 * symbol_count c)) ≡ n)
    by_test true true ep eq = ((h, is_burst c h eq), refl, sym (eqb-true n (4 * symbol_count c) ep))
    by_test true false ep eq = torn (needs (inr eq))
    by_test false q ep eq = torn (needs (inl (eqb-false n (4 * symbol_count c) ep)))

-- the item of a row
abbrev pub row_item : Tick → List Tick → CaptureItem
row_item t ts =
    if is_silent t then Gap (length (t ∷ ts)) else burst_or_torn (read_on no_symbols (t ∷ ts)) (length (t ∷ ts))

pub record IsRowItem (t : Tick) (ts : List Tick) : Type 0 where
  pub item : IsItem (row_item t ts)
  pub kind : is_gap (row_item t ts) ≡ is_silent t
  pub lasts : item_ticks (row_item t ts) ≡ length (t ∷ ts)

is_row_item : (t : Tick) (ts : List Tick) → IsRow (t ∷ ts) → AreHeard (t ∷ ts) → length (t ∷ ts) < 2 ^ 32 → IsRowItem t ts
is_row_item t ts h r few = by_kind (is_silent t) refl h
  where
    as_row : (b : Bool) (x : CaptureItem) → is_silent t ≡ b → row_item t ts ≡ x → IsItem x → is_gap x ≡ b → item_ticks x ≡ length (t ∷ ts) → IsRowItem t ts
    as_row b x e same i k l = record {
      item = subst IsItem (sym same) i;
      kind = ap is_gap same ∙ k ∙ sym e;
      lasts = ap item_ticks same ∙ l;
    }

    by_kind : (b : Bool) → is_silent t ≡ b → AreSilent b ts → IsRowItem t ts
    by_kind true e k =
        as_row true (Gap (length (t ∷ ts))) e
        (ap (λ (x : Bool). if x then Gap (length (t ∷ ts)) else burst_or_torn (read_on no_symbols (t ∷ ts)) (length (t ∷ ts))) e)
        (omega arith, few) refl refl
    by_kind false e k =
        let reads : ReadsTo (row_from (reading start_phase None, []) (t ∷ ts)) no_symbols [] (t ∷ ts) = row_reads (t ∷ ts) no_symbols [] (e, k) in
        let i = burst_item_of (read_on no_symbols (t ∷ ts)) (length (t ∷ ts)) reads.left (read_begins (t ∷ ts) no_symbols nothing_begun r) (omega arith) few (omega (arith, reads.ticks)) in
        as_row false (burst_or_torn (read_on no_symbols (t ∷ ts)) (length (t ∷ ts))) e
        (ap (λ (x : Bool). if x then Gap (length (t ∷ ts)) else burst_or_torn (read_on no_symbols (t ∷ ts)) (length (t ∷ ts))) e)
        i.0 i.1 i.2

-- ---- all rows

-- items of which the first is a gap, or is none
pub record StartsAs (silent : Bool) (items : List CaptureItem) (ticks : ℕ) : Type 0 where
  pub first : CaptureItem
  pub others : List CaptureItem
  pub is : items ≡ first ∷ others
  pub kind : is_gap first ≡ silent
  pub each : All IsItem (first ∷ others)
  pub alternate : AlternatesFrom first others
  pub lasts : ticks_of (first ∷ others) ≡ ticks

ticks_cons : (x : CaptureItem) (xs : List CaptureItem) → ticks_of (x ∷ xs) ≡ item_ticks x + ticks_of xs
ticks_cons x xs = omega (arith, sum_by-append item_ticks (x ∷ []) xs)

one_item : (x : CaptureItem) (silent : Bool) (ticks : ℕ) → IsItem x → is_gap x ≡ silent → item_ticks x ≡ ticks → StartsAs silent (x ∷ []) ticks
one_item x silent ticks i k l = record {
  first = x;
  others = [];
  is = refl;
  kind = k;
  each = λ n d lt. All-cons IsItem x [] i (λ n d lt. absurd (omega arith)) n d lt;
  alternate = tt;
  lasts = omega (arith, l);
}

more_items : (x : CaptureItem) (b c : Bool) (items : List CaptureItem) (m n : ℕ) → IsItem x → is_gap x ≡ b → item_ticks x ≡ m → c ≡ not b → StartsAs c items n → StartsAs b (x ∷ items) (m + n)
more_items x b c items m n i k l apart s = record {
  first = x;
  others = items;
  is = refl;
  kind = k;
  each = All-cons IsItem x items i (subst (λ (xs : List CaptureItem). All IsItem xs) (sym s.is) s.each);
  alternate = subst (λ (xs : List CaptureItem). AlternatesFrom x xs) (sym s.is) (differ b (sym k) (s.kind ∙ apart), s.alternate);
  lasts = let a = ticks_cons x items in let e = ap ticks_of s.is in let f = s.lasts in omega (arith, l);
}
  where
    differ : (p : Bool) → p ≡ is_gap x → is_gap s.first ≡ not p → is_gap x ≢ is_gap s.first
    differ true e f same = let z = e ∙ same ∙ f in cc
    differ false e f same = let z = e ∙ same ∙ f in cc

AreHeard-push : (ts : List Tick) (t : Tick) → AreHeard ts → IsHeard t.0 → AreHeard (ts ++ t ∷ [])
AreHeard-push [] t h k = (k, tt)
AreHeard-push (x ∷ ts) t h k = (h.0, AreHeard-push ts t h.1 k)

cut_rows : (ts : List Tick) (r : Tick) (rs : List Tick) → IsRow (r ∷ rs) → AreHeard (r ∷ rs) → AreHeard ts → length (r ∷ rs) + length ts < 2 ^ 32 →
    StartsAs (is_silent r) (cut_from (r ∷ rs) ts) (length (r ∷ rs) + length ts)
cut_rows [] r rs row heard' rest few =
    let i = is_row_item r rs row heard' (omega arith) in
    one_item (row_item r rs) (is_silent r) (length (r ∷ rs) + 0) i.item i.kind (i.lasts ∙ (omega arith))
cut_rows (t ∷ ts) r rs row heard' rest few =
    by_test (goes_on (r ∷ rs) t) refl
    (λ e. cut_rows ts r (rs ++ t ∷ []) (row_push (r ∷ rs) t row e) (AreHeard-push (r ∷ rs) t heard' rest.0) rest.1 (omega (arith, few, length-append rs (t ∷ []))))
    (cut_rows ts t [] tt (rest.0, tt) rest.1 (omega arith))
  where
    by_test : (p : Bool) → goes_on (r ∷ rs) t ≡ p →
        (goes_on (r ∷ rs) t ≡ true → StartsAs (is_silent r) (cut_from (r ∷ (rs ++ t ∷ [])) ts) (length (r ∷ (rs ++ t ∷ [])) + length ts)) →
        StartsAs (is_silent t) (cut_from (t ∷ []) ts) (length (t ∷ []) + length ts) →
        StartsAs (is_silent r) (cut_from (r ∷ rs) (t ∷ ts)) (length (r ∷ rs) + length (t ∷ ts))
    by_test true e same other =
        let long : length (r ∷ (rs ++ t ∷ [])) + length ts ≡ length (r ∷ rs) + length (t ∷ ts) = omega (arith, length-append rs (t ∷ [])) in
        subst (λ (n : ℕ). StartsAs (is_silent r) (cut_from (r ∷ rs) (t ∷ ts)) n) long
        (subst (λ (b : Bool). StartsAs (is_silent r) (if b then cut_from (r ∷ (rs ++ t ∷ [])) ts else row_items (r ∷ rs) ++ cut_from (t ∷ []) ts) (length (r ∷ (rs ++ t ∷ [])) + length ts)) (sym e) (same e))
    by_test false e same other =
        let i = is_row_item r rs row heard' (omega arith) in
        let long : length (r ∷ rs) + (length (t ∷ []) + length ts) ≡ length (r ∷ rs) + length (t ∷ ts) = omega arith in
        subst (λ (n : ℕ). StartsAs (is_silent r) (cut_from (r ∷ rs) (t ∷ ts)) n) long
        (subst (λ (b : Bool). StartsAs (is_silent r) (if b then cut_from (r ∷ (rs ++ t ∷ [])) ts else row_items (r ∷ rs) ++ cut_from (t ∷ []) ts) (length (r ∷ rs) + (length (t ∷ []) + length ts))) (sym e)
        (more_items (row_item r rs) (is_silent r) (is_silent t) (cut_from (t ∷ []) ts) (length (r ∷ rs)) (length (t ∷ []) + length ts) i.item i.kind i.lasts (goes_apart r t rs e) other))

pub cuts_are_captures : CutsAreCaptures
unfolding cut
cuts_are_captures [] h few = record { valid = record { each = λ k d lt. absurd (omega arith); alternate = tt }; lasts = refl }
cuts_are_captures (t ∷ ts) h few =
    let s = cut_rows ts t [] tt (h.0, tt) h.1 (omega arith) in
    record {
      valid = subst (λ (xs : List CaptureItem). IsItemList xs) (sym s.is) (record { each = s.each; alternate = s.alternate });
      lasts = ap ticks_of s.is ∙ s.lasts ∙ (omega arith);
    }
