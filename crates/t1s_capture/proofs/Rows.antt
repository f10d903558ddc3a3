-- What a writer gives out for a row of ticks is the text of the row's item.
use Rattle.std.proofs.Common.{◌≡◌, ℕ, ◌+◌, ◌*◌, ◌<◌, ◌≤◌, Bool, true, false, List, [], ◌∷◌, ◌++◌, length, map, Option, None, Some, Result, Ok, Err, refl, sym, ap, subst, ◌∙◌, arith, append_assoc, length-append, if◌then◌else◌}
use Rattle.std.specs.Prelude.{◌==◌, ◌&&◌}
use Rattle.std.proofs.lemmas.Bool.{eqb-true, ne_eqb}
use Rattle.std.proofs.lemmas.List.{append-nil, map-append}
use Rattle.t1s_symbols.specs.declared.Symbol.{Symbol}
use Rattle.t1s_symbols.specs.declared.Quarter.{Quarter}
use Rattle.t1s_symbols.specs.GroupTable.{group}
use Rattle.t1s_symbols.specs.Symbols.{same_symbol}
use Rattle.t1s_symbols.proofs.Quarters.{continues-partial, same_symbol-sound}
use Rattle.t1s_grammar.specs.Prefixes.{Beginning, beginning_symbols, phase_of}
use Rattle.t1s_grammar.specs.PlaceTable.{place_step, ends_burst}
use Rattle.t1s_grammar.specs.declared.place.Phase.{Phase}
use Rattle.t1s_grammar.specs.declared.place.PlaceFault.{PlaceFault}
use Rattle.t1s_capture.specs.declared.row.RowSoFar.{RowSoFar}
use Rattle.t1s_capture.specs.declared.row.RowSoFar.TheVariants.{Silent, Torn}
use Rattle.t1s_capture.specs.Captures.{symbol_count, symbol_octets}
use Rattle.t1s_grammar.specs.Longer.{with_symbol}
use Rattle.t1s_capture.specs.Cut.{Tick, is_silent, AreSilent, quarter_of, is_part, symbol_by, on_place, on_symbol, read_on}
use Rattle.t1s_capture.specs.WriterTable.{Step, reading, symbol_ends, reading_step, blur_octets, row_end, sound_step, silent_step, row_step, row_from}
use Rattle.t1s_grammar.proofs.Longer.{more}

-- ---- silent rows

pub silent_from : (ts : List Tick) (n : ℕ) (out : List ℕ) → AreSilent true ts → row_from (Silent n, out) ts ≡ (Silent (n + length ts), out)
silent_from [] n out h = let same : n ≡ n + 0 = omega arith in ap (λ (k : ℕ). (Silent k, out)) same
silent_from (t ∷ ts) n out h =
    let one : row_step (Silent n) t ≡ (Silent (n + 1), []) = ap (λ (b : Bool). if b then silent_step (Silent n) else sound_step (Silent n) (quarter_of t)) h.0 in
    let same : n + 1 + length ts ≡ n + length (t ∷ ts) = omega arith in
    ap (λ (s : Step). row_from (s.0, out ++ s.1) ts) one
    ∙ ap (λ (o : List ℕ). row_from (Silent (n + 1), o) ts) (append-nil out)
    ∙ silent_from ts (n + 1) out h.1
    ∙ ap (λ (k : ℕ). (Silent k, out)) same

-- ---- rows that are torn

torn_from : (ts : List Tick) (n : ℕ) (out : List ℕ) → AreSilent false ts → row_from (Torn n, out) ts ≡ (Torn (n + length ts), out)
torn_from [] n out h = let same : n ≡ n + 0 = omega arith in ap (λ (k : ℕ). (Torn k, out)) same
torn_from (t ∷ ts) n out h =
    let one : row_step (Torn n) t ≡ (Torn (n + 1), []) = ap (λ (b : Bool). if b then silent_step (Torn n) else sound_step (Torn n) (quarter_of t)) h.0 in
    let same : n + 1 + length ts ≡ n + length (t ∷ ts) = omega arith in
    ap (λ (s : Step). row_from (s.0, out ++ s.1) ts) one
    ∙ ap (λ (o : List ℕ). row_from (Torn (n + 1), o) ts) (append-nil out)
    ∙ torn_from ts (n + 1) out h.1
    ∙ ap (λ (k : ℕ). (Torn k, out)) same

-- ---- one symbol

-- some ticks of a symbol, where they go on as they should, or not
abbrev pub part_of : Symbol → ℕ → Quarter
part_of s part = record { sym = s; part = part }

abbrev pub partway : Phase → Bool → Symbol → ℕ → RowSoFar
partway place fine s part = if fine then reading place (Some (part_of s part)) else Torn (part + 1)

first_quarter : (place : Phase) (q : Quarter) → reading_step (record { place = place; last = None }) (Some q) ≡ (partway place (q.part == 0) q.sym 0, [])
first_quarter place q = by_test (q.part == 0) refl
  where
    by_test : (p : Bool) → (q.part == 0) ≡ p →
        (if p then (if q.part == 3 then symbol_ends q.sym (place_step place q.sym) else (reading place (Some q), [])) else (Torn 1, []))
        ≡ (if p then reading place (Some (part_of q.sym 0)) else Torn 1, [])
    by_test true e =
        let is : q.part ≡ 0 = eqb-true q.part 0 e in
        let not_last : (q.part == 3) ≡ false = ne_eqb q.part 3 (λ k. omega arith) in
        ap (λ (b : Bool). if b then symbol_ends q.sym (place_step place q.sym) else (reading place (Some q), [])) not_last
        ∙ ap (λ (n : ℕ). (reading place (Some (part_of q.sym n)), [])) is
    by_test false e = refl

-- the next quarter, which is not the last one
next_quarter : (place : Phase) (fine : Bool) (s : Symbol) (k n : ℕ) (o : Option Quarter) → n ≡ k + 1 → n < 3 →
    sound_step (partway place fine s k) o ≡ (partway place (fine && is_part s n o) s n, [])
next_quarter place false s k n o e lt = ap (λ (m : ℕ). (Torn (m + 1), [])) (sym e)
next_quarter place true s k n None e lt = ap (λ (m : ℕ). (Torn (m + 1), [])) (sym e)
next_quarter place true s k n (Some q) e lt =
    ap (λ (b : Bool). if b then (if q.part == 3 then symbol_ends q.sym (place_step place q.sym) else (reading place (Some q), [])) else (Torn (k + 1 + 1), []))
    (continues-partial s k q (omega arith))
    ∙ ap (λ (m : ℕ). if same_symbol s q.sym && (q.part == m) then (if q.part == 3 then symbol_ends q.sym (place_step place q.sym) else (reading place (Some q), [])) else (Torn (m + 1), [])) (sym e)
    ∙ by_test (same_symbol s q.sym) (q.part == n) refl refl
  where
    by_test : (a b : Bool) → same_symbol s q.sym ≡ a → (q.part == n) ≡ b →
        (if a && b then (if q.part == 3 then symbol_ends q.sym (place_step place q.sym) else (reading place (Some q), [])) else (Torn (n + 1), []))
        ≡ (if a && b then reading place (Some (part_of s n)) else Torn (n + 1), [])
    by_test true true ea eb =
        let is : q.part ≡ n = eqb-true q.part n eb in
        let same : s ≡ q.sym = same_symbol-sound s q.sym ea in
        let not_last : (q.part == 3) ≡ false = ne_eqb q.part 3 (λ k. omega arith) in
        ap (λ (b : Bool). if b then symbol_ends q.sym (place_step place q.sym) else (reading place (Some q), [])) not_last
        ∙ ap (λ (m : ℕ). (reading place (Some (part_of q.sym m)), [])) is
        ∙ ap (λ (x : Symbol). (reading place (Some (part_of x n)), [])) (sym same)
    by_test true false ea eb = refl
    by_test false b ea eb = refl

-- the last quarter
last_quarter : (place : Phase) (fine : Bool) (s : Symbol) (o : Option Quarter) →
    sound_step (partway place fine s 2) o ≡ (if fine && is_part s 3 o then symbol_ends s (place_step place s) else (Torn 4, []))
last_quarter place false s o = refl
last_quarter place true s None = refl
last_quarter place true s (Some q) =
    ap (λ (b : Bool). if b then (if q.part == 3 then symbol_ends q.sym (place_step place q.sym) else (reading place (Some q), [])) else (Torn 4, []))
    (continues-partial s 2 q (omega arith))
    ∙ by_test (same_symbol s q.sym) (q.part == 3) refl refl
  where
    by_test : (a b : Bool) → same_symbol s q.sym ≡ a → (q.part == 3) ≡ b →
        (if a && b then (if b then symbol_ends q.sym (place_step place q.sym) else (reading place (Some q), [])) else (Torn 4, []))
        ≡ (if a && b then symbol_ends s (place_step place s) else (Torn 4, []))
    by_test true true ea eb = ap (λ (x : Symbol). symbol_ends x (place_step place x)) (sym (same_symbol-sound s q.sym ea))
    by_test true false ea eb = refl
    by_test false b ea eb = refl

-- what four ticks make of a reading
abbrev pub four_by : Phase → Option Symbol → Step
four_by place None = (Torn 4, [])
four_by place (Some s) = symbol_ends s (place_step place s)

-- a row with one tick more that is not silent
sound_more : (row : RowSoFar) (out : List ℕ) (t : Tick) (ts : List Tick) (next : RowSoFar) → is_silent t ≡ false → sound_step row (quarter_of t) ≡ (next, []) →
    row_from (row, out) (t ∷ ts) ≡ row_from (next, out) ts
sound_more row out t ts next h e =
    ap (λ (b : Bool). row_from ((if b then silent_step row else sound_step row (quarter_of t)).0, out ++ (if b then silent_step row else sound_step row (quarter_of t)).1) ts) h
    ∙ ap (λ (s : Step). row_from (s.0, out ++ s.1) ts) e
    ∙ ap (λ (o : List ℕ). row_from (next, o) ts) (append-nil out)

sound_ends : (row : RowSoFar) (out : List ℕ) (t : Tick) (ts : List Tick) (s : Step) → is_silent t ≡ false → sound_step row (quarter_of t) ≡ s →
    row_from (row, out) (t ∷ ts) ≡ row_from (s.0, out ++ s.1) ts
sound_ends row out t ts s h e =
    ap (λ (b : Bool). row_from ((if b then silent_step row else sound_step row (quarter_of t)).0, out ++ (if b then silent_step row else sound_step row (quarter_of t)).1) ts) h
    ∙ ap (λ (x : Step). row_from (x.0, out ++ x.1) ts) e

-- up to three ticks
abbrev pub started : Phase → Option Quarter → RowSoFar
started place None = Torn 1
started place (Some q) = partway place (q.part == 0) q.sym 0

pub first_tick : (place : Phase) (o : Option Quarter) → sound_step (reading place None) o ≡ (started place o, [])
first_tick place None = refl
first_tick place (Some q) = first_quarter place q

abbrev pub second : Phase → Option Quarter → Option Quarter → RowSoFar
second place None o = Torn 2
second place (Some q) o = partway place ((q.part == 0) && is_part q.sym 1 o) q.sym 1

second_tick : (place : Phase) (a b : Option Quarter) → sound_step (started place a) b ≡ (second place a b, [])
second_tick place None b = refl
second_tick place (Some q) b = next_quarter place (q.part == 0) q.sym 0 1 b refl (omega arith)

abbrev pub third : Phase → Option Quarter → Option Quarter → Option Quarter → RowSoFar
third place None b c = Torn 3
third place (Some q) b c = partway place (((q.part == 0) && is_part q.sym 1 b) && is_part q.sym 2 c) q.sym 2

third_tick : (place : Phase) (a b c : Option Quarter) → sound_step (second place a b) c ≡ (third place a b c, [])
third_tick place None b c = refl
third_tick place (Some q) b c = next_quarter place ((q.part == 0) && is_part q.sym 1 b) q.sym 1 2 c refl (omega arith)

fourth_tick : (place : Phase) (a b c d : Option Quarter) → sound_step (third place a b c) d ≡ four_by place (symbol_by a b c d)
fourth_tick place None b c d = refl
fourth_tick place (Some q) b c d =
    last_quarter place (((q.part == 0) && is_part q.sym 1 b) && is_part q.sym 2 c) q.sym d
    ∙ by_test (q.part == 0) (is_part q.sym 1 b) (is_part q.sym 2 c) (is_part q.sym 3 d)
  where
    by_test : (w x y z : Bool) →
        (if ((w && x) && y) && z then symbol_ends q.sym (place_step place q.sym) else (Torn 4, []))
        ≡ four_by place (if w && (x && (y && z)) then Some q.sym else None)
    by_test false x y z = refl
    by_test true false y z = refl
    by_test true true false z = refl
    by_test true true true false = refl
    by_test true true true true = refl

-- ---- all ticks of a row

abbrev pub end_octets : Beginning → ℕ → List ℕ
end_octets b n = if (n == 0) && ends_burst (phase_of b) then [] else blur_octets n

-- what is given out for ticks after the symbols b, and what the end of the row then gives out
pub record ReadsTo (step : Step) (b : Beginning) (out : List ℕ) (ts : List Tick) : Type 0 where
  pub given : List ℕ
  pub left : ℕ
  pub octets : symbol_octets (read_on b ts) ≡ symbol_octets b ++ given
  pub gives : step.1 ≡ out ++ given
  pub ends : row_end step.0 ≡ end_octets (read_on b ts) left
  pub ticks : 4 * symbol_count b + length ts ≡ 4 * symbol_count (read_on b ts) + left

to : (x y : Step) (b : Beginning) (out : List ℕ) (ts : List Tick) → x ≡ y → ReadsTo y b out ts → ReadsTo x b out ts
to x y b out ts e h = subst (λ (s : Step). ReadsTo s b out ts) (sym e) h

-- ticks after which no symbol is read
stays : (row : RowSoFar) (b : Beginning) (out : List ℕ) (ts : List Tick) (n : ℕ) → read_on b ts ≡ b → length ts ≡ n → row_end row ≡ end_octets b n → ReadsTo (row, out) b out ts
stays row b out ts n same long e =
    subst (λ (c : Beginning). symbol_octets c ≡ symbol_octets b ++ [] → row_end row ≡ end_octets c n → 4 * symbol_count b + length ts ≡ 4 * symbol_count c + n → ReadsTo (row, out) b out ts)
    same
    (λ o d k. record { given = []; left = n; octets = o; gives = sym (append-nil out); ends = d; ticks = k })
    (sym (append-nil (symbol_octets b)))
    e
    (omega (arith, long))

torn_end : (b : Beginning) (n : ℕ) → 1 ≤ n → row_end (Torn n) ≡ end_octets b n
torn_end b n h = ap (λ (t : Bool). if t && ends_burst (phase_of b) then [] else blur_octets n) (sym (ne_eqb n 0 (λ e. omega arith)))

partway_end : (b : Beginning) (fine : Bool) (s : Symbol) (k : ℕ) → row_end (partway (phase_of b) fine s k) ≡ end_octets b (k + 1)
partway_end b true s k = refl
partway_end b false s k = torn_end b (k + 1) (omega arith)

started_end : (b : Beginning) (o : Option Quarter) → row_end (started (phase_of b) o) ≡ end_octets b 1
started_end b None = torn_end b 1 (omega arith)
started_end b (Some q) = partway_end b (q.part == 0) q.sym 0

second_end : (b : Beginning) (o p : Option Quarter) → row_end (second (phase_of b) o p) ≡ end_octets b 2
second_end b None p = torn_end b 2 (omega arith)
second_end b (Some q) p = partway_end b ((q.part == 0) && is_part q.sym 1 p) q.sym 1

third_end : (b : Beginning) (o p q : Option Quarter) → row_end (third (phase_of b) o p q) ≡ end_octets b 3
third_end b None p q = torn_end b 3 (omega arith)
third_end b (Some x) p q = partway_end b (((x.part == 0) && is_part x.sym 1 p) && is_part x.sym 2 q) x.sym 2

-- four ticks that are no symbol end the reading
torn_row : (b : Beginning) (out : List ℕ) (ts rest : List Tick) → AreSilent false rest → read_on b ts ≡ b → length ts ≡ 4 + length rest →
    ReadsTo (row_from (Torn 4, out) rest) b out ts
torn_row b out ts rest h same long =
    to (row_from (Torn 4, out) rest) (Torn (4 + length rest), out) b out ts (torn_from rest 4 out h)
    (stays (Torn (4 + length rest)) b out ts (4 + length rest) same long (torn_end b (4 + length rest) (omega arith)))

-- four ticks that are one are followed by others
symbol_row : (b c : Beginning) (s : Symbol) (out : List ℕ) (ts rest : List Tick) (step : Step) → beginning_symbols c ≡ beginning_symbols b ++ s ∷ [] →
    read_on b ts ≡ read_on c rest → length ts ≡ 4 + length rest → ReadsTo step c (out ++ group s ∷ []) rest → ReadsTo step b out ts
symbol_row b c s out ts rest step e same long r =
    let octets_c : symbol_octets c ≡ symbol_octets b ++ group s ∷ [] =
    ap (λ (ss : List Symbol). map group ss) e ∙ map-append group (beginning_symbols b) (s ∷ []) in
    let count_c : symbol_count c ≡ symbol_count b + 1 = ap length e ∙ length-append (beginning_symbols b) (s ∷ []) in
    let ticks_r = r.ticks in
    record {
      given = group s ∷ r.given;
      left = r.left;
      octets = ap symbol_octets same ∙ r.octets ∙ ap (λ (xs : List ℕ). xs ++ r.given) octets_c ∙ append_assoc (symbol_octets b) (group s ∷ []) r.given;
      gives = r.gives ∙ append_assoc out (group s ∷ []) r.given;
      ends = r.ends ∙ ap (λ (x : Beginning). end_octets x r.left) (sym same);
      ticks = ap (λ (n : ℕ). 4 * symbol_count b + n) long ∙ (omega (arith, count_c)) ∙ r.ticks ∙ ap (λ (x : Beginning). 4 * symbol_count x + r.left) (sym same);
    }

pub row_reads : (ts : List Tick) (b : Beginning) (out : List ℕ) → AreSilent false ts → ReadsTo (row_from (reading (phase_of b) None, out) ts) b out ts
row_reads [] b out h = stays (reading (phase_of b) None) b out [] 0 refl refl refl
row_reads (t ∷ []) b out h =
    to _ (started (phase_of b) (quarter_of t), out) b out (t ∷ []) (sound_more (reading (phase_of b) None) out t [] (started (phase_of b) (quarter_of t)) h.0 (first_tick (phase_of b) (quarter_of t)))
    (stays (started (phase_of b) (quarter_of t)) b out (t ∷ []) 1 refl refl (started_end b (quarter_of t)))
row_reads (t ∷ u ∷ []) b out h =
    let p = phase_of b in
    to _ (second (phase_of b) (quarter_of t) (quarter_of u), out) b out (t ∷ u ∷ [])
    (sound_more (reading (phase_of b) None) out t (u ∷ []) (started (phase_of b) (quarter_of t)) h.0 (first_tick (phase_of b) (quarter_of t))
    ∙ sound_more (started (phase_of b) (quarter_of t)) out u [] (second (phase_of b) (quarter_of t) (quarter_of u)) h.1.0 (second_tick (phase_of b) (quarter_of t) (quarter_of u)))
    (stays (second (phase_of b) (quarter_of t) (quarter_of u)) b out (t ∷ u ∷ []) 2 refl refl (second_end b (quarter_of t) (quarter_of u)))
row_reads (t ∷ u ∷ v ∷ []) b out h =
    to _ (third (phase_of b) (quarter_of t) (quarter_of u) (quarter_of v), out) b out (t ∷ u ∷ v ∷ [])
    (sound_more (reading (phase_of b) None) out t (u ∷ v ∷ []) (started (phase_of b) (quarter_of t)) h.0 (first_tick (phase_of b) (quarter_of t))
    ∙ sound_more (started (phase_of b) (quarter_of t)) out u (v ∷ []) (second (phase_of b) (quarter_of t) (quarter_of u)) h.1.0 (second_tick (phase_of b) (quarter_of t) (quarter_of u))
    ∙ sound_more (second (phase_of b) (quarter_of t) (quarter_of u)) out v [] (third (phase_of b) (quarter_of t) (quarter_of u) (quarter_of v)) h.1.1.0 (third_tick (phase_of b) (quarter_of t) (quarter_of u) (quarter_of v)))
    (stays (third (phase_of b) (quarter_of t) (quarter_of u) (quarter_of v)) b out (t ∷ u ∷ v ∷ []) 3 refl refl (third_end b (quarter_of t) (quarter_of u) (quarter_of v)))
row_reads (t ∷ u ∷ v ∷ w ∷ rest) b out h =
    to _ _ b out (t ∷ u ∷ v ∷ w ∷ rest)
    (sound_more (reading (phase_of b) None) out t (u ∷ v ∷ w ∷ rest) (started (phase_of b) (quarter_of t)) h.0 (first_tick (phase_of b) (quarter_of t))
    ∙ sound_more (started (phase_of b) (quarter_of t)) out u (v ∷ w ∷ rest) (second (phase_of b) (quarter_of t) (quarter_of u)) h.1.0 (second_tick (phase_of b) (quarter_of t) (quarter_of u))
    ∙ sound_more (second (phase_of b) (quarter_of t) (quarter_of u)) out v (w ∷ rest) (third (phase_of b) (quarter_of t) (quarter_of u) (quarter_of v)) h.1.1.0 (third_tick (phase_of b) (quarter_of t) (quarter_of u) (quarter_of v))
    ∙ sound_ends (third (phase_of b) (quarter_of t) (quarter_of u) (quarter_of v)) out w rest (four_by (phase_of b) (symbol_by (quarter_of t) (quarter_of u) (quarter_of v) (quarter_of w))) h.1.1.1.0
    (fourth_tick (phase_of b) (quarter_of t) (quarter_of u) (quarter_of v) (quarter_of w)))
    (by_symbol (λ c o. row_reads rest c o h.1.1.1.1) (symbol_by (quarter_of t) (quarter_of u) (quarter_of v) (quarter_of w)) refl)
  where
    all : List Tick
    all = t ∷ u ∷ v ∷ w ∷ rest

    by_place : ((c : Beginning) (o : List ℕ) → ReadsTo (row_from (reading (phase_of c) None, o) rest) c o rest) →
        (s : Symbol) → symbol_by (quarter_of t) (quarter_of u) (quarter_of v) (quarter_of w) ≡ Some s → (r : Result Phase PlaceFault) → place_step (phase_of b) s ≡ r →
        ReadsTo (row_from ((symbol_ends s r).0, out ++ (symbol_ends s r).1) rest) b out (t ∷ u ∷ v ∷ w ∷ rest)
    by_place others s e (Ok q) k =
        let m = more b s q k in
        let read : read_on b (t ∷ u ∷ v ∷ w ∷ rest) ≡ read_on (with_symbol b s) rest =
        ap (λ (o : Option Symbol). on_symbol b o (λ c. read_on c rest)) e ∙ ap (λ (x : Result Phase PlaceFault). on_place b s x (λ c. read_on c rest)) k in
        symbol_row b (with_symbol b s) s out (t ∷ u ∷ v ∷ w ∷ rest) rest (row_from (reading q None, out ++ group s ∷ []) rest) m.symbols read (omega arith)
        (subst (λ (x : Phase). ReadsTo (row_from (reading x None, out ++ group s ∷ []) rest) (with_symbol b s) (out ++ group s ∷ []) rest) m.phase (others (with_symbol b s) (out ++ group s ∷ [])))
    by_place others s e (Err x) k =
        let read : read_on b (t ∷ u ∷ v ∷ w ∷ rest) ≡ b =
        ap (λ (o : Option Symbol). on_symbol b o (λ c. read_on c rest)) e ∙ ap (λ (x : Result Phase PlaceFault). on_place b s x (λ c. read_on c rest)) k in
        to (row_from (Torn 4, out ++ []) rest) (row_from (Torn 4, out) rest) b out (t ∷ u ∷ v ∷ w ∷ rest) (ap (λ (o : List ℕ). row_from (Torn 4, o) rest) (append-nil out))
        (torn_row b out (t ∷ u ∷ v ∷ w ∷ rest) rest h.1.1.1.1 read (omega arith))

    by_symbol : ((c : Beginning) (o : List ℕ) → ReadsTo (row_from (reading (phase_of c) None, o) rest) c o rest) →
        (o : Option Symbol) → symbol_by (quarter_of t) (quarter_of u) (quarter_of v) (quarter_of w) ≡ o →
        ReadsTo (row_from ((four_by (phase_of b) o).0, out ++ (four_by (phase_of b) o).1) rest) b out (t ∷ u ∷ v ∷ w ∷ rest)
    by_symbol others None e =
        let read : read_on b (t ∷ u ∷ v ∷ w ∷ rest) ≡ b = ap (λ (o : Option Symbol). on_symbol b o (λ c. read_on c rest)) e in
        to (row_from (Torn 4, out ++ []) rest) (row_from (Torn 4, out) rest) b out (t ∷ u ∷ v ∷ w ∷ rest) (ap (λ (o : List ℕ). row_from (Torn 4, o) rest) (append-nil out))
        (torn_row b out (t ∷ u ∷ v ∷ w ∷ rest) rest h.1.1.1.1 read (omega arith))
    by_symbol others (Some s) e = by_place others s e (place_step (phase_of b) s) refl
