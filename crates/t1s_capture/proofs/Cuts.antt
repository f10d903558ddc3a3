-- A writer gives out the text of the items that are cut from its ticks.
use Rattle.std.proofs.Common.{◌≡◌, ℕ, ◌+◌, ◌*◌, ◌-◌, Bool, true, false, not, List, [], ◌∷◌, ◌++◌, length, Option, None, Some, Result, Ok, Err, refl, sym, ap, subst, ◌∙◌, arith, append_assoc, if◌then◌else◌}
use Rattle.std.specs.Prelude.{◌==◌, ◌&&◌}
use Rattle.std.specs.List.{flat_map}
use Rattle.std.proofs.lemmas.Bool.{eqb-true, eqb-false, eq-eqb, ne_eqb}
use Rattle.std.proofs.lemmas.List.{append-nil}
use Rattle.std.proofs.lemmas.List.Concat.{flat_map-append}
use Rattle.t1s_symbols.specs.declared.Quarter.{Quarter}
use Rattle.t1s_grammar.specs.Prefixes.{Beginning, phase_of}
use Rattle.t1s_grammar.specs.PlaceTable.{start_phase, place_step, ends_burst}
use Rattle.t1s_grammar.specs.declared.place.Phase.{Phase}
use Rattle.t1s_grammar.specs.declared.place.PlaceFault.{PlaceFault}
use Rattle.t1s_capture.specs.declared.row.ReadingSoFar.{ReadingSoFar}
use Rattle.t1s_capture.specs.declared.row.RowSoFar.{RowSoFar}
use Rattle.t1s_capture.specs.declared.row.RowSoFar.TheVariants.{Empty, Silent, Reading, Torn}
use Rattle.t1s_capture.specs.Captures.{CaptureItem, Gap, Burst, Torn as TornBurst, no_symbols, symbol_count, symbol_octets, item_octets, count_octets, header, capture_text}
use Rattle.t1s_capture.specs.Cut.{Tick, is_silent, AreSilent, IsRow, quarter_of, read_on, burst_or_torn, row_items, goes_on, cut_from, cut}
use Rattle.t1s_symbols.specs.Quarters.{continues_last}
use Rattle.t1s_capture.specs.WriterTable.{Step, reading, ticks_begun, symbol_ends, reading_step, nothing_read, blur_octets, row_end, sound_step, silent_step, row_step, row_from, row_after, IsKind, RowIsKind, WriterState, WriterStands}
use Rattle.t1s_capture.proofs.Rows.{end_octets, ReadsTo, row_reads, silent_from, started, partway, first_tick}

-- ---- the text of a row

torn_text : (c : Beginning) (n left : ℕ) → n ≡ 4 * symbol_count c + left → item_octets (burst_or_torn c n) ≡ symbol_octets c ++ end_octets c left
unfolding item_octets
torn_text c n left e = by_left (left == 0) refl
  where
    by_burst : (q : Bool) → left ≡ 0 → ends_burst (phase_of c) ≡ q →
        item_octets (if q then Burst c else TornBurst c (n - 4 * symbol_count c)) ≡ symbol_octets c ++ (if q then [] else blur_octets left)
    by_burst true z k = sym (append-nil (symbol_octets c))
    by_burst false z k =
        let same : n - 4 * symbol_count c ≡ left = omega (arith, e) in
        ap (λ (m : ℕ). symbol_octets c ++ 0x22 ∷ count_octets m) same

    by_left : (p : Bool) → (left == 0) ≡ p → item_octets (burst_or_torn c n) ≡ symbol_octets c ++ (if p && ends_burst (phase_of c) then [] else blur_octets left)
    by_left true k =
        let z : left ≡ 0 = eqb-true left 0 k in
        let whole : (n == 4 * symbol_count c) ≡ true = eq-eqb n (4 * symbol_count c) (omega (arith, e)) in
        ap (λ (b : Bool). item_octets (if b && ends_burst (phase_of c) then Burst c else TornBurst c (n - 4 * symbol_count c))) whole
        ∙ by_burst (ends_burst (phase_of c)) z refl
    by_left false k =
        let some = eqb-false left 0 k in
        let apart : (n == 4 * symbol_count c) ≡ false = ne_eqb n (4 * symbol_count c) (λ z. some (omega (arith, e, z))) in
        let same : n - 4 * symbol_count c ≡ left = omega (arith, e) in
        ap (λ (b : Bool). item_octets (if b && ends_burst (phase_of c) then Burst c else TornBurst c (n - 4 * symbol_count c))) apart
        ∙ ap (λ (m : ℕ). symbol_octets c ++ 0x22 ∷ count_octets m) same

abbrev RowText : List Tick → Step → Type 0
RowText row step = step.1 ++ row_end step.0 ≡ flat_map item_octets (row_items row)

silent_text : (t : Tick) (ts : List Tick) → is_silent t ≡ true → AreSilent true ts → RowText (t ∷ ts) (row_after (t ∷ ts))
unfolding item_octets
silent_text t ts e h =
    let one : row_step Empty t ≡ (Silent 1, []) = ap (λ (b : Bool). if b then silent_step Empty else sound_step Empty (quarter_of t)) e in
    let all : row_after (t ∷ ts) ≡ (Silent (1 + length ts), []) =
    ap (λ (s : Step). row_from (s.0, [] ++ s.1) ts) one ∙ silent_from ts 1 [] h in
    let same : 1 + length ts ≡ length (t ∷ ts) = omega arith in
    ap (λ (s : Step). s.1 ++ row_end s.0) all
    ∙ ap (λ (n : ℕ). 0x20 ∷ count_octets n) same
    ∙ sym (append-nil (0x20 ∷ count_octets (length (t ∷ ts))))
    ∙ ap (λ (b : Bool). item_octets (if b then Gap (length (t ∷ ts)) else burst_or_torn (read_on no_symbols (t ∷ ts)) (length (t ∷ ts))) ++ []) (sym e)

sound_text : (t : Tick) (ts : List Tick) → is_silent t ≡ false → AreSilent false ts → RowText (t ∷ ts) (row_after (t ∷ ts))
sound_text t ts e h =
    let same : row_step Empty t ≡ row_step (reading start_phase None) t =
    ap (λ (b : Bool). if b then silent_step Empty else sound_step Empty (quarter_of t)) e
    ∙ sym (ap (λ (b : Bool). if b then silent_step (reading start_phase None) else sound_step (reading start_phase None) (quarter_of t)) e) in
    let all : row_after (t ∷ ts) ≡ row_from (reading start_phase None, []) (t ∷ ts) = ap (λ (s : Step). row_from (s.0, [] ++ s.1) ts) same in
    let r : ReadsTo (row_from (reading start_phase None, []) (t ∷ ts)) no_symbols [] (t ∷ ts) = row_reads (t ∷ ts) no_symbols [] (e, h) in
    let c : Beginning = read_on no_symbols (t ∷ ts) in
    let counted : length (t ∷ ts) ≡ 4 * symbol_count (read_on no_symbols (t ∷ ts)) + r.left = omega (arith, r.ticks) in
    ap (λ (s : Step). s.1 ++ row_end s.0) all
    ∙ ap (λ (o : List ℕ). o ++ row_end (row_from (reading start_phase None, []) (t ∷ ts)).0) (r.gives ∙ sym r.octets)
    ∙ ap (λ (o : List ℕ). symbol_octets (read_on no_symbols (t ∷ ts)) ++ o) r.ends
    ∙ sym (torn_text (read_on no_symbols (t ∷ ts)) (length (t ∷ ts)) r.left counted)
    ∙ sym (append-nil (item_octets (burst_or_torn (read_on no_symbols (t ∷ ts)) (length (t ∷ ts)))))
    ∙ ap (λ (b : Bool). item_octets (if b then Gap (length (t ∷ ts)) else burst_or_torn (read_on no_symbols (t ∷ ts)) (length (t ∷ ts))) ++ []) (sym e)

row_text : (row : List Tick) → IsRow row → RowText row (row_after row)
row_text [] h = refl
row_text (t ∷ ts) h = by_kind (is_silent t) refl h
  where
    by_kind : (b : Bool) → is_silent t ≡ b → AreSilent b ts → RowText (t ∷ ts) (row_after (t ∷ ts))
    by_kind true e k = silent_text t ts e k
    by_kind false e k = sound_text t ts e k

-- ---- kinds

started_kind : (place : Phase) (o : Option Quarter) → IsKind false (started place o)
started_kind place None = tt
started_kind place (Some q) = by_test (q.part == 0)
  where
    by_test : (b : Bool) → IsKind false (partway place b q.sym 0)
    by_test true = tt
    by_test false = tt

reading_kind : (r : ReadingSoFar) (o : Option Quarter) → IsKind false (reading_step r o).0
reading_kind r None = tt
reading_kind r (Some q) = by_test (continues_last r.last q) (q.part == 3) (place_step r.place q.sym)
  where
    by_test : (a b : Bool) (p : Result Phase PlaceFault) →
        IsKind false (if a then (if b then symbol_ends q.sym p else (reading r.place (Some q), [])) else (Torn (ticks_begun r.last + 1), [])).0
    by_test true true (Ok place) = tt
    by_test true true (Err fault) = tt
    by_test true false p = tt
    by_test false b p = tt

sound_kind : (row : RowSoFar) (o : Option Quarter) → IsKind false row → IsKind false (sound_step row o).0
sound_kind Empty o h = absurd h
sound_kind (Silent n) o h = absurd h
sound_kind (Reading r) o h = reading_kind r o
sound_kind (Torn n) o h = tt

silent_kind : (row : RowSoFar) → IsKind true row → IsKind true (silent_step row).0
silent_kind Empty h = absurd h
silent_kind (Silent n) h = tt
silent_kind (Reading r) h = absurd h
silent_kind (Torn n) h = absurd h

-- the first tick of a row
first_kind : (t : Tick) → IsKind (is_silent t) (row_step Empty t).0
first_kind t = by_kind (is_silent t)
  where
    by_kind : (b : Bool) → IsKind b (if b then silent_step Empty else sound_step Empty (quarter_of t)).0
    by_kind true = tt
    by_kind false = reading_kind nothing_read (quarter_of t)

first_gives : (t : Tick) → (row_step Empty t).1 ≡ []
first_gives t = by_kind (is_silent t)
  where
    by_kind : (b : Bool) → (if b then silent_step Empty else sound_step Empty (quarter_of t)).1 ≡ []
    by_kind true = refl
    by_kind false = ap (λ (s : Step). s.1) (first_tick start_phase (quarter_of t))

same_kind : (row : RowSoFar) (t : Tick) (b : Bool) → is_silent t ≡ b → IsKind b row → IsKind b (row_step row t).0
same_kind row t true e h =
    subst (λ (x : Bool). IsKind true (if x then silent_step row else sound_step row (quarter_of t)).0) (sym e) (silent_kind row h)
same_kind row t false e h =
    subst (λ (x : Bool). IsKind false (if x then silent_step row else sound_step row (quarter_of t)).0) (sym e) (sound_kind row (quarter_of t) h)

-- where a tick ends a row
switch : (row : RowSoFar) (t : Tick) (b : Bool) → is_silent t ≡ not b → IsKind b row → row_step row t ≡ ((row_step Empty t).0, row_end row)
switch Empty t true e h = absurd h
switch Empty t false e h = absurd h
switch (Silent n) t true e h =
    ap (λ (x : Bool). if x then silent_step (Silent n) else sound_step (Silent n) (quarter_of t)) e
    ∙ ap (λ (x : Bool). ((if x then silent_step Empty else sound_step Empty (quarter_of t)).0, row_end (Silent n))) (sym e)
switch (Silent n) t false e h = absurd h
switch (Reading r) t true e h = absurd h
switch (Reading r) t false e h =
    ap (λ (x : Bool). if x then silent_step (Reading r) else sound_step (Reading r) (quarter_of t)) e
    ∙ ap (λ (x : Bool). ((if x then silent_step Empty else sound_step Empty (quarter_of t)).0, row_end (Reading r))) (sym e)
switch (Torn n) t true e h = absurd h
switch (Torn n) t false e h =
    ap (λ (x : Bool). if x then silent_step (Torn n) else sound_step (Torn n) (quarter_of t)) e
    ∙ ap (λ (x : Bool). ((if x then silent_step Empty else sound_step Empty (quarter_of t)).0, row_end (Torn n))) (sym e)

-- ---- one tick more

row_from-push : (ts : List Tick) (s : Step) (t : Tick) →
    row_from s (ts ++ t ∷ []) ≡ ((row_step (row_from s ts).0 t).0, (row_from s ts).1 ++ (row_step (row_from s ts).0 t).1)
row_from-push [] s t = refl
row_from-push (x ∷ ts) s t = row_from-push ts ((row_step s.0 x).0, s.1 ++ (row_step s.0 x).1) t

AreSilent-push : (b : Bool) (ts : List Tick) (t : Tick) → AreSilent b ts → is_silent t ≡ b → AreSilent b (ts ++ t ∷ [])
AreSilent-push b [] t h e = (e, tt)
AreSilent-push b (x ∷ ts) t h e = (h.0, AreSilent-push b ts t h.1 e)

negated : (b : Bool) → not b ≡ true → b ≡ false
negated true e = cc
negated false e = refl

negated_not : (b : Bool) → not b ≡ false → b ≡ true
negated_not true e = refl
negated_not false e = cc

pub goes_same : (x t : Tick) (xs : List Tick) → goes_on (x ∷ xs) t ≡ true → is_silent t ≡ is_silent x
goes_same x t xs e = by_kind (is_silent x) e
  where
    by_kind : (b : Bool) → (if b then is_silent t else not (is_silent t)) ≡ true → is_silent t ≡ b
    by_kind true k = k
    by_kind false k = negated (is_silent t) k

pub goes_apart : (x t : Tick) (xs : List Tick) → goes_on (x ∷ xs) t ≡ false → is_silent t ≡ not (is_silent x)
goes_apart x t xs e = by_kind (is_silent x) e
  where
    by_kind : (b : Bool) → (if b then is_silent t else not (is_silent t)) ≡ false → is_silent t ≡ not b
    by_kind true k = k
    by_kind false k = negated_not (is_silent t) k

pub row_push : (row : List Tick) (t : Tick) → IsRow row → goes_on row t ≡ true → IsRow (row ++ t ∷ [])
row_push [] t h e = tt
row_push (x ∷ xs) t h e = AreSilent-push (is_silent x) xs t h (goes_same x t xs e)

kind_push : (row : List Tick) (state : RowSoFar) (t : Tick) → RowIsKind row state → goes_on row t ≡ true → RowIsKind (row ++ t ∷ []) (row_step state t).0
kind_push [] state t h e = subst (λ (r : RowSoFar). IsKind (is_silent t) (row_step r t).0) (sym h) (first_kind t)
kind_push (x ∷ xs) state t h e = same_kind state t (is_silent x) (goes_same x t xs e) h

-- the writer after a tick
abbrev pub HeardBy : WriterState → Tick → WriterState → Type 0
HeardBy old t new = new.row ≡ (row_step old.row t).0

module _ (ticks : List Tick) (given : List ℕ) (old new : WriterState) (t : Tick) (w : WriterStands ticks given old) (is : HeardBy old t new) where
  cut_on : (more : List Tick) → cut ((ticks ++ t ∷ []) ++ more) ≡ w.items ++ cut_from w.row (t ∷ more)
  cut_on more = ap cut (append_assoc ticks (t ∷ []) more) ∙ w.cuts (t ∷ more)

  goes : goes_on w.row t ≡ true → WriterStands (ticks ++ t ∷ []) (given ++ (row_step old.row t).1) new
  goes e =
      let push : row_after (w.row ++ t ∷ []) ≡ ((row_step (row_after w.row).0 t).0, (row_after w.row).1 ++ (row_step (row_after w.row).0 t).1) = row_from-push w.row (Empty, []) t in
      record {
        items = w.items;
        row = w.row ++ t ∷ [];
        cuts = λ more. cut_on more ∙ ap (λ (b : Bool). w.items ++ (if b then cut_from (w.row ++ t ∷ []) more else row_items w.row ++ cut_from (t ∷ []) more)) e;
        one_kind = row_push w.row t w.one_kind e;
        kind = subst (λ (r : RowSoFar). RowIsKind (w.row ++ t ∷ []) r) (sym is) (kind_push w.row old.row t w.kind e);
        keeps = is ∙ ap (λ (r : RowSoFar). (row_step r t).0) w.keeps ∙ ap (λ (s : Step). s.0) (sym push);
        gives = ap (λ (o : List ℕ). o ++ (row_step old.row t).1) w.gives
            ∙ append_assoc (flat_map item_octets w.items) (row_after w.row).1 (row_step old.row t).1
            ∙ ap (λ (r : RowSoFar). flat_map item_octets w.items ++ ((row_after w.row).1 ++ (row_step r t).1)) w.keeps
            ∙ ap (λ (s : Step). flat_map item_octets w.items ++ s.1) (sym push);
      }

  -- a new row
  begins : (row_step old.row t ≡ ((row_step Empty t).0, row_end old.row)) → goes_on w.row t ≡ false → WriterStands (ticks ++ t ∷ []) (given ++ (row_step old.row t).1) new
  begins s e = record {
    items = w.items ++ row_items w.row;
    row = t ∷ [];
    cuts = λ more. cut_on more
        ∙ ap (λ (b : Bool). w.items ++ (if b then cut_from (w.row ++ t ∷ []) more else row_items w.row ++ cut_from (t ∷ []) more)) e
        ∙ sym (append_assoc w.items (row_items w.row) (cut_from (t ∷ []) more));
    one_kind = tt;
    kind = subst (λ (r : RowSoFar). IsKind (is_silent t) r) (sym (is ∙ ap (λ (x : Step). x.0) s)) (first_kind t);
    keeps = is ∙ ap (λ (x : Step). x.0) s;
    gives = ap (λ (x : Step). given ++ x.1) s
        ∙ ap (λ (o : List ℕ). o ++ row_end old.row) w.gives
        ∙ append_assoc (flat_map item_octets w.items) (row_after w.row).1 (row_end old.row)
        ∙ ap (λ (r : RowSoFar). flat_map item_octets w.items ++ ((row_after w.row).1 ++ row_end r)) w.keeps
        ∙ ap (λ (o : List ℕ). flat_map item_octets w.items ++ o) (row_text w.row w.one_kind)
        ∙ sym (flat_map-append item_octets w.items (row_items w.row))
        ∙ sym (append-nil (flat_map item_octets (w.items ++ row_items w.row)))
        ∙ ap (λ (o : List ℕ). flat_map item_octets (w.items ++ row_items w.row) ++ o) (sym (first_gives t));
  }

  pub writer_stands_more : WriterStands (ticks ++ t ∷ []) (given ++ (row_step old.row t).1) new
  writer_stands_more = by_row w.row (goes_on w.row t) refl refl
    where
      ended : (row : List Tick) → w.row ≡ row → goes_on row t ≡ false → row_step old.row t ≡ ((row_step Empty t).0, row_end old.row)
      ended [] r e = cc
      ended (x ∷ xs) r e = switch old.row t (is_silent x) (goes_apart x t xs e) (subst (λ (ts : List Tick). RowIsKind ts old.row) r w.kind)

      by_row : (row : List Tick) (b : Bool) → w.row ≡ row → goes_on w.row t ≡ b → WriterStands (ticks ++ t ∷ []) (given ++ (row_step old.row t).1) new
      by_row row true r e = goes e
      by_row row false r e = begins (ended w.row refl e) e

pub writer_stands_new : (w : WriterState) → w.row ≡ Empty → WriterStands [] [] w
unfolding cut
writer_stands_new w e = record {
  items = [];
  row = [];
  cuts = λ more. refl;
  one_kind = tt;
  kind = e;
  keeps = e;
  gives = refl;
}

-- ---- the end

pub written : (ticks : List Tick) (given : List ℕ) (w : WriterState) → WriterStands ticks given w →
    header w.node ++ (given ++ (row_end w.row ++ 0x21 ∷ [])) ≡ capture_text w.node (cut ticks)
written ticks given w h =
    let items : cut ticks ≡ h.items ++ row_items h.row = ap cut (sym (append-nil ticks)) ∙ h.cuts [] in
    let text : given ++ row_end w.row ≡ flat_map item_octets (cut ticks) =
    ap (λ (o : List ℕ). o ++ row_end w.row) h.gives
    ∙ append_assoc (flat_map item_octets h.items) (row_after h.row).1 (row_end w.row)
    ∙ ap (λ (r : RowSoFar). flat_map item_octets h.items ++ ((row_after h.row).1 ++ row_end r)) h.keeps
    ∙ ap (λ (o : List ℕ). flat_map item_octets h.items ++ o) (row_text h.row h.one_kind)
    ∙ sym (flat_map-append item_octets h.items (row_items h.row))
    ∙ ap (λ (xs : List CaptureItem). flat_map item_octets xs) (sym items) in
    ap (λ (o : List ℕ). header w.node ++ o) (sym (append_assoc given (row_end w.row) (0x21 ∷ [])) ∙ ap (λ (o : List ℕ). o ++ 0x21 ∷ []) text)
    ∙ sym (append_assoc (header w.node) (flat_map item_octets (cut ticks)) (0x21 ∷ []))
