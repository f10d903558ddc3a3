-- What is cut from any ticks shows the pieces that a receiver completes in them.
use Rattle.std.proofs.Common.{◌≡◌, refl, ℕ, suc, ◌+◌, ◌-◌, ◌*◌, Bool, true, false, not, List, [], ◌∷◌, ◌++◌, length, map, sym, ap, ap₂, subst, ◌∙◌, arith, append_assoc, if◌then◌else◌}
use Rattle.std.specs.Prelude.{None, ◌==◌, ◌&&◌}
use Rattle.std.proofs.lemmas.Bool.{eqb-true}
use Rattle.std.proofs.lemmas.List.{append-nil, map-append}
use Rattle.t1s_symbols.specs.declared.Class.TheVariants.{None as Unread}
use Rattle.t1s_symbols.specs.declared.Heard.{Heard}
use Rattle.t1s_symbols.specs.declared.Heard.TheVariants.{Nothing, One, Many}
use Rattle.t1s_scramble.specs.Scrambled.{start_history, descrambler_after}
use Rattle.t1s_scramble.proofs.Nibbles.{descrambler_after-nil}
use Rattle.t1s_grammar.specs.Prefixes.{Beginning, phase_of}
use Rattle.t1s_grammar.specs.PlaceTable.{start_phase, ends_burst}
use Rattle.t1s_pcs_rx.specs.declared.reader.Burst.TheVariants.{Outside, Reading as ReadingBurst}
use Rattle.t1s_pcs_rx.specs.Receiver.{Receiver, receive_start}
use Rattle.t1s_pcs_rx.specs.ReceiveTable.{closing_in, receive_event, receive_step}
use Rattle.t1s_pcs_rx.specs.Tails.{IsSignal}
use Rattle.t1s_pcs_rx.proofs.Bursts.{begun, outside}
use Rattle.t1s_pcs_rx.proofs.Ended.{known_burst, nothing_ends_burst}
use Rattle.t1s_capture.specs.Captures.{CaptureItem, Gap, Burst, Torn, no_symbols, symbol_count, item_ticks}
use Rattle.t1s_capture.specs.Cut.{Tick, nothing_heard, is_silent, AreSilent, IsRow, read_on, burst_or_torn, row_items, goes_on, cut_from, cut}
use Rattle.t1s_capture.specs.Pieces.{item_symbols, item_pieces, item_nibbles}
use Rattle.t1s_capture.proofs.Cuts.{goes_apart, row_push}
use Rattle.t1s_capture.proofs.Rows.{row_reads}
use Rattle.t1s_reception.specs.Receptions.{Reception, receptions_from, receiver_after, in_tick}
use Rattle.t1s_reception.specs.ShownPieces.{shown_pieces, shown_from, completed, CutsShowReceptions}
use Rattle.t1s_reception.proofs.LostReadings.{is_signal}
use Rattle.t1s_reception.proofs.RowReceptions.{Quiet, quiet_on, Reads, RowTold, row_told}

-- ---- ticks one after another

pub receptions_from-append : (xs ys : List Tick) (t : ℕ) (r : Receiver)
    → receptions_from t r (xs ++ ys) ≡ receptions_from t r xs ++ receptions_from (t + length xs) (receiver_after r xs) ys
receptions_from-append [] ys t r = let same : t ≡ t + 0 = omega arith in ap (λ (n : ℕ). receptions_from n r ys) same
receptions_from-append (x ∷ xs) ys t r =
    let next : Receiver = receive_step r x.0 x.1 in
    let now : List Reception = in_tick t (receive_event r x.0 x.1) in
    let same : suc t + length xs ≡ t + length (x ∷ xs) = omega arith in
    ap (λ (es : List Reception). now ++ es) (receptions_from-append xs ys (suc t) next)
    ∙ ap (λ (n : ℕ). now ++ (receptions_from (suc t) next xs ++ receptions_from n (receiver_after next xs) ys)) same
    ∙ sym (append_assoc now (receptions_from (suc t) next xs) (receptions_from (t + length (x ∷ xs)) (receiver_after next xs) ys))

pub receiver_after-append : (xs ys : List Tick) (r : Receiver) → receiver_after r (xs ++ ys) ≡ receiver_after (receiver_after r xs) ys
receiver_after-append [] ys r = refl
receiver_after-append (x ∷ xs) ys r = receiver_after-append xs ys (receive_step r x.0 x.1)

-- ---- silent ticks

nothing_is : (h : Heard) → nothing_heard h ≡ true → h ≡ Nothing
nothing_is Nothing e = refl
nothing_is (One q) e = absurd (cc)
nothing_is Many e = absurd (cc)

-- a silent tick leaves a receiver outside of a burst
silent_on : (r : Receiver) (h : Heard) (own : Bool) → nothing_heard h ≡ true
    → (receive_event r h own ≡ None) × ((receive_step r h own).burst ≡ Outside) × ((receive_step r h own).history ≡ r.history)
silent_on r h own e =
    let is = nothing_is h e in
    let (none, next) = nothing_ends_burst r own in
    rw is (none, ap (λ (x : Receiver). x.burst) next, ap (λ (x : Receiver). x.history) next)

silent_quiet : (ts : List Tick) (t : ℕ) (r : Receiver) (past : List Bool) → r.history ≡ past → AreSilent true ts → Quiet t r ts past
silent_quiet [] t r past e h = (refl, e)
silent_quiet (x ∷ xs) t r past e h =
    let on = silent_on r x.0 x.1 h.0 in
    let rest = silent_quiet xs (suc t) (receive_step r x.0 x.1) past (on.2 ∙ e) h.1 in
    (quiet_on t r x xs on.0 ∙ rest.0, rest.1)

silent_outside : (xs : List Tick) (x : Tick) (r : Receiver) → AreSilent true (x ∷ xs) → (receiver_after r (x ∷ xs)).burst ≡ Outside
silent_outside [] x r h = (silent_on r x.0 x.1 h.0).1
silent_outside (y ∷ ys) x r h = silent_outside ys y (receive_step r x.0 x.1) h.1

-- ---- the first tick of a burst

enters : (r : Receiver) (h : Heard) (own : Bool) → IsSignal h
    → (receive_event (outside r) h own ≡ receive_event (begun r) h own) × (receive_step (outside r) h own ≡ receive_step (begun r) h own)
unfolding receive_step closing_in
enters r Nothing own s = absurd s
enters r (One q) false s = (refl, refl)
enters r (One q) true s = (refl, refl)
enters r Many false s = (refl, refl)
enters r Many true s = (refl, refl)

-- ---- the item of a row

abbrev item_of : Tick → List Tick → CaptureItem
item_of x xs = if is_silent x then Gap (length (x ∷ xs)) else burst_or_torn (read_on no_symbols (x ∷ xs)) (length (x ∷ xs))

-- what a row shows, and what it leaves of a receiver
record RowShown (start : ℕ) (past : List Bool) (r : Receiver) (row : List Tick) (item : CaptureItem) : Type 0 where
  shows : map completed (shown_pieces start past (item_pieces item)) ≡ receptions_from start r row
  history : (receiver_after r row).history ≡ descrambler_after past (item_nibbles item)
  lasts : item_ticks item ≡ length row

silent_row : (start : ℕ) (past : List Bool) (r : Receiver) (row : List Tick) → r.history ≡ past → AreSilent true row
    → RowShown start past r row (Gap (length row))
silent_row start past r row e h =
    let quiet = silent_quiet row start r past e h in
    record { shows = sym quiet.0; history = quiet.1 ∙ sym (descrambler_after-nil past); lasts = refl }

burst_symbols : (b : Beginning) (n : ℕ) → item_symbols (burst_or_torn b n) ≡ b
burst_symbols b n = by_test ((n == 4 * symbol_count b) && ends_burst (phase_of b))
  where
    by_test : (x : Bool) → item_symbols (if x then Burst b else Torn b (n - 4 * symbol_count b)) ≡ b
    by_test true = refl
    by_test false = refl

burst_lasts : (b : Beginning) (n left : ℕ) → n ≡ 4 * symbol_count b + left → item_ticks (burst_or_torn b n) ≡ n
burst_lasts b n left e = by_test (n == 4 * symbol_count b) (ends_burst (phase_of b)) refl
  where
    by_test : (x y : Bool) → (n == 4 * symbol_count b) ≡ x → item_ticks (if x && y then Burst b else Torn b (n - 4 * symbol_count b)) ≡ n
    by_test true true k = sym (eqb-true n (4 * symbol_count b) k)
    by_test true false k = omega (arith, e)
    by_test false y k = omega (arith, e)

sound_row : (start : ℕ) (past : List Bool) (r : Receiver) (x : Tick) (xs : List Tick)
    → r.history ≡ past → r.burst ≡ Outside → AreSilent false (x ∷ xs)
    → RowShown start past r (x ∷ xs) (burst_or_torn (read_on no_symbols (x ∷ xs)) (length (x ∷ xs)))
sound_row start past r x xs e out h =
    let row : List Tick = x ∷ xs in
    let b : Beginning = read_on no_symbols (x ∷ xs) in
    let (event, step) = enters r x.0 x.1 (is_signal x.0 h.0) in
    let known = known_burst r Outside out in
    let same : receptions_from start r (x ∷ xs) ≡ receptions_from start (begun r) (x ∷ xs) =
    ap (λ (y : Receiver). receptions_from start y (x ∷ xs)) known
    ∙ ap₂ (λ o (y : Receiver). in_tick start o ++ receptions_from (suc start) y xs) event step in
    let after : receiver_after r (x ∷ xs) ≡ receiver_after (begun r) (x ∷ xs) =
    ap (λ (y : Receiver). receiver_after y (x ∷ xs)) known ∙ ap (λ (y : Receiver). receiver_after y xs) step in
    let reads : Reads start past (begun r) no_symbols = record {
      heard = r.nibbles;
      at_place = record {
        class = Unread;
        last = None;
        fresh = true;
        is = ap (λ (hs : List Bool). record { class = Unread; burst = ReadingBurst None true start_phase; history = hs; nibbles = r.nibbles })
            (e ∙ sym (descrambler_after-nil past));
      };
      keeps = tt;
    } in
    let told : RowTold start past (begun r) no_symbols (x ∷ xs) = row_told start past (x ∷ xs) no_symbols (begun r) h reads in
    let symbols = burst_symbols (read_on no_symbols (x ∷ xs)) (length (x ∷ xs)) in
    let now : start ≡ start + 4 * symbol_count no_symbols = omega arith in
    let counted = row_reads (x ∷ xs) no_symbols [] h in
    record {
      shows = ap (λ (c : Beginning). map completed (shown_pieces start past (item_pieces (Burst c)))) symbols
          ∙ sym told.tells
          ∙ ap (λ (n : ℕ). receptions_from n (begun r) (x ∷ xs)) (sym now)
          ∙ sym same;
      history = ap (λ (y : Receiver). y.history) after
          ∙ told.history
          ∙ ap (λ (c : Beginning). descrambler_after past (item_nibbles (Burst c))) (sym symbols);
      lasts = burst_lasts (read_on no_symbols (x ∷ xs)) (length (x ∷ xs)) counted.left (omega (arith, counted.ticks));
    }

-- ---- all rows

-- a receiver is outside of a burst where a row of ticks begins that are not silent
abbrev Enters : Receiver → List Tick → Type 0
Enters r [] = r.burst ≡ Outside
Enters r (x ∷ xs) = is_silent x ≡ false → r.burst ≡ Outside

any_row : (start : ℕ) (past : List Bool) (r : Receiver) (x : Tick) (xs : List Tick)
    → r.history ≡ past → Enters r (x ∷ xs) → IsRow (x ∷ xs)
    → RowShown start past r (x ∷ xs) (item_of x xs)
any_row start past r x xs e enter h = by_kind (is_silent x) refl h
  where
    by_kind : (b : Bool) → is_silent x ≡ b → AreSilent b xs
        → RowShown start past r (x ∷ xs) (if b then Gap (length (x ∷ xs)) else burst_or_torn (read_on no_symbols (x ∷ xs)) (length (x ∷ xs)))
    by_kind true k row = silent_row start past r (x ∷ xs) e (k, row)
    by_kind false k row = sound_row start past r x xs e (enter k) (k, row)

opposite : (a b : Bool) → a ≡ not b → a ≡ false → b ≡ true
opposite a true e f = refl
opposite a false e f = absurd (cc)

abbrev FromRow : List Tick → Type 0
FromRow ticks =
    (row : List Tick) (r : Receiver) (start : ℕ) (past : List Bool) → IsRow row → r.history ≡ past → Enters r row
    → map completed (shown_from start past (cut_from row ticks)) ≡ receptions_from start r (row ++ ticks)

from_row : (ticks : List Tick) → FromRow ticks
from_row [] [] r start past h e enter = refl
from_row [] (x ∷ xs) r start past h e enter =
    let shown = any_row start past r x xs e enter h in
    ap (map completed) (append-nil (shown_pieces start past (item_pieces (item_of x xs))))
    ∙ shown.shows
    ∙ ap (receptions_from start r) (sym (append-nil (x ∷ xs)))
from_row (t ∷ ts) row r start past h e enter =
    by_test (λ xs q n past_then one same first. from_row ts xs q n past_then one same first) (goes_on row t) refl
  where
    longer : (xs : List Tick) → Enters r xs → goes_on xs t ≡ true → Enters r (xs ++ t ∷ [])
    longer [] k g = λ sounds. k
    longer (x ∷ xs) k g = k

    new_row : FromRow ts → (xs : List Tick) → IsRow xs → Enters r xs → goes_on xs t ≡ false
        → map completed (shown_from start past (row_items xs ++ cut_from (t ∷ []) ts)) ≡ receptions_from start r (xs ++ t ∷ ts)
    new_row others [] row_is k g = absurd (cc)
    new_row others (x ∷ xs) row_is k g =
        let shown = any_row start past r x xs e k row_is in
        let item : CaptureItem = item_of x xs in
        let next : Receiver = receiver_after r (x ∷ xs) in
        let later : List Bool = descrambler_after past (item_nibbles item) in
        let apart = goes_apart x t xs g in
        let enters_next : Enters next (t ∷ []) = λ sounds. (
        let silent = opposite (is_silent t) (is_silent x) apart sounds in
        silent_outside xs x r (silent, subst (λ (b : Bool). AreSilent b xs) silent row_is)) in
        let rest = others (t ∷ []) next (start + item_ticks item) later tt shown.history enters_next in
        map-append completed (shown_pieces start past (item_pieces item)) (shown_from (start + item_ticks item) later (cut_from (t ∷ []) ts))
        ∙ ap₂ (λ (a b : List Reception). a ++ b) shown.shows rest
        ∙ ap (λ (n : ℕ). receptions_from start r (x ∷ xs) ++ receptions_from (start + n) next (t ∷ ts)) shown.lasts
        ∙ sym (receptions_from-append (x ∷ xs) (t ∷ ts) start r)

    by_test : FromRow ts → (b : Bool) → goes_on row t ≡ b
        → map completed (shown_from start past (if b then cut_from (row ++ t ∷ []) ts else row_items row ++ cut_from (t ∷ []) ts))
        ≡ receptions_from start r (row ++ t ∷ ts)
    by_test others true g =
        others (row ++ t ∷ []) r start past (row_push row t h g) e (longer row enter g)
        ∙ ap (receptions_from start r) (append_assoc row (t ∷ []) ts)
    by_test others false g = new_row others row h enter g

pub cuts_show_receptions : CutsShowReceptions
unfolding cut
cuts_show_receptions ticks = from_row ticks [] receive_start 0 start_history tt refl refl
