-- What a receiver makes of a row of ticks that are not silent: the pieces of the symbols that are read from them.
use Rattle.std.proofs.Common.{◌≡◌, refl, ℕ, suc, Bool, true, false, List, [], ◌∷◌, ◌++◌, length, sym, ap, subst, ◌∙◌, arith, append_assoc, length-append}
use Rattle.std.specs.Prelude.{Option, Some, None, Result, Ok, Err}
use Rattle.std.proofs.lemmas.List.{append-nil}
use Rattle.t1s_symbols.specs.declared.Quarter.{Quarter}
use Rattle.t1s_symbols.specs.declared.Symbol.{Symbol}
use Rattle.t1s_symbols.specs.declared.Class.{Class}
use Rattle.t1s_grammar.specs.declared.place.Phase.{Phase}
use Rattle.t1s_grammar.specs.declared.place.PlaceFault.{PlaceFault}
use Rattle.t1s_grammar.specs.Longer.{with_symbol}
use Rattle.t1s_grammar.specs.PlaceTable.{place_step, nibbles_at}
use Rattle.t1s_grammar.specs.Prefixes.{Beginning, phase_of, beginning_symbols}
use Rattle.t1s_grammar.proofs.Longer.{more}
use Rattle.t1s_pcs_rx.specs.Receiver.{Receiver}
use Rattle.t1s_pcs_rx.specs.PieceReading.{history_after, nibbles_after}
use Rattle.t1s_pcs_rx.specs.ReceiveTable.{after_judgement, class_after, closing_at, receive_event, receive_step, view_closed}
use Rattle.t1s_pcs_rx.specs.Views.{View}
use Rattle.t1s_pcs_rx.proofs.Ticks.{At, last_of, quarter, reading}
use Rattle.t1s_capture.specs.Cut.{Tick, AreSilent, quarter_of, symbol_by, on_place, on_symbol, read_on}
use Rattle.t1s_reception.specs.Receptions.{Reception, in_tick, receptions_from, receiver_after}
use Rattle.t1s_reception.proofs.LostReadings.{IsLost, is_signal, lost_on}
use Rattle.t1s_reception.proofs.SymbolTicks.{Partway, First, Second, Third, Fourth, first_tick, second_tick, third_tick, fourth_tick, symbol_event, judged}
use Rattle.t1s_reception.proofs.TakenSymbols.{history_in, Keeps, told_in, now_in, told_by, Takes, takes}

-- ---- ticks without a piece

-- no piece comes in these ticks, and the descrambler has this history after them
abbrev pub Quiet : ℕ → Receiver → List Tick → List Bool → Type 0
Quiet t r ticks past = (receptions_from t r ticks ≡ []) × ((receiver_after r ticks).history ≡ past)

pub quiet_on : (t : ℕ) (r : Receiver) (x : Tick) (xs : List Tick) → receive_event r x.0 x.1 ≡ None
    → receptions_from t r (x ∷ xs) ≡ receptions_from (suc t) (receive_step r x.0 x.1) xs
quiet_on t r x xs none =
    ap (λ (e : Option View). in_tick t e ++ receptions_from (suc t) (receive_step r x.0 x.1) xs) none

lost_quiet : (ts : List Tick) (t : ℕ) (r : Receiver) (past : List Bool) → IsLost r past → AreSilent false ts → Quiet t r ts past
lost_quiet [] t r past lost h = (refl, lost.1)
lost_quiet (x ∷ xs) t r past lost h =
    let (none, next) = lost_on r past x.0 x.1 lost (is_signal x.0 h.0) in
    let rest = lost_quiet xs (suc t) (receive_step r x.0 x.1) past next h.1 in
    (quiet_on t r x xs none ∙ rest.0, rest.1)

module _ (class : Class) (fresh : Bool) (place : Phase) (past : List Bool) (heard : List ℕ) where
  part_history : (r : Receiver) (fine : Bool) (s : Symbol) (k : ℕ) → Partway class fresh place past heard r fine s k → r.history ≡ past
  part_history r true s k p = ap (λ (x : Receiver). x.history) (p.goes refl)
  part_history r false s k p = (p.lost refl).1

  first_history : (r : Receiver) (a : Option Quarter) → First class fresh place past heard r a → r.history ≡ past
  first_history r None p = p.1
  first_history r (Some q) p = part_history r _ q.sym 0 p

  second_history : (r : Receiver) (a b : Option Quarter) → Second class fresh place past heard r a b → r.history ≡ past
  second_history r None b p = p.1
  second_history r (Some q) b p = part_history r _ q.sym 1 p

  third_history : (r : Receiver) (a b c : Option Quarter) → Third class fresh place past heard r a b c → r.history ≡ past
  third_history r None b c p = p.1
  third_history r (Some q) b c p = part_history r _ q.sym 2 p

-- ---- a row

module _ (start : ℕ) (past : List Bool) where
  -- the receiver after these symbols of a burst
  pub record Reads (r : Receiver) (b : Beginning) : Type 0 where
    pub heard : List ℕ
    pub at_place : At r (phase_of b) (history_in start past b) heard
    pub keeps : Keeps start past b heard

  -- what comes of more ticks of the row
  pub record RowTold (r : Receiver) (b : Beginning) (ticks : List Tick) : Type 0 where
    pub tells : told_in start past b ++ receptions_from (now_in start past b) r ticks ≡ told_in start past (read_on b ticks)
    pub history : (receiver_after r ticks).history ≡ history_in start past (read_on b ticks)

  -- no symbol more is read
  stays : (r : Receiver) (b : Beginning) (ticks : List Tick) → read_on b ticks ≡ b
      → Quiet (now_in start past b) r ticks (history_in start past b) → RowTold r b ticks
  stays r b ticks same quiet = record {
    tells = ap (λ (xs : List Reception). told_in start past b ++ xs) quiet.0
        ∙ append-nil (told_in start past b)
        ∙ ap (told_in start past) (sym same);
    history = quiet.1 ∙ ap (history_in start past) (sym same);
  }

  -- a row from a receiver as it reads
  module _ (class : Class) (last : Option Symbol) (fresh : Bool) (heard : List ℕ) (b : Beginning) (kept : Keeps start past b heard) where
    abbrev base : List Bool
    base = history_in start past b

    abbrev r0 : Receiver
    r0 = reading class (last_of last) fresh (phase_of b) base heard

    abbrev after : Receiver → Tick → Receiver
    after r t = receive_step r t.0 t.1

    abbrev now : ℕ
    now = now_in start past b

    one_row : (t : Tick) → AreSilent false (t ∷ []) → RowTold r0 b (t ∷ [])
    one_row t h =
        let (none, first) = first_tick class fresh (phase_of b) base heard last t.0 t.1 (is_signal t.0 h.0) in
        stays r0 b (t ∷ []) refl (quiet_on now r0 t [] none, first_history class fresh (phase_of b) base heard _ (quarter_of t) first)

    two_row : (t u : Tick) → AreSilent false (t ∷ u ∷ []) → RowTold r0 b (t ∷ u ∷ [])
    two_row t u h =
        let (none, first) = first_tick class fresh (phase_of b) base heard last t.0 t.1 (is_signal t.0 h.0) in
        let (none1, second) = second_tick class fresh (phase_of b) base heard (after r0 t) (quarter_of t) u.0 u.1 (is_signal u.0 h.1.0) first in
        stays r0 b (t ∷ u ∷ []) refl (
          quiet_on now r0 t (u ∷ []) none ∙ quiet_on (suc now) (after r0 t) u [] none1,
          second_history class fresh (phase_of b) base heard _ (quarter_of t) (quarter_of u) second,
        )

    three_row : (t u v : Tick) → AreSilent false (t ∷ u ∷ v ∷ []) → RowTold r0 b (t ∷ u ∷ v ∷ [])
    three_row t u v h =
        let (none, first) = first_tick class fresh (phase_of b) base heard last t.0 t.1 (is_signal t.0 h.0) in
        let (none1, second) = second_tick class fresh (phase_of b) base heard (after r0 t) (quarter_of t) u.0 u.1 (is_signal u.0 h.1.0) first in
        let (none2, third) = third_tick class fresh (phase_of b) base heard (after (after r0 t) u) (quarter_of t) (quarter_of u) v.0 v.1
        (is_signal v.0 h.1.1.0) second in
        stays r0 b (t ∷ u ∷ v ∷ []) refl (
          quiet_on now r0 t (u ∷ v ∷ []) none
              ∙ quiet_on (suc now) (after r0 t) u (v ∷ []) none1
              ∙ quiet_on (suc (suc now)) (after (after r0 t) u) v [] none2,
          third_history class fresh (phase_of b) base heard _ (quarter_of t) (quarter_of u) (quarter_of v) third,
        )

    -- four ticks and more, by what the first four are
    module _ (t u v w : Tick) (rest : List Tick) (h : AreSilent false (t ∷ u ∷ v ∷ w ∷ rest)) where
      abbrev r3 : Receiver
      r3 = after (after (after r0 t) u) v

      abbrev r4 : Receiver
      r4 = after r3 w

      abbrev four : Option Symbol
      four = symbol_by (quarter_of t) (quarter_of u) (quarter_of v) (quarter_of w)

      abbrev all : List Tick
      all = t ∷ u ∷ v ∷ w ∷ rest

      abbrev third_now : ℕ
      third_now = suc (suc (suc now))

      -- the events of the first three, and the fourth tick
      four_ticks : (receptions_from now r0 all ≡ in_tick third_now (receive_event r3 w.0 w.1) ++ receptions_from (suc third_now) r4 rest)
          × Fourth class fresh (phase_of b) base heard r4 (receive_event r3 w.0 w.1) four
      four_ticks =
          let (none, first) = first_tick class fresh (phase_of b) base heard last t.0 t.1 (is_signal t.0 h.0) in
          let (none1, second) = second_tick class fresh (phase_of b) base heard (after r0 t) (quarter_of t) u.0 u.1 (is_signal u.0 h.1.0) first in
          let (none2, third) = third_tick class fresh (phase_of b) base heard (after (after r0 t) u) (quarter_of t) (quarter_of u) v.0 v.1
          (is_signal v.0 h.1.1.0) second in
          let fourth = fourth_tick class fresh (phase_of b) base heard r3 (quarter_of t) (quarter_of u) (quarter_of v) w.0 w.1
          (is_signal w.0 h.1.1.1.0) third in (
            quiet_on now r0 t (u ∷ v ∷ w ∷ rest) none
                ∙ quiet_on (suc now) (after r0 t) u (v ∷ w ∷ rest) none1
                ∙ quiet_on (suc (suc now)) (after (after r0 t) u) v (w ∷ rest) none2,
            fourth,
          )

      torn : receive_event r3 w.0 w.1 ≡ None → IsLost r4 base → read_on b all ≡ b → RowTold r0 b all
      torn none lost same =
          let quiet = lost_quiet rest (suc third_now) r4 base lost h.1.1.1.1 in
          stays r0 b all same (
            four_ticks.0 ∙ ap (λ (e : Option View). in_tick third_now e ++ receptions_from (suc third_now) r4 rest) none ∙ quiet.0,
            quiet.1,
          )

      goes : (s : Symbol) (q : Phase) → place_step (phase_of b) s ≡ Ok q → read_on b all ≡ read_on (with_symbol b s) rest
          → receive_event r3 w.0 w.1 ≡ told_by start past b heard s → RowTold r4 (with_symbol b s) rest → RowTold r0 b all
      goes s q e same event told =
          let c : Beginning = with_symbol b s in
          let m = more b s q e in
          let took : Takes start past b s heard = takes start past b s q heard e kept in
          let later : suc third_now ≡ now_in start past c = omega (arith, ap length m.symbols, length-append (beginning_symbols b) (s ∷ [])) in
          record {
            tells = ap (λ (xs : List Reception). told_in start past b ++ xs)
                (four_ticks.0 ∙ ap (λ (o : Option View). in_tick third_now o ++ receptions_from (suc third_now) r4 rest) event)
                ∙ sym (append_assoc (told_in start past b) (in_tick third_now (told_by start past b heard s)) (receptions_from (suc third_now) r4 rest))
                ∙ ap (λ (xs : List Reception). xs ++ receptions_from (suc third_now) r4 rest) took.tells
                ∙ ap (λ (n : ℕ). told_in start past c ++ receptions_from n r4 rest) later
                ∙ told.tells
                ∙ ap (told_in start past) (sym same);
            history = told.history ∙ ap (history_in start past) (sym same);
          }

      -- the receiver after a symbol that is taken
      reads_more : (s : Symbol) (q : Phase) → place_step (phase_of b) s ≡ Ok q
          → r4 ≡ judged class fresh (phase_of b) base heard s → Reads r4 (with_symbol b s)
      reads_more s q e is =
          let took : Takes start past b s heard = takes start past b s q heard e kept in
          let m = more b s q e in
          let kept_now : List ℕ = nibbles_after (nibbles_at (phase_of b)) base heard s in
          record {
            heard = kept_now;
            at_place = record {
              class = class_after class fresh s;
              last = Some s;
              fresh = false;
              is = is
                  ∙ ap (after_judgement (reading class None fresh (phase_of b) base heard) (quarter s 3) (class_after class fresh s) (phase_of b)) e
                  ∙ ap (λ (x : Phase). reading (class_after class fresh s) (Some (quarter s 3)) false x (history_after base s) kept_now) (sym m.phase)
                  ∙ ap (λ (x : List Bool). reading (class_after class fresh s) (Some (quarter s 3)) false (phase_of (with_symbol b s)) x kept_now) took.history;
            };
            keeps = took.keeps;
          }

      by_place : ((r : Receiver) (c : Beginning) → Reads r c → RowTold r c rest) → (s : Symbol) → four ≡ Some s
          → receive_event r3 w.0 w.1 ≡ symbol_event class fresh (phase_of b) base heard s → r4 ≡ judged class fresh (phase_of b) base heard s
          → (x : Result Phase PlaceFault) → place_step (phase_of b) s ≡ x → RowTold r0 b all
      by_place others s e event is (Ok q) k =
          let same : read_on b all ≡ read_on (with_symbol b s) rest =
          ap (λ (o : Option Symbol). on_symbol b o (λ c. read_on c rest)) e
          ∙ ap (λ (x : Result Phase PlaceFault). on_place b s x (λ c. read_on c rest)) k in
          goes s q k same (event ∙ ap (λ (x : Result Phase PlaceFault). view_closed heard (closing_at (phase_of b) s x)) k)
          (others r4 (with_symbol b s) (reads_more s q k is))
      by_place others s e event is (Err fault) k =
          let same : read_on b all ≡ b =
          ap (λ (o : Option Symbol). on_symbol b o (λ c. read_on c rest)) e
          ∙ ap (λ (x : Result Phase PlaceFault). on_place b s x (λ c. read_on c rest)) k in
          let left : r4 ≡ after_judgement (reading class None fresh (phase_of b) base heard) (quarter s 3) (class_after class fresh s) (phase_of b) (Err fault) =
          is ∙ ap (after_judgement (reading class None fresh (phase_of b) base heard) (quarter s 3) (class_after class fresh s) (phase_of b)) k in
          torn (event ∙ ap (λ (x : Result Phase PlaceFault). view_closed heard (closing_at (phase_of b) s x)) k)
          (subst (λ (x : Receiver). IsLost x base) (sym left) (tt, refl)) same

      four_row : ((r : Receiver) (c : Beginning) → Reads r c → RowTold r c rest) → RowTold r0 b all
      four_row others = by_symbol four refl four_ticks.1
        where
          by_symbol : (o : Option Symbol) → four ≡ o → Fourth class fresh (phase_of b) base heard r4 (receive_event r3 w.0 w.1) o → RowTold r0 b all
          by_symbol None e lost = torn lost.0 lost.1 (ap (λ (o : Option Symbol). on_symbol b o (λ c. read_on c rest)) e)
          by_symbol (Some s) e is = by_place others s e is.0 is.1 (place_step (phase_of b) s) refl

  from_reading : (r : Receiver) (b : Beginning) (ticks : List Tick) (reads : Reads r b)
      → RowTold (reading reads.at_place.class (last_of reads.at_place.last) reads.at_place.fresh (phase_of b) (history_in start past b) reads.heard) b ticks
      → RowTold r b ticks
  from_reading r b ticks reads told = subst (λ (x : Receiver). RowTold x b ticks) (sym reads.at_place.is) told

  pub row_told : (ticks : List Tick) (b : Beginning) (r : Receiver) → AreSilent false ticks → Reads r b → RowTold r b ticks
  row_told [] b r h reads = stays r b [] refl (refl, ap (λ (x : Receiver). x.history) reads.at_place.is)
  row_told (t ∷ []) b r h reads =
      let at = reads.at_place in from_reading r b (t ∷ []) reads (one_row at.class at.last at.fresh reads.heard b reads.keeps t h)
  row_told (t ∷ u ∷ []) b r h reads =
      let at = reads.at_place in from_reading r b (t ∷ u ∷ []) reads (two_row at.class at.last at.fresh reads.heard b reads.keeps t u h)
  row_told (t ∷ u ∷ v ∷ []) b r h reads =
      let at = reads.at_place in from_reading r b (t ∷ u ∷ v ∷ []) reads (three_row at.class at.last at.fresh reads.heard b reads.keeps t u v h)
  row_told (t ∷ u ∷ v ∷ w ∷ rest) b r h reads =
      let at = reads.at_place in
      from_reading r b (t ∷ u ∷ v ∷ w ∷ rest) reads
      (four_row at.class at.last at.fresh reads.heard b reads.keeps t u v w rest h (λ x c k. row_told rest c x h.1.1.1.1 k))
