-- A piece of an own run: the transmitter spells the frame, with the J that end directly before its first pop.
use Rattle.std.proofs.Common.{◌≡◌, ℕ, zero, suc, ◌+◌, ◌-◌, ◌*◌, ◌/◌, ◌%◌, ◌==◌, ◌<◌, ◌≤◌, inl, inr, Bool, true, false, ◌&&◌, ◌||◌, IsTrue, Some, List, [], ◌∷◌, ◌++◌, length, drop, take, map, replicate, slice_index, refl, sym, ◌∙◌, ap, subst, arith, length-drop}
use Rattle.std.specs.Cmp.{first_so, second_so}
use Rattle.std.proofs.Math.Seq.{drop-cons}
use Rattle.std.proofs.lemmas.List.{drop_all, length-append, length-map, length-replicate, nil_from_length}
use Rattle.std.proofs.lemmas.Bool.{cases_lt, cases_eq, false≢true}
use Rattle.std.proofs.lemmas.Bool.Decides.{nat_tests}
use Rattle.t1s_symbols.specs.declared.Symbol.{Symbol}
use Rattle.t1s_symbols.specs.declared.Symbol.TheVariants.{Nibble, J, T, H}
use Rattle.t1s_scramble.proofs.Nibbles.{length-scrambled_nibbles}
use Rattle.t1s_frame.specs.Frame.{IsFrame, nibble_list}
use Rattle.t1s_grammar.specs.Burst.{Piece, piece_symbols}
use Rattle.t1s_grammar.specs.Reading.{StandsForFrame}
use Rattle.t1s_grammar.specs.Laws.{IsRead}
use Rattle.t1s_grammar.specs.Sent.{sent_piece}
use Rattle.t1s_ring.specs.declared.queued.Queued.{Queued}
use Rattle.t1s_pcs_tx.specs.declared.TxReport.TheVariants.{Closed}
use Rattle.t1s_pcs_tx.specs.State.{TxState, Stage, Starting, Sending, ClosingEnd, ClosingCloser, is_closed, symbol_of, report_by}
use Rattle.t1s_pcs_tx.specs.TransmitTable.{transmit_step, report_of, at_boundary, is_quiet}
use Rattle.t1s_pcs_tx.specs.Runs.{Tick, after, driven_ticks, popped_nibbles, all_quarters, lead_from, lead_of, lost_nibbles}
use Rattle.t1s_pcs_tx.specs.Laws.{ClosesLast, IsFed, IsPieceRun, EndsWithPiece, lead_after, takes_nibble}
use Rattle.t1s_pcs_tx.proofs.Leads.{driven_ticks-append}
use Rattle.t1s_pcs_tx.proofs.PieceWithLead.{sends_frames}
use Rattle.t1s_node.specs.Core.{Core}
use Rattle.t1s_node.specs.Laws.{Spells, IsPieceOf}
use Rattle.t1s_node.specs.Runs.{CoreTick, found_at, left_at, popped_at, drive_at}
use Rattle.t1s_turns.specs.OwnRun.{quarters_from}
use Rattle.t1s_turns.proofs.OwnRunTicks.{tx_in, tx_left, tx_ticks, popped_from, tx_next, after-ticks, driven-ticks, popped-ticks}

-- ---- lists of quarters

pub length-all_quarters : (symbols : List Symbol) → length (all_quarters symbols) ≡ 4 * length symbols
length-all_quarters [] = refl
length-all_quarters (s ∷ ss) = let more = length-all_quarters ss in omega arith

lead_from-syncs : (a lead : ℕ) → lead_from lead (all_quarters (replicate a J)) ≡ lead + a
lead_from-syncs zero lead = omega arith
lead_from-syncs (suc a) lead = lead_from-syncs a (lead + 1) ∙ (omega arith)

pub length-piece_symbols : (p : Piece) → length (piece_symbols p) ≡ p.lead + length p.nibbles + 4
length-piece_symbols p =
    let whole = length-append (replicate p.lead J ++ H ∷ H ∷ map Nibble p.nibbles) (T ∷ p.closer ∷ []) in
    let open_part = length-append (replicate p.lead J) (H ∷ H ∷ map Nibble p.nibbles) in
    let syncs = length-replicate p.lead J in
    let carried = length-map p.nibbles Nibble in
    omega (arith, whole, open_part, syncs, carried)

pub length-sent : (lead : ℕ) (past : List Bool) (octets : List ℕ) (good : Bool) → 4 ≤ length (nibble_list octets)
    → length (piece_symbols (sent_piece lead past octets good)) ≡ lead + length (nibble_list octets)
length-sent lead past octets good some =
    let whole = length-piece_symbols (sent_piece lead past octets good) in
    let same = length-scrambled_nibbles past (drop 4 (nibble_list octets)) in
    let fewer = length-drop 4 (nibble_list octets) in
    omega (arith, whole, same, fewer, some)

lost_of_none : (line left : List ℕ) → line ≡ [] → lost_nibbles line left ≡ []
lost_of_none line left none = rw none (take_none (0 - length left))
  where
    take_none : (n : ℕ) → take {A = ℕ} n [] ≡ []
    take_none zero = refl
    take_none (suc n) = refl

module _ {D : Type 0} (answer : D → ℕ → ℕ) (after_draw : D → D) (start : Core D) (given : ℕ → CoreTick) where
  abbrev left : ℕ → Core D
  left t = left_at answer after_draw start given t

  abbrev found_tx : ℕ → TxState
  found_tx t = (found_at answer after_draw start given t).tx

  abbrev ticks_from : ℕ → ℕ → List Tick
  ticks_from t n = tx_ticks answer after_draw start given t n

  pub length-quarters_from : (n t : ℕ) → length (quarters_from answer after_draw start given t n) ≡ n
  length-quarters_from zero t = refl
  length-quarters_from (suc n) t = let more = length-quarters_from n (suc t) in omega arith

  pub quarters_from-append : (n m t : ℕ) → quarters_from answer after_draw start given t (n + m) ≡ quarters_from answer after_draw start given t n ++ quarters_from answer after_draw start given (t + n) m
  quarters_from-append zero m t = let e : t ≡ t + 0 = omega arith in let f : zero + m ≡ m = omega arith in rw f (ap (λ u. quarters_from answer after_draw start given u m) e)
  quarters_from-append (suc n) m t =
      let e : suc t + n ≡ t + suc n = omega arith in
      let f : suc n + m ≡ suc (n + m) = omega arith in
      rw f (ap (λ qs. (drive_at answer after_draw start given t).quarter ∷ qs) (quarters_from-append n m (suc t) ∙ ap (λ u. quarters_from answer after_draw start given (suc t) n ++ quarters_from answer after_draw start given u m) e))

  -- a piece, from its first pop on
  module _ (end : ℕ) (f : Queued) (first : ℕ) (piece : IsPieceOf answer after_draw start given end f first) (many : 144 ≤ length (nibble_list f.frame))
      (within : first + (4 * length (nibble_list f.frame) + 7) ≤ end) where
    abbrev count : ℕ
    count = length (nibble_list f.frame)

    -- what tick m of it leaves
    pub data PieceLeft : ℕ → Stage → ℕ → Type 0 where
      begins_piece : {i q : ℕ} → i < 4 → q ≤ 3 → PieceLeft (4 * i + q) (Starting i) q
      sends_piece : {i q x : ℕ} → 4 ≤ i → i < count → q ≤ 3 → PieceLeft (4 * i + q) (Sending x) q
      ends_piece : {q : ℕ} → q ≤ 3 → PieceLeft (4 * count + q) (ClosingEnd true) q
      closes_piece : {q : ℕ} → q ≤ 3 → PieceLeft (4 * count + 4 + q) (ClosingCloser true) q

    place_left : (i q u : ℕ) → q ≤ 3 → i < count + 2 → u ≡ first + 4 * i + q → PieceLeft (4 * i + q) (left u).tx.stage (left u).tx.part
    place_left i q u few low is = elim (cases_lt i count) [
      | inl lt ↦
          let (spells, at) = piece.spells i q lt (omega (arith, few)) (omega (arith, within, lt, few)) in
          to_tick (spelled (left (first + 4 * i + q)).tx.stage (left (first + 4 * i + q)).tx.part lt spells at)
      | inr ge ↦ elim (cases_eq i count) [
        | inl same ↦
            let u_is : first + 4 * i + q ≡ first + 4 * count + q = omega (arith, same) in
            let (symbol, at) = piece.ends q (omega (arith, few)) (omega (arith, within, few)) in
            to_tick (ended (left (first + 4 * i + q)).tx.stage (left (first + 4 * i + q)).tx.part same (ap (λ v. (left v).tx.stage) u_is ∙ symbol) (ap (λ v. (left v).tx.part) u_is ∙ at))
        | inr other ↦
            let next : i ≡ count + 1 = omega (arith, low, ge, other) in
            let u_is : first + 4 * i + q ≡ first + 4 * count + 4 + q = omega (arith, next) in
            let (symbol, at) = piece.closes q (omega (arith, few)) (omega (arith, within, few)) in
            to_tick (closed (left (first + 4 * i + q)).tx.stage (left (first + 4 * i + q)).tx.part next (ap (λ v. (left v).tx.stage) u_is ∙ symbol) (ap (λ v. (left v).tx.part) u_is ∙ at))
      ]
    ]
      where
        to_tick : PieceLeft (4 * i + q) (left (first + 4 * i + q)).tx.stage (left (first + 4 * i + q)).tx.part → PieceLeft (4 * i + q) (left u).tx.stage (left u).tx.part
        to_tick h = subst (λ v. PieceLeft (4 * i + q) (left v).tx.stage (left v).tx.part) (sym is) h

        ended : (stage : Stage) (part : ℕ) → i ≡ count → stage ≡ ClosingEnd true → part ≡ q → PieceLeft (4 * i + q) stage part
        ended stage part same symbol at =
            let m_is : 4 * count + q ≡ 4 * i + q = omega (arith, same) in
            rw (symbol, at) (subst (λ n. PieceLeft n (ClosingEnd true) q) m_is (ends_piece {q = q} few))

        closed : (stage : Stage) (part : ℕ) → i ≡ count + 1 → stage ≡ ClosingCloser true → part ≡ q → PieceLeft (4 * i + q) stage part
        closed stage part next symbol at =
            let m_is : 4 * count + 4 + q ≡ 4 * i + q = omega (arith, next) in
            rw (symbol, at) (subst (λ n. PieceLeft n (ClosingCloser true) q) m_is (closes_piece {q = q} few))

        spelled : (stage : Stage) (part : ℕ) → i < count → Spells i stage → part ≡ q → PieceLeft (4 * i + q) stage part
        spelled stage part lt spells at = elim (cases_lt i 4) [
          | inl early ↦ rw (spells.early early, at) (begins_piece {i = i} {q = q} early few)
          | inr late ↦ let (x, e) = spells.late late in rw (e, at) (sends_piece {i = i} {q = q} {x = x} late lt few)
        ]

    pub piece_left : (m u : ℕ) → m < 4 * count + 8 → u ≡ first + m → PieceLeft m (left u).tx.stage (left u).tx.part
    piece_left m u low is =
        let at : 4 * (m / 4) + m % 4 ≡ m = omega arith in
        let here = place_left (m / 4) (m % 4) u (omega arith) (omega (arith, low)) (omega (arith, is)) in
        subst (λ n. PieceLeft n (left u).tx.stage (left u).tx.part) at here

    pub left_not_closed : (m : ℕ) (stage : Stage) (part : ℕ) → PieceLeft m stage part → m < 4 * count + 7 → is_closed (report_by stage (part == 3)) ≡ false
    left_not_closed _ _ part (begins_piece early few) less = refl
    left_not_closed _ _ part (sends_piece late lt few) less = refl
    left_not_closed _ _ part (ends_piece few) less = refl
    left_not_closed _ _ part (closes_piece few) less =
        let other : (part == 3) ≡ false = grind (arith, nat_tests, less, few) in
        ap (λ b. is_closed (report_by (ClosingCloser true) b)) other

    pub left_closed : (m : ℕ) (stage : Stage) (part : ℕ) → PieceLeft m stage part → m ≡ 4 * count + 7 → report_by stage (part == 3) ≡ Closed true
    left_closed _ _ part (begins_piece early few) last = absurd (omega (arith, last, early, few, many))
    left_closed _ _ part (sends_piece late lt few) last = absurd (omega (arith, last, lt, few))
    left_closed _ _ part (ends_piece few) last = absurd (omega (arith, last, few))
    left_closed _ _ part (closes_piece few) last =
        let three : (part == 3) ≡ true = grind (arith, nat_tests, last, few) in
        ap (λ b. report_by (ClosingCloser true) b) three

    abbrev in_tick : ℕ → TxState
    in_tick u = (transmit_step (found_tx u) (tx_in answer after_draw start given u) (found_at answer after_draw start given u).line).state

    pub closes_last : (n m u : ℕ) → m + suc n ≡ 4 * count + 8 → u ≡ first + m → ClosesLast (found_tx u) (ticks_from u (suc n)) true
    closes_last zero m u all is =
        let here = left_closed m _ _ (piece_left m u (omega (arith, all)) is) (omega (arith, all)) in
        ap report_of (sym (tx_left answer after_draw start given u)) ∙ here
    closes_last (suc n) m u all is =
        let here = left_not_closed m _ _ (piece_left m u (omega (arith, all)) is) (omega (arith, all)) in
        let rest = closes_last n (suc m) (suc u) (omega (arith, all)) (omega (arith, is)) in (
          ap (λ (s : TxState). is_closed (report_of s)) (sym (tx_left answer after_draw start given u)) ∙ here,
          subst (λ (s : TxState). ClosesLast s (ticks_from (suc u) (suc n)) true) (sym (tx_next answer after_draw start given u)) rest,
        )

    -- a tick that is to take a nibble is the first of one, or that in which T begins
    takes_at : (m : ℕ) (stage : Stage) (part : ℕ) → PieceLeft m stage part → ((is_quiet stage || (part == 3)) && takes_nibble stage) ≡ true
        → (i : ℕ) × (suc m ≡ 4 * i) × (i ≤ count)
    takes_at _ _ part (begins_piece {i = i} early few) takes =
        let three : part ≡ 3 = grind (arith, nat_tests, first_so (part == 3) true takes) in
        (i + 1, omega (arith, three), omega (arith, early, many))
    takes_at _ _ part (sends_piece {i = i} late lt few) takes =
        let three : part ≡ 3 = grind (arith, nat_tests, first_so (part == 3) true takes) in
        (i + 1, omega (arith, three), omega (arith, lt))
    takes_at _ _ part (ends_piece few) takes = absurd (false≢true (second_so (part == 3) false takes))
    takes_at _ _ part (closes_piece few) takes = absurd (false≢true (second_so (part == 3) false takes))

    -- a pop finds a nibble
    popped_some : (u i : ℕ) → i < count → u ≡ first + 4 * i → (found_at answer after_draw start given u).line ≡ [] → ⊥
    popped_some u i lt is none =
        let pop : popped_at answer after_draw start given u ≡ slice_index (nibble_list f.frame) i ∷ [] =
        rw is (piece.pops i lt (omega (arith, within, lt))) in
        let nothing : popped_at answer after_draw start given u ≡ [] = lost_of_none _ _ none in
        cc

    begins_end : (m : ℕ) (stage : Stage) (part : ℕ) → PieceLeft m stage part → m ≡ 4 * count → symbol_of stage ≡ Some T
    begins_end _ _ part (begins_piece early few) is = absurd (omega (arith, is, early, few, many))
    begins_end _ _ part (sends_piece late lt few) is = absurd (omega (arith, is, lt, few))
    begins_end _ _ part (ends_piece few) is = refl
    begins_end _ _ part (closes_piece few) is = absurd (omega (arith, is))

    fed_here : (m u : ℕ) → m < 4 * count + 8 → u ≡ first + m → IsTrue (at_boundary (found_tx u) && takes_nibble (found_tx u).stage)
        → (found_at answer after_draw start given u).line ≡ [] → symbol_of (in_tick u).stage ≡ Some T
    fed_here zero u low is takes none = absurd (popped_some u 0 (omega (arith, many)) (omega (arith, is)) none)
    fed_here (suc m) zero low is takes none = absurd (omega (arith, is))
    fed_here (suc m) (suc u) low is takes none =
        let same : (left u).tx ≡ found_tx (suc u) = tx_left answer after_draw start given u ∙ tx_next answer after_draw start given u in
        let told : ((is_quiet (left u).tx.stage || ((left u).tx.part == 3)) && takes_nibble (left u).tx.stage) ≡ true =
        subst (λ (s : TxState). (at_boundary s && takes_nibble s.stage) ≡ true) (sym same) takes in
        let (i, at, most) = takes_at m _ _ (piece_left m u (omega (arith, low)) (omega (arith, is))) told in
        elim (cases_lt i count) [
          | inl lt ↦ absurd (popped_some (suc u) i lt (omega (arith, is, at)) none)
          | inr ge ↦
              ap (λ (s : TxState). symbol_of s.stage) (sym (tx_left answer after_draw start given (suc u)))
              ∙ begins_end (suc m) _ _ (piece_left (suc m) (suc u) low is) (omega (arith, at, most, ge))
        ]

    pub is_fed : (n m u : ℕ) → m + n ≡ 4 * count + 8 → u ≡ first + m → IsFed (found_tx u) (ticks_from u n)
    is_fed zero m u all is = tt
    is_fed (suc n) m u all is =
        let rest = is_fed n (suc m) (suc u) (omega (arith, all)) (omega (arith, is)) in
        (fed_here m u (omega (arith, all)) is, subst (λ (s : TxState). IsFed s (ticks_from (suc u) n)) (sym (tx_next answer after_draw start given u)) rest)

    -- ---- what is popped

    pop_here : (m u i q : ℕ) → m ≡ 4 * i + q → q ≤ 3 → i < count + 2 → u ≡ first + m
        → popped_at answer after_draw start given u ++ drop ((suc m + 3) / 4) (nibble_list f.frame) ≡ drop ((m + 3) / 4) (nibble_list f.frame)
    pop_here m u i q at few low is = elim (cases_lt i count) [
      | inl lt ↦ elim (cases_eq q 0) [
        | inl none ↦
            let u_is : u ≡ first + 4 * i = omega (arith, is, at, none) in
            let now : (m + 3) / 4 ≡ i = omega (arith, at, none) in
            let later : (suc m + 3) / 4 ≡ suc i = omega (arith, at, none) in
            let pop : popped_at answer after_draw start given u ≡ slice_index (nibble_list f.frame) i ∷ [] =
            rw u_is (piece.pops i lt (omega (arith, within, lt))) in
            rw (pop, now, later) (sym (drop-cons (nibble_list f.frame) i 0 lt))
        | inr some ↦
            let u_is : u ≡ first + 4 * i + q = omega (arith, is, at) in
            let same : (suc m + 3) / 4 ≡ (m + 3) / 4 = omega (arith, at, some, few) in
            let pop : popped_at answer after_draw start given u ≡ [] =
            rw u_is (piece.pops_else i q low (omega (arith, few)) (λ _. omega (arith, some)) (omega (arith, within, lt, few))) in
            rw (pop, same) refl
      ]
      | inr ge ↦
          let u_is : u ≡ first + 4 * i + q = omega (arith, is, at) in
          let pop : popped_at answer after_draw start given u ≡ [] =
          rw u_is (piece.pops_else i q low (omega (arith, few)) (λ lt. absurd (omega (arith, lt, ge))) (omega (arith, within, low, few))) in
          rw (pop, drop_all ((suc m + 3) / 4) (nibble_list f.frame) (omega (arith, at, ge)), drop_all ((m + 3) / 4) (nibble_list f.frame) (omega (arith, at, ge))) refl
    ]

    pub pops_list : (n m u : ℕ) → m + n ≡ 4 * count + 8 → u ≡ first + m → popped_from answer after_draw start given u n ≡ drop ((m + 3) / 4) (nibble_list f.frame)
    pops_list zero m u all is = sym (drop_all ((m + 3) / 4) (nibble_list f.frame) (omega (arith, all)))
    pops_list (suc n) m u all is =
        let rest = pops_list n (suc m) (suc u) (omega (arith, all)) (omega (arith, is)) in
        let at : m ≡ 4 * (m / 4) + m % 4 = omega arith in
        ap (λ xs. popped_at answer after_draw start given u ++ xs) rest ∙ pop_here m u (m / 4) (m % 4) at (omega arith) (omega (arith, all)) is

    -- ---- the piece, with the J before it

    pub record Spelled (from a : ℕ) : Type 0 where
      pub drives : quarters_from answer after_draw start given from (4 * (a + count + 2)) ≡ all_quarters (piece_symbols (sent_piece (a + 2) (found_tx first).past f.frame true))
      pub stands : (heard : List Bool) → StandsForFrame heard (sent_piece (a + 2) (found_tx first).past f.frame true) f.frame

    spelled_run : IsTrue (at_boundary (found_tx first)) → IsPieceRun (found_tx first) (ticks_from first (suc (4 * count + 7))) true
    spelled_run boundary = record {
      boundary = boundary;
      begins = ap (λ (s : TxState). s.stage) (sym (tx_left answer after_draw start given first)) ∙ begins_start;
      closes = closes_last (4 * count + 7) 0 first (omega arith) (omega arith);
      fed = is_fed (suc (4 * count + 7)) 0 first (omega arith) (omega arith);
    }
      where
        begins_start : (left first).tx.stage ≡ Starting 0
        begins_start = start_of 0 _ _ (piece_left 0 first (omega arith) (omega arith)) refl
          where
            start_of : (m : ℕ) (stage : Stage) (part : ℕ) → PieceLeft m stage part → m ≡ 0 → stage ≡ Starting 0
            start_of _ _ part (begins_piece {i = i} early few) none = let zero_i : i ≡ 0 = omega (arith, none) in ap Starting zero_i
            start_of _ _ part (sends_piece late lt few) none = absurd (omega (arith, none, late))
            start_of _ _ part (ends_piece few) none = absurd (omega (arith, none, many))
            start_of _ _ part (closes_piece few) none = absurd (omega (arith, none, many))

    module _ (from a : ℕ) (is : from + 4 * a ≡ first) (opens : IsTrue (at_boundary (found_tx from))) (boundary : IsTrue (at_boundary (found_tx first)))
        (frame : IsFrame f.frame) (short : a ≤ 4000) (syncs : quarters_from answer after_draw start given from (4 * a) ≡ all_quarters (replicate a J)) where
      abbrev before : List Tick
      before = ticks_from from (4 * a)

      abbrev own : List Tick
      own = ticks_from first (suc (4 * count + 7))

      abbrev sent_from : TxState → ℕ → Piece
      sent_from s lead = sent_piece lead s.past f.frame true

      stands_first : after (found_tx from) before ≡ found_tx first
      stands_first = after-ticks answer after_draw start given (4 * a) from ∙ ap found_tx is

      lead_is : lead_after (found_tx from) before ≡ a + 2
      lead_is = ap (λ ds. lead_of ds + 2) (driven-ticks answer after_draw start given (4 * a) from ∙ syncs) ∙ (let e = lead_from-syncs a 0 in omega arith)

      all_popped : popped_nibbles (after (found_tx from) before) own ≡ nibble_list f.frame
      all_popped =
          ap (λ (s : TxState). popped_nibbles s own) stands_first ∙ popped-ticks answer after_draw start given (suc (4 * count + 7)) first
          ∙ pops_list (suc (4 * count + 7)) 0 first (omega arith) (omega arith)

      whole : driven_ticks (found_tx from) (before ++ own) ≡ quarters_from answer after_draw start given from (4 * (a + count + 2))
      whole =
          let sum : 4 * a + suc (4 * count + 7) ≡ 4 * (a + count + 2) = omega arith in
          driven_ticks-append (found_tx from) before own
          ∙ ap (λ ds. ds ++ driven_ticks (after (found_tx from) before) own) (driven-ticks answer after_draw start given (4 * a) from)
          ∙ ap (λ (s : TxState). quarters_from answer after_draw start given from (4 * a) ++ driven_ticks s own) stands_first
          ∙ ap (λ ds. quarters_from answer after_draw start given from (4 * a) ++ ds) (driven-ticks answer after_draw start given (suc (4 * count + 7)) first)
          ∙ ap (λ u. quarters_from answer after_draw start given from (4 * a) ++ quarters_from answer after_draw start given u (suc (4 * count + 7))) (sym is)
          ∙ sym (quarters_from-append (4 * a) (suc (4 * count + 7)) from)
          ∙ ap (λ n. quarters_from answer after_draw start given from n) sum

      pub piece_spelled : Spelled from a
      piece_spelled = record { drives = drives; stands = stands }
        where
          sent : (heard : List Bool) → EndsWithPiece (driven_ticks (found_tx from) (before ++ own)) (sent_from (found_tx first) (a + 2)) × IsRead (a + 2) (found_tx first).past heard f.frame true
          sent heard =
              let run = subst (λ (s : TxState). IsPieceRun s own true) (sym stands_first) (spelled_run boundary) in
              let most : lead_after (found_tx from) before ≤ 4096 = omega (arith, lead_is, short) in
              let told = sends_frames (found_tx from) before own true f.frame heard opens run frame all_popped most in
              let told_here = subst (λ (s : TxState). EndsWithPiece (driven_ticks (found_tx from) (before ++ own)) (sent_from s (lead_after (found_tx from) before)) × IsRead (lead_after (found_tx from) before) s.past heard f.frame true) stands_first told in
              subst (λ n. EndsWithPiece (driven_ticks (found_tx from) (before ++ own)) (sent_from (found_tx first) n) × IsRead n (found_tx first).past heard f.frame true) lead_is told_here

          stands : (heard : List Bool) → StandsForFrame heard (sent_from (found_tx first) (a + 2)) f.frame
          stands heard = (sent heard).1.frame refl

          drives : quarters_from answer after_draw start given from (4 * (a + count + 2)) ≡ all_quarters (piece_symbols (sent_from (found_tx first) (a + 2)))
          drives =
              let ends = (sent []).0 in
              let symbols : List Symbol = piece_symbols (sent_from (found_tx first) (a + 2)) in
              let all = sym whole ∙ ends.spelled in
              let long = length-quarters_from (4 * (a + count + 2)) from in
              let sum = length-append ends.earlier (all_quarters symbols) in
              let quartered = length-all_quarters symbols in
              let symbols_long = length-sent (a + 2) (found_tx first).past f.frame true (omega (arith, many)) in
              let none : ends.earlier ≡ [] = nil_from_length ends.earlier (omega (arith, ap length all, long, sum, quartered, symbols_long)) in
              all ∙ ap (λ ds. ds ++ all_quarters symbols) none
