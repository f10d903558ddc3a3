-- Four ticks of a receiver that reads a burst: the symbol that they are, or the end of the reading.
use Rattle.std.proofs.Common.{◌≡◌, refl, ℕ, ◌+◌, ◌<◌, Bool, true, false, List, sym, ap, subst, ◌∙◌, arith, if◌then◌else◌}
use Rattle.std.specs.Prelude.{Option, Some, None, Result, Ok, Err, ◌==◌, ◌&&◌}
use Rattle.std.proofs.lemmas.Bool.{eqb-true, ne_eqb, and_parts}
use Rattle.t1s_symbols.specs.declared.Quarter.{Quarter}
use Rattle.t1s_symbols.specs.declared.Class.{Class}
use Rattle.t1s_symbols.specs.declared.Heard.{Heard}
use Rattle.t1s_symbols.specs.declared.Heard.TheVariants.{Nothing, One, Many}
use Rattle.t1s_symbols.specs.declared.Symbol.{Symbol}
use Rattle.t1s_symbols.specs.Quarters.{continues_last}
use Rattle.t1s_symbols.specs.Symbols.{same_symbol}
use Rattle.t1s_symbols.proofs.Quarters.{continues-partial, same_symbol-sound}
use Rattle.t1s_grammar.specs.declared.place.Phase.{Phase}
use Rattle.t1s_grammar.specs.declared.place.PlaceFault.{PlaceFault}
use Rattle.t1s_grammar.specs.PlaceTable.{place_step}
use Rattle.t1s_pcs_rx.specs.Receiver.{Receiver}
use Rattle.t1s_pcs_rx.specs.ReceiveTable.{after_judgement, class_after, closing_at, closing_in, receive_event, receive_step, view_closed}
use Rattle.t1s_pcs_rx.specs.Tails.{IsSignal}
use Rattle.t1s_pcs_rx.specs.Views.{View}
use Rattle.t1s_pcs_rx.proofs.Ticks.{last_of, quarter, reading}
use Rattle.t1s_capture.specs.Cut.{quarter_heard, is_part, symbol_by}
use Rattle.t1s_reception.proofs.LostReadings.{IsSpent, IsLost, lost_on, not_third, zero_begins, other_begins}

module _ (class : Class) (fresh : Bool) (place : Phase) (past : List Bool) (heard : List ℕ) where
  -- ---- one tick of a reading

  -- no quarter alone ends it
  no_quarter : (last : Option Quarter) (h : Heard) (own : Bool) → IsSignal h → quarter_heard h own ≡ None
      → (receive_event (reading class last fresh place past heard) h own ≡ None)
      × IsLost (receive_step (reading class last fresh place past heard) h own) past
  unfolding receive_step closing_in
  no_quarter last Nothing own s e = absurd s
  no_quarter last (One q) false s e = absurd (cc)
  no_quarter last (One q) true s e = (refl, (tt, refl))
  no_quarter last Many own s e = (refl, (tt, refl))

  -- and so does one that does not go on
  breaks : (last : Option Quarter) (q : Quarter) → continues_last last q ≡ false
      → (receive_event (reading class last fresh place past heard) (One q) false ≡ None)
      × IsLost (receive_step (reading class last fresh place past heard) (One q) false) past
  unfolding receive_step closing_in
  breaks last q e = (rw e refl, (rw e tt, rw e refl))

  -- a quarter within a symbol
  within_symbol : (last : Option Quarter) (q : Quarter) → continues_last last q ≡ true → (q.part == 3) ≡ false
      → (receive_event (reading class last fresh place past heard) (One q) false ≡ None)
      × (receive_step (reading class last fresh place past heard) (One q) false ≡ reading class (Some q) fresh place past heard)
  unfolding receive_step closing_in
  within_symbol last q e f = (rw (e, f) refl, rw (e, f) refl)

  -- the event of a complete symbol, and the receiver after it
  abbrev pub symbol_event : Symbol → Option View
  symbol_event s = view_closed heard (closing_at place s (place_step place s))

  abbrev pub judged : Symbol → Receiver
  judged s = after_judgement (reading class None fresh place past heard) (quarter s 3) (class_after class fresh s) place (place_step place s)

  judged_last : (last : Option Quarter) (q : Quarter) (c : Class) (j : Result Phase PlaceFault)
      → after_judgement (reading class last fresh place past heard) q c place j ≡ after_judgement (reading class None fresh place past heard) q c place j
  judged_last last q c (Ok next) = refl
  judged_last last q c (Err fault) = refl

  ends_symbol : (last : Option Quarter) (q : Quarter) → continues_last last q ≡ true → (q.part == 3) ≡ true
      → (receive_event (reading class last fresh place past heard) (One q) false ≡ symbol_event q.sym)
      × (receive_step (reading class last fresh place past heard) (One q) false
      ≡ after_judgement (reading class last fresh place past heard) q (class_after class fresh q.sym) place (place_step place q.sym))
  unfolding receive_step closing_in
  ends_symbol last q e f = (rw (e, f) refl, rw (e, f) refl)

  -- ---- up to three ticks of a symbol

  -- in the last tick part k of this symbol was heard, where all is fine; else the reading has ended
  pub record Partway (r : Receiver) (fine : Bool) (s : Symbol) (k : ℕ) : Type 0 where
    pub goes : fine ≡ true → r ≡ reading class (Some (quarter s k)) fresh place past heard
    pub lost : fine ≡ false → IsLost r past

  -- by the quarters that the ticks are, or not
  abbrev pub First : Receiver → Option Quarter → Type 0
  First r None = IsLost r past
  First r (Some q) = Partway r (q.part == 0) q.sym 0

  abbrev pub Second : Receiver → Option Quarter → Option Quarter → Type 0
  Second r None b = IsLost r past
  Second r (Some q) b = Partway r ((q.part == 0) && is_part q.sym 1 b) q.sym 1

  abbrev pub Third : Receiver → Option Quarter → Option Quarter → Option Quarter → Type 0
  Third r None b c = IsLost r past
  Third r (Some q) b c = Partway r (((q.part == 0) && is_part q.sym 1 b) && is_part q.sym 2 c) q.sym 2

  abbrev pub Fourth : Receiver → Option View → Option Symbol → Type 0
  Fourth r event None = (event ≡ None) × IsLost r past
  Fourth r event (Some s) = (event ≡ symbol_event s) × (r ≡ judged s)

  heard_alone : (h : Heard) (own : Bool) (q : Quarter) → quarter_heard h own ≡ Some q → (h ≡ One q) × (own ≡ false)
  heard_alone Nothing own q e = absurd (cc)
  heard_alone (One p) true q e = absurd (cc)
  heard_alone (One p) false q e = (cc, refl)
  heard_alone Many own q e = absurd (cc)

  -- a tick of a reading, by the quarter that it is
  abbrev Makes : Receiver → Heard → Bool → (Receiver → Type 0) → Type 0
  Makes r h own P = (receive_event r h own ≡ None) × P (receive_step r h own)

  first_alone : (last : Option Symbol) (q : Quarter)
      → Makes (reading class (last_of last) fresh place past heard) (One q) false (λ r. Partway r (q.part == 0) q.sym 0)
  first_alone last q = by_test (q.part == 0) (continues_last (last_of last) q) refl refl
    where
      by_test : (zero goes : Bool) → (q.part == 0) ≡ zero → continues_last (last_of last) q ≡ goes
          → Makes (reading class (last_of last) fresh place past heard) (One q) false (λ r. Partway r zero q.sym 0)
      by_test true false e f = let begins = zero_begins last q e in absurd (cc)
      by_test true true e f =
          let is : q.part ≡ 0 = eqb-true q.part 0 e in
          let (none, next) = within_symbol (last_of last) q f (ne_eqb q.part 3 (λ k. omega (arith, is, k))) in (
            none,
            record {
              goes = λ fine. next ∙ ap (λ (n : ℕ). reading class (Some (quarter q.sym n)) fresh place past heard) is;
              lost = λ b. absurd (cc);
            },
          )
      by_test false true e f =
          let far = other_begins last q e f in
          let (none, next) = within_symbol (last_of last) q f (not_third q.part far) in (
            none,
            record {
              goes = λ b. absurd (cc);
              lost = λ b. (subst (λ (r : Receiver). IsSpent r.burst) (sym next) far, ap (λ (r : Receiver). r.history) next);
            },
          )
      by_test false false e f =
          let (none, lost) = breaks (last_of last) q f in
          (none, record { goes = λ b. absurd (cc); lost = λ b. lost })

  pub first_tick : (last : Option Symbol) (h : Heard) (own : Bool) → IsSignal h
      → Makes (reading class (last_of last) fresh place past heard) h own (λ r. First r (quarter_heard h own))
  first_tick last h own s = by_quarter (quarter_heard h own) refl
    where
      by_quarter : (o : Option Quarter) → quarter_heard h own ≡ o → Makes (reading class (last_of last) fresh place past heard) h own (λ r. First r o)
      by_quarter None e = no_quarter (last_of last) h own s e
      by_quarter (Some q) e = let (is, alone) = heard_alone h own q e in rw (is, alone) (first_alone last q)

  next_alone : (s : Symbol) (k n : ℕ) (q : Quarter) → n ≡ k + 1 → n < 3
      → Makes (reading class (Some (quarter s k)) fresh place past heard) (One q) false (λ r. Partway r (is_part s n (Some q)) s n)
  next_alone s k n q next lt = by_test (is_part s n (Some q)) refl
    where
      goes_on : continues_last (Some (quarter s k)) q ≡ is_part s n (Some q)
      goes_on = continues-partial s k q (omega (arith, next, lt)) ∙ ap (λ (m : ℕ). same_symbol s q.sym && (q.part == m)) (sym next)

      by_test : (b : Bool) → is_part s n (Some q) ≡ b
          → Makes (reading class (Some (quarter s k)) fresh place past heard) (One q) false (λ r. Partway r b s n)
      by_test false e =
          let (none, lost) = breaks (Some (quarter s k)) q (goes_on ∙ e) in
          (none, record { goes = λ b. absurd (cc); lost = λ b. lost })
      by_test true e =
          let parts = and_parts (same_symbol s q.sym) (q.part == n) e in
          let same : s ≡ q.sym = same_symbol-sound s q.sym parts.0 in
          let is : q.part ≡ n = eqb-true q.part n parts.1 in
          let (none, on) = within_symbol (Some (quarter s k)) q (goes_on ∙ e) (ne_eqb q.part 3 (λ f. omega (arith, is, lt, f))) in (
            none,
            record {
              goes = λ b. on
                  ∙ ap (λ (m : ℕ). reading class (Some (quarter q.sym m)) fresh place past heard) is
                  ∙ ap (λ (x : Symbol). reading class (Some (quarter x n)) fresh place past heard) (sym same);
              lost = λ b. absurd (cc);
            },
          )

  next_tick : (r : Receiver) (fine : Bool) (s : Symbol) (k n : ℕ) (h : Heard) (own : Bool) → n ≡ k + 1 → n < 3 → IsSignal h → Partway r fine s k
      → Makes r h own (λ x. Partway x (fine && is_part s n (quarter_heard h own)) s n)
  next_tick r false s k n h own next lt sig p =
      let (none, lost) = lost_on r past h own (p.lost refl) sig in
      (none, record { goes = λ b. absurd (cc); lost = λ b. lost })
  next_tick r true s k n h own next lt sig p = rw (p.goes refl) (by_quarter (quarter_heard h own) refl)
    where
      by_quarter : (o : Option Quarter) → quarter_heard h own ≡ o
          → Makes (reading class (Some (quarter s k)) fresh place past heard) h own (λ x. Partway x (is_part s n o) s n)
      by_quarter None e =
          let (none, lost) = no_quarter (Some (quarter s k)) h own sig e in
          (none, record { goes = λ b. absurd (cc); lost = λ b. lost })
      by_quarter (Some q) e = let (is, alone) = heard_alone h own q e in rw (is, alone) (next_alone s k n q next lt)

  pub second_tick : (r : Receiver) (a : Option Quarter) (h : Heard) (own : Bool) → IsSignal h → First r a
      → Makes r h own (λ x. Second x a (quarter_heard h own))
  second_tick r None h own sig p = lost_on r past h own p sig
  second_tick r (Some q) h own sig p = next_tick r (q.part == 0) q.sym 0 1 h own refl (omega arith) sig p

  pub third_tick : (r : Receiver) (a b : Option Quarter) (h : Heard) (own : Bool) → IsSignal h → Second r a b
      → Makes r h own (λ x. Third x a b (quarter_heard h own))
  third_tick r None b h own sig p = lost_on r past h own p sig
  third_tick r (Some q) b h own sig p = next_tick r ((q.part == 0) && is_part q.sym 1 b) q.sym 1 2 h own refl (omega arith) sig p

  -- ---- the last tick of a symbol

  abbrev Ends : Receiver → Heard → Bool → Option Symbol → Type 0
  Ends r h own o = Fourth (receive_step r h own) (receive_event r h own) o

  last_alone : (s : Symbol) (q : Quarter)
      → Ends (reading class (Some (quarter s 2)) fresh place past heard) (One q) false (if is_part s 3 (Some q) then Some s else None)
  last_alone s q = by_test (is_part s 3 (Some q)) refl
    where
      goes_on : continues_last (Some (quarter s 2)) q ≡ is_part s 3 (Some q)
      goes_on = continues-partial s 2 q (omega arith)

      by_test : (b : Bool) → is_part s 3 (Some q) ≡ b
          → Ends (reading class (Some (quarter s 2)) fresh place past heard) (One q) false (if b then Some s else None)
      by_test false e = breaks (Some (quarter s 2)) q (goes_on ∙ e)
      by_test true e =
          let parts = and_parts (same_symbol s q.sym) (q.part == 3) e in
          let same : s ≡ q.sym = same_symbol-sound s q.sym parts.0 in
          let is : q.part ≡ 3 = eqb-true q.part 3 parts.1 in
          let (event, next) = ends_symbol (Some (quarter s 2)) q (goes_on ∙ e) parts.1 in
          let quarter_is : q ≡ quarter s 3 =
          ap (λ (n : ℕ). quarter q.sym n) is ∙ ap (λ (x : Symbol). quarter x 3) (sym same) in (
            event ∙ ap symbol_event (sym same),
            next
                ∙ judged_last (Some (quarter s 2)) q (class_after class fresh q.sym) (place_step place q.sym)
                ∙ ap (λ (p : Quarter). after_judgement (reading class None fresh place past heard) p (class_after class fresh p.sym) place (place_step place p.sym))
                quarter_is,
          )

  last_tick : (r : Receiver) (fine : Bool) (s : Symbol) (h : Heard) (own : Bool) → IsSignal h → Partway r fine s 2
      → Ends r h own (if fine && is_part s 3 (quarter_heard h own) then Some s else None)
  last_tick r false s h own sig p = lost_on r past h own (p.lost refl) sig
  last_tick r true s h own sig p = rw (p.goes refl) (by_quarter (quarter_heard h own) refl)
    where
      by_quarter : (o : Option Quarter) → quarter_heard h own ≡ o
          → Ends (reading class (Some (quarter s 2)) fresh place past heard) h own (if is_part s 3 o then Some s else None)
      by_quarter None e = no_quarter (Some (quarter s 2)) h own sig e
      by_quarter (Some q) e = let (is, alone) = heard_alone h own q e in rw (is, alone) (last_alone s q)

  pub fourth_tick : (r : Receiver) (a b c : Option Quarter) (h : Heard) (own : Bool) → IsSignal h → Third r a b c
      → Ends r h own (symbol_by a b c (quarter_heard h own))
  fourth_tick r None b c h own sig p = lost_on r past h own p sig
  fourth_tick r (Some q) b c h own sig p =
      subst (Ends r h own) (grouped (q.part == 0) (is_part q.sym 1 b) (is_part q.sym 2 c) (is_part q.sym 3 (quarter_heard h own)))
      (last_tick r (((q.part == 0) && is_part q.sym 1 b) && is_part q.sym 2 c) q.sym h own sig p)
    where
      grouped : (w x y z : Bool)
          → ◌≡◌ {A = Option Symbol} (if ((w && x) && y) && z then Some q.sym else None) (if w && (x && (y && z)) then Some q.sym else None)
      grouped false x y z = refl
      grouped true false y z = refl
      grouped true true false z = refl
      grouped true true true z = refl
