-- The symbols J in a row at the end of what was driven.
use Rattle.std.proofs.Common.{◌≡◌, ℕ, zero, suc, ◌+◌, ◌==◌, ◌<◌, ◌⊎◌, if◌then◌else◌, Bool, true, false, ◌||◌, IsTrue, Option, Some, None, List, [], ◌∷◌, ◌++◌, replicate, inl, inr, refl, ap, subst, sym, ◌∙◌, arith, rules, append_assoc, append-nil}
use Rattle.std.proofs.lemmas.Bool.Decides.{nat_tests}
use Rattle.std.proofs.lemmas.Bool.{cases_lt}
use Rattle.std.proofs.lemmas.List.{replicate_more}
use Rattle.std.proofs.lemmas.List.Concat.{flat_map-append}
use Rattle.t1s_symbols.specs.declared.Quarter.{Quarter}
use Rattle.t1s_symbols.specs.declared.Symbol.{Symbol}
use Rattle.t1s_symbols.specs.declared.Symbol.TheVariants.{Nibble, J, K, T, R, H, N, S}
use Rattle.t1s_pcs_tx.specs.declared.TxIn.{TxIn}
use Rattle.t1s_pcs_tx.specs.State.{Stage, Quiet, TxState, symbol_of, quarter_in}
use Rattle.t1s_pcs_tx.specs.TransmitTable.{TxTurn, Choice, choice_after, transmit_step, at_boundary, is_quiet}
use Rattle.t1s_pcs_tx.specs.Runs.{Tick, turn, after, driven_ticks, quarters, all_quarters, lead_with, lead_from, lead_of}
use Rattle.t1s_pcs_tx.proofs.Pieces.{at, quarter-next, at-boundary}

abbrev Driven : Type 0
Driven = List (Option Quarter)

lead_from-more : (lead : ℕ) (ticks : Driven) (tick : Option Quarter)
    → lead_from lead (ticks ++ tick ∷ []) ≡ lead_with (lead_from lead ticks) tick
lead_from-more lead [] tick = refl
lead_from-more lead (first ∷ ticks) tick = lead_from-more (lead_with lead first) ticks tick

lead_of-more : (ticks : Driven) (tick : Option Quarter) → lead_of (ticks ++ tick ∷ []) ≡ lead_with (lead_of ticks) tick
lead_of-more ticks tick = lead_from-more 0 ticks tick

-- what was driven ends with its row of J, and then with these ticks
pub record Row (ticks begun : Driven) : Type 0 where
  pub earlier : Driven
  pub apart : lead_of earlier ≡ 0
  pub spelled : ticks ≡ (earlier ++ all_quarters (replicate (lead_of ticks) J)) ++ begun

abbrev sync : ℕ → Option Quarter
sync part = Some (record { sym = J; part = part })

no-row : Row [] []
no-row = record { earlier = []; apart = refl; spelled = refl }

-- a tick that is no J ends the row
breaks : (ticks begun : Driven) (tick : Option Quarter) → ((lead : ℕ) → lead_with lead tick ≡ 0)
    → Row (ticks ++ tick ∷ []) []
breaks ticks begun tick none =
    let zero_lead : lead_of (ticks ++ tick ∷ []) ≡ 0 = lead_of-more ticks tick ∙ none (lead_of ticks) in
    record {
      earlier = ticks ++ tick ∷ [];
      apart = zero_lead;
      spelled =
          sym (append-nil (ticks ++ tick ∷ []))
          ∙ sym (append-nil ((ticks ++ tick ∷ []) ++ []))
          ∙ ap (λ n. ((ticks ++ tick ∷ []) ++ all_quarters (replicate n J)) ++ []) (sym zero_lead);
    }

-- a quarter of a J before its last one leaves the row as it is
grows : (ticks begun : Driven) (part : ℕ) → part < 3 → Row ticks begun → Row (ticks ++ sync part ∷ []) (begun ++ sync part ∷ [])
grows ticks begun part before row =
    let other : (part == 3) ≡ false = search (rules, nat_tests) in
    let same : lead_of (ticks ++ sync part ∷ []) ≡ lead_of ticks
    = lead_of-more ticks (sync part) ∙ ap (λ b. if b then lead_of ticks + 1 else lead_of ticks) other in
    record {
      earlier = row.earlier;
      apart = row.apart;
      spelled =
          ap (λ xs. xs ++ sync part ∷ []) row.spelled
          ∙ append_assoc (row.earlier ++ all_quarters (replicate (lead_of ticks) J)) begun (sync part ∷ [])
          ∙ ap (λ n. (row.earlier ++ all_quarters (replicate n J)) ++ (begun ++ sync part ∷ [])) (sym same);
    }

all_quarters-more : (n : ℕ) → all_quarters (replicate n J) ++ quarters J ≡ all_quarters (replicate (n + 1) J)
all_quarters-more n = sym (flat_map-append quarters (replicate n J) (J ∷ [])) ∙ ap all_quarters (replicate_more n J)

-- the last quarter of a J adds it to the row
ends : (ticks : Driven) → Row ticks (sync 0 ∷ sync 1 ∷ sync 2 ∷ []) → Row (ticks ++ sync 3 ∷ []) []
ends ticks row =
    let n : ℕ = lead_of ticks in
    let more : lead_of (ticks ++ sync 3 ∷ []) ≡ n + 1 = lead_of-more ticks (sync 3) in
    let three : Driven = sync 0 ∷ sync 1 ∷ sync 2 ∷ [] in
    record {
      earlier = row.earlier;
      apart = row.apart;
      spelled =
          ap (λ xs. xs ++ sync 3 ∷ []) row.spelled
          ∙ append_assoc (row.earlier ++ all_quarters (replicate n J)) three (sync 3 ∷ [])
          ∙ append_assoc row.earlier (all_quarters (replicate n J)) (quarters J)
          ∙ ap (λ xs. row.earlier ++ xs) (all_quarters-more n)
          ∙ ap (λ m. row.earlier ++ all_quarters (replicate m J)) (sym more)
          ∙ sym (append-nil (row.earlier ++ all_quarters (replicate (lead_of (ticks ++ sync 3 ∷ [])) J)));
    }

-- the quarters of a J that has not ended, up to this part
abbrev begun_by : Symbol → ℕ → Driven
begun_by J zero = sync 0 ∷ []
begun_by J (suc zero) = sync 0 ∷ sync 1 ∷ []
begun_by J (suc (suc zero)) = sync 0 ∷ sync 1 ∷ sync 2 ∷ []
begun_by J (suc (suc (suc part))) = []
begun_by _ part = []

abbrev begun_in : Option Symbol → ℕ → Driven
begun_in None part = []
begun_in (Some symbol) part = begun_by symbol part

-- the first quarter of a symbol, or a silent tick
first-tick : (ticks : Driven) (symbol : Option Symbol) → Row ticks []
    → Row (ticks ++ quarter_in symbol 0 ∷ []) (begun_in symbol 0)
first-tick ticks None row = breaks ticks [] None (λ lead. refl)
first-tick ticks (Some (Nibble n)) row = breaks ticks [] _ (λ lead. refl)
first-tick ticks (Some J) row = grows ticks [] 0 (omega arith) row
first-tick ticks (Some K) row = breaks ticks [] _ (λ lead. refl)
first-tick ticks (Some T) row = breaks ticks [] _ (λ lead. refl)
first-tick ticks (Some R) row = breaks ticks [] _ (λ lead. refl)
first-tick ticks (Some H) row = breaks ticks [] _ (λ lead. refl)
first-tick ticks (Some N) row = breaks ticks [] _ (λ lead. refl)
first-tick ticks (Some S) row = breaks ticks [] _ (λ lead. refl)

-- a further quarter of the symbol
later-tick : (ticks : Driven) (symbol : Option Symbol) (part : ℕ) → part < 3 → Row ticks (begun_in symbol part)
    → Row (ticks ++ quarter_in symbol (part + 1) ∷ []) (begun_in symbol (part + 1))
later-tick ticks None part before row = breaks ticks [] None (λ lead. refl)
later-tick ticks (Some (Nibble n)) part before row = breaks ticks [] _ (λ lead. refl)
later-tick ticks (Some J) zero before row = grows ticks _ 1 (omega arith) row
later-tick ticks (Some J) (suc zero) before row = grows ticks _ 2 (omega arith) row
later-tick ticks (Some J) (suc (suc zero)) before row = ends ticks row
later-tick ticks (Some J) (suc (suc (suc part))) before row = absurd (omega arith)
later-tick ticks (Some K) part before row = breaks ticks [] _ (λ lead. refl)
later-tick ticks (Some T) part before row = breaks ticks [] _ (λ lead. refl)
later-tick ticks (Some R) part before row = breaks ticks [] _ (λ lead. refl)
later-tick ticks (Some H) part before row = breaks ticks [] _ (λ lead. refl)
later-tick ticks (Some N) part before row = breaks ticks [] _ (λ lead. refl)
later-tick ticks (Some S) part before row = breaks ticks [] _ (λ lead. refl)

-- ---- along a run

begun-none : (symbol : Option Symbol) → begun_in symbol 3 ≡ []
begun-none None = refl
begun-none (Some (Nibble n)) = refl
begun-none (Some J) = refl
begun-none (Some K) = refl
begun-none (Some T) = refl
begun-none (Some R) = refl
begun-none (Some H) = refl
begun-none (Some N) = refl
begun-none (Some S) = refl

-- what was driven, as the transmitter that drove it stands
abbrev RowAt : Driven → TxState → Type 0
RowAt ticks s = Row ticks (begun_in (symbol_of s.stage) s.part)

abbrev IsPart : TxState → Type 0
IsPart s = (s.stage ≡ Quiet) ⊎ (s.part < 4)

quiet-or : (stage : Stage) → (stage ≡ Quiet) ⊎ (is_quiet stage ≡ false)
quiet-or Quiet = inl refl
quiet-or _ = inr refl

ended : (stage : Stage) (part : ℕ) (past : List Bool) → IsTrue (at_boundary (at stage part past))
    → (stage ≡ Quiet) ⊎ (part ≡ 3)
ended stage part past boundary = elim (quiet-or stage) [
  | inl quiet ↦ inl quiet
  | inr driving ↦
      let third : (part == 3) ≡ true = sym (ap (λ b. b || (part == 3)) driving) ∙ boundary in
      inr (search (rules, nat_tests))
]

row-ended : (ticks : Driven) (stage : Stage) (part : ℕ) (past : List Bool) → IsTrue (at_boundary (at stage part past))
    → RowAt ticks (at stage part past) → Row ticks []
row-ended ticks stage part past boundary row = elim (ended stage part past boundary) [
  | inl quiet ↦ subst (Row ticks) (ap (λ g. begun_in (symbol_of g) part) quiet) row
  | inr third ↦ subst (Row ticks) (ap (begun_in (symbol_of stage)) third ∙ begun-none (symbol_of stage)) row
]

abbrev RowLeft : Driven → TxTurn → Type 0
RowLeft ticks left = RowAt (ticks ++ left.driven ∷ []) left.state × IsPart left.state

row-chosen : (ticks : Driven) (s : TxState) (inp : TxIn) (line : List ℕ) → IsTrue (at_boundary s) → Row ticks []
    → RowLeft ticks (transmit_step s inp line)
row-chosen ticks s inp line boundary row =
    let c : Choice = choice_after s.stage s.past inp line in
    subst (RowLeft ticks) (sym (at-boundary s inp line boundary))
    (first-tick ticks (symbol_of c.stage) row, inr (omega arith))

row-tick : (ticks : Driven) (stage : Stage) (part : ℕ) (past : List Bool) (inp : TxIn) (line : List ℕ)
    → IsPart (at stage part past) → RowAt ticks (at stage part past)
    → RowLeft ticks (transmit_step (at stage part past) inp line)
row-tick ticks stage part past inp line within row = elim (quiet-or stage) [
  | inl quiet ↦
      let boundary : IsTrue (at_boundary (at stage part past)) = ap (λ g. is_quiet g || (part == 3)) quiet in
      row-chosen ticks (at stage part past) inp line boundary (row-ended ticks stage part past boundary row)
  | inr driving ↦ elim (cases_lt part 3) [
    | inl before ↦
        subst (RowLeft ticks) (sym (quarter-next stage part past inp line driving before))
        (later-tick ticks (symbol_of stage) part before row, inr (omega arith))
    | inr after ↦
        let below : part < 4 = elim within [
          | inl quiet ↦ absurd (let e : true ≡ false = sym (ap is_quiet quiet) ∙ driving in cc)
          | inr lt ↦ lt
        ] in
        let third : part ≡ 3 = omega arith in
        let boundary : IsTrue (at_boundary (at stage part past)) = search (rules, nat_tests) in
        row-chosen ticks (at stage part past) inp line boundary (row-ended ticks stage part past boundary row)
  ]
]

row-along : (more : List Tick) (ticks : Driven) (stage : Stage) (part : ℕ) (past : List Bool)
    → IsPart (at stage part past) → RowAt ticks (at stage part past)
    → RowAt (ticks ++ driven_ticks (at stage part past) more) (after (at stage part past) more)
row-along [] ticks stage part past within row =
    subst (λ xs. RowAt xs (at stage part past)) (sym (append-nil ticks)) row
row-along (tick ∷ more) ticks stage part past within row =
    let left : TxTurn = turn (at stage part past) tick in
    let here = row-tick ticks stage part past tick.inp tick.line within row in
    subst (λ xs. RowAt xs (after left.state more))
    (append_assoc ticks (left.driven ∷ []) (driven_ticks left.state more))
    (row-along more (ticks ++ left.driven ∷ []) left.state.stage left.state.part left.state.past here.1 here.0)

-- a run from one symbol boundary to another ends with its row of J
pub row-of-run : (s : TxState) (ticks : List Tick) → IsTrue (at_boundary s) → IsTrue (at_boundary (after s ticks))
    → Row (driven_ticks s ticks) []
row-of-run s ticks boundary end =
    let within : IsPart s = elim (ended s.stage s.part s.past boundary) [
      | inl quiet ↦ inl quiet
      | inr third ↦ inr (omega arith)
    ] in
    let start : RowAt [] s = elim (ended s.stage s.part s.past boundary) [
      | inl quiet ↦ subst (Row []) (sym (ap (λ g. begun_in (symbol_of g) s.part) quiet)) no-row
      | inr third ↦
          subst (Row []) (sym (ap (begun_in (symbol_of s.stage)) third ∙ begun-none (symbol_of s.stage))) no-row
    ] in
    let last : TxState = after s ticks in
    row-ended (driven_ticks s ticks) last.stage last.part last.past end
    (row-along ticks [] s.stage s.part s.past within start)

pub driven_ticks-append : (s : TxState) (before ticks : List Tick)
    → driven_ticks s (before ++ ticks) ≡ driven_ticks s before ++ driven_ticks (after s before) ticks
driven_ticks-append s [] ticks = refl
driven_ticks-append s (tick ∷ before) ticks =
    ap (λ xs. (turn s tick).driven ∷ xs) (driven_ticks-append (turn s tick).state before ticks)
