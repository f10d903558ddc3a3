-- What is driven from a tick of a piece on, by the nibbles that are popped from there on.
use Rattle.std.proofs.Common.{◌≡◌, ℕ, zero, suc, ◌+◌, ◌-◌, ◌<◌, nat_lt, if◌then◌else◌, Bool, false, ◌&&◌, IsTrue, Option, Some, List, [], ◌∷◌, ◌++◌, length, map, take, drop, inl, inr, refl, ap, subst, sym, ◌∙◌, arith, rules}
use Rattle.std.proofs.lemmas.Bool.Decides.{nat_tests}
use Rattle.std.proofs.lemmas.Bool.{cases_lt, cases_eq}
use Rattle.t1s_symbols.specs.declared.Quarter.{Quarter}
use Rattle.t1s_symbols.specs.declared.Symbol.{Symbol}
use Rattle.t1s_symbols.specs.declared.Symbol.TheVariants.{Nibble, J, T, H}
use Rattle.t1s_scramble.specs.Scrambled.{scrambled_nibble, scrambled_nibbles, scrambler_after}
use Rattle.t1s_scramble.proofs.Nibbles.{scrambled_nibbles-nil, scrambled_nibbles-cons}
use Rattle.t1s_grammar.specs.Sent.{sent_closer}
use Rattle.t1s_pcs_tx.specs.declared.TxCmd.{TxCmd}
use Rattle.t1s_pcs_tx.specs.declared.TxCmd.TheVariants.{None as NoCmd, Beacon, Commit}
use Rattle.t1s_pcs_tx.specs.declared.TxIn.{TxIn}
use Rattle.t1s_pcs_tx.specs.declared.TxReport.TheVariants.{Framing, Closed}
use Rattle.t1s_pcs_tx.specs.State.{Stage, Quiet, Beaconing, Committing, Starting, Sending, ClosingEnd, ClosingCloser, TxState, symbol_of, quarter_in, is_closed}
use Rattle.t1s_pcs_tx.specs.TransmitTable.{TxTurn, Choice, choice, data_choice, command_choice, choice_after, chosen_turn, turn_to, transmit_step, report_of, at_boundary, is_quiet}
use Rattle.t1s_pcs_tx.specs.Runs.{Tick, turn, after, driven_ticks, popped_nibbles, lost_nibbles, all_quarters}
use Rattle.t1s_pcs_tx.specs.Laws.{ClosesLast, IsFed, takes_nibble, IsPieceRun, spelled_piece}
use Rattle.t1s_grammar.specs.Burst.{piece_symbols}

abbrev pub at : Stage → ℕ → List Bool → TxState
at stage part past = record { stage = stage; part = part; past = past }

-- ---- what a line loses

take-none : (n m : ℕ) (xs : List ℕ) → n ≡ m → take (n - m) xs ≡ []
take-none n m xs e = let none : n - m ≡ 0 = omega arith in ap (λ k. take k xs) none

pub lost_nibbles-none : (line : List ℕ) → lost_nibbles line line ≡ []
lost_nibbles-none line = take-none (length line) (length line) line refl

pub lost_nibbles-one : (x : ℕ) (rest : List ℕ) → lost_nibbles (x ∷ rest) rest ≡ x ∷ []
lost_nibbles-one x rest = let one : length (x ∷ rest) - length rest ≡ 1 = omega arith in ap (λ k. take k (x ∷ rest)) one

-- ---- what is still to be driven

-- the quarters of a symbol after this one
abbrev pub remaining : Option Symbol → ℕ → List (Option Quarter)
remaining symbol zero = quarter_in symbol 1 ∷ quarter_in symbol 2 ∷ quarter_in symbol 3 ∷ []
remaining symbol (suc zero) = quarter_in symbol 2 ∷ quarter_in symbol 3 ∷ []
remaining symbol (suc (suc zero)) = quarter_in symbol 3 ∷ []
remaining symbol (suc (suc (suc part))) = []

-- the nibbles of a piece, T and its closer
abbrev pub data_symbols : List Bool → List ℕ → Bool → List Symbol
data_symbols past nibbles good = map Nibble (scrambled_nibbles past nibbles) ++ T ∷ sent_closer good ∷ []

-- the symbols of a piece after that of a stage
abbrev pub rest_symbols : Stage → List Bool → List ℕ → Bool → List Symbol
rest_symbols Quiet past nibbles good = []
rest_symbols Beaconing past nibbles good = []
rest_symbols Committing past nibbles good = []
rest_symbols (Starting zero) past nibbles good = J ∷ H ∷ H ∷ data_symbols past (drop 3 nibbles) good
rest_symbols (Starting (suc zero)) past nibbles good = H ∷ H ∷ data_symbols past (drop 2 nibbles) good
rest_symbols (Starting (suc (suc zero))) past nibbles good = H ∷ data_symbols past (drop 1 nibbles) good
rest_symbols (Starting (suc (suc (suc place)))) past nibbles good = data_symbols past nibbles good
rest_symbols (Sending nibble) past nibbles good = data_symbols past nibbles good
rest_symbols (ClosingEnd so_far) past nibbles good = sent_closer good ∷ []
rest_symbols (ClosingCloser closed) past nibbles good = []

abbrev pub expected : TxState → List ℕ → Bool → List (Option Quarter)
expected s nibbles good =
    remaining (symbol_of s.stage) s.part ++ all_quarters (rest_symbols s.stage s.past nibbles good)

-- a piece is open, and its closer has not ended
abbrev pub IsOpen : Stage → ℕ → Type 0
IsOpen Quiet part = ⊥
IsOpen Beaconing part = ⊥
IsOpen Committing part = ⊥
IsOpen (Starting place) part = (place < 4) × (part < 4)
IsOpen (Sending nibble) part = part < 4
IsOpen (ClosingEnd good) part = part < 4
IsOpen (ClosingCloser good) part = part < 3

-- what is popped from a stage on: nothing once the piece has ended
abbrev pub Fits : Stage → List ℕ → Bool → Type 0
Fits Quiet nibbles good = ⊥
Fits Beaconing nibbles good = ⊥
Fits Committing nibbles good = ⊥
Fits (Starting place) nibbles good = Unit {0}
Fits (Sending nibble) nibbles good = Unit {0}
Fits (ClosingEnd so_far) nibbles good = nibbles ≡ []
Fits (ClosingCloser closed) nibbles good = (nibbles ≡ []) × (closed ≡ good)

data_symbols-cons : (past : List Bool) (x : ℕ) (nibbles : List ℕ) (good : Bool)
    → data_symbols past (x ∷ nibbles) good
    ≡ Nibble (scrambled_nibble past x) ∷ data_symbols (scrambler_after past (x ∷ [])) nibbles good
data_symbols-cons past x nibbles good =
    ap (λ ns. map Nibble ns ++ T ∷ sent_closer good ∷ []) (scrambled_nibbles-cons past x nibbles)

data_symbols-nil : (past : List Bool) (good : Bool) → data_symbols past [] good ≡ T ∷ sent_closer good ∷ []
data_symbols-nil past good = ap (λ ns. map Nibble ns ++ T ∷ sent_closer good ∷ []) (scrambled_nibbles-nil past)

-- ---- one tick

-- what a tick leaves is in step with what was to be driven
record InStep (s : TxState) (left : TxTurn) (line nibbles : List ℕ) (good : Bool) : Type 0 where
  pub driven : left.driven ∷ expected left.state nibbles good ≡ expected s (lost_nibbles line left.line ++ nibbles) good
  pub fits : Fits s.stage (lost_nibbles line left.line ++ nibbles) good

-- a quarter within a symbol
pub quarter-next : (stage : Stage) (part : ℕ) (past : List Bool) (inp : TxIn) (line : List ℕ)
    → is_quiet stage ≡ false → part < 3
    → transmit_step (at stage part past) inp line
    ≡ record { state = at stage (part + 1) past; driven = quarter_in (symbol_of stage) (part + 1); line = line }
unfolding transmit_step
quarter-next stage part past inp line quiet before = search (rules, nat_tests)

mid-left : (stage : Stage) (part : ℕ) (past : List Bool) (line nibbles : List ℕ) (good : Bool)
    → part < 3 → Fits stage nibbles good
    → InStep (at stage part past)
    (record { state = at stage (part + 1) past; driven = quarter_in (symbol_of stage) (part + 1); line = line }) line nibbles good
mid-left stage zero past line nibbles good before fits = record {
  driven = ap (λ xs. remaining (symbol_of stage) 0 ++ all_quarters (rest_symbols stage past (xs ++ nibbles) good)) (sym (lost_nibbles-none line));
  fits = subst (λ xs. Fits stage (xs ++ nibbles) good) (sym (lost_nibbles-none line)) fits;
}
mid-left stage (suc zero) past line nibbles good before fits = record {
  driven = ap (λ xs. remaining (symbol_of stage) 1 ++ all_quarters (rest_symbols stage past (xs ++ nibbles) good)) (sym (lost_nibbles-none line));
  fits = subst (λ xs. Fits stage (xs ++ nibbles) good) (sym (lost_nibbles-none line)) fits;
}
mid-left stage (suc (suc zero)) past line nibbles good before fits = record {
  driven = ap (λ xs. remaining (symbol_of stage) 2 ++ all_quarters (rest_symbols stage past (xs ++ nibbles) good)) (sym (lost_nibbles-none line));
  fits = subst (λ xs. Fits stage (xs ++ nibbles) good) (sym (lost_nibbles-none line)) fits;
}
mid-left stage (suc (suc (suc part))) past line nibbles good before fits = absurd (omega arith)

-- the pop that a tick may try finds a nibble, or ends the piece
abbrev FedHere : Stage → ℕ → List Bool → TxIn → List ℕ → Type 0
FedHere stage part past inp line =
    IsTrue (at_boundary (at stage part past) && takes_nibble stage) → line ≡ []
    → symbol_of (transmit_step (at stage part past) inp line).state.stage ≡ Some T

abbrev Steps : Stage → List Bool → TxIn → List ℕ → List ℕ → Bool → ℕ → Type 0
Steps stage past inp line nibbles good part =
    IsOpen stage part → FedHere stage part past inp line
    → Fits (transmit_step (at stage part past) inp line).state.stage nibbles good
    → InStep (at stage part past) (transmit_step (at stage part past) inp line) line nibbles good

-- within a symbol
mid : (stage : Stage) (part : ℕ) (past : List Bool) (inp : TxIn) (line nibbles : List ℕ) (good : Bool)
    → is_quiet stage ≡ false → part < 3 → Steps stage past inp line nibbles good part
mid stage part past inp line nibbles good quiet before within fed fits =
    let e = quarter-next stage part past inp line quiet before in
    let here : Fits stage nibbles good = subst (λ (left : TxTurn). Fits left.state.stage nibbles good) e fits in
    subst (λ (left : TxTurn). InStep (at stage part past) left line nibbles good) (sym e)
    (mid-left stage part past line nibbles good before here)

-- among the nibbles
data-cons : (stage : Stage) (past : List Bool) (x : ℕ) (rest nibbles : List ℕ) (good : Bool)
    → all_quarters (Nibble (scrambled_nibble past x) ∷ data_symbols (scrambler_after past (x ∷ [])) nibbles good)
    ≡ all_quarters (data_symbols past (lost_nibbles (x ∷ rest) rest ++ nibbles) good)
data-cons stage past x rest nibbles good =
    ap all_quarters (sym (data_symbols-cons past x nibbles good))
    ∙ ap (λ xs. all_quarters (data_symbols past (xs ++ nibbles) good)) (sym (lost_nibbles-one x rest))

data-nil : (past : List Bool) (nibbles : List ℕ) (good : Bool) → nibbles ≡ []
    → all_quarters (T ∷ sent_closer good ∷ []) ≡ all_quarters (data_symbols past (lost_nibbles [] [] ++ nibbles) good)
data-nil past nibbles good none =
    ap all_quarters (sym (data_symbols-nil past good))
    ∙ ap (λ xs. all_quarters (data_symbols past xs good)) (sym (ap (λ xs. xs ++ nibbles) (lost_nibbles-none []) ∙ none))

-- at the end of a symbol
last : (stage : Stage) (past : List Bool) (inp : TxIn) (line nibbles : List ℕ) (good : Bool)
    → Steps stage past inp line nibbles good 3
unfolding transmit_step
last Quiet past inp line nibbles good within fed fits = absurd within
last Beaconing past inp line nibbles good within fed fits = absurd within
last Committing past inp line nibbles good within fed fits = absurd within
last (Starting zero) past inp [] nibbles good within fed fits = absurd (let e = fed refl refl in cc)
last (Starting zero) past inp (x ∷ rest) nibbles good within fed fits = record {
  driven = ap (λ xs. all_quarters (J ∷ H ∷ H ∷ data_symbols past (drop 3 (xs ++ nibbles)) good)) (sym (lost_nibbles-one x rest));
  fits = tt;
}
last (Starting (suc zero)) past inp [] nibbles good within fed fits = absurd (let e = fed refl refl in cc)
last (Starting (suc zero)) past inp (x ∷ rest) nibbles good within fed fits = record {
  driven = ap (λ xs. all_quarters (H ∷ H ∷ data_symbols past (drop 2 (xs ++ nibbles)) good)) (sym (lost_nibbles-one x rest));
  fits = tt;
}
last (Starting (suc (suc zero))) past inp [] nibbles good within fed fits = absurd (let e = fed refl refl in cc)
last (Starting (suc (suc zero))) past inp (x ∷ rest) nibbles good within fed fits = record {
  driven = ap (λ xs. all_quarters (H ∷ data_symbols past (drop 1 (xs ++ nibbles)) good)) (sym (lost_nibbles-one x rest));
  fits = tt;
}
last (Starting (suc (suc (suc zero)))) past inp [] nibbles good within fed fits =
    record { driven = data-nil past nibbles good fits; fits = tt }
last (Starting (suc (suc (suc zero)))) past inp (x ∷ rest) nibbles good within fed fits =
    record { driven = data-cons (Starting 3) past x rest nibbles good; fits = tt }
last (Starting (suc (suc (suc (suc place))))) past inp line nibbles good within fed fits = absurd (omega (arith, within.0))
last (Sending nibble) past inp [] nibbles good within fed fits =
    record { driven = data-nil past nibbles good fits; fits = tt }
last (Sending nibble) past inp (x ∷ rest) nibbles good within fed fits =
    record { driven = data-cons (Sending nibble) past x rest nibbles good; fits = tt }
last (ClosingEnd so_far) past inp line nibbles good within fed fits = record {
  driven = ap (λ closed. all_quarters (sent_closer closed ∷ [])) fits.1;
  fits = ap (λ xs. xs ++ nibbles) (lost_nibbles-none line) ∙ fits.0;
}
last (ClosingCloser closed) past inp line nibbles good within fed fits = absurd (omega (arith, within))

not-quiet : (stage : Stage) (part : ℕ) → IsOpen stage part → is_quiet stage ≡ false
not-quiet Quiet part within = absurd within
not-quiet Beaconing part within = refl
not-quiet Committing part within = refl
not-quiet (Starting place) part within = refl
not-quiet (Sending nibble) part within = refl
not-quiet (ClosingEnd good) part within = refl
not-quiet (ClosingCloser good) part within = refl

part-below : (stage : Stage) (part : ℕ) → IsOpen stage part → part < 4
part-below Quiet part within = absurd within
part-below Beaconing part within = absurd within
part-below Committing part within = absurd within
part-below (Starting place) part within = within.1
part-below (Sending nibble) part within = within
part-below (ClosingEnd good) part within = within
part-below (ClosingCloser good) part within = omega (arith, within)

-- any tick of a piece
one-tick : (stage : Stage) (part : ℕ) (past : List Bool) (inp : TxIn) (line nibbles : List ℕ) (good : Bool)
    → Steps stage past inp line nibbles good part
one-tick stage part past inp line nibbles good within = elim (cases_lt part 3) [
  | inl before ↦ mid stage part past inp line nibbles good (not-quiet stage part within) before within
  | inr after ↦
      let e : part ≡ 3 = omega (arith, part-below stage part within) in
      subst (Steps stage past inp line nibbles good) (sym e) (last stage past inp line nibbles good) within
]

-- ---- the piece stays open until its closer ends

open-mid : (stage : Stage) (part : ℕ) (past : List Bool) → part < 3 → IsOpen stage part
    → is_closed (report_of (at stage (part + 1) past)) ≡ false → IsOpen stage (part + 1)
open-mid Quiet part past before within not_closed = within
open-mid Beaconing part past before within not_closed = within
open-mid Committing part past before within not_closed = within
open-mid (Starting place) part past before within not_closed = (within.0, omega arith)
open-mid (Sending nibble) part past before within not_closed = omega arith
open-mid (ClosingEnd good) part past before within not_closed = omega arith
open-mid (ClosingCloser good) zero past before within not_closed = omega arith
open-mid (ClosingCloser good) (suc zero) past before within not_closed = omega arith
open-mid (ClosingCloser good) (suc (suc zero)) past before within not_closed = cc
open-mid (ClosingCloser good) (suc (suc (suc part))) past before within not_closed = absurd (omega arith)

open-last : (stage : Stage) (past : List Bool) (inp : TxIn) (line : List ℕ) → IsOpen stage 3
    → IsOpen (transmit_step (at stage 3 past) inp line).state.stage (transmit_step (at stage 3 past) inp line).state.part
unfolding transmit_step
open-last Quiet past inp line within = absurd within
open-last Beaconing past inp line within = absurd within
open-last Committing past inp line within = absurd within
open-last (Starting zero) past inp line within = (omega arith, omega arith)
open-last (Starting (suc zero)) past inp line within = (omega arith, omega arith)
open-last (Starting (suc (suc zero))) past inp line within = (omega arith, omega arith)
open-last (Starting (suc (suc (suc zero)))) past inp [] within = omega arith
open-last (Starting (suc (suc (suc zero)))) past inp (x ∷ rest) within = omega arith
open-last (Starting (suc (suc (suc (suc place))))) past inp line within = absurd (omega (arith, within.0))
open-last (Sending nibble) past inp [] within = omega arith
open-last (Sending nibble) past inp (x ∷ rest) within = omega arith
open-last (ClosingEnd good) past inp line within = omega arith
open-last (ClosingCloser good) past inp line within = absurd (omega (arith, within))

abbrev StaysOpen : Stage → List Bool → TxIn → List ℕ → ℕ → Type 0
StaysOpen stage past inp line part =
    IsOpen stage part → is_closed (report_of (transmit_step (at stage part past) inp line).state) ≡ false
    → IsOpen (transmit_step (at stage part past) inp line).state.stage (transmit_step (at stage part past) inp line).state.part

open-next : (stage : Stage) (part : ℕ) (past : List Bool) (inp : TxIn) (line : List ℕ) → StaysOpen stage past inp line part
open-next stage part past inp line within = elim (cases_lt part 3) [
  | inl before ↦ λ not_closed.
      let e = quarter-next stage part past inp line (not-quiet stage part within) before in
      let here = subst (λ (left : TxTurn). is_closed (report_of left.state) ≡ false) e not_closed in
      subst (λ (left : TxTurn). IsOpen left.state.stage left.state.part) (sym e) (open-mid stage part past before within here)
  | inr after ↦
      let e : part ≡ 3 = omega (arith, part-below stage part within) in
      subst (StaysOpen stage past inp line) (sym e) (λ here not_closed. open-last stage past inp line here) within
]

-- ---- a run of ticks to the end of the closer

closed-part : (closed : Bool) (part : ℕ) (past : List Bool) (good : Bool)
    → report_of (at (ClosingCloser closed) part past) ≡ Closed good → (part ≡ 3) × (closed ≡ good)
closed-part closed part past good e = elim (cases_eq part 3) [
  | inl same ↦
      let here : Closed closed ≡ Closed good = sym (ap (λ p. report_of (at (ClosingCloser closed) p past)) same) ∙ e in
      (same, cc)
  | inr other ↦ absurd (search (rules, nat_tests))
]

record HasClosed (s : TxState) (good : Bool) : Type 0 where
  pub none : expected s [] good ≡ []
  pub fits : Fits s.stage [] good

has-closed : (stage : Stage) (part : ℕ) (past : List Bool) (good : Bool)
    → report_of (at stage part past) ≡ Closed good → HasClosed (at stage part past) good
has-closed Quiet part past good e = cc
has-closed Beaconing part past good e = cc
has-closed Committing part past good e = cc
has-closed (Starting place) part past good e = cc
has-closed (Sending nibble) part past good e = cc
has-closed (ClosingEnd so_far) part past good e = cc
has-closed (ClosingCloser closed) part past good e =
    let (third, same) = closed-part closed part past good e in record {
      none = ap (λ p. remaining (Some (sent_closer closed)) p ++ []) third;
      fits = (refl, same);
    }

record PieceRun (s : TxState) (ticks : List Tick) (good : Bool) : Type 0 where
  pub driven : driven_ticks s ticks ≡ expected s (popped_nibbles s ticks) good
  pub fits : Fits s.stage (popped_nibbles s ticks) good

piece_run : (ticks : List Tick) (stage : Stage) (part : ℕ) (past : List Bool) (good : Bool) → IsOpen stage part
    → IsFed (at stage part past) ticks → ClosesLast (at stage part past) ticks good
    → PieceRun (at stage part past) ticks good
piece_run [] stage part past good within fed closes = absurd closes
piece_run (tick ∷ []) stage part past good within fed closes =
    let left : TxTurn = turn (at stage part past) tick in
    let end = has-closed left.state.stage left.state.part left.state.past good closes in
    let here = one-tick stage part past tick.inp tick.line [] good within fed.0 end.fits in
    record { driven = ap (λ xs. left.driven ∷ xs) (sym end.none) ∙ here.driven; fits = here.fits }
piece_run (tick ∷ next ∷ ticks) stage part past good within fed closes =
    let left : TxTurn = turn (at stage part past) tick in
    let still = open-next stage part past tick.inp tick.line within closes.0 in
    let more = piece_run (next ∷ ticks) left.state.stage left.state.part left.state.past good still fed.1 closes.1 in
    let here = one-tick stage part past tick.inp tick.line (popped_nibbles left.state (next ∷ ticks)) good within fed.0 more.fits in
    record { driven = ap (λ xs. left.driven ∷ xs) more.driven ∙ here.driven; fits = here.fits }

-- ---- the first tick of a piece

record Begins (past : List Bool) (line : List ℕ) (left : TxTurn) : Type 0 where
  pub x : ℕ
  pub rest : List ℕ
  pub line_is : line ≡ x ∷ rest
  pub left_is :
      left
      ≡ record { state = at (Starting 0) 0 past; driven = Some (record { sym = J; part = 0 }); line = rest }

told-begins : (cmd : TxCmd) (past : List Bool) (line : List ℕ) → (command_choice cmd past line).stage ≡ Starting 0
    → Begins past line (chosen_turn (command_choice cmd past line))
told-begins NoCmd past line e = cc
told-begins Beacon past line e = cc
told-begins Commit past [] e = cc
told-begins Commit past (x ∷ rest) e = record { x = x; rest = rest; line_is = refl; left_is = refl }

data-begins : (past : List Bool) (inp : TxIn) (line : List ℕ) → (data_choice past inp line).stage ≡ Starting 0
    → Begins past line (chosen_turn (data_choice past inp line))
data-begins past inp [] e = cc
data-begins past inp (x ∷ rest) e = cc

choice-begins : (stage : Stage) (past : List Bool) (inp : TxIn) (line : List ℕ)
    → (choice_after stage past inp line).stage ≡ Starting 0
    → Begins past line (chosen_turn (choice_after stage past inp line))
choice-begins Quiet past inp line e = told-begins inp.cmd past line e
choice-begins Beaconing past inp line e = told-begins inp.cmd past line e
choice-begins Committing past inp line e = told-begins inp.cmd past line e
choice-begins (Starting zero) past inp line e = cc
choice-begins (Starting (suc zero)) past inp line e = cc
choice-begins (Starting (suc (suc zero))) past inp line e = cc
choice-begins (Starting (suc (suc (suc place)))) past inp line e =
    let same : nat_lt (suc (suc (suc place))) 3 ≡ false = search (rules, nat_tests) in
    let row : choice_after (Starting (suc (suc (suc place)))) past inp line ≡ data_choice past inp line
    = ap (λ b. if b then choice (Starting (suc (suc (suc place)) + 1)) past (drop 1 line) else data_choice past inp line) same in
    subst (λ (c : Choice). Begins past line (chosen_turn c)) (sym row)
    (data-begins past inp line (sym (ap (λ (c : Choice). c.stage) row) ∙ e))
choice-begins (Sending nibble) past inp line e = data-begins past inp line e
choice-begins (ClosingEnd good) past inp line e = cc
choice-begins (ClosingCloser good) past inp line e = told-begins inp.cmd past line e

pub at-boundary : (s : TxState) (inp : TxIn) (line : List ℕ) → IsTrue (at_boundary s)
    → transmit_step s inp line ≡ chosen_turn (choice_after s.stage s.past inp line)
unfolding transmit_step
at-boundary s inp line boundary =
    ap (λ b. if b then chosen_turn (choice_after s.stage s.past inp line)
    else turn_to (record s { part = s.part + 1 }) line) boundary

begins : (s : TxState) (inp : TxIn) (line : List ℕ) → IsTrue (at_boundary s)
    → (transmit_step s inp line).state.stage ≡ Starting 0 → Begins s.past line (transmit_step s inp line)
begins s inp line boundary e =
    let row = at-boundary s inp line boundary in
    subst (Begins s.past line) (sym row)
    (choice-begins s.stage s.past inp line (sym (ap (λ (left : TxTurn). left.state.stage) row) ∙ e))

-- ---- the piece

-- what is driven over the ticks of a piece, with the two J that are its own
pub driven_ticks-piece : (s : TxState) (ticks : List Tick) (good : Bool) → IsPieceRun s ticks good
    → driven_ticks s ticks ≡ all_quarters (piece_symbols (spelled_piece 2 s.past (popped_nibbles s ticks) good))
driven_ticks-piece s [] good run = absurd run.closes
driven_ticks-piece s (tick ∷ []) good run =
    let first = begins s tick.inp tick.line run.boundary run.begins in
    let e : Framing ≡ Closed good = sym (ap (λ (left : TxTurn). report_of left.state) first.left_is) ∙ run.closes in
    cc
driven_ticks-piece s (tick ∷ next ∷ ticks) good run =
    let first = begins s tick.inp tick.line run.boundary run.begins in
    let s' : TxState = at (Starting 0) 0 s.past in
    let e : (turn s tick).state ≡ s' = ap (λ (left : TxTurn). left.state) first.left_is in
    let fed : IsFed s' (next ∷ ticks) = subst (λ u. IsFed u (next ∷ ticks)) e run.fed.1 in
    let closes : ClosesLast s' (next ∷ ticks) good = subst (λ u. ClosesLast u (next ∷ ticks) good) e run.closes.1 in
    let more = piece_run (next ∷ ticks) (Starting 0) 0 s.past good (omega arith, omega arith) fed closes in
    let later : List ℕ = popped_nibbles s' (next ∷ ticks) in
    let all : popped_nibbles s (tick ∷ next ∷ ticks) ≡ first.x ∷ later
    = ap (λ (left : TxTurn). lost_nibbles tick.line left.line ++ popped_nibbles left.state (next ∷ ticks)) first.left_is
    ∙ ap (λ line. lost_nibbles line first.rest ++ later) first.line_is
    ∙ ap (λ xs. xs ++ later) (lost_nibbles-one first.x first.rest) in
    ap (λ (left : TxTurn). left.driven ∷ driven_ticks left.state (next ∷ ticks)) first.left_is
    ∙ ap (λ xs. Some (record { sym = J; part = 0 }) ∷ xs) more.driven
    ∙ ap (λ xs. all_quarters (piece_symbols (spelled_piece 2 s.past xs good))) (sym all)
