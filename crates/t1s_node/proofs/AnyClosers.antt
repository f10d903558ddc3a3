-- The last quarter of R: what stands then.
use Rattle.std.proofs.Common.{◌≡◌, ℕ, ◌+◌, ◌≤◌, Bool, true, false, if◌then◌else◌, nat_lt, List, ◌++◌, Some, refl, ap}
use Rattle.t1s_symbols.specs.declared.Quarter.{Quarter}
use Rattle.t1s_symbols.specs.declared.Symbol.{Symbol}
use Rattle.t1s_symbols.specs.declared.Symbol.TheVariants.{Nibble, J, K, T, R, H, N}
use Rattle.t1s_frame.specs.Frame.{IsFrame}
use Rattle.t1s_grammar.specs.Burst.{Piece, piece_symbols, pieces_symbols}
use Rattle.t1s_grammar.specs.Sent.{sent_piece}
use Rattle.t1s_ring.specs.Queue.{Queue}
use Rattle.t1s_ring.specs.declared.queued.Queued.{Queued}
use Rattle.t1s_pcs_tx.specs.State.{Stage, TxState, Quiet, Beaconing, Committing, Starting, Sending, ClosingEnd, ClosingCloser, symbol_of, quarter_in, quarter_of}
use Rattle.plca_control.specs.declared.State.{State as ControlStage}
use Rattle.plca_data.specs.declared.data_path.State.{State}
use Rattle.t1s_mac.specs.declared.deference.Deference.{Deference}
use Rattle.t1s_mac.specs.State.{Phase}
use Rattle.t1s_node.proofs.MacTurns.{count_of}
use Rattle.t1s_node.proofs.AnyPlaces.{Past, Before, Marked, Stands, away, in_row, waits, opens, fed, given as given_all, ends, closes, spoils, spoiled, ends_badly, ends as ends_so, closes as closes_so, starts, sends, OpenPiece, first, second, third, fourth, later}

-- ---- the last quarter of R

pub same_quarter : (p q : Quarter) → Some p ≡ Some q → p ≡ q
same_quarter p q e = cc

of_r : (x : Symbol) (part : ℕ) → quarter_in (Some x) part ≡ Some (record { sym = R; part = 3 }) → (x ≡ R) × (part ≡ 3)
of_r x part e =
    let same = same_quarter (record { sym = x; part = part }) (record { sym = R; part = 3 }) e in
    (ap (λ (q : Quarter). q.sym) same, ap (λ (q : Quarter). q.part) same)

no_start : (b : Bool) → (if b then J else H) ≡ R → ⊥
no_start true e = absurd (cc)
no_start false e = absurd (cc)

pub closer_stage : (s : TxState) → quarter_of s ≡ Some (record { sym = R; part = 3 }) → (s.stage ≡ ClosingCloser true) × (s.part ≡ 3)
closer_stage s e = by s.stage s.part e
  where
    by : (stage : Stage) (part : ℕ) → quarter_in (symbol_of stage) part ≡ Some (record { sym = R; part = 3 }) → (stage ≡ ClosingCloser true) × (part ≡ 3)
    by Quiet part e = absurd (cc)
    by Beaconing part e = let is = (of_r N part e).0 in absurd (cc)
    by Committing part e = let is = (of_r J part e).0 in absurd (cc)
    by (Starting place) part e = absurd (no_start (nat_lt place 2) (of_r _ part e).0)
    by (Sending nibble) part e = let is = (of_r (Nibble nibble) part e).0 in absurd (cc)
    by (ClosingEnd good) part e = let is = (of_r T part e).0 in absurd (cc)
    by (ClosingCloser true) part e = (refl, (of_r R part e).1)
    by (ClosingCloser false) part e = let is = (of_r K part e).0 in absurd (cc)

-- what stands then
pub record Closing (burst : ℕ) (Leaves : ℕ → Queued → Type 0) (part : ℕ) (g : Past) : Type 0 where
  pub b : ℕ
  pub f : Queued
  pub earlier : List Piece
  pub m : ℕ
  pub before : List Bool
  pub frame : IsFrame f.frame
  pub short : m ≤ 72
  pub spelled : g.symbols ≡ pieces_symbols earlier ++ piece_symbols (sent_piece (m + 2) before f.frame true)
  pub marked : Marked Leaves g f (count_of f + 1) part
  pub fits : Before burst b earlier

-- no piece that is open is closed
not_open : (earlier : List Piece) (m : ℕ) (before : List Bool) (f : Queued) (i : ℕ) (stage : Stage) (past : List Bool) (symbols : List Symbol)
    → OpenPiece earlier m before f i stage past symbols → stage ≡ ClosingCloser true → ⊥
not_open earlier m before f _ _ _ symbols (first e) is = absurd (cc)
not_open earlier m before f _ _ _ symbols (second e) is = absurd (cc)
not_open earlier m before f _ _ _ symbols (third e) is = absurd (cc)
not_open earlier m before f _ _ _ symbols (fourth e) is = absurd (cc)
not_open earlier m before f i _ past symbols (later xs count some among_them among e) is = absurd (cc)

pub closing : (burst : ℕ) (Leaves : ℕ → Queued → Type 0) (st : ControlStage) (phase : Phase) (q : Queue) (d : Deference) (stage : Stage) (part : ℕ) (past : List Bool) (path : State) (line : List ℕ) (g : Past)
    → Stands burst Leaves st phase q d stage part past path line g → stage ≡ ClosingCloser true → Closing burst Leaves part g
closing burst Leaves st phase q d _ part past path line g (away e h none) is = absurd (cc)
closing burst Leaves _ phase q d _ part past path line g (in_row x e some low h) is = absurd (cc)
closing burst Leaves st phase q d _ part past _ _ g (waits earlier m x timer some low e over fits spelled) is = absurd (cc)
closing burst Leaves st _ q _ _ part past _ line g (opens earlier m own heads near low short fits spelled feeds) is = absurd (cc)
closing burst Leaves st _ q _ stage part past _ line g (fed {i = i} {f = f} earlier m before own heads ahead low quarter within short piece marked fits feeds room) is =
    absurd (not_open earlier m before f i stage past g.symbols piece is)
closing burst Leaves _ phase q _ stage part past _ line g (given_all {i = i} {f = f} earlier m before over frame quarter short piece marked late fits feeds) is =
    absurd (not_open earlier m before f i stage past g.symbols piece is)
closing burst Leaves _ phase q _ _ part past _ _ g (ends earlier m before over frame quarter short spelled marked fits) is = absurd (cc)
closing burst Leaves _ phase q _ _ part past _ _ g (closes {b = b} {f = f} earlier m before over frame quarter short spelled marked fits) is =
    record { b = b; f = f; earlier = earlier; m = m; before = before; frame = frame; short = short; spelled = spelled; marked = marked; fits = fits }
closing burst Leaves _ phase q _ _ part past _ line g (spoils low works) is = absurd (cc)
closing burst Leaves _ phase q _ _ part past _ line g (spoiled starts quarter works) is = absurd (cc)
closing burst Leaves _ phase q _ _ part past _ line g (spoiled sends quarter works) is = absurd (cc)
closing burst Leaves _ phase q _ _ part past _ _ g (ends_badly ends_so quarter over) is = absurd (cc)
closing burst Leaves _ phase q _ _ part past _ _ g (ends_badly closes_so quarter over) is = absurd (cc)
