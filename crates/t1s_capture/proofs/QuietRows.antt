-- Quiet ticks that are handed in together: after the first of them a writer only counts.
use Rattle.std.proofs.Common.{◌≡◌, ℕ, zero, suc, ◌+◌, ◌≤◌, true, false, List, [], ◌∷◌, ◌++◌, length, refl, sym, ap, subst, ◌∙◌, arith, append_assoc}
use Rattle.std.proofs.lemmas.List.{append-nil, length-replicate}
use Rattle.t1s_symbols.specs.declared.Heard.TheVariants.{Nothing}
use Rattle.t1s_capture.specs.declared.row.RowSoFar.{RowSoFar}
use Rattle.t1s_capture.specs.declared.row.RowSoFar.TheVariants.{Silent}
use Rattle.t1s_capture.specs.Cut.{Tick, AreSilent}
use Rattle.t1s_capture.specs.WriterTable.{Step, silent_step, row_step, row_from, quiet_ticks, RowIsKind, WriterState, WriterStands}
use Rattle.t1s_capture.proofs.Rows.{silent_from}
use Rattle.t1s_capture.proofs.Cuts.{writer_stands_more}

quiet_is_silent : (n : ℕ) → AreSilent true (quiet_ticks n)
quiet_is_silent zero = tt
quiet_is_silent (suc n) = (refl, quiet_is_silent n)

-- the first quiet tick leads into a gap, and the others make it longer
pub quiet_from : (row : RowSoFar) (first : ℕ) (out : List ℕ) (n last : ℕ) → silent_step row ≡ (Silent first, out) → 1 ≤ n → last + 1 ≡ first + n →
    row_from (row, []) (quiet_ticks n) ≡ (Silent last, out)
quiet_from row first out zero last e some same = absurd (omega (arith, some))
quiet_from row first out (suc n) last e some same =
    let long : first + length (quiet_ticks n) ≡ last = omega (arith, same, length-replicate {A = Tick} n (Nothing, false)) in
    ap (λ (s : Step). row_from (s.0, s.1) (quiet_ticks n)) e
    ∙ silent_from (quiet_ticks n) first out (quiet_is_silent n)
    ∙ ap (λ (k : ℕ). (Silent k, out)) long

-- what a writer stands for doesn't hang on its counts
same_row : (ticks : List Tick) (given : List ℕ) (old new : WriterState) → new.row ≡ old.row → WriterStands ticks given old → WriterStands ticks given new
same_row ticks given old new e w = record {
  items = w.items;
  row = w.row;
  cuts = w.cuts;
  one_kind = w.one_kind;
  kind = subst (λ (r : RowSoFar). RowIsKind w.row r) (sym e) w.kind;
  keeps = e ∙ w.keeps;
  gives = w.gives;
}

-- the writer after many ticks
stands_from : (more ticks : List Tick) (given out : List ℕ) (old new : WriterState) → new.row ≡ (row_from (old.row, out) more).0 →
    WriterStands ticks (given ++ out) old → WriterStands (ticks ++ more) (given ++ (row_from (old.row, out) more).1) new
stands_from [] ticks given out old new e w =
    subst (λ (ts : List Tick). WriterStands ts (given ++ out) new) (sym (append-nil ticks)) (same_row ticks (given ++ out) old new e w)
stands_from (t ∷ more) ticks given out old new e w =
    let next : WriterState = record old { row = (row_step old.row t).0 } in
    let octets : List ℕ = (row_step old.row t).1 in
    let one : WriterStands (ticks ++ t ∷ []) ((given ++ out) ++ octets) next = writer_stands_more ticks (given ++ out) old next t w refl in
    let all : WriterStands ((ticks ++ t ∷ []) ++ more) (given ++ (row_from (old.row, out) (t ∷ more)).1) new =
    stands_from more (ticks ++ t ∷ []) given (out ++ octets) next new e
    (subst (λ (o : List ℕ). WriterStands (ticks ++ t ∷ []) o next) (append_assoc given out octets) one) in
    subst (λ (ts : List Tick). WriterStands ts (given ++ (row_from (old.row, out) (t ∷ more)).1) new) (append_assoc ticks (t ∷ []) more) all

pub writer_stands_on : (more ticks : List Tick) (given : List ℕ) (old new : WriterState) → new.row ≡ (row_from (old.row, []) more).0 →
    WriterStands ticks given old → WriterStands (ticks ++ more) (given ++ (row_from (old.row, []) more).1) new
writer_stands_on more ticks given old new e w =
    stands_from more ticks given [] old new e (subst (λ (o : List ℕ). WriterStands ticks o old) (sym (append-nil given)) w)
