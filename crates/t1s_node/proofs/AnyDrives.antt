-- The drive that is on after a tick is what its symbols spell, in any run of the transmitter.
use Rattle.std.proofs.Common.{◌≡◌, inl, inr, ℕ, zero, suc, ◌+◌, ◌-◌, ◌*◌, ◌<◌, ◌≤◌, true, false, List, [], ◌∷◌, ◌++◌, length, get_or, Option, Some, None, refl, sym, ◌∙◌, ap, arith, length-append}
use Rattle.std.proofs.lemmas.Bool.{cond_both, cases_lt}
use Rattle.std.proofs.lemmas.Bool.Decides.{nat_tests}
use Rattle.std.proofs.lemmas.List.{get_or_append_left, append-nil}
use Rattle.std.proofs.lemmas.List.Concat.{flat_map-append}
use Rattle.t1s_symbols.specs.declared.Quarter.{Quarter}
use Rattle.t1s_symbols.specs.declared.Symbol.{Symbol}
use Rattle.t1s_pcs_tx.specs.declared.TxIn.{TxIn}
use Rattle.t1s_pcs_tx.specs.Runs.{quarters, all_quarters}
use Rattle.t1s_pcs_tx.specs.State.{Stage, TxState, Quiet, Beaconing, Committing, Starting, Sending, ClosingEnd, ClosingCloser, symbol_of, quarter_of}
use Rattle.t1s_pcs_tx.specs.TransmitTable.{TxTurn, transmit_step, at_boundary, is_quiet}
use Rattle.t1s_node.proofs.AnyPlaces.{Past, grown, with_symbol}
use Rattle.t1s_node.proofs.AnyTx.{later_part}

pub length-quarters : (symbols : List Symbol) → length (all_quarters symbols) ≡ 4 * length symbols
length-quarters [] = refl
length-quarters (x ∷ xs) = let more = length-quarters xs in omega arith

-- a quarter of a symbol among others
pub quarter_at : (xs : List Symbol) (y : Symbol) (ys : List Symbol) (q : ℕ) → q ≤ 3
    → get_or (all_quarters (xs ++ y ∷ ys)) (4 * length xs + q) None ≡ Some (record { sym = y; part = q })
quarter_at [] y ys zero low = refl
quarter_at [] y ys (suc zero) low = refl
quarter_at [] y ys (suc (suc zero)) low = refl
quarter_at [] y ys (suc (suc (suc zero))) low = refl
quarter_at [] y ys (suc (suc (suc (suc q)))) low = absurd (omega (arith, low))
quarter_at (x ∷ xs) y ys q low =
    let more : 4 * length (x ∷ xs) + q ≡ suc (suc (suc (suc (4 * length xs + q)))) = omega arith in
    ap (λ (n : ℕ). get_or (all_quarters ((x ∷ xs) ++ y ∷ ys)) n None) more ∙ quarter_at xs y ys q low

quiet_or : (stage : Stage) (x : Symbol) → symbol_of stage ≡ Some x → is_quiet stage ≡ false
quiet_or Quiet x e = absurd (cc)
quiet_or Beaconing x e = refl
quiet_or Committing x e = refl
quiet_or (Starting place) x e = refl
quiet_or (Sending nibble) x e = refl
quiet_or (ClosingEnd good) x e = refl
quiet_or (ClosingCloser good) x e = refl

silent_quiet : (stage : Stage) → symbol_of stage ≡ None → is_quiet stage ≡ true
silent_quiet Quiet e = refl
silent_quiet Beaconing e = absurd (cc)
silent_quiet Committing e = absurd (cc)
silent_quiet (Starting place) e = absurd (cc)
silent_quiet (Sending nibble) e = absurd (cc)
silent_quiet (ClosingEnd good) e = absurd (cc)
silent_quiet (ClosingCloser good) e = absurd (cc)

-- `driven` tells what is driven in each tick
module _ (driven : ℕ → Option Quarter) where
  -- a drive that began in tick `start` spells these symbols up to tick t
  pub record Spelled (start t : ℕ) (symbols : List Symbol) : Type 0 where
    pub drives : (m : ℕ) → start + m ≤ t → driven (start + m) ≡ get_or (all_quarters symbols) m None
    pub before : (u : ℕ) → suc u ≡ start → driven u ≡ None

  -- the drive after the ticks below `now`
  pub data DriveOn (now : ℕ) : TxState → List Symbol → Type 0 where
    silent : {s : TxState} {symbols : List Symbol} → symbol_of s.stage ≡ None → symbols ≡ [] → ((u : ℕ) → suc u ≡ now → driven u ≡ None) → DriveOn now s symbols
    driving : {s : TxState} {symbols : List Symbol} (start : ℕ) (done : List Symbol) (x : Symbol) → symbol_of s.stage ≡ Some x → s.part ≤ 3
        → symbols ≡ done ++ x ∷ [] → now ≡ start + 4 * length done + s.part + 1
        → ((u : ℕ) → suc u ≡ now → Spelled start u symbols) → DriveOn now s symbols

  abbrev Next : ℕ → TxTurn → Past → Type 0
  Next now turn g = driven now ≡ turn.driven → DriveOn (suc now) turn.state g.symbols

  -- one tick more of what is spelled
  spelled_more : (start now : ℕ) (old new : List Symbol) (more : List Symbol) → new ≡ old ++ more → start ≤ now → now ≤ start + 4 * length old
      → ((u : ℕ) → suc u ≡ now → Spelled start u old) → ((u : ℕ) → suc u ≡ start → driven u ≡ None)
      → driven now ≡ get_or (all_quarters new) (now - start) None → (u : ℕ) → suc u ≡ suc now → Spelled start u new
  spelled_more start now old new more is low high earlier before here u e = record {
    drives = λ m le. elim (cases_lt (start + m) now) [
      | inl lt ↦
          let last : ℕ = now - 1 in
          let h = earlier (now - 1) (omega (arith, lt)) in
          h.drives m (omega (arith, lt))
          ∙ sym (ap (λ (ss : List Symbol). get_or (all_quarters ss) m None) is
          ∙ ap (λ (qs : List (Option Quarter)). get_or qs m None) (flat_map-append quarters old more)
          ∙ get_or_append_left (all_quarters old) (all_quarters more) None m (omega (arith, lt, high, length-quarters old)))
      | inr ge ↦
          let same : start + m ≡ now = omega (arith, le, ge, e) in
          let place : now - start ≡ m = omega (arith, same) in
          ap driven same ∙ here ∙ ap (λ (n : ℕ). get_or (all_quarters new) n None) place
    ];
    before = before;
  }

  -- a symbol begins
  begins : (now : ℕ) (s : TxState) (g : Past) (to : TxState) (o : Option Symbol) → at_boundary s ≡ true → DriveOn now s g.symbols → symbol_of to.stage ≡ o → to.part ≡ 0
      → driven now ≡ quarter_of to → DriveOn (suc now) to (with_symbol g.symbols o)
  begins now s g to None edge on is zero_part here =
      silent is refl (λ u e. let same : u ≡ now = omega (arith, e) in ap driven same ∙ (here ∙ rw is refl))
  begins now s g to (Some y) edge (silent none empty before) is zero_part here =
      driving now [] y is (omega (arith, zero_part)) (ap (λ (ss : List Symbol). ss ++ y ∷ []) empty) (omega (arith, zero_part))
      (spelled_more now now [] (g.symbols ++ y ∷ []) (y ∷ []) (ap (λ (ss : List Symbol). ss ++ y ∷ []) empty) (omega arith) (omega arith)
      (λ u e. record { drives = λ m le. absurd (omega (arith, e, le)); before = before }) before
      (here ∙ rw (is, zero_part, empty) (let none : now - now ≡ 0 = omega arith in rw none refl)))
  begins now s g to (Some y) edge (driving start done x old low spelled time earlier) is zero_part here =
      let three : s.part ≡ 3 = edge_part s x old edge in
      let long : length (done ++ x ∷ []) ≡ length done + 1 = length-append done (x ∷ []) in
      driving start (done ++ x ∷ []) y is (omega (arith, zero_part)) (ap (λ (ss : List Symbol). ss ++ y ∷ []) spelled) (omega (arith, time, three, zero_part, long))
      (spelled_more start now g.symbols (g.symbols ++ y ∷ []) (y ∷ []) refl (omega (arith, time)) (omega (arith, time, three, long, ap length spelled))
      earlier (began now time earlier)
      (here ∙ rw (is, zero_part)
      (sym (ap (λ (ss : List Symbol). get_or (all_quarters (ss ++ y ∷ [])) (now - start) None) spelled
      ∙ ap (λ (n : ℕ). get_or (all_quarters ((done ++ x ∷ []) ++ y ∷ [])) n None) (place now time three long)
      ∙ quarter_at (done ++ x ∷ []) y [] 0 (omega arith)))))
    where
      edge_part : (s : TxState) (x : Symbol) → symbol_of s.stage ≡ Some x → at_boundary s ≡ true → s.part ≡ 3
      edge_part s x old edge = let loud = quiet_or s.stage x old in grind (arith, nat_tests, edge, loud)

      began : (now : ℕ) → now ≡ start + 4 * length done + s.part + 1 → ((u : ℕ) → suc u ≡ now → Spelled start u g.symbols) → (u : ℕ) → suc u ≡ start → driven u ≡ None
      began now time earlier = (earlier (now - 1) (omega (arith, time))).before

      place : (now : ℕ) → now ≡ start + 4 * length done + s.part + 1 → s.part ≡ 3 → length (done ++ x ∷ []) ≡ length done + 1 → now - start ≡ 4 * length (done ++ x ∷ []) + 0
      place now time three long = omega (arith, time, three, long)

  -- a symbol goes on
  goes_on : (now : ℕ) (s : TxState) (g : Past) → at_boundary s ≡ false → DriveOn now s g.symbols
      → driven now ≡ quarter_of (record s { part = s.part + 1 }) → DriveOn (suc now) (record s { part = s.part + 1 }) g.symbols
  goes_on now s g inside (silent none empty before) here = absurd (let quiet = silent_quiet s.stage none in grind (arith, nat_tests, inside, quiet))
  goes_on now s g inside (driving start done x old low spelled time earlier) here =
      let less : s.part < 3 = inside_part s x old low inside in
      driving start done x old (omega (arith, less)) spelled (omega (arith, time))
      (spelled_more start now g.symbols g.symbols [] (sym (append-nil g.symbols)) (omega (arith, time))
      (omega (arith, time, less, ap length spelled, length-append done (x ∷ [])))
      earlier ((earlier (now - 1) (omega (arith, time))).before)
      (here ∙ rw old
      (sym (ap (λ (ss : List Symbol). get_or (all_quarters ss) (now - start) None) spelled
      ∙ ap (λ (n : ℕ). get_or (all_quarters (done ++ x ∷ [])) n None) (place time)
      ∙ quarter_at done x [] (s.part + 1) (omega (arith, less))))))
    where
      inside_part : (s : TxState) (x : Symbol) → symbol_of s.stage ≡ Some x → s.part ≤ 3 → at_boundary s ≡ false → s.part < 3
      inside_part s x old low inside = let loud = quiet_or s.stage x old in grind (arith, nat_tests, inside, loud, low)

      place : now ≡ start + 4 * length done + s.part + 1 → now - start ≡ 4 * length done + (s.part + 1)
      place time = omega (arith, time)

  pub drive_next : (now : ℕ) (s : TxState) (inp : TxIn) (line : List ℕ) (g : Past) → DriveOn now s g.symbols
      → (λ (turn : TxTurn). driven now ≡ turn.driven → DriveOn (suc now) turn.state (grown g turn.state.stage turn.state.part).symbols) (transmit_step s inp line)
  unfolding transmit_step
  drive_next now s inp line g on =
      cond_both (at_boundary s) _ _ (λ (turn : TxTurn). driven now ≡ turn.driven → DriveOn (suc now) turn.state (grown g turn.state.stage turn.state.part).symbols)
      (λ edge here. begins now s g _ _ edge on refl refl here)
      (λ inside. rw (later_part s.part) (λ here. goes_on now s g inside on here))
