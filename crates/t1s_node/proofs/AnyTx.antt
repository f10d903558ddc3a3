-- The transmitter in any run: how a step goes, and what it adds to the drive.
use Rattle.std.proofs.Common.{◌≡◌, ℕ, suc, ◌+◌, ◌==◌, ◌<◌, ◌≤◌, Bool, false, List, [], ◌∷◌, ◌++◌, drop, replicate, refl, sym, ◌∙◌, ap, ap₂, arith, append_assoc, length-append}
use Rattle.std.proofs.lemmas.Bool.{cond_both}
use Rattle.std.proofs.lemmas.Bool.Decides.{nat_tests}
use Rattle.std.proofs.lemmas.List.{replicate-append-replicate}
use Rattle.t1s_symbols.specs.declared.Symbol.{Symbol}
use Rattle.t1s_symbols.specs.declared.Symbol.TheVariants.{Nibble, J, H}
use Rattle.t1s_scramble.specs.Scrambled.{scrambled_nibble, scrambled_nibbles, scrambler_after}
use Rattle.t1s_scramble.proofs.Nibbles.{scrambled_nibbles-nil, scrambled_nibbles-push, scrambler_after-nil, scrambler_after-append}
use Rattle.t1s_frame.specs.Frame.{nibble_list}
use Rattle.t1s_grammar.specs.Burst.{Piece, open_symbols, pieces_symbols}
use Rattle.t1s_grammar.specs.Sent.{carried_nibbles}
use Rattle.t1s_grammar.proofs.Longer.{open-append}
use Rattle.t1s_ring.specs.declared.queued.Queued.{Queued}
use Rattle.t1s_pcs_tx.specs.declared.TxIn.{TxIn}
use Rattle.t1s_pcs_tx.specs.State.{Stage, Starting, Sending}
use Rattle.t1s_pcs_tx.specs.TransmitTable.{TxTurn, Choice, transmit_step, turn_to, chosen_turn, choice, choice_after, is_quiet, last_part}
use Rattle.t1s_node.proofs.AnyPlaces.{Past, grown, OpenPiece, first, second, third, fourth, later, Marked}

-- one tick more, in which the symbol goes on
abbrev pub on_past : Past → Past
on_past g = record { symbols = g.symbols; now = suc g.now; last = g.last }

-- and one in which another symbol begins, which is no first H
abbrev pub with_new : Past → List Symbol → Past
with_new g symbols = record { symbols = symbols; now = suc g.now; last = g.last }

pub later_part : (part : ℕ) → ((part + 1) == 0) ≡ false
later_part part = grind (arith, nat_tests)

pub by_part : (stage : Stage) (part : ℕ) (past : List Bool) (inp : TxIn) (line : List ℕ) (g : Past) (P : TxTurn → Past → Type 0)
    → is_quiet stage ≡ false → part ≤ 3
    → (part < 3 → P (turn_to (record { stage = stage; part = part + 1; past = past }) line) (on_past g))
    → (part ≡ 3 → P (chosen_turn (choice_after stage past inp line)) (grown g (choice_after stage past inp line).stage 0))
    → (λ (turn : TxTurn). P turn (grown g turn.state.stage turn.state.part)) (transmit_step (record { stage = stage; part = part; past = past }) inp line)
unfolding transmit_step
by_part stage part past inp line g P loud low on end =
    rw loud (cond_both (part == last_part) _ _ (λ (turn : TxTurn). P turn (grown g turn.state.stage turn.state.part))
    (λ e. end (grind (arith, nat_tests, e)))
    (λ e.
    let less : part < 3 = grind (arith, nat_tests, e, low) in
    rw (later_part part) (on less)))

-- ---- symbols

pub one_more_j : (xs : List Symbol) (m : ℕ) → (xs ++ replicate m J) ++ J ∷ [] ≡ xs ++ replicate (m + 1) J
one_more_j xs m = append_assoc xs (replicate m J) (J ∷ []) ∙ ap (λ (ys : List Symbol). xs ++ ys) (replicate-append-replicate m 1 J)

module _ (Leaves : ℕ → Queued → Type 0) (earlier : List Piece) (m : ℕ) (before : List Bool) (f : Queued) where
  abbrev Open : ℕ → Stage → List Bool → List Symbol → Type 0
  Open = OpenPiece earlier m before f

  pub marked_on : (g : Past) (symbols : List Symbol) (i s : ℕ) → s ≡ 3 → Marked Leaves g f i s → 2 ≤ i → Marked Leaves (with_new g symbols) f (i + 1) 0
  marked_on g symbols i s end mark some more =
      let (n, is, left) = mark some in
      (n + 1, omega (arith, is, end), record { since = omega (arith, left.since); leaves = left.leaves })

  pub marked_lasts : (g : Past) (i s : ℕ) → Marked Leaves g f i s → Marked Leaves (on_past g) f i (s + 1)
  marked_lasts g i s mark some =
      let (n, is, left) = mark some in
      (n + 1, omega (arith, is), record { since = omega (arith, left.since); leaves = left.leaves })

  nibble_more : (past : List Bool) (given : List ℕ) (x : ℕ) (symbols : List Symbol) → past ≡ scrambler_after before given
      → symbols ≡ pieces_symbols earlier ++ open_symbols (m + 2) (scrambled_nibbles before given)
      → symbols ++ Nibble (scrambled_nibble past x) ∷ [] ≡ pieces_symbols earlier ++ open_symbols (m + 2) (scrambled_nibbles before (given ++ x ∷ []))
  nibble_more past given x symbols is spelled =
      ap₂ (λ (ss : List Symbol) (h : List Bool). ss ++ Nibble (scrambled_nibble h x) ∷ []) spelled is
      ∙ append_assoc (pieces_symbols earlier) (open_symbols (m + 2) (scrambled_nibbles before given)) (Nibble (scrambled_nibble (scrambler_after before given) x) ∷ [])
      ∙ ap (λ (ss : List Symbol). pieces_symbols earlier ++ ss)
      (sym (open-append (m + 2) (scrambled_nibbles before given) (scrambled_nibble (scrambler_after before given) x ∷ []))
      ∙ ap (λ (ns : List ℕ). open_symbols (m + 2) ns) (sym (scrambled_nibbles-push before given x)))

  carried_more : (given : List ℕ) (i x : ℕ) → drop (i + 1) (nibble_list f.frame) ≡ x ∷ drop (i + 1 + 1) (nibble_list f.frame)
      → given ++ drop (i + 1) (nibble_list f.frame) ≡ carried_nibbles f.frame
      → (given ++ x ∷ []) ++ drop (i + 1 + 1) (nibble_list f.frame) ≡ carried_nibbles f.frame
  carried_more given i x next is =
      append_assoc given (x ∷ []) (drop (i + 1 + 1) (nibble_list f.frame))
      ∙ ap (λ (ns : List ℕ). given ++ ns) (sym next)
      ∙ is

  -- the next nibble is popped
  pub pops_next : (i : ℕ) (stage : Stage) (past : List Bool) (g : Past) (x : ℕ) (rest : List ℕ) (inp : TxIn) (P : Choice → Past → Type 0)
      → Open i stage past g.symbols → Marked Leaves g f i 3 → drop (i + 1) (nibble_list f.frame) ≡ x ∷ drop (i + 1 + 1) (nibble_list f.frame)
      → (i ≡ 1 → Leaves (suc g.now) f)
      → ((to : Stage) (after : List Bool) (h : Past) → Open (i + 1) to after h.symbols → Marked Leaves h f (i + 1) 0 → P (choice to after rest) h)
      → P (choice_after stage past inp (x ∷ rest)) (grown g (choice_after stage past inp (x ∷ rest)).stage 0)
  pops_next _ _ _ g x rest inp P (first e) mark next leaves done =
      let two : m + 1 + 1 ≡ m + 2 = omega arith in
      done (Starting 1) before (with_new g (g.symbols ++ J ∷ []))
      (second (ap (λ (ss : List Symbol). ss ++ J ∷ []) e ∙ one_more_j (pieces_symbols earlier) (m + 1) ∙ ap (λ (n : ℕ). pieces_symbols earlier ++ replicate n J) two))
      (λ some. absurd (omega (arith, some)))
  pops_next _ _ _ g x rest inp P (second e) mark next leaves done =
      done (Starting 2) before (record { symbols = g.symbols ++ H ∷ []; now = suc g.now; last = suc g.now })
      (third (ap (λ (ss : List Symbol). ss ++ H ∷ []) e ∙ append_assoc (pieces_symbols earlier) (replicate (m + 2) J) (H ∷ [])))
      (λ some. (0, refl, record { since = omega arith; leaves = leaves refl }))
  pops_next _ _ _ g x rest inp P (third e) mark next leaves done =
      done (Starting 3) before (with_new g (g.symbols ++ H ∷ []))
      (fourth (ap (λ (ss : List Symbol). ss ++ H ∷ []) e
      ∙ append_assoc (pieces_symbols earlier) (replicate (m + 2) J ++ H ∷ []) (H ∷ [])
      ∙ ap (λ (ss : List Symbol). pieces_symbols earlier ++ ss) (append_assoc (replicate (m + 2) J) (H ∷ []) (H ∷ []))))
      (marked_on g (g.symbols ++ H ∷ []) 2 3 refl mark (omega arith))
  pops_next _ _ _ g x rest inp P (fourth e) mark next leaves done =
      let none : before ≡ scrambler_after before [] = sym (scrambler_after-nil before) in
      let none_given : g.symbols ≡ pieces_symbols earlier ++ open_symbols (m + 2) (scrambled_nibbles before []) =
      e ∙ ap (λ (ns : List ℕ). pieces_symbols earlier ++ open_symbols (m + 2) ns) (sym (scrambled_nibbles-nil before)) in
      done (Sending (scrambled_nibble before x)) (scrambler_after before (x ∷ [])) (with_new g (g.symbols ++ Nibble (scrambled_nibble before x) ∷ []))
      (later (x ∷ []) refl (omega arith) refl (carried_more [] 3 x next refl) (nibble_more before [] x g.symbols none none_given))
      (marked_on g (g.symbols ++ Nibble (scrambled_nibble before x) ∷ []) 3 3 refl mark (omega arith))
  pops_next i _ past g x rest inp P (later given count some is among e) mark next leaves done =
      done (Sending (scrambled_nibble past x)) (scrambler_after past (x ∷ [])) (with_new g (g.symbols ++ Nibble (scrambled_nibble past x) ∷ []))
      (later (given ++ x ∷ []) (omega (arith, count, length-append given (x ∷ []))) (omega (arith, length-append given (x ∷ [])))
      (ap (λ (h : List Bool). scrambler_after h (x ∷ [])) is ∙ sym (scrambler_after-append before given (x ∷ [])))
      (carried_more given i x next among) (nibble_more past given x g.symbols is e))
      (marked_on g (g.symbols ++ Nibble (scrambled_nibble past x) ∷ []) i 3 refl mark (omega (arith, count, some)))
