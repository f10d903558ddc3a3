-- The steps of a node whose MAC has given the frame, or gives one that something has met, to the end of the piece.
use Rattle.std.proofs.Common.{◌≡◌, ◌⊎◌, inl, inr, ℕ, ◌+◌, ◌<◌, ◌≤◌, Bool, true, false, nat_lt, List, [], ◌∷◌, ◌++◌, length, drop, refl, sym, ◌∙◌, ap, subst, arith, append_assoc}
use Rattle.std.proofs.lemmas.Bool.{cond_both}
use Rattle.std.proofs.lemmas.List.{drop_all, append-nil}
use Rattle.t1s_symbols.specs.declared.Class.{Class}
use Rattle.t1s_symbols.specs.declared.Symbol.{Symbol}
use Rattle.t1s_symbols.specs.declared.Symbol.TheVariants.{T, R}
use Rattle.t1s_scramble.specs.Scrambled.{scrambled_nibbles}
use Rattle.t1s_frame.specs.Frame.{IsFrame, nibble_list}
use Rattle.t1s_grammar.specs.Burst.{Piece, open_symbols, pieces_symbols}
use Rattle.t1s_grammar.specs.Sent.{carried_nibbles}
use Rattle.t1s_ring.specs.Queue.{Queue}
use Rattle.t1s_ring.specs.declared.queued.Queued.{Queued}
use Rattle.t1s_pcs_tx.specs.declared.TxCmd.{TxCmd}
use Rattle.t1s_pcs_tx.specs.declared.TxCmd.TheVariants.{Commit as CommitCmd}
use Rattle.t1s_pcs_tx.specs.State.{Stage, Committing, ClosingEnd}
use Rattle.t1s_pcs_tx.specs.TransmitTable.{TxTurn, Choice, transmit_step, chosen_turn, choice_after, data_choice, command_choice}
use Rattle.plca_data.specs.declared.MacOut.TheVariants.{Nothing}
use Rattle.t1s_mac.specs.declared.outcome.MacNote.TheVariants.{None as NoNote}
use Rattle.t1s_mac.specs.MacTable.{Row, row}
use Rattle.t1s_mac.specs.State.{Phase}
use Rattle.t1s_node.proofs.LineFeed.{Feeds, one_popped}
use Rattle.t1s_node.proofs.MacTurns.{count_of, long}
use Rattle.t1s_node.proofs.AnyMac.{Gone, GivesTurn, lasts, gives as gives_nibble, stops}
use Rattle.t1s_node.proofs.AnyPlaces.{Past, grown, Before, OpenPiece, first, second, third, fourth, later, InPiece, starts, sends, ends as ends_so, gone, gives, Marked, given, ends, closes, spoils, spoiled, ends_badly}
use Rattle.t1s_node.proofs.AnyTx.{on_past, with_new, by_part, marked_lasts, marked_on, pops_next}
use Rattle.t1s_node.proofs.AnyOwn.{Kept, KeptTurn, Stepped, is_open, loud, popped_drop, pushed_some}

module _ (burst : ℕ) (Leaves : ℕ → Queued → Type 0) (c b : ℕ) (crs : Bool) (class : Class) (sending : Bool) where
  abbrev Left : Bool → Bool → Bool → Row → Stage → ℕ → List Bool → List ℕ → Past → Type 0
  Left = Kept burst Leaves c b crs class sending

  abbrev Turned : Bool → Bool → Bool → Row → TxTurn → Past → Type 0
  Turned = KeptTurn burst Leaves c b crs class sending

  abbrev Steps : Bool → Bool → Bool → Row → Past → TxTurn → Type 0
  Steps = Stepped burst Leaves c b crs class sending

  -- ---- the MAC has given the frame whole

  module _ (earlier : List Piece) (m : ℕ) (before : List Bool) (f : Queued) (frame : IsFrame f.frame) (short : m ≤ 72) (fits : Before burst b earlier)
      (phase : Phase) (q : Queue) (a : ℕ) (over : Gone phase q) where
    abbrev silent_row : Row
    silent_row = row phase q a Nothing NoNote

    abbrev ns : List ℕ
    ns = nibble_list f.frame

    given_after : (i s : ℕ) (stage : Stage) (past : List Bool) (line : List ℕ) (g : Past) → s ≤ 3 → OpenPiece earlier m before f i stage past g.symbols
        → Marked Leaves g f i s → 3 ≤ i → Feeds ns (count_of f) (i + 1) line → (hit : Bool) → Left true false hit silent_row stage s past line g
    given_after i s stage past line g quarter piece mark late feeds true = spoiled (is_open earlier m before f i stage past g.symbols piece) quarter (gone over)
    given_after i s stage past line g quarter piece mark late feeds false = given earlier m before over frame quarter short piece mark late fits feeds

    ended_after : (past : List Bool) (g : Past) → g.symbols ≡ pieces_symbols earlier ++ (open_symbols (m + 2) (scrambled_nibbles before (carried_nibbles f.frame)) ++ T ∷ [])
        → (s : ℕ) → s ≤ 3 → Marked Leaves g f (count_of f) s → (hit : Bool) → Left true false hit silent_row (ClosingEnd true) s past [] g
    ended_after past g spelled s quarter mark true = ends_badly ends_so quarter over
    ended_after past g spelled s quarter mark false = ends earlier m before over frame quarter short spelled mark fits

    -- the last nibble has been popped: T begins
    close : (hit : Bool) (cmd : TxCmd) (i : ℕ) (stage : Stage) (past : List Bool) (g : Past) → OpenPiece earlier m before f i stage past g.symbols → Marked Leaves g f i 3
        → 3 ≤ i → i + 1 ≡ count_of f
        → (λ (c : Choice). Turned true false hit silent_row (chosen_turn c) (grown g c.stage 0)) (choice_after stage past (record { cmd = cmd; ended = true; bad = false }) [])
    close hit cmd _ _ _ g (first e) mark late all = absurd (omega (arith, late))
    close hit cmd _ _ _ g (second e) mark late all = absurd (omega (arith, late))
    close hit cmd _ _ _ g (third e) mark late all = absurd (omega (arith, late))
    close hit cmd _ _ _ g (fourth e) mark late all = absurd (omega (arith, all, (long f frame).0))
    close hit cmd i _ past g (later xs count some is among e) mark late all =
        ended_after past (with_new g (g.symbols ++ T ∷ []))
        (ap (λ (ss : List Symbol). ss ++ T ∷ []) e
        ∙ append_assoc (pieces_symbols earlier) (open_symbols (m + 2) (scrambled_nibbles before xs)) (T ∷ [])
        ∙ ap (λ (ys : List ℕ). pieces_symbols earlier ++ (open_symbols (m + 2) (scrambled_nibbles before ys) ++ T ∷ [])) whole)
        0 (omega arith)
        (subst (λ (n : ℕ). Marked Leaves (with_new g (g.symbols ++ T ∷ [])) f n 0) all
        (marked_on Leaves earlier m before f g (g.symbols ++ T ∷ []) i 3 refl mark (omega (arith, late)))) hit
      where
        none : drop (i + 1) ns ≡ []
        none = drop_all (i + 1) ns (omega (arith, all))

        whole : xs ≡ carried_nibbles f.frame
        whole = sym (append-nil xs) ∙ ap (λ (ys : List ℕ). xs ++ ys) (sym none) ∙ among

    pub given_steps : (hit : Bool) (cmd : TxCmd) (i s : ℕ) (stage : Stage) (past : List Bool) (line : List ℕ) (g : Past) → s ≤ 3
        → OpenPiece earlier m before f i stage past g.symbols → Marked Leaves g f i s → 3 ≤ i → Feeds ns (count_of f) (i + 1) line
        → Steps true false hit silent_row g (transmit_step (record { stage = stage; part = s; past = past }) (record { cmd = cmd; ended = true; bad = false }) line)
    given_steps hit cmd i s stage past line g quarter piece mark late feeds =
        by_part stage s past (record { cmd = cmd; ended = true; bad = false }) line g (Turned true false hit silent_row)
        (loud stage (is_open earlier m before f i stage past g.symbols piece)) quarter
        (λ less. given_after i (s + 1) stage past line (on_past g) (omega (arith, less)) piece (marked_lasts Leaves earlier m before f g i s mark) late feeds hit)
        (λ end. pop line feeds (subst (λ (n : ℕ). Marked Leaves g f i n) end mark))
      where
        pop : (line : List ℕ) → Feeds ns (count_of f) (i + 1) line → Marked Leaves g f i 3
            → (λ (c : Choice). Turned true false hit silent_row (chosen_turn c) (grown g c.stage 0)) (choice_after stage past (record { cmd = cmd; ended = true; bad = false }) line)
        pop [] feeds mark = let count = feeds.count in close hit cmd i stage past g piece mark late (omega (arith, count))
        pop (x ∷ rest) feeds mark =
            pops_next Leaves earlier m before f i stage past g x rest (record { cmd = cmd; ended = true; bad = false })
            (λ (c : Choice) (h : Past). Turned true false hit silent_row (chosen_turn c) h) piece mark (popped_drop ns (count_of f) (i + 1) x rest feeds)
            (λ one. absurd (omega (arith, one, late)))
            (λ to after h piece_on mark_on.
            given_after (i + 1) 0 to after rest h (omega arith) piece_on mark_on (omega (arith, late)) (one_popped ns (count_of f) (i + 1) x rest feeds) hit)

    pub ends_steps : (hit : Bool) (cmd : TxCmd) (s : ℕ) (past : List Bool) (g : Past) → s ≤ 3
        → g.symbols ≡ pieces_symbols earlier ++ (open_symbols (m + 2) (scrambled_nibbles before (carried_nibbles f.frame)) ++ T ∷ [])
        → Marked Leaves g f (count_of f) s
        → Steps true false hit silent_row g (transmit_step (record { stage = ClosingEnd true; part = s; past = past }) (record { cmd = cmd; ended = true; bad = false }) [])
    ends_steps hit cmd s past g quarter spelled mark =
        by_part (ClosingEnd true) s past (record { cmd = cmd; ended = true; bad = false }) [] g (Turned true false hit silent_row) refl quarter
        (λ less. ended_after past (on_past g) spelled (s + 1) (omega (arith, less)) (marked_lasts Leaves earlier m before f g (count_of f) s mark) hit)
        (λ end.
        closes earlier m before over frame (omega arith) short
        (ap (λ (ss : List Symbol). ss ++ R ∷ []) spelled
        ∙ append_assoc (pieces_symbols earlier) (open_symbols (m + 2) (scrambled_nibbles before (carried_nibbles f.frame)) ++ T ∷ []) (R ∷ [])
        ∙ ap (λ (ss : List Symbol). pieces_symbols earlier ++ ss)
        (append_assoc (open_symbols (m + 2) (scrambled_nibbles before (carried_nibbles f.frame))) (T ∷ []) (R ∷ [])))
        (marked_on Leaves earlier m before f g (g.symbols ++ R ∷ []) (count_of f) s end mark (omega (arith, (long f frame).0))) fits)

  -- ---- something has met the frame

  module _ (phase : Phase) (q : Queue) (a : ℕ) (over : Gone phase q) where
    abbrev idle_row : Row
    idle_row = row phase q a Nothing NoNote

    -- before its piece, and the MAC has ended
    pub spoils_over : (ended hit : Bool) (part : ℕ) (past : List Bool) (line : List ℕ) (g : Past) → part ≤ 3
        → Steps ended true hit idle_row g (transmit_step (record { stage = Committing; part = part; past = past }) (record { cmd = CommitCmd; ended = ended; bad = true }) line)
    spoils_over ended hit part past line g low =
        by_part Committing part past (record { cmd = CommitCmd; ended = ended; bad = true }) line g (Turned ended true hit idle_row) refl low
        (λ less. spoils (omega (arith, less)) (gone over)) (λ end. pop line)
      where
        pop : (line : List ℕ) → Turned ended true hit idle_row (chosen_turn (command_choice CommitCmd past line)) (grown g (command_choice CommitCmd past line).stage 0)
        pop [] = spoils (omega arith) (gone over)
        pop (x ∷ rest) = spoiled starts (omega arith) (gone over)

    data_over : (ended hit : Bool) (cmd : TxCmd) (past : List Bool) (line : List ℕ) (h : Choice → Past)
        → (λ (c : Choice). Turned ended true hit idle_row (chosen_turn c) (h c)) (data_choice past (record { cmd = cmd; ended = ended; bad = true }) line)
    data_over ended hit cmd past [] h = ends_badly ends_so (omega arith) over
    data_over ended hit cmd past (x ∷ rest) h = spoiled sends (omega arith) (gone over)

    pub spoiled_over : (ended hit : Bool) (cmd : TxCmd) (stage : Stage) (s : ℕ) (past : List Bool) (line : List ℕ) (g : Past) → s ≤ 3 → InPiece stage
        → Steps ended true hit idle_row g (transmit_step (record { stage = stage; part = s; past = past }) (record { cmd = cmd; ended = ended; bad = true }) line)
    spoiled_over ended hit cmd stage s past line g quarter piece =
        by_part stage s past (record { cmd = cmd; ended = ended; bad = true }) line g (Turned ended true hit idle_row) (loud stage piece) quarter
        (λ less. spoiled piece (omega (arith, less)) (gone over)) (λ end. next stage piece)
      where
        next : (stage : Stage) → InPiece stage
            → (λ (c : Choice). Turned ended true hit idle_row (chosen_turn c) (grown g c.stage 0)) (choice_after stage past (record { cmd = cmd; ended = ended; bad = true }) line)
        next _ (starts {i = i}) =
            cond_both (nat_lt i 3) _ _ (λ (c : Choice). Turned ended true hit idle_row (chosen_turn c) (grown g c.stage 0))
            (λ _. spoiled starts (omega arith) (gone over)) (λ _. data_over ended hit cmd past line (λ (c : Choice). grown g c.stage 0))
        next _ sends = data_over ended hit cmd past line (λ (c : Choice). grown g c.stage 0)

  -- in its piece, and the MAC gives
  module _ (p : ℕ) (q : Queue) (left : Row) (low : p ≤ 3) (turn : GivesTurn q p left) where
    gives_after : (ended hit : Bool) (s : ℕ) (stage : Stage) (past : List Bool) (line : List ℕ) (g : Past) → InPiece stage → s ≤ 3
        → (0 < length line) ⊎ (s < p + 1) → (left : Row) → GivesTurn q p left → Left ended true hit left stage s past line g
    gives_after ended hit s stage past line g piece quarter some _ (lasts less more) = spoiled piece quarter (gives more some)
    gives_after ended hit s stage past line g piece quarter some _ (gives_nibble {x = x} end more) = spoiled piece quarter (gives more (inl (pushed_some x line)))
    gives_after ended hit s stage past line g piece quarter some _ (stops end over) = spoiled piece quarter (gone over)

    pub spoiled_gives : (ended hit : Bool) (cmd : TxCmd) (stage : Stage) (s : ℕ) (past : List Bool) (line : List ℕ) (g : Past) → s ≤ 3 → InPiece stage
        → (0 < length line) ⊎ (s < p)
        → Steps ended true hit left g (transmit_step (record { stage = stage; part = s; past = past }) (record { cmd = cmd; ended = ended; bad = true }) line)
    spoiled_gives ended hit cmd stage s past line g quarter piece some =
        by_part stage s past (record { cmd = cmd; ended = ended; bad = true }) line g (Turned ended true hit left) (loud stage piece) quarter
        (λ less. gives_after ended hit (s + 1) stage past line (on_past g) piece (omega (arith, less)) (still some) left turn)
        (λ end. pop line some end stage piece)
      where
        still : (0 < length line) ⊎ (s < p) → (0 < length line) ⊎ (s + 1 < p + 1)
        still (inl h) = inl h
        still (inr h) = inr (omega (arith, h))

        begun : (to : Stage) (past : List Bool) (rest : List ℕ) (h : Past) → InPiece to → Left ended true hit left to 0 past rest h
        begun to past rest h piece = gives_after ended hit 0 to past rest h piece (omega arith) (inr (omega arith)) left turn

        pop : (line : List ℕ) → (0 < length line) ⊎ (s < p) → s ≡ 3 → (stage : Stage) → InPiece stage
            → (λ (c : Choice). Turned ended true hit left (chosen_turn c) (grown g c.stage 0)) (choice_after stage past (record { cmd = cmd; ended = ended; bad = true }) line)
        pop [] (inl h) end stage piece = absurd (omega (arith, h))
        pop [] (inr h) end stage piece = absurd (omega (arith, h, end, low))
        pop (x ∷ rest) some end _ (starts {i = i}) =
            cond_both (nat_lt i 3) _ _ (λ (c : Choice). Turned ended true hit left (chosen_turn c) (grown g c.stage 0))
            (λ _. begun _ _ rest _ starts) (λ _. begun _ _ rest _ sends)
        pop (x ∷ rest) some end _ sends = begun _ _ rest _ sends
