-- The steps of a node while its own opportunity lasts, in any run: the frame goes through the line, or something meets it.
use Rattle.std.proofs.Common.{◌≡◌, ◌⊎◌, inl, inr, ℕ, zero, suc, ◌+◌, ◌*◌, ◌<◌, ◌≤◌, Bool, true, false, List, [], ◌∷◌, ◌++◌, length, drop, replicate, slice_index, refl, sym, ◌∙◌, ap, subst, arith, length-append}
use Rattle.std.proofs.lemmas.Bool.{cond_both}
use Rattle.std.proofs.lemmas.Bool.Decides.{nat_tests}
use Rattle.std.proofs.lemmas.List.{drop_more}
use Rattle.t1s_symbols.specs.declared.Class.{Class}
use Rattle.t1s_symbols.specs.declared.Symbol.{Symbol}
use Rattle.t1s_symbols.specs.declared.Symbol.TheVariants.{J}
use Rattle.t1s_frame.specs.Frame.{nibble_list}
use Rattle.t1s_grammar.specs.Burst.{Piece, pieces_symbols}
use Rattle.t1s_ring.specs.Queue.{Queue}
use Rattle.t1s_ring.specs.declared.queued.Queued.{Queued}
use Rattle.t1s_pcs_tx.specs.declared.TxIn.{TxIn}
use Rattle.t1s_pcs_tx.specs.declared.TxCmd.TheVariants.{Commit as CommitCmd}
use Rattle.t1s_pcs_tx.specs.State.{Stage, Committing, Starting}
use Rattle.t1s_pcs_tx.specs.TransmitTable.{TxTurn, Choice, transmit_step, chosen_turn, choice_after, command_choice, is_quiet}
use Rattle.plca_control.specs.declared.State.TheVariants.{Transmit as InTransmit}
use Rattle.plca_data.specs.declared.MacOut.TheVariants.{Nibble}
use Rattle.plca_data.specs.declared.data_path.State.TheVariants.{Transmit}
use Rattle.plca_data.specs.DataPathTable.{transmit, is_full, pushed}
use Rattle.t1s_mac.specs.DeferenceTable.{deference_step}
use Rattle.t1s_mac.specs.declared.deference.Deference.TheVariants.{Busy}
use Rattle.t1s_mac.specs.MacTable.{Row}
use Rattle.t1s_mac.specs.State.{Phase, Sending as Giving}
use Rattle.t1s_node.proofs.LineFeed.{Feeds, one_given, one_popped, popped_is, takes, full_or_room}
use Rattle.t1s_node.proofs.MacTurns.{Heads, SendTurn, lasts as frame_lasts, jams as frame_jams, gives as frame_gives, sends as frame_sends, frame_there, count_of, long}
use Rattle.t1s_node.proofs.AnyMac.{rests, sends as gives_frame, GivesTurn, lasts, gives as gives_nibble, stops}
use Rattle.t1s_node.proofs.AnyControl.{sends as owning}
use Rattle.t1s_node.proofs.AnyPlaces.{Past, grown, Before, OpenPiece, first, second, third, fourth, later, InPiece, starts, sends, gone, gives, Marked, Stands, opens, fed, given, spoils, spoiled}
use Rattle.t1s_node.proofs.AnyRest.{told}
use Rattle.t1s_node.proofs.AnyTx.{on_past, by_part, one_more_j, marked_lasts, pops_next}

pub pushed_some : (x : ℕ) (line : List ℕ) → 0 < length (pushed (Nibble x) line)
pushed_some x line =
    cond_both (is_full line) _ _ (λ (xs : List ℕ). 0 < length xs) (λ e. grind (arith, nat_tests, e)) (λ _. omega (arith, length-append line (x ∷ [])))

pub is_open : (earlier : List Piece) (m : ℕ) (before : List Bool) (f : Queued) (i : ℕ) (stage : Stage) (past : List Bool) (symbols : List Symbol)
    → OpenPiece earlier m before f i stage past symbols → InPiece stage
is_open earlier m before f _ _ _ symbols (first e) = starts
is_open earlier m before f _ _ _ symbols (second e) = starts
is_open earlier m before f _ _ _ symbols (third e) = starts
is_open earlier m before f _ _ _ symbols (fourth e) = starts
is_open earlier m before f i _ past symbols (later xs count some is among e) = sends

pub loud : (stage : Stage) → InPiece stage → is_quiet stage ≡ false
loud _ starts = refl
loud _ sends = refl

pub popped_drop : (ns : List ℕ) (all popped x : ℕ) (rest : List ℕ) → Feeds ns all popped (x ∷ rest) → drop popped ns ≡ x ∷ drop (popped + 1) ns
popped_drop ns all popped x rest h =
    let more : popped < length ns = omega (arith, h.count, h.within) in
    drop_more ns popped 0 more ∙ ap (λ (y : ℕ). y ∷ drop (popped + 1) ns) (popped_is ns all popped x rest h)

module _ (burst : ℕ) (Leaves : ℕ → Queued → Type 0) (c b : ℕ) (crs : Bool) (class : Class) (sending : Bool) where
  -- what the core is left as in Transmit, the transmitter's turn and the MAC's row being these
  abbrev pub Kept : Bool → Bool → Bool → Row → Stage → ℕ → List Bool → List ℕ → Past → Type 0
  Kept ended bad hit left stage part past line g =
      Stands burst Leaves (InTransmit c b) left.phase left.queue (deference_step Busy true sending left.starts) stage part past
      (transmit ended bad (told true true false crs class hit left.out) line).0 (transmit ended bad (told true true false crs class hit left.out) line).1 g

  abbrev pub KeptTurn : Bool → Bool → Bool → Row → TxTurn → Past → Type 0
  KeptTurn ended bad hit left turn g = Kept ended bad hit left turn.state.stage turn.state.part turn.state.past turn.line g

  abbrev pub Stepped : Bool → Bool → Bool → Row → Past → TxTurn → Type 0
  Stepped ended bad hit left g turn = KeptTurn ended bad hit left turn (grown g turn.state.stage turn.state.part)

  -- ---- a frame that the MAC is giving

  module _ (earlier : List Piece) (m : ℕ) (before : List Bool) (f : Queued) (k p a : ℕ) (q : Queue) (heads : Heads q f) (low : p ≤ 3) (within : k < count_of f)
      (short : m ≤ 72) (fits : Before burst b earlier) where
    abbrev ns : List ℕ
    ns = nibble_list f.frame

    module _ (i s : ℕ) (stage : Stage) (past : List Bool) (line : List ℕ) (g : Past) (ahead : 4 * i + s < 4 * k + p + 1) (quarter : s ≤ 3)
        (piece : OpenPiece earlier m before f i stage past g.symbols) (mark : Marked Leaves g f i s) (feeds : Feeds ns (k + 1) (i + 1) line)
        (room : length line ≤ 97) where
      -- another signal has met it
      hit_after : (left : Row) → SendTurn q f k p a false left → Kept false false true left stage s past line g
      hit_after _ (frame_lasts less) =
          spoiled (is_open earlier m before f i stage past g.symbols piece) quarter (gives {p = p + 1} (gives_frame (omega (arith, less)) (frame_there q f heads)) (by (length line) refl))
        where
          by : (n : ℕ) → length line ≡ n → (0 < length line) ⊎ (s < p + 1)
          by zero e = let count = feeds.count in inr (omega (arith, e, count, ahead))
          by (suc n) e = inl (omega (arith, e))
      hit_after _ (frame_gives three more early) =
          spoiled (is_open earlier m before f i stage past g.symbols piece) quarter
          (gives {p = 0} (gives_frame (omega arith) (frame_there q f heads)) (inl (pushed_some (slice_index ns (k + 1)) line)))
      hit_after _ (frame_jams three late e) = absurd (cc)
      hit_after _ (frame_sends three all e) = spoiled (is_open earlier m before f i stage past g.symbols piece) quarter (gone rests)

      free_after : (left : Row) → SendTurn q f k p a false left → Kept false false false left stage s past line g
      free_after _ (frame_lasts less) =
          fed earlier m before owning heads (omega (arith, ahead)) (omega (arith, less)) quarter within short piece mark fits feeds room
      free_after _ (frame_gives three more early) =
          by (is_full line) refl
        where
          by : (full : Bool) → is_full line ≡ full
              → Stands burst Leaves (InTransmit c b) (Giving (k + 1) 0 false) q Busy stage s past (Transmit false full) (pushed (Nibble (slice_index ns (k + 1))) line) g
          by true e =
              spoiled (is_open earlier m before f i stage past g.symbols piece) quarter
              (gives {p = 0} (gives_frame (omega arith) (frame_there q f heads)) (inl (pushed_some (slice_index ns (k + 1)) line)))
          by false e =
              let free : length line < 97 = full_or_room line e in
              subst (λ (xs : List ℕ). Stands burst Leaves (InTransmit c b) (Giving (k + 1) 0 false) q Busy stage s past (Transmit false false) xs g)
              (sym (takes line (slice_index ns (k + 1)) free))
              (fed earlier m before owning heads (omega (arith, ahead, three)) (omega arith) quarter more short piece mark fits
              (one_given ns (k + 1) (i + 1) line feeds more)
              (omega (arith, free, length-append line (slice_index ns (k + 1) ∷ []))))
      free_after _ (frame_jams three late e) = absurd (cc)
      free_after _ (frame_sends three all e) =
          given earlier m before rests heads.frame quarter short piece mark (omega (arith, feeds.count, room, all, (long f heads.frame).0)) fits
          (subst (λ (n : ℕ). Feeds ns n (i + 1) line) all feeds)

      -- the piece is open after the transmitter's turn
      pub fed_after : (hit : Bool) (left : Row) → SendTurn q f k p a false left → Kept false false hit left stage s past line g
      fed_after true left turn = hit_after left turn
      fed_after false left turn = free_after left turn

    -- from the piece
    pub fed_steps : (hit : Bool) (left : Row) (i s : ℕ) (stage : Stage) (past : List Bool) (line : List ℕ) (g : Past) (inp : TxIn) → 4 * i + s < 4 * k + p → s ≤ 3
        → OpenPiece earlier m before f i stage past g.symbols → Marked Leaves g f i s → Feeds ns (k + 1) (i + 1) line → length line ≤ 97
        → (i ≡ 1 → s ≡ 3 → Leaves (suc g.now) f) → SendTurn q f k p a false left
        → Stepped false false hit left g (transmit_step (record { stage = stage; part = s; past = past }) inp line)
    fed_steps hit left i s stage past line g inp ahead quarter piece mark feeds room leaves turn =
        by_part stage s past inp line g (KeptTurn false false hit left) (loud stage (is_open earlier m before f i stage past g.symbols piece)) quarter
        (λ less. fed_after i (s + 1) stage past line (on_past g) (omega (arith, ahead)) (omega (arith, less)) piece (marked_lasts Leaves earlier m before f g i s mark) feeds room hit left turn)
        (λ end. pop line feeds room end)
      where
        pop : (line : List ℕ) → Feeds ns (k + 1) (i + 1) line → length line ≤ 97 → s ≡ 3
            → KeptTurn false false hit left (chosen_turn (choice_after stage past inp line)) (grown g (choice_after stage past inp line).stage 0)
        pop [] feeds room end = let count = feeds.count in absurd (omega (arith, count, end, ahead, low))
        pop (x ∷ rest) feeds room end =
            pops_next Leaves earlier m before f i stage past g x rest inp (λ (x : Choice) (h : Past). KeptTurn false false hit left (chosen_turn x) h) piece
            (subst (λ (n : ℕ). Marked Leaves g f i n) end mark) (popped_drop ns (k + 1) (i + 1) x rest feeds) (λ one. leaves one end)
            (λ to after h piece_on mark_on.
            fed_after (i + 1) 0 to after rest h (omega (arith, ahead, end)) (omega arith) piece_on mark_on (one_popped ns (k + 1) (i + 1) x rest feeds) (omega (arith, room)) hit left turn)

  -- ---- before the piece

  pub opens_steps : (earlier : List Piece) (m : ℕ) (f : Queued) (p part a : ℕ) (q : Queue) (hit : Bool) (left : Row) (past : List Bool) (line : List ℕ) (g : Past)
      → Heads q f → p ≤ part → part ≤ 3 → m ≤ 72 → Before burst b earlier → g.symbols ≡ pieces_symbols earlier ++ replicate m J
      → Feeds (nibble_list f.frame) 1 0 line → SendTurn q f 0 p a false left
      → Stepped false false hit left g (transmit_step (record { stage = Committing; part = part; past = past }) (record { cmd = CommitCmd; ended = false; bad = false }) line)
  opens_steps earlier m f p part a q hit left past line g heads near low short fits spelled feeds turn =
      by_part Committing part past (record { cmd = CommitCmd; ended = false; bad = false }) line g (KeptTurn false false hit left) refl low
      (λ less. on less hit left turn) (λ end. pop line feeds)
    where
      on : part < 3 → (hit : Bool) (left : Row) → SendTurn q f 0 p a false left → Kept false false hit left Committing (part + 1) past line (on_past g)
      on less true _ (frame_lasts some) =
          spoils (omega (arith, less)) (gives {p = p + 1} (gives_frame (omega (arith, some)) (frame_there q f heads)) (inl (omega arith)))
      on less false _ (frame_lasts some) = opens earlier m owning heads (omega (arith, near)) (omega (arith, less)) short fits spelled feeds
      on less hit _ (frame_gives three more early) = absurd (omega (arith, three, near, less))
      on less hit _ (frame_jams three late e) = absurd (omega (arith, three, near, less))
      on less hit _ (frame_sends three all e) = absurd (omega (arith, three, near, less))

      pop : (line : List ℕ) → Feeds (nibble_list f.frame) 1 0 line
          → KeptTurn false false hit left (chosen_turn (command_choice CommitCmd past line)) (grown g (command_choice CommitCmd past line).stage 0)
      pop [] feeds = let count = feeds.count in absurd (omega (arith, count))
      pop (x ∷ rest) feeds =
          fed_after earlier m past f 0 p a q heads (omega (arith, near, low)) (omega (arith, (long f heads.frame).0)) short fits 0 0 (Starting 0) past rest
          (grown g (Starting 0) 0) (omega arith) (omega arith)
          (first (ap (λ (ss : List Symbol). ss ++ J ∷ []) spelled ∙ one_more_j (pieces_symbols earlier) m))
          (λ some. absurd (omega (arith, some))) (one_popped (nibble_list f.frame) 1 0 x rest feeds) (let count = feeds.count in omega (arith, count)) hit left turn

  -- another signal has met it before its piece
  pub spoils_steps : (ended hit : Bool) (part p : ℕ) (phase : Phase) (q : Queue) (left : Row) (past : List Bool) (line : List ℕ) (g : Past) → part ≤ 3 → GivesTurn q p left
      → Stepped ended true hit left g (transmit_step (record { stage = Committing; part = part; past = past }) (record { cmd = CommitCmd; ended = ended; bad = true }) line)
  spoils_steps ended hit part p phase q left past line g low turn =
      by_part Committing part past (record { cmd = CommitCmd; ended = ended; bad = true }) line g (KeptTurn ended true hit left) refl low
      (λ less. on (part + 1) (on_past g) (omega (arith, less)) line left turn) (λ end. pop line)
    where
      on : (r : ℕ) (h : Past) → r ≤ 3 → (line : List ℕ) (left : Row) → GivesTurn q p left → Kept ended true hit left Committing r past line h
      on r h few line _ (lasts less more) = spoils few (gives more (inl (omega arith)))
      on r h few line _ (gives_nibble end more) = spoils few (gives more (inl (omega arith)))
      on r h few line _ (stops end over) = spoils few (gone over)

      begun : (rest : List ℕ) (left : Row) (h : Past) → GivesTurn q p left → Kept ended true hit left (Starting 0) 0 past rest h
      begun rest _ h (lasts less more) = spoiled starts (omega arith) (gives more (inr (omega arith)))
      begun rest _ h (gives_nibble {x = x} end more) = spoiled starts (omega arith) (gives more (inl (pushed_some x rest)))
      begun rest _ h (stops end over) = spoiled starts (omega arith) (gone over)

      pop : (line : List ℕ) → KeptTurn ended true hit left (chosen_turn (command_choice CommitCmd past line)) (grown g (command_choice CommitCmd past line).stage 0)
      pop [] = on 0 (grown g Committing 0) (omega arith) [] left turn
      pop (x ∷ rest) = begun rest left (grown g (Starting 0) 0) turn
