-- One tick of the parts of a node from each place that it may be in, in any run.
use Rattle.std.proofs.Common.{◌≡◌, ℕ, ◌+◌, ◌-◌, ◌==◌, ◌<◌, ◌≤◌, Bool, true, false, nat_lt, List, [], ◌∷◌, ◌++◌, length, refl, sym, ◌∙◌, ap, arith, length-append}
use Rattle.std.proofs.lemmas.Bool.{cond_both}
use Rattle.std.proofs.lemmas.Bool.Decides.{nat_tests}
use Rattle.std.proofs.lemmas.List.Elements.{All-append, All-cons, All-nil}
use Rattle.t1s_symbols.specs.declared.Class.{Class}
use Rattle.t1s_symbols.specs.declared.Symbol.{Symbol}
use Rattle.t1s_symbols.specs.declared.Symbol.TheVariants.{J}
use Rattle.t1s_frame.specs.Frame.{IsFrame, nibble_list}
use Rattle.t1s_grammar.specs.Burst.{Piece, IsPieceInRange, piece_symbols, pieces_symbols}
use Rattle.t1s_grammar.specs.Sent.{sent_piece}
use Rattle.t1s_grammar.proofs.Longer.{more_pieces}
use Rattle.t1s_grammar.proofs.Sent.{sent-in_range}
use Rattle.t1s_ring.specs.Queue.{Queue}
use Rattle.t1s_ring.specs.declared.queued.Queued.{Queued}
use Rattle.t1s_pcs_tx.specs.declared.TxCmd.{TxCmd}
use Rattle.t1s_pcs_tx.specs.declared.TxCmd.TheVariants.{None as NoCmd, Commit as CommitCmd}
use Rattle.t1s_pcs_tx.specs.declared.TxIn.{TxIn}
use Rattle.t1s_pcs_tx.specs.declared.TxReport.{TxReport}
use Rattle.t1s_pcs_tx.specs.declared.TxReport.TheVariants.{Leading, Framing}
use Rattle.t1s_pcs_tx.specs.State.{Stage, TxState, quarter_of, Committing, Starting, ClosingEnd, ClosingCloser, report_by, is_closed}
use Rattle.t1s_pcs_tx.specs.TransmitTable.{TxTurn, transmit_step}
use Rattle.plca_control.specs.declared.ControlSet.{ControlSet}
use Rattle.plca_control.specs.declared.State.{State as ControlStage}
use Rattle.plca_control.specs.declared.State.TheVariants.{Burst, Drain, Transmit as InTransmit}
use Rattle.plca_control.specs.ControlTable.{control_row}
use Rattle.plca_data.specs.declared.data_path.State.{State}
use Rattle.plca_data.specs.declared.data_path.State.TheVariants.{Transmit}
use Rattle.plca_data.specs.DataPathTable.{carrier, collision, ready, begun, ended, bad}
use Rattle.t1s_mac.specs.DeferenceTable.{may_start}
use Rattle.t1s_mac.specs.declared.deference.Deference.{Deference}
use Rattle.t1s_mac.specs.declared.deference.Deference.TheVariants.{Busy}
use Rattle.plca_data.specs.declared.MacOut.TheVariants.{Nothing}
use Rattle.t1s_mac.specs.declared.outcome.MacNote.TheVariants.{None as NoNote}
use Rattle.t1s_mac.specs.MacTable.{Row, row, row_of}
use Rattle.t1s_mac.specs.State.{Phase, is_sending, Sending as Giving}
use Rattle.t1s_node.proofs.LineFeed.{Feeds}
use Rattle.t1s_node.proofs.MacTurns.{Heads, Fit, SendTurn, lasts as frame_lasts, jams as frame_jams, gives as frame_gives, sends as frame_sends, count_of, long}
use Rattle.t1s_node.proofs.AnyMac.{Gone, GoneTurn, starts as mac_starts, stays as mac_stays, gone_turns, Gives, sends as gives_frame, jams as gives_jam}
use Rattle.t1s_node.proofs.AnyControl.{Owns, commits, sends as owning, pauses, later as waits_later}
use Rattle.t1s_node.proofs.AnyPlaces.{Past, grown, Before, OpenPiece, first, second, third, fourth, later, InPiece, starts, sends, ends as ends_so, closes as closes_so, Marked, away, waits, closes, ends_badly}
use Rattle.t1s_node.proofs.AnyRest.{idle_next}
use Rattle.t1s_node.proofs.AnyTx.{on_past, by_part, marked_lasts}
use Rattle.t1s_node.proofs.AnySteps.{Comes}

-- what is reported while no closer has ended
pub data Unclosed : TxReport → Type 0 where
  leads : Unclosed Leading
  frames : Unclosed Framing

pub framing : (stage : Stage) (t : Bool) → InPiece stage → Framing ≡ report_by stage t
framing _ t starts = refl
framing _ t sends = refl

pub gives_low : (p : ℕ) (phase : Phase) (q : Queue) → Gives p phase q → p ≤ 3
gives_low p _ q (gives_frame low some) = low
gives_low p _ q (gives_jam low some) = low

third_begins : (s : ℕ) (past : List Bool) (inp : TxIn) (line : List ℕ) → s ≡ 3
    → (λ (turn : TxTurn). (turn.state.stage ≡ Starting 2) × (turn.state.part ≡ 0)) (transmit_step (record { stage = Starting 1; part = s; past = past }) inp line)
unfolding transmit_step
third_begins s past inp line e = rw e (refl, refl)

module _ (Leaves : ℕ → Queued → Type 0) (set : ControlSet) (crs : Bool) (class : Class) (hit : Bool) (drawn : ℕ) where
  -- the tick, by what is reported
  abbrev pub By : ControlStage → Phase → Queue → Deference → ℕ → TxState → State → List ℕ → Past → TxReport → Type 0
  By st phase q d a tx path line g r =
      (λ (next : ControlStage × TxCmd).
      (λ (turn : TxTurn). Comes Leaves set crs class hit path d (is_sending phase) (is_closed r) next
      (row_of phase q a (may_start d (carrier path crs)) (collision path) drawn) turn (grown g turn.state.stage turn.state.part))
      (transmit_step tx (record { cmd = next.1; ended = ended path; bad = bad path }) line))
      (control_row set st (record { crs = crs; class = class; ready = ready path; begun = begun path; tx = r }))

  pub owns_on : (c b : ℕ) (st : ControlStage) (r : TxReport) (can : Bool) (P : ControlStage × TxCmd → Type 0) → Unclosed r → Owns c b st → P (InTransmit c b, CommitCmd)
      → P (control_row set st (record { crs = crs; class = class; ready = can; begun = true; tx = r }))
  owns_on c b _ _ can P leads commits h = h
  owns_on c b _ _ can P leads owning h = h
  owns_on c b _ _ can P leads pauses h = h
  owns_on c b _ _ can P frames commits h = h
  owns_on c b _ _ can P frames owning h = h
  owns_on c b _ _ can P frames pauses h = h

  -- the first H of a frame that the MAC gives begins
  abbrev pub Mark : Row → TxTurn → ℕ → Type 0
  Mark left turn now =
      (f : Queued) (k p : ℕ) → left.phase ≡ Giving k p false → Heads left.queue f → turn.state.stage ≡ Starting 2 → turn.state.part ≡ 0 → Leaves now f

  pub marks : (earlier : List Piece) (m : ℕ) (before : List Bool) (f : Queued) (i s k p a : ℕ) (q : Queue) (stage : Stage) (past : List Bool) (line : List ℕ) (symbols : List Symbol)
      (now : ℕ) (inp : TxIn) (left : Row) → Heads q f → OpenPiece earlier m before f i stage past symbols → Feeds (nibble_list f.frame) (k + 1) (i + 1) line → length line ≤ 97
      → SendTurn q f k p a false left
      → Mark left (transmit_step (record { stage = stage; part = s; past = past }) inp line) now → i ≡ 1 → s ≡ 3 → Leaves now f
  marks earlier m before f _ s k p a q _ _ line symbols now inp left heads (first e) feeds room turn mark one end = absurd (omega (arith, one))
  marks earlier m before f _ s k p a q _ past line symbols now inp left heads (second e) feeds room turn mark one end = by left turn mark
    where
      by : (left : Row) → SendTurn q f k p a false left → Mark left (transmit_step (record { stage = Starting 1; part = s; past = past }) inp line) now → Leaves now f
      by _ (frame_lasts less) mark = mark f k (p + 1) refl heads (third_begins s past inp line end).0 (third_begins s past inp line end).1
      by _ (frame_gives three more low) mark = mark f (k + 1) 0 refl heads (third_begins s past inp line end).0 (third_begins s past inp line end).1
      by _ (frame_jams three late e) mark = absurd (cc)
      by _ (frame_sends three all e) mark = let count = feeds.count in absurd (omega (arith, count, room, all, (long f heads.frame).0))
  marks earlier m before f _ s k p a q _ _ line symbols now inp left heads (third e) feeds room turn mark one end = absurd (omega (arith, one))
  marks earlier m before f _ s k p a q _ _ line symbols now inp left heads (fourth e) feeds room turn mark one end = absurd (omega (arith, one))
  marks earlier m before f i s k p a q _ past line symbols now inp left heads (later xs count some is among e) feeds room turn mark one end =
      absurd (omega (arith, one, count))

  -- ---- the closer

  -- R goes on, or has ended
  pub good_closer : (c b s : ℕ) (f : Queued) (phase : Phase) (q : Queue) (a : ℕ) (past : List Bool) (met : Bool) (g : Past) (earlier : List Piece) (m : ℕ) (before : List Bool) → Fit q.frames
      → Gone phase q → IsFrame f.frame → s ≤ 3 → m ≤ 72 → g.symbols ≡ pieces_symbols earlier ++ piece_symbols (sent_piece (m + 2) before f.frame true)
      → Marked Leaves g f (count_of f + 1) s → Before set.burst b earlier
      → By (InTransmit c b) phase q Busy a (record { stage = ClosingCloser true; part = s; past = past }) (Transmit true met) [] g (report_by (ClosingCloser true) (s == 3))
  good_closer c b s f phase q a past met g earlier m before fit over frame quarter short spelled mark fits =
      go (s == 3) refl (gone_turns phase q a false met drawn over fit)
    where
      go : (t : Bool) → (s == 3) ≡ t → GoneTurn q a false (row_of phase q a false met drawn)
          → By (InTransmit c b) phase q Busy a (record { stage = ClosingCloser true; part = s; past = past }) (Transmit true met) [] g (report_by (ClosingCloser true) t)
      go false e turn =
          by_part (ClosingCloser true) s past (record { cmd = CommitCmd; ended = true; bad = met }) [] g
          (λ (turn : TxTurn) (h : Past). Comes Leaves set crs class hit (Transmit true met) Busy (is_sending phase) false (InTransmit c b, CommitCmd) (row_of phase q a false met drawn) turn h)
          refl quarter (λ less. lasts less _ turn) (λ end. absurd (grind (arith, nat_tests, e, end)))
        where
          lasts : s < 3 → (left : Row) → GoneTurn q a false left
              → Comes Leaves set crs class hit (Transmit true met) Busy (is_sending phase) false (InTransmit c b, CommitCmd) left
              (record { state = record { stage = ClosingCloser true; part = s + 1; past = past }; driven = quarter_of (record { stage = ClosingCloser true; part = s + 1; past = past }); line = [] }) (on_past g)
          lasts less _ (mac_starts f g) = absurd (cc)
          lasts less _ (mac_stays on) = closes earlier m before on frame (omega (arith, less)) short spelled (marked_lasts Leaves earlier m before f g (count_of f + 1) s mark) fits
      go true e turn =
          cond_both (nat_lt 0 b) _ _ (λ (next : ControlStage × TxCmd).
          (λ (turn : TxTurn). Comes Leaves set crs class hit (Transmit true met) Busy (is_sending phase) true next (row_of phase q a false met drawn) turn (grown g turn.state.stage turn.state.part))
          (transmit_step (record { stage = ClosingCloser true; part = s; past = past }) (record { cmd = next.1; ended = true; bad = met }) []))
          (λ more.
          by_part (ClosingCloser true) s past (record { cmd = CommitCmd; ended = true; bad = met }) [] g
          (λ (turn : TxTurn) (h : Past). Comes Leaves set crs class hit (Transmit true met) Busy (is_sending phase) true (Burst c 128 (b - 1), CommitCmd) (row_of phase q a false met drawn) turn h)
          refl quarter (λ less. absurd (grind (arith, nat_tests, e, less))) (λ end. bursts (grind (arith, nat_tests, more)) _ turn))
          (λ _.
          by_part (ClosingCloser true) s past (record { cmd = NoCmd; ended = true; bad = met }) [] g
          (λ (turn : TxTurn) (h : Past). Comes Leaves set crs class hit (Transmit true met) Busy (is_sending phase) true (Drain c, NoCmd) (row_of phase q a false met drawn) turn h)
          refl quarter (λ less. absurd (grind (arith, nat_tests, e, less)))
          (λ end. away refl (idle_next true false true crs class hit q a false Busy true (is_sending phase) _ turn) refl))
        where
          whole : List Piece
          whole = earlier ++ sent_piece (m + 2) before f.frame true ∷ []

          bursts : 1 ≤ b → (left : Row) → GoneTurn q a false left
              → Comes Leaves set crs class hit (Transmit true met) Busy (is_sending phase) true (Burst c 128 (b - 1), CommitCmd) left
              (record { state = record { stage = Committing; part = 0; past = past }; driven = quarter_of (record { stage = Committing; part = 0; past = past }); line = [] }) (grown g Committing 0)
          bursts some _ (mac_starts f g) = absurd (cc)
          bursts some _ (mac_stays on) =
              let few = fits.few in
              waits (earlier ++ sent_piece (m + 2) before f.frame true ∷ []) 1 40 waits_later (omega arith) (omega arith) refl on
              (record {
                few = omega (arith, few, some, length-append earlier (sent_piece (m + 2) before f.frame true ∷ []));
                in_range = All-append IsPieceInRange earlier (sent_piece (m + 2) before f.frame true ∷ []) fits.in_range
                    (All-cons IsPieceInRange (sent_piece (m + 2) before f.frame true) [] (sent-in_range (m + 2) before f.frame true (omega arith) (omega (arith, short)) frame) (All-nil IsPieceInRange));
              })
              (ap (λ (ss : List Symbol). ss ++ J ∷ []) (spelled ∙ sym (more_pieces earlier (sent_piece (m + 2) before f.frame true))))

  -- K goes on, or has ended
  pub bad_closer : (c b s : ℕ) (phase : Phase) (q : Queue) (a : ℕ) (past : List Bool) (all : Bool) (g : Past) → Fit q.frames → Gone phase q → s ≤ 3
      → By (InTransmit c b) phase q Busy a (record { stage = ClosingCloser false; part = s; past = past }) (Transmit all true) [] g (report_by (ClosingCloser false) (s == 3))
  bad_closer c b s phase q a past all g fit over quarter = go (s == 3) refl (gone_turns phase q a false true drawn over fit)
    where
      go : (t : Bool) → (s == 3) ≡ t → GoneTurn q a false (row_of phase q a false true drawn)
          → By (InTransmit c b) phase q Busy a (record { stage = ClosingCloser false; part = s; past = past }) (Transmit all true) [] g (report_by (ClosingCloser false) t)
      go false e turn =
          by_part (ClosingCloser false) s past (record { cmd = CommitCmd; ended = all; bad = true }) [] g
          (λ (turn : TxTurn) (h : Past). Comes Leaves set crs class hit (Transmit all true) Busy (is_sending phase) false (InTransmit c b, CommitCmd) (row_of phase q a false true drawn) turn h)
          refl quarter (λ less. lasts less _ turn) (λ end. absurd (grind (arith, nat_tests, e, end)))
        where
          lasts : s < 3 → (left : Row) → GoneTurn q a false left
              → Comes Leaves set crs class hit (Transmit all true) Busy (is_sending phase) false (InTransmit c b, CommitCmd) left
              (record { state = record { stage = ClosingCloser false; part = s + 1; past = past }; driven = quarter_of (record { stage = ClosingCloser false; part = s + 1; past = past }); line = [] }) (on_past g)
          lasts less _ (mac_starts f g) = absurd (cc)
          lasts less _ (mac_stays on) = ends_badly closes_so (omega (arith, less)) on
      go true e turn =
          by_part (ClosingCloser false) s past (record { cmd = NoCmd; ended = all; bad = true }) [] g
          (λ (turn : TxTurn) (h : Past). Comes Leaves set crs class hit (Transmit all true) Busy (is_sending phase) true (Drain c, NoCmd) (row_of phase q a false true drawn) turn h)
          refl quarter (λ less. absurd (grind (arith, nat_tests, e, less)))
          (λ end. away refl (idle_next true false true crs class hit q a false Busy true (is_sending phase) _ turn) refl)

  -- T of a piece that something has met
  pub bad_end : (good : Bool) (c b s : ℕ) (phase : Phase) (q : Queue) (a : ℕ) (past : List Bool) (all : Bool) (g : Past) → Fit q.frames → Gone phase q → s ≤ 3
      → By (InTransmit c b) phase q Busy a (record { stage = ClosingEnd good; part = s; past = past }) (Transmit all true) [] g Framing
  bad_end good c b s phase q a past all g fit over quarter = go good _ (gone_turns phase q a false true drawn over fit)
    where
      go : (good : Bool) (left : Row) → GoneTurn q a false left
          → (λ (turn : TxTurn). Comes Leaves set crs class hit (Transmit all true) Busy (is_sending phase) false (InTransmit c b, CommitCmd) left turn (grown g turn.state.stage turn.state.part))
          (transmit_step (record { stage = ClosingEnd good; part = s; past = past }) (record { cmd = CommitCmd; ended = all; bad = true }) [])
      go good _ (mac_starts f g) = absurd (cc)
      go true _ (mac_stays {phase = to} on) =
          by_part (ClosingEnd true) s past (record { cmd = CommitCmd; ended = all; bad = true }) [] g
          (λ (turn : TxTurn) (h : Past). Comes Leaves set crs class hit (Transmit all true) Busy (is_sending phase) false (InTransmit c b, CommitCmd) (row to q a Nothing NoNote) turn h)
          refl quarter (λ less. ends_badly ends_so (omega (arith, less)) on) (λ end. ends_badly closes_so (omega arith) on)
      go false _ (mac_stays {phase = to} on) =
          by_part (ClosingEnd false) s past (record { cmd = CommitCmd; ended = all; bad = true }) [] g
          (λ (turn : TxTurn) (h : Past). Comes Leaves set crs class hit (Transmit all true) Busy (is_sending phase) false (InTransmit c b, CommitCmd) (row to q a Nothing NoNote) turn h)
          refl quarter (λ less. ends_badly ends_so (omega (arith, less)) on) (λ end. ends_badly closes_so (omega arith) on)
