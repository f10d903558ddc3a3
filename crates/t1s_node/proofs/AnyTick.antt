-- One tick of the parts of a node, in any run, and an offer to it.
use Rattle.std.proofs.Common.{ℕ, ◌==◌, Bool, true, false, suc, List, [], ◌∷◌, subst, arith}
use Rattle.t1s_symbols.specs.declared.Class.{Class}
use Rattle.t1s_grammar.specs.Burst.{Piece}
use Rattle.t1s_ring.specs.Queue.{Queue, with_last}
use Rattle.t1s_ring.specs.declared.queued.Queued.{Queued}
use Rattle.t1s_pcs_tx.specs.declared.TxCmd.TheVariants.{Commit as CommitCmd}
use Rattle.t1s_pcs_tx.specs.State.{Stage, TxState, Committing, ClosingEnd}
use Rattle.t1s_pcs_tx.specs.TransmitTable.{TxTurn, transmit_step}
use Rattle.plca_control.specs.declared.ControlSet.{ControlSet}
use Rattle.plca_control.specs.declared.State.{State as ControlStage}
use Rattle.plca_control.specs.declared.State.TheVariants.{Transmit as InTransmit}
use Rattle.plca_control.specs.ControlTable.{control_row}
use Rattle.plca_data.specs.declared.data_path.State.{State}
use Rattle.plca_data.specs.declared.data_path.State.TheVariants.{Transmit}
use Rattle.plca_data.specs.DataPathTable.{carrier, collision, ended, bad}
use Rattle.t1s_mac.specs.DeferenceTable.{may_start}
use Rattle.t1s_mac.specs.declared.deference.Deference.{Deference}
use Rattle.t1s_mac.specs.declared.deference.Deference.TheVariants.{Busy}
use Rattle.t1s_mac.specs.MacTable.{Row, row_of}
use Rattle.t1s_mac.specs.State.{Phase, is_sending, Sending as Giving}
use Rattle.t1s_node.proofs.CoreSteps.{heads_offered, some_more}
use Rattle.t1s_node.proofs.MacTurns.{Fit, send_turns, long}
use Rattle.t1s_node.proofs.AnyMac.{Gone, rests, defers, waits as backs_off, GoneTurn, starts as mac_starts, stays as mac_stays, gone_turns, gives_turns, Gives, sends as gives_frame, jams as gives_jam}
use Rattle.t1s_node.proofs.AnyControl.{Owns, sends as owning}
use Rattle.t1s_node.proofs.AnyPlaces.{Past, grown, AtRest, silent, idle, delays, pends, holds, collides, InPiece, ends as ends_so, closes as closes_so, Works, gone, gives, Stands, away, in_row, waits, opens, fed, given, ends, closes, spoils, spoiled, ends_badly}
use Rattle.t1s_node.proofs.AnyOwn.{fed_steps, opens_steps, spoils_steps, is_open}
use Rattle.t1s_node.proofs.AnyEnds.{given_steps, ends_steps, spoils_over, spoiled_over, spoiled_gives}
use Rattle.t1s_node.proofs.AnySteps.{Comes, Tick, control_is, away_steps, row_steps, timer_steps}
use Rattle.t1s_node.proofs.AnyTicks.{By, Mark, leads, frames, framing, gives_low, owns_on, marks, good_closer, bad_closer, bad_end}

module _ (Leaves : ℕ → Queued → Type 0) (set : ControlSet) (crs : Bool) (class : Class) (hit : Bool) (drawn : ℕ) where
  abbrev tx_of : Stage → ℕ → List Bool → TxState
  tx_of stage part past = record { stage = stage; part = part; past = past }

  -- what the transmitter may begin in the tick is marked
  abbrev pub Marks : ControlStage → Phase → Queue → Deference → ℕ → Stage → ℕ → List Bool → State → List ℕ → ℕ → Type 0
  Marks st phase q d a stage part past path line now =
      Mark Leaves set crs class hit drawn (row_of phase q a (may_start d (carrier path crs)) (collision path) drawn)
      (transmit_step (tx_of stage part past)
      (record { cmd = (control_row set st (control_is Leaves set crs class hit path (tx_of stage part past))).1; ended = ended path; bad = bad path }) line) now

  -- a piece is open: control is in Transmit from then on
  in_piece : (c b : ℕ) (st : ControlStage) (phase : Phase) (q : Queue) (a : ℕ) (stage : Stage) (s : ℕ) (past : List Bool) (e bad : Bool) (line : List ℕ) (g : Past)
      → InPiece stage → Owns c b st
      → (λ (turn : TxTurn). Comes Leaves set crs class hit (Transmit e bad) Busy (is_sending phase) false
      (InTransmit c b, CommitCmd) (row_of phase q a false bad drawn) turn (grown g turn.state.stage turn.state.part))
      (transmit_step (tx_of stage s past) (record { cmd = CommitCmd; ended = e; bad = bad }) line)
      → Tick Leaves set crs class hit drawn st phase q Busy a (tx_of stage s past) (Transmit e bad) line g
  in_piece c b st phase q a stage s past e bad line g piece own h =
      subst (By Leaves set crs class hit drawn st phase q Busy a (tx_of stage s past) (Transmit e bad) line g) (framing stage (s == 3) piece)
      (owns_on Leaves set crs class hit drawn c b st _ false
      (λ next. (λ (turn : TxTurn). Comes Leaves set crs class hit (Transmit e bad) Busy (is_sending phase) false next (row_of phase q a false bad drawn) turn
      (grown g turn.state.stage turn.state.part))
      (transmit_step (tx_of stage s past) (record { cmd = next.1; ended = e; bad = bad }) line))
      frames own h)

  opens_tick : (c b p part a m : ℕ) (f : Queued) (earlier : List Piece) (st : ControlStage) (q : Queue) (past : List Bool) (line : List ℕ) (g : Past)
      → Owns c b st
      → (λ (turn : TxTurn). Comes Leaves set crs class hit (Transmit false false) Busy true false
      (InTransmit c b, CommitCmd) (row_of (Giving 0 p false) q a false false drawn) turn (grown g turn.state.stage turn.state.part))
      (transmit_step (tx_of Committing part past) (record { cmd = CommitCmd; ended = false; bad = false }) line)
      → Tick Leaves set crs class hit drawn st (Giving 0 p false) q Busy a (tx_of Committing part past) (Transmit false false) line g
  opens_tick c b p part a m f earlier st q past line g own h =
      owns_on Leaves set crs class hit drawn c b st _ false
      (λ next. (λ (turn : TxTurn). Comes Leaves set crs class hit (Transmit false false) Busy true false next (row_of (Giving 0 p false) q a false false drawn) turn
      (grown g turn.state.stage turn.state.part))
      (transmit_step (tx_of Committing part past) (record { cmd = next.1; ended = false; bad = false }) line))
      leads own h

  pub tick : (st : ControlStage) (phase : Phase) (q : Queue) (d : Deference) (a : ℕ) (stage : Stage) (part : ℕ) (past : List Bool) (path : State) (line : List ℕ) (g : Past)
      → Stands set.burst Leaves st phase q d stage part past path line g → Fit q.frames → Marks st phase q d a stage part past path line (suc g.now)
      → Tick Leaves set crs class hit drawn st phase q d a (tx_of stage part past) path line g
  tick st phase q d a _ part past path line g (away e h none) fit mark = away_steps Leaves set crs class hit drawn st path phase q d a part past line g fit e h none
  tick _ phase q d a _ part past path line g (in_row {n = n} x is some low h) fit mark =
      row_steps Leaves set crs class hit drawn n x part a path phase q d past line g fit is some low h
  tick st phase q d a _ part past _ _ g (waits {c = c} {n = n} {b = b} earlier m x timer some low is over fits spelled) fit mark =
      timer_steps Leaves set crs class hit drawn c b n part m x a earlier st phase q d past g fit timer some low is over fits spelled
  tick st _ q _ a _ part past _ line g (opens {c = c} {b = b} {p = p} {f = f} earlier m own heads near low short fits spelled feeds) fit mark =
      opens_tick c b p part a m f earlier st q past line g own
      (opens_steps set.burst Leaves c b crs class true earlier m f p part a q hit _ past line g heads near low short fits spelled feeds
      (send_turns q f 0 p a false heads (omega (arith, near, low)) (omega (arith, (long f heads.frame).0))))
  tick st _ q _ a stage part past _ line g (fed {c = c} {b = b} {i = i} {s = s} {k = k} {p = p} {f = f} earlier m before own heads ahead low quarter within short piece marked fits feeds room) fit mark =
      let turn = send_turns q f k p a false heads low within in
      in_piece c b st (Giving k p false) q a stage s past false false line g (is_open earlier m before f i stage past g.symbols piece) own
      (fed_steps set.burst Leaves c b crs class true earlier m before f k p a q heads low within short fits hit _ i s stage past line g
      (record { cmd = CommitCmd; ended = false; bad = false }) ahead quarter piece marked feeds room
      (marks Leaves set crs class hit drawn earlier m before f i s k p a q stage past line g.symbols _ _ _ heads piece feeds room turn mark) turn)
  tick _ phase q _ a stage part past _ line g (given {c = c} {b = b} {i = i} {s = s} {f = f} earlier m before over frame quarter short piece marked late fits feeds) fit mark =
      in_piece c b (InTransmit c b) phase q a stage s past true false line g (is_open earlier m before f i stage past g.symbols piece) owning
      (go _ (gone_turns phase q a false false drawn over fit))
    where
      go : (left : Row) → GoneTurn q a false left
          → (λ (turn : TxTurn). Comes Leaves set crs class hit (Transmit true false) Busy (is_sending phase) false
          (InTransmit c b, CommitCmd) left turn (grown g turn.state.stage turn.state.part))
          (transmit_step (tx_of stage s past) (record { cmd = CommitCmd; ended = true; bad = false }) line)
      go _ (mac_starts e heads) = absurd (cc)
      go _ (mac_stays {phase = to} on) =
          given_steps set.burst Leaves c b crs class (is_sending phase) earlier m before f frame short fits to q a on hit CommitCmd i s stage past line g quarter piece marked late feeds
  tick _ phase q _ a _ part past _ _ g (ends {c = c} {b = b} {s = s} {f = f} earlier m before over frame quarter short spelled marked fits) fit mark =
      go _ (gone_turns phase q a false false drawn over fit)
    where
      go : (left : Row) → GoneTurn q a false left
          → (λ (turn : TxTurn). Comes Leaves set crs class hit (Transmit true false) Busy (is_sending phase) false
          (InTransmit c b, CommitCmd) left turn (grown g turn.state.stage turn.state.part))
          (transmit_step (tx_of (ClosingEnd true) s past) (record { cmd = CommitCmd; ended = true; bad = false }) [])
      go _ (mac_starts e heads) = absurd (cc)
      go _ (mac_stays {phase = to} on) =
          ends_steps set.burst Leaves c b crs class (is_sending phase) earlier m before f frame short fits to q a on hit CommitCmd s past g quarter spelled marked
  tick _ phase q _ a _ part past _ _ g (closes {c = c} {b = b} {s = s} {f = f} {bad = met} earlier m before over frame quarter short spelled marked fits) fit mark =
      good_closer Leaves set crs class hit drawn c b s f phase q a past met g earlier m before fit over frame quarter short spelled marked fits
  tick _ phase q _ a _ part past _ line g (spoils {c = c} {b = b} {ended = all} low (gone over)) fit mark = go _ (gone_turns phase q a false true drawn over fit)
    where
      go : (left : Row) → GoneTurn q a false left
          → (λ (turn : TxTurn). Comes Leaves set crs class hit (Transmit all true) Busy (is_sending phase) false
          (InTransmit c b, CommitCmd) left turn (grown g turn.state.stage turn.state.part))
          (transmit_step (tx_of Committing part past) (record { cmd = CommitCmd; ended = all; bad = true }) line)
      go _ (mac_starts e heads) = absurd (cc)
      go _ (mac_stays {phase = to} on) = spoils_over set.burst Leaves c b crs class (is_sending phase) to q a on all hit part past line g low
  tick _ phase q _ a _ part past _ line g (spoils {c = c} {b = b} {ended = all} low (gives {p = p} going some)) fit mark =
      spoils_steps set.burst Leaves c b crs class (is_sending phase) all hit part p phase q _ past line g low (gives_turns p phase q a false true drawn going)
  tick _ phase q _ a stage part past _ line g (spoiled {c = c} {b = b} {s = s} {ended = all} piece quarter (gone over)) fit mark =
      in_piece c b (InTransmit c b) phase q a stage s past all true line g piece owning
      (go _ (gone_turns phase q a false true drawn over fit))
    where
      go : (left : Row) → GoneTurn q a false left
          → (λ (turn : TxTurn). Comes Leaves set crs class hit (Transmit all true) Busy (is_sending phase) false
          (InTransmit c b, CommitCmd) left turn (grown g turn.state.stage turn.state.part))
          (transmit_step (tx_of stage s past) (record { cmd = CommitCmd; ended = all; bad = true }) line)
      go _ (mac_starts e heads) = absurd (cc)
      go _ (mac_stays {phase = to} on) = spoiled_over set.burst Leaves c b crs class (is_sending phase) to q a on all hit CommitCmd stage s past line g quarter piece
  tick _ phase q _ a stage part past _ line g (spoiled {c = c} {b = b} {s = s} {ended = all} piece quarter (gives {p = p} going some)) fit mark =
      in_piece c b (InTransmit c b) phase q a stage s past all true line g piece owning
      (spoiled_gives set.burst Leaves c b crs class (is_sending phase) p q _ (gives_low p phase q going) (gives_turns p phase q a false true drawn going)
      all hit CommitCmd stage s past line g quarter piece some)
  tick _ phase q _ a _ part past _ _ g (ends_badly {c = c} {b = b} {s = s} {ended = all} (ends_so {good = good}) quarter over) fit mark =
      bad_end Leaves set crs class hit drawn good c b s phase q a past all g fit over quarter
  tick _ phase q _ a _ part past _ _ g (ends_badly {c = c} {b = b} {s = s} {ended = all} closes_so quarter over) fit mark =
      bad_closer Leaves set crs class hit drawn c b s phase q a past all g fit over quarter

-- ---- an offer

gone_offered : (phase : Phase) (q : Queue) (x : Queued) → Gone phase q → Gone phase (with_last q x)
gone_offered _ q x rests = rests
gone_offered _ q x (defers some) = defers (some_more q.frames x)
gone_offered _ q x (backs_off some) = backs_off (some_more q.frames x)

gives_offered : (p : ℕ) (phase : Phase) (q : Queue) (x : Queued) → Gives p phase q → Gives p phase (with_last q x)
gives_offered p _ q x (gives_frame low some) = gives_frame low (some_more q.frames x)
gives_offered p _ q x (gives_jam low some) = gives_jam low (some_more q.frames x)

rest_offered : (path : State) (phase : Phase) (q : Queue) (d : Deference) (line : List ℕ) (x : Queued) → AtRest path phase q d line → AtRest path phase (with_last q x) d line
rest_offered _ phase q d _ x (silent over) = silent (gone_offered phase q x over)
rest_offered _ phase q d _ x (idle over) = idle (gone_offered phase q x over)
rest_offered _ phase q _ _ x (delays over) = delays (gone_offered phase q x over)
rest_offered _ phase q _ _ x (pends over) = pends (gone_offered phase q x over)
rest_offered _ _ q _ line x (holds {f = f} heads early low feeds) = holds (heads_offered q x f heads) early low feeds
rest_offered _ phase q _ _ x (collides {p = p} over) = collides (gives_offered p phase q x over)

works_offered : (s : ℕ) (phase : Phase) (q : Queue) (line : List ℕ) (x : Queued) → Works s phase q line → Works s phase (with_last q x) line
works_offered s phase q line x (gone over) = gone (gone_offered phase q x over)
works_offered s phase q line x (gives {p = p} going some) = gives (gives_offered p phase q x going) some

module _ (burst : ℕ) (Leaves : ℕ → Queued → Type 0) where
  pub offered : (st : ControlStage) (phase : Phase) (q : Queue) (d : Deference) (stage : Stage) (part : ℕ) (past : List Bool) (path : State) (line : List ℕ) (g : Past) (x : Queued)
      → Stands burst Leaves st phase q d stage part past path line g → Stands burst Leaves st phase (with_last q x) d stage part past path line g
  offered st phase q d _ part past path line g x (away e h none) = away e (rest_offered path phase q d line x h) none
  offered _ phase q d _ part past path line g x (in_row y is some low h) = in_row y is some low (rest_offered path phase q d line x h)
  offered st phase q d _ part past _ _ g x (waits earlier m y timer some low is over fits spelled) = waits earlier m y timer some low is (gone_offered phase q x over) fits spelled
  offered st _ q _ _ part past _ line g x (opens {f = f} earlier m own heads near low short fits spelled feeds) =
      opens earlier m own (heads_offered q x f heads) near low short fits spelled feeds
  offered st _ q _ stage part past _ line g x (fed {f = f} earlier m before own heads ahead low quarter within short piece marked fits feeds room) =
      fed earlier m before own (heads_offered q x f heads) ahead low quarter within short piece marked fits feeds room
  offered _ phase q _ stage part past _ line g x (given earlier m before over frame quarter short piece marked late fits feeds) =
      given earlier m before (gone_offered phase q x over) frame quarter short piece marked late fits feeds
  offered _ phase q _ _ part past _ _ g x (ends earlier m before over frame quarter short spelled marked fits) =
      ends earlier m before (gone_offered phase q x over) frame quarter short spelled marked fits
  offered _ phase q _ _ part past _ _ g x (closes earlier m before over frame quarter short spelled marked fits) =
      closes earlier m before (gone_offered phase q x over) frame quarter short spelled marked fits
  offered _ phase q _ _ part past _ line g x (spoils low works) = spoils low (works_offered 4 phase q (0 ∷ line) x works)
  offered _ phase q _ stage part past _ line g x (spoiled {s = s} piece quarter works) = spoiled piece quarter (works_offered s phase q line x works)
  offered _ phase q _ stage part past _ _ g x (ends_badly so quarter over) = ends_badly so quarter (gone_offered phase q x over)
