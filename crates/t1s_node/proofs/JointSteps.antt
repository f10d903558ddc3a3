-- One step from every place.
use Rattle.std.proofs.Common.{◌≡◌, ℕ, ◌+◌, ◌*◌, ◌==◌, ◌<◌, ◌≤◌, Bool, true, false, ◌||◌, List, [], refl, sym, subst, arith}
use Rattle.t1s_symbols.specs.declared.Class.{Class}
use Rattle.t1s_ring.specs.Queue.{Queue}
use Rattle.t1s_pcs_tx.specs.declared.TxCmd.TheVariants.{None as NoCmd, Commit as CommitCmd}
use Rattle.t1s_pcs_tx.specs.State.{Stage, Quiet, TxState, ClosingCloser, is_closed}
use Rattle.t1s_pcs_tx.specs.TransmitTable.{TxTurn, transmit_step, report_of}
use Rattle.plca_data.specs.declared.data_path.State.{State}
use Rattle.plca_data.specs.declared.data_path.State.TheVariants.{Silent, Transmit}
use Rattle.plca_data.specs.DataPathTable.{data_path_step, carrier, collision, ready, begun, ended, bad}
use Rattle.t1s_mac.specs.DeferenceTable.{deference_step, may_start}
use Rattle.t1s_mac.specs.declared.deference.Deference.{Deference}
use Rattle.t1s_mac.specs.declared.deference.Deference.TheVariants.{Busy}
use Rattle.t1s_mac.specs.MacTable.{Row, row_of}
use Rattle.t1s_mac.specs.State.{Phase, is_sending}
use Rattle.t1s_node.proofs.NoPiece.{Free, quiet, free_turns, free_not_closed, free_rest}
use Rattle.t1s_node.proofs.HoldSteps.{told_in, hold_steps}
use Rattle.t1s_node.proofs.IdleSteps.{idle_steps, asleep_steps, wake_steps, pause_steps}
use Rattle.t1s_node.proofs.CollideSteps.{collide_steps, jam_steps, delay_steps, pending_steps}
use Rattle.t1s_node.proofs.OpenSteps.{open_steps, owning_turns, before_steps}
use Rattle.t1s_node.proofs.Piece.{piece_turns, piece_not_closed, end_turns, CloserTurn, commit_turns, silent_turns, closer_report}
use Rattle.t1s_node.proofs.PieceSteps.{fed_steps, given_steps, end_steps, close_steps}
use Rattle.t1s_node.proofs.MacTurns.{Fit, frame_there, rest_turns, defer_turns, backoff_turns, send_turns, jam_turns, long}
use Rattle.t1s_node.proofs.JointPlaces.{Place, Asleep, Idles, Apart, away, transmit as transmits, Aligned, even_away, odd_away, even_row, odd_row, row, idles_on, idle_starts, Outcome, Joint, asleep, idles, holds, collides, jams, delays, pends, waits, rests_in, before, fed, given, ends, closes}
use Rattle.t1s_node.proofs.JointTurns.{ApartTurn, still, opens, apart_turns, FreeNext, stays_free}
use Rattle.t1s_node.proofs.View.{View, Away, InTransmit, cmd_of, own_of, Turns, stays_transmit, pauses, transmit_ends}

pub always_hit : (c : Bool) → (c || true) ≡ true
always_hit true = refl
always_hit false = refl

-- with nothing that may begin, control stays outside of its opportunity
stays_apart : (begun closed : Bool) (v v' : View) → Apart v → Turns false begun closed v v' → Apart v'
stays_apart begun closed v v' out turns = go v v' (apart_turns false begun closed v v' out turns)
  where
    go : (v v' : View) → ApartTurn false v v' → Apart v'
    go v v' (still out') = out'
    go _ _ (opens e) = absurd (cc)

pub apart_of : (o r : ℕ) (v : View) → Aligned o v r → Apart v
apart_of o _ _ even_away = away
apart_of o r _ (odd_away h) = away
apart_of o r _ (even_row m low h) = row low
apart_of o r _ (odd_row m e low few h less) = row low

module _ (crs : Bool) (class : Class) (past : List Bool) (drawn : ℕ) where
  abbrev tx_before : Stage → ℕ → TxState
  tx_before stage part = record { stage = stage; part = part; past = past }

  abbrev closed_by : Stage → ℕ → Bool
  closed_by stage part = is_closed (report_of (tx_before stage part))

  abbrev turn_by : View → Stage → ℕ → State → List ℕ → TxTurn
  turn_by v' stage part path line = transmit_step (tx_before stage part) (record { cmd = cmd_of v'; ended = ended path; bad = bad path }) line

  abbrev row_by : Phase → Queue → Deference → ℕ → State → Row
  row_by phase q d a path = row_of phase q a (may_start d (carrier path crs)) (collision path) drawn

  -- what a step comes to, where the report of the transmitter was Closed or not
  abbrev pub StepsTo : Bool → Place → View → Phase → Queue → Deference → ℕ → Stage → ℕ → State → List ℕ → Type 0
  StepsTo closed place v' phase q d a stage part path line =
      Outcome place line v' (row_by phase q d a path) (deference_step d (carrier path crs) (is_sending phase) (row_by phase q d a path).starts)
      (turn_by v' stage part path line).state.stage (turn_by v' stage part path line).state.part (turn_by v' stage part path line).line
      (data_path_step path (told_in (own_of v') closed crs class (row_by phase q d a path).out) (turn_by v' stage part path line).line)

  -- with an empty line, a free transmitter stays free
  empty_free : (v' : View) (stage : Stage) (part r : ℕ) (path : State) → Free stage part r
      → FreeNext [] (turn_by v' stage part path []).state.stage (turn_by v' stage part path []).state.part (turn_by v' stage part path []).line
  empty_free v' stage part r path free =
      stays_free r [] (cmd_of v') _ _ _ (λ e. refl) (free_turns stage part r past (cmd_of v') (ended path) (bad path) [] free)

  pub joint_steps : (place : Place) (v v' : View) (phase : Phase) (q : Queue) (d : Deference) (a : ℕ) (stage : Stage) (part : ℕ) (path : State) (line : List ℕ)
      → Joint place v phase q d a stage part path line → Fit q.frames → (a ≡ 0 → drawn < 2) → Turns (ready path) (begun path) (closed_by stage part) v v'
      → StepsTo (closed_by stage part) place v' phase q d a stage part path line
  joint_steps _ _ v' phase q _ _ _ part _ _ (asleep resting) fit low turns =
      wake_steps (own_of v') false crs class q v' _ _ _ _ (stays_apart false false Away v' away turns)
      (rest_turns phase q 0 false false drawn resting fit) (empty_free v' Quiet part 0 Silent quiet)
  joint_steps _ v v' phase q d _ stage part path _ (idles {r = r} out resting free) fit low turns =
      idle_steps Idles (λ f. idle_starts) idles_on (own_of v') (closed_by stage part) crs class q v' d crs (is_sending phase)
      (stays_apart false (closed_by stage part) v v' out turns) (may_start d crs) _ _ _ _
      (rest_turns phase q 0 (may_start d crs) false drawn resting fit) (empty_free v' stage part r path free)
  joint_steps _ v v' _ q _ _ stage part path line (holds {f = f} {k = k} {p = p} {r = r} heads early quarter free al feeds) fit low turns =
      hold_steps (closed_by stage part) crs class f k p q heads early quarter v v' _ r line _ _ _ (free_rest stage part r free)
      (apart_of (4 * k + p) r v al) al feeds turns (free_turns stage part r past (cmd_of v') false false line free)
      (send_turns q f k p 0 false heads quarter (omega (arith, (long f heads.frame).0, early)))
  joint_steps _ v v' _ q _ _ stage part path _ (collides {f = f} {k = k} {p = p} {c = c} {r = r} out heads within quarter free) fit low turns =
      collide_steps (own_of v') (closed_by stage part) crs class q v' (stays_apart false (closed_by stage part) v v' out turns) f k p (c || true) _ _ _ _
      heads within quarter (always_hit c) (send_turns q f k p 0 (c || true) heads quarter within) (empty_free v' stage part r path free)
  joint_steps _ v v' _ q _ _ stage part path _ (jams {f = f} {j = j} {p = p} {r = r} out heads nibble quarter free) fit low turns =
      jam_steps (own_of v') (closed_by stage part) crs class q v' (stays_apart false (closed_by stage part) v v' out turns) f j p drawn _ _ _ _
      heads nibble quarter (low refl) (jam_turns q j p drawn quarter nibble) (empty_free v' stage part r path free)
  joint_steps _ v v' phase q _ _ stage part path _ (delays {f = f} {n = n} {r = r} out heads least back free) fit low turns =
      delay_steps (own_of v') (closed_by stage part) crs class q v' (stays_apart false (closed_by stage part) v v' out turns) f n _ _ _ _
      heads least (backoff_turns n phase q 1 false drawn back) (empty_free v' stage part r path free)
  joint_steps _ v v' phase q _ _ stage part path _ (pends {f = f} {r = r} out heads back free) fit low turns =
      pending_steps (closed_by stage part) crs class f q v v' _ _ _ _ heads (apart_turns true false (closed_by stage part) v v' out turns)
      (backoff_turns 0 phase q 1 false drawn back) (empty_free v' stage part r path free)
  joint_steps place v v' phase q d a stage part path line (waits {f = f} {n = n} {r = r} opening heads free) fit low turns =
      subst (λ closed. Turns false false closed v v' → StepsTo closed place v' phase q d a stage part path line) (sym (free_not_closed stage part r past free))
      (λ turns'. open_steps crs class f q n v' d _ _ _ _ opening heads turns' (defer_turns q 1 (may_start d false) (frame_there q f heads) fit) (empty_free v' stage part r path free))
      turns
  joint_steps place v v' phase q d a stage part path line (rests_in {n = n} {r = r} resting free) fit low turns =
      subst (λ closed. Turns false false closed v v' → StepsTo closed place v' phase q d a stage part path line) (sym (free_not_closed stage part r past free))
      (λ turns'. pause_steps crs class q n v' d (is_sending phase) (may_start d false) _ _ _ _ turns' (rest_turns phase q 0 (may_start d false) false drawn resting fit) (empty_free v' stage part r path free))
      turns
  joint_steps place v v' phase q d a stage part path line (before {f = f} {k = k} {p = p} {r = r} own heads tries quarter near free feeds) fit low turns =
      let still_open : closed_by stage part ≡ false = free_not_closed stage part r past free in
      subst (λ (w : View). StepsTo (closed_by stage part) place w phase q d a stage part path line) (sym (owning_turns false (closed_by stage part) v v' still_open own turns))
      (subst (λ closed. StepsTo closed place InTransmit phase q d a stage part path line) (sym still_open)
      (before_steps crs class f k p r a q heads tries quarter near _ line _ _ _ feeds
      (send_turns q f k p a false heads quarter (omega (arith, (long f heads.frame).0, near)))
      (free_turns stage part r past CommitCmd false false line free)))
  joint_steps place v v' phase q d a stage part path line (fed {f = f} {i = i} {s = s} {k = k} {p = p} {d = n} own heads tries quarter ahead least most tx feeds) fit low turns =
      let still_open : closed_by stage s ≡ false = piece_not_closed i s stage past tx in
      subst (λ (w : View). StepsTo (closed_by stage part) place w phase q d a stage part path line) (sym (owning_turns false (closed_by stage part) v v' still_open own turns))
      (subst (λ closed. StepsTo closed place InTransmit phase q d a stage part path line) (sym still_open)
      (fed_steps crs class f i s k p a n q heads tries quarter ahead least most _ line false _ _ _ (omega (arith, feeds.within)) feeds
      (send_turns q f k p a false heads quarter (omega (arith, feeds.within)))
      (piece_turns i s stage past CommitCmd false false line tx (λ end early. omega (arith, feeds.count, ahead, least, end, quarter)))))
  joint_steps place v v' phase q d a stage part path line (given {f = f} {i = i} {s = s} resting tx feeds late past_start) fit low turns =
      let still_open : closed_by stage part ≡ false = piece_not_closed i s stage past tx in
      subst (λ (w : View). StepsTo (closed_by stage part) place w phase q d a stage part path line) (sym (owning_turns false (closed_by stage part) InTransmit v' still_open transmits turns))
      (subst (λ closed. StepsTo closed place InTransmit phase q d a stage part path line) (sym still_open)
      (given_steps crs class f i s q _ line _ _ _ feeds late past_start (rest_turns phase q 0 false false drawn resting fit)
      (piece_turns i s stage past CommitCmd true false line tx (λ end early. absurd (omega (arith, early, past_start))))))
  joint_steps place v v' phase q d a stage part path line (ends {f = f} {s = s} resting few) fit low turns =
      subst (λ (w : View). StepsTo false place w phase q d a stage part path line) (sym (owning_turns false false InTransmit v' refl transmits turns))
      (end_steps crs class f s q _ _ _ _ few (rest_turns phase q 0 false false drawn resting fit) (end_turns s past CommitCmd true [] few))
  joint_steps place v v' phase q d a stage part path line (closes {f = f} {s = s} resting few) fit low turns =
      subst (λ closed. Turns false true closed InTransmit v' → StepsTo closed place v' phase q d a stage part path line) (sym (closer_report s past))
      (λ turns'. close_steps crs class f s q v' _ _ _ _ few (rest_turns phase q 0 false false drawn resting fit) turns' (close_turns s v' few turns'))
      turns
    where
      close_turns : (s : ℕ) (v' : View) → s ≤ 3 → Turns false true (s == 3) InTransmit v'
          → (λ (turn : TxTurn). CloserTurn s (cmd_of v') turn.state.stage turn.state.part turn.line) (turn_by v' (ClosingCloser true) s (Transmit true false) [])
      close_turns s _ few (stays_transmit e) = commit_turns s past true false few
      close_turns s _ few (pauses e) = commit_turns s past true false few
      close_turns s _ few (transmit_ends e) = silent_turns s past true false few

  -- before the node takes part in the cycle
  pub asleep_on : (v v' : View) (phase : Phase) (q : Queue) (d : Deference) (a : ℕ) (stage : Stage) (part : ℕ) (path : State) (line : List ℕ)
      → Joint Asleep v phase q d a stage part path line → Fit q.frames → v' ≡ Away
      → (out : Outcome Asleep line v' (row_by phase q d a path) (deference_step d (carrier path crs) (is_sending phase) (row_by phase q d a path).starts)
      (turn_by v' stage part path line).state.stage (turn_by v' stage part path line).state.part (turn_by v' stage part path line).line
      (data_path_step path (record { active = false; own = own_of v'; closed = closed_by stage part; crs = crs; class = class; hit = false; mac = (row_by phase q d a path).out })
      (turn_by v' stage part path line).line))
      × (out.to ≡ Asleep)
  asleep_on _ v' phase q _ _ _ part _ _ (asleep resting) fit e =
      subst (λ (w : View). (out : Outcome Asleep [] w (row_by phase q Busy 0 Silent) (deference_step Busy true (is_sending phase) (row_by phase q Busy 0 Silent).starts)
      (turn_by w Quiet part Silent []).state.stage (turn_by w Quiet part Silent []).state.part (turn_by w Quiet part Silent []).line
      (data_path_step Silent (record { active = false; own = own_of w; closed = false; crs = crs; class = class; hit = false; mac = (row_by phase q Busy 0 Silent).out })
      (turn_by w Quiet part Silent []).line)) × (out.to ≡ Asleep)) (sym e)
      (asleep_steps false false crs class q _ _ _ _ (free_turns Quiet part 0 past NoCmd false false [] quiet)
      (rest_turns phase q 0 false false drawn resting fit))
