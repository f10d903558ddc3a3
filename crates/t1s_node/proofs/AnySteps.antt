-- One tick of the parts of a node, in any run.
use Rattle.std.proofs.Common.{◌≡◌, ℕ, ◌+◌, ◌-◌, ◌*◌, ◌==◌, ◌<◌, ◌≤◌, Bool, true, false, List, [], ◌∷◌, ◌++◌, length, replicate, slice_index, refl, sym, ◌∙◌, ap, subst, arith, length-append}
use Rattle.std.proofs.lemmas.Bool.{cond_both}
use Rattle.std.proofs.lemmas.Bool.Decides.{nat_tests}
use Rattle.t1s_symbols.specs.declared.Class.{Class}
use Rattle.t1s_symbols.specs.declared.Symbol.{Symbol}
use Rattle.t1s_symbols.specs.declared.Symbol.TheVariants.{J}
use Rattle.t1s_frame.specs.Frame.{nibble_list}
use Rattle.t1s_grammar.specs.Burst.{Piece, pieces_symbols}
use Rattle.t1s_ring.specs.Queue.{Queue}
use Rattle.t1s_ring.specs.declared.queued.Queued.{Queued}
use Rattle.t1s_pcs_tx.specs.declared.TxCmd.{TxCmd}
use Rattle.t1s_pcs_tx.specs.declared.TxCmd.TheVariants.{None as NoCmd, Beacon as BeaconCmd, Commit as CommitCmd}
use Rattle.t1s_pcs_tx.specs.State.{Stage, TxState, Quiet, Beaconing, Committing, Starting, is_closed}
use Rattle.t1s_pcs_tx.specs.TransmitTable.{TxTurn, transmit_step, report_of}
use Rattle.plca_control.specs.declared.ControlSet.{ControlSet}
use Rattle.plca_control.specs.declared.ControlIn.{ControlIn}
use Rattle.plca_control.specs.declared.State.{State as ControlStage}
use Rattle.plca_control.specs.declared.State.TheVariants.{Beacon, Syncing, Commit, Burst, Drain}
use Rattle.plca_control.specs.ControlTable.{control_row, is_active, is_own}
use Rattle.plca_data.specs.declared.data_path.State.{State}
use Rattle.plca_data.specs.declared.data_path.State.TheVariants.{Hold, Pending, WaitMac, Transmit}
use Rattle.plca_data.specs.DataPathTable.{data_path_step, carrier, collision, ready, begun, ended, bad}
use Rattle.t1s_mac.specs.DeferenceTable.{deference_step, may_start}
use Rattle.t1s_mac.specs.declared.deference.Deference.{Deference}
use Rattle.t1s_mac.specs.declared.deference.Deference.TheVariants.{Busy}
use Rattle.t1s_mac.specs.MacTable.{Row, row_of}
use Rattle.t1s_mac.specs.State.{Phase, is_sending, Sending as Giving}
use Rattle.t1s_node.proofs.LineFeed.{Feeds, first_given, one_given, one_popped, takes}
use Rattle.t1s_node.proofs.MacTurns.{Heads, Fit, SendTurn, lasts as frame_lasts, jams as frame_jams, gives as frame_gives, sends as frame_sends, send_turns, started_busy, count_of, long}
use Rattle.t1s_node.proofs.AnyMac.{Gone, GoneTurn, starts as mac_starts, stays as mac_stays, gone_turns}
use Rattle.t1s_node.proofs.AnyControl.{is_away, away_not_own, Owns, commits, pauses, Waits, first as waits_first, later as waits_later, AwayTurn, stays, row, owns, away_turns}
use Rattle.t1s_node.proofs.AnyPlaces.{Past, grown, AtRest, silent, idle, delays, pends, holds, collides, Before, OpenPiece, first, Stands, away, in_row, waits, opens, fed}
use Rattle.t1s_node.proofs.AnyRest.{told, idle_next, rest_next}
use Rattle.t1s_node.proofs.AnyTx.{on_past, by_part, one_more_j}

module _ (Leaves : ℕ → Queued → Type 0) (set : ControlSet) (crs : Bool) (class : Class) (hit : Bool) where
  abbrev Now : ControlStage → Phase → Queue → Deference → Stage → ℕ → List Bool → State → List ℕ → Past → Type 0
  Now = Stands set.burst Leaves

  -- what the tick comes to, by control's turn, the MAC's row and the transmitter's turn
  abbrev pub Comes : State → Deference → Bool → Bool → ControlStage × TxCmd → Row → TxTurn → Past → Type 0
  Comes path d sending closed next left turn g =
      Now next.0 left.phase left.queue (deference_step d (carrier path crs) sending left.starts) turn.state.stage turn.state.part turn.state.past
      (data_path_step path (told (is_active next.0) (is_own next.0) closed crs class hit left.out) turn.line).0
      (data_path_step path (told (is_active next.0) (is_own next.0) closed crs class hit left.out) turn.line).1 g

  abbrev pub Turns : State → Deference → Bool → TxState → List ℕ → Past → ControlStage × TxCmd → Row → Type 0
  Turns path d sending tx line g next left =
      (λ (turn : TxTurn). Comes path d sending (is_closed (report_of tx)) next left turn (grown g turn.state.stage turn.state.part))
      (transmit_step tx (record { cmd = next.1; ended = ended path; bad = bad path }) line)

  abbrev pub control_is : State → TxState → ControlIn
  control_is path tx = record { crs = crs; class = class; ready = ready path; begun = begun path; tx = report_of tx }

  -- ---- away

  -- the own opportunity begins while a frame is held
  hold_opens : (c : ℕ) (f : Queued) (k p a : ℕ) (q : Queue) (left : Row) (part : ℕ) (past : List Bool) (line : List ℕ) (g : Past) → Heads q f → k ≤ 96 → p ≤ 3
      → Feeds (nibble_list f.frame) (k + 1) 0 line → g.symbols ≡ [] → SendTurn q f k p a false left
      → Turns Hold Busy true (record { stage = Quiet; part = part; past = past }) line g (Commit c 288 set.burst, CommitCmd) left
  unfolding transmit_step
  hold_opens c f k p a q left part past [] g heads early low feeds none turn = let count = feeds.count in absurd (omega (arith, count))
  hold_opens c f k p a q left part past (x ∷ rest) g heads early low feeds none turn = go left turn
    where
      less : Feeds (nibble_list f.frame) (k + 1) (0 + 1) rest
      less = one_popped (nibble_list f.frame) (k + 1) 0 x rest feeds

      fits : Before set.burst set.burst []
      fits = record { few = omega arith; in_range = λ n d lt. absurd (omega (arith, lt)) }

      begun_piece : OpenPiece [] 0 past f 0 (Starting 0) past (g.symbols ++ J ∷ [])
      begun_piece = first (ap (λ (ss : List Symbol). ss ++ J ∷ []) none)

      go : (left : Row) → SendTurn q f k p a false left
          → Now (Commit c 288 set.burst) left.phase left.queue (deference_step Busy false true left.starts) (Starting 0) 0 past
          (data_path_step Hold (told true true false crs class hit left.out) rest).0
          (data_path_step Hold (told true true false crs class hit left.out) rest).1 (grown g (Starting 0) 0)
      go _ (frame_lasts some) =
          fed [] 0 past commits heads (omega arith) (omega (arith, some)) (omega arith) (omega (arith, early, (long f heads.frame).0)) (omega arith)
          begun_piece (λ late. absurd (omega (arith, late))) fits less (let count = less.count in omega (arith, count, early))
      go _ (frame_gives three more soon) =
          let room : length rest < 97 = let count = less.count in omega (arith, count, early) in
          subst (λ (xs : List ℕ). Now (Commit c 288 set.burst) (Giving (k + 1) 0 false) q Busy (Starting 0) 0 past (Transmit false false) xs (grown g (Starting 0) 0))
          (sym (takes rest (slice_index (nibble_list f.frame) (k + 1)) room))
          (fed [] 0 past commits heads (omega arith) (omega arith) (omega arith) more (omega arith)
          begun_piece (λ late. absurd (omega (arith, late))) fits (one_given (nibble_list f.frame) (k + 1) 1 rest less more)
          (let count = less.count in omega (arith, count, early, length-append rest (slice_index (nibble_list f.frame) (k + 1) ∷ []))))
      go _ (frame_jams three late e) = absurd (cc)
      go _ (frame_sends three all e) = absurd (omega (arith, early, all, (long f heads.frame).0))

  pend_opens : (c : ℕ) (q : Queue) (a part : ℕ) (phase : Phase) (left : Row) (past : List Bool) (g : Past) → g.symbols ≡ [] → GoneTurn q a false left
      → Turns Pending Busy (is_sending phase) (record { stage = Quiet; part = part; past = past }) [] g (Commit c 288 set.burst, CommitCmd) left
  unfolding transmit_step
  pend_opens c q a part phase _ past g none (mac_starts e heads) = absurd (cc)
  pend_opens c q a part phase _ past g none (mac_stays over) =
      waits [] 1 0 waits_first (omega arith) (omega arith) refl over (record { few = omega arith; in_range = λ n d lt. absurd (omega (arith, lt)) })
      (ap (λ (ss : List Symbol). ss ++ J ∷ []) none)

  module _ (drawn : ℕ) where
    abbrev row_is : State → Phase → Queue → Deference → ℕ → Row
    row_is path phase q d a = row_of phase q a (may_start d (carrier path crs)) (collision path) drawn

    -- the tick of these parts
    abbrev pub Tick : ControlStage → Phase → Queue → Deference → ℕ → TxState → State → List ℕ → Past → Type 0
    Tick st phase q d a tx path line g = Turns path d (is_sending phase) tx line g (control_row set st (control_is path tx)) (row_is path phase q d a)

    opens_now : (c : ℕ) (path : State) (phase : Phase) (q : Queue) (d : Deference) (a part : ℕ) (past : List Bool) (line : List ℕ) (g : Past) → Fit q.frames
        → g.symbols ≡ [] → ready path ≡ true → AtRest path phase q d line
        → Turns path d (is_sending phase) (record { stage = Quiet; part = part; past = past }) line g (Commit c 288 set.burst, CommitCmd) (row_is path phase q d a)
    opens_now c _ phase q d a part past _ g fit none e (silent over) = absurd (cc)
    opens_now c _ phase q d a part past _ g fit none e (idle over) = absurd (cc)
    opens_now c _ phase q _ a part past _ g fit none e (delays over) = absurd (cc)
    opens_now c _ phase q _ a part past _ g fit none e (pends over) = pend_opens c q a part phase _ past g none (gone_turns phase q a false false drawn over fit)
    opens_now c _ _ q _ a part past line g fit none e (holds {f = f} {k = k} {p = p} heads early low feeds) =
        hold_opens c f k p a q _ part past line g heads early low feeds none
        (send_turns q f k p a false heads low (omega (arith, (long f heads.frame).0, early)))
    opens_now c _ phase q _ a part past _ g fit none e (collides over) = absurd (cc)

    -- at rest while the opportunity is not the node's own
    rested : (next : ControlStage) (own : Bool) (closed : Bool) (path : State) (phase : Phase) (q : Queue) (d : Deference) (a : ℕ) (line : List ℕ) → own ≡ false
        → Fit q.frames → AtRest path phase q d line
        → AtRest (data_path_step path (told (is_active next) own closed crs class hit (row_is path phase q d a).out) line).0 (row_is path phase q d a).phase
        (row_is path phase q d a).queue (deference_step d (carrier path crs) (is_sending phase) (row_is path phase q d a).starts)
        (data_path_step path (told (is_active next) own closed crs class hit (row_is path phase q d a).out) line).1
    rested next own closed path phase q d a line e fit h = rw e (rest_next (is_active next) closed crs class hit path phase q d line a drawn fit h)

    pub away_steps : (st : ControlStage) (path : State) (phase : Phase) (q : Queue) (d : Deference) (a part : ℕ) (past : List Bool) (line : List ℕ) (g : Past) → Fit q.frames
        → is_away st ≡ true → AtRest path phase q d line → g.symbols ≡ [] → Tick st phase q d a (record { stage = Quiet; part = part; past = past }) path line g
    unfolding transmit_step
    away_steps st path phase q d a part past line g fit e h none = go _ (away_turns set (control_is path (record { stage = Quiet; part = part; past = past })) st e)
      where
        go : (next : ControlStage × TxCmd) → AwayTurn (ready path) set.burst next
            → Turns path d (is_sending phase) (record { stage = Quiet; part = part; past = past }) line g next (row_is path phase q d a)
        go _ (stays {st = to} on) = away on (rested to (is_own to) false path phase q d a line (away_not_own to on) fit h) refl
        go _ row = in_row 5 refl (omega arith) (omega arith) (rested (Beacon 20) false false path phase q d a line refl fit h)
        go _ (owns {c = c} some) = opens_now c path phase q d a part past line g fit none some h

    pub row_steps : (n x part a : ℕ) (path : State) (phase : Phase) (q : Queue) (d : Deference) (past : List Bool) (line : List ℕ) (g : Past) → Fit q.frames
        → n + part ≡ 4 * x → 1 ≤ n → part ≤ 3 → AtRest path phase q d line → Tick (Beacon n) phase q d a (record { stage = Beaconing; part = part; past = past }) path line g
    row_steps n x part a path phase q d past line g fit is some low h =
        cond_both (n == 1) _ _ (λ (next : ControlStage × TxCmd). Turns path d (is_sending phase) (record { stage = Beaconing; part = part; past = past }) line g next (row_is path phase q d a))
        (λ e.
        let one : n ≡ 1 = grind (arith, nat_tests, e) in
        by_part Beaconing part past (record { cmd = NoCmd; ended = ended path; bad = bad path }) line g
        (λ (turn : TxTurn) (h : Past). Comes path d (is_sending phase) false (Syncing, NoCmd) (row_is path phase q d a) turn h) refl low
        (λ less. absurd (omega (arith, less, is, one)))
        (λ end. away refl (rested Syncing false false path phase q d a line refl fit h) refl))
        (λ e.
        let more : 1 < n = grind (arith, nat_tests, e, some) in
        by_part Beaconing part past (record { cmd = BeaconCmd; ended = ended path; bad = bad path }) line g
        (λ (turn : TxTurn) (h : Past). Comes path d (is_sending phase) false (Beacon (n - 1), BeaconCmd) (row_is path phase q d a) turn h) refl low
        (λ less. in_row x (omega (arith, is, more)) (omega (arith, more)) (omega (arith, less)) (rested (Beacon (n - 1)) false false path phase q d a line refl fit h))
        (λ end. in_row (x - 1) (omega (arith, is, more, end)) (omega (arith, more)) (omega arith) (rested (Beacon (n - 1)) false false path phase q d a line refl fit h)))

    -- ---- the own opportunity

    -- before a frame
    waits_steps : (c b n part m x a : ℕ) (earlier : List Piece) (next : ControlStage) (phase : Phase) (q : Queue) (d : Deference) (past : List Bool) (g : Past) (left : Row)
        → Owns c b next → Waits c (n - 1) b next → is_own next ≡ true → is_active next ≡ true
        → 1 < n → part ≤ 3 → n + part + 4 * (m + x) ≡ 292 → Before set.burst b earlier
        → g.symbols ≡ pieces_symbols earlier ++ replicate m J → (may : Bool) → GoneTurn q a may left
        → Turns WaitMac d (is_sending phase) (record { stage = Committing; part = part; past = past }) [] g (next, CommitCmd) left
    waits_steps c b n part m x a earlier next phase q d past g left own timer is_it is_on more low is fits spelled may turn =
        by_part Committing part past (record { cmd = CommitCmd; ended = false; bad = false }) [] g
        (λ (turn : TxTurn) (h : Past). Comes WaitMac d (is_sending phase) false (next, CommitCmd) left turn h) refl low
        (λ less. go m (part + 1) (on_past g) spelled (omega (arith, less)) (omega (arith, is, more)) left turn)
        (λ end. go (m + 1) 0 (grown g Committing 0) (ap (λ (ss : List Symbol). ss ++ J ∷ []) spelled ∙ one_more_j (pieces_symbols earlier) m) (omega arith)
        (omega (arith, is, more, end)) left turn)
      where
        go : (m' r : ℕ) (h : Past) → h.symbols ≡ pieces_symbols earlier ++ replicate m' J → r ≤ 3 → n - 1 + r + 4 * (m' + x) ≡ 292
            → (left : Row) → GoneTurn q a may left
            → Now next left.phase left.queue (deference_step d false (is_sending phase) left.starts) Committing r past
            (data_path_step WaitMac (told (is_active next) (is_own next) false crs class hit left.out) []).0
            (data_path_step WaitMac (told (is_active next) (is_own next) false crs class hit left.out) []).1 h
        go m' r h spelled few is _ (mac_starts {f = f} e heads) =
            let some : 0 < count_of f = omega (arith, (long f heads.frame).0) in
            rw (is_it, started_busy d false (is_sending phase))
            (opens {p = 0} {part = r} earlier m' own heads (omega arith) few (omega (arith, is)) fits spelled (first_given (nibble_list f.frame) (slice_index (nibble_list f.frame) 0) refl some))
        go m' r h spelled few is _ (mac_stays on) = rw is_it (waits earlier m' x timer (omega (arith, more)) few is on fits spelled)

    -- its timer ends
    lapses : (c part m x a : ℕ) (phase : Phase) (q : Queue) (d : Deference) (past : List Bool) (g : Past) (left : Row) (may : Bool) → GoneTurn q a may left
        → part ≤ 3 → 1 + part + 4 * (m + x) ≡ 292
        → Turns WaitMac d (is_sending phase) (record { stage = Committing; part = part; past = past }) [] g (Drain c, NoCmd) left
    lapses c part m x a phase q d past g left may turn low is =
        by_part Committing part past (record { cmd = NoCmd; ended = false; bad = false }) [] g
        (λ (turn : TxTurn) (h : Past). Comes WaitMac d (is_sending phase) false (Drain c, NoCmd) left turn h) refl low
        (λ less. absurd (omega (arith, less, is)))
        (λ end. away refl (idle_next true false false crs class hit q a may d false (is_sending phase) left turn) refl)

    pub timer_steps : (c b n part m x a : ℕ) (earlier : List Piece) (st : ControlStage) (phase : Phase) (q : Queue) (d : Deference) (past : List Bool) (g : Past) → Fit q.frames
        → Waits c n b st → 1 ≤ n → part ≤ 3 → n + part + 4 * (m + x) ≡ 292 → Gone phase q → Before set.burst b earlier
        → g.symbols ≡ pieces_symbols earlier ++ replicate m J
        → Tick st phase q d a (record { stage = Committing; part = part; past = past }) WaitMac [] g
    timer_steps c b n part m x a earlier _ phase q d past g fit waits_first some low is over fits spelled =
        cond_both (n == 1) _ _ (λ (next : ControlStage × TxCmd). Turns WaitMac d (is_sending phase) (record { stage = Committing; part = part; past = past }) [] g next (row_is WaitMac phase q d a))
        (λ e.
        let one : n ≡ 1 = grind (arith, nat_tests, e) in
        lapses c part m x a phase q d past g _ (may_start d false) (gone_turns phase q a (may_start d false) false drawn over fit) low (omega (arith, is, one)))
        (λ e.
        let more : 1 < n = grind (arith, nat_tests, e, some) in
        waits_steps c b n part m x a earlier (Commit c (n - 1) b) phase q d past g _ commits waits_first refl refl more low is fits spelled
        (may_start d false) (gone_turns phase q a (may_start d false) false drawn over fit))
    timer_steps c b n part m x a earlier _ phase q d past g fit waits_later some low is over fits spelled =
        cond_both (n == 1) _ _ (λ (next : ControlStage × TxCmd). Turns WaitMac d (is_sending phase) (record { stage = Committing; part = part; past = past }) [] g next (row_is WaitMac phase q d a))
        (λ e.
        let one : n ≡ 1 = grind (arith, nat_tests, e) in
        lapses c part m x a phase q d past g _ (may_start d false) (gone_turns phase q a (may_start d false) false drawn over fit) low (omega (arith, is, one)))
        (λ e.
        let more : 1 < n = grind (arith, nat_tests, e, some) in
        waits_steps c b n part m x a earlier (Burst c (n - 1) b) phase q d past g _ pauses waits_later refl refl more low is fits spelled
        (may_start d false) (gone_turns phase q a (may_start d false) false drawn over fit))
