-- Any run of a node's core, tick by tick.
use Rattle.std.proofs.Common.{◌≡◌, ℕ, zero, suc, ◌+◌, ◌==◌, ◌≤◌, Bool, true, false, nat_lt, if◌then◌else◌, List, [], ◌∷◌, length, Option, Some, None, refl, sym, ◌∙◌, ap, subst, arith}
use Rattle.std.specs.List.{All}
use Rattle.std.proofs.lemmas.Bool.{cond_both}
use Rattle.std.proofs.lemmas.List.Elements.{All-head, All-tail}
use Rattle.t1s_symbols.specs.declared.Quarter.{Quarter}
use Rattle.t1s_frame.specs.Frame.{IsFrame}
use Rattle.t1s_ring.specs.Queue.{with_last, empty_queue}
use Rattle.t1s_ring.specs.declared.queued.Queued.{Queued}
use Rattle.t1s_pcs_tx.specs.declared.TxIn.{TxIn}
use Rattle.t1s_pcs_tx.specs.State.{Stage, TxState, Starting, first_h_begins, quarter_of}
use Rattle.t1s_pcs_tx.specs.TransmitTable.{TxTurn, transmit_step, at_boundary}
use Rattle.plca_control.specs.declared.ControlSet.{ControlSet}
use Rattle.plca_data.specs.DataPathTable.{carrier, collision, ended, bad}
use Rattle.t1s_mac.specs.DeferenceTable.{may_start}
use Rattle.t1s_mac.specs.State.{MacState, Sending as Giving, number_of, with_queue}
use Rattle.t1s_node.specs.Core.{Core, LineReading, core_start, core_drive, core_after_offer, control_turn}
use Rattle.t1s_node.specs.Laws.{LeavesAt}
use Rattle.t1s_node.specs.Runs.{CoreTick, core_after_offers, core_at, found_at, left_at, drive_at, leaves_at}
use Rattle.t1s_node.proofs.CoreSteps.{fit_row, fit_more}
use Rattle.t1s_node.proofs.MacTurns.{Heads, Fit}
use Rattle.t1s_node.proofs.AnyMac.{rests}
use Rattle.t1s_node.proofs.AnyControl.{start_away}
use Rattle.t1s_node.proofs.AnyDrives.{DriveOn, silent, drive_next}
use Rattle.t1s_node.proofs.AnyPlaces.{Past, grown, silent as at_silent, Stands, away}
use Rattle.t1s_node.proofs.AnyTick.{Marks, tick, offered}

module _ {D : Type 0} (Leaves : ℕ → Queued → Type 0) (burst : ℕ) where
  -- what ties a core together, with the drive that is on
  pub record Good (c : Core D) (g : Past) : Type 0 where
    pub stands : Stands burst Leaves c.control.state c.mac.phase c.mac.queue c.mac.deference c.tx.stage c.tx.part c.tx.past c.path c.line g
    pub fit : Fit c.mac.queue.frames
    pub same : c.control.set.burst ≡ burst

  one_offered : (c : Core D) (g : Past) (q : Queued) → IsFrame q.frame → Good c g → Good (core_after_offer c q) g
  one_offered c g q frame h =
      cond_both (nat_lt (length c.mac.queue.frames) c.mac.queue.room) (with_queue c.mac (with_last c.mac.queue q)) c.mac (λ (m : MacState D). Good (record c { mac = m }) g)
      (λ _. record {
        stands = offered burst Leaves _ _ c.mac.queue _ _ _ _ _ _ g q h.stands;
        fit = fit_more c.mac.queue.frames q h.fit frame;
        same = h.same;
      })
      (λ _. h)

  pub all_offered : (c : Core D) (g : Past) (qs : List Queued) → All (λ (q : Queued). IsFrame q.frame) qs → Good c g → Good (core_after_offers c qs) g
  all_offered c g [] all h = h
  all_offered c g (q ∷ qs) all h =
      all_offered (core_after_offer c q) g qs (All-tail (λ (x : Queued). IsFrame x.frame) q qs all)
      (one_offered c g q (All-head (λ (x : Queued). IsFrame x.frame) q qs all) h)

  module _ (answer : D → ℕ → ℕ) (after : D → D) (s : LineReading) (c : Core D) where
    abbrev drawn : ℕ
    drawn = answer c.mac.draws (c.mac.attempts + 1)

    pub core_good : (g : Past) → Good c g
        → Marks Leaves c.control.set s.crs s.class s.hit drawn c.control.state c.mac.phase c.mac.queue c.mac.deference c.mac.attempts c.tx.stage c.tx.part c.tx.past c.path c.line (suc g.now)
        → Good (core_drive answer after s c).core (grown g (core_drive answer after s c).core.tx.stage (core_drive answer after s c).core.tx.part)
    unfolding core_drive
    core_good g h mark = record {
      stands =
          subst (λ (n : ℕ). Stands n Leaves (core_drive answer after s c).core.control.state (core_drive answer after s c).core.mac.phase
          (core_drive answer after s c).core.mac.queue (core_drive answer after s c).core.mac.deference (core_drive answer after s c).core.tx.stage
          (core_drive answer after s c).core.tx.part (core_drive answer after s c).core.tx.past (core_drive answer after s c).core.path (core_drive answer after s c).core.line
          (grown g (core_drive answer after s c).core.tx.stage (core_drive answer after s c).core.tx.part)) h.same
          (tick Leaves c.control.set s.crs s.class s.hit drawn c.control.state c.mac.phase c.mac.queue c.mac.deference c.mac.attempts c.tx.stage c.tx.part c.tx.past c.path c.line g
          (subst (λ (n : ℕ). Stands n Leaves c.control.state c.mac.phase c.mac.queue c.mac.deference c.tx.stage c.tx.part c.tx.past c.path c.line g) (sym h.same) h.stands)
          h.fit mark);
      fit = fit_row c.mac.phase c.mac.queue c.mac.attempts (may_start c.mac.deference (carrier c.path s.crs)) (collision c.path) drawn h.fit;
      same = h.same;
    }

drives_state : (s : TxState) (inp : TxIn) (line : List ℕ) → (transmit_step s inp line).driven ≡ quarter_of (transmit_step s inp line).state
unfolding transmit_step
drives_state s inp line = cond_both (at_boundary s) _ _ (λ (turn : TxTurn). turn.driven ≡ quarter_of turn.state) (λ _. refl) (λ _. refl)

module _ {D : Type 0} (answer : D → ℕ → ℕ) (after : D → D) (start : Core D) (given : ℕ → CoreTick) where
  -- the drive as tick t finds it
  unfoldable pub past_at : ℕ → Past
  past_at zero = record { symbols = []; now = 0; last = 0 }
  past_at (suc t) = grown (past_at t) (left_at answer after start given t).tx.stage (left_at answer after start given t).tx.part

  -- the first H of a frame began in the tick before n
  abbrev pub Left : ℕ → Queued → Type 0
  Left n f = (u : ℕ) × (suc u ≡ n) × LeavesAt answer after start given f u

  pub leaves_is : (t : ℕ) → leaves_at answer after start given t
      ≡ (if first_h_begins (left_at answer after start given t).tx then number_of (left_at answer after start given t).mac else None)
  unfolding core_drive
  leaves_is t = refl

  left_leaves : (left : Core D) (f : Queued) (k p : ℕ) → left.mac.phase ≡ Giving k p false → Heads left.mac.queue f → left.tx.stage ≡ Starting 2 → left.tx.part ≡ 0
      → (if first_h_begins left.tx then number_of left.mac else None) ≡ Some f.number
  left_leaves left f k p phase heads stage part = rw (stage, part, phase) (ap Some heads.number)

  marks : (t : ℕ) → (f : Queued) (k p : ℕ) → (left_at answer after start given t).mac.phase ≡ Giving k p false
      → Heads (left_at answer after start given t).mac.queue f → (left_at answer after start given t).tx.stage ≡ Starting 2 → (left_at answer after start given t).tx.part ≡ 0
      → Left (suc t) f
  marks t f k p phase heads stage part = (t, refl, (leaves_is t ∙ left_leaves (left_at answer after start given t) f k p phase heads stage part, heads.first))

  marks_in : (t : ℕ) (now : ℕ) → now ≡ t
      → (λ (c : Core D). Marks Left c.control.set (given t).reading.crs (given t).reading.class (given t).reading.hit (answer c.mac.draws (c.mac.attempts + 1))
      c.control.state c.mac.phase c.mac.queue c.mac.deference c.mac.attempts c.tx.stage c.tx.part c.tx.past c.path c.line (suc now))
      (found_at answer after start given t)
  unfolding core_drive
  marks_in t now is f k p phase heads stage part = subst (λ (n : ℕ). Left (suc n) f) (sym is) (marks t f k p phase heads stage part)

  abbrev pub quarter : ℕ → Option Quarter
  quarter u = (drive_at answer after start given u).quarter

  pub record At (burst t : ℕ) : Type 0 where
    pub good : Good Left burst (core_at answer after start given t) (past_at t)
    pub now : (past_at t).now ≡ t
    pub drive : DriveOn quarter t (core_at answer after start given t).tx (past_at t).symbols

  pub next_core : (t : ℕ) → core_at answer after start given (suc t) ≡ left_at answer after start given t
  unfolding core_at
  next_core t = refl

  -- what is driven in a tick is the quarter of what it leaves
  pub quarter_left : (t : ℕ) → quarter t ≡ quarter_of (left_at answer after start given t).tx
  unfolding core_drive transmit_step
  quarter_left t =
      drives_state (found_at answer after start given t).tx
      (record { cmd = (control_turn (given t).reading (found_at answer after start given t)).1.cmd; ended = ended (found_at answer after start given t).path; bad = bad (found_at answer after start given t).path })
      (found_at answer after start given t).line

  found_tx : (c : Core D) (qs : List Queued) → (core_after_offers c qs).tx ≡ c.tx
  found_tx c [] = refl
  found_tx c (q ∷ qs) = found_tx (core_after_offer c q) qs

  pub grown_now : (g : Past) (stage : Stage) (part : ℕ) → (grown g stage part).now ≡ suc g.now
  grown_now g stage part = by (part == 0)
    where
      by : (b : Bool) → (if b then grown g stage 0 else record { symbols = g.symbols; now = suc g.now; last = g.last }).now ≡ suc g.now
      by true = refl
      by false = refl

  drive_on : (t : ℕ) (g : Past) → DriveOn quarter t (found_at answer after start given t).tx g.symbols
      → DriveOn quarter (suc t) (left_at answer after start given t).tx (grown g (left_at answer after start given t).tx.stage (left_at answer after start given t).tx.part).symbols
  unfolding core_drive
  drive_on t g on =
      drive_next quarter t (found_at answer after start given t).tx
      (record { cmd = (control_turn (given t).reading (found_at answer after start given t)).1.cmd; ended = ended (found_at answer after start given t).path; bad = bad (found_at answer after start given t).path })
      (found_at answer after start given t).line g on refl

  pub at_next : (burst t : ℕ) → All (λ (q : Queued). IsFrame q.frame) (given t).offers → At burst t → At burst (suc t)
  unfolding past_at
  at_next burst t frames h =
      let found : Good Left burst (found_at answer after start given t) (past_at t) = all_offered Left burst (core_at answer after start given t) (past_at t) (given t).offers frames h.good in
      let same = found_tx (core_at answer after start given t) (given t).offers in
      record {
        good = rw (next_core t) (core_good Left burst answer after (given t).reading (found_at answer after start given t) (past_at t) found (marks_in t (past_at t).now h.now));
        now = grown_now (past_at t) _ _ ∙ ap suc h.now;
        drive = rw (next_core t) (drive_on t (past_at t) (subst (λ (x : TxState). DriveOn quarter t x (past_at t).symbols) (sym same) h.drive));
      }

pub at_start : {D : Type 0} (answer : D → ℕ → ℕ) (after : D → D) (set : ControlSet) (room : ℕ) (draws : D) (given : ℕ → CoreTick)
    → At answer after (core_start set (empty_queue room) draws) given set.burst 0
unfolding core_at past_at
at_start answer after set room draws given = record {
  good = record { stands = away (start_away set) (at_silent rests) refl; fit = tt; same = refl };
  now = refl;
  drive = silent refl refl (λ u e. absurd (omega (arith, e)));
}

pub at_tick : {D : Type 0} (answer : D → ℕ → ℕ) (after : D → D) (set : ControlSet) (room : ℕ) (draws : D) (given : ℕ → CoreTick) (last : ℕ)
    → ((u : ℕ) → u ≤ last → All (λ (q : Queued). IsFrame q.frame) (given u).offers) → (t : ℕ) → t ≤ suc last
    → At answer after (core_start set (empty_queue room) draws) given set.burst t
at_tick answer after set room draws given last frames zero le = at_start answer after set room draws given
at_tick answer after set room draws given last frames (suc t) le =
    at_next answer after (core_start set (empty_queue room) draws) given set.burst t (frames t (omega (arith, le))) (at_tick answer after set room draws given last frames t (omega (arith, le)))
