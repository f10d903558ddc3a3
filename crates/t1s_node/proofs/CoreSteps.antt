-- One tick of the core from every place.
use Rattle.std.proofs.Common.{◌≡◌, ℕ, ◌+◌, ◌==◌, ◌<◌, Bool, true, false, ◌&&◌, ◌||◌, IsTrue, nat_lt, nat_le, List, [], ◌∷◌, ◌++◌, length, drop, slice_get, Some, refl, sym, ◌∙◌, ap, subst, arith}
use Rattle.t1s_frame.specs.Frame.{IsFrame}
use Rattle.t1s_ring.specs.Queue.{Queue, with_last, empty_queue}
use Rattle.t1s_ring.specs.declared.queued.Queued.{Queued}
use Rattle.t1s_pcs_tx.specs.declared.TxCmd.{TxCmd}
use Rattle.t1s_pcs_tx.specs.State.{Stage, is_closed}
use Rattle.t1s_pcs_tx.specs.TransmitTable.{report_of}
use Rattle.plca_control.specs.declared.ControlSet.{ControlSet}
use Rattle.plca_control.specs.declared.State.{State as ControlStage}
use Rattle.plca_control.specs.ControlTable.{control_row}
use Rattle.plca_data.specs.declared.data_path.State.{State}
use Rattle.plca_data.specs.DataPathTable.{data_path_step, carrier, collision}
use Rattle.t1s_mac.specs.declared.deference.Deference.{Deference}
use Rattle.t1s_mac.specs.DeferenceTable.{deference_step, may_start}
use Rattle.t1s_mac.specs.MacTable.{Row, row_of, mac_row, deferring, sending, jamming, last_quarter, last_jam_nibble, last_attempt, preamble_nibbles}
use Rattle.t1s_mac.specs.State.{Phase, Resting, Deferring, Waiting, Sending, Jamming, MacState, is_sending, with_queue, head_nibbles, nibbles_in, number_in}
use Rattle.t1s_node.specs.Core.{Core, CoreDrive, core_start, LineReading, core_drive, core_after_offer, control_in, control_turn, tx_turn}
use Rattle.t1s_node.specs.Runs.{core_after_offers, DrawsAreBounded}
use Rattle.t1s_node.proofs.JointPlaces.{Place, Asleep, Goes, Joint, Outcome, asleep, idles, holds, collides, jams, delays, pends, waits, rests_in, before, fed, given, ends, closes}
use Rattle.t1s_node.proofs.JointSteps.{joint_steps, asleep_on}
use Rattle.t1s_node.proofs.MacTurns.{Fit, Heads, Rests, rests, defers, BacksOff, waits as in_backoff, over}
use Rattle.t1s_node.proofs.View.{View, view_of, cmd_of, own_of, counts, row_counts, row_turns, view_cmd, view_own, inactive_away, start_away, start_counts}
use Rattle.std.proofs.lemmas.Bool.{cond_both}

-- every frame stays a frame where the first leaves
fit_dropped : (frames : List Queued) → Fit frames → Fit (drop 1 frames)
fit_dropped [] fit = fit
fit_dropped (q ∷ qs) fit = fit.1

abbrev pub Fits : Row → Type 0
Fits left = Fit left.queue.frames

fit_sending : (k p : ℕ) (hit : Bool) (q : Queue) (a : ℕ) → Fit q.frames → Fits (sending k p hit q a)
fit_sending k p hit q a fit =
    cond_both (nat_lt p last_quarter) _ _ Fits (λ _. fit) (λ _.
    cond_both (hit && nat_le preamble_nibbles (k + 1)) _ _ Fits (λ _. fit) (λ _.
    cond_both (k + 1 == length (head_nibbles q)) _ _ Fits (λ _. fit_dropped q.frames fit) (λ _. fit)))

fit_jamming : (j p : ℕ) (q : Queue) (a drawn : ℕ) → Fit q.frames → Fits (jamming j p q a drawn)
fit_jamming j p q a drawn fit =
    cond_both (nat_lt p last_quarter) _ _ Fits (λ _. fit) (λ _.
    cond_both (nat_lt j last_jam_nibble) _ _ Fits (λ _. fit) (λ _.
    cond_both (a == last_attempt) _ _ Fits (λ _. fit_dropped q.frames fit) (λ _. fit)))

fit_deferring : (q : Queue) (a : ℕ) (may : Bool) → Fit q.frames → Fits (deferring q a may)
fit_deferring q a true fit = fit
fit_deferring q a false fit = fit

pub fit_row : (phase : Phase) (q : Queue) (a : ℕ) (may collision : Bool) (drawn : ℕ) → Fit q.frames → Fits (row_of phase q a may collision drawn)
fit_row Resting q a may collision drawn fit = cond_both (nat_lt 0 (length q.frames)) _ _ Fits (λ _. fit_deferring q a may fit) (λ _. fit)
fit_row (Waiting left) q a may collision drawn fit = cond_both (left == 0) _ _ Fits (λ _. fit_deferring q a may fit) (λ _. fit)
fit_row Deferring q a may collision drawn fit = fit_deferring q a may fit
fit_row (Sending k p c) q a may collision drawn fit = fit_sending k p (c || collision) q a fit
fit_row (Jamming j p) q a may collision drawn fit = fit_jamming j p q a drawn fit

pub some_more : (frames : List Queued) (q : Queued) → 0 < length (frames ++ q ∷ [])
some_more [] q = omega arith
some_more (x ∷ xs) q = omega arith

pub first_stays : (frames : List Queued) (f q : Queued) → slice_get frames 0 ≡ Some f → slice_get (frames ++ q ∷ []) 0 ≡ Some f
first_stays [] f q e = absurd (cc)
first_stays (x ∷ xs) f q e = e

pub heads_offered : (q : Queue) (x f : Queued) → Heads q f → Heads (with_last q x) f
heads_offered q x f h =
    let first : slice_get (q.frames ++ x ∷ []) 0 ≡ Some f = first_stays q.frames f x h.first in
    record { first = first; nibbles = ap nibbles_in first; number = ap number_in first; frame = h.frame }

rests_offered : (phase : Phase) (q : Queue) (x : Queued) → Rests phase q → Rests phase (with_last q x)
rests_offered _ q x rests = rests
rests_offered _ q x (defers some) = defers (some_more q.frames x)

backs_offered : (n : ℕ) (phase : Phase) (q : Queue) (x : Queued) → BacksOff n phase q → BacksOff n phase (with_last q x)
backs_offered n _ q x (in_backoff low some) = in_backoff low (some_more q.frames x)
backs_offered n _ q x (over some) = over (some_more q.frames x)

joint_offered : (place : Place) (v : View) (phase : Phase) (q : Queue) (x : Queued) (d : Deference) (a : ℕ) (stage : Stage) (part : ℕ) (path : State) (line : List ℕ)
    → Joint place v phase q d a stage part path line → Joint place v phase (with_last q x) d a stage part path line
joint_offered _ _ phase q x _ _ _ part _ _ (asleep resting) = asleep (rests_offered phase q x resting)
joint_offered _ v phase q x d _ stage part _ _ (idles out resting free) = idles out (rests_offered phase q x resting) free
joint_offered _ v _ q x _ _ stage part _ line (holds {f = f} heads early quarter free al feeds) = holds (heads_offered q x f heads) early quarter free al feeds
joint_offered _ v _ q x _ _ stage part _ _ (collides {f = f} out heads within quarter free) = collides out (heads_offered q x f heads) within quarter free
joint_offered _ v _ q x _ _ stage part _ _ (jams {f = f} out heads nibble quarter free) = jams out (heads_offered q x f heads) nibble quarter free
joint_offered _ v phase q x _ _ stage part _ _ (delays {f = f} {n = n} out heads least back free) = delays out (heads_offered q x f heads) least (backs_offered n phase q x back) free
joint_offered _ v phase q x _ _ stage part _ _ (pends {f = f} out heads back free) = pends out (heads_offered q x f heads) (backs_offered 0 phase q x back) free
joint_offered _ _ _ q x d _ stage part _ _ (waits {f = f} opening heads free) = waits opening (heads_offered q x f heads) free
joint_offered _ _ phase q x d _ stage part _ _ (rests_in resting free) = rests_in (rests_offered phase q x resting) free
joint_offered _ v _ q x _ a stage part _ line (before {f = f} own heads tries quarter near free feeds) = before own (heads_offered q x f heads) tries quarter near free feeds
joint_offered _ v _ q x _ a stage _ _ line (fed {f = f} {d = n} own heads tries quarter ahead least most tx feeds) = fed {d = n} own (heads_offered q x f heads) tries quarter ahead least most tx feeds
joint_offered _ _ phase q x _ _ stage _ _ line (given resting tx feeds late past_start) = given (rests_offered phase q x resting) tx feeds late past_start
joint_offered _ _ phase q x _ _ _ _ _ _ (ends resting few) = ends (rests_offered phase q x resting) few
joint_offered _ _ phase q x _ _ _ _ _ _ (closes resting few) = closes (rests_offered phase q x resting) few

pub fit_more : (frames : List Queued) (q : Queued) → Fit frames → IsFrame q.frame → Fit (frames ++ q ∷ [])
fit_more [] q fit frame = (frame, tt)
fit_more (x ∷ xs) q fit frame = (fit.0, fit_more xs q fit.1 frame)

module _ {D : Type 0} where
  -- what ties a core together at a place
  abbrev pub At : Place → Core D → Type 0
  At place c =
      Joint place (view_of c.control.state) c.mac.phase c.mac.queue c.mac.deference c.mac.attempts c.tx.stage c.tx.part c.path c.line

  pub record Stands (place : Place) (c : Core D) : Type 0 where
    pub joint : At place c
    pub fit : Fit c.mac.queue.frames
    pub counted : IsTrue (counts c.control.state)

  pub record CoreStep (place : Place) (c : Core D) (d : CoreDrive D) : Type 0 where
    pub to : Place
    pub popped : List ℕ
    pub goes : Goes place d.step.note popped to
    pub lost : c.line ≡ popped ++ (tx_turn d.cmd c).line
    pub stands : Stands to d.core

  module _ (answer : D → ℕ → ℕ) (after : D → D) (s : LineReading) (c : Core D) where
    abbrev next : ControlStage
    next = (control_row c.control.set c.control.state (control_in s c)).0

    abbrev drawn : ℕ
    drawn = answer c.mac.draws (c.mac.attempts + 1)

    abbrev left : Row
    left = mac_row answer c.mac (carrier c.path s.crs) (collision c.path)

    -- by what control gives out, and whether something met the drive
    abbrev Comes : Place → TxCmd → Bool → Bool → Bool → Type 0
    Comes place cmd own active hit =
        Outcome place c.line (view_of next) left (deference_step c.mac.deference (carrier c.path s.crs) (is_sending c.mac.phase) left.starts)
        (tx_turn cmd c).state.stage (tx_turn cmd c).state.part (tx_turn cmd c).line
        (data_path_step c.path (record { active = active; own = own; closed = is_closed (report_of c.tx); crs = s.crs; class = s.class; hit = hit; mac = left.out }) (tx_turn cmd c).line)

    to_step : (place : Place) → Stands place c → (out : Comes place (control_turn s c).1.cmd (control_turn s c).1.own (control_turn s c).1.active s.hit)
        → (step : CoreStep place c (core_drive answer after s c)) × (step.to ≡ out.to)
    unfolding core_drive
    to_step place h out = (
      record {
        to = out.to;
        popped = out.popped;
        goes = out.goes;
        lost = out.lost;
        stands = record {
          joint = out.joint;
          fit = fit_row c.mac.phase c.mac.queue c.mac.attempts (may_start c.mac.deference (carrier c.path s.crs)) (collision c.path) drawn h.fit;
          counted = row_counts c.control.set c.control.state (control_in s c) h.counted;
        };
      },
      refl,
    )

    -- what is said in the words of the view is said of what control gives out
    in_words : (F : TxCmd → Bool → Bool → Bool → Type 0) (active : Bool) → s.hit ≡ false → (control_turn s c).1.active ≡ active
        → F (cmd_of (view_of next)) (own_of (view_of next)) active false
        → F (control_turn s c).1.cmd (control_turn s c).1.own (control_turn s c).1.active s.hit
    in_words F active quiet_drive e out =
        subst (λ cmd. F cmd (control_turn s c).1.own (control_turn s c).1.active s.hit) (sym (view_cmd c.control.set c.control.state (control_in s c)))
        (subst (λ own. F (cmd_of (view_of next)) own (control_turn s c).1.active s.hit) (sym (view_own next))
        (subst (λ act. F (cmd_of (view_of next)) (own_of (view_of next)) act s.hit) (sym e)
        (subst (λ hit. F (cmd_of (view_of next)) (own_of (view_of next)) active hit) (sym quiet_drive) out)))

    low_draw : DrawsAreBounded answer → c.mac.attempts ≡ 0 → drawn < 2
    low_draw bounded e = rw e (bounded c.mac.draws 1)

    active_is : (core_drive answer after s c).active ≡ (control_turn s c).1.active
    unfolding core_drive
    active_is = refl

    pub active_step : (place : Place) → DrawsAreBounded answer → s.hit ≡ false → (core_drive answer after s c).active ≡ true → Stands place c
        → CoreStep place c (core_drive answer after s c)
    active_step place bounded quiet_drive active h =
        (to_step place h (in_words (Comes place) true quiet_drive (sym active_is ∙ active)
        (joint_steps s.crs s.class c.tx.past drawn place (view_of c.control.state) (view_of next) c.mac.phase c.mac.queue c.mac.deference c.mac.attempts c.tx.stage c.tx.part c.path c.line
        h.joint h.fit (low_draw bounded) (row_turns c.control.set (control_in s c) c.control.state h.counted)))).0

    -- before the node takes part in the cycle
    pub asleep_step : s.hit ≡ false → (core_drive answer after s c).active ≡ false → Stands Asleep c
        → (step : CoreStep Asleep c (core_drive answer after s c)) × (step.to ≡ Asleep)
    asleep_step quiet_drive active h =
        let e : (control_turn s c).1.active ≡ false = sym active_is ∙ active in
        let (out, same) = in_words (λ cmd own active hit. (out : Comes Asleep cmd own active hit) × (out.to ≡ Asleep)) false quiet_drive e
        (asleep_on s.crs s.class c.tx.past drawn (view_of c.control.state) (view_of next) c.mac.phase c.mac.queue c.mac.deference c.mac.attempts c.tx.stage c.tx.part c.path c.line
        h.joint h.fit (inactive_away next e)) in
        let (step, to) = to_step Asleep h out in
        (step, to ∙ same)

  -- an offer leaves the place
  abbrev one_offered : (place : Place) (c : Core D) (q : Queued) → IsFrame q.frame → Stands place c → Stands place (core_after_offer c q)
  one_offered place c q frame h =
      cond_both (nat_lt (length c.mac.queue.frames) c.mac.queue.room) (with_queue c.mac (with_last c.mac.queue q)) c.mac (λ (m : MacState D). Stands place (record c { mac = m }))
      (λ _. record { joint = joint_offered _ _ _ c.mac.queue q _ _ _ _ _ _ h.joint; fit = fit_more c.mac.queue.frames q h.fit frame; counted = h.counted })
      (λ _. h)

  pub offered_stands : (place : Place) (c : Core D) (qs : List Queued) → Fit qs → Stands place c → Stands place (core_after_offers c qs)
  offered_stands place c [] fit h = h
  offered_stands place c (q ∷ qs) fit h = offered_stands place (core_after_offer c q) qs fit.1 (one_offered place c q fit.0 h)

  -- the start
  pub start_stands : (set : ControlSet) (room : ℕ) (draws : D) → Stands Asleep (core_start set (empty_queue room) draws)
  start_stands set room draws = record {
    joint = rw (start_away set) (asleep rests);
    fit = tt;
    counted = start_counts set;
  }
