-- Data path and MAC outside of the own opportunity, by one step.
use Rattle.std.proofs.Common.{ℕ, ◌+◌, ◌==◌, ◌<◌, ◌≤◌, Bool, true, false, ◌&&◌, List, [], length, slice_index, refl, sym, subst, arith}
use Rattle.std.proofs.lemmas.Bool.{cond_both}
use Rattle.t1s_symbols.specs.declared.Class.{Class}
use Rattle.t1s_frame.specs.Frame.{nibble_list}
use Rattle.t1s_ring.specs.Queue.{Queue}
use Rattle.t1s_ring.specs.declared.queued.Queued.{Queued}
use Rattle.plca_data.specs.declared.DataIn.{DataIn}
use Rattle.plca_data.specs.declared.MacOut.{MacOut}
use Rattle.plca_data.specs.declared.MacOut.TheVariants.{Nothing, Nibble, Ended}
use Rattle.plca_data.specs.declared.data_path.State.{State}
use Rattle.plca_data.specs.declared.data_path.State.TheVariants.{Hold, Collide, DelayPending, Pending}
use Rattle.plca_data.specs.DataPathTable.{data_path_step, idle, hold, carrier, collision, is_full, is_run_or_other}
use Rattle.t1s_mac.specs.DeferenceTable.{deference_step, may_start}
use Rattle.t1s_mac.specs.declared.deference.Deference.{Deference}
use Rattle.t1s_mac.specs.declared.deference.Deference.TheVariants.{Busy}
use Rattle.t1s_mac.specs.MacTable.{Row, row_of}
use Rattle.t1s_mac.specs.State.{Phase, is_sending, Sending as Giving}
use Rattle.t1s_node.proofs.LineFeed.{Feeds, first_given, one_given, takes, full_or_room}
use Rattle.t1s_node.proofs.MacTurns.{Heads, Fit, SendTurn, lasts as frame_lasts, jams as frame_jams, gives as frame_gives, sends as frame_sends, send_turns, started_busy, frame_there, count_of, long}
use Rattle.t1s_node.proofs.AnyMac.{GoneTurn, starts, stays, gone_turns, sends, GivesTurn, lasts, gives, stops, gives_turns}
use Rattle.t1s_node.proofs.AnyPlaces.{AtRest, silent, idle as at_idle, delays, pends, holds, collides}

abbrev pub told : Bool → Bool → Bool → Bool → Class → Bool → MacOut → DataIn
told active own closed crs class hit out =
    record { active = active; own = own; closed = closed; crs = crs; class = class; hit = hit; mac = out }

-- a data path without a line, that is at rest or comes to rest
pub idle_next : (active own closed crs : Bool) (class : Class) (hit : Bool) (q : Queue) (a : ℕ) (may : Bool) (d : Deference) (carried sending : Bool) (left : Row) → GoneTurn q a may left
    → AtRest (idle (told active own closed crs class hit left.out) []).0 left.phase left.queue (deference_step d carried sending left.starts)
    (idle (told active own closed crs class hit left.out) []).1
idle_next true own closed crs class hit q a may d carried sending _ (starts {f = f} e heads) =
    let some : 0 < count_of f = omega (arith, (long f heads.frame).0) in
    rw (started_busy d carried sending) (holds {k = 0} {p = 0} heads (omega arith) (omega arith) (first_given (nibble_list f.frame) (slice_index (nibble_list f.frame) 0) refl some))
idle_next false own closed crs class hit q a may d carried sending _ (starts {f = f} e heads) =
    rw (started_busy d carried sending) (collides (sends {p = 0} (omega arith) (frame_there q f heads)))
idle_next true own closed crs class hit q a may d carried sending _ (stays gone) = at_idle gone
idle_next false own closed crs class hit q a may d carried sending _ (stays gone) = silent gone

module _ (active closed crs : Bool) (class : Class) (hit : Bool) where
  abbrev Rests : State → Bool → Deference → Bool → Row → List ℕ → Type 0
  Rests path carried d sending left line =
      AtRest (data_path_step path (told active false closed crs class hit left.out) line).0 left.phase left.queue (deference_step d carried sending left.starts)
      (data_path_step path (told active false closed crs class hit left.out) line).1

  delay_next : (n : ℕ) (q : Queue) (a : ℕ) (sending : Bool) (left : Row) → GoneTurn q a false left → Rests (DelayPending n) true Busy sending left []
  delay_next n q a sending _ (starts e heads) = absurd (cc)
  delay_next n q a sending _ (stays {phase = phase} gone) = by active
    where
      by : (b : Bool) → AtRest (data_path_step (DelayPending n) (told b false closed crs class hit Nothing) []).0 phase q Busy
          (data_path_step (DelayPending n) (told b false closed crs class hit Nothing) []).1
      by true = cond_both (n == 1) _ _ (λ (kept : State × List ℕ). AtRest kept.0 phase q Busy kept.1) (λ _. pends gone) (λ _. delays gone)
      by false = silent gone

  pending_next : (q : Queue) (a : ℕ) (sending : Bool) (left : Row) → GoneTurn q a false left → Rests Pending true Busy sending left []
  pending_next q a sending _ (starts e heads) = absurd (cc)
  pending_next q a sending _ (stays {phase = phase} gone) = by active
    where
      by : (b : Bool) → AtRest (data_path_step Pending (told b false closed crs class hit Nothing) []).0 phase q Busy
          (data_path_step Pending (told b false closed crs class hit Nothing) []).1
      by true = pends gone
      by false = silent gone

  hold_next : (f : Queued) (k p : ℕ) (q : Queue) (a : ℕ) (left : Row) (line : List ℕ) → Heads q f → k ≤ 96 → Feeds (nibble_list f.frame) (k + 1) 0 line
      → SendTurn q f k p a false left → Rests Hold false Busy true left line
  hold_next f k p q a _ line heads early feeds (frame_lasts less) = by active
    where
      some : 0 < length q.frames
      some = frame_there q f heads

      by : (b : Bool) → AtRest (hold (told b false closed crs class hit Nothing) line).0 (Giving k (p + 1) false) q Busy
          (hold (told b false closed crs class hit Nothing) line).1
      by true =
          cond_both (crs && is_run_or_other class) _ _ (λ (kept : State × List ℕ). AtRest kept.0 (Giving k (p + 1) false) q Busy kept.1)
          (λ _. collides (sends {p = p + 1} (omega (arith, less)) some))
          (λ _. holds heads early (omega (arith, less)) feeds)
      by false = collides (sends {p = p + 1} (omega (arith, less)) some)
  hold_next f k p q a _ line heads early feeds (frame_gives three more low) = by active
    where
      some : 0 < length q.frames
      some = frame_there q f heads

      by : (b : Bool)
          → AtRest (hold (told b false closed crs class hit (Nibble (slice_index (nibble_list f.frame) (k + 1)))) line).0 (Giving (k + 1) 0 false) q Busy
          (hold (told b false closed crs class hit (Nibble (slice_index (nibble_list f.frame) (k + 1)))) line).1
      by true =
          cond_both (crs && is_run_or_other class) _ _ (λ (kept : State × List ℕ). AtRest kept.0 (Giving (k + 1) 0 false) q Busy kept.1)
          (λ _. collides (sends {p = 0} (omega arith) some))
          (λ _. cond_both (is_full line) _ _ (λ (kept : State × List ℕ). AtRest kept.0 (Giving (k + 1) 0 false) q Busy kept.1)
          (λ _. collides (sends {p = 0} (omega arith) some))
          (λ e.
          let room : length line < 97 = full_or_room line e in
          subst (λ (xs : List ℕ). AtRest Hold (Giving (k + 1) 0 false) q Busy xs) (sym (takes line (slice_index (nibble_list f.frame) (k + 1)) room))
          (holds heads (omega (arith, room, feeds.count)) (omega arith) (one_given (nibble_list f.frame) (k + 1) 0 line feeds more))))
      by false = collides (sends {p = 0} (omega arith) some)
  hold_next f k p q a _ line heads early feeds (frame_jams three late e) = absurd (cc)
  hold_next f k p q a _ line heads early feeds (frame_sends three all e) = absurd (omega (arith, (long f heads.frame).0, all, early))

  collide_next : (p : ℕ) (q : Queue) (sending : Bool) (left : Row) → GivesTurn q p left → Rests Collide true Busy sending left []
  collide_next p q sending _ (lasts less more) = collides more
  collide_next p q sending _ (gives end more) = collides more
  collide_next p q sending _ (stops {phase = phase} {left = queue} {draws = draws} end gone) = by active
    where
      by : (b : Bool) → AtRest (data_path_step Collide (told b false closed crs class hit Ended) []).0 phase queue Busy
          (data_path_step Collide (told b false closed crs class hit Ended) []).1
      by true = delays gone
      by false = silent gone

  -- while the opportunity is not the node's own
  pub rest_next : (path : State) (phase : Phase) (q : Queue) (d : Deference) (line : List ℕ) (a drawn : ℕ) → Fit q.frames → AtRest path phase q d line
      → Rests path (carrier path crs) d (is_sending phase) (row_of phase q a (may_start d (carrier path crs)) (collision path) drawn) line
  rest_next _ phase q d _ a drawn fit (silent gone) =
      idle_next active false closed crs class hit q a _ d true (is_sending phase) _ (gone_turns phase q a _ false drawn gone fit)
  rest_next _ phase q d _ a drawn fit (at_idle gone) =
      idle_next active false closed crs class hit q a _ d crs (is_sending phase) _ (gone_turns phase q a _ false drawn gone fit)
  rest_next _ phase q _ _ a drawn fit (delays {n = n} gone) = delay_next n q a (is_sending phase) _ (gone_turns phase q a false false drawn gone fit)
  rest_next _ phase q _ _ a drawn fit (pends gone) = pending_next q a (is_sending phase) _ (gone_turns phase q a false false drawn gone fit)
  rest_next _ _ q _ line a drawn fit (holds {f = f} {k = k} {p = p} heads early low feeds) =
      hold_next f k p q a _ line heads early feeds (send_turns q f k p a false heads low (omega (arith, (long f heads.frame).0, early)))
  rest_next _ phase q _ _ a drawn fit (collides {p = p} g) = collide_next p q (is_sending phase) _ (gives_turns p phase q a false true drawn g)
