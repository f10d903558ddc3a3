-- A frame of a node's queue leaves in time: the first from wherever it is on its way, and each other one behind it.
use Rattle.std.proofs.Common.{◌≡◌, ℕ, zero, suc, ◌+◌, ◌-◌, ◌*◌, ◌≤◌, ◌⊎◌, inl, inr, true, false, List, length, slice_get, Some, refl, sym, ap, subst, arith}
use Rattle.std.specs.List.{All}
use Rattle.t1s_frame.specs.Frame.{IsFrame, nibble_list}
use Rattle.t1s_ring.specs.declared.queued.Queued.{Queued}
use Rattle.plca_control.specs.ControlTable.{mine}
use Rattle.t1s_mac.specs.PickedDraws.{picked_answer, picked_after}
use Rattle.t1s_mac.specs.declared.outcome.MacNote.TheVariants.{Sent}
use Rattle.t1s_mac.specs.declared.picked_draws.PickedDraws.{PickedDraws}
use Rattle.t1s_node.specs.declared.settings.NodeSet.{NodeSet}
use Rattle.t1s_node.specs.Core.{Core}
use Rattle.t1s_node.specs.Laws.{LeavesAt, PendsAt}
use Rattle.t1s_node.specs.Node.{NodeState, IsNodeSet}
use Rattle.t1s_node.specs.NodeRuns.{NodeTick, core_ticks}
use Rattle.t1s_node.specs.Runs.{CoreTick, IsUndisturbed, found_at, left_at, active_at, note_at}
use Rattle.t1s_node.proofs.CommitToFirstH.{leaves_once_committed}
use Rattle.t1s_node.proofs.CoreSteps.{start_stands}
use Rattle.t1s_node.proofs.FirstH.{sends_whole}
use Rattle.t1s_node.proofs.FrameWays.{OnWay, leaves_or_pends}
use Rattle.t1s_node.proofs.JointPlaces.{Place, InPiece}
use Rattle.t1s_node.proofs.MacTurns.{Fit, head_of, count_of, long, first_same}
use Rattle.t1s_node.proofs.RunPlaces.{RunAt, Since, ticks}
use Rattle.t1s_world.specs.Waves.{Wave, EachWave, AreWaves}
use Rattle.t1s_turns.specs.NextOpportunity.{LastsAtMost}
use Rattle.t1s_turns.specs.NodeOverWaves.{cycle_of, HasLowIds, started, HearsWaves}
use Rattle.t1s_turns.proofs.FrameWait.{AtRest, starts_soon, moves_up, some_first}
use Rattle.t1s_turns.proofs.FrameWay.{HasShortWait, Whereabouts, not_begun, on_way, waits_for_turn, opens_now, has_left, whereabouts, head_frame, first_run, run_on, Comes, comes, opening_comes, turn_pends, piece_comes, sent_by_end}
use Rattle.t1s_turns.proofs.TurnTaken.{calm, quiet_tick, commits_in_time}

module _ (set : NodeSet) (is_set : IsNodeSet set) (low_ids : HasLowIds set) (own_id : ℕ) (owned : mine set.control own_id ≡ true) (room : ℕ) (draws : PickedDraws) (given : ℕ → NodeTick)
    (frames : (u : ℕ) → All (λ (q : Queued). IsFrame q.frame) (given u).offers) (begin end : ℕ) (ws : List Wave)
    (waves : AreWaves (cycle_of set) begin (begin + end) ws) (hears : HearsWaves set room draws given begin (begin + end) ws)
    (longest unit : ℕ) (most : EachWave (LastsAtMost longest) ws) (big : set.control.to + (longest + set.fall) ≤ unit) where
  abbrev first : NodeState
  first = started set room draws given begin

  abbrev start : Core PickedDraws
  start = first.core

  abbrev told : ℕ → CoreTick
  told = core_ticks first given

  abbrev found : ℕ → Core PickedDraws
  found t = found_at picked_answer picked_after start told t

  abbrev left : ℕ → Core PickedDraws
  left t = left_at picked_answer picked_after start told t

  abbrev still : IsUndisturbed picked_answer picked_after start told end
  still = calm set is_set low_ids room draws given frames begin end ws waves hears

  abbrev Run : ℕ → Type 0
  Run t = RunAt picked_answer picked_after still.draws start told end still t

  abbrev Active : ℕ → Type 0
  Active t = active_at picked_answer picked_after start told t ≡ true

  abbrev Heading : Queued → ℕ → Type 0
  Heading f t = slice_get (found t).mac.queue.frames 0 ≡ Some f

  abbrev Leaves : Queued → ℕ → Type 0
  Leaves f t = LeavesAt picked_answer picked_after start told f t

  -- a cycle of opportunities
  abbrev cycle : ℕ
  cycle = (set.control.count + 1) * unit

  -- from a tick in which it is the first until its first H, a frame takes no longer than this
  abbrev early : ℕ
  early = longest + set.fall + cycle + 1209

  runs : (t : ℕ) → t ≤ suc end → (run : Run t) × HasShortWait run.place
  runs t within =
      let begins = first_run picked_answer picked_after still.draws start told end still (start_stands set.control room draws) in
      run_on picked_answer picked_after still.draws start told end still begins.0 begins.1 t within

  start_run : Run zero
  start_run = (runs zero (omega arith)).0

  fits : (t : ℕ) → t ≤ end → Fit (found t).mac.queue.frames
  fits t within = (ticks picked_answer picked_after still.draws start told end still t within (runs t (omega (arith, within))).0).found.fit

  pends_leaves : (f : Queued) (v : ℕ) → v + 114 + cycle ≤ end → Active v → PendsAt picked_answer picked_after start told f v → (x : ℕ) × (v ≤ x) × (x ≤ v + 113 + cycle) × Leaves f x
  pends_leaves f v within active pending =
      let (c, low, high, commits) = commits_in_time set is_set low_ids room draws given frames begin end ws waves hears longest unit most big own_id owned start_run f v (omega (arith, within)) active pending in
      let (g, again, k, least, few, leaves) = leaves_once_committed picked_answer picked_after still.draws start told end still start_run c (omega (arith, high, within)) commits.from commits.commits in
      let same : g ≡ f = first_same (left c).mac.queue g f again.first commits.first in
      (c + k, omega (arith, low), omega (arith, high, few), subst (λ (x : Queued). Leaves x (c + k)) same leaves)

  there_leaves : (f : Queued) (v : ℕ) → v + 114 + cycle ≤ end → Active v → Leaves f v ⊎ PendsAt picked_answer picked_after start told f v
      → (x : ℕ) × (v ≤ x) × (x ≤ v + 113 + cycle) × Leaves f x
  there_leaves f v within active (inl leaves) = (v, omega arith, omega arith, leaves)
  there_leaves f v within active (inr pending) = pends_leaves f v within active pending

  -- ---- the first frame

  data FirstFrame (f : Queued) (t : ℕ) : Type 0 where
    leaves_later : (x : ℕ) → t ≤ x → x ≤ t + early → Leaves f x → FirstFrame f t
    left_before : (run : Run t) (i s : ℕ) → run.place ≡ InPiece f false i s → 8 ≤ 4 * i + s → FirstFrame f t

  coming : (f : Queued) (t high : ℕ) → high ≤ t + (longest + set.fall + 1096) → t + early + 1 ≤ end → Active t → Comes picked_answer picked_after still.draws start told end still f t high → FirstFrame f t
  coming f t high soon within active h =
      let on : Active h.v = still.stays_active t h.v h.from (omega (arith, h.to, soon, within)) active in
      let (x, low, top, leaves) = there_leaves f h.v (omega (arith, h.to, soon, within)) on h.there in
      leaves_later x (omega (arith, low, h.from)) (omega (arith, top, h.to, soon)) leaves

  not_begun_yet : (f : Queued) (t : ℕ) → t + early + 1 ≤ end → Active t → AtRest f (found t) → FirstFrame f t
  not_begun_yet f t within active h =
      let silent = quiet_tick set is_set low_ids room draws given frames begin end ws waves hears longest unit most big t (omega (arith, within)) in
      let on : Active silent.y = still.stays_active t silent.y silent.from (omega (arith, silent.to, within)) active in
      let begins = starts_soon picked_answer picked_after set.control room draws told end still fits f t silent.y silent.from (omega (arith, silent.to, within)) h on silent.unowned silent.silence in
      let (g, heads, k, least, few, there) = leaves_or_pends picked_answer picked_after still.draws start told end still start_run begins.s (omega (arith, begins.to, silent.to, within)) begins.starts in
      let same : g ≡ f = first_same (left begins.s).mac.queue g f heads begins.first in
      coming f t (t + (longest + set.fall + 1096)) (omega arith) within active (record {
        v = begins.s + k;
        from = omega (arith, begins.from);
        to = omega (arith, begins.to, silent.to, few);
        there = subst (λ (x : Queued). Leaves x (begins.s + k) ⊎ PendsAt picked_answer picked_after start told x (begins.s + k)) {x = g} same there;
      })

  first_frame : (f : Queued) (t : ℕ) → t + early + 1 ≤ end → Active t → Heading f t → FirstFrame f t
  first_frame f t within active head =
      let (run, short) = runs t (omega (arith, within)) in
      let tick = ticks picked_answer picked_after still.draws start told end still t (omega (arith, within)) run in
      go run (whereabouts f run.place _ (found t).mac.phase (found t).mac.queue _ (found t).mac.attempts _ _ _ _ tick.found.joint short head) refl
    where
      many : 144 ≤ count_of f
      many = (long f (head_frame (found t).mac.queue.frames f (fits t (omega (arith, within))) head)).0

      go : (run : Run t) {place : Place} → Whereabouts f (found t).mac.phase (found t).mac.queue (found t).mac.attempts place → run.place ≡ place → FirstFrame f t
      go run (not_begun resting fresh) same = not_begun_yet f t within active (record { rests = resting; fresh = fresh; first = head })
      go run (on_way way) same =
          coming f t (t + 999) (omega arith) within active
          (comes picked_answer picked_after still.draws start told end still f t run many (omega (arith, within)) (subst (λ (p : Place). OnWay f 1000 p) (sym same) way))
      go run waits_for_turn same =
          coming f t (t + 112) (omega arith) within active (turn_pends picked_answer picked_after still.draws start told end still f t run many (omega (arith, within)) same)
      go run (opens_now {n = n} least high) same =
          coming f t (t + 111) (omega arith) within active (opening_comes picked_answer picked_after still.draws start told end still f n t run many (omega (arith, within)) same least high)
      go run (has_left {i = i} {s = s} late) same = left_before run i s same late

  -- it is sent no later than its nibbles take
  sent_in_time : (f : Queued) (t : ℕ) → t + early + 12241 ≤ end → Active t → Heading f t
      → (w : ℕ) × (number : ℕ) × (t ≤ w) × (w ≤ t + early + 12240) × (note_at picked_answer picked_after start told w ≡ Sent number)
  sent_in_time f t within active head = go (first_frame f t (omega (arith, within)) active head)
    where
      few : count_of f ≤ 3060
      few = (long f (head_frame (found t).mac.queue.frames f (fits t (omega (arith, within))) head)).1

      go : FirstFrame f t → (w : ℕ) × (number : ℕ) × (t ≤ w) × (w ≤ t + early + 12240) × (note_at picked_answer picked_after start told w ≡ Sent number)
      go (leaves_later x low high leaves) =
          let (g, begun, heads, name, is, piece) = sends_whole picked_answer picked_after still.draws start told end still start_run x f.number (omega (arith, high, within)) leaves.0 in
          let same : g ≡ f = first_same (left x).mac.queue g f heads leaves.1 in
          let nibbles : length (nibble_list g.frame) ≡ count_of f = ap count_of same in
          let (w, after_h, before_t, sent) = piece.sent (omega (arith, nibbles, few, is, high, within)) in
          (w, g.number, omega (arith, after_h, is, low), omega (arith, before_t, nibbles, few, is, high), sent)
      go (left_before run i s place late) =
          let (w, low, high, sent) = sent_by_end picked_answer picked_after still.draws start told end still f (4 * count_of f) i s t run place (omega arith) (omega (arith, few, within)) in
          (w, f.number, low, omega (arith, high, few), sent)

  -- ---- any frame

  module _ (bound : ℕ) (enough : early + 12242 ≤ bound) where
    first_in_time : (f : Queued) (u : ℕ) → Active u → Heading f u → u + bound ≤ end → (v : ℕ) × (v ≤ u + bound) × Leaves f v
    first_in_time f u active head within = go (first_frame f u (omega (arith, within, enough)) active head)
      where
        many : 144 ≤ count_of f
        many = (long f (head_frame (found u).mac.queue.frames f (fits u (omega (arith, within))) head)).0

        go : FirstFrame f u → (v : ℕ) × (v ≤ u + bound) × Leaves f v
        go (leaves_later x low high leaves) = (x, omega (arith, high, enough), leaves)
        go (left_before run i s place late) =
            let since = subst (λ (p : Place). Since picked_answer picked_after still.draws start told end still u p) place run.since in
            let (began, passed, (a, before, on), h) = piece_comes picked_answer picked_after still.draws start told end still f (4 * i + s) u many since late (omega (arith, within)) in
            let active_then : Active h.v = still.stays_active a h.v (omega (arith, before, h.from)) (omega (arith, h.to, passed, within)) on in
            let (x, low, top, leaves) = there_leaves f h.v (omega (arith, h.to, passed, within, enough)) active_then h.there in
            (x, omega (arith, top, h.to, passed, enough), leaves)

    pub leaves_in_time : (q : ℕ) (f : Queued) (u : ℕ) → Active u → slice_get (found u).mac.queue.frames q ≡ Some f → u + (q + 1) * bound ≤ end → (v : ℕ) × (v ≤ u + (q + 1) * bound) × Leaves f v
    leaves_in_time zero f u active there within =
        let (v, high, leaves) = first_in_time f u active there (omega (arith, within)) in (v, omega (arith, high), leaves)
    leaves_in_time (suc q) f u active there within =
        let (g, heads) = head_of (found u).mac.queue (some_first (found u).mac.queue.frames (suc q) f there) (fits u (omega (arith, within))) in
        let all : (suc q + 1) * bound ≡ (q + 1) * bound + bound = omega arith in
        let (w, number, low, high, sent) = sent_in_time g u (omega (arith, all, within, enough)) active heads.first in
        let span : u + (w - u) ≡ w = omega (arith, low) in
        let (x, from, to, next) = moves_up picked_answer picked_after start told f q number (w - u) u there (rw span sent) in
        let on : Active (suc x) = still.stays_active u (suc x) (omega (arith, from)) (omega (arith, to, span, high, within, all, enough)) active in
        let (v, top, leaves) = leaves_in_time q f (suc x) on next (omega (arith, to, span, high, within, all, enough)) in
        (v, omega (arith, top, to, span, high, all, enough), leaves)
