-- From Commit to the first H: the frame is in the line, or comes within the interframe gap.
use Rattle.std.proofs.Common.{◌≡◌, ℕ, zero, suc, ◌+◌, ◌-◌, ◌*◌, ◌<◌, ◌≤◌, Bool, true, false, List, slice_get, Some, refl, sym, ◌∙◌, subst, arith}
use Rattle.std.proofs.lemmas.Bool.{false≢true}
use Rattle.t1s_ring.specs.Queue.{Queue}
use Rattle.t1s_ring.specs.declared.queued.Queued.{Queued}
use Rattle.plca_data.specs.declared.data_path.State.{State}
use Rattle.plca_data.specs.DataPathTable.{ready}
use Rattle.t1s_mac.specs.declared.deference.Deference.{Deference}
use Rattle.t1s_mac.specs.declared.outcome.MacNote.{MacNote}
use Rattle.t1s_mac.specs.State.{Phase}
use Rattle.t1s_pcs_tx.specs.State.{Stage, is_closed}
use Rattle.t1s_pcs_tx.specs.TransmitTable.{report_of}
use Rattle.t1s_node.specs.Core.{Core, control_in}
use Rattle.t1s_node.specs.Laws.{LeavesAt, CommitsFor, is_commit}
use Rattle.t1s_node.specs.Runs.{CoreTick, DrawsAreBounded, IsUndisturbed, found_at, left_at, note_at}
use Rattle.t1s_node.proofs.RunPlaces.{RunAt, ticks, run_at, after_tick, after_place}
use Rattle.t1s_node.proofs.CoreSteps.{Stands}
use Rattle.t1s_node.proofs.JointPlaces.{Place, Holds, IsPending, Opens, Before, InPiece, Goes, holds_on, hold_fails, hold_opens, hold_pops, pends_on, pending_opens, opens_on, open_starts, before_on, before_pops, piece_lasts, piece_pops, piece_ends, Joint, holds, collides, pends, before, waits, fed}
use Rattle.t1s_node.proofs.JointSteps.{apart_of}
use Rattle.t1s_node.proofs.MacTurns.{Heads, count_of, long}
use Rattle.t1s_node.proofs.WaitingFrame.{apart_not_commit, state_is}
use Rattle.t1s_node.proofs.View.{View, InCommit, view_of, commit_view, view_commit, Turns, own_begins, commit_waits, row_turns}
use Rattle.t1s_node.proofs.FrameWays.{first_h_leaves}

-- the places of the way, with the ticks that are left at most
data LineWay (f : Queued) (n : ℕ) : Place → Type 0 where
  in_gap : {m : ℕ} → 192 ≤ m → m ≤ n + 176 → LineWay f n (Opens f m)
  in_line : {k p r : ℕ} → 144 ≤ count_of f → r + 12 ≤ n → LineWay f n (Before f k p r)
  in_start : {b : Bool} {i s : ℕ} → 144 ≤ count_of f → 8 ≤ n + 4 * i + s → 4 * i + s < 8 → LineWay f n (InPiece f b i s)

data LineStep (f : Queued) (n : ℕ) : Place → Type 0 where
  nearer : {place : Place} {m : ℕ} → n ≡ m + 1 → LineWay f m place → LineStep f n place
  first_h : {b : Bool} → LineStep f n (InPiece f b 2 0)

before_many : (f : Queued) (k p r : ℕ) (v : View) (phase : Phase) (q : Queue) (d : Deference) (a : ℕ) (stage : Stage) (part : ℕ) (path : State) (line : List ℕ)
    → Joint (Before f k p r) v phase q d a stage part path line → 144 ≤ count_of f
before_many f k p r v _ q _ a stage part _ line (before own heads tries quarter near free feeds) = (long f heads.frame).0

line_step : (f : Queued) (n : ℕ) (place to : Place) (news : MacNote) (popped : List ℕ) (v : View) (phase : Phase) (q : Queue) (d : Deference) (a : ℕ) (stage : Stage) (part : ℕ) (path : State) (line : List ℕ)
    → LineWay f n place → Goes place news popped to → Joint to v phase q d a stage part path line → LineStep f n to
line_step f n _ _ _ _ v phase q d a stage part path line (in_gap least most) (opens_on e more) h = nearer {m = n - 1} (omega (arith, least, most)) (in_gap more (omega (arith, most, e, least)))
line_step f n _ _ _ _ v phase q d a stage part path line (in_gap least most) (open_starts {r = r} e low) h = nearer {m = n - 1} (omega (arith, least, most)) (in_line (before_many f 0 0 r v phase q d a stage part path line h) (omega (arith, most, e, low)))
line_step f n _ _ _ _ v phase q d a stage part path line (in_line many near) (before_on less) h = nearer {m = n - 1} (omega (arith, near)) (in_line many (omega (arith, near, less)))
line_step f n _ _ _ _ v phase q d a stage part path line (in_line many near) (before_pops none) h = nearer {m = n - 1} (omega (arith, near)) (in_start many (omega (arith, near)) (omega arith))
line_step f n _ _ _ _ v phase q d a stage part path line (in_start many near early) (piece_lasts told less) h = nearer {m = n - 1} (omega (arith, near, early)) (in_start many (omega (arith, near)) (omega (arith, early, less)))
line_step f n _ _ _ _ v phase q d a stage part path line (in_start many near early) (piece_pops {i = zero} told three more) h = nearer {m = n - 1} (omega (arith, near, early)) (in_start many (omega (arith, near, three)) (omega (arith, early)))
line_step f n _ _ _ _ v phase q d a stage part path line (in_start many near early) (piece_pops {i = suc zero} told three more) h = first_h
line_step f n _ _ _ _ v phase q d a stage part path line (in_start many near early) (piece_pops {i = suc (suc i)} told three more) h = absurd (omega (arith, early))
line_step f n _ _ _ _ v phase q d a stage part path line (in_start many near early) (piece_ends three all) h = absurd (omega (arith, early, all, many))

line_left : (f : Queued) (place : Place) → LineWay f 0 place → ⊥
line_left f _ (in_gap least most) = omega (arith, least, most)
line_left f _ (in_line many near) = omega (arith, near)
line_left f _ (in_start many near early) = omega (arith, near, early)

-- the opportunity begins outside of it, where a frame is ready
begins_ready : (ready begun closed : Bool) (n : ℕ) (v : View) → ((m : ℕ) → v ≡ InCommit m → ⊥) → Turns ready begun closed v (InCommit n) → ready ≡ true
begins_ready ready begun closed n _ other (own_begins e) = e
begins_ready ready begun closed n _ other (commit_waits {n = m} e is) = absurd (other m refl)

data ReadyPlace : Place → Type 0 where
  held : {f : Queued} {k p : ℕ} → ReadyPlace (Holds f k p)
  pending : {f : Queued} → ReadyPlace (IsPending f)

ready_place : (place : Place) (v : View) (phase : Phase) (q : Queue) (d : Deference) (a : ℕ) (stage : Stage) (part : ℕ) (path : State) (line : List ℕ)
    → Joint place v phase q d a stage part path line → ready path ≡ true → ReadyPlace place
ready_place _ v _ q _ _ stage part _ line (holds heads early quarter free al feeds) e = held
ready_place _ v phase q _ _ stage part _ _ (pends out heads back free) e = pending
ready_place _ _ _ _ _ _ _ _ _ _ _ e = absurd (cc)

-- and then the way to the first H has begun
record Commits (q : Queue) (to : Place) : Type 0 where
  f : Queued
  first : slice_get q.frames 0 ≡ Some f
  way : LineWay f 112 to

piece_head : (f : Queued) (v : View) (phase : Phase) (q : Queue) (d : Deference) (a : ℕ) (stage : Stage) (part : ℕ) (path : State) (line : List ℕ)
    → Joint (InPiece f false 0 0) v phase q d a stage part path line → Heads q f
piece_head f v _ q _ a stage _ _ line (fed own heads tries quarter ahead least most tx feeds) = heads

committed : (n : ℕ) (place to : Place) (news : MacNote) (popped : List ℕ) (v : View) (phase : Phase) (q : Queue) (d : Deference) (a : ℕ) (stage : Stage) (part : ℕ) (path : State) (line : List ℕ)
    → ReadyPlace place → Goes place news popped to → Joint to v phase q d a stage part path line → v ≡ InCommit n → Commits q to
committed n _ _ _ _ v _ q _ _ stage part _ line held (holds_on on low high) (holds {k = k} {p = p} {r = r} heads early quarter free al feeds) e =
    absurd (apart_not_commit n v (apart_of (4 * k + p) r v al) e)
committed n _ _ _ _ v _ q _ _ stage part _ _ held (hold_fails on low high) (collides out heads within quarter free) e = absurd (apart_not_commit n v out e)
committed n _ _ _ _ v _ q _ a stage part _ line held (hold_opens {f = f} early quarter low) (before own heads tries high near free feeds) e =
    record { f = f; first = heads.first; way = in_line (long f heads.frame).0 (omega (arith, low)) }
committed n _ _ _ _ v phase q d a stage part path line held (hold_pops {f = f} early quarter) h e =
    let heads = piece_head f v phase q d a stage part path line h in
    record { f = f; first = heads.first; way = in_start (long f heads.frame).0 (omega arith) (omega arith) }
committed n _ _ _ _ v phase q _ _ stage part _ _ pending pends_on (pends out heads back free) e = absurd (apart_not_commit n v out e)
committed n _ _ _ _ _ _ q d _ stage part _ _ pending (pending_opens {f = f}) (waits opening heads free) e =
    record { f = f; first = heads.first; way = in_gap (omega arith) (omega arith) }

module _ {D : Type 0} (answer : D → ℕ → ℕ) (after : D → D) (bounded : DrawsAreBounded answer) (start : Core D) (given : ℕ → CoreTick) (end : ℕ)
    (calm : IsUndisturbed answer after start given end) where
  abbrev Run : ℕ → Type 0
  Run t = RunAt answer after bounded start given end calm t

  abbrev found : ℕ → Core D
  found t = found_at answer after start given t

  abbrev left : ℕ → Core D
  left t = left_at answer after start given t

  abbrev Arrives : Queued → ℕ → ℕ → Type 0
  Arrives f t n = (u : ℕ) × (t ≤ u) × (u < t + n) × LeavesAt answer after start given f u

  arrives : (f : Queued) (n t : ℕ) (to : Place) → LineStep f (suc n) to → (LineWay f n to → Arrives f (suc t) n) → Stands to (left t) → Arrives f t (suc n)
  arrives f n t _ (nearer {place = place} {m = m} less way) again h =
      let fewer : m ≡ n = omega (arith, less) in
      let (u, from, to, there) = again (subst (λ x. LineWay f x place) fewer way) in
      (u, omega (arith, from), omega (arith, to), there)
  arrives f n t _ (first_h {b = b}) again h =
      (t, omega arith, omega arith, first_h_leaves answer after bounded start given end calm f b t h)

  goes_along : (f : Queued) (n t : ℕ) (run : Run t) → LineWay f n run.place → t + n ≤ end + 1 → Arrives f t n
  goes_along f zero t run way within = absurd (line_left f run.place way)
  goes_along f (suc n) t run way within =
      let tick = ticks answer after bounded start given end calm t (omega (arith, within)) run in
      let next : Run (suc t) = after_tick answer after bounded start given end calm t run tick in
      let same : tick.step.to ≡ next.place = sym (after_place answer after bounded start given end calm t run tick) in
      arrives f n t tick.step.to
      (line_step f (suc n) run.place tick.step.to (note_at answer after start given t) tick.step.popped _ _ _ _ _ _ _ _ _ way tick.step.goes tick.step.stands.joint)
      (λ way'. goes_along f n (suc t) next (subst (λ (p : Place). LineWay f n p) same way') (omega (arith, within)))
      tick.step.stands

  -- how control's view turns in a tick
  turns_at : (t : ℕ) (place : Place) → Stands place (found t)
      → Turns (ready (found t).path) (control_in (given t).reading (found t)).begun (is_closed (report_of (found t).tx)) (view_of (found t).control.state) (view_of (left t).control.state)
  turns_at t place h =
      rw (state_is answer after bounded start given end calm t)
      (row_turns (found t).control.set (control_in (given t).reading (found t)) (found t).control.state h.counted)

  pub leaves_once_committed : Run zero → (t : ℕ) → t + 112 ≤ end → is_commit (found t).control.state ≡ false → is_commit (left t).control.state ≡ true
      → (f : Queued) × CommitsFor answer after start given f t × (k : ℕ) × (1 ≤ k) × (k ≤ 112) × LeavesAt answer after start given f (t + k)
  leaves_once_committed begin t within before_it commit =
      let run = run_at answer after bounded start given end calm begin t (omega arith) in
      let tick = ticks answer after bounded start given end calm t (omega arith) run in
      let next : Run (suc t) = after_tick answer after bounded start given end calm t run tick in
      let same : tick.step.to ≡ next.place = sym (after_place answer after bounded start given end calm t run tick) in
      let (n, view) = commit_view (left t).control.state commit in
      let turns = subst (λ (v : View). Turns (ready (found t).path) (control_in (given t).reading (found t)).begun (is_closed (report_of (found t).tx)) (view_of (found t).control.state) v) view
      (turns_at t run.place tick.found) in
      let is_ready : ready (found t).path ≡ true = begins_ready _ _ _ n _
      (λ m e. false≢true (sym before_it ∙ view_commit (found t).control.state m e)) turns in
      let goal : Commits (left t).mac.queue tick.step.to =
      committed n run.place tick.step.to (note_at answer after start given t) tick.step.popped _ _ _ _ _ _ _ _ _
      (ready_place run.place _ _ _ _ _ _ _ _ _ tick.found.joint is_ready) tick.step.goes tick.step.stands.joint view in
      let (u, low, high, leaves) = goes_along goal.f 112 (suc t) next (subst (λ (p : Place). LineWay goal.f 112 p) same goal.way) (omega arith) in
      let on : t + (u - t) ≡ u = omega (arith, low) in
      (goal.f, record { from = before_it; commits = commit; first = goal.first }, u - t, omega (arith, low), omega (arith, high), rw on leaves)
