-- A frame that waits: it stays in Pending until the opportunity, and then control is in Transmit soon.
use Rattle.std.proofs.Common.{◌≡◌, ℕ, zero, suc, ◌+◌, ◌-◌, ◌*◌, ◌<◌, ◌≤◌, ◌⊎◌, inl, inr, Bool, true, false, nat_lt, List, [], ◌∷◌, length, slice_get, Some, refl, sym, ◌∙◌, ap, subst, arith, add-one}
use Rattle.std.proofs.lemmas.Bool.{false≢true}
use Rattle.t1s_ring.specs.Queue.{Queue, with_last}
use Rattle.t1s_ring.specs.declared.queued.Queued.{Queued}
use Rattle.plca_control.specs.declared.State.{State as ControlStage}
use Rattle.plca_control.specs.ControlTable.{control_row, is_own}
use Rattle.plca_control.specs.Runs.{is_transmit}
use Rattle.plca_data.specs.declared.data_path.State.{State}
use Rattle.plca_data.specs.declared.data_path.State.TheVariants.{Pending}
use Rattle.plca_data.specs.DataPathTable.{begun}
use Rattle.t1s_mac.specs.declared.deference.Deference.{Deference}
use Rattle.t1s_mac.specs.declared.outcome.MacNote.{MacNote}
use Rattle.t1s_mac.specs.State.{Phase, MacState, with_queue}
use Rattle.t1s_pcs_tx.specs.State.{Stage}
use Rattle.t1s_node.specs.Core.{Core, core_after_offer, core_drive, control_in}
use Rattle.t1s_node.specs.Laws.{is_commit, PendsAt, CommitsFor}
use Rattle.t1s_node.specs.Runs.{CoreTick, DrawsAreBounded, IsUndisturbed, core_after_offers, core_at, found_at, left_at, own_at, note_at}
use Rattle.t1s_node.proofs.RunPlaces.{RunAt, ticks, run_at, after_tick, after_place, next_core}
use Rattle.t1s_node.proofs.CoreSteps.{Stands, first_stays}
use Rattle.t1s_node.proofs.JointPlaces.{Place, IsPending, Opens, Before, Goes, pends_on, pending_opens, opens_on, open_starts, Apart, away, row, Joint, idles, holds, collides, jams, delays, pends, waits, before, fed}
use Rattle.t1s_node.proofs.JointSteps.{apart_of}
use Rattle.t1s_node.proofs.MacTurns.{Heads, first_same}
use Rattle.t1s_node.proofs.JointTurns.{apart_own}
use Rattle.t1s_node.proofs.View.{View, InCommit, own_of, view_of, view_own, commit_view, view_commit, still_commit, now_transmits}
use Rattle.std.proofs.lemmas.Bool.{cond_both}

pending_place : (place : Place) (v : View) (phase : Phase) (q : Queue) (d : Deference) (a : ℕ) (stage : Stage) (part : ℕ) (path : State) (line : List ℕ)
    → Joint place v phase q d a stage part path line → path ≡ Pending → (f : Queued) × (place ≡ IsPending f) × Heads q f × Apart v
pending_place _ v phase q _ _ stage part _ _ (pends {f = f} out heads back free) e = (f, refl, heads, out)
pending_place _ _ _ _ _ _ _ _ _ _ _ e = absurd (cc)

pending_path : (f : Queued) (v : View) (phase : Phase) (q : Queue) (d : Deference) (a : ℕ) (stage : Stage) (part : ℕ) (path : State) (line : List ℕ)
    → Joint (IsPending f) v phase q d a stage part path line → (path ≡ Pending) × (slice_get q.frames 0 ≡ Some f) × Apart v
pending_path f v phase q _ _ stage part _ _ (pends out heads back free) = (refl, heads.first, out)

open_view : (f : Queued) (n : ℕ) (v : View) (phase : Phase) (q : Queue) (d : Deference) (a : ℕ) (stage : Stage) (part : ℕ) (path : State) (line : List ℕ)
    → Joint (Opens f n) v phase q d a stage part path line → (v ≡ InCommit n) × (begun path ≡ false) × (slice_get q.frames 0 ≡ Some f)
open_view f n _ _ q d _ stage part _ _ (waits opening heads free) = (refl, refl, heads.first)

before_begun : (f : Queued) (k p r : ℕ) (v : View) (phase : Phase) (q : Queue) (d : Deference) (a : ℕ) (stage : Stage) (part : ℕ) (path : State) (line : List ℕ)
    → Joint (Before f k p r) v phase q d a stage part path line → begun path ≡ true
before_begun f k p r v _ q _ a stage part _ line (before own heads tries quarter near free feeds) = refl

pub apart_not_commit : (n : ℕ) (v : View) → Apart v → v ≡ InCommit n → ⊥
apart_not_commit n _ away e = cc
apart_not_commit n _ (row low) e = cc

-- in Commit the frame is awaited, or goes through the line
commit_place : (n : ℕ) (place : Place) (v : View) (phase : Phase) (q : Queue) (d : Deference) (a : ℕ) (stage : Stage) (part : ℕ) (path : State) (line : List ℕ)
    → Joint place v phase q d a stage part path line → v ≡ InCommit n → ((f : Queued) × (m : ℕ) × (place ≡ Opens f m)) ⊎ (begun path ≡ true)
commit_place n _ _ _ q d _ stage part _ _ (waits {f = f} {n = m} opening heads free) e = inl (f, m, refl)
commit_place n _ v _ q _ a stage part _ line (before own heads tries quarter near free feeds) e = inr refl
commit_place n _ v _ q _ a stage _ _ line (fed own heads tries quarter ahead least most tx feeds) e = inr refl
commit_place n _ v phase q d _ stage part _ _ (idles out resting free) e = absurd (apart_not_commit n v out e)
commit_place n _ v _ q _ _ stage part _ line (holds {k = k} {p = p} {r = r} heads early quarter free al feeds) e = absurd (apart_not_commit n v (apart_of (4 * k + p) r v al) e)
commit_place n _ v _ q _ _ stage part _ _ (collides out heads within quarter free) e = absurd (apart_not_commit n v out e)
commit_place n _ v _ q _ _ stage part _ _ (jams out heads nibble quarter free) e = absurd (apart_not_commit n v out e)
commit_place n _ v phase q _ _ stage part _ _ (delays out heads least back free) e = absurd (apart_not_commit n v out e)
commit_place n _ v phase q _ _ stage part _ _ (pends out heads back free) e = absurd (apart_not_commit n v out e)
commit_place n _ _ _ _ _ _ _ _ _ _ _ e = absurd (cc)

opens_from : (place : Place) (f : Queued) (n : ℕ) (note : MacNote) (popped : List ℕ) → Goes place note popped (Opens f n) → (n ≡ 288) ⊎ ((m : ℕ) × (place ≡ Opens f m))
opens_from _ f _ _ _ pending_opens = inl refl
opens_from _ f n _ _ (opens_on {n = m} e more) = inr (m, refl)

not_commit : (st : ControlStage) → Apart (view_of st) → is_commit st ≡ false
not_commit st out = go (is_commit st) refl
  where
    go : (b : Bool) → is_commit st ≡ b → is_commit st ≡ false
    go false e = e
    go true e = let (n, view) = commit_view st e in absurd (apart_not_commit n (view_of st) out view)

module _ {D : Type 0} where
  offers_path : (c : Core D) (qs : List Queued) → (core_after_offers c qs).path ≡ c.path
  offers_path c [] = refl
  offers_path c (q ∷ qs) = offers_path (core_after_offer c q) qs

  offers_first : (c : Core D) (qs : List Queued) (f : Queued) → slice_get c.mac.queue.frames 0 ≡ Some f → slice_get (core_after_offers c qs).mac.queue.frames 0 ≡ Some f
  offers_first c [] f e = e
  offers_first c (q ∷ qs) f e =
      offers_first (core_after_offer c q) qs f
      (cond_both (nat_lt (length c.mac.queue.frames) c.mac.queue.room) (with_queue c.mac (with_last c.mac.queue q)) c.mac (λ (m : MacState D). slice_get m.queue.frames 0 ≡ Some f)
      (λ _. first_stays c.mac.queue.frames f q e) (λ _. e))

  offers_state : (c : Core D) (qs : List Queued) → (core_after_offers c qs).control.state ≡ c.control.state
  offers_state c [] = refl
  offers_state c (q ∷ qs) = offers_state (core_after_offer c q) qs

module _ {D : Type 0} (answer : D → ℕ → ℕ) (after : D → D) (bounded : DrawsAreBounded answer) (start : Core D) (given : ℕ → CoreTick) (end : ℕ)
    (calm : IsUndisturbed answer after start given end) where
  abbrev Run : ℕ → Type 0
  Run t = RunAt answer after bounded start given end calm t

  abbrev found : ℕ → Core D
  found t = found_at answer after start given t

  abbrev left : ℕ → Core D
  left t = left_at answer after start given t

  own_is : (t : ℕ) → own_at answer after start given t ≡ is_own (left t).control.state
  unfolding core_drive
  own_is t = refl

  pub state_is : (t : ℕ) → (left t).control.state ≡ (control_row (found t).control.set (found t).control.state (control_in (given t).reading (found t))).0
  unfolding core_drive
  state_is t = refl

  next_path : (t : ℕ) → (found (suc t)).path ≡ (left t).path
  next_path t = offers_path (core_at answer after start given (suc t)) (given (suc t)).offers ∙ ap (λ (c : Core D). c.path) (next_core answer after bounded start given end calm t)

  next_state : (t : ℕ) → (found (suc t)).control.state ≡ (left t).control.state
  next_state t = offers_state (core_at answer after start given (suc t)) (given (suc t)).offers ∙ ap (λ (c : Core D). c.control.state) (next_core answer after bounded start given end calm t)

  -- Pending
  abbrev PendsStep : Queued → ℕ → Type 0
  PendsStep f t =
      (own_at answer after start given t ≡ false → PendsAt answer after start given f t)
      × (own_at answer after start given t ≡ true → CommitsFor answer after start given f t)

  pends_step : (f : Queued) (t : ℕ) (to : Place) (note : MacNote) (popped : List ℕ) → is_commit (found t).control.state ≡ false
      → Goes (IsPending f) note popped to → Stands to (left t) → PendsStep f t
  pends_step f t _ _ _ from pends_on h =
      let (path, first, out) = pending_path f _ _ _ _ _ _ _ _ _ h.joint in
      let apart : own_at answer after start given t ≡ false = own_is t ∙ (view_own (left t).control.state ∙ apart_own (view_of (left t).control.state) out) in
      (λ own. (path, first), λ own. absurd (false≢true (sym apart ∙ own)))
  pends_step f t _ _ _ from pending_opens h =
      let (view, none, first) = open_view f 288 _ _ _ _ _ _ _ _ _ h.joint in
      let owned : own_at answer after start given t ≡ true = own_is t ∙ (view_own (left t).control.state ∙ ap own_of view) in (
        λ own. absurd (false≢true (sym own ∙ owned)),
        λ own. record { from = from; commits = view_commit (left t).control.state 288 view; first = first },
      )

  pub pends_until_own : Run zero → (f : Queued) (t : ℕ) → t < end → PendsAt answer after start given f t → PendsStep f (suc t)
  pends_until_own begin f t within pending =
      let run = run_at answer after bounded start given end calm begin (suc t) (omega arith) in
      let tick = ticks answer after bounded start given end calm (suc t) within run in
      let (g, same, heads, out) = pending_place run.place _ _ _ _ _ _ _ _ _ tick.found.joint (next_path t ∙ pending.0) in
      let first : slice_get (found (suc t)).mac.queue.frames 0 ≡ Some f =
      offers_first (core_at answer after start given (suc t)) (given (suc t)).offers f
      (ap (λ (c : Core D). slice_get c.mac.queue.frames 0) (next_core answer after bounded start given end calm t) ∙ pending.1) in
      let one : g ≡ f = first_same (found (suc t)).mac.queue g f heads.first first in
      pends_step f (suc t) tick.step.to (note_at answer after start given (suc t)) tick.step.popped (not_commit (found (suc t)).control.state out)
      (subst (λ (p : Place). Goes p (note_at answer after start given (suc t)) tick.step.popped tick.step.to) (same ∙ ap IsPending one) tick.step.goes) tick.step.stands

  -- Commit
  transmits_now : (t : ℕ) → is_commit (found t).control.state ≡ true → begun (found t).path ≡ true → is_transmit (left t).control.state ≡ true
  transmits_now t commit some =
      rw (state_is t) (now_transmits (found t).control.set (found t).control.state (control_in (given t).reading (found t)) commit some)

  transmits_next : (t : ℕ) → is_commit (left t).control.state ≡ true → begun (left t).path ≡ true → is_transmit (left (suc t)).control.state ≡ true
  transmits_next t commit some = transmits_now (suc t) (ap is_commit (next_state t) ∙ commit) (ap begun (next_path t) ∙ some)

  abbrev Transmits : ℕ → ℕ → Type 0
  Transmits t n = (u : ℕ) × (t ≤ u) × (u ≤ t + n) × (is_transmit (left u).control.state ≡ true)

  descends : (f : Queued) (m t n : ℕ) (to : Place) (note : MacNote) (popped : List ℕ) → n ≡ 191 + suc m → Goes (Opens f n) note popped to → Stands (Opens f n) (found t) → Stands to (left t)
      → ((n' : ℕ) → n' ≡ 191 + m → 1 ≤ m → to ≡ Opens f n' → Transmits (suc t) m) → Transmits t (suc m)
  descends f m t n _ _ _ count (opens_on {n' = n'} e more) from h again =
      let (u, low, high, there) = again n' (omega (arith, e, count)) (omega (arith, e, count, more)) refl in
      (u, omega (arith, low), omega (arith, high), there)
  descends f m t n _ _ _ count (open_starts {r = r} e low) from h again =
      let (view, none, first) = open_view f n _ _ _ _ _ _ _ _ _ from.joint in
      let commit : is_commit (left t).control.state ≡ true =
      rw (state_is t) (still_commit (found t).control.set (found t).control.state (control_in (given t).reading (found t)) n view (omega (arith, e)) none) in
      (suc t, omega arith, omega arith, transmits_next t commit (before_begun f 0 0 r _ _ _ _ _ _ _ _ _ h.joint))

  descend : (f : Queued) (m t n : ℕ) (run : Run t) → run.place ≡ Opens f n → n ≡ 191 + m → 1 ≤ m → t + m ≤ end → Transmits t m
  descend f zero t n run same count some within = absurd (omega arith)
  descend f (suc m) t n run same count some within =
      let tick = ticks answer after bounded start given end calm t (omega (arith, within)) run in
      let next : Run (suc t) = after_tick answer after bounded start given end calm t run tick in
      let place : next.place ≡ tick.step.to = after_place answer after bounded start given end calm t run tick in
      descends f m t n tick.step.to (note_at answer after start given t) tick.step.popped count
      (subst (λ (p : Place). Goes p (note_at answer after start given t) tick.step.popped tick.step.to) same tick.step.goes)
      (subst (λ (p : Place). Stands p (found t)) same tick.found) tick.step.stands
      (λ n' count' some' to. descend f m (suc t) n' next (place ∙ to) count' some' (omega (arith, within)))

  pub commits_briefly : Run zero → (t : ℕ) → t + 98 ≤ end → is_commit (found t).control.state ≡ false → is_commit (left t).control.state ≡ true
      → (k : ℕ) × (1 ≤ k) × (k ≤ 98) × (is_transmit (left (t + k)).control.state ≡ true)
  commits_briefly begin t within before_it commit =
      let run = run_at answer after bounded start given end calm begin t (omega arith) in
      let tick = ticks answer after bounded start given end calm t (omega arith) run in
      let next : Run (suc t) = after_tick answer after bounded start given end calm t run tick in
      let place : next.place ≡ tick.step.to = after_place answer after bounded start given end calm t run tick in
      let (n, view) = commit_view (left t).control.state commit in
      elim (commit_place n tick.step.to _ _ _ _ _ _ _ _ _ tick.step.stands.joint view) [
        | inl (f, m, opened) ↦
            let full : m ≡ 288 = full_timer t f m run.place (note_at answer after start given t) tick.step.popped tick.found before_it
            (subst (λ (p : Place). Goes run.place (note_at answer after start given t) tick.step.popped p) opened tick.step.goes) in
            let (u, low, high, there) = descend f 97 (suc t) m next (place ∙ opened) full (omega arith) (omega arith) in
            let on : t + (u - t) ≡ u = omega (arith, low) in
            (u - t, omega (arith, low), omega (arith, high), rw on there)
        | inr some ↦ (1, omega arith, omega arith, rw (add-one t) (transmits_next t commit some))
      ]
    where
      full_timer : (t : ℕ) (f : Queued) (m : ℕ) (place : Place) (note : MacNote) (popped : List ℕ) → Stands place (found t) → is_commit (found t).control.state ≡ false
          → Goes place note popped (Opens f m) → m ≡ 288
      full_timer t f m place note popped from before_it goes = elim (opens_from place f m note popped goes) [
        | inl full ↦ full
        | inr (n, same) ↦
            let h : Stands (Opens f n) (found t) = subst (λ (p : Place). Stands p (found t)) same from in
            let view = (open_view f n _ _ _ _ _ _ _ _ _ h.joint).0 in
            absurd (false≢true (sym before_it ∙ view_commit (found t).control.state n view))
      ]
