-- A first frame that the MAC has not begun, along a run: it rests until it is begun; and where any frame of the queue is found.
use Rattle.std.proofs.Common.{◌≡◌, ℕ, zero, suc, ◌+◌, ◌-◌, ◌<◌, ◌≤◌, ◌⊎◌, inl, inr, Bool, true, false, nat_lt, List, [], ◌∷◌, ◌++◌, length, drop, slice_get, Some, refl, sym, ◌∙◌, ap, subst, arith}
use Rattle.std.proofs.lemmas.Bool.{false≢true, cond_both}
use Rattle.t1s_ring.specs.Queue.{Queue, with_last, empty_queue}
use Rattle.t1s_ring.specs.declared.queued.Queued.{Queued}
use Rattle.plca_control.specs.declared.ControlSet.{ControlSet}
use Rattle.plca_data.specs.DataPathTable.{carrier, collision}
use Rattle.t1s_mac.specs.DeferenceTable.{may_start}
use Rattle.t1s_mac.specs.MacTable.{Row, mac_row}
use Rattle.t1s_mac.specs.State.{Phase, MacState, with_queue}
use Rattle.t1s_mac.specs.declared.outcome.MacNote.TheVariants.{Sent}
use Rattle.t1s_node.specs.Core.{Core, core_drive, core_after_offer, core_start}
use Rattle.t1s_node.specs.Runs.{CoreTick, IsUndisturbed, core_after_offers, core_at, found_at, left_at, active_at, own_at, note_at, starts_at, is_first_nibble}
use Rattle.t1s_node.proofs.CoreSteps.{first_stays}
use Rattle.t1s_node.proofs.Deferral.{defers_briefly}
use Rattle.t1s_node.proofs.FrameStarts.{rests_not_first}
use Rattle.t1s_node.proofs.MacTurns.{Rests, rests, defers, Fit, StartTurn, starts, stays, rest_turns}
use Rattle.t1s_turns.specs.FirstFrame.{is_at_rest, HoldsFirst}
use Rattle.t1s_turns.proofs.FirstFrameQuiet.{waits_for_quiet}
use Rattle.t1s_turns.proofs.QueueOrder.{row_keeps, sent_drops}

-- ---- a frame at its place in a list

more_there : (frames : List Queued) (q : ℕ) (f x : Queued) → slice_get frames q ≡ Some f → slice_get (frames ++ x ∷ []) q ≡ Some f
more_there [] q f x e = absurd (cc)
more_there (y ∷ ys) zero f x e = e
more_there (y ∷ ys) (suc q) f x e = more_there ys q f x e

without_first : (frames : List Queued) (q : ℕ) (f : Queued) → slice_get frames (suc q) ≡ Some f → slice_get (drop 1 frames) q ≡ Some f
without_first [] q f e = absurd (cc)
without_first (x ∷ xs) q f e = e

pub some_first : (frames : List Queued) (q : ℕ) (f : Queued) → slice_get frames q ≡ Some f → 0 < length frames
some_first [] q f e = absurd (cc)
some_first (x ∷ xs) q f e = omega arith

some_last : (frames : List Queued) (x : Queued) → 0 < length frames → 0 < length (frames ++ x ∷ [])
some_last [] x some = omega arith
some_last (y ∷ ys) x some = omega arith

rests_on : (phase : Phase) (q : Queue) (x : Queued) → Rests phase q → Rests phase (with_last q x)
rests_on _ q x rests = rests
rests_on _ q x (defers some) = defers (some_last q.frames x some)

at_rest : (phase : Phase) (q : Queue) → Rests phase q → is_at_rest phase ≡ true
at_rest _ q rests = refl
at_rest _ q (defers some) = refl

module _ {D : Type 0} where
  -- the MAC has not begun its first frame
  pub record AtRest (f : Queued) (c : Core D) : Type 0 where
    pub rests : Rests c.mac.phase c.mac.queue
    pub fresh : c.mac.attempts ≡ 0
    pub first : slice_get c.mac.queue.frames 0 ≡ Some f

  offers_rest : (f : Queued) (c : Core D) (qs : List Queued) → AtRest f c → AtRest f (core_after_offers c qs)
  offers_rest f c [] h = h
  offers_rest f c (q ∷ qs) h =
      offers_rest f (core_after_offer c q) qs
      (cond_both (nat_lt (length c.mac.queue.frames) c.mac.queue.room) (with_queue c.mac (with_last c.mac.queue q)) c.mac (λ (m : MacState D). AtRest f (record c { mac = m }))
      (λ _. record { rests = rests_on c.mac.phase c.mac.queue q h.rests; fresh = h.fresh; first = first_stays c.mac.queue.frames f q h.first })
      (λ _. h))

  offers_there : (f : Queued) (q : ℕ) (c : Core D) (qs : List Queued) → slice_get c.mac.queue.frames q ≡ Some f → slice_get (core_after_offers c qs).mac.queue.frames q ≡ Some f
  offers_there f q c [] h = h
  offers_there f q c (x ∷ xs) h =
      offers_there f q (core_after_offer c x) xs
      (cond_both (nat_lt (length c.mac.queue.frames) c.mac.queue.room) (with_queue c.mac (with_last c.mac.queue x)) c.mac (λ (m : MacState D). slice_get m.queue.frames q ≡ Some f)
      (λ _. more_there c.mac.queue.frames q f x h)
      (λ _. h))

-- the row of a MAC at rest: it begins its frame, or goes on to rest
row_rests : (q : Queue) (attempts : ℕ) (may : Bool) (left : Row) → StartTurn q attempts may left
    → ((is_first_nibble left.phase ≡ true) × (left.queue ≡ q)) ⊎ (Rests left.phase left.queue × (left.attempts ≡ attempts) × (left.queue ≡ q))
row_rests q attempts may _ (starts e heads) = inl (refl, refl)
row_rests q attempts may _ (stays resting) = inr (resting, refl, refl)

module _ {D : Type 0} (answer : D → ℕ → ℕ) (after : D → D) (start : Core D) (given : ℕ → CoreTick) where
  abbrev found : ℕ → Core D
  found t = found_at answer after start given t

  abbrev left : ℕ → Core D
  left t = left_at answer after start given t

  abbrev row_at : ℕ → Row
  row_at t = mac_row answer (found t).mac (carrier (found t).path (given t).reading.crs) (collision (found t).path)

  phase_is : (t : ℕ) → (left t).mac.phase ≡ (row_at t).phase
  unfolding core_drive
  phase_is t = refl

  queue_is : (t : ℕ) → (left t).mac.queue ≡ (row_at t).queue
  unfolding core_drive
  queue_is t = refl

  attempts_is : (t : ℕ) → (left t).mac.attempts ≡ (row_at t).attempts
  unfolding core_drive
  attempts_is t = refl

  -- the next tick finds what this one left, and its offers behind it
  next_rest : (f : Queued) (t : ℕ) → AtRest f (left t) → AtRest f (found (suc t))
  unfolding core_at
  next_rest f t h = offers_rest f (left t) (given (suc t)).offers h

  next_there : (f : Queued) (q t : ℕ) → slice_get (left t).mac.queue.frames q ≡ Some f → slice_get (found (suc t)).mac.queue.frames q ≡ Some f
  unfolding core_at
  next_there f q t h = offers_there f q (left t) (given (suc t)).offers h

  -- ---- a frame behind others

  moves : (f : Queued) (q t : ℕ) → slice_get (found t).mac.queue.frames (suc q) ≡ Some f
      → (slice_get (left t).mac.queue.frames q ≡ Some f) ⊎ (slice_get (left t).mac.queue.frames (suc q) ≡ Some f)
  moves f q t e =
      let c : Core D = found t in
      subst (λ (x : Queue). (slice_get x.frames q ≡ Some f) ⊎ (slice_get x.frames (suc q) ≡ Some f)) (sym (queue_is t))
      (row_keeps (λ (x : Queue). (slice_get x.frames q ≡ Some f) ⊎ (slice_get x.frames (suc q) ≡ Some f)) c.mac.queue (inr e) (inl (without_first c.mac.queue.frames q f e)) c.mac.phase c.mac.attempts
      (may_start c.mac.deference (carrier c.path (given t).reading.crs)) (collision c.path) (answer c.mac.draws (c.mac.attempts + 1)))

  -- by the tick in which a frame is sent, one that is not the first has one frame fewer before it
  pub moves_up : (f : Queued) (q number n t : ℕ) → slice_get (found t).mac.queue.frames (suc q) ≡ Some f → note_at answer after start given (t + n) ≡ Sent number
      → (w : ℕ) × (t ≤ w) × (w ≤ t + n) × (slice_get (found (suc w)).mac.queue.frames q ≡ Some f)
  moves_up f q number zero t e sent =
      let here : t + zero ≡ t = omega arith in
      let note : note_at answer after start given t ≡ Sent number = rw here at sent in
      let gone : slice_get (left t).mac.queue.frames q ≡ Some f =
      subst (λ (x : Queue). slice_get x.frames q ≡ Some f) (sym (sent_drops answer after start given t number note)) (without_first (found t).mac.queue.frames q f e) in
      (t, omega arith, omega arith, next_there f q t gone)
  moves_up f q number (suc n) t e sent =
      let here : t + suc n ≡ suc t + n = omega arith in
      elim (moves f q t e) [
        | inl gone ↦ (t, omega arith, omega arith, next_there f q t gone)
        | inr still ↦
            let (w, low, high, there) = moves_up f q number n (suc t) (next_there f (suc q) t still) (rw here at sent) in
            (w, omega (arith, low), omega (arith, high), there)
      ]

  -- ---- a first frame at rest

  -- the frame is begun in a tick from one to another
  pub record Started (f : Queued) (low high : ℕ) : Type 0 where
    pub s : ℕ
    pub from : low ≤ s
    pub to : s ≤ high
    pub starts : starts_at answer after start given s ≡ true
    pub first : slice_get (left s).mac.queue.frames 0 ≡ Some f

  earlier : (f : Queued) (low low' high high' : ℕ) → low' ≤ low → high ≤ high' → Started f low high → Started f low' high'
  earlier f low low' high high' less more h = record { s = h.s; from = omega (arith, h.from, less); to = omega (arith, h.to, more); starts = h.starts; first = h.first }

  module _ (end : ℕ) (fits : (t : ℕ) → t ≤ end → Fit (found t).mac.queue.frames) where
    rest_step : (f : Queued) (t : ℕ) → t ≤ end → AtRest f (found t) → ((starts_at answer after start given t ≡ true) × (slice_get (left t).mac.queue.frames 0 ≡ Some f)) ⊎ AtRest f (left t)
    rest_step f t within h =
        let c : Core D = found t in
        elim (row_rests c.mac.queue c.mac.attempts (may_start c.mac.deference (carrier c.path (given t).reading.crs)) (row_at t)
        (rest_turns c.mac.phase c.mac.queue c.mac.attempts (may_start c.mac.deference (carrier c.path (given t).reading.crs)) (collision c.path) (answer c.mac.draws (c.mac.attempts + 1)) h.rests (fits t within))) [
          | inl (first, same) ↦ inl (ap is_first_nibble (phase_is t) ∙ first, ap (λ (x : Queue). slice_get x.frames 0) (queue_is t ∙ same) ∙ h.first)
          | inr (resting, tries, same) ↦ inr (record {
            rests = subst (λ (x : Queue). Rests (left t).mac.phase x) (sym (queue_is t)) (subst (λ (p : Phase). Rests p (row_at t).queue) (sym (phase_is t)) resting);
            fresh = attempts_is t ∙ tries ∙ h.fresh;
            first = ap (λ (x : Queue). slice_get x.frames 0) (queue_is t ∙ same) ∙ h.first;
          })
        ]

    rests_until : (f : Queued) (n t : ℕ) → t + n ≤ end → AtRest f (found t) → Started f t (t + n) ⊎ AtRest f (found (t + n))
    rests_until f zero t within h = let here : t + zero ≡ t = omega arith in inr (rw here h)
    rests_until f (suc n) t within h =
        let here : t + suc n ≡ suc t + n = omega arith in
        elim (rest_step f t (omega (arith, within)) h) [
          | inl (first, head) ↦ inl (record { s = t; from = omega arith; to = omega arith; starts = first; first = head })
          | inr still ↦ elim (rests_until f n (suc t) (omega (arith, within)) (next_rest f t still)) [
            | inl started ↦ inl (earlier f (suc t) t (suc t + n) (t + suc n) (omega arith) (omega arith) started)
            | inr later ↦ inr (rw here later)
          ]
        ]

    first_start : (f : Queued) (n t : ℕ) → t + n ≤ end → AtRest f (found t) → starts_at answer after start given (t + n) ≡ true → Started f t (t + n)
    first_start f zero t within h begins =
        let here : t + zero ≡ t = omega arith in
        elim (rest_step f t (omega (arith, within)) h) [
          | inl (first, head) ↦ record { s = t; from = omega arith; to = omega arith; starts = first; first = head }
          | inr still ↦ absurd (false≢true (sym (rests_not_first (left t).mac.phase (left t).mac.queue still.rests) ∙ (rw here at begins)))
        ]
    first_start f (suc n) t within h begins =
        let here : t + suc n ≡ suc t + n = omega arith in
        elim (rest_step f t (omega (arith, within)) h) [
          | inl (first, head) ↦ record { s = t; from = omega arith; to = omega arith; starts = first; first = head }
          | inr still ↦ earlier f (suc t) t (suc t + n) (t + suc n) (omega arith) (omega arith) (first_start f n (suc t) (omega (arith, within)) (next_rest f t still) (rw here at begins))
        ]

module _ {D : Type 0} (answer : D → ℕ → ℕ) (after : D → D) (set : ControlSet) (room : ℕ) (draws : D) (given : ℕ → CoreTick) (end : ℕ)
    (calm : IsUndisturbed answer after (core_start set (empty_queue room) draws) given end) where
  abbrev begun : Core D
  begun = core_start set (empty_queue room) draws

  -- Behind tick y there is neither carrier nor an own opportunity: the frame is begun within 96 ticks after the next one.
  pub starts_soon : ((t : ℕ) → t ≤ end → Fit (found_at answer after begun given t).mac.queue.frames) → (f : Queued) (t y : ℕ) → t ≤ y → y + 97 ≤ end
      → AtRest f (found_at answer after begun given t)
      → active_at answer after begun given y ≡ true → own_at answer after begun given y ≡ false → (given (suc y)).reading.crs ≡ false
      → Started answer after begun given f t (y + 97)
  starts_soon fits f t y low within h active out quiet =
      let same_tick : t + (suc y - t) ≡ suc y = omega (arith, low) in
      elim (rests_until answer after begun given end fits f (suc y - t) t (omega (arith, low, within)) h) [
        | inl started ↦ earlier answer after begun given f t t (t + (suc y - t)) (y + 97) (omega arith) (omega (arith, low)) started
        | inr still ↦
            let here : AtRest f (found_at answer after begun given (suc y)) = rw same_tick at still in
            let holds : HoldsFirst (found_at answer after begun given (suc y)).mac =
            record { at_rest = at_rest _ _ here.rests; fresh = here.fresh; some = some_first (found_at answer after begun given (suc y)).mac.queue.frames 0 f here.first } in
            let (shown, begins) = waits_for_quiet answer after set room draws given end calm y (omega (arith, within)) active out holds quiet in
            elim begins [
              | inl now ↦ starting (suc y) (omega (arith, low)) (omega arith) now
              | inr deferring ↦
                  let (k, least, most, begins_then) = defers_briefly answer after begun given tt (suc y) shown deferring in
                  starting (suc y + k) (omega (arith, low)) (omega (arith, most)) begins_then
            ]
      ]
    where
      starting : (s : ℕ) → t ≤ s → s ≤ y + 97 → starts_at answer after begun given s ≡ true → Started answer after begun given f t (y + 97)
      starting s from to begins =
          let same_tick : t + (s - t) ≡ s = omega (arith, from) in
          earlier answer after begun given f t t (t + (s - t)) (y + 97) (omega arith) (omega (arith, from, to))
          (first_start answer after begun given end fits f (s - t) t (omega (arith, from, to, within)) h (rw same_tick begins))
