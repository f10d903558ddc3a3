-- What holds of the frames in a MAC's queue and of the offers that are still to come, where it holds of any of them alone.
use Rattle.std.proofs.Common.{◌≡◌, ℕ, zero, suc, ◌+◌, ◌==◌, Bool, true, false, ◌&&◌, ◌||◌, nat_lt, nat_le, List, [], ◌∷◌, ◌++◌, length, drop, refl, sym, ◌∙◌, subst, arith, append_assoc}
use Rattle.std.proofs.lemmas.Bool.{cond_both}
use Rattle.t1s_ring.specs.Queue.{Queue, with_last, without_head}
use Rattle.t1s_ring.specs.declared.queued.Queued.{Queued}
use Rattle.plca_data.specs.DataPathTable.{carrier, collision}
use Rattle.t1s_mac.specs.DeferenceTable.{may_start}
use Rattle.t1s_mac.specs.MacTable.{Row, row_of, mac_row, deferring, last_quarter, last_jam_nibble, last_attempt, preamble_nibbles}
use Rattle.t1s_mac.specs.State.{Phase, Resting, Deferring, Waiting, Sending, Jamming, MacState, head_nibbles, with_queue}
use Rattle.t1s_mac.specs.declared.outcome.MacNote.TheVariants.{Sent}
use Rattle.t1s_node.specs.Core.{Core, core_drive, core_after_offer}
use Rattle.t1s_node.specs.Runs.{CoreTick, core_after_offers, core_at, found_at, left_at, note_at}
use Rattle.t1s_turns.specs.Leavings.{offers_from, AllAbove, RanksAscend}

-- it holds of a list without any one of its frames
pub record Removes (P : List Queued → Type 0) : Type 0 where
  pub without : (xs : List Queued) (q : Queued) (ys : List Queued) → P (xs ++ q ∷ ys) → P (xs ++ ys)

above_removes : (rank : ℕ → ℕ) (least : ℕ) (xs : List Queued) (q : Queued) (ys : List Queued) → AllAbove rank least (xs ++ q ∷ ys) → AllAbove rank least (xs ++ ys)
above_removes rank least [] q ys h = h.1
above_removes rank least (x ∷ xs) q ys h = (h.0, above_removes rank least xs q ys h.1)

pub above : (rank : ℕ → ℕ) (least : ℕ) → Removes (AllAbove rank least)
above rank least = record { without = above_removes rank least }

ascend_removes : (rank : ℕ → ℕ) (xs : List Queued) (q : Queued) (ys : List Queued) → RanksAscend rank (xs ++ q ∷ ys) → RanksAscend rank (xs ++ ys)
ascend_removes rank [] q ys h = h.1
ascend_removes rank (x ∷ xs) q ys h = (above_removes rank (rank x.number) xs q ys h.0, ascend_removes rank xs q ys h.1)

pub ascend : (rank : ℕ → ℕ) → Removes (RanksAscend rank)
ascend rank = record { without = ascend_removes rank }

-- a row leaves the queue, or drops its head
module _ (F : Queue → Type 0) (q : Queue) (stays : F q) (dropped : F (without_head q)) where
  abbrev Left : Row → Type 0
  Left left = F left.queue

  deferring_keeps : (a : ℕ) (may : Bool) → Left (deferring q a may)
  deferring_keeps a true = stays
  deferring_keeps a false = stays

  pub row_keeps : (phase : Phase) (a : ℕ) (may hit : Bool) (drawn : ℕ) → Left (row_of phase q a may hit drawn)
  row_keeps Resting a may hit drawn = cond_both (nat_lt 0 (length q.frames)) _ _ Left (λ _. deferring_keeps a may) (λ _. stays)
  row_keeps (Waiting left) a may hit drawn = cond_both (left == 0) _ _ Left (λ _. deferring_keeps a may) (λ _. stays)
  row_keeps Deferring a may hit drawn = deferring_keeps a may
  row_keeps (Sending k p c) a may hit drawn =
      cond_both (nat_lt p last_quarter) _ _ Left (λ _. stays) (λ _.
      cond_both ((c || hit) && nat_le preamble_nibbles (k + 1)) _ _ Left (λ _. stays) (λ _.
      cond_both (k + 1 == length (head_nibbles q)) _ _ Left (λ _. dropped) (λ _. stays)))
  row_keeps (Jamming j p) a may hit drawn =
      cond_both (nat_lt p last_quarter) _ _ Left (λ _. stays) (λ _.
      cond_both (nat_lt j last_jam_nibble) _ _ Left (λ _. stays) (λ _.
      cond_both (a == last_attempt) _ _ Left (λ _. dropped) (λ _. stays)))

-- a row that notes Sent drops it
module _ (q : Queue) (number : ℕ) where
  abbrev Drops : Row → Type 0
  Drops left = left.note ≡ Sent number → left.queue ≡ without_head q

  deferring_drops : (a : ℕ) (may : Bool) → Drops (deferring q a may)
  deferring_drops a true e = absurd (cc)
  deferring_drops a false e = absurd (cc)

  pub row_drops : (phase : Phase) (a : ℕ) (may hit : Bool) (drawn : ℕ) → Drops (row_of phase q a may hit drawn)
  row_drops Resting a may hit drawn = cond_both (nat_lt 0 (length q.frames)) _ _ Drops (λ _. deferring_drops a may) (λ _ e. absurd (cc))
  row_drops (Waiting left) a may hit drawn = cond_both (left == 0) _ _ Drops (λ _. deferring_drops a may) (λ _ e. absurd (cc))
  row_drops Deferring a may hit drawn = deferring_drops a may
  row_drops (Sending k p c) a may hit drawn =
      cond_both (nat_lt p last_quarter) _ _ Drops (λ _ e. absurd (cc)) (λ _.
      cond_both ((c || hit) && nat_le preamble_nibbles (k + 1)) _ _ Drops (λ _ e. absurd (cc)) (λ _.
      cond_both (k + 1 == length (head_nibbles q)) _ _ Drops (λ _ e. refl) (λ _ e. absurd (cc))))
  row_drops (Jamming j p) a may hit drawn =
      cond_both (nat_lt p last_quarter) _ _ Drops (λ _ e. absurd (cc)) (λ _.
      cond_both (nat_lt j last_jam_nibble) _ _ Drops (λ _ e. absurd (cc)) (λ _.
      cond_both (a == last_attempt) _ _ Drops (λ _ e. absurd (cc)) (λ _ e. absurd (cc))))

module _ (P : List Queued → Type 0) (removes : Removes P) where
  head_drops : (frames more : List Queued) → P (frames ++ more) → P (drop 1 frames ++ more)
  head_drops [] more h = h
  head_drops (q ∷ qs) more h = removes.without [] q (qs ++ more) h

module _ {D : Type 0} (P : List Queued → Type 0) (removes : Removes P) where
  offer_keeps : (c : Core D) (q : Queued) (more : List Queued) → P (c.mac.queue.frames ++ q ∷ more) → P ((core_after_offer c q).mac.queue.frames ++ more)
  offer_keeps c q more h =
      cond_both (nat_lt (length c.mac.queue.frames) c.mac.queue.room) (with_queue c.mac (with_last c.mac.queue q)) c.mac (λ (m : MacState D). P (m.queue.frames ++ more))
      (λ _. subst P (sym (append_assoc c.mac.queue.frames (q ∷ []) more)) h)
      (λ _. removes.without c.mac.queue.frames q more h)

  offers_keep : (c : Core D) (qs more : List Queued) → P (c.mac.queue.frames ++ (qs ++ more)) → P ((core_after_offers c qs).mac.queue.frames ++ more)
  offers_keep c [] more h = h
  offers_keep c (q ∷ qs) more h = offers_keep (core_after_offer c q) qs more (offer_keeps c q (qs ++ more) h)

  module _ (answer : D → ℕ → ℕ) (after : D → D) (start : Core D) (given : ℕ → CoreTick) where
    abbrev found : ℕ → Core D
    found t = found_at answer after start given t

    abbrev left : ℕ → Core D
    left t = left_at answer after start given t

    abbrev row_at : ℕ → Row
    row_at t = mac_row answer (found t).mac (carrier (found t).path (given t).reading.crs) (collision (found t).path)

    queue_left : (t : ℕ) → (left t).mac.queue ≡ (row_at t).queue
    unfolding core_drive
    queue_left t = refl

    pub found_keeps : (t n : ℕ) → P ((core_at answer after start given t).mac.queue.frames ++ offers_from given t (suc n)) → P ((found t).mac.queue.frames ++ offers_from given (suc t) n)
    found_keeps t n h = offers_keep (core_at answer after start given t) (given t).offers (offers_from given (suc t) n) h

    left_keeps : (t : ℕ) (more : List Queued) → P ((found t).mac.queue.frames ++ more) → P ((left t).mac.queue.frames ++ more)
    left_keeps t more h =
        subst (λ (q : Queue). P (q.frames ++ more)) (sym (queue_left t))
        (row_keeps (λ (q : Queue). P (q.frames ++ more)) (found t).mac.queue h (head_drops P removes (found t).mac.queue.frames more h) (found t).mac.phase (found t).mac.attempts
        (may_start (found t).mac.deference (carrier (found t).path (given t).reading.crs)) (collision (found t).path) (answer (found t).mac.draws ((found t).mac.attempts + 1)))

    core_keeps : (t n : ℕ) → P ((core_at answer after start given t).mac.queue.frames ++ offers_from given t (suc n)) → P ((core_at answer after start given (suc t)).mac.queue.frames ++ offers_from given (suc t) n)
    unfolding core_at
    core_keeps t n h = left_keeps t (offers_from given (suc t) n) (found_keeps t n h)

    pub keeps_along : (k t n : ℕ) → P ((core_at answer after start given t).mac.queue.frames ++ offers_from given t (k + n)) → P ((core_at answer after start given (t + k)).mac.queue.frames ++ offers_from given (t + k) n)
    keeps_along zero t n h = let at : t ≡ t + 0 = omega arith in let count : zero + n ≡ n = omega arith in
        subst (λ u. P ((core_at answer after start given u).mac.queue.frames ++ offers_from given u n)) at (subst (λ m. P ((core_at answer after start given t).mac.queue.frames ++ offers_from given t m)) count h)
    keeps_along (suc k) t n h =
        let at : suc t + k ≡ t + suc k = omega arith in
        let count : suc k + n ≡ suc (k + n) = omega arith in
        let here = subst (λ m. P ((core_at answer after start given t).mac.queue.frames ++ offers_from given t m)) count h in
        subst (λ u. P ((core_at answer after start given u).mac.queue.frames ++ offers_from given u n)) at (keeps_along k (suc t) n (core_keeps t (k + n) here))

module _ {D : Type 0} (answer : D → ℕ → ℕ) (after : D → D) (start : Core D) (given : ℕ → CoreTick) where
  note_left : (t : ℕ) → note_at answer after start given t ≡ (mac_row answer (found_at answer after start given t).mac (carrier (found_at answer after start given t).path (given t).reading.crs) (collision (found_at answer after start given t).path)).note
  unfolding core_drive
  note_left t = refl

  queue_is : (t : ℕ) → (left_at answer after start given t).mac.queue ≡ (mac_row answer (found_at answer after start given t).mac (carrier (found_at answer after start given t).path (given t).reading.crs) (collision (found_at answer after start given t).path)).queue
  unfolding core_drive
  queue_is t = refl

  -- a frame that was sent is dropped
  pub sent_drops : (t number : ℕ) → note_at answer after start given t ≡ Sent number → (left_at answer after start given t).mac.queue ≡ without_head (found_at answer after start given t).mac.queue
  sent_drops t number e =
      let c : Core D = found_at answer after start given t in
      queue_is t ∙ row_drops c.mac.queue number c.mac.phase c.mac.attempts (may_start c.mac.deference (carrier c.path (given t).reading.crs)) (collision c.path) (answer c.mac.draws (c.mac.attempts + 1)) (sym (note_left t) ∙ e)
