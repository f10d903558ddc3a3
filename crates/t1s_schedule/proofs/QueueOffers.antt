-- The frames in a node's queue were offered to it.
use Rattle.std.proofs.Common.{◌≡◌, ℕ, zero, suc, ◌+◌, ◌≤◌, List, [], ◌∷◌, ◌++◌, Some, slice_get, refl, sym, subst, arith, Contains}
use Rattle.t1s_ring.specs.declared.queued.Queued.{Queued}
use Rattle.t1s_node.specs.Core.{Core}
use Rattle.t1s_node.specs.Runs.{CoreTick, core_at, left_at}
use Rattle.t1s_turns.specs.Leavings.{offers_from}
use Rattle.t1s_turns.proofs.QueueOrder.{keeps_along}

module _ {D : Type 0} (answer : D → ℕ → ℕ) (after : D → D) (start : Core D) (given : ℕ → CoreTick) (empty : start.mac.queue.frames ≡ []) (t : ℕ) where
  -- a frame was offered up to tick t
  abbrev pub IsOffered : Queued → Type 0
  IsOffered q = (u : ℕ) × (u ≤ t) × Contains (given u).offers q

  abbrev AreOffered : List Queued → Type 0
  AreOffered [] = Unit {0}
  AreOffered (q ∷ qs) = IsOffered q × AreOffered qs

  without_one : (xs : List Queued) (q : Queued) (ys : List Queued) → AreOffered (xs ++ q ∷ ys) → AreOffered (xs ++ ys)
  without_one [] q ys h = h.1
  without_one (x ∷ xs) q ys h = (h.0, without_one xs q ys h.1)

  these_offers : (u : ℕ) → u ≤ t → (xs ys : List Queued) → ((q : Queued) → Contains xs q → Contains (given u).offers q)
      → AreOffered ys → AreOffered (xs ++ ys)
  these_offers u early [] ys there h = h
  these_offers u early (x ∷ xs) ys there h =
      ((u, early, there x (0, omega arith, refl)), these_offers u early xs ys (λ q (k, below, at). there q (suc k, omega (arith, below), at)) h)

  all_offers : (n u : ℕ) → u + n ≤ suc t → AreOffered (offers_from given u n)
  all_offers zero u early = tt
  all_offers (suc n) u early =
      these_offers u (omega (arith, early)) (given u).offers (offers_from given (suc u) n) (λ q there. there)
      (all_offers n (suc u) (omega (arith, early)))

  at_start : AreOffered ((core_at answer after start given zero).mac.queue.frames ++ offers_from given zero (suc t + 0))
  unfolding core_at
  at_start =
      subst (λ (qs : List Queued). AreOffered (qs ++ offers_from given zero (suc t + 0))) (sym empty) (all_offers (suc t + 0) zero (omega arith))

  left_is : (core_at answer after start given (suc t)) ≡ left_at answer after start given t
  unfolding core_at
  left_is = refl

  are_offered : AreOffered ((left_at answer after start given t).mac.queue.frames ++ [])
  are_offered =
      let along = keeps_along AreOffered (record { without = without_one }) answer after start given (suc t) zero zero at_start in
      let now : zero + suc t ≡ suc t = omega arith in
      let later = subst (λ (u : ℕ). AreOffered ((core_at answer after start given u).mac.queue.frames ++ [])) now along in
      subst (λ (c : Core D). AreOffered (c.mac.queue.frames ++ [])) left_is later

  head_is : (frames : List Queued) (f : Queued) → slice_get frames 0 ≡ Some f → AreOffered (frames ++ []) → IsOffered f
  head_is [] f e h = absurd (cc)
  head_is (x ∷ xs) f e h = let same : x ≡ f = cc in subst IsOffered same h.0

  -- so was the first in the queue
  pub first_offered : (f : Queued) → slice_get (left_at answer after start given t).mac.queue.frames 0 ≡ Some f → IsOffered f
  first_offered f e = head_is (left_at answer after start given t).mac.queue.frames f e are_offered
