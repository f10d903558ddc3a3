-- A MAC that defers with the line free.
use Rattle.std.proofs.Common.{◌≡◌, ℕ, zero, suc, ◌+◌, ◌-◌, ◌==◌, ◌<◌, ◌≤◌, Bool, true, false, ◌&&◌, ◌||◌, nat_lt, nat_le, List, [], ◌∷◌, length, refl, sym, ◌∙◌, ap, arith}
use Rattle.std.proofs.lemmas.Bool.Decides.{nat_tests}
use Rattle.t1s_ring.specs.Queue.{Queue, with_last}
use Rattle.t1s_ring.specs.declared.queued.Queued.{Queued}
use Rattle.plca_data.specs.DataPathTable.{carrier, collision}
use Rattle.t1s_mac.specs.DeferenceTable.{may_start, deference_step}
use Rattle.t1s_mac.specs.declared.deference.Deference.{Deference}
use Rattle.t1s_mac.specs.declared.deference.Deference.TheVariants.{Free as FreeLine, Busy, Gap}
use Rattle.t1s_mac.specs.MacTable.{Row, row_of, mac_row, deferring, sending, last_quarter, last_jam_nibble, last_attempt, preamble_nibbles}
use Rattle.t1s_mac.specs.State.{Phase, Resting, Deferring, Waiting, Sending, Jamming, MacState, is_sending, head_nibbles, with_queue}
use Rattle.t1s_node.specs.Core.{Core, core_after_offer, core_drive}
use Rattle.t1s_node.specs.Runs.{CoreTick, core_after_offers, core_at, found_at, left_at, starts_at, carrier_at, is_first_nibble}
use Rattle.std.proofs.lemmas.Bool.{cond_both}

-- the gap counts from 96 down to 1
abbrev pub InGap : Deference → Type 0
InGap FreeLine = Unit {0}
InGap Busy = Unit {0}
InGap (Gap g) = (1 ≤ g) × (g ≤ 96)

gap_step : (d : Deference) (carrier sending started : Bool) → InGap d → InGap (deference_step d carrier sending started)
gap_step FreeLine carrier sending started h = cond_both started _ _ InGap (λ _. tt) (λ _. cond_both carrier Busy FreeLine InGap (λ _. tt) (λ _. tt))
gap_step Busy carrier sending started h = cond_both started _ _ InGap (λ _. tt) (λ _. go carrier sending)
  where
    go : (carrier sending : Bool) → InGap (deference_step Busy carrier sending false)
    go true sending = tt
    go false true = tt
    go false false = (omega arith, omega arith)
gap_step (Gap g) carrier sending started h =
    cond_both started _ _ InGap (λ _. tt)
    (λ _. cond_both (nat_lt 1 g) _ _ InGap (λ more. (grind (arith, nat_tests, more), omega (arith, h.1)))
    (λ _. cond_both carrier Busy FreeLine InGap (λ _. tt) (λ _. tt)))

-- a step that leaves Deferring starts no frame, and began in neither Sending nor Jamming
record Waits (may started sending : Bool) : Type 0 where
  may_not : may ≡ false
  starts_none : started ≡ false
  sends_none : sending ≡ false

abbrev Defers : Bool → Bool → Row → Type 0
Defers may was_sending left = left.phase ≡ Deferring → Waits may left.starts was_sending

row_deferring : (q : Queue) (a : ℕ) (may : Bool) → Defers may false (deferring q a may)
row_deferring q a true e = absurd (cc)
row_deferring q a false e = record { may_not = refl; starts_none = refl; sends_none = refl }

row_waits : (phase : Phase) (q : Queue) (a : ℕ) (may collision : Bool) (drawn : ℕ) → Defers may (is_sending phase) (row_of phase q a may collision drawn)
row_waits Resting q a may collision drawn =
    cond_both (nat_lt 0 (length q.frames)) _ _ (Defers may false) (λ _. row_deferring q a may) (λ _ e. absurd (cc))
row_waits Deferring q a may collision drawn = row_deferring q a may
row_waits (Waiting left) q a may collision drawn =
    cond_both (left == 0) _ _ (Defers may false) (λ _. row_deferring q a may) (λ _ e. absurd (cc))
row_waits (Sending k p c) q a may collision drawn =
    cond_both (nat_lt p last_quarter) _ _ (Defers may true) (λ _ e. absurd (cc)) (λ _.
    cond_both ((c || collision) && nat_le preamble_nibbles (k + 1)) _ _ (Defers may true) (λ _ e. absurd (cc)) (λ _.
    cond_both (k + 1 == length (head_nibbles q)) _ _ (Defers may true) (λ _ e. absurd (cc)) (λ _ e. absurd (cc))))
row_waits (Jamming j p) q a may collision drawn =
    cond_both (nat_lt p last_quarter) _ _ (Defers may true) (λ _ e. absurd (cc)) (λ _.
    cond_both (nat_lt j last_jam_nibble) _ _ (Defers may true) (λ _ e. absurd (cc)) (λ _.
    cond_both (a == last_attempt) _ _ (Defers may true) (λ _ e. absurd (cc)) (λ _ e. absurd (cc))))

-- so with the line free the gap has begun
gap_on : (g : ℕ) (carrier : Bool) → (g == 1) ≡ false → 1 ≤ g → (deference_step (Gap g) carrier false false ≡ Gap (g - 1)) × (1 < g)
gap_on g carrier e least =
    let more : nat_lt 1 g ≡ true = grind (arith, nat_tests, e, least) in
    (rw more refl, grind (arith, nat_tests, e, least))

gap_begun : (d : Deference) → InGap d → may_start d false ≡ false → (g : ℕ) × (1 ≤ g) × (g ≤ 96) × (deference_step d false false false ≡ Gap g)
gap_begun FreeLine h e = absurd (cc)
gap_begun Busy h e = (96, omega arith, omega arith, refl)
gap_begun (Gap g) h e = let (falls, more) = gap_on g false e h.0 in (g - 1, omega (arith, more), omega (arith, h.1), falls)

step_at : (d d' : Deference) (carrier carrier' sending sending' started started' : Bool) → d ≡ d' → carrier ≡ carrier' → sending ≡ sending' → started ≡ started'
    → deference_step d carrier sending started ≡ deference_step d' carrier' sending' started'
step_at d d' carrier carrier' sending sending' started started' e f g h = cc

first_if : (q : Queue) (a : ℕ) (may : Bool) → may ≡ true → is_first_nibble (deferring q a may).phase ≡ true
first_if q a true e = refl
first_if q a false e = absurd (cc)

none_if : (q : Queue) (a : ℕ) (may : Bool) → may ≡ false → ((deferring q a may).phase ≡ Deferring) × ((deferring q a may).starts ≡ false)
none_if q a true e = absurd (cc)
none_if q a false e = (refl, refl)

module _ {D : Type 0} where
  offers_phase : (c : Core D) (qs : List Queued) → (core_after_offers c qs).mac.phase ≡ c.mac.phase
  offers_phase c [] = refl
  offers_phase c (q ∷ qs) =
      offers_phase (core_after_offer c q) qs
      ∙ cond_both (nat_lt (length c.mac.queue.frames) c.mac.queue.room) (with_queue c.mac (with_last c.mac.queue q)) c.mac (λ (m : MacState D). m.phase ≡ c.mac.phase) (λ _. refl) (λ _. refl)

  offers_deference : (c : Core D) (qs : List Queued) → (core_after_offers c qs).mac.deference ≡ c.mac.deference
  offers_deference c [] = refl
  offers_deference c (q ∷ qs) =
      offers_deference (core_after_offer c q) qs
      ∙ cond_both (nat_lt (length c.mac.queue.frames) c.mac.queue.room) (with_queue c.mac (with_last c.mac.queue q)) c.mac (λ (m : MacState D). m.deference ≡ c.mac.deference) (λ _. refl) (λ _. refl)

module _ {D : Type 0} (answer : D → ℕ → ℕ) (after : D → D) (start : Core D) (given : ℕ → CoreTick) where
  abbrev found : ℕ → Core D
  found t = found_at answer after start given t

  abbrev left : ℕ → Core D
  left t = left_at answer after start given t

  abbrev row_at : ℕ → Row
  row_at t = mac_row answer (found t).mac (carrier (found t).path (given t).reading.crs) (collision (found t).path)

  phase_is : (t : ℕ) → (left t).mac.phase ≡ (row_at t).phase
  unfolding core_drive
  phase_is t = refl

  deference_is : (t : ℕ) → (left t).mac.deference
      ≡ deference_step (found t).mac.deference (carrier (found t).path (given t).reading.crs) (is_sending (found t).mac.phase) (row_at t).starts
  unfolding core_drive
  deference_is t = refl

  at_zero : core_at answer after start given zero ≡ start
  unfolding core_at
  at_zero = refl

  at_suc : (t : ℕ) → core_at answer after start given (suc t) ≡ left t
  unfolding core_at
  at_suc t = refl

  found_phase : (t : ℕ) → (found (suc t)).mac.phase ≡ (left t).mac.phase
  found_phase t = offers_phase (core_at answer after start given (suc t)) (given (suc t)).offers ∙ ap (λ (c : Core D). c.mac.phase) (at_suc t)

  found_deference : (t : ℕ) → (found (suc t)).mac.deference ≡ (left t).mac.deference
  found_deference t = offers_deference (core_at answer after start given (suc t)) (given (suc t)).offers ∙ ap (λ (c : Core D). c.mac.deference) (at_suc t)

  in_gap : InGap start.mac.deference → (t : ℕ) → InGap (found t).mac.deference
  in_gap h zero = rw (offers_deference (core_at answer after start given zero) (given zero).offers ∙ ap (λ (c : Core D). c.mac.deference) at_zero) h
  in_gap h (suc t) =
      rw (found_deference t ∙ deference_is t)
      (gap_step (found t).mac.deference (carrier (found t).path (given t).reading.crs) (is_sending (found t).mac.phase) (row_at t).starts (in_gap h t))

  -- a tick in Deferring, with so much of the gap left
  module _ (t g : ℕ) (phase : (found t).mac.phase ≡ Deferring) (gap : (found t).mac.deference ≡ Gap g) where
    row_is : row_at t ≡ deferring (found t).mac.queue (found t).mac.attempts (g == 1)
    row_is = rw (phase, gap) refl

    starts_now : g ≡ 1 → starts_at answer after start given t ≡ true
    starts_now one =
        let last : (g == 1) ≡ true = grind (arith, nat_tests, one) in
        ap is_first_nibble (phase_is t ∙ ap (λ (r : Row). r.phase) row_is) ∙ first_if (found t).mac.queue (found t).mac.attempts (g == 1) last

    waits_on : 1 < g → ((found (suc t)).mac.phase ≡ Deferring) × ((found (suc t)).mac.deference ≡ Gap (g - 1))
    waits_on more =
        let other : (g == 1) ≡ false = grind (arith, nat_tests, more) in
        let (still, none) = none_if (found t).mac.queue (found t).mac.attempts (g == 1) other in
        let started : (row_at t).starts ≡ false = ap (λ (r : Row). r.starts) row_is ∙ none in
        let sends : is_sending (found t).mac.phase ≡ false = ap is_sending phase in (
          found_phase t ∙ (phase_is t ∙ (ap (λ (r : Row). r.phase) row_is ∙ still)),
          found_deference t ∙ (deference_is t ∙ (step_at _ _ _ _ _ _ _ _ gap refl sends started ∙ (gap_on g (carrier (found t).path (given t).reading.crs) other (omega (arith, more))).0)),
        )

  ends_gap : (g t : ℕ) → (found t).mac.phase ≡ Deferring → (found t).mac.deference ≡ Gap (suc g)
      → (u : ℕ) × (t ≤ u) × (u ≤ t + g) × (starts_at answer after start given u ≡ true)
  ends_gap zero t phase gap = (t, omega arith, omega arith, starts_now t 1 phase gap refl)
  ends_gap (suc g) t phase gap =
      let (phase', gap') = waits_on t (suc (suc g)) phase gap (omega arith) in
      let fewer : suc (suc g) - 1 ≡ suc g = omega arith in
      let (u, low, high, there) = ends_gap g (suc t) phase' (gap' ∙ ap Gap fewer) in
      (u, omega (arith, low), omega (arith, high), there)

  pub defers_briefly : InGap start.mac.deference → (t : ℕ) → carrier_at answer after start given t ≡ false → (left t).mac.phase ≡ Deferring
      → (k : ℕ) × (1 ≤ k) × (k ≤ 96) × (starts_at answer after start given (t + k) ≡ true)
  defers_briefly h t off defers =
      let c : Core D = found t in
      let w : Waits (may_start c.mac.deference (carrier c.path (given t).reading.crs)) (row_at t).starts (is_sending c.mac.phase) =
      row_waits c.mac.phase c.mac.queue c.mac.attempts (may_start c.mac.deference (carrier c.path (given t).reading.crs)) (collision c.path)
      (answer c.mac.draws (c.mac.attempts + 1)) (sym (phase_is t) ∙ defers) in
      let may_not : may_start c.mac.deference false ≡ false = ap (may_start c.mac.deference) (sym off) ∙ w.may_not in
      let (g, least, most, begun) = gap_begun c.mac.deference (in_gap h t) may_not in
      let gap : (found (suc t)).mac.deference ≡ Gap g = found_deference t ∙ (deference_is t ∙ (step_at _ _ _ _ _ _ _ _ refl off w.sends_none w.starts_none ∙ begun)) in
      let all : g ≡ suc (g - 1) = omega (arith, least) in
      let (u, low, high, there) = ends_gap (g - 1) (suc t) (found_phase t ∙ defers) (gap ∙ ap Gap all) in
      let on : t + (u - t) ≡ u = omega (arith, low) in
      (u - t, omega (arith, low), omega (arith, high, most, least), rw on there)
