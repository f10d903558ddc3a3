-- The places along a run.
use Rattle.std.proofs.Common.{◌≡◌, ℕ, zero, suc, ◌+◌, ◌-◌, ◌*◌, ◌<◌, ◌≤◌, ◌⊎◌, inl, inr, Bool, true, false, List, [], ◌∷◌, ◌++◌, length, refl, sym, ap, subst, arith, add-one, take}
use Rattle.std.specs.List.{All}
use Rattle.std.proofs.lemmas.List.Elements.{All-head, All-tail}
use Rattle.t1s_frame.specs.Frame.{IsFrame}
use Rattle.t1s_ring.specs.declared.queued.Queued.{Queued}
use Rattle.std.proofs.lemmas.List.{length-append}
use Rattle.t1s_mac.specs.declared.outcome.MacNote.{MacNote}
use Rattle.t1s_node.specs.Core.{Core}
use Rattle.t1s_node.specs.Runs.{CoreTick, DrawsAreBounded, IsUndisturbed, core_at, found_at, left_at, drive_at, active_at, popped_at}
use Rattle.t1s_node.proofs.CoreSteps.{Stands, CoreStep, active_step, asleep_step, offered_stands}
use Rattle.t1s_node.proofs.JointPlaces.{Place, Asleep, InPiece, nibble_of, Goes, hold_pops, before_pops, piece_lasts, piece_pops}
use Rattle.t1s_node.proofs.MacTurns.{Fit}

fit_of : (qs : List Queued) → All (λ (q : Queued). IsFrame q.frame) qs → Fit qs
fit_of [] all = tt
fit_of (q ∷ qs) all = (All-head (λ (x : Queued). IsFrame x.frame) q qs all, fit_of qs (All-tail (λ (x : Queued). IsFrame x.frame) q qs all))

-- what a list has lost in front
lost_part : (xs front back : List ℕ) → xs ≡ front ++ back → take (length xs - length back) xs ≡ front
lost_part xs front back e =
    let lengths = length-append front back in
    let count : length (front ++ back) - length back ≡ length front = omega (arith, lengths) in
    rw (e, count) (take_all_of front back)
  where
    take_all_of : (front back : List ℕ) → take (length front) (front ++ back) ≡ front
    take_all_of [] back = refl
    take_all_of (x ∷ xs) back = ap (λ ys. x ∷ ys) (take_all_of xs back)

module _ {D : Type 0} (answer : D → ℕ → ℕ) (after : D → D) (bounded : DrawsAreBounded answer) (start : Core D) (given : ℕ → CoreTick) (end : ℕ)
    (calm : IsUndisturbed answer after start given end) where
  -- control was active before tick t
  abbrev pub Awake : ℕ → Type 0
  Awake t = (u : ℕ) × (u < t) × (active_at answer after start given u ≡ true)

  -- where a piece is open: the tick of its first pop, and the place after that
  pub record Began (f : Queued) (n t : ℕ) : Type 0 where
    pub first : ℕ
    pub since : t ≡ first + n + 1
    pub pop : popped_at answer after start given first ≡ nibble_of f 0 ∷ []
    pub stands : Stands (InPiece f false 0 0) (core_at answer after start given (suc first))
    pub awake : Awake (suc first)

  abbrev pub Since : ℕ → Place → Type 0
  Since t (InPiece f b i s) = Began f (4 * i + s) t
  Since t _ = Unit {0}

  pub record RunAt (t : ℕ) : Type 0 where
    pub place : Place
    pub stands : Stands place (core_at answer after start given t)
    pub awake : (place ≡ Asleep) ⊎ Awake t
    pub since : Since t place

  -- tick t, which is from a place
  pub record Ticks (t : ℕ) (place : Place) : Type 0 where
    pub found : Stands place (found_at answer after start given t)
    pub step : CoreStep place (found_at answer after start given t) (drive_at answer after start given t)
    pub awake : (step.to ≡ Asleep) ⊎ Awake (t + 1)

  found_stands : (t : ℕ) (place : Place) → t ≤ end → Stands place (core_at answer after start given t) → Stands place (found_at answer after start given t)
  found_stands t place within h = offered_stands place (core_at answer after start given t) (given t).offers (fit_of (given t).offers (calm.frames t within)) h

  ticks_awake : (t : ℕ) (place : Place) → t ≤ end → Stands place (found_at answer after start given t) → active_at answer after start given t ≡ true → Ticks t place
  ticks_awake t place within h active = record {
    found = h;
    step = active_step answer after (given t).reading (found_at answer after start given t) place bounded (calm.no_hit t within) active h;
    awake = inr (t, omega arith, active);
  }

  ticks_asleep : (t : ℕ) → t ≤ end → Stands Asleep (found_at answer after start given t) → (b : Bool) → active_at answer after start given t ≡ b → Ticks t Asleep
  ticks_asleep t within h true active = ticks_awake t Asleep within h active
  ticks_asleep t within h false active =
      let (step, same) = asleep_step answer after (given t).reading (found_at answer after start given t) (calm.no_hit t within) active h in
      record { found = h; step = step; awake = inl same }

  pub ticks : (t : ℕ) → t ≤ end → (run : RunAt t) → Ticks t run.place
  ticks t within run = go run.place (found_stands t run.place within run.stands) run.awake
    where
      go : (place : Place) → Stands place (found_at answer after start given t) → (place ≡ Asleep) ⊎ Awake t → Ticks t place
      go place h (inl same) = subst (λ (p : Place). Ticks t p) (sym same) (ticks_asleep t within (subst (λ (p : Place). Stands p (found_at answer after start given t)) same h) (active_at answer after start given t) refl)
      go place h (inr (u, before, active)) = ticks_awake t place within h (calm.stays_active u t (omega arith) within active)

  pub next_core : (t : ℕ) → core_at answer after start given (suc t) ≡ left_at answer after start given t
  unfolding core_at
  next_core t = refl

  -- the nibbles that are popped in a tick
  pub pops_of : (t : ℕ) (place : Place) (tick : Ticks t place) → popped_at answer after start given t ≡ tick.step.popped
  pops_of t place tick = lost_part _ _ _ tick.step.lost

  began : (t : ℕ) (f : Queued) → popped_at answer after start given t ≡ nibble_of f 0 ∷ [] → Stands (InPiece f false 0 0) (core_at answer after start given (suc t))
      → (InPiece f false 0 0 ≡ Asleep) ⊎ Awake (suc t) → Began f 0 (suc t)
  began t f pop stands (inl same) = absurd (cc)
  began t f pop stands (inr awake) = record { first = t; since = omega arith; pop = pop; stands = stands; awake = awake }

  piece_since : (t : ℕ) (place to : Place) (note : MacNote) (popped : List ℕ) → Since t place → Goes place note popped to
      → popped_at answer after start given t ≡ popped → Stands to (core_at answer after start given (suc t)) → (to ≡ Asleep) ⊎ Awake (suc t) → Since (suc t) to
  piece_since t _ _ _ _ since (hold_pops {f = f} early quarter) pop stands awake = began t f pop stands awake
  piece_since t _ _ _ _ since (before_pops {f = f} end_of) pop stands awake = began t f pop stands awake
  piece_since t _ _ _ _ since (piece_lasts {f = f} {i = i} {s = s} told less) pop stands awake =
      record { first = since.first; since = omega (arith, since.since); pop = since.pop; stands = since.stands; awake = since.awake }
  piece_since t _ _ _ _ since (piece_pops {f = f} {i = i} {s = s} told three more) pop stands awake =
      record { first = since.first; since = omega (arith, since.since, three); pop = since.pop; stands = since.stands; awake = since.awake }
  piece_since t _ _ _ _ since _ pop stands awake = tt

  pub after_tick : (t : ℕ) (run : RunAt t) → Ticks t run.place → RunAt (suc t)
  after_tick t run tick =
      let stands : Stands tick.step.to (core_at answer after start given (suc t)) = rw (next_core t) tick.step.stands in
      let awake : (tick.step.to ≡ Asleep) ⊎ Awake (suc t) = subst (λ m. (tick.step.to ≡ Asleep) ⊎ Awake m) (add-one t) tick.awake in
      record {
        place = tick.step.to;
        stands = stands;
        awake = awake;
        since = piece_since t run.place tick.step.to _ _ run.since tick.step.goes (pops_of t run.place tick) stands awake;
      }

  pub after_place : (t : ℕ) (run : RunAt t) (tick : Ticks t run.place) → (after_tick t run tick).place ≡ tick.step.to
  unfolding after_tick
  after_place t run tick = refl

  pub run_at : RunAt zero → (t : ℕ) → t ≤ suc end → RunAt t
  run_at begin zero within = begin
  run_at begin (suc t) within =
      let run : RunAt t = run_at begin t (omega arith) in
      after_tick t run (ticks t (omega arith) run)

  pub begin_at : Stands Asleep start → RunAt zero
  unfolding core_at
  begin_at stands = record { place = Asleep; stands = stands; awake = inl refl; since = tt }
