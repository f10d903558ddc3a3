-- The way of a frame from its first nibble to the first H of its piece, or to Pending.
use Rattle.std.proofs.Common.{◌≡◌, ℕ, zero, suc, ◌+◌, ◌-◌, ◌*◌, ◌==◌, ◌<◌, ◌≤◌, ◌⊎◌, inl, inr, Bool, true, false, ◌&&◌, if◌then◌else◌, List, slice_get, Some, None, refl, sym, ◌∙◌, ap, subst, arith}
use Rattle.std.proofs.lemmas.Bool.{false≢true}
use Rattle.t1s_ring.specs.Queue.{Queue}
use Rattle.t1s_ring.specs.declared.queued.Queued.{Queued}
use Rattle.plca_data.specs.declared.data_path.State.{State}
use Rattle.plca_data.specs.declared.data_path.State.TheVariants.{Pending}
use Rattle.t1s_mac.specs.declared.deference.Deference.{Deference}
use Rattle.t1s_mac.specs.declared.outcome.MacNote.{MacNote}
use Rattle.t1s_mac.specs.State.{Phase, is_sending, number_of}
use Rattle.t1s_pcs_tx.specs.State.{Stage, is_first_h, first_h_begins}
use Rattle.t1s_node.specs.Core.{Core, core_drive}
use Rattle.t1s_node.specs.Laws.{LeavesAt, PendsAt}
use Rattle.t1s_node.specs.Runs.{CoreTick, DrawsAreBounded, IsUndisturbed, left_at, note_at, leaves_at, starts_at, is_first_nibble}
use Rattle.t1s_node.proofs.RunPlaces.{RunAt, ticks, run_at, after_tick, after_place}
use Rattle.t1s_node.proofs.CoreSteps.{Stands}
use Rattle.t1s_node.proofs.JointPlaces.{Place, Holds, Collides, Jams, Delays, IsPending, Before, InPiece, Goes, holds_on, hold_fails, hold_opens, hold_pops, collide_lasts, collide_gives, collide_jams, jam_lasts, jam_gives, jam_ends, delays_on, delay_ends, before_on, before_pops, piece_lasts, piece_pops, piece_ends, starting, sending, Joint, asleep, idles, holds, collides, jams, delays, pends, waits, rests_in, before, fed, given as given_all, ends, closes}
use Rattle.t1s_node.proofs.MacTurns.{Heads, waits as in_backoff, over, count_of, long}
use Rattle.t1s_node.proofs.FrameStarts.{rests_not_first, first_is_zero}
use Rattle.t1s_node.proofs.View.{View}

-- the places of the way, with the ticks that are left at most
pub data OnWay (f : Queued) (n : ℕ) : Place → Type 0 where
  in_hold : {k p : ℕ} → 1000 ≤ n + 4 * k + p → k ≤ 96 → p ≤ 3 → OnWay f n (Holds f k p)
  in_collision : {k p : ℕ} → 544 + 4 * (16 - k) + (4 - p) ≤ n → OnWay f n (Collides f k p)
  in_jam : {j p : ℕ} → 544 ≤ n + 4 * j + p → j ≤ 7 → p ≤ 3 → OnWay f n (Jams f j p)
  in_delay : {m : ℕ} → 1 ≤ m → m ≤ n → OnWay f n (Delays f m)
  in_line : {k p r : ℕ} → r + 12 ≤ n → OnWay f n (Before f k p r)
  in_start : {b : Bool} {i s : ℕ} → 8 ≤ n + 4 * i + s → 4 * i + s < 8 → OnWay f n (InPiece f b i s)

-- a step of the way: it is nearer to its end, or there
pub data WayStep (f : Queued) (n : ℕ) : Place → Type 0 where
  nearer : {place : Place} {m : ℕ} → n ≡ m + 1 → OnWay f m place → WayStep f n place
  pending : WayStep f n (IsPending f)
  first_h : {b : Bool} → WayStep f n (InPiece f b 2 0)

way_step : (f : Queued) (n : ℕ) (place to : Place) (note : MacNote) (popped : List ℕ) → 144 ≤ count_of f → OnWay f n place → Goes place note popped to → WayStep f n to
way_step f n _ _ _ _ many (in_hold near early quarter) (holds_on on later part) = nearer {m = n - 1} (omega (arith, near, early, quarter)) (in_hold (omega (arith, near, on, early, quarter)) later part)
way_step f n _ _ _ _ many (in_hold near early quarter) (hold_fails on early' quarter') = nearer {m = n - 1} (omega (arith, near, early, quarter)) (in_collision (omega (arith, near, on, early, quarter)))
way_step f n _ _ _ _ many (in_hold near early quarter) (hold_opens early' quarter' low) = nearer {m = n - 1} (omega (arith, near, early, quarter)) (in_line (omega (arith, near, low, early, quarter)))
way_step f n _ _ _ _ many (in_hold near early quarter) (hold_pops early' quarter') = nearer {m = n - 1} (omega (arith, near, early, quarter)) (in_start (omega (arith, near, early, quarter)) (omega arith))
way_step f n _ _ _ _ many (in_collision near) (collide_lasts less) = nearer {m = n - 1} (omega (arith, near)) (in_collision (omega (arith, near, less)))
way_step f n _ _ _ _ many (in_collision near) (collide_gives three low) = nearer {m = n - 1} (omega (arith, near)) (in_collision (omega (arith, near, three, low)))
way_step f n _ _ _ _ many (in_collision near) (collide_jams three late) = nearer {m = n - 1} (omega (arith, near)) (in_jam (omega (arith, near, three)) (omega arith) (omega arith))
way_step f n _ _ _ _ many (in_jam near nibble quarter) (jam_lasts less) = nearer {m = n - 1} (omega (arith, near, nibble, quarter)) (in_jam (omega (arith, near, less, nibble)) nibble (omega (arith, less)))
way_step f n _ _ _ _ many (in_jam near nibble quarter) (jam_gives three less) =
    nearer {m = n - 1} (omega (arith, near, nibble, quarter)) (in_jam (omega (arith, near, three, less)) (omega (arith, less)) (omega arith))
way_step f n _ _ _ _ many (in_jam near nibble quarter) (jam_ends three seven) = nearer {m = n - 1} (omega (arith, near, three, seven)) (in_delay (omega arith) (omega (arith, near, three, seven)))
way_step f n _ _ _ _ many (in_delay some near) (delays_on more) = nearer {m = n - 1} (omega (arith, near, more)) (in_delay (omega (arith, more)) (omega (arith, near)))
way_step f n _ _ _ _ many (in_delay some near) (delay_ends one) = pending
way_step f n _ _ _ _ many (in_line near) (before_on less) = nearer {m = n - 1} (omega (arith, near)) (in_line (omega (arith, near, less)))
way_step f n _ _ _ _ many (in_line near) (before_pops none) = nearer {m = n - 1} (omega (arith, near)) (in_start (omega (arith, near)) (omega arith))
way_step f n _ _ _ _ many (in_start near early) (piece_lasts {i = i} {s = s} told less) = nearer {m = n - 1} (omega (arith, near, early)) (in_start (omega (arith, near)) (omega (arith, early, less)))
way_step f n _ _ _ _ many (in_start near early) (piece_pops {i = zero} told three more) = nearer {m = n - 1} (omega (arith, near, early)) (in_start (omega (arith, near, three)) (omega (arith, early)))
way_step f n _ _ _ _ many (in_start near early) (piece_pops {i = suc zero} told three more) = first_h
way_step f n _ _ _ _ many (in_start near early) (piece_pops {i = suc (suc i)} told three more) = absurd (omega (arith, early))
way_step f n _ _ _ _ many (in_start near early) (piece_ends three all) = absurd (omega (arith, early, all, many))

way_left : (f : Queued) (place : Place) → OnWay f 0 place → ⊥
way_left f _ (in_hold near early quarter) = omega (arith, near, early, quarter)
way_left f _ (in_collision near) = omega (arith, near)
way_left f _ (in_jam near nibble quarter) = omega (arith, near, nibble, quarter)
way_left f _ (in_delay some near) = omega (arith, some, near)
way_left f _ (in_line near) = omega (arith, near)
way_left f _ (in_start near early) = omega (arith, near, early)

-- where the first nibble has just been given
first_way : (place : Place) (v : View) (phase : Phase) (q : Queue) (d : Deference) (a : ℕ) (stage : Stage) (part : ℕ) (path : State) (line : List ℕ)
    → Joint place v phase q d a stage part path line → is_first_nibble phase ≡ true → (f : Queued) × Heads q f × OnWay f 1000 place
first_way _ _ phase q _ _ _ part _ _ (asleep resting) e = absurd (false≢true (sym (rests_not_first phase q resting) ∙ e))
first_way _ v phase q d _ stage part _ _ (idles out resting free) e = absurd (false≢true (sym (rests_not_first phase q resting) ∙ e))
first_way _ v _ q _ _ stage part _ line (holds {f = f} heads early quarter free al feeds) e = (f, heads, in_hold (omega arith) early quarter)
first_way _ v _ q _ _ stage part _ _ (collides {f = f} {k = k} {p = p} {c = c} out heads within quarter free) e =
    let (none, new) = first_is_zero k p c e in (f, heads, in_collision (omega arith))
first_way _ v _ q _ _ stage part _ _ (jams out heads nibble quarter free) e = absurd (cc)
first_way _ v _ q _ _ stage part _ _ (delays out heads least (in_backoff low some) free) e = absurd (cc)
first_way _ v _ q _ _ stage part _ _ (delays out heads least (over some) free) e = absurd (cc)
first_way _ v _ q _ _ stage part _ _ (pends out heads (in_backoff low some) free) e = absurd (cc)
first_way _ v _ q _ _ stage part _ _ (pends out heads (over some) free) e = absurd (cc)
first_way _ _ _ q d _ stage part _ _ (waits opening some free) e = absurd (cc)
first_way _ _ phase q d _ stage part _ _ (rests_in resting free) e = absurd (false≢true (sym (rests_not_first phase q resting) ∙ e))
first_way _ v _ q _ a stage part _ line (before {f = f} own heads tries quarter near free feeds) e = (f, heads, in_line (omega (arith, near)))
first_way _ v _ q _ a stage _ _ line (fed {k = k} {p = p} {d = n} own heads tries quarter ahead least most tx feeds) e =
    let (none, new) = first_is_zero k p false e in absurd (omega (arith, none, new, ahead, least))
first_way _ _ phase q _ _ stage _ _ line (given_all resting tx feeds late past_start) e = absurd (false≢true (sym (rests_not_first phase q resting) ∙ e))
first_way _ _ phase q _ _ _ _ _ _ (ends resting few) e = absurd (false≢true (sym (rests_not_first phase q resting) ∙ e))
first_way _ _ phase q _ _ _ _ _ _ (closes resting few) e = absurd (false≢true (sym (rests_not_first phase q resting) ∙ e))

-- the first H
first_h_there : (f : Queued) (b : Bool) (v : View) (phase : Phase) (q : Queue) (d : Deference) (a : ℕ) (stage : Stage) (part : ℕ) (path : State) (line : List ℕ)
    → Joint (InPiece f b 2 0) v phase q d a stage part path line → Heads q f × ((is_first_h stage && (part == 0)) ≡ true) × (is_sending phase ≡ true)
first_h_there f _ v _ q _ a _ _ _ line (fed own heads tries quarter ahead least most (starting early low) feeds) = (heads, refl, refl)
first_h_there f _ v _ q _ a _ _ _ line (fed own heads tries quarter ahead least most (sending late low) feeds) = absurd (omega (arith, late))
first_h_there f _ _ phase q _ _ stage _ _ line (given_all resting tx feeds late past_start) = absurd (omega (arith, past_start))

pending_there : (f : Queued) (v : View) (phase : Phase) (q : Queue) (d : Deference) (a : ℕ) (stage : Stage) (part : ℕ) (path : State) (line : List ℕ)
    → Joint (IsPending f) v phase q d a stage part path line → (path ≡ Pending) × (slice_get q.frames 0 ≡ Some f)
pending_there f v phase q _ _ stage part _ _ (pends out heads back free) = (refl, heads.first)

module _ {D : Type 0} (answer : D → ℕ → ℕ) (after : D → D) (bounded : DrawsAreBounded answer) (start : Core D) (given : ℕ → CoreTick) (end : ℕ)
    (calm : IsUndisturbed answer after start given end) where
  abbrev Run : ℕ → Type 0
  Run t = RunAt answer after bounded start given end calm t

  pub leaves_is : (t : ℕ) → leaves_at answer after start given t
      ≡ (if first_h_begins (left_at answer after start given t).tx then number_of (left_at answer after start given t).mac else None)
  unfolding core_drive
  leaves_is t = refl

  abbrev There : Queued → ℕ → Type 0
  There f u = LeavesAt answer after start given f u ⊎ PendsAt answer after start given f u

  abbrev Arrives : Queued → ℕ → ℕ → Type 0
  Arrives f t n = (u : ℕ) × (t ≤ u) × (u < t + n) × There f u

  arrived : (f : Queued) (left : Core D) → Heads left.mac.queue f → first_h_begins left.tx ≡ true → is_sending left.mac.phase ≡ true
      → (if first_h_begins left.tx then number_of left.mac else None) ≡ Some f.number
  arrived f left heads first sends = rw (first, sends) (ap Some heads.number)

  pub first_h_leaves : (f : Queued) (b : Bool) (t : ℕ) → Stands (InPiece f b 2 0) (left_at answer after start given t) → LeavesAt answer after start given f t
  first_h_leaves f b t h =
      let (heads, first, sends) = first_h_there f b _ _ _ _ _ _ _ _ _ h.joint in
      (leaves_is t ∙ arrived f (left_at answer after start given t) heads first sends, heads.first)

  climbs : (f : Queued) (n t : ℕ) (to : Place) → WayStep f (suc n) to → (OnWay f n to → Arrives f (suc t) n) → Stands to (left_at answer after start given t) → Arrives f t (suc n)
  climbs f n t _ (nearer {place = place} {m = m} less way) again h =
      let fewer : m ≡ n = omega (arith, less) in
      let (u, from, to, there) = again (subst (λ x. OnWay f x place) fewer way) in
      (u, omega (arith, from), omega (arith, to), there)
  climbs f n t _ pending again h = (t, omega arith, omega arith, inr (pending_there f _ _ _ _ _ _ _ _ _ h.joint))
  climbs f n t _ (first_h {b = b}) again h =
      (t, omega arith, omega arith, inl (first_h_leaves f b t h))

  climb : (f : Queued) (n t : ℕ) (run : Run t) → 144 ≤ count_of f → OnWay f n run.place → t + n ≤ end + 1 → Arrives f t n
  climb f zero t run many way within = absurd (way_left f run.place way)
  climb f (suc n) t run many way within =
      let tick = ticks answer after bounded start given end calm t (omega (arith, within)) run in
      let next : Run (suc t) = after_tick answer after bounded start given end calm t run tick in
      let same : tick.step.to ≡ next.place = sym (after_place answer after bounded start given end calm t run tick) in
      climbs f n t tick.step.to (way_step f (suc n) run.place tick.step.to (note_at answer after start given t) tick.step.popped many way tick.step.goes)
      (λ way'. climb f n (suc t) next many (subst (λ (p : Place). OnWay f n p) same way') (omega (arith, within)))
      tick.step.stands

  pub leaves_or_pends : Run zero → (t : ℕ) → t + 1000 ≤ end → starts_at answer after start given t ≡ true
      → (f : Queued) × (slice_get (left_at answer after start given t).mac.queue.frames 0 ≡ Some f)
      × (k : ℕ) × (1 ≤ k) × (k ≤ 1000)
      × There f (t + k)
  leaves_or_pends begin t within starts =
      let run = run_at answer after bounded start given end calm begin t (omega arith) in
      let tick = ticks answer after bounded start given end calm t (omega arith) run in
      let (f, heads, way) = first_way tick.step.to _ _ _ _ _ _ _ _ _ tick.step.stands.joint starts in
      let same : tick.step.to ≡ (after_tick answer after bounded start given end calm t run tick).place = sym (after_place answer after bounded start given end calm t run tick) in
      let (u, from, to, there) = climb f 1000 (suc t) (after_tick answer after bounded start given end calm t run tick) (long f heads.frame).0
      (subst (λ (p : Place). OnWay f 1000 p) same way) (omega arith) in
      let on : t + (u - t) ≡ u = omega (arith, from) in
      (f, heads.first, u - t, omega (arith, from), omega (arith, to), rw on there)
