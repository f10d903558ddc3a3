-- A first frame, wherever it is on its way: within so many ticks its first H begins, or the data path is in Pending; and the
-- frame of an open piece is sent before T.
use Rattle.std.proofs.Common.{◌≡◌, ℕ, zero, suc, ◌+◌, ◌-◌, ◌*◌, ◌<◌, ◌≤◌, ◌⊎◌, inl, inr, Bool, false, List, [], ◌∷◌, slice_get, Some, refl, sym, ◌∙◌, subst, arith}
use Rattle.std.proofs.lemmas.Bool.{cases_lt}
use Rattle.t1s_frame.specs.Frame.{IsFrame}
use Rattle.t1s_ring.specs.Queue.{Queue}
use Rattle.t1s_ring.specs.declared.queued.Queued.{Queued}
use Rattle.plca_data.specs.declared.data_path.State.{State}
use Rattle.plca_data.specs.declared.data_path.State.TheVariants.{Pending}
use Rattle.t1s_mac.specs.declared.deference.Deference.{Deference}
use Rattle.t1s_mac.specs.declared.outcome.MacNote.{MacNote}
use Rattle.t1s_mac.specs.declared.outcome.MacNote.TheVariants.{Sent}
use Rattle.t1s_mac.specs.State.{Phase}
use Rattle.t1s_pcs_tx.specs.State.{Stage}
use Rattle.t1s_node.specs.Core.{Core}
use Rattle.t1s_node.specs.Laws.{LeavesAt, PendsAt}
use Rattle.t1s_node.specs.Runs.{CoreTick, DrawsAreBounded, IsUndisturbed, core_at, found_at, left_at, note_at}
use Rattle.t1s_node.proofs.RunPlaces.{RunAt, Awake, Began, ticks, after_tick, after_place}
use Rattle.t1s_node.proofs.CoreSteps.{Stands}
use Rattle.t1s_node.proofs.JointPlaces.{Place, Asleep, Holds, Collides, Jams, Delays, IsPending, Opens, Before, InPiece, Told, as_before, now_sent, Goes, jam_ends, delays_on, holds_on, hold_fails, hold_opens, hold_pops, collide_lasts, collide_gives, collide_jams, jam_lasts, jam_gives, delay_ends, pends_on, pending_opens, opens_on, open_starts, before_on, before_pops, piece_lasts, piece_pops, piece_ends, starting, sending, Opening, opens, gap, Joint, asleep, idles, holds, collides, jams, delays, pends, waits, rests_in, before, fed, given as given_all, ends, closes}
use Rattle.t1s_node.proofs.MacTurns.{Heads, Rests, Fit, count_of, first_same}
use Rattle.t1s_node.proofs.FrameWays.{OnWay, in_hold, in_collision, in_jam, in_delay, in_line, in_start, first_h_leaves}
use Rattle.t1s_node.proofs.View.{View}

-- the wait after a jam is 512 ticks at most
abbrev pub HasShortWait : Place → Type 0
HasShortWait (Delays f n) = n ≤ 512
HasShortWait _ = Unit {0}

short_next : (place to : Place) (note : MacNote) (popped : List ℕ) → Goes place note popped to → HasShortWait place → HasShortWait to
short_next _ _ _ _ (jam_ends three seven) h = omega arith
short_next _ _ _ _ (delays_on more) h = omega (arith, h)
short_next _ _ _ _ _ h = tt

-- where the first frame is
pub data Whereabouts (f : Queued) (phase : Phase) (q : Queue) (a : ℕ) : Place → Type 0 where
  not_begun : {place : Place} → Rests phase q → a ≡ 0 → Whereabouts f phase q a place
  on_way : {place : Place} → OnWay f 1000 place → Whereabouts f phase q a place
  waits_for_turn : Whereabouts f phase q a (IsPending f)
  opens_now : {n : ℕ} → 192 ≤ n → n ≤ 288 → Whereabouts f phase q a (Opens f n)
  has_left : {i s : ℕ} → 8 ≤ 4 * i + s → Whereabouts f phase q a (InPiece f false i s)

-- a queue has one first frame
one_frame : (f g : Queued) (phase : Phase) (q : Queue) (a : ℕ) (place : Queued → Place) → slice_get q.frames 0 ≡ Some f → Heads q g → Whereabouts f phase q a (place f)
    → Whereabouts f phase q a (place g)
one_frame f g phase q a place e heads h = subst (λ (x : Queued). Whereabouts f phase q a (place x)) (first_same q f g e heads.first) h

opening_ticks : (n : ℕ) (d : Deference) → Opening n d → (192 ≤ n) × (n ≤ 288)
opening_ticks _ _ opens = (omega arith, omega arith)
opening_ticks n _ (gap e some few) = (omega (arith, e, some), omega (arith, e, few))

pub whereabouts : (f : Queued) (place : Place) (v : View) (phase : Phase) (q : Queue) (d : Deference) (a : ℕ) (stage : Stage) (part : ℕ) (path : State) (line : List ℕ)
    → Joint place v phase q d a stage part path line → HasShortWait place → slice_get q.frames 0 ≡ Some f → Whereabouts f phase q a place
whereabouts f _ _ phase q _ _ _ part _ _ (asleep resting) short e = not_begun resting refl
whereabouts f _ v phase q d _ stage part _ _ (idles out resting free) short e = not_begun resting refl
whereabouts f _ v _ q _ _ stage part _ line (holds {f = g} {k = k} {p = p} heads early quarter free al feeds) short e =
    one_frame f g _ q _ (λ (x : Queued). (Holds x k p)) e heads (on_way (in_hold (omega arith) early quarter))
whereabouts f _ v _ q _ _ stage part _ _ (collides {f = g} {k = k} {p = p} out heads within quarter free) short e =
    one_frame f g _ q _ (λ (x : Queued). (Collides x k p)) e heads (on_way (in_collision (omega arith)))
whereabouts f _ v _ q _ _ stage part _ _ (jams {f = g} {j = j} {p = p} out heads nibble quarter free) short e =
    one_frame f g _ q _ (λ (x : Queued). (Jams x j p)) e heads (on_way (in_jam (omega arith) nibble quarter))
whereabouts f _ v phase q _ _ stage part _ _ (delays {f = g} {n = n} out heads least back free) short e =
    one_frame f g phase q _ (λ (x : Queued). (Delays x n)) e heads (on_way (in_delay least (omega (arith, short))))
whereabouts f _ v phase q _ _ stage part _ _ (pends {f = g} out heads back free) short e =
    one_frame f g phase q _ (λ (x : Queued). (IsPending x)) e heads waits_for_turn
whereabouts f _ _ _ q d _ stage part _ _ (waits {f = g} {n = n} opening heads free) short e =
    let ticks = opening_ticks n d opening in
    one_frame f g _ q _ (λ (x : Queued). (Opens x n)) e heads (opens_now ticks.0 ticks.1)
whereabouts f _ _ phase q d _ stage part _ _ (rests_in resting free) short e = not_begun resting refl
whereabouts f _ v _ q _ a stage part _ line (before {f = g} {k = k} {p = p} {r = r} own heads tries quarter near free feeds) short e =
    one_frame f g _ q a (λ (x : Queued). (Before x k p r)) e heads (on_way (in_line (omega (arith, near))))
whereabouts f _ v _ q _ a stage _ _ line (fed {f = g} {i = i} {s = s} own heads tries quarter ahead least most tx feeds) short e = elim (cases_lt (4 * i + s) 8) [
  | inl early ↦ one_frame f g _ q a (λ (x : Queued). (InPiece x false i s)) e heads (on_way (in_start (omega (arith, early)) early))
  | inr late ↦ one_frame f g _ q a (λ (x : Queued). (InPiece x false i s)) e heads (has_left late)
]
whereabouts f _ _ phase q _ _ stage _ _ line (given_all resting tx feeds late past_start) short e = not_begun resting refl
whereabouts f _ _ phase q _ _ _ _ _ _ (ends resting few) short e = not_begun resting refl
whereabouts f _ _ phase q _ _ _ _ _ _ (closes resting few) short e = not_begun resting refl

-- the first of some frames is a frame
pub head_frame : (frames : List Queued) (f : Queued) → Fit frames → slice_get frames 0 ≡ Some f → IsFrame f.frame
head_frame [] f fit e = absurd (cc)
head_frame (x ∷ xs) f fit e = let same : x ≡ f = cc in subst (λ (y : Queued). IsFrame y.frame) same fit.0

module _ {D : Type 0} (answer : D → ℕ → ℕ) (after : D → D) (bounded : DrawsAreBounded answer) (start : Core D) (given : ℕ → CoreTick) (end : ℕ)
    (calm : IsUndisturbed answer after start given end) where
  abbrev Run : ℕ → Type 0
  Run t = RunAt answer after bounded start given end calm t

  abbrev found : ℕ → Core D
  found t = found_at answer after start given t

  abbrev left : ℕ → Core D
  left t = left_at answer after start given t

  -- a run from its start, with its short waits
  pub first_run : Stands Asleep start → (run : Run zero) × HasShortWait run.place
  unfolding core_at
  first_run stands = (record { place = Asleep; stands = stands; awake = inl refl; since = tt }, tt)

  pub run_on : (begin : Run zero) → HasShortWait begin.place → (t : ℕ) → t ≤ suc end → (run : Run t) × HasShortWait run.place
  run_on begin short zero within = (begin, short)
  run_on begin short (suc t) within =
      let (run, waits_short) = run_on begin short t (omega (arith, within)) in
      let tick = ticks answer after bounded start given end calm t (omega (arith, within)) run in (
        after_tick answer after bounded start given end calm t run tick,
        subst HasShortWait (sym (after_place answer after bounded start given end calm t run tick)) (short_next run.place tick.step.to (note_at answer after start given t) tick.step.popped tick.step.goes waits_short),
      )

  -- ---- to the first H, or to Pending

  -- the frame is there in one of n ticks
  pub record Comes (f : Queued) (low high : ℕ) : Type 0 where
    pub v : ℕ
    pub from : low ≤ v
    pub to : v ≤ high
    pub there : LeavesAt answer after start given f v ⊎ PendsAt answer after start given f v

  later : (f : Queued) (low low' high : ℕ) → low' ≤ low → Comes f low high → Comes f low' high
  later f low low' high less h = record { v = h.v; from = omega (arith, h.from, less); to = h.to; there = h.there }

  pending_there : (f : Queued) (t : ℕ) → Stands (IsPending f) (left t) → PendsAt answer after start given f t
  pending_there f t h = go _ _ _ _ _ _ _ _ _ h.joint
    where
      go : (v : View) (phase : Phase) (q : Queue) (d : Deference) (a : ℕ) (stage : Stage) (part : ℕ) (path : State) (line : List ℕ)
          → Joint (IsPending f) v phase q d a stage part path line → (path ≡ Pending) × (slice_get q.frames 0 ≡ Some f)
      go v phase q _ _ stage part _ _ (pends out heads back free) = (refl, heads.first)

  -- the ticks left of the way, with the ticks in which the opportunity has begun and the frame is not yet given
  data Way (f : Queued) (n : ℕ) : Place → Type 0 where
    walks : {place : Place} → OnWay f n place → Way f n place
    opens_on_way : {m : ℕ} → 192 ≤ m → m ≤ n + 176 → Way f n (Opens f m)

  data WayNext (f : Queued) (n : ℕ) : Place → Type 0 where
    nearer : {place : Place} {m : ℕ} → n ≡ m + 1 → Way f m place → WayNext f n place
    pending_now : WayNext f n (IsPending f)
    first_h : {b : Bool} → WayNext f n (InPiece f b 2 0)

  way_next : (f : Queued) (n : ℕ) (place to : Place) (note : MacNote) (popped : List ℕ) → 144 ≤ count_of f → Way f n place → Goes place note popped to → WayNext f n to
  way_next f n _ _ _ _ many (walks (in_hold near early quarter)) (holds_on on late part) = nearer {m = n - 1} (omega (arith, near, early, quarter)) (walks (in_hold (omega (arith, near, on, early, quarter)) late part))
  way_next f n _ _ _ _ many (walks (in_hold near early quarter)) (hold_fails on early' quarter') = nearer {m = n - 1} (omega (arith, near, early, quarter)) (walks (in_collision (omega (arith, near, on, early, quarter))))
  way_next f n _ _ _ _ many (walks (in_hold near early quarter)) (hold_opens early' quarter' low) = nearer {m = n - 1} (omega (arith, near, early, quarter)) (walks (in_line (omega (arith, near, low, early, quarter))))
  way_next f n _ _ _ _ many (walks (in_hold near early quarter)) (hold_pops early' quarter') = nearer {m = n - 1} (omega (arith, near, early, quarter)) (walks (in_start (omega (arith, near, early, quarter)) (omega arith)))
  way_next f n _ _ _ _ many (walks (in_collision near)) (collide_lasts less) = nearer {m = n - 1} (omega (arith, near)) (walks (in_collision (omega (arith, near, less))))
  way_next f n _ _ _ _ many (walks (in_collision near)) (collide_gives three low) = nearer {m = n - 1} (omega (arith, near)) (walks (in_collision (omega (arith, near, three, low))))
  way_next f n _ _ _ _ many (walks (in_collision near)) (collide_jams three late) = nearer {m = n - 1} (omega (arith, near)) (walks (in_jam (omega (arith, near, three)) (omega arith) (omega arith)))
  way_next f n _ _ _ _ many (walks (in_jam near nibble quarter)) (jam_lasts less) = nearer {m = n - 1} (omega (arith, near, nibble, quarter)) (walks (in_jam (omega (arith, near, less, nibble)) nibble (omega (arith, less))))
  way_next f n _ _ _ _ many (walks (in_jam near nibble quarter)) (jam_gives three less) = nearer {m = n - 1} (omega (arith, near, nibble, quarter)) (walks (in_jam (omega (arith, near, three, less)) (omega (arith, less)) (omega arith)))
  way_next f n _ _ _ _ many (walks (in_jam near nibble quarter)) (jam_ends three seven) = nearer {m = n - 1} (omega (arith, near, three, seven)) (walks (in_delay (omega arith) (omega (arith, near, three, seven))))
  way_next f n _ _ _ _ many (walks (in_delay some near)) (delays_on more) = nearer {m = n - 1} (omega (arith, near, more)) (walks (in_delay (omega (arith, more)) (omega (arith, near))))
  way_next f n _ _ _ _ many (walks (in_delay some near)) (delay_ends one) = pending_now
  way_next f n _ _ _ _ many (walks (in_line near)) (before_on less) = nearer {m = n - 1} (omega (arith, near)) (walks (in_line (omega (arith, near, less))))
  way_next f n _ _ _ _ many (walks (in_line near)) (before_pops none) = nearer {m = n - 1} (omega (arith, near)) (walks (in_start (omega (arith, near)) (omega arith)))
  way_next f n _ _ _ _ many (walks (in_start near early)) (piece_lasts {i = i} {s = s} told less) = nearer {m = n - 1} (omega (arith, near, early)) (walks (in_start (omega (arith, near)) (omega (arith, early, less))))
  way_next f n _ _ _ _ many (walks (in_start near early)) (piece_pops {i = zero} told three more) = nearer {m = n - 1} (omega (arith, near, early)) (walks (in_start (omega (arith, near, three)) (omega (arith, early))))
  way_next f n _ _ _ _ many (walks (in_start near early)) (piece_pops {i = suc zero} told three more) = first_h
  way_next f n _ _ _ _ many (walks (in_start near early)) (piece_pops {i = suc (suc i)} told three more) = absurd (omega (arith, early))
  way_next f n _ _ _ _ many (walks (in_start near early)) (piece_ends three all) = absurd (omega (arith, early, all, many))
  way_next f n _ _ _ _ many (opens_on_way least most) (opens_on e more) = nearer {m = n - 1} (omega (arith, least, most)) (opens_on_way more (omega (arith, most, e, least)))
  way_next f n _ _ _ _ many (opens_on_way least most) (open_starts e low) = nearer {m = n - 1} (omega (arith, least, most)) (walks (in_line (omega (arith, most, e, low))))

  none_left : (f : Queued) (place : Place) → Way f 0 place → ⊥
  none_left f _ (walks (in_hold near early quarter)) = omega (arith, near, early, quarter)
  none_left f _ (walks (in_collision near)) = omega (arith, near)
  none_left f _ (walks (in_jam near nibble quarter)) = omega (arith, near, nibble, quarter)
  none_left f _ (walks (in_delay some near)) = omega (arith, some, near)
  none_left f _ (walks (in_line near)) = omega (arith, near)
  none_left f _ (walks (in_start near early)) = omega (arith, near, early)
  none_left f _ (opens_on_way least most) = omega (arith, least, most)

  -- one tick of the way
  steps : (f : Queued) (n t : ℕ) (to : Place) → WayNext f (suc n) to → (Way f n to → Comes f (suc t) (t + n)) → Stands to (left t) → Comes f t (t + n)
  steps f n t _ (nearer {place = place} {m = m} less way) again h =
      let fewer : m ≡ n = omega (arith, less) in
      later f (suc t) t (t + n) (omega arith) (again (subst (λ x. Way f x place) fewer way))
  steps f n t _ pending_now again h = record { v = t; from = omega arith; to = omega arith; there = inr (pending_there f t h) }
  steps f n t _ (first_h {b = b}) again h =
      record { v = t; from = omega arith; to = omega arith; there = inl (first_h_leaves answer after bounded start given end calm f b t h) }

  walk : (f : Queued) (n t : ℕ) (run : Run t) → 144 ≤ count_of f → Way f (suc n) run.place → t + n ≤ end → Comes f t (t + n)
  walk f zero t run many way within =
      let tick = ticks answer after bounded start given end calm t (omega (arith, within)) run in
      steps f zero t tick.step.to (way_next f 1 run.place tick.step.to (note_at answer after start given t) tick.step.popped many way tick.step.goes)
      (λ none. absurd (none_left f tick.step.to none)) tick.step.stands
  walk f (suc n) t run many way within =
      let tick = ticks answer after bounded start given end calm t (omega (arith, within)) run in
      let next : Run (suc t) = after_tick answer after bounded start given end calm t run tick in
      let same : tick.step.to ≡ next.place = sym (after_place answer after bounded start given end calm t run tick) in
      let on : suc t + n ≡ t + suc n = omega arith in
      steps f (suc n) t tick.step.to (way_next f (suc (suc n)) run.place tick.step.to (note_at answer after start given t) tick.step.popped many way tick.step.goes)
      (λ way'. subst (λ m. Comes f (suc t) m) on (walk f n (suc t) next many (subst (λ (p : Place). Way f (suc n) p) same way') (omega (arith, within))))
      tick.step.stands

  -- ---- from where the frame is found

  -- a frame that has been begun, found in tick t
  pub comes : (f : Queued) (t : ℕ) (run : Run t) → 144 ≤ count_of f → t + 1000 ≤ end → OnWay f 1000 run.place → Comes f t (t + 999)
  comes f t run many within way = walk f 999 t run many (walks way) (omega (arith, within))

  pub opening_comes : (f : Queued) (n t : ℕ) (run : Run t) → 144 ≤ count_of f → t + 112 ≤ end → run.place ≡ Opens f n → 192 ≤ n → n ≤ 288 → Comes f t (t + 111)
  opening_comes f n t run many within same least most =
      walk f 111 t run many (subst (λ (p : Place). Way f 112 p) (sym same) (opens_on_way least (omega (arith, most)))) (omega (arith, within))

  pub turn_pends : (f : Queued) (t : ℕ) (run : Run t) → 144 ≤ count_of f → t + 113 ≤ end → run.place ≡ IsPending f → Comes f t (t + 112)
  turn_pends f t run many within same =
      let tick = ticks answer after bounded start given end calm t (omega (arith, within)) run in
      let next : Run (suc t) = after_tick answer after bounded start given end calm t run tick in
      go tick.step.to _ _ (subst (λ (p : Place). Goes p (note_at answer after start given t) tick.step.popped tick.step.to) same tick.step.goes) tick.step.stands next
      (after_place answer after bounded start given end calm t run tick)
    where
      go : (to : Place) (note : MacNote) (popped : List ℕ) → Goes (IsPending f) note popped to → Stands to (left t) → (next : Run (suc t)) → next.place ≡ to → Comes f t (t + 112)
      go _ _ _ pends_on h next place = record { v = t; from = omega arith; to = omega arith; there = inr (pending_there f t h) }
      go _ _ _ pending_opens h next place =
          let on : suc t + 111 ≡ t + 112 = omega arith in
          later f (suc t) t (t + 112) (omega arith) (subst (λ m. Comes f (suc t) m) on (opening_comes f 288 (suc t) next many (omega (arith, within)) place (omega arith) (omega arith)))

  -- from the first pop of its piece on
  pub piece_comes : (f : Queued) (n t : ℕ) → 144 ≤ count_of f → Began answer after bounded start given end calm f n t → 8 ≤ n → t ≤ end
      → (first : ℕ) × (first + 8 < t) × Awake answer after bounded start given end calm (suc first) × Comes f (suc first) (first + 8)
  piece_comes f n t many began late within =
      let run : Run (suc began.first) = record {
        place = InPiece f false 0 0;
        stands = began.stands;
        awake = inr began.awake;
        since = record { first = began.first; since = omega arith; pop = began.pop; stands = began.stands; awake = began.awake };
      } in
      let on : suc began.first + 7 ≡ began.first + 8 = omega arith in
      (began.first, omega (arith, began.since, late), began.awake, subst (λ m. Comes f (suc began.first) m) on (walk f 7 (suc began.first) run many (walks (in_start (omega arith) (omega arith))) (omega (arith, began.since, late, within))))

  -- ---- the end of a piece

  data PieceNext (f : Queued) (m : ℕ) (note : MacNote) : Place → Type 0 where
    sent_now : {place : Place} → note ≡ Sent f.number → PieceNext f m note place
    goes_on : {i s : ℕ} → 4 * i + s ≡ m + 1 → PieceNext f m note (InPiece f false i s)

  told_next : (f : Queued) (b : Bool) (note : MacNote) (m i s : ℕ) → Told f false note b → 4 * i + s ≡ m + 1 → PieceNext f m note (InPiece f b i s)
  told_next f _ _ m i s as_before e = goes_on e
  told_next f _ _ m i s now_sent e = sent_now refl

  piece_next : (f : Queued) (i s : ℕ) (note : MacNote) (popped : List ℕ) (to : Place) → Goes (InPiece f false i s) note popped to → PieceNext f (4 * i + s) note to
  piece_next f i s note _ _ (piece_lasts {b' = b} told less) = told_next f b note (4 * i + s) i (s + 1) told (omega arith)
  piece_next f i s note _ _ (piece_pops {b' = b} told three more) = told_next f b note (4 * i + s) (i + 1) 0 told (omega (arith, three))

  within_piece : (f : Queued) (i s : ℕ) (v : View) (phase : Phase) (q : Queue) (d : Deference) (a : ℕ) (stage : Stage) (part : ℕ) (path : State) (line : List ℕ)
      → Joint (InPiece f false i s) v phase q d a stage part path line → 4 * i + s < 4 * count_of f
  within_piece f i s v _ q _ a stage _ _ line (fed own heads tries quarter ahead least most (starting few part) feeds) = omega (arith, feeds.count, feeds.within, part)
  within_piece f i s v _ q _ a stage _ _ line (fed own heads tries quarter ahead least most (sending late part) feeds) = omega (arith, feeds.count, feeds.within, part)

  -- the frame of an open piece is sent before all its nibbles have been spelled
  pub sent_by_end : (f : Queued) (n i s t : ℕ) (run : Run t) → run.place ≡ InPiece f false i s → 4 * count_of f ≤ 4 * i + s + n → t + n ≤ end
      → (w : ℕ) × (t ≤ w) × (w < t + n) × (note_at answer after start given w ≡ Sent f.number)
  sent_by_end f zero i s t run same all within =
      let h : Stands (InPiece f false i s) (core_at answer after start given t) = subst (λ (p : Place). Stands p (core_at answer after start given t)) same run.stands in
      let room = within_piece f i s _ _ _ _ _ _ _ _ _ h.joint in
      absurd (omega (arith, room, all))
  sent_by_end f (suc n) i s t run same all within =
      let tick = ticks answer after bounded start given end calm t (omega (arith, within)) run in
      let next : Run (suc t) = after_tick answer after bounded start given end calm t run tick in
      go tick.step.to (piece_next f i s _ tick.step.popped tick.step.to (subst (λ (p : Place). Goes p (note_at answer after start given t) tick.step.popped tick.step.to) same tick.step.goes))
      (λ i' s' to e. sent_by_end f n i' s' (suc t) next (after_place answer after bounded start given end calm t run tick ∙ to) (omega (arith, all, e)) (omega (arith, within)))
    where
      go : (to : Place) → PieceNext f (4 * i + s) (note_at answer after start given t) to
          → ((i' s' : ℕ) → to ≡ InPiece f false i' s' → 4 * i' + s' ≡ 4 * i + s + 1 → (w : ℕ) × (suc t ≤ w) × (w < suc t + n) × (note_at answer after start given w ≡ Sent f.number))
          → (w : ℕ) × (t ≤ w) × (w < t + suc n) × (note_at answer after start given w ≡ Sent f.number)
      go _ (sent_now e) again = (t, omega arith, omega arith, e)
      go _ (goes_on {i = i'} {s = s'} e) again = let (w, low, high, sent) = again i' s' refl e in (w, omega (arith, low), omega (arith, high), sent)
