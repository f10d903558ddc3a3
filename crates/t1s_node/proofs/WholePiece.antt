-- The piece of a frame, from its first pop to its closer.
use Rattle.std.proofs.Common.{◌≡◌, ℕ, zero, suc, ◌+◌, ◌*◌, ◌<◌, ◌≤◌, ◌⊎◌, inl, inr, Bool, true, false, List, [], ◌∷◌, refl, sym, ◌∙◌, ap, subst, arith}
use Rattle.std.proofs.lemmas.Bool.{false≢true}
use Rattle.t1s_ring.specs.Queue.{Queue}
use Rattle.t1s_ring.specs.declared.queued.Queued.{Queued}
use Rattle.plca_data.specs.declared.data_path.State.{State}
use Rattle.t1s_mac.specs.declared.deference.Deference.{Deference}
use Rattle.t1s_mac.specs.declared.outcome.MacNote.{MacNote}
use Rattle.t1s_mac.specs.declared.outcome.MacNote.TheVariants.{Sent}
use Rattle.t1s_mac.specs.State.{Phase}
use Rattle.t1s_pcs_tx.specs.State.{Stage, ClosingEnd, ClosingCloser}
use Rattle.t1s_node.specs.Core.{Core}
use Rattle.t1s_node.specs.Laws.{Spells, IsPieceOf}
use Rattle.t1s_node.specs.Runs.{CoreTick, DrawsAreBounded, IsUndisturbed, core_at, left_at, note_at, popped_at}
use Rattle.t1s_node.proofs.RunPlaces.{RunAt, Awake, ticks, after_tick, after_place, next_core, pops_of}
use Rattle.t1s_node.proofs.CoreSteps.{Stands}
use Rattle.t1s_node.proofs.JointPlaces.{Place, InPiece, Ends, Closes, nibble_of, Told, as_before, now_sent, Goes, piece_lasts, piece_pops, piece_ends, ends_on, end_closes, closes_on, close_pauses, close_rests, PieceTx, starting, sending, Joint, fed, given as given_all, ends, closes}
use Rattle.t1s_node.proofs.MacTurns.{Heads, count_of, long}
use Rattle.t1s_node.proofs.View.{View}

-- the place after tick m of a piece, counted from its first pop, and what is popped in it
pub data PieceTick (f : Queued) (m : ℕ) : Place → List ℕ → Type 0 where
  at_pop : {b : Bool} {i : ℕ} → i < count_of f → m ≡ 4 * i → PieceTick f m (InPiece f b i 0) (nibble_of f i ∷ [])
  at_rest : {b : Bool} {i s : ℕ} → i < count_of f → 1 ≤ s → s ≤ 3 → m ≡ 4 * i + s → PieceTick f m (InPiece f b i s) []
  at_end : {s : ℕ} → s ≤ 3 → m ≡ 4 * count_of f + s → PieceTick f m (Ends f s) []
  at_closer : {s : ℕ} → s ≤ 3 → m ≡ 4 * count_of f + 4 + s → PieceTick f m (Closes f s) []

next_tick : (f : Queued) (m : ℕ) (place to : Place) (news : MacNote) (popped popped' : List ℕ) → suc m < 4 * count_of f + 8
    → PieceTick f m place popped → Goes place news popped' to → PieceTick f (suc m) to popped'
next_tick f m _ _ news _ _ within (at_pop some is) (piece_lasts told less) = at_rest some (omega arith) (omega arith) (omega (arith, is))
next_tick f m _ _ news _ _ within (at_pop some is) (piece_pops told three more) = absurd (omega (arith, three))
next_tick f m _ _ news _ _ within (at_pop some is) (piece_ends three all) = absurd (omega (arith, three))
next_tick f m _ _ news _ _ within (at_rest some low high is) (piece_lasts told less) = at_rest some (omega arith) (omega (arith, less)) (omega (arith, is))
next_tick f m _ _ news _ _ within (at_rest some low high is) (piece_pops told three more) = at_pop more (omega (arith, is, three))
next_tick f m _ _ news _ _ within (at_rest some low high is) (piece_ends three all) = at_end (omega arith) (omega (arith, is, three, all))
next_tick f m _ _ news _ _ within (at_end high is) (ends_on less) = at_end (omega (arith, less)) (omega (arith, is))
next_tick f m _ _ news _ _ within (at_end high is) (end_closes three) = at_closer (omega arith) (omega (arith, is, three))
next_tick f m _ _ news _ _ within (at_closer high is) (closes_on less) = at_closer (omega (arith, less)) (omega (arith, is))
next_tick f m _ _ news _ _ within (at_closer high is) (close_pauses three) = absurd (omega (arith, is, three, within))
next_tick f m _ _ news _ _ within (at_closer high is) (close_rests three) = absurd (omega (arith, is, three, within))

-- the frame has been sent
abbrev is_sent : Place → Bool
is_sent (InPiece f b i s) = b
is_sent (Ends f s) = true
is_sent (Closes f s) = true
is_sent _ = false

told_sent : (f : Queued) (b b' : Bool) (news : MacNote) → Told f b news b' → b' ≡ true → (b ≡ true) ⊎ (news ≡ Sent f.number)
told_sent f b _ _ as_before e = inl e
told_sent f _ _ _ now_sent e = inr refl

-- a step by which it is sent is within the nibbles of the piece, and long after its first H
data SentBy (f : Queued) (m : ℕ) : Place → MacNote → Type 0 where
  earlier : {place : Place} {news : MacNote} → is_sent place ≡ true → SentBy f m place news
  now : {place : Place} {news : MacNote} → news ≡ Sent f.number → 8 < suc m → suc m < 4 * count_of f → SentBy f m place news

sent_by_told : (f : Queued) (m i s i' s' : ℕ) (b b' : Bool) (news : MacNote) (v : View) (phase : Phase) (q : Queue) (d : Deference) (a : ℕ) (stage : Stage) (part : ℕ) (path : State) (line : List ℕ)
    → 144 ≤ count_of f → Told f b news b' → b' ≡ true → Joint (InPiece f b' i' s') v phase q d a stage part path line → suc m ≡ 4 * i' + s' → i' < count_of f → s' ≤ 3
    → SentBy f m (InPiece f b i s) news
sent_by_told f m i s i' s' b _ news v phase q d a stage part path line many as_before e h is some high = earlier e
sent_by_told f m i s i' s' _ _ _ _ phase q _ _ stage _ _ line many now_sent e (given_all resting tx feeds late past_start) is some high =
    now refl (omega (arith, is, late, many)) (omega (arith, is, some, high))

sent_step : (f : Queued) (m : ℕ) (place to : Place) (news : MacNote) (popped popped' : List ℕ) (v : View) (phase : Phase) (q : Queue) (d : Deference) (a : ℕ) (stage : Stage) (part : ℕ) (path : State) (line : List ℕ)
    → 144 ≤ count_of f → PieceTick f m place popped → Goes place news popped' to → Joint to v phase q d a stage part path line → is_sent to ≡ true → SentBy f m place news
sent_step f m _ _ news _ _ v phase q d a stage part path line many (at_pop {i = i} some is) (piece_lasts {s = s} told less) h e =
    sent_by_told f m i 0 i (0 + 1) _ _ news v phase q d a stage part path line many told e h (omega (arith, is)) some (omega arith)
sent_step f m _ _ news _ _ v phase q d a stage part path line many (at_pop some is) (piece_pops told three more) h e = absurd (omega (arith, three))
sent_step f m _ _ news _ _ v phase q d a stage part path line many (at_pop some is) (piece_ends three all) h e = earlier refl
sent_step f m _ _ news _ _ v phase q d a stage part path line many (at_rest {i = i} {s = s} some low high is) (piece_lasts told less) h e =
    sent_by_told f m i s i (s + 1) _ _ news v phase q d a stage part path line many told e h (omega (arith, is)) some (omega (arith, less))
sent_step f m _ _ news _ _ v phase q d a stage part path line many (at_rest {i = i} {s = s} some low high is) (piece_pops told three more) h e =
    sent_by_told f m i s (i + 1) 0 _ _ news v phase q d a stage part path line many told e h (omega (arith, is, three)) more (omega arith)
sent_step f m _ _ news _ _ v phase q d a stage part path line many (at_rest some low high is) (piece_ends three all) h e = earlier refl
sent_step f m _ _ news _ _ v phase q d a stage part path line many (at_end high is) goes h e = earlier refl
sent_step f m _ _ news _ _ v phase q d a stage part path line many (at_closer high is) goes h e = earlier refl

-- what the transmitter spells in a piece
tx_spells : (i s : ℕ) (stage : Stage) → PieceTx i s stage → Spells i stage
tx_spells i s _ (starting early low) = record { early = λ less. refl; late = λ more. absurd (omega (arith, early, more)) }
tx_spells i s _ (sending {x = x} late low) = record { early = λ less. absurd (omega (arith, less, late)); late = λ more. (x, refl) }

joint_spells : (f : Queued) (b : Bool) (i s : ℕ) (v : View) (phase : Phase) (q : Queue) (d : Deference) (a : ℕ) (stage : Stage) (part : ℕ) (path : State) (line : List ℕ)
    → Joint (InPiece f b i s) v phase q d a stage part path line → Spells i stage × (part ≡ s)
joint_spells f _ i s v _ q _ a stage _ _ line (fed own heads tries quarter ahead least most tx feeds) = (tx_spells i s stage tx, refl)
joint_spells f _ i s _ phase q _ _ stage _ _ line (given_all resting tx feeds late past_start) = (tx_spells i s stage tx, refl)

joint_ends : (f : Queued) (s : ℕ) (v : View) (phase : Phase) (q : Queue) (d : Deference) (a : ℕ) (stage : Stage) (part : ℕ) (path : State) (line : List ℕ)
    → Joint (Ends f s) v phase q d a stage part path line → (stage ≡ ClosingEnd true) × (part ≡ s)
joint_ends f s _ phase q _ _ _ _ _ _ (ends resting few) = (refl, refl)

joint_closes : (f : Queued) (s : ℕ) (v : View) (phase : Phase) (q : Queue) (d : Deference) (a : ℕ) (stage : Stage) (part : ℕ) (path : State) (line : List ℕ)
    → Joint (Closes f s) v phase q d a stage part path line → (stage ≡ ClosingCloser true) × (part ≡ s)
joint_closes f s _ phase q _ _ _ _ _ _ (closes resting few) = (refl, refl)

first_heads : (f : Queued) (v : View) (phase : Phase) (q : Queue) (d : Deference) (a : ℕ) (stage : Stage) (part : ℕ) (path : State) (line : List ℕ)
    → Joint (InPiece f false 0 0) v phase q d a stage part path line → Heads q f
first_heads f v _ q _ a stage _ _ line (fed own heads tries quarter ahead least most tx feeds) = heads

-- what a tick of the piece tells of its place
is_pop : (f : Queued) (m i : ℕ) (place : Place) (popped : List ℕ) → PieceTick f m place popped → i < count_of f → m ≡ 4 * i → popped ≡ nibble_of f i ∷ []
is_pop f m i _ _ (at_pop {i = j} some is) within e = let same : j ≡ i = omega (arith, is, e) in ap (λ n. nibble_of f n ∷ []) same
is_pop f m i _ _ (at_rest some low high is) within e = absurd (omega (arith, is, e, low, high))
is_pop f m i _ _ (at_end high is) within e = absurd (omega (arith, is, e, within))
is_pop f m i _ _ (at_closer high is) within e = absurd (omega (arith, is, e, within))

no_pop : (f : Queued) (m i q : ℕ) (place : Place) (popped : List ℕ) → PieceTick f m place popped → i < count_of f + 2 → q < 4 → (i < count_of f → 1 ≤ q) → m ≡ 4 * i + q → popped ≡ []
no_pop f m i q _ _ (at_pop {i = j} some is) within few rests e =
    let same : j ≡ i = omega (arith, is, e, few) in
    let low : 1 ≤ q = rests (omega (arith, some, same)) in absurd (omega (arith, is, e, few, low))
no_pop f m i q _ _ (at_rest some low high is) within few rests e = refl
no_pop f m i q _ _ (at_end high is) within few rests e = refl
no_pop f m i q _ _ (at_closer high is) within few rests e = refl

spells_at : (f : Queued) (m i s : ℕ) (place : Place) (popped : List ℕ) (v : View) (phase : Phase) (q : Queue) (d : Deference) (a : ℕ) (stage : Stage) (part : ℕ) (path : State) (line : List ℕ)
    → PieceTick f m place popped → Joint place v phase q d a stage part path line → i < count_of f → s < 4 → m ≡ 4 * i + s → Spells i stage × (part ≡ s)
spells_at f m i s _ _ v phase q d a stage part path line (at_pop {b = b} {i = j} some is) h within few e =
    let same : j ≡ i = omega (arith, is, e, few) in
    let none : 0 ≡ s = omega (arith, is, e, few) in
    let (spells, at) = joint_spells f b j 0 v phase q d a stage part path line h in
    (subst (λ n. Spells n stage) same spells, at ∙ none)
spells_at f m i s _ _ v phase q d a stage part path line (at_rest {b = b} {i = j} {s = r} some low high is) h within few e =
    let same : j ≡ i = omega (arith, is, e, few, high) in
    let quarter : r ≡ s = omega (arith, is, e, few, high) in
    let (spells, at) = joint_spells f b j r v phase q d a stage part path line h in
    (subst (λ n. Spells n stage) same spells, at ∙ quarter)
spells_at f m i s _ _ v phase q d a stage part path line (at_end high is) h within few e = absurd (omega (arith, is, e, within, few))
spells_at f m i s _ _ v phase q d a stage part path line (at_closer high is) h within few e = absurd (omega (arith, is, e, within, few))

ends_at : (f : Queued) (m s : ℕ) (place : Place) (popped : List ℕ) (v : View) (phase : Phase) (q : Queue) (d : Deference) (a : ℕ) (stage : Stage) (part : ℕ) (path : State) (line : List ℕ)
    → PieceTick f m place popped → Joint place v phase q d a stage part path line → s < 4 → m ≡ 4 * count_of f + s → (stage ≡ ClosingEnd true) × (part ≡ s)
ends_at f m s _ _ v phase q d a stage part path line (at_pop some is) h few e = absurd (omega (arith, is, e, some))
ends_at f m s _ _ v phase q d a stage part path line (at_rest some low high is) h few e = absurd (omega (arith, is, e, some, high))
ends_at f m s _ _ v phase q d a stage part path line (at_end {s = r} high is) h few e =
    let quarter : r ≡ s = omega (arith, is, e) in
    let (symbol, at) = joint_ends f r v phase q d a stage part path line h in
    (symbol, at ∙ quarter)
ends_at f m s _ _ v phase q d a stage part path line (at_closer high is) h few e = absurd (omega (arith, is, e, few))

closes_at : (f : Queued) (m s : ℕ) (place : Place) (popped : List ℕ) (v : View) (phase : Phase) (q : Queue) (d : Deference) (a : ℕ) (stage : Stage) (part : ℕ) (path : State) (line : List ℕ)
    → PieceTick f m place popped → Joint place v phase q d a stage part path line → s < 4 → m ≡ 4 * count_of f + 4 + s → (stage ≡ ClosingCloser true) × (part ≡ s)
closes_at f m s _ _ v phase q d a stage part path line (at_pop some is) h few e = absurd (omega (arith, is, e, some))
closes_at f m s _ _ v phase q d a stage part path line (at_rest some low high is) h few e = absurd (omega (arith, is, e, some, high))
closes_at f m s _ _ v phase q d a stage part path line (at_end high is) h few e = absurd (omega (arith, is, e, high))
closes_at f m s _ _ v phase q d a stage part path line (at_closer {s = r} high is) h few e =
    let quarter : r ≡ s = omega (arith, is, e) in
    let (symbol, at) = joint_closes f r v phase q d a stage part path line h in
    (symbol, at ∙ quarter)

sent_at : (f : Queued) (m : ℕ) (place : Place) (popped : List ℕ) → PieceTick f m place popped → m ≡ 4 * count_of f → is_sent place ≡ true
sent_at f m _ _ (at_pop some is) e = absurd (omega (arith, is, e, some))
sent_at f m _ _ (at_rest some low high is) e = absurd (omega (arith, is, e, some, high))
sent_at f m _ _ (at_end high is) e = refl
sent_at f m _ _ (at_closer high is) e = refl

module _ {D : Type 0} (answer : D → ℕ → ℕ) (after : D → D) (bounded : DrawsAreBounded answer) (start : Core D) (given : ℕ → CoreTick) (end : ℕ)
    (calm : IsUndisturbed answer after start given end) (f : Queued) (first : ℕ) where
  abbrev Run : ℕ → Type 0
  Run t = RunAt answer after bounded start given end calm t

  abbrev left : ℕ → Core D
  left t = left_at answer after start given t

  -- the news that the frame was sent, up to tick u
  abbrev SentUpTo : ℕ → Type 0
  SentUpTo u = (w : ℕ) × (first + 8 < w) × (w ≤ u) × (w < first + 4 * count_of f) × (note_at answer after start given w ≡ Sent f.number)

  -- tick u, which is tick m of the piece
  pub record PieceRun (m u : ℕ) : Type 0 where
    pub run : Run (suc u)
    pub popped : List ℕ
    pub tick : PieceTick f m run.place popped
    pub pop : popped_at answer after start given u ≡ popped
    pub sent : is_sent run.place ≡ true → SentUpTo u

  piece_first : popped_at answer after start given first ≡ nibble_of f 0 ∷ [] → Stands (InPiece f false 0 0) (core_at answer after start given (suc first))
      → Awake answer after bounded start given end calm (suc first) → 144 ≤ count_of f → PieceRun 0 first
  piece_first pop stands awake many = record {
    run = record {
      place = InPiece f false 0 0;
      stands = stands;
      awake = inr awake;
      since = record { first = first; since = omega arith; pop = pop; stands = stands; awake = awake };
    };
    popped = nibble_of f 0 ∷ [];
    tick = at_pop (omega (arith, many)) refl;
    pop = pop;
    sent = λ e. absurd (false≢true e);
  }

  piece_next : (m u : ℕ) → 144 ≤ count_of f → suc m < 4 * count_of f + 8 → u ≡ first + m → suc u ≤ end → PieceRun m u → PieceRun (suc m) (suc u)
  piece_next m u many within is low r =
      let tick = ticks answer after bounded start given end calm (suc u) low r.run in
      let next : Run (suc (suc u)) = after_tick answer after bounded start given end calm (suc u) r.run tick in
      let same : tick.step.to ≡ next.place = sym (after_place answer after bounded start given end calm (suc u) r.run tick) in
      let on : PieceTick f (suc m) tick.step.to tick.step.popped =
      next_tick f m r.run.place tick.step.to (note_at answer after start given (suc u)) r.popped tick.step.popped within r.tick tick.step.goes in
      record {
        run = next;
        popped = tick.step.popped;
        tick = subst (λ (p : Place). PieceTick f (suc m) p tick.step.popped) same on;
        pop = pops_of answer after bounded start given end calm (suc u) r.run.place tick;
        sent = λ e. sent_on m u (note_at answer after start given (suc u)) r.run.place is refl r.sent
            (sent_step f m r.run.place tick.step.to (note_at answer after start given (suc u)) r.popped tick.step.popped _ _ _ _ _ _ _ _ _ many r.tick tick.step.goes tick.step.stands.joint
            (ap is_sent same ∙ e));
      }
    where
      sent_on : (m u : ℕ) (news : MacNote) (place : Place) → u ≡ first + m → note_at answer after start given (suc u) ≡ news
          → (is_sent place ≡ true → SentUpTo u) → SentBy f m place news → SentUpTo (suc u)
      sent_on m u _ place is same before_it (earlier e) =
          let (w, after_h, low, high, told) = before_it e in (w, after_h, omega (arith, low), high, told)
      sent_on m u _ place is same before_it (now told late early) = (suc u, omega (arith, is, late), omega arith, omega (arith, is, early), same ∙ told)

  piece_at : PieceRun 0 first → 144 ≤ count_of f → (m : ℕ) → m < 4 * count_of f + 8 → first + m ≤ end → PieceRun m (first + m)
  piece_at began many zero within low = let on : first ≡ first + 0 = omega arith in subst (PieceRun 0) on began
  piece_at began many (suc m) within low =
      let on : suc (first + m) ≡ first + suc m = omega arith in
      subst (PieceRun (suc m)) on (piece_next m (first + m) many within refl (omega (arith, low)) (piece_at began many m (omega arith) (omega (arith, low))))

  piece_on : PieceRun 0 first → 144 ≤ count_of f → (m u : ℕ) → first + m ≡ u → m < 4 * count_of f + 8 → u ≤ end → PieceRun m u
  piece_on began many m u is within low = subst (PieceRun m) is (piece_at began many m within (omega (arith, is, low)))

  left_stands : (u : ℕ) (place : Place) → Stands place (core_at answer after start given (suc u)) → Stands place (left u)
  left_stands u place h = subst (Stands place) (next_core answer after bounded start given end calm u) h

  -- each tick of the piece, from its first pop to the end of its closer
  pub piece_run : popped_at answer after start given first ≡ nibble_of f 0 ∷ [] → Stands (InPiece f false 0 0) (core_at answer after start given (suc first))
      → Awake answer after bounded start given end calm (suc first) → (m u : ℕ) → first + m ≡ u → m < 4 * count_of f + 8 → u ≤ end → PieceRun m u
  piece_run pop stands awake = piece_on (piece_first pop stands awake many) many
    where
      many : 144 ≤ count_of f
      many = (long f (first_heads f _ _ _ _ _ _ _ _ _ stands.joint).frame).0

  pub whole_piece : popped_at answer after start given first ≡ nibble_of f 0 ∷ [] → Stands (InPiece f false 0 0) (core_at answer after start given (suc first))
      → Awake answer after bounded start given end calm (suc first) → IsPieceOf answer after start given end f first
  whole_piece pop stands awake = record {
    pops = λ i some low.
        let r = piece_on began many (4 * i) _ refl (omega (arith, some)) low in
        r.pop ∙ is_pop f (4 * i) i r.run.place r.popped r.tick some refl;
    pops_else = λ i q some few rests low.
        let r = piece_on began many (4 * i + q) _ (omega arith) (omega (arith, some, few)) low in
        r.pop ∙ no_pop f (4 * i + q) i q r.run.place r.popped r.tick some few rests refl;
    spells = λ i q some few low.
        let r = piece_on began many (4 * i + q) _ (omega arith) (omega (arith, some, few)) low in
        spells_at f (4 * i + q) i q r.run.place r.popped _ _ _ _ _ _ _ _ _ r.tick (left_stands _ r.run.place r.run.stands).joint some few refl;
    ends = λ q few low.
        let r = piece_on began many (4 * count_of f + q) _ (omega arith) (omega (arith, few)) low in
        ends_at f (4 * count_of f + q) q r.run.place r.popped _ _ _ _ _ _ _ _ _ r.tick (left_stands _ r.run.place r.run.stands).joint few refl;
    closes = λ q few low.
        let r = piece_on began many (4 * count_of f + 4 + q) _ (omega arith) (omega (arith, few)) low in
        closes_at f (4 * count_of f + 4 + q) q r.run.place r.popped _ _ _ _ _ _ _ _ _ r.tick (left_stands _ r.run.place r.run.stands).joint few refl;
    sent = λ low.
        let r = piece_on began many (4 * count_of f) _ refl (omega arith) low in
        let (w, after_h, before_it, high, told) = r.sent (sent_at f (4 * count_of f) r.run.place r.popped r.tick refl) in
        (w, after_h, high, told);
  }
    where
      many : 144 ≤ count_of f
      many = (long f (first_heads f _ _ _ _ _ _ _ _ _ stands.joint).frame).0

      began : PieceRun 0 first
      began = piece_first pop stands awake many
