-- A piece of an own run along a run of the core: the opportunity stays the node's own, one frame leaves, and the closer
-- ends.
use Rattle.std.proofs.Common.{◌≡◌, ◌≢◌, ℕ, zero, suc, ◌+◌, ◌*◌, ◌==◌, ◌<◌, ◌≤◌, true, false, ◌&&◌, ◌||◌, IsTrue, if◌then◌else◌, None, List, [], ◌∷◌, refl, sym, ◌∙◌, ap, subst, arith}
use Rattle.std.proofs.lemmas.Bool.Decides.{nat_tests}
use Rattle.t1s_frame.specs.Frame.{IsFrame}
use Rattle.t1s_ring.specs.Queue.{Queue}
use Rattle.t1s_ring.specs.declared.queued.Queued.{Queued}
use Rattle.t1s_pcs_tx.specs.State.{TxState, Stage, is_closed, is_first_h}
use Rattle.t1s_pcs_tx.specs.TransmitTable.{at_boundary, report_of, is_quiet}
use Rattle.plca_control.specs.State.{ControlState}
use Rattle.plca_control.specs.ControlTable.{is_own}
use Rattle.plca_data.specs.declared.data_path.State.{State}
use Rattle.t1s_mac.specs.declared.deference.Deference.{Deference}
use Rattle.t1s_mac.specs.State.{Phase, number_of}
use Rattle.t1s_node.specs.Core.{Core}
use Rattle.t1s_node.specs.Laws.{IsPieceOf, LeavesAt}
use Rattle.t1s_node.specs.Runs.{CoreTick, DrawsAreBounded, IsUndisturbed, core_at, found_at, left_at, own_at, leaves_at, popped_at}
use Rattle.t1s_node.proofs.CoreSteps.{Stands}
use Rattle.t1s_node.proofs.FrameWays.{leaves_is, first_h_leaves}
use Rattle.t1s_node.proofs.JointPlaces.{Place, InPiece, Closes, nibble_of, Joint, fed, given as given_all, ends, closes}
use Rattle.t1s_node.proofs.JointTurns.{owning_own}
use Rattle.t1s_node.proofs.MacTurns.{Heads, count_of, long}
use Rattle.t1s_node.proofs.RunPlaces.{RunAt, Awake, next_core}
use Rattle.t1s_node.proofs.View.{View, InTransmit, own_of}
use Rattle.t1s_node.proofs.WholePiece.{PieceTick, at_pop, at_rest, at_end, at_closer, PieceRun, piece_run, whole_piece}
use Rattle.t1s_turns.proofs.OwnRunTicks.{own_is}
use Rattle.t1s_turns.proofs.OwnRunPiece.{PieceLeft, begins_piece, sends_piece, ends_piece, closes_piece, piece_left, left_not_closed, left_closed}
use Rattle.t1s_turns.proofs.OwnRunLead.{budget}
use Rattle.t1s_turns.proofs.OwnRunSteps.{own_state, tx_kept, control_kept, budget_kept}

piece_heads : (f : Queued) (v : View) (phase : Phase) (q : Queue) (d : Deference) (a : ℕ) (stage : Stage) (part : ℕ) (path : State) (line : List ℕ)
    → Joint (InPiece f false 0 0) v phase q d a stage part path line → Heads q f
piece_heads f v _ q _ a stage _ _ line (fed own heads tries quarter ahead least most tx feeds) = heads

pub first_frame : (f : Queued) (v : View) (phase : Phase) (q : Queue) (d : Deference) (a : ℕ) (stage : Stage) (part : ℕ) (path : State) (line : List ℕ)
    → Joint (InPiece f false 0 0) v phase q d a stage part path line → IsFrame f.frame
first_frame f v phase q d a stage part path line h = (piece_heads f v phase q d a stage part path line h).frame

piece_owns : (f : Queued) (m : ℕ) (place : Place) (popped : List ℕ) (v : View) (phase : Phase) (q : Queue) (d : Deference) (a : ℕ) (stage : Stage) (part : ℕ) (path : State) (line : List ℕ)
    → PieceTick f m place popped → Joint place v phase q d a stage part path line → own_of v ≡ true
piece_owns f m _ _ v _ q _ a stage _ _ line (at_pop some is) (fed own heads tries quarter ahead least most tx feeds) = owning_own v own
piece_owns f m _ _ _ phase q _ _ stage _ _ line (at_pop some is) (given_all resting tx feeds late past_start) = refl
piece_owns f m _ _ v _ q _ a stage _ _ line (at_rest some low high is) (fed own heads tries quarter ahead least most tx feeds) = owning_own v own
piece_owns f m _ _ _ phase q _ _ stage _ _ line (at_rest some low high is) (given_all resting tx feeds late past_start) = refl
piece_owns f m _ _ _ phase q _ _ _ _ _ _ (at_end high is) (ends resting few) = refl
piece_owns f m _ _ _ phase q _ _ _ _ _ _ (at_closer high is) (closes resting few) = refl

pub closed_view : (f : Queued) (v : View) (phase : Phase) (q : Queue) (d : Deference) (a : ℕ) (stage : Stage) (part : ℕ) (path : State) (line : List ℕ)
    → Joint (Closes f 3) v phase q d a stage part path line → v ≡ InTransmit
closed_view f _ phase q _ _ _ _ _ _ (closes resting few) = refl

closer_place : (f : Queued) (m : ℕ) (place : Place) (popped : List ℕ) → PieceTick f m place popped → m ≡ 4 * count_of f + 7 → place ≡ Closes f 3
closer_place f m _ _ (at_pop some is) last = absurd (omega (arith, is, last, some))
closer_place f m _ _ (at_rest some low high is) last = absurd (omega (arith, is, last, some, high))
closer_place f m _ _ (at_end high is) last = absurd (omega (arith, is, last, high))
closer_place f m _ _ (at_closer {s = s} high is) last = let three : s ≡ 3 = omega (arith, is, last) in ap (Closes f) three

module _ {D : Type 0} (answer : D → ℕ → ℕ) (after : D → D) (bounded : DrawsAreBounded answer) (start : Core D) (given : ℕ → CoreTick) (end : ℕ)
    (calm : IsUndisturbed answer after start given end) where
  abbrev Run : ℕ → Type 0
  Run t = RunAt answer after bounded start given end calm t

  abbrev found : ℕ → Core D
  found t = found_at answer after start given t

  abbrev left : ℕ → Core D
  left t = left_at answer after start given t

  -- the piece of a frame whose first pop is in tick first
  module _ (f : Queued) (first b : ℕ) (pop : popped_at answer after start given first ≡ nibble_of f 0 ∷ []) (stands : Stands (InPiece f false 0 0) (core_at answer after start given (suc first)))
      (awake : Awake answer after bounded start given end calm (suc first)) (within : first + (4 * count_of f + 7) ≤ end) (budgeted : budget (left first).control.state ≡ b) where
    pub piece_frame : IsFrame f.frame
    piece_frame = (piece_heads f _ _ _ _ _ _ _ _ _ stands.joint).frame

    pub many : 144 ≤ count_of f
    many = (long f piece_frame).0

    pub few : count_of f ≤ 3060
    few = (long f piece_frame).1

    pub piece : IsPieceOf answer after start given end f first
    piece = whole_piece answer after bounded start given end calm f first pop stands awake

    abbrev Tick : ℕ → ℕ → Type 0
    Tick m u = PieceRun answer after bounded start given end calm f first m u

    tick_of : (m u : ℕ) → first + m ≡ u → m < 4 * count_of f + 8 → Tick m u
    tick_of m u is low = piece_run answer after bounded start given end calm f first pop stands awake m u is low (omega (arith, within, is, low))

    tick_stands : (m u : ℕ) (r : Tick m u) → Stands r.run.place (left u)
    tick_stands m u r = subst (Stands r.run.place) (next_core answer after bounded start given end calm u) r.run.stands

    pub owns_tick : (m u : ℕ) → first + m ≡ u → m < 4 * count_of f + 8 → own_at answer after start given u ≡ true
    owns_tick m u is low =
        let r = tick_of m u is low in
        own_is answer after start given u ∙ piece_owns f m r.run.place r.popped _ _ _ _ _ _ _ _ _ r.tick (tick_stands m u r).joint

    left_of : (m u : ℕ) → first + m ≡ u → m < 4 * count_of f + 8 → PieceLeft answer after start given end f first piece many within m (left u).tx.stage (left u).tx.part
    left_of m u is low = piece_left answer after start given end f first piece many within m u low (sym is)

    other_h : (m : ℕ) (stage : Stage) (part : ℕ) → PieceLeft answer after start given end f first piece many within m stage part → m ≢ 8 → (is_first_h stage && (part == 0)) ≡ false
    other_h _ _ part (begins_piece {i = i} early low) other = grind (arith, nat_tests, other, low)
    other_h _ _ part (sends_piece late lt low) other = refl
    other_h _ _ part (ends_piece low) other = refl
    other_h _ _ part (closes_piece low) other = refl

    pub leaves_none : (m u : ℕ) → first + m ≡ u → m < 4 * count_of f + 8 → m ≢ 8 → leaves_at answer after start given u ≡ None
    leaves_none m u is low other =
        leaves_is answer after bounded start given end calm u
        ∙ ap (λ b. if b then number_of (left u).mac else None) (other_h m _ _ (left_of m u is low) other)

    leaves_of : (u : ℕ) (place : Place) (popped : List ℕ) → PieceTick f 8 place popped → Stands place (left u) → LeavesAt answer after start given f u
    leaves_of u _ _ (at_pop {b = b} {i = i} some is) h =
        let two : i ≡ 2 = omega (arith, is) in
        first_h_leaves answer after bounded start given end calm f b u (subst (λ n. Stands (InPiece f b n 0) (left u)) two h)
    leaves_of u _ _ (at_rest some low high is) h = absurd (omega (arith, is, low, high))
    leaves_of u _ _ (at_end high is) h = absurd (omega (arith, is, many))
    leaves_of u _ _ (at_closer high is) h = absurd (omega (arith, is, many))

    pub leaves_here : LeavesAt answer after start given f (first + 8)
    leaves_here =
        let r = tick_of 8 (first + 8) refl (omega (arith, many)) in
        leaves_of (first + 8) r.run.place r.popped r.tick (tick_stands 8 (first + 8) r)

    pub budget_on : (m u : ℕ) → first + m ≡ u → m < 4 * count_of f + 8 → budget (left u).control.state ≡ b
    budget_on zero u is low = let same : u ≡ first = omega (arith, is) in rw same budgeted
    budget_on (suc m) zero is low = absurd (omega (arith, is))
    budget_on (suc m) (suc u) is low =
        let before = budget_on m u (omega (arith, is)) (omega (arith, low)) in
        let own = owns_tick m u (omega (arith, is)) (omega (arith, low)) in
        let own_found : is_own (found (suc u)).control.state ≡ true =
        ap (λ (c : ControlState). is_own c.state) (control_kept answer after bounded start given end calm u) ∙ (sym (own_state answer after bounded start given end calm u) ∙ own) in
        let going : is_closed (report_of (found (suc u)).tx) ≡ false =
        ap (λ (s : TxState). is_closed (report_of s)) (tx_kept answer after bounded start given end calm u)
        ∙ left_not_closed answer after start given end f first piece many within m _ _ (left_of m u (omega (arith, is)) (omega (arith, low))) (omega (arith, low)) in
        budget_kept answer after bounded start given end calm (suc u) own_found (owns_tick (suc m) (suc u) is low) going
        ∙ (ap (λ (c : ControlState). budget c.state) (control_kept answer after bounded start given end calm u) ∙ before)

  -- the closer of a piece has just ended, and so many further frames may follow
  pub record AtClose (t b : ℕ) : Type 0 where
    pub run : Run t
    pub f : Queued
    pub place : run.place ≡ Closes f 3
    pub closed : is_closed (report_of (found t).tx) ≡ true
    pub boundary : IsTrue (at_boundary (found t).tx)
    pub budgeted : budget (found t).control.state ≡ b

  module _ (f : Queued) (first b : ℕ) (pop : popped_at answer after start given first ≡ nibble_of f 0 ∷ []) (stands : Stands (InPiece f false 0 0) (core_at answer after start given (suc first)))
      (awake : Awake answer after bounded start given end calm (suc first)) (within : first + (4 * count_of f + 7) ≤ end) (budgeted : budget (left first).control.state ≡ b) where
    closer_boundary : (m : ℕ) (stage : Stage) (part : ℕ) → PieceLeft answer after start given end f first (piece f first b pop stands awake within budgeted) (many f first b pop stands awake within budgeted) within m stage part
        → m ≡ 4 * count_of f + 7 → (is_quiet stage || (part == 3)) ≡ true
    closer_boundary _ _ part (begins_piece early low) last = absurd (omega (arith, last, early, low, many f first b pop stands awake within budgeted))
    closer_boundary _ _ part (sends_piece late lt low) last = absurd (omega (arith, last, lt, low))
    closer_boundary _ _ part (ends_piece low) last = absurd (omega (arith, last, low))
    closer_boundary _ _ part (closes_piece low) last = grind (arith, nat_tests, last, low)

    pub closes_here : AtClose (suc (first + (4 * count_of f + 7))) b
    closes_here =
        let u : ℕ = first + (4 * count_of f + 7) in
        let m : ℕ = 4 * count_of f + 7 in
        let low : m < 4 * count_of f + 8 = omega arith in
        let r = tick_of f first b pop stands awake within budgeted m u refl low in
        let left_here = left_of f first b pop stands awake within budgeted m u refl low in
        record {
          run = r.run;
          f = f;
          place = closer_place f m r.run.place r.popped r.tick refl;
          closed =
              ap (λ (s : TxState). is_closed (report_of s)) (tx_kept answer after bounded start given end calm u)
              ∙ ap is_closed (left_closed answer after start given end f first (piece f first b pop stands awake within budgeted) (many f first b pop stands awake within budgeted) within m _ _ left_here refl);
          boundary = ap at_boundary (tx_kept answer after bounded start given end calm u) ∙ closer_boundary m _ _ left_here refl;
          budgeted = ap (λ (c : ControlState). budget c.state) (control_kept answer after bounded start given end calm u) ∙ budget_on f first b pop stands awake within budgeted m u refl low;
        }
