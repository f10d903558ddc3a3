-- A first frame that the MAC has not begun: the node is in Idle, or holds its own opportunity.
use Rattle.std.proofs.Common.{◌≡◌, ℕ, suc, ◌+◌, ◌<◌, ◌⊎◌, inl, inr, Bool, true, false, nat_lt, List, length, refl, sym, ◌∙◌, ap, subst, arith, rules}
use Rattle.std.proofs.lemmas.Bool.{false≢true}
use Rattle.std.proofs.lemmas.Bool.Decides.{nat_tests}
use Rattle.t1s_ring.specs.Queue.{Queue, empty_queue}
use Rattle.t1s_pcs_tx.specs.State.{Stage}
use Rattle.plca_control.specs.declared.ControlSet.{ControlSet}
use Rattle.plca_data.specs.declared.DataIn.{DataIn}
use Rattle.plca_data.specs.declared.data_path.State.{State}
use Rattle.plca_data.specs.declared.data_path.State.TheVariants.{Silent, Idle, Hold, Collide, DelayPending, Pending, WaitMac, Transmit}
use Rattle.plca_data.specs.DataPathTable.{data_path_step, carrier, collision}
use Rattle.t1s_mac.specs.declared.deference.Deference.{Deference}
use Rattle.t1s_mac.specs.DeferenceTable.{may_start}
use Rattle.t1s_mac.specs.MacTable.{Row, row_of, mac_row, deferring}
use Rattle.t1s_mac.specs.State.{Phase, Resting, Deferring, Waiting, Sending, Jamming}
use Rattle.t1s_node.specs.Core.{Core, core_drive, core_start}
use Rattle.t1s_node.specs.Runs.{CoreTick, IsUndisturbed, found_at, left_at, active_at, own_at, carrier_at, starts_at, is_first_nibble}
use Rattle.t1s_node.proofs.CoreSteps.{start_stands}
use Rattle.t1s_node.proofs.JointPlaces.{Place, Joint, asleep, idles, holds, collides, jams, delays, pends, waits, rests_in, before, fed, given, ends, closes}
use Rattle.t1s_node.proofs.RunPlaces.{ticks, run_at, begin_at}
use Rattle.t1s_node.proofs.View.{View, view_of, own_of}
use Rattle.t1s_turns.specs.FirstFrame.{is_at_rest, HoldsFirst}
use Rattle.t1s_turns.proofs.OwnRunTicks.{own_is, next_keep}

-- an active data path is not silent
abbrev is_silent : State → Bool
is_silent Silent = true
is_silent Idle = false
is_silent Hold = false
is_silent Collide = false
is_silent (DelayPending n) = false
is_silent Pending = false
is_silent WaitMac = false
is_silent (Transmit ended bad) = false

never_silent : (st : State) (i : DataIn) (line : List ℕ) → i.active ≡ true → is_silent (data_path_step st i line).0 ≡ false
never_silent _ i line e = search (rules, nat_tests)

-- where the MAC is at rest with a fresh frame outside of the own opportunity, the data path is in Idle
idle_path : (place : Place) (v : View) (phase : Phase) (q : Queue) (d : Deference) (a : ℕ) (stage : Stage) (part : ℕ) (path : State) (line : List ℕ)
    → Joint place v phase q d a stage part path line → is_at_rest phase ≡ true → a ≡ 0 → own_of v ≡ false → is_silent path ≡ false → path ≡ Idle
idle_path _ _ phase q _ _ _ part _ _ (asleep resting) rest fresh out heard = absurd (false≢true (sym heard))
idle_path _ v phase q d _ stage part _ _ (idles away resting free) rest fresh out heard = refl
idle_path _ v _ q _ _ stage part _ line (holds heads early quarter free al feeds) rest fresh out heard = absurd (false≢true rest)
idle_path _ v _ q _ _ stage part _ _ (collides away heads within quarter free) rest fresh out heard = absurd (false≢true rest)
idle_path _ v _ q _ _ stage part _ _ (jams away heads nibble quarter free) rest fresh out heard = absurd (false≢true rest)
idle_path _ v phase q _ _ stage part _ _ (delays away heads least back free) rest fresh out heard = absurd (omega (arith, fresh))
idle_path _ v phase q _ _ stage part _ _ (pends away heads back free) rest fresh out heard = absurd (omega (arith, fresh))
idle_path _ _ _ q d _ stage part _ _ (waits opening heads free) rest fresh out heard = absurd (omega (arith, fresh))
idle_path _ _ phase q d _ stage part _ _ (rests_in resting free) rest fresh out heard = absurd (false≢true (sym out))
idle_path _ v _ q _ a stage part _ line (before own heads tries quarter near free feeds) rest fresh out heard = absurd (false≢true rest)
idle_path _ v _ q _ a stage _ _ line (fed {d = n} own heads tries quarter ahead least most tx feeds) rest fresh out heard = absurd (false≢true rest)
idle_path _ _ phase q _ _ stage _ _ line (given resting tx feeds late past_start) rest fresh out heard = absurd (false≢true (sym out))
idle_path _ _ phase q _ _ _ _ _ _ (ends resting few) rest fresh out heard = absurd (false≢true (sym out))
idle_path _ _ phase q _ _ _ _ _ _ (closes resting few) rest fresh out heard = absurd (false≢true (sym out))

-- the row of a MAC at rest with a frame
abbrev Begun : Row → Type 0
Begun left = (is_first_nibble left.phase ≡ true) ⊎ (left.phase ≡ Deferring)

deferring_row : (q : Queue) (a : ℕ) (may : Bool) → Begun (deferring q a may)
deferring_row q a true = inl refl
deferring_row q a false = inr refl

rest_row : (phase : Phase) (q : Queue) (a : ℕ) (may hit : Bool) (drawn : ℕ) → is_at_rest phase ≡ true → 0 < length q.frames → Begun (row_of phase q a may hit drawn)
rest_row Resting q a may hit drawn rest some =
    let here : nat_lt 0 (length q.frames) ≡ true = grind (arith, nat_tests, some) in
    rw here (deferring_row q a may)
rest_row Deferring q a may hit drawn rest some = deferring_row q a may
rest_row (Waiting left) q a may hit drawn rest some = absurd (false≢true rest)
rest_row (Sending nibble quarter collided) q a may hit drawn rest some = absurd (false≢true rest)
rest_row (Jamming nibble quarter) q a may hit drawn rest some = absurd (false≢true rest)

module _ {D : Type 0} (answer : D → ℕ → ℕ) (after : D → D) (set : ControlSet) (room : ℕ) (draws : D) (given_at : ℕ → CoreTick) (end : ℕ)
    (calm : IsUndisturbed answer after (core_start set (empty_queue room) draws) given_at end) where
  abbrev start : Core D
  start = core_start set (empty_queue room) draws

  abbrev found : ℕ → Core D
  found t = found_at answer after start given_at t

  abbrev left : ℕ → Core D
  left t = left_at answer after start given_at t

  phase_left : (t : ℕ) → (left t).mac.phase ≡ (mac_row answer (found t).mac (carrier (found t).path (given_at t).reading.crs) (collision (found t).path)).phase
  unfolding core_drive
  phase_left t = refl

  heard_left : (t : ℕ) → active_at answer after start given_at t ≡ true → is_silent (left t).path ≡ false
  unfolding core_drive
  heard_left t active = never_silent _ _ _ active

  pub waits_for_quiet : (t : ℕ) → t < end → active_at answer after start given_at t ≡ true → own_at answer after start given_at t ≡ false
      → HoldsFirst (found (suc t)).mac → (given_at (suc t)).reading.crs ≡ false
      → (carrier_at answer after start given_at (suc t) ≡ false)
      × ((starts_at answer after start given_at (suc t) ≡ true) ⊎ ((left (suc t)).mac.phase ≡ Deferring))
  waits_for_quiet t within active out first quiet =
      let begin = begin_at answer after calm.draws start given_at end calm (start_stands set room draws) in
      let run = run_at answer after calm.draws start given_at end calm begin (suc t) (omega (arith, within)) in
      let tick = ticks answer after calm.draws start given_at end calm (suc t) (omega (arith, within)) run in
      let away : own_of (view_of (found (suc t)).control.state) ≡ false =
      next_keep answer after start given_at (λ c _ _ _. own_of (view_of c.state) ≡ false) t (sym (own_is answer after start given_at t) ∙ out) in
      let heard : is_silent (found (suc t)).path ≡ false = next_keep answer after start given_at (λ _ _ path _. is_silent path ≡ false) t (heard_left t active) in
      let idle : (found (suc t)).path ≡ Idle = idle_path run.place _ _ _ _ _ _ _ _ _ tick.found.joint first.at_rest first.fresh away heard in
      let row = rest_row (found (suc t)).mac.phase (found (suc t)).mac.queue (found (suc t)).mac.attempts
      (may_start (found (suc t)).mac.deference (carrier (found (suc t)).path (given_at (suc t)).reading.crs)) (collision (found (suc t)).path)
      (answer (found (suc t)).mac.draws ((found (suc t)).mac.attempts + 1)) first.at_rest first.some in (
        ap (λ (st : State). carrier st (given_at (suc t)).reading.crs) idle ∙ quiet,
        subst (λ (phase : Phase). (is_first_nibble phase ≡ true) ⊎ (phase ≡ Deferring)) (sym (phase_left (suc t))) row,
      )
