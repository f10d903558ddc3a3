-- When frames start.
use Rattle.std.proofs.Common.{◌≡◌, ℕ, zero, suc, ◌<◌, ◌≤◌, inl, inr, Bool, true, false, List, refl, sym, ◌∙◌, subst, arith}
use Rattle.std.proofs.lemmas.Bool.{false≢true}
use Rattle.t1s_ring.specs.Queue.{Queue}
use Rattle.plca_data.specs.declared.data_path.State.{State}
use Rattle.t1s_mac.specs.declared.deference.Deference.{Deference}
use Rattle.t1s_mac.specs.declared.outcome.MacNote.{MacNote}
use Rattle.t1s_mac.specs.State.{Phase, Sending}
use Rattle.t1s_pcs_tx.specs.State.{Stage}
use Rattle.t1s_node.specs.Core.{Core}
use Rattle.t1s_node.specs.Runs.{CoreTick, DrawsAreBounded, IsUndisturbed, active_at, note_at, starts_at, is_first_nibble}
use Rattle.t1s_node.proofs.RunPlaces.{RunAt, ticks, run_at}
use Rattle.t1s_node.proofs.JointPlaces.{Place, Asleep, Goes, sleeps, wakes, Joint, asleep, idles}
use Rattle.t1s_node.proofs.MacTurns.{Rests, rests, defers}
use Rattle.t1s_node.proofs.View.{View}

pub rests_not_first : (phase : Phase) (q : Queue) → Rests phase q → is_first_nibble phase ≡ false
rests_not_first _ q rests = refl
rests_not_first _ q (defers some) = refl

pub first_is_zero : (k p : ℕ) (c : Bool) → is_first_nibble (Sending k p c) ≡ true → (k ≡ 0) × (p ≡ 0)
first_is_zero zero zero c e = (refl, refl)
first_is_zero zero (suc p) c e = absurd (cc)
first_is_zero (suc k) p c e = absurd (cc)

-- from the place before the first cycle no frame starts
none_from_sleep : (to : Place) (note : MacNote) (popped : List ℕ) (v : View) (phase : Phase) (q : Queue) (d : Deference) (a : ℕ) (stage : Stage) (part : ℕ) (path : State) (line : List ℕ)
    → Goes Asleep note popped to → Joint to v phase q d a stage part path line → is_first_nibble phase ≡ false
none_from_sleep _ _ _ _ phase q _ _ _ part _ _ sleeps (asleep resting) = rests_not_first phase q resting
none_from_sleep _ _ _ v phase q d _ stage part _ _ wakes (idles out resting free) = rests_not_first phase q resting

module _ {D : Type 0} (answer : D → ℕ → ℕ) (after : D → D) (bounded : DrawsAreBounded answer) (start : Core D) (given : ℕ → CoreTick) (end : ℕ)
    (calm : IsUndisturbed answer after start given end) (begin : RunAt answer after bounded start given end calm zero) where
  pub starts_awake : (t : ℕ) → t ≤ end → starts_at answer after start given t ≡ true → (u : ℕ) × (u < t) × (active_at answer after start given u ≡ true)
  starts_awake t within starts =
      let run = run_at answer after bounded start given end calm begin t (omega arith) in
      let tick = ticks answer after bounded start given end calm t within run in
      elim run.awake [
        | inl same ↦
            let goes = subst (λ (p : Place). Goes p (note_at answer after start given t) tick.step.popped tick.step.to) same tick.step.goes in
            absurd (false≢true (sym (none_from_sleep tick.step.to _ tick.step.popped _ _ _ _ _ _ _ _ _ goes tick.step.stands.joint) ∙ starts))
        | inr awake ↦ awake
      ]
