-- The frame whose first H begins.
use Rattle.std.proofs.Common.{◌≡◌, ℕ, zero, suc, ◌+◌, ◌==◌, ◌≤◌, Bool, true, false, ◌&&◌, if◌then◌else◌, List, slice_get, Option, Some, None, refl, sym, ◌∙◌, ap, subst, arith}
use Rattle.std.specs.Cmp.{first_so, second_so}
use Rattle.std.proofs.lemmas.Bool.Decides.{nat_tests}
use Rattle.t1s_ring.specs.Queue.{Queue}
use Rattle.t1s_ring.specs.declared.queued.Queued.{Queued}
use Rattle.plca_data.specs.declared.data_path.State.{State}
use Rattle.t1s_mac.specs.declared.deference.Deference.{Deference}
use Rattle.t1s_mac.specs.State.{Phase, head_number, is_sending}
use Rattle.t1s_pcs_tx.specs.State.{Stage, is_first_h, first_h_begins}
use Rattle.t1s_node.specs.Core.{Core}
use Rattle.t1s_node.specs.Laws.{IsPieceOf}
use Rattle.t1s_node.specs.Runs.{CoreTick, DrawsAreBounded, IsUndisturbed, left_at, leaves_at}
use Rattle.t1s_node.proofs.RunPlaces.{RunAt, Since, ticks, run_at, after_tick, after_place}
use Rattle.t1s_node.proofs.NoPiece.{Free, quiet, beacons, commits}
use Rattle.t1s_node.proofs.JointPlaces.{Place, InPiece, PieceTx, starting, sending, Joint, asleep, idles, holds, collides, jams, delays, pends, waits, rests_in, before, fed, given as given_all, ends, closes}
use Rattle.t1s_node.proofs.MacTurns.{Heads}
use Rattle.t1s_node.proofs.View.{View}
use Rattle.t1s_node.proofs.FrameWays.{leaves_is}
use Rattle.t1s_node.proofs.WholePiece.{whole_piece}

free_no_h : (stage : Stage) (part r n : ℕ) → Free stage part r → (is_first_h stage && (n == 0)) ≡ true → ⊥
free_no_h _ part r n quiet e = cc
free_no_h _ part r n (beacons is) e = cc
free_no_h _ part r n (commits is) e = cc

h_place : (i s : ℕ) (stage : Stage) → PieceTx i s stage → (is_first_h stage && (s == 0)) ≡ true → (i ≡ 2) × (s ≡ 0)
h_place i s _ (starting early low) e =
    let third = first_so (i == 2) (s == 0) e in
    let first = second_so (i == 2) (s == 0) e in
    (grind (arith, nat_tests, third), grind (arith, nat_tests, first))
h_place i s _ (sending late low) e = absurd (cc)

-- it begins only in a piece that the MAC still gives the frame for
record HPlace (place : Place) (q : Queue) : Type 0 where
  f : Queued
  heads : Heads q f
  is : place ≡ InPiece f false 2 0

h_in_piece : (f : Queued) (i s : ℕ) (q : Queue) → Heads q f → (i ≡ 2) × (s ≡ 0) → HPlace (InPiece f false i s) q
h_in_piece f i s q heads (third, first) = record { f = f; heads = heads; is = rw (third, first) refl }

first_h_place : (place : Place) (v : View) (phase : Phase) (q : Queue) (d : Deference) (a : ℕ) (stage : Stage) (part : ℕ) (path : State) (line : List ℕ)
    → Joint place v phase q d a stage part path line → (is_first_h stage && (part == 0)) ≡ true → HPlace place q
first_h_place _ _ phase q _ _ _ part _ _ (asleep resting) e = absurd (cc)
first_h_place _ v phase q d _ stage part _ _ (idles {r = r} out resting free) e = absurd (free_no_h stage part r part free e)
first_h_place _ v _ q _ _ stage part _ line (holds {r = r} heads early quarter free al feeds) e = absurd (free_no_h stage part r part free e)
first_h_place _ v _ q _ _ stage part _ _ (collides {r = r} out heads within quarter free) e = absurd (free_no_h stage part r part free e)
first_h_place _ v _ q _ _ stage part _ _ (jams {r = r} out some nibble quarter free) e = absurd (free_no_h stage part r part free e)
first_h_place _ v phase q _ _ stage part _ _ (delays {r = r} out heads least back free) e = absurd (free_no_h stage part r part free e)
first_h_place _ v phase q _ _ stage part _ _ (pends {r = r} out heads back free) e = absurd (free_no_h stage part r part free e)
first_h_place _ _ _ q d _ stage part _ _ (waits {r = r} opening some free) e = absurd (free_no_h stage part r part free e)
first_h_place _ _ phase q d _ stage part _ _ (rests_in {r = r} resting free) e = absurd (free_no_h stage part r part free e)
first_h_place _ v _ q _ a stage part _ line (before {r = r} own heads tries quarter near free feeds) e = absurd (free_no_h stage part r part free e)
first_h_place _ v _ q _ a stage _ _ line (fed {f = f} {i = i} {s = s} own heads tries quarter ahead least most tx feeds) e = h_in_piece f i s q heads (h_place i s stage tx e)
first_h_place _ _ phase q _ _ stage _ _ line (given_all {i = i} {s = s} resting tx feeds late past_start) e =
    let third : i ≡ 2 = (h_place i s stage tx e).0 in absurd (omega (arith, third, past_start))
first_h_place _ _ phase q _ _ _ _ _ _ (ends resting few) e = absurd (cc)
first_h_place _ _ phase q _ _ _ _ _ _ (closes resting few) e = absurd (cc)

number_in_some : Option ℕ → ℕ
number_in_some (Some y) = y
number_in_some None = 0

number_is : (x n : ℕ) → Some x ≡ Some n → x ≡ n
unfolding number_in_some
number_is x n e = ap number_in_some e

some_of : (b s : Bool) (x n : ℕ) → (if b then (if s then Some x else None) else None) ≡ Some n → (b ≡ true) × (x ≡ n)
some_of true true x n e = (refl, number_is x n e)
some_of true false x n e = absurd (cc)
some_of false s x n e = absurd (cc)

module _ {D : Type 0} (answer : D → ℕ → ℕ) (after : D → D) (bounded : DrawsAreBounded answer) (start : Core D) (given : ℕ → CoreTick) (end : ℕ)
    (calm : IsUndisturbed answer after start given end) (begin : RunAt answer after bounded start given end calm zero) where
  pub sends_whole : (t number : ℕ) → t ≤ end → leaves_at answer after start given t ≡ Some number
      → (f : Queued) × (first : ℕ) × (slice_get (left_at answer after start given t).mac.queue.frames 0 ≡ Some f) × (f.number ≡ number)
      × (first + 8 ≡ t) × IsPieceOf answer after start given end f first
  sends_whole t number within leaves =
      let run = run_at answer after bounded start given end calm begin t (omega arith) in
      let tick = ticks answer after bounded start given end calm t within run in
      let next = after_tick answer after bounded start given end calm t run tick in
      let place = after_place answer after bounded start given end calm t run tick in
      let (now, is) = some_of (first_h_begins (left_at answer after start given t).tx) (is_sending (left_at answer after start given t).mac.phase) (head_number (left_at answer after start given t).mac.queue) number
      (sym (leaves_is answer after bounded start given end calm t) ∙ leaves) in
      let h = first_h_place tick.step.to _ _ _ _ _ _ _ _ _ tick.step.stands.joint now in
      let since : Since answer after bounded start given end calm (suc t) (InPiece h.f false 2 0) =
      subst (λ (p : Place). Since answer after bounded start given end calm (suc t) p) (place ∙ h.is) next.since in (
        h.f,
        since.first,
        h.heads.first,
        sym h.heads.number ∙ is,
        omega (arith, since.since),
        whole_piece answer after bounded start given end calm h.f since.first since.pop since.stands since.awake,
      )
