-- The steps of a node whose frame has met a logical collision, until its opportunity begins.
use Rattle.std.proofs.Common.{◌≡◌, ℕ, ◌+◌, ◌-◌, ◌==◌, ◌<◌, ◌≤◌, Bool, true, false, List, [], refl, sym, subst, arith}
use Rattle.std.proofs.lemmas.Bool.Decides.{nat_tests}
use Rattle.t1s_symbols.specs.declared.Class.{Class}
use Rattle.t1s_ring.specs.Queue.{Queue}
use Rattle.t1s_ring.specs.declared.queued.Queued.{Queued}
use Rattle.t1s_pcs_tx.specs.State.{Stage}
use Rattle.plca_data.specs.declared.data_path.State.TheVariants.{WaitMac}
use Rattle.plca_data.specs.DataPathTable.{collide, delay_pending, pending}
use Rattle.t1s_mac.specs.DeferenceTable.{deference_step}
use Rattle.t1s_mac.specs.declared.deference.Deference.TheVariants.{Busy}
use Rattle.plca_data.specs.declared.MacOut.TheVariants.{Nothing}
use Rattle.t1s_mac.specs.declared.outcome.MacNote.TheVariants.{None as NoNote}
use Rattle.t1s_mac.specs.MacTable.{Row, row}
use Rattle.t1s_node.proofs.HoldSteps.{told_in}
use Rattle.t1s_node.proofs.MacTurns.{Heads, SendTurn, lasts, jams as begins_jam, gives, sends, JamTurn, jam_lasts, jam_goes, jam_ends, BacksOff, waits, BackoffTurn, backs_off, count_of, frame_there}
use Rattle.t1s_node.proofs.JointPlaces.{Collides, Jams, Delays, IsPending, Opens, collide_lasts, collide_gives, collide_jams, jam_lasts as jam_on, jam_gives, jam_ends as jam_over, delays_on, delay_ends, pends_on, pending_opens, Apart, Outcome, collides, jams, delays, pends, waits as waits_in, opens as opens_busy}
use Rattle.t1s_node.proofs.JointTurns.{ApartTurn, still, opens, apart_own, FreeNext, frees}
use Rattle.t1s_node.proofs.View.{View, InCommit, own_of}
use Rattle.std.proofs.lemmas.Bool.{cond_both}

module _ (own closed crs : Bool) (class : Class) (q : Queue) (v' : View) (out : Apart v') where
  pub collide_steps : (f : Queued) (k p : ℕ) (hit : Bool) (left : Row) (stage : Stage) (part : ℕ) (line' : List ℕ)
      → Heads q f → k < count_of f → p ≤ 3 → hit ≡ true → SendTurn q f k p 0 hit left → FreeNext [] stage part line'
      → Outcome (Collides f k p) [] v' left (deference_step Busy true true left.starts) stage part line' (collide (told_in own closed crs class left.out) line')
  collide_steps f k p hit _ stage part _ heads within quarter e (lasts less) (frees free most) =
      record { to = Collides f k (p + 1); popped = []; goes = collide_lasts less; lost = refl; joint = collides out heads within (omega (arith, less)) free }
  collide_steps f k p hit _ stage part _ heads within quarter e (begins_jam three late h) (frees free most) =
      record { to = Jams f 0 0; popped = []; goes = collide_jams three late; lost = refl; joint = jams out heads (omega arith) (omega arith) free }
  collide_steps f k p hit _ stage part _ heads within quarter e (gives three more early) (frees free most) =
      record { to = Collides f (k + 1) 0; popped = []; goes = collide_gives three (early e); lost = refl; joint = collides out heads more (omega arith) free }
  collide_steps f k p hit _ stage part _ heads within quarter e (sends three all none) (frees free most) = absurd (cc)

  pub jam_steps : (f : Queued) (j p drawn : ℕ) (left : Row) (stage : Stage) (part : ℕ) (line' : List ℕ)
      → Heads q f → j ≤ 7 → p ≤ 3 → drawn < 2 → JamTurn q j p drawn left → FreeNext [] stage part line'
      → Outcome (Jams f j p) [] v' left (deference_step Busy true true left.starts) stage part line' (collide (told_in own closed crs class left.out) line')
  jam_steps f j p drawn _ stage part _ heads nibble quarter low (jam_lasts less) (frees free most) =
      record { to = Jams f j (p + 1); popped = []; goes = jam_on less; lost = refl; joint = jams out heads nibble (omega (arith, less)) free }
  jam_steps f j p drawn _ stage part _ heads nibble quarter low (jam_goes three less) (frees free most) =
      record { to = Jams f (j + 1) 0; popped = []; goes = jam_gives three less; lost = refl; joint = jams out heads (omega (arith, less)) (omega arith) free }
  jam_steps f j p drawn _ stage part _ heads nibble quarter low (jam_ends three seven) (frees free most) =
      record { to = Delays f 512; popped = []; goes = jam_over three seven; lost = refl; joint = delays out heads (omega arith) (waits (omega (arith, low)) (frame_there q f heads)) free }

  pub delay_steps : (f : Queued) (n : ℕ) (left : Row) (stage : Stage) (part : ℕ) (line' : List ℕ)
      → Heads q f → 1 ≤ n → BackoffTurn n q 1 left → FreeNext [] stage part line'
      → Outcome (Delays f n) [] v' left (deference_step Busy true false left.starts) stage part line' (delay_pending n (told_in own closed crs class left.out) line')
  delay_steps f n _ stage part _ heads least (backs_off {phase = phase} back last) (frees free most) =
      cond_both (n == 1) _ _ (λ kept. Outcome (Delays f n) [] v' (row phase q 1 Nothing NoNote) Busy stage part [] kept)
      (λ e.
      let one : n ≡ 1 = grind (arith, nat_tests, e) in
      let none : n - 1 ≡ 0 = omega (arith, one) in
      record { to = IsPending f; popped = []; goes = delay_ends one; lost = refl; joint = pends out heads (subst (λ m. BacksOff m phase q) none back) free })
      (λ e.
      let more : 1 < n = grind (arith, nat_tests, e, least) in
      record { to = Delays f (n - 1); popped = []; goes = delays_on more; lost = refl; joint = delays out heads (omega (arith, more)) back free })

pub pending_steps : (closed crs : Bool) (class : Class) (f : Queued) (q : Queue) (v v' : View) (left : Row) (stage : Stage) (part : ℕ) (line' : List ℕ)
    → Heads q f → ApartTurn true v v' → BackoffTurn 0 q 1 left → FreeNext [] stage part line'
    → Outcome (IsPending f) [] v' left (deference_step Busy true false left.starts) stage part line' (pending (told_in (own_of v') closed crs class left.out) line')
pending_steps closed crs class f q v v' _ stage part _ heads (still out) (backs_off {phase = phase} back last) (frees free most) =
    subst (λ own. Outcome (IsPending f) [] v' (row phase q 1 Nothing NoNote) Busy stage part [] (pending (told_in own closed crs class Nothing) [])) (sym (apart_own v' out))
    (record { to = IsPending f; popped = []; goes = pends_on; lost = refl; joint = pends out heads back free })
pending_steps closed crs class f q _ _ _ stage part _ heads (opens e) (backs_off {phase = phase} back last) (frees free most) =
    subst (λ ph. Outcome (IsPending f) [] (InCommit 288) (row ph q 1 Nothing NoNote) Busy stage part [] (WaitMac, [])) (sym (last refl))
    (record { to = Opens f 288; popped = []; goes = pending_opens; lost = refl; joint = waits_in opens_busy heads free })
