-- The steps of a node in which no frame is given out: before its first cycle, at rest, and between the frames of a burst.
use Rattle.std.proofs.Common.{◌≡◌, ℕ, Bool, true, false, List, [], ◌∷◌, slice_index, refl, sym, subst, arith}
use Rattle.t1s_frame.specs.Frame.{nibble_list}
use Rattle.t1s_symbols.specs.declared.Class.{Class}
use Rattle.t1s_ring.specs.Queue.{Queue}
use Rattle.t1s_ring.specs.declared.queued.Queued.{Queued}
use Rattle.t1s_pcs_tx.specs.declared.TxCmd.TheVariants.{None as NoCmd}
use Rattle.t1s_pcs_tx.specs.State.{Stage}
use Rattle.plca_data.specs.DataPathTable.{idle, wait_mac}
use Rattle.t1s_mac.specs.DeferenceTable.{deference_step}
use Rattle.t1s_mac.specs.declared.deference.Deference.{Deference}
use Rattle.t1s_mac.specs.declared.deference.Deference.TheVariants.{Busy}
use Rattle.t1s_mac.specs.declared.outcome.MacNote.TheVariants.{None as NoNote}
use Rattle.t1s_mac.specs.MacTable.{Row}
use Rattle.t1s_node.proofs.LineFeed.{Feeds, first_given}
use Rattle.t1s_node.proofs.NoPiece.{FreeTurn, goes_on, falls_quiet}
use Rattle.t1s_node.proofs.HoldSteps.{told_in}
use Rattle.t1s_node.proofs.MacTurns.{Heads, StartTurn, starts, stays, starting, started_busy, long}
use Rattle.t1s_node.proofs.JointPlaces.{Place, Asleep, Idles, Holds, Pauses, Before, Goes, sleeps, wakes, pauses_on, pause_ends, pause_lapses, pause_starts, Apart, away, pause, Outcome, asleep, idles, holds, rests_in, before}
use Rattle.t1s_node.proofs.JointTurns.{FreeNext, frees, aligned_first}
use Rattle.t1s_node.proofs.View.{View, Away, InPause, own_of, Turns, pause_sends, pause_waits, pause_ends as pause_over}

-- the first nibble in an empty line
pub first_in : (q : Queue) (f : Queued) → Heads q f → Feeds (nibble_list f.frame) 1 0 (slice_index (nibble_list f.frame) 0 ∷ [])
first_in q f heads = first_given (nibble_list f.frame) _ refl (omega (arith, (long f heads.frame).0))

-- at rest a frame starts, or not
module _ (from : Place) (to_hold : (f : Queued) → Goes from NoNote [] (Holds f 0 0)) (to_idle : Goes from NoNote [] Idles)
    (own closed crs : Bool) (class : Class) (q : Queue) (v' : View) (d : Deference) (carrier sending : Bool) (out : Apart v') where
  pub idle_steps : (may : Bool) (left : Row) (stage : Stage) (part : ℕ) (line' : List ℕ)
      → StartTurn q 0 may left → FreeNext [] stage part line'
      → Outcome from [] v' left (deference_step d carrier sending left.starts) stage part line' (idle (told_in own closed crs class left.out) line')
  idle_steps may _ stage part _ (starts {f = f} e heads) (frees {r = r} free most) =
      subst (λ d'. Outcome from [] v' (starting q f 0) d' stage part [] (idle (told_in own closed crs class (starting q f 0).out) []))
      (sym (started_busy d carrier sending))
      (record {
        to = Holds f 0 0;
        popped = [];
        goes = to_hold f;
        lost = refl;
        joint = holds heads (omega arith) (omega arith) free (aligned_first r v' most out) (first_in q f heads);
      })
  idle_steps may _ stage part _ (stays resting) (frees free most) =
      record { to = Idles; popped = []; goes = to_idle; lost = refl; joint = idles out resting free }

-- before control takes part, nothing is given out and nothing is driven
pub asleep_steps : (own closed crs : Bool) (class : Class) (q : Queue) (left : Row) (stage : Stage) (part : ℕ) (line' : List ℕ)
    → FreeTurn 0 [] NoCmd stage part line' → StartTurn q 0 false left
    → (out : Outcome Asleep [] Away left (deference_step Busy true false left.starts) stage part line'
    (idle (record { active = false; own = own; closed = closed; crs = crs; class = class; hit = false; mac = left.out }) line'))
    × (out.to ≡ Asleep)
asleep_steps own closed crs class q _ stage part line' tx (starts e heads) = absurd (cc)
asleep_steps own closed crs class q _ stage part _ (goes_on e free) (stays resting) = absurd (omega (arith, e))
asleep_steps own closed crs class q _ _ part _ (falls_quiet e) (stays resting) =
    (record { to = Asleep; popped = []; goes = sleeps; lost = refl; joint = asleep resting }, refl)

pub wake_steps : (own closed crs : Bool) (class : Class) (q : Queue) (v' : View) (left : Row) (stage : Stage) (part : ℕ) (line' : List ℕ)
    → Apart v' → StartTurn q 0 false left → FreeNext [] stage part line'
    → Outcome Asleep [] v' left (deference_step Busy true false left.starts) stage part line' (idle (told_in own closed crs class left.out) line')
wake_steps own closed crs class q v' _ stage part _ out (starts e heads) tx = absurd (cc)
wake_steps own closed crs class q v' _ stage part _ out (stays resting) (frees free most) =
    record { to = Idles; popped = []; goes = wakes; lost = refl; joint = idles out resting free }

-- between the frames of a burst
pub pause_steps : (crs : Bool) (class : Class) (q : Queue) (n : ℕ) (v' : View) (d : Deference) (sending may : Bool) (left : Row) (stage : Stage) (part : ℕ) (line' : List ℕ)
    → Turns false false false (InPause n) v' → StartTurn q 0 may left → FreeNext [] stage part line'
    → Outcome Pauses [] v' left (deference_step d false sending left.starts) stage part line' (wait_mac (told_in (own_of v') false crs class left.out) line')
pause_steps crs class q n _ d sending may left stage part line' (pause_sends e) mac tx = absurd (cc)
pause_steps crs class q n _ d sending may _ stage part _ (pause_waits {m = m} e less some) (starts {f = f} go heads) (frees {r = r} free most) =
    subst (λ d'. Outcome Pauses [] (InPause m) (starting q f 0) d' stage part [] (wait_mac (told_in true false crs class (starting q f 0).out) []))
    (sym (started_busy d false sending))
    (record {
      to = Before f 0 0 r;
      popped = [];
      goes = pause_starts most;
      lost = refl;
      joint = before pause heads (omega arith) (omega arith) (omega (arith, most)) free (first_in q f heads);
    })
pause_steps crs class q n _ d sending may _ stage part _ (pause_waits e less some) (stays resting) (frees free most) =
    record { to = Pauses; popped = []; goes = pauses_on; lost = refl; joint = rests_in resting free }
pause_steps crs class q n _ d sending may left stage part line' (pause_over e less) mac tx =
    idle_steps Pauses (λ f. pause_lapses) pause_ends false false crs class q Away d false sending away may left stage part line' mac tx
