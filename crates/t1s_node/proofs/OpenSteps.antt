-- The steps of a node in its own opportunity before the first pop.
use Rattle.std.proofs.Common.{◌≡◌, ℕ, ◌+◌, ◌-◌, ◌*◌, ◌==◌, ◌<◌, ◌≤◌, nat_lt, Bool, true, false, List, [], ◌∷◌, ◌++◌, length, slice_index, refl, sym, ◌∙◌, ap, subst, arith}
use Rattle.std.proofs.lemmas.Bool.Decides.{nat_tests}
use Rattle.t1s_frame.specs.Frame.{nibble_list}
use Rattle.t1s_symbols.specs.declared.Class.{Class}
use Rattle.t1s_ring.specs.Queue.{Queue}
use Rattle.t1s_ring.specs.declared.queued.Queued.{Queued}
use Rattle.t1s_pcs_tx.specs.declared.TxCmd.TheVariants.{Commit as CommitCmd}
use Rattle.t1s_pcs_tx.specs.State.{Stage, Starting}
use Rattle.plca_data.specs.declared.MacOut.TheVariants.{Nothing, Nibble}
use Rattle.plca_data.specs.declared.data_path.State.{State}
use Rattle.plca_data.specs.declared.data_path.State.TheVariants.{Transmit, WaitMac}
use Rattle.plca_data.specs.DataPathTable.{wait_mac, transmit}
use Rattle.t1s_mac.specs.DeferenceTable.{deference_step, may_start}
use Rattle.t1s_mac.specs.declared.deference.Deference.{Deference}
use Rattle.t1s_mac.specs.declared.deference.Deference.TheVariants.{Busy, Gap}
use Rattle.t1s_mac.specs.declared.outcome.MacNote.TheVariants.{None as NoNote}
use Rattle.t1s_mac.specs.MacTable.{Row, row}
use Rattle.t1s_mac.specs.State.{Deferring}
use Rattle.t1s_node.proofs.LineFeed.{Feeds, one_given, one_popped, popped_is, not_full}
use Rattle.t1s_node.proofs.NoPiece.{Free, FreeTurn, goes_on, begins_commit, begins_piece}
use Rattle.t1s_node.proofs.HoldSteps.{told_in}
use Rattle.t1s_node.proofs.IdleSteps.{first_in}
use Rattle.t1s_node.proofs.MacTurns.{first_same, Heads, DeferTurn, begins, defers_on, SendTurn, lasts, jams, gives, sends, giving, starting as starts_row, started_busy, long}
use Rattle.t1s_node.proofs.JointPlaces.{Goes, Opens, Before, InPiece, Opening, opens, gap, opens_on, open_starts, before_on, before_pops, Owning, commit, transmit as transmits, Outcome, waits, before, fed, starting, nibble_of}
use Rattle.t1s_node.proofs.JointTurns.{FreeNext, frees}
use Rattle.t1s_node.proofs.View.{View, InCommit, InTransmit, own_of, Turns, commit_sends, commit_waits, commit_ends, stays_transmit, pauses, transmit_ends, pause_sends, pause_waits, pause_ends}

-- what a step with a nibble leaves in Transmit, where the line has room
pub nibble_kept : (ended closed crs : Bool) (class : Class) (x : ℕ) (line : List ℕ) → closed ≡ false → length line < 97
    → transmit ended false (told_in true closed crs class (Nibble x)) line ≡ (Transmit ended false, line ++ x ∷ [])
nibble_kept ended closed crs class x line e room =
    let full = not_full line room in
    rw (e, full) refl

gap_starts : (g : ℕ) → (g == 1) ≡ true → g ≡ 1
gap_starts g e = grind (arith, nat_tests, e)

gap_falls : (g : ℕ) → (g == 1) ≡ false → 1 ≤ g → (deference_step (Gap g) false false false ≡ Gap (g - 1)) × (1 < g)
gap_falls g e least =
    let more : nat_lt 1 g ≡ true = grind (arith, nat_tests, e, least) in
    (rw more refl, grind (arith, nat_tests, e, least))

-- after a wait: the interframe gap, and then the frame
pub open_steps : (crs : Bool) (class : Class) (g : Queued) (q : Queue) (n : ℕ) (v' : View) (d : Deference) (left : Row) (stage : Stage) (part : ℕ) (line' : List ℕ)
    → Opening n d → Heads q g → Turns false false false (InCommit n) v' → DeferTurn q 1 (may_start d false) left → FreeNext [] stage part line'
    → Outcome (Opens g n) [] v' left (deference_step d false false left.starts) stage part line' (wait_mac (told_in (own_of v') false crs class left.out) line')
open_steps crs class g q n _ d left stage part line' opening some (commit_sends e) mac tx = absurd (cc)
open_steps crs class g q _ _ _ left stage part line' opens some (commit_ends e few) mac tx = absurd (omega (arith, few))
open_steps crs class g q n _ _ left stage part line' (gap is least most) some (commit_ends e few) mac tx = absurd (omega (arith, few, is))
open_steps crs class g q _ _ _ _ stage part line' opens some (commit_waits e next) (begins may heads) tx = absurd (cc)
open_steps crs class g q _ _ _ _ stage part _ opens some (commit_waits {m = m} e next) (defers_on may) (frees free low) =
    record {
      to = Opens g m;
      popped = [];
      goes = opens_on next (omega (arith, next));
      lost = refl;
      joint = waits (gap (omega (arith, next)) (omega arith) (omega arith)) some free;
    }
open_steps crs class g q n _ _ _ stage part _ (gap {g = ticks} is least most) some (commit_waits {m = m} e next) (begins {f = f} may heads) (frees {r = r} free low) =
    let one : ticks ≡ 1 = gap_starts ticks may in
    subst (λ d'. Outcome (Opens g n) [] (InCommit m) (starts_row q f 1) d' stage part [] (wait_mac (told_in true false crs class (starts_row q f 1).out) []))
    (sym (started_busy (Gap ticks) false false))
    (record {
      to = Before f 0 0 r;
      popped = [];
      goes = subst (λ (h : Queued). Goes (Opens h n) NoNote [] (Before f 0 0 r)) (sym (first_same q g f some.first heads.first)) (open_starts (omega (arith, is, one)) low);
      lost = refl;
      joint = before commit heads (omega arith) (omega arith) (omega (arith, low)) free (first_in q f heads);
    })
open_steps crs class g q n _ _ _ stage part _ (gap {g = ticks} is least most) some (commit_waits {m = m} e next) (defers_on may) (frees free low) =
    let (falls, more) = gap_falls ticks may least in
    subst (λ d'. Outcome (Opens g n) [] (InCommit m) (row Deferring q 1 Nothing NoNote) d' stage part [] (WaitMac, [])) (sym falls)
    (record {
      to = Opens g m;
      popped = [];
      goes = opens_on next (omega (arith, next, is, more));
      lost = refl;
      joint = waits (gap (omega (arith, next, is, more)) (omega (arith, more)) (omega (arith, most))) some free;
    })

-- in the opportunity, with the frame in the line, control goes to Transmit, or stays there
pub owning_turns : (ready closed : Bool) (v v' : View) → closed ≡ false → Owning v → Turns ready true closed v v' → v' ≡ InTransmit
owning_turns ready closed _ _ e own (commit_sends h) = refl
owning_turns ready closed _ _ e own (commit_waits h n) = absurd (cc)
owning_turns ready closed _ _ e own (commit_ends h n) = absurd (cc)
owning_turns ready closed _ _ e own (stays_transmit h) = refl
owning_turns ready closed _ _ e own (pauses h) = absurd (cc)
owning_turns ready closed _ _ e own (transmit_ends h) = absurd (cc)
owning_turns ready closed _ _ e own (pause_sends h) = refl
owning_turns ready closed _ _ e own (pause_waits h less some) = absurd (cc)
owning_turns ready closed _ _ e own (pause_ends h less) = absurd (cc)
owning_turns ready closed _ _ e own _ = elim own [ ]

module _ (crs : Bool) (class : Class) (f : Queued) (k p r a : ℕ) (q : Queue) (heads : Heads q f) (tries : a ≤ 1) (quarter : p ≤ 3) (near : 4 * k + p + r ≤ 90) where
  abbrev ns : List ℕ
  ns = nibble_list f.frame

  abbrev Kept : Row → List ℕ → Stage → ℕ → List ℕ → State × List ℕ → Type 0
  Kept left line stage part line' kept = Outcome (Before f k p r) line InTransmit left Busy stage part line' kept

  goes_before : (left : Row) (r' : ℕ) (line : List ℕ) (stage : Stage) (part : ℕ) → r ≡ r' + 1 → Free stage part r'
      → Feeds ns (k + 1) 0 line → SendTurn q f k p a false left
      → Outcome (Before f k p r) line InTransmit left (deference_step Busy true true left.starts) stage part line (transmit false false (told_in true false crs class left.out) line)
  goes_before _ r' line stage part e free feeds (lasts less) = record {
    to = Before f k (p + 1) r';
    popped = [];
    goes = before_on e;
    lost = refl;
    joint = before transmits heads tries (omega (arith, less)) (omega (arith, near, e)) free feeds;
  }
  goes_before _ r' line stage part e free feeds (gives three more low) =
      let room : length line < 97 = omega (arith, near, feeds.count) in
      subst (Kept (giving q f k a false) line stage part line) (sym (nibble_kept false false crs class (slice_index ns (k + 1)) line refl room)) (record {
        to = Before f (k + 1) 0 r';
        popped = [];
        goes = before_on e;
        lost = refl;
        joint = before transmits heads tries (omega arith) (omega (arith, near, e, three)) free (one_given ns (k + 1) 0 line feeds more);
      })
  goes_before _ r' line stage part e free feeds (jams three late h) = absurd (cc)
  goes_before _ r' line stage part e free feeds (sends three all h) = absurd (omega (arith, (long f heads.frame).0, all, near))

  pops_first : (left : Row) (x : ℕ) (line rest : List ℕ) → r ≡ 0 → line ≡ x ∷ rest → Feeds ns (k + 1) 0 line → SendTurn q f k p a false left
      → Outcome (Before f k p r) line InTransmit left (deference_step Busy true true left.starts) (Starting 0) 0 rest (transmit false false (told_in true false crs class left.out) rest)
  pops_first left x line rest end e feeds turn = go left turn
    where
      there : Feeds ns (k + 1) 0 (x ∷ rest)
      there = subst (Feeds ns (k + 1) 0) e feeds

      lost : line ≡ nibble_of f 0 ∷ [] ++ rest
      lost = e ∙ ap (λ y. y ∷ rest) (sym (popped_is ns (k + 1) 0 x rest there))

      less : Feeds ns (k + 1) (0 + 1) rest
      less = one_popped ns (k + 1) 0 x rest there

      go : (left : Row) → SendTurn q f k p a false left
          → Outcome (Before f k p r) line InTransmit left (deference_step Busy true true left.starts) (Starting 0) 0 rest (transmit false false (told_in true false crs class left.out) rest)
      go _ (lasts low) = record {
        to = InPiece f false 0 0;
        popped = nibble_of f 0 ∷ [];
        goes = before_pops end;
        lost = lost;
        joint = fed {d = 4 * k + p + 1} transmits heads tries (omega (arith, low)) (omega arith) (omega arith) (omega (arith, near)) (starting (omega arith) (omega arith)) less;
      }
      go _ (gives three more low) =
          let room : length rest < 97 = omega (arith, less.count, near) in
          subst (Kept (giving q f k a false) line (Starting 0) 0 rest) (sym (nibble_kept false false crs class (slice_index ns (k + 1)) rest refl room)) (record {
            to = InPiece f false 0 0;
            popped = nibble_of f 0 ∷ [];
            goes = before_pops end;
            lost = lost;
            joint = fed {d = 4 * (k + 1) + 0} transmits heads tries (omega arith) (omega arith) (omega arith) (omega (arith, near)) (starting (omega arith) (omega arith)) (one_given ns (k + 1) 1 rest less more);
          })
      go _ (jams three late h) = absurd (cc)
      go _ (sends three all h) = absurd (omega (arith, (long f heads.frame).0, all, near))

  pub before_steps : (left : Row) (line : List ℕ) (stage : Stage) (part : ℕ) (line' : List ℕ)
      → Feeds ns (k + 1) 0 line → SendTurn q f k p a false left → FreeTurn r line CommitCmd stage part line'
      → Outcome (Before f k p r) line InTransmit left (deference_step Busy true true left.starts) stage part line' (transmit false false (told_in true false crs class left.out) line')
  before_steps left line stage part _ feeds mac (goes_on {r' = r'} e free) = goes_before left r' line stage part e free feeds mac
  before_steps left line _ _ _ feeds mac (begins_commit e none) =
      let empty : length line ≡ 0 = ap length none in absurd (omega (arith, feeds.count, empty))
  before_steps left line _ _ _ feeds mac (begins_piece {x = x} {rest = rest} e some) = pops_first left x line rest e some feeds mac
