-- The steps of a node whose piece is open.
use Rattle.std.proofs.Common.{◌≡◌, ℕ, ◌+◌, ◌*◌, ◌==◌, ◌<◌, ◌≤◌, Bool, true, false, List, [], ◌∷◌, ◌++◌, length, slice_index, refl, sym, ◌∙◌, ap, subst, arith}
use Rattle.std.proofs.lemmas.Bool.Decides.{nat_tests}
use Rattle.t1s_frame.specs.Frame.{nibble_list}
use Rattle.t1s_symbols.specs.declared.Class.{Class}
use Rattle.t1s_ring.specs.Queue.{Queue}
use Rattle.t1s_ring.specs.declared.queued.Queued.{Queued}
use Rattle.t1s_pcs_tx.specs.State.{Stage, Committing, ClosingEnd, ClosingCloser}
use Rattle.plca_data.specs.declared.MacOut.TheVariants.{Nothing}
use Rattle.plca_data.specs.declared.data_path.State.{State}
use Rattle.plca_data.specs.DataPathTable.{transmit}
use Rattle.t1s_mac.specs.DeferenceTable.{deference_step}
use Rattle.t1s_mac.specs.declared.deference.Deference.TheVariants.{Busy}
use Rattle.t1s_mac.specs.declared.outcome.MacNote.TheVariants.{None as NoNote}
use Rattle.t1s_mac.specs.MacTable.{Row, row}
use Rattle.t1s_node.proofs.LineFeed.{Feeds, one_given, one_popped, popped_is}
use Rattle.t1s_node.proofs.NoPiece.{quiet, commits}
use Rattle.t1s_node.proofs.HoldSteps.{told_in}
use Rattle.t1s_node.proofs.OpenSteps.{nibble_kept}
use Rattle.t1s_node.proofs.MacTurns.{Heads, rests, StartTurn, starts, stays, SendTurn, lasts, jams, gives, sends, giving, count_of, long}
use Rattle.t1s_node.proofs.Piece.{PieceTurn, symbol_on, takes_nibble, takes_none, CloseTurn, part_on, part_ends, CloserTurn, closer_on, commits_on, falls_silent}
use Rattle.t1s_node.proofs.JointPlaces.{Idles, Pauses, InPiece, Ends, Closes, PieceTx, as_before, now_sent, piece_lasts, piece_pops, piece_ends, ends_on, end_closes, closes_on, close_pauses, close_rests, away, transmit as transmits, Outcome, idles, rests_in, fed, given, ends, closes, nibble_of}
use Rattle.t1s_node.proofs.View.{View, InTransmit, InPause, cmd_of, own_of, Turns, stays_transmit, pauses, transmit_ends}

-- while the MAC gives the frame, d ticks ahead of the piece
module _ (crs : Bool) (class : Class) (f : Queued) (i s k p a d : ℕ) (q : Queue) (heads : Heads q f) (tries : a ≤ 1) (quarter : p ≤ 3)
    (ahead : 4 * k + p ≡ 4 * i + s + d) (least : 1 ≤ d) (most : d ≤ 388) where
  abbrev ns : List ℕ
  ns = nibble_list f.frame

  abbrev Kept : Row → List ℕ → Stage → ℕ → List ℕ → State × List ℕ → Type 0
  Kept left line stage part line' kept = Outcome (InPiece f false i s) line InTransmit left Busy stage part line' kept

  abbrev Steps : Row → List ℕ → Stage → ℕ → List ℕ → Type 0
  Steps left line stage part line' =
      Outcome (InPiece f false i s) line InTransmit left (deference_step Busy true true left.starts) stage part line' (transmit false false (told_in true false crs class left.out) line')

  -- the symbol goes on
  feeds_on : (left : Row) (line : List ℕ) (stage : Stage) → s < 3 → PieceTx i (s + 1) stage
      → Feeds ns (k + 1) (i + 1) line → SendTurn q f k p a false left → Steps left line stage (s + 1) line
  feeds_on _ line stage less tx feeds (lasts low) = record {
    to = InPiece f false i (s + 1);
    popped = [];
    goes = piece_lasts as_before less;
    lost = refl;
    joint = fed {d = d} transmits heads tries (omega (arith, low)) (omega (arith, ahead)) least most tx feeds;
  }
  feeds_on _ line stage less tx feeds (gives three more low) =
      let room : length line < 97 = omega (arith, feeds.count, ahead, most, less, three) in
      subst (Kept (giving q f k a false) line stage (s + 1) line) (sym (nibble_kept false false crs class (slice_index ns (k + 1)) line refl room)) (record {
        to = InPiece f false i (s + 1);
        popped = [];
        goes = piece_lasts as_before less;
        lost = refl;
        joint = fed {d = d} transmits heads tries (omega arith) (omega (arith, ahead, three)) least most tx (one_given ns (k + 1) (i + 1) line feeds more);
      })
  feeds_on _ line stage less tx feeds (jams three late h) = absurd (cc)
  feeds_on _ line stage less tx feeds (sends three all h) = record {
    to = InPiece f true i (s + 1);
    popped = [];
    goes = piece_lasts now_sent less;
    lost = refl;
    joint = given rests tx (subst (λ n. Feeds ns n (i + 1) line) all feeds) (omega (arith, ahead, all, three, most)) (omega (arith, ahead, all, three, most, less, (long f heads.frame).0));
  }

  -- the next nibble is popped
  feeds_next : (left : Row) (x : ℕ) (line rest : List ℕ) (stage : Stage) → s ≡ 3 → line ≡ x ∷ rest → PieceTx (i + 1) 0 stage
      → k < count_of f → Feeds ns (k + 1) (i + 1) line → SendTurn q f k p a false left → Steps left line stage 0 rest
  feeds_next left x line rest stage end e tx within feeds turn = go left turn
    where
      there : Feeds ns (k + 1) (i + 1) (x ∷ rest)
      there = subst (Feeds ns (k + 1) (i + 1)) e feeds

      lost : line ≡ nibble_of f (i + 1) ∷ [] ++ rest
      lost = e ∙ ap (λ y. y ∷ rest) (sym (popped_is ns (k + 1) (i + 1) x rest there))

      fewer : Feeds ns (k + 1) (i + 1 + 1) rest
      fewer = one_popped ns (k + 1) (i + 1) x rest there

      more_left : i + 1 < count_of f
      more_left = omega (arith, fewer.count, within)

      go : (left : Row) → SendTurn q f k p a false left → Steps left line stage 0 rest
      go _ (lasts low) = record {
        to = InPiece f false (i + 1) 0;
        popped = nibble_of f (i + 1) ∷ [];
        goes = piece_pops as_before end more_left;
        lost = lost;
        joint = fed {d = d} transmits heads tries (omega (arith, low)) (omega (arith, ahead, end)) least most tx fewer;
      }
      go _ (gives three more low) =
          let room : length rest < 97 = omega (arith, fewer.count, ahead, most, end, three) in
          subst (Kept (giving q f k a false) line stage 0 rest) (sym (nibble_kept false false crs class (slice_index ns (k + 1)) rest refl room)) (record {
            to = InPiece f false (i + 1) 0;
            popped = nibble_of f (i + 1) ∷ [];
            goes = piece_pops as_before end more_left;
            lost = lost;
            joint = fed {d = d} transmits heads tries (omega arith) (omega (arith, ahead, end, three)) least most tx (one_given ns (k + 1) (i + 1 + 1) rest fewer more);
          })
      go _ (jams three late h) = absurd (cc)
      go _ (sends three all h) = record {
        to = InPiece f true (i + 1) 0;
        popped = nibble_of f (i + 1) ∷ [];
        goes = piece_pops now_sent end more_left;
        lost = lost;
        joint = given rests tx (subst (λ n. Feeds ns n (i + 1 + 1) rest) all fewer) (omega (arith, ahead, all, three, most, end)) (omega (arith, ahead, all, three, most, end, (long f heads.frame).0));
      }

  pub fed_steps : (left : Row) (line : List ℕ) (good : Bool) (stage : Stage) (part : ℕ) (line' : List ℕ)
      → k < count_of f → Feeds ns (k + 1) (i + 1) line → SendTurn q f k p a false left → PieceTurn i s good line stage part line' → Steps left line stage part line'
  fed_steps left line good stage _ _ within feeds mac (symbol_on less tx) = feeds_on left line stage less tx feeds mac
  fed_steps left line good stage _ _ within feeds mac (takes_nibble {x = x} {rest = rest} end e tx) = feeds_next left x line rest stage end e tx within feeds mac
  fed_steps left line good _ _ _ within feeds mac (takes_none end e) =
      let empty : length line ≡ 0 = ap length e in absurd (omega (arith, feeds.count, empty, ahead, least, end, quarter))

-- the frame has been given whole
pub given_steps : (crs : Bool) (class : Class) (f : Queued) (i s : ℕ) (q : Queue) (left : Row) (line : List ℕ) (stage : Stage) (part : ℕ) (line' : List ℕ)
    → Feeds (nibble_list f.frame) (count_of f) (i + 1) line → 4 * count_of f ≤ 4 * i + s + 388 → 3 ≤ i → StartTurn q 0 false left → PieceTurn i s true line stage part line'
    → Outcome (InPiece f true i s) line InTransmit left (deference_step Busy true false left.starts) stage part line' (transmit true false (told_in true false crs class left.out) line')
given_steps crs class f i s q _ line stage part line' feeds late past_start (starts e heads) tx = absurd (cc)
given_steps crs class f i s q _ line stage _ _ feeds late past_start (stays resting) (symbol_on less tx) = record {
  to = InPiece f true i (s + 1);
  popped = [];
  goes = piece_lasts as_before less;
  lost = refl;
  joint = given resting tx feeds (omega (arith, late)) past_start;
}
given_steps crs class f i s q _ line stage _ _ feeds late past_start (stays resting) (takes_nibble {x = x} {rest = rest} end e tx) =
    let there : Feeds (nibble_list f.frame) (count_of f) (i + 1) (x ∷ rest) = subst (Feeds (nibble_list f.frame) (count_of f) (i + 1)) e feeds in
    let fewer : Feeds (nibble_list f.frame) (count_of f) (i + 1 + 1) rest = one_popped (nibble_list f.frame) (count_of f) (i + 1) x rest there in
    record {
      to = InPiece f true (i + 1) 0;
      popped = nibble_of f (i + 1) ∷ [];
      goes = piece_pops as_before end (omega (arith, fewer.count));
      lost = e ∙ ap (λ y. y ∷ rest) (sym (popped_is (nibble_list f.frame) (count_of f) (i + 1) x rest there));
      joint = given resting tx fewer (omega (arith, late, end)) (omega (arith, past_start));
    }
given_steps crs class f i s q _ line _ _ _ feeds late past_start (stays resting) (takes_none end e) =
    let empty : length line ≡ 0 = ap length e in
    record {
      to = Ends f 0;
      popped = [];
      goes = piece_ends end (omega (arith, feeds.count, empty));
      lost = e;
      joint = ends resting (omega arith);
    }

pub end_steps : (crs : Bool) (class : Class) (f : Queued) (s : ℕ) (q : Queue) (left : Row) (stage : Stage) (part : ℕ) (line' : List ℕ)
    → s ≤ 3 → StartTurn q 0 false left → CloseTurn s [] (ClosingEnd true) (ClosingCloser true) stage part line'
    → Outcome (Ends f s) [] InTransmit left (deference_step Busy true false left.starts) stage part line' (transmit true false (told_in true false crs class left.out) line')
end_steps crs class f s q _ stage part line' low (starts e heads) tx = absurd (cc)
end_steps crs class f s q _ _ _ _ low (stays resting) (part_on less) =
    record { to = Ends f (s + 1); popped = []; goes = ends_on less; lost = refl; joint = ends resting (omega (arith, less)) }
end_steps crs class f s q _ _ _ _ low (stays resting) (part_ends end) =
    record { to = Closes f 0; popped = []; goes = end_closes end; lost = refl; joint = closes resting (omega arith) }

-- the closer: control goes on in Transmit until its last quarter has been reported
pub close_steps : (crs : Bool) (class : Class) (f : Queued) (s : ℕ) (q : Queue) (v' : View) (left : Row) (stage : Stage) (part : ℕ) (line' : List ℕ)
    → s ≤ 3 → StartTurn q 0 false left → Turns false true (s == 3) InTransmit v' → CloserTurn s (cmd_of v') stage part line'
    → Outcome (Closes f s) [] v' left (deference_step Busy true false left.starts) stage part line' (transmit true false (told_in (own_of v') (s == 3) crs class left.out) line')
close_steps crs class f s q v' _ stage part line' low (starts e heads) turns tx = absurd (cc)
close_steps crs class f s q _ _ _ _ _ low (stays {phase = phase} resting) (stays_transmit e) (closer_on less) =
    subst (λ closed. Outcome (Closes f s) [] InTransmit (row phase q 0 Nothing NoNote) Busy (ClosingCloser true) (s + 1) [] (transmit true false (told_in true closed crs class Nothing) [])) (sym e)
    (record { to = Closes f (s + 1); popped = []; goes = closes_on less; lost = refl; joint = closes resting (omega (arith, less)) })
close_steps crs class f s q _ _ _ _ _ low (stays resting) (stays_transmit e) (commits_on end) = absurd (grind (arith, nat_tests, e, end))
close_steps crs class f s q _ _ _ _ _ low (stays resting) (pauses e) (closer_on less) = absurd (grind (arith, nat_tests, e, less))
close_steps crs class f s q _ _ _ _ _ low (stays {phase = phase} resting) (pauses e) (commits_on end) =
    subst (λ closed. Outcome (Closes f s) [] (InPause 128) (row phase q 0 Nothing NoNote) Busy Committing 0 [] (transmit true false (told_in true closed crs class Nothing) [])) (sym e)
    (record { to = Pauses; popped = []; goes = close_pauses end; lost = refl; joint = rests_in {r = 3} resting (commits refl) })
close_steps crs class f s q _ _ _ _ _ low (stays resting) (transmit_ends e) (closer_on less) = absurd (grind (arith, nat_tests, e, less))
close_steps crs class f s q _ _ _ _ _ low (stays resting) (transmit_ends e) (falls_silent end) =
    record { to = Idles; popped = []; goes = close_rests end; lost = refl; joint = idles away resting (quiet {part = 0}) }
