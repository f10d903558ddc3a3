-- The steps of a node that holds a frame.
use Rattle.std.proofs.Common.{◌≡◌, ℕ, ◌+◌, ◌*◌, ◌<◌, ◌≤◌, ◌⊎◌, inl, inr, Bool, true, false, ◌&&◌, List, [], ◌∷◌, ◌++◌, length, slice_index, refl, sym, ◌∙◌, ap, subst, arith}
use Rattle.t1s_frame.specs.Frame.{nibble_list}
use Rattle.t1s_symbols.specs.declared.Class.{Class}
use Rattle.t1s_ring.specs.Queue.{Queue}
use Rattle.t1s_ring.specs.declared.queued.Queued.{Queued}
use Rattle.t1s_pcs_tx.specs.State.{Stage, Starting}
use Rattle.plca_data.specs.declared.DataIn.{DataIn}
use Rattle.plca_data.specs.declared.MacOut.{MacOut}
use Rattle.plca_data.specs.declared.data_path.State.{State}
use Rattle.plca_data.specs.declared.data_path.State.TheVariants.{Hold, Collide, Transmit}
use Rattle.plca_data.specs.DataPathTable.{hold, is_run_or_other, is_full, pushed}
use Rattle.t1s_mac.specs.DeferenceTable.{deference_step}
use Rattle.t1s_mac.specs.declared.deference.Deference.TheVariants.{Busy}
use Rattle.t1s_mac.specs.MacTable.{Row}
use Rattle.t1s_mac.specs.State.{Sending as Gives}
use Rattle.t1s_mac.specs.declared.outcome.MacNote.TheVariants.{None as NoNote}
use Rattle.t1s_node.proofs.LineFeed.{Feeds, one_given, one_popped, popped_is, takes, full_or_room}
use Rattle.t1s_node.proofs.NoPiece.{Free, FreeTurn, goes_on, begins_commit, begins_piece, free_rest}
use Rattle.t1s_node.proofs.MacTurns.{Heads, SendTurn, lasts, jams, gives, sends, lasting, giving, count_of, long}
use Rattle.t1s_node.proofs.JointPlaces.{Holds, Collides, Before, InPiece, Apart, commit, Aligned, starting, Outcome, holds, collides, before, fed, holds_on, hold_fails, hold_opens, hold_pops, nibble_of}
use Rattle.t1s_node.proofs.JointTurns.{ApartTurn, still, opens, apart_turns, apart_own, HoldNext, aligned, aligned_turns, aligned_opens}
use Rattle.t1s_node.proofs.View.{View, InCommit, cmd_of, own_of, Turns}
use Rattle.std.proofs.lemmas.Bool.{cond_both}

-- what the data path is told while the node takes part in the cycle and nothing has met its drive
abbrev pub told_in : Bool → Bool → Bool → Class → MacOut → DataIn
told_in own closed crs class out =
    record { active = true; own = own; closed = closed; crs = crs; class = class; hit = false; mac = out }

module _ (closed crs : Bool) (class : Class) (f : Queued) (k p : ℕ) (q : Queue) (heads : Heads q f) (early : k ≤ 96) (quarter : p ≤ 3) where
  abbrev ns : List ℕ
  ns = nibble_list f.frame

  -- the opportunity does not begin
  abbrev Held : View → Row → Stage → ℕ → List ℕ → State × List ℕ → Type 0
  Held v' left stage part line kept = Outcome (Holds f k p) line v' left Busy stage part line kept

  fails : (k' p' : ℕ) (v' : View) (left : Row) (line : List ℕ) (stage : Stage) (part r' : ℕ)
      → 4 * k' + p' ≡ 4 * k + p + 1 → k' < count_of f → p' ≤ 3 → Apart v' → Free stage part r' → left.phase ≡ Gives k' p' false
      → left.queue ≡ q → left.attempts ≡ 0 → left.note ≡ NoNote
      → Held v' left stage part line (Collide, [])
  fails k' p' v' left line stage part r' on within quarter' out free phase queue attempts note = record {
    to = Collides f k' p';
    popped = [];
    goes = rw note (hold_fails on early quarter);
    lost = refl;
    joint = rw (phase, queue, attempts) (collides out heads within quarter' free);
  }

  held : (v' : View) (left : Row) (line : List ℕ) (stage : Stage) (part : ℕ) (line' : List ℕ)
      → Apart v' → Feeds ns (k + 1) 0 line → SendTurn q f k p 0 false left → HoldNext (4 * k + p + 1) line v' stage part line'
      → Outcome (Holds f k p) line v' left (deference_step Busy false true left.starts) stage part line' (hold (told_in false closed crs class left.out) line')
  held v' _ line stage part _ out feeds (lasts less) (aligned {r = r'} free al) =
      let within : k < count_of f = omega (arith, (long f heads.frame).0, early) in
      let on : 4 * k + (p + 1) ≡ 4 * k + p + 1 = omega arith in
      cond_both (crs && is_run_or_other class) _ _ (Held v' (lasting q k p 0 false) stage part line)
      (λ _. fails k (p + 1) v' _ line stage part r' on within (omega arith) out free refl refl refl refl)
      (λ _. record {
        to = Holds f k (p + 1);
        popped = [];
        goes = holds_on on early (omega arith);
        lost = refl;
        joint = holds heads early (omega arith) free (subst (λ o. Aligned o v' r') (sym on) al) feeds;
      })
  held v' _ line stage part _ out feeds (gives three more low) (aligned {r = r'} free al) =
      let on : 4 * (k + 1) + 0 ≡ 4 * k + p + 1 = omega (arith, three) in
      let x : ℕ = slice_index ns (k + 1) in
      let left : Row = giving q f k 0 false in
      cond_both (crs && is_run_or_other class) _ _ (Held v' left stage part line)
      (λ _. fails (k + 1) 0 v' _ line stage part r' on more (omega arith) out free refl refl refl refl)
      (λ _. cond_both (is_full line) _ _ (Held v' left stage part line)
      (λ _. fails (k + 1) 0 v' _ line stage part r' on more (omega arith) out free refl refl refl refl)
      (λ e.
      let room : length line < 97 = full_or_room line e in
      let next : k + 1 ≤ 96 = omega (arith, room, feeds.count) in
      subst (λ xs. Held v' left stage part line (Hold, xs)) (sym (takes line x room)) (record {
        to = Holds f (k + 1) 0;
        popped = [];
        goes = holds_on on next (omega arith);
        lost = refl;
        joint = holds heads next (omega arith) free (subst (λ o. Aligned o v' r') (sym on) al) (one_given ns (k + 1) 0 line feeds more);
      })))
  held v' _ line stage part _ out feeds (jams three late e) (aligned free al) = absurd (cc)
  held v' _ line stage part _ out feeds (sends three all e) (aligned free al) = absurd (omega (arith, (long f heads.frame).0, all, early))

  -- the opportunity begins within a symbol of the transmitter: the frame is pushed on
  waits_on : (left : Row) (r' : ℕ) (line : List ℕ) (stage : Stage) (part : ℕ)
      → Free stage part r' → 4 * k + p + 21 * (r' + 1) + 20 ≤ 83 → Feeds ns (k + 1) 0 line → SendTurn q f k p 0 false left
      → Outcome (Holds f k p) line (InCommit 288) left (deference_step Busy false true left.starts) stage part line (Transmit false false, pushed left.out line)
  waits_on _ r' line stage part free near feeds (lasts less) = record {
    to = Before f k (p + 1) r';
    popped = [];
    goes = hold_opens early quarter (free_rest stage part r' free);
    lost = refl;
    joint = before commit heads (omega arith) (omega arith) (omega (arith, near)) free feeds;
  }
  waits_on _ r' line stage part free near feeds (gives three more low) =
      let room : length line < 97 = omega (arith, near, feeds.count) in
      let left : Row = giving q f k 0 false in
      subst (λ xs. Outcome (Holds f k p) line (InCommit 288) left Busy stage part line (Transmit false false, xs)) (sym (takes line _ room)) (record {
        to = Before f (k + 1) 0 r';
        popped = [];
        goes = hold_opens early quarter (free_rest stage part r' free);
        lost = refl;
        joint = before commit heads (omega arith) (omega arith) (omega (arith, near, three)) free (one_given ns (k + 1) 0 line feeds more);
      })
  waits_on _ r' line stage part free near feeds (jams three late e) = absurd (cc)
  waits_on _ r' line stage part free near feeds (sends three all e) = absurd (omega (arith, (long f heads.frame).0, all, early))

  -- it begins at a boundary: the first nibble is popped
  pops : (left : Row) (x : ℕ) (line rest : List ℕ)
      → line ≡ x ∷ rest → Feeds ns (k + 1) 0 line → SendTurn q f k p 0 false left
      → Outcome (Holds f k p) line (InCommit 288) left (deference_step Busy false true left.starts) (Starting 0) 0 rest (Transmit false false, pushed left.out rest)
  pops left x line rest e feeds turn = go left turn
    where
      there : Feeds ns (k + 1) 0 (x ∷ rest)
      there = subst (Feeds ns (k + 1) 0) e feeds

      lost : line ≡ nibble_of f 0 ∷ [] ++ rest
      lost = e ∙ ap (λ y. y ∷ rest) (sym (popped_is ns (k + 1) 0 x rest there))

      less : Feeds ns (k + 1) (0 + 1) rest
      less = one_popped ns (k + 1) 0 x rest there

      go : (left : Row) → SendTurn q f k p 0 false left
          → Outcome (Holds f k p) line (InCommit 288) left (deference_step Busy false true left.starts) (Starting 0) 0 rest (Transmit false false, pushed left.out rest)
      go _ (lasts less_than) = record {
        to = InPiece f false 0 0;
        popped = nibble_of f 0 ∷ [];
        goes = hold_pops early quarter;
        lost = lost;
        joint = fed {d = 4 * k + p + 1} commit heads (omega arith) (omega arith) (omega arith) (omega arith) (omega (arith, early)) (starting (omega arith) (omega arith)) less;
      }
      go _ (gives three more low) =
          let room : length rest < 97 = omega (arith, less.count, early) in
          let left : Row = giving q f k 0 false in
          subst (λ xs. Outcome (Holds f k p) line (InCommit 288) left Busy (Starting 0) 0 rest (Transmit false false, xs)) (sym (takes rest _ room)) (record {
            to = InPiece f false 0 0;
            popped = nibble_of f 0 ∷ [];
            goes = hold_pops early quarter;
            lost = lost;
            joint = fed {d = 4 * (k + 1) + 0} commit heads (omega arith) (omega arith) (omega arith) (omega arith) (omega (arith, early)) (starting (omega arith) (omega arith)) (one_given ns (k + 1) 1 rest less more);
          })
      go _ (jams three late e) = absurd (cc)
      go _ (sends three all e) = absurd (omega (arith, (long f heads.frame).0, all, early))

  opened : (left : Row) (r : ℕ) (line : List ℕ) (stage : Stage) (part : ℕ) (line' : List ℕ)
      → Feeds ns (k + 1) 0 line → SendTurn q f k p 0 false left → (r ≡ 0) ⊎ (4 * k + p + 21 * r + 20 ≤ 83)
      → FreeTurn r line (cmd_of (InCommit 288)) stage part line'
      → Outcome (Holds f k p) line (InCommit 288) left (deference_step Busy false true left.starts) stage part line' (Transmit false false, pushed left.out line')
  opened left r line stage part _ feeds turn (inl zero_left) (goes_on e free) = absurd (omega (arith, e, zero_left))
  opened left r line stage part _ feeds turn (inr near) (goes_on {r' = r'} e free) =
      waits_on left r' line stage part free (omega (arith, e, near)) feeds turn
  opened left r line _ _ _ feeds turn near (begins_commit e none) =
      let empty : length line ≡ 0 = ap length none in absurd (omega (arith, feeds.count, empty))
  opened left r line _ _ _ feeds turn near (begins_piece {x = x} {rest = rest} e some) = pops left x line rest some feeds turn

  pub hold_steps : (v v' : View) (left : Row) (r : ℕ) (line : List ℕ) (stage : Stage) (part : ℕ) (line' : List ℕ)
      → r ≤ 3 → Apart v → Aligned (4 * k + p) v r → Feeds ns (k + 1) 0 line
      → Turns true false closed v v' → FreeTurn r line (cmd_of v') stage part line' → SendTurn q f k p 0 false left
      → Outcome (Holds f k p) line v' left (deference_step Busy false true left.starts) stage part line' (hold (told_in (own_of v') closed crs class left.out) line')
  hold_steps v v' left r line stage part line' most out al feeds turns tx mac = go v v' al turns tx (apart_turns true false closed v v' out turns)
    where
      go : (v v' : View) → Aligned (4 * k + p) v r → Turns true false closed v v' → FreeTurn r line (cmd_of v') stage part line' → ApartTurn true v v'
          → Outcome (Holds f k p) line v' left (deference_step Busy false true left.starts) stage part line' (hold (told_in (own_of v') closed crs class left.out) line')
      go v v' al turns tx (still out') =
          subst (λ own. Outcome (Holds f k p) line v' left (deference_step Busy false true left.starts) stage part line' (hold (told_in own closed crs class left.out) line'))
          (sym (apart_own v' out'))
          (held v' left line stage part line' out' feeds mac (aligned_turns (4 * k + p) r line false closed v v' stage part line' most al turns out' tx))
      go _ _ al turns tx (opens e) = opened left r line stage part line' feeds mac (aligned_opens (4 * k + p) r al) tx
