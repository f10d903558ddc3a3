-- A piece that is closed by R is that of the frame that left in it, in any run of a node.
use Rattle.std.proofs.Common.{◌≡◌, inl, inr, ℕ, zero, suc, ◌+◌, ◌-◌, ◌*◌, ◌==◌, ◌<◌, ◌≤◌, Bool, true, false, ◌&&◌, if◌then◌else◌, List, [], ◌∷◌, ◌++◌, length, get_or, map, replicate, Option, Some, None, refl, sym, ◌∙◌, ap, subst, arith, append_assoc, length-append}
use Rattle.std.specs.List.{All}
use Rattle.std.proofs.lemmas.Bool.{cases_lt}
use Rattle.std.proofs.lemmas.List.{length-replicate, replicate-append-replicate}
use Rattle.t1s_symbols.specs.declared.Quarter.{Quarter}
use Rattle.t1s_symbols.specs.declared.Symbol.{Symbol}
use Rattle.t1s_symbols.specs.declared.Symbol.TheVariants.{Nibble, J, T, R, H}
use Rattle.t1s_scramble.proofs.Nibbles.{length-scrambled_nibbles}
use Rattle.t1s_frame.specs.Frame.{IsFrame}
use Rattle.t1s_frame.proofs.Nibbles.{length-nibble_list}
use Rattle.t1s_grammar.specs.Burst.{Piece, piece_symbols, pieces_symbols}
use Rattle.t1s_grammar.specs.Sent.{sent_piece, carried_nibbles}
use Rattle.t1s_grammar.proofs.Longer.{more_pieces}
use Rattle.t1s_grammar.proofs.Sent.{length-carried}
use Rattle.t1s_ring.specs.Queue.{empty_queue}
use Rattle.t1s_ring.specs.declared.queued.Queued.{Queued}
use Rattle.t1s_pcs_tx.specs.Runs.{all_quarters}
use Rattle.t1s_pcs_tx.specs.State.{Stage, TxState, ClosingCloser, is_first_h, first_h_begins, symbol_of, quarter_of}
use Rattle.t1s_pcs_rx.proofs.Bursts.{length-piece}
use Rattle.plca_control.specs.declared.ControlSet.{ControlSet}
use Rattle.t1s_mac.specs.State.{number_of}
use Rattle.t1s_node.specs.ClosedPieces.{IsClosedByR, SpellsFrame, ClosesWholeFrames, quarters_of}
use Rattle.t1s_node.specs.Core.{Core, core_start}
use Rattle.t1s_node.specs.Laws.{LeavesAt}
use Rattle.t1s_node.specs.Runs.{CoreTick, core_at, left_at, leaves_at}
use Rattle.t1s_node.proofs.MacTurns.{count_of}
use Rattle.t1s_node.proofs.AnyDrives.{DriveOn, silent, driving, Spelled, quarter_at}
use Rattle.t1s_node.proofs.AnyPlaces.{Past, grown, with_symbol}
use Rattle.t1s_node.proofs.AnyRuns.{At, Left, past_at, at_tick, leaves_is, next_core, quarter_left, grown_now}
use Rattle.t1s_node.proofs.AnyClosers.{same_quarter, closer_stage, Closing, closing}

-- ---- the last first H

module _ {D : Type 0} (answer : D → ℕ → ℕ) (after : D → D) (start : Core D) (given : ℕ → CoreTick) where
  abbrev begins_at : ℕ → Bool
  begins_at t = first_h_begins (left_at answer after start given t).tx

  grown_last : (g : Past) (stage : Stage) (part : ℕ) → g.last ≤ suc g.now
      → (g.last ≤ (grown g stage part).last) × ((grown g stage part).last ≤ suc g.now) × ((is_first_h stage && (part == 0)) ≡ true → (grown g stage part).last ≡ suc g.now)
  grown_last g stage part le = by (part == 0) (is_first_h stage)
    where
      by : (b c : Bool)
          → (λ (h : Past). (g.last ≤ h.last) × (h.last ≤ suc g.now) × ((c && b) ≡ true → h.last ≡ suc g.now))
          (if b then record { symbols = with_symbol g.symbols (symbol_of stage); now = suc g.now; last = if c then suc g.now else g.last }
          else record { symbols = g.symbols; now = suc g.now; last = g.last })
      by true true = (le, omega arith, λ _. refl)
      by true false = (omega arith, le, λ e. absurd (cc))
      by false true = (omega arith, le, λ e. absurd (cc))
      by false false = (omega arith, le, λ e. absurd (cc))

  -- a first H that began in a tick below n is the last one of them, or another began after it
  record Covers (n : ℕ) : Type 0 where
    now : (past_at answer after start given n).now ≡ n
    bound : (past_at answer after start given n).last ≤ n
    each : (t : ℕ) → t < n → begins_at t ≡ true → suc t ≤ (past_at answer after start given n).last

  covers : (n : ℕ) → Covers n
  unfolding past_at
  covers zero = record { now = refl; bound = omega arith; each = λ t lt. absurd (omega (arith, lt)) }
  covers (suc n) =
      let h = covers n in
      let g : Past = past_at answer after start given n in
      let (more, high, fresh) = grown_last (past_at answer after start given n) (left_at answer after start given n).tx.stage (left_at answer after start given n).tx.part (omega (arith, h.bound, h.now)) in
      record {
        now = grown_now answer after start given (past_at answer after start given n) _ _ ∙ ap suc h.now;
        bound = omega (arith, high, h.now);
        each = λ t lt begins. elim (cases_lt t n) [
          | inl before ↦ let low = h.each t before begins in omega (arith, low, more)
          | inr after_it ↦
              let same : t ≡ n = omega (arith, lt, after_it) in
              let is = fresh (subst (λ (u : ℕ). begins_at u ≡ true) same begins) in
              omega (arith, is, same, h.now)
        ];
      }

  leaving_begins : (t number : ℕ) → leaves_at answer after start given t ≡ Some number → begins_at t ≡ true
  leaving_begins t number e = by (begins_at t) (sym (leaves_is answer after start given t) ∙ e)
    where
      by : (b : Bool) → (if b then number_of (left_at answer after start given t).mac else None) ≡ Some number → b ≡ true
      by true e = refl
      by false e = absurd (cc)

-- ---- the drive

record Whole (driven : ℕ → Option Quarter) (now : ℕ) (symbols : List Symbol) : Type 0 where
  start : ℕ
  whole : now ≡ start + 4 * length symbols
  spelled : (u : ℕ) → suc u ≡ now → Spelled driven start u symbols

whole_drive : (driven : ℕ → Option Quarter) (now : ℕ) (s : TxState) (symbols : List Symbol) → s.stage ≡ ClosingCloser true → s.part ≡ 3 → DriveOn driven now s symbols → Whole driven now symbols
whole_drive driven now s symbols stage part (silent none empty before) =
    let some : symbol_of s.stage ≡ Some R = ap symbol_of stage in absurd (cc)
whole_drive driven now s symbols stage part (driving start done x is low spelled time so_far) = record {
  start = start;
  whole = omega (arith, time, part, ap length spelled, length-append done (x ∷ []));
  spelled = so_far;
}

-- J ends directly before the first H of a piece
behind_j : Piece → List Symbol
behind_j p = (H ∷ H ∷ map Nibble p.nibbles) ++ (T ∷ p.closer ∷ [])

last_j : (earlier : List Piece) (m : ℕ) (p : Piece) → p.lead ≡ m + 2
    → pieces_symbols earlier ++ piece_symbols p ≡ (pieces_symbols earlier ++ replicate (m + 1) J) ++ J ∷ behind_j p
unfolding behind_j
last_j earlier m p lead =
    let one : m + 1 + 1 ≡ m + 2 = omega arith in
    ap (λ (ss : List Symbol). pieces_symbols earlier ++ ss)
    (append_assoc (replicate p.lead J) (H ∷ H ∷ map Nibble p.nibbles) (T ∷ p.closer ∷ [])
    ∙ ap (λ (n : ℕ). replicate n J ++ ((H ∷ H ∷ map Nibble p.nibbles) ++ (T ∷ p.closer ∷ []))) (lead ∙ sym one)
    ∙ ap (λ (ss : List Symbol). ss ++ ((H ∷ H ∷ map Nibble p.nibbles) ++ (T ∷ p.closer ∷ []))) (sym (replicate-append-replicate (m + 1) 1 J))
    ∙ append_assoc (replicate (m + 1) J) (J ∷ []) ((H ∷ H ∷ map Nibble p.nibbles) ++ (T ∷ p.closer ∷ [])))
    ∙ sym (append_assoc (pieces_symbols earlier) (replicate (m + 1) J) (J ∷ ((H ∷ H ∷ map Nibble p.nibbles) ++ (T ∷ p.closer ∷ []))))

module _ {D : Type 0} (answer : D → ℕ → ℕ) (after : D → D) (set : ControlSet) (room : ℕ) (draws : D) (given : ℕ → CoreTick) (t last number : ℕ)
    (frames : (u : ℕ) → u ≤ last → All (λ (q : Queued). IsFrame q.frame) (given u).offers)
    (leaving : leaves_at answer after (core_start set (empty_queue room) draws) given t ≡ Some number)
    (closed : IsClosedByR (quarters_of answer after (core_start set (empty_queue room) draws) given) t last) where
  abbrev start : Core D
  start = core_start set (empty_queue room) draws

  abbrev driven : ℕ → Option Quarter
  driven = quarters_of answer after start given

  abbrev g : Past
  g = past_at answer after start given (suc last)

  abbrev tx : TxState
  tx = (core_at answer after start given (suc last)).tx

  at : At answer after start given set.burst (suc last)
  at = at_tick answer after set room draws given last frames (suc last) (omega arith)

  closer : (tx.stage ≡ ClosingCloser true) × (tx.part ≡ 3)
  closer =
      closer_stage tx
      (ap (λ (c : Core D). quarter_of c.tx) (next_core answer after start given last) ∙ sym (quarter_left answer after start given last) ∙ closed.closer)

  c : Closing set.burst (Left answer after start given) tx.part g
  c = closing set.burst (Left answer after start given) _ _ _ _ tx.stage tx.part _ _ _ g at.good.stands closer.0

  drive : Whole driven (suc last) g.symbols
  drive = whole_drive driven (suc last) tx g.symbols closer.0 closer.1 at.drive

  abbrev piece : Piece
  piece = sent_piece (c.m + 2) c.before c.f.frame true

  abbrev all_symbols : List Symbol
  all_symbols = pieces_symbols (c.earlier ++ piece ∷ [])

  all_is : all_symbols ≡ g.symbols
  all_is = more_pieces c.earlier piece ∙ sym c.spelled

  -- in ticks
  abbrev first_h : ℕ
  first_h = drive.start + 4 * (length (pieces_symbols c.earlier) + (c.m + 2))

  ends_later : suc last ≡ first_h + 4 * count_of c.f
  ends_later =
      omega (
        arith,
        drive.whole,
        ap length c.spelled,
        length-append (pieces_symbols c.earlier) (piece_symbols piece),
        length-piece piece,
        length-scrambled_nibbles c.before (carried_nibbles c.f.frame),
        length-carried c.f.frame,
        length-nibble_list c.f.frame,
      )

  left_then : (u : ℕ) × (u ≡ first_h) × (suc u ≡ g.last) × LeavesAt answer after start given c.f u
  left_then =
      let (n, is, left) = c.marked (omega (arith, length-nibble_list c.f.frame)) in
      let (u, next, leaves) = left.leaves in
      (u, omega (arith, ends_later, left.since, at.now, is, next, closer.1, length-nibble_list c.f.frame), next, leaves)

  j_before : (v : ℕ) → suc v ≡ first_h → driven v ≡ Some (record { sym = J; part = 3 })
  j_before v e =
      let xs : List Symbol = pieces_symbols c.earlier ++ replicate (c.m + 1) J in
      let long : length (pieces_symbols c.earlier ++ replicate (c.m + 1) J) ≡ length (pieces_symbols c.earlier) + (c.m + 1) =
      length-append (pieces_symbols c.earlier) (replicate (c.m + 1) J) ∙ ap (λ (n : ℕ). length (pieces_symbols c.earlier) + n) (length-replicate (c.m + 1) J) in
      let place : drive.start + (4 * length (pieces_symbols c.earlier ++ replicate (c.m + 1) J) + 3) ≡ v = omega (arith, e, long) in
      sym (ap driven place)
      ∙ (drive.spelled last refl).drives (4 * length (pieces_symbols c.earlier ++ replicate (c.m + 1) J) + 3) (omega (arith, place, e, ends_later))
      ∙ ap (λ (ss : List Symbol). get_or (all_quarters ss) (4 * length (pieces_symbols c.earlier ++ replicate (c.m + 1) J) + 3) None)
      (c.spelled ∙ last_j c.earlier c.m piece refl)
      ∙ quarter_at (pieces_symbols c.earlier ++ replicate (c.m + 1) J) J (behind_j piece) 3 (omega arith)

  no_j : (v : ℕ) → driven v ≡ Some (record { sym = J; part = 3 }) → t ≤ v → v ≤ last → ⊥
  no_j v e low high =
      let (q, is, other) = closed.goes_on v low high in
      other (ap (λ (x : Quarter). x.sym) (same_quarter q (record { sym = J; part = 3 }) (sym is ∙ e)))

  is_first : t ≡ first_h
  is_first =
      let (u, is, next, leaves) = left_then in
      let low = (covers answer after start given (suc last)).each t (let le = closed.from in omega (arith, le)) (leaving_begins answer after start given t number leaving) in
      elim (cases_lt t first_h) [
        | inl lt ↦ absurd (no_j (first_h - 1) (j_before (first_h - 1) (omega (arith, lt))) (omega (arith, lt)) (omega (arith, ends_later, length-nibble_list c.f.frame)))
        | inr ge ↦ omega (arith, low, next, is, ge)
      ]

  leaves_then : LeavesAt answer after start given c.f t
  leaves_then =
      let (u, is, next, leaves) = left_then in
      subst (LeavesAt answer after start given c.f) (is ∙ sym is_first) leaves

  pub closes_frame : (f : Queued) × LeavesAt answer after start given f t × (f.number ≡ number) × SpellsFrame driven set.burst t last f.frame
  closes_frame =
      let leaves = leaves_then.0 in
      let few = c.fits.few in (
        c.f,
        leaves_then,
        cc,
        record {
          start = drive.start;
          earlier = c.earlier;
          lead = c.m + 2;
          past = c.before;
          few = omega (arith, few);
          in_range = c.fits.in_range;
          least_lead = omega arith;
          most_lead = let short = c.short in omega (arith, short);
          is_frame = c.frame;
          first = is_first;
          whole = drive.whole ∙ ap (λ (ss : List Symbol). drive.start + 4 * length ss) (sym all_is);
          drives = λ m lt.
              (drive.spelled last refl).drives m (omega (arith, lt, drive.whole, ap length all_is))
              ∙ ap (λ (ss : List Symbol). get_or (all_quarters ss) m None) (sym all_is);
          before = (drive.spelled last refl).before;
        },
      )

pub closes_whole_frames : {D : Type 0} (answer : D → ℕ → ℕ) (after : D → D) → ClosesWholeFrames answer after
closes_whole_frames answer after set room draws given t last number frames leaving closed =
    closes_frame answer after set room draws given t last number frames leaving closed
