-- Parts of an own run: what is driven from the beginning of a lead, or from the end of a closer, to the end of the
-- opportunity.
use Rattle.std.proofs.Common.{◌≡◌, ℕ, suc, ◌+◌, ◌-◌, ◌*◌, ◌<◌, ◌≤◌, inl, inr, Bool, true, false, IsTrue, Some, List, [], ◌∷◌, ◌++◌, length, map, replicate, refl, sym, ◌∙◌, ap, subst, arith, append_assoc}
use Rattle.std.specs.Prelude.{All}
use Rattle.std.proofs.lemmas.Bool.{cases_lt, cases_eq}
use Rattle.std.proofs.lemmas.List.{length-append, length-replicate}
use Rattle.std.proofs.lemmas.List.Concat.{flat_map-append}
use Rattle.std.proofs.lemmas.List.Elements.{All-cons, All-nil}
use Rattle.t1s_symbols.specs.declared.Symbol.{Symbol}
use Rattle.t1s_symbols.specs.declared.Symbol.TheVariants.{J}
use Rattle.t1s_scramble.proofs.Nibbles.{length-scrambled_nibbles, scrambled_nibbles-below}
use Rattle.t1s_frame.specs.Frame.{IsFrame}
use Rattle.t1s_grammar.specs.Burst.{IsPieceInRange, piece_symbols, pieces_symbols}
use Rattle.t1s_grammar.specs.Sent.{carried_nibbles, sent_piece}
use Rattle.t1s_grammar.proofs.Sent.{length-carried}
use Rattle.t1s_ring.specs.declared.queued.Queued.{Queued}
use Rattle.t1s_pcs_tx.specs.State.{Quiet}
use Rattle.t1s_pcs_tx.specs.TransmitTable.{at_boundary}
use Rattle.t1s_pcs_tx.specs.Runs.{quarters, all_quarters}
use Rattle.t1s_node.specs.Core.{Core}
use Rattle.t1s_node.specs.Laws.{LeavesAt}
use Rattle.t1s_node.specs.Runs.{CoreTick, DrawsAreBounded, IsUndisturbed, core_at, found_at, left_at, own_at, leaves_at, popped_at}
use Rattle.t1s_node.proofs.CoreSteps.{Stands}
use Rattle.t1s_node.proofs.JointPlaces.{InPiece, nibble_of}
use Rattle.t1s_node.proofs.MacTurns.{count_of, long}
use Rattle.t1s_node.proofs.RunPlaces.{Awake}
use Rattle.t1s_turns.specs.OwnRun.{OwnPiece, piece_of, ticks_of, run_symbols, IsFirstH, quarters_from, AreSent}
use Rattle.t1s_turns.proofs.OwnRunPiece.{Spelled, piece_spelled, length-sent, quarters_from-append}
use Rattle.t1s_turns.proofs.OwnRunSteps.{LeadPops, LeadLapses}
use Rattle.t1s_turns.proofs.OwnRunClose.{first_frame, piece_frame, many, few, piece, owns_tick, leaves_none, leaves_here}

sent_in_range : (lead : ℕ) (past : List Bool) (octets : List ℕ) → 2 ≤ lead → lead ≤ 4096 → IsFrame octets → IsPieceInRange (sent_piece lead past octets true)
sent_in_range lead past octets least most h =
    let fewest : 64 ≤ length octets = h.shortest in
    let longest : length octets ≤ 1522 = h.longest in
    let long = length-scrambled_nibbles past (carried_nibbles octets) ∙ length-carried octets in
    record {
      least_lead = least;
      most_lead = most;
      least_nibbles = omega (arith, long);
      most_nibbles = omega (arith, long);
      nibbles = scrambled_nibbles-below past (carried_nibbles octets);
      closer = tt;
    }

module _ {D : Type 0} (answer : D → ℕ → ℕ) (after : D → D) (bounded : DrawsAreBounded answer) (start : Core D) (given : ℕ → CoreTick) (end : ℕ)
    (calm : IsUndisturbed answer after start given end) where
  abbrev found : ℕ → Core D
  found t = found_at answer after start given t

  abbrev left : ℕ → Core D
  left t = left_at answer after start given t

  abbrev Drives : ℕ → List Symbol → Type 0
  Drives t symbols = quarters_from answer after start given t (4 * length symbols) ≡ all_quarters symbols

  -- from tick from on: pieces in this number, and over by tick most
  pub record OwnPart (from least few most : ℕ) : Type 0 where
    pub pieces : List OwnPiece
    pub rest : ℕ
    pub over : ℕ
    pub some : least ≤ length pieces
    pub in_number : length pieces ≤ few
    pub in_range : All IsPieceInRange (map piece_of pieces)
    pub short_rest : rest ≤ 33
    pub drives : Drives from (run_symbols pieces rest)
    pub ends : over ≡ from + 4 * length (run_symbols pieces rest)
    pub near : over ≤ most
    pub sent : AreSent answer after start given from pieces
    pub no_other : (u number : ℕ) → from ≤ u → u < over → leaves_at answer after start given u ≡ Some number → IsFirstH from pieces u
    pub owns : (u : ℕ) → from ≤ u → u < over → own_at answer after start given u ≡ true
    pub out : own_at answer after start given over ≡ false
    pub quiet : (left over).tx.stage ≡ Quiet

  pub later : (from least few most few' most' : ℕ) → few ≤ few' → most ≤ most' → OwnPart from least few most → OwnPart from 0 few' most'
  later from least few most few' most' more longer part = record {
    pieces = part.pieces;
    rest = part.rest;
    over = part.over;
    some = omega arith;
    in_number = omega (arith, part.in_number, more);
    in_range = part.in_range;
    short_rest = part.short_rest;
    drives = part.drives;
    ends = part.ends;
    near = omega (arith, part.near, longer);
    sent = part.sent;
    no_other = part.no_other;
    owns = part.owns;
    out = part.out;
    quiet = part.quiet;
  }

  -- nothing more
  pub no_part : (t : ℕ) → own_at answer after start given t ≡ false → (left t).tx.stage ≡ Quiet → OwnPart t 0 0 t
  no_part t out quiet = record {
    pieces = [];
    rest = 0;
    over = t;
    some = omega arith;
    in_number = omega arith;
    in_range = All-nil IsPieceInRange;
    short_rest = omega arith;
    drives = refl;
    ends = omega arith;
    near = omega arith;
    sent = tt;
    no_other = λ u number low high e. absurd (omega (arith, low, high));
    owns = λ u low high. absurd (omega (arith, low, high));
    out = out;
    quiet = quiet;
  }

  -- J alone
  pub lapsed_part : (from most : ℕ) → most ≤ from + 132 → LeadLapses answer after bounded start given end calm from most → OwnPart from 0 0 most
  lapsed_part from most short lead =
      let syncs = length-replicate lead.a J in
      record {
        pieces = [];
        rest = lead.a;
        over = lead.over;
        some = omega arith;
        in_number = omega arith;
        in_range = All-nil IsPieceInRange;
        short_rest = omega (arith, lead.is, lead.near, short);
        drives = ap (λ n. quarters_from answer after start given from (4 * n)) syncs ∙ lead.drives;
        ends = omega (arith, lead.is, syncs);
        near = lead.near;
        sent = tt;
        no_other = λ u number low high e. (let none = (lead.quiet u low high).none in absurd (cc));
        owns = λ u low high. (lead.quiet u low high).own;
        out = lead.out;
        quiet = lead.stage;
      }

  joined : (from mid : ℕ) (xs ys : List Symbol) → from + 4 * length xs ≡ mid → Drives from xs → Drives mid ys → Drives from (xs ++ ys)
  joined from mid xs ys is first then_rest =
      let sum : 4 * length (xs ++ ys) ≡ 4 * length xs + 4 * length ys = omega (arith, length-append xs ys) in
      ap (λ n. quarters_from answer after start given from n) sum
      ∙ quarters_from-append answer after start given (4 * length xs) (4 * length ys) from
      ∙ ap (λ qs. qs ++ quarters_from answer after start given (from + 4 * length xs) (4 * length ys)) first
      ∙ ap (λ t. all_quarters xs ++ quarters_from answer after start given t (4 * length ys)) is
      ∙ ap (λ qs. all_quarters xs ++ qs) then_rest
      ∙ sym (flat_map-append quarters xs ys)

  -- a piece with its lead, and then more
  module _ (from b most : ℕ) (lead : LeadPops answer after bounded start given end calm from b most) (near : most ≤ from + 132) (within : most + 12248 ≤ end)
      (opens : IsTrue (at_boundary (found from).tx)) where
    abbrev f : Queued
    f = lead.f

    abbrev first : ℕ
    first = lead.first

    same_first : lead.began.first ≡ first
    same_first = omega (arith, lead.began.since)

    pub pop : popped_at answer after start given first ≡ nibble_of f 0 ∷ []
    pop = subst (λ u. popped_at answer after start given u ≡ nibble_of f 0 ∷ []) same_first lead.began.pop

    pub stands : Stands (InPiece f false 0 0) (core_at answer after start given (suc first))
    stands = subst (λ u. Stands (InPiece f false 0 0) (core_at answer after start given (suc u))) same_first lead.began.stands

    pub awake : Awake answer after bounded start given end calm (suc first)
    awake = subst (λ u. Awake answer after bounded start given end calm (suc u)) same_first lead.began.awake

    abbrev c : ℕ
    c = count_of f

    pub long_enough : (144 ≤ c) × (c ≤ 3060)
    long_enough = (long f (first_frame f _ _ _ _ _ _ _ _ _ stands.joint))

    pub fits : first + (4 * c + 7) ≤ end
    fits = omega (arith, long_enough.1, lead.near, within)

    abbrev over : ℕ
    over = suc (first + (4 * c + 7))

    abbrev own_piece : OwnPiece
    own_piece = record { lead = lead.a + 2; past = (found first).tx.past; offer = f }

    spelled : Spelled answer after start given end f first
        (piece answer after bounded start given end calm f first b pop stands awake fits lead.budgeted)
        (many answer after bounded start given end calm f first b pop stands awake fits lead.budgeted) fits from lead.a
    spelled =
        piece_spelled answer after start given end f first
        (piece answer after bounded start given end calm f first b pop stands awake fits lead.budgeted)
        (many answer after bounded start given end calm f first b pop stands awake fits lead.budgeted) fits from lead.a lead.is opens lead.boundary
        (piece_frame answer after bounded start given end calm f first b pop stands awake fits lead.budgeted) (omega (arith, lead.is, lead.near, near)) lead.drives

    own_length : length (piece_symbols (piece_of own_piece)) ≡ lead.a + 2 + c
    own_length = length-sent (lead.a + 2) (found first).tx.past f.frame true (omega (arith, long_enough.0))

    next_is : from + ticks_of own_piece ≡ over
    next_is = omega (arith, own_length, lead.is)

    abbrev Owns : ℕ → Type 0
    Owns u = own_at answer after start given u ≡ true

    abbrev Names : List OwnPiece → ℕ → Type 0
    Names pieces u = (number : ℕ) → leaves_at answer after start given u ≡ Some number → IsFirstH from (own_piece ∷ pieces) u

    -- tick u of the piece, with its lead
    within_piece : (pieces : List OwnPiece) (u : ℕ) → from ≤ u → u < over → Owns u × Names pieces u
    within_piece pieces u low high = elim (cases_lt u first) [
      | inl before ↦
          let silent = lead.quiet u low before in
          (silent.own, λ number e. (let none = silent.none in absurd (cc)))
      | inr since ↦
          let at : first + (u - first) ≡ u = omega (arith, since) in
          let early : u - first < 4 * c + 8 = omega (arith, since, high) in (
            owns_tick answer after bounded start given end calm f first b pop stands awake fits lead.budgeted (u - first) u at early,
            λ number e. elim (cases_eq (u - first) 8) [
              | inl eight ↦ inl (omega (arith, at, eight, lead.is))
              | inr other ↦
                  let none = leaves_none answer after bounded start given end calm f first b pop stands awake fits lead.budgeted (u - first) u at early other in
                  absurd (cc)
            ],
          )
    ]

    abbrev Rest : ℕ → ℕ → Type 0
    Rest n e = OwnPart over 0 n e

    pub with_piece : (n e : ℕ) → Rest n e → OwnPart from 1 (suc n) e
    with_piece n e part = record {
      pieces = own_piece ∷ part.pieces;
      rest = part.rest;
      over = part.over;
      some = omega arith;
      in_number = omega (arith, part.in_number);
      in_range = All-cons IsPieceInRange (piece_of own_piece) (map piece_of part.pieces) sent part.in_range;
      short_rest = part.short_rest;
      drives = subst (Drives from) (sym symbols) all_driven;
      ends = omega (arith, part.ends, next_is, sum);
      near = part.near;
      sent = (leaves, spelled.stands, subst (λ t. AreSent answer after start given t part.pieces) (sym next_is) part.sent);
      no_other = λ u number low high e. elim (cases_lt u over) [
        | inl early ↦ (within_piece part.pieces u low early).1 number e
        | inr late ↦ inr (subst (λ t. IsFirstH t part.pieces u) (sym next_is) (part.no_other u number late high e))
      ];
      owns = λ u low high. elim (cases_lt u over) [
        | inl early ↦ (within_piece part.pieces u low early).0
        | inr late ↦ part.owns u late high
      ];
      out = part.out;
      quiet = part.quiet;
    }
      where
        sent : IsPieceInRange (piece_of own_piece)
        sent = sent_in_range (lead.a + 2) (found first).tx.past f.frame (omega arith) (omega (arith, lead.is, lead.near, near))
            (piece_frame answer after bounded start given end calm f first b pop stands awake fits lead.budgeted)

        symbols : run_symbols (own_piece ∷ part.pieces) part.rest ≡ piece_symbols (piece_of own_piece) ++ (run_symbols part.pieces part.rest)
        symbols = append_assoc (piece_symbols (piece_of own_piece)) (pieces_symbols (map piece_of part.pieces)) (replicate part.rest J)

        sum : length (run_symbols (own_piece ∷ part.pieces) part.rest) ≡ length (piece_symbols (piece_of own_piece)) + length (run_symbols part.pieces part.rest)
        sum = ap length symbols ∙ length-append (piece_symbols (piece_of own_piece)) (run_symbols part.pieces part.rest)

        piece_driven : Drives from (piece_symbols (piece_of own_piece))
        piece_driven = let n_is : 4 * length (piece_symbols (piece_of own_piece)) ≡ 4 * (lead.a + c + 2) = omega (arith, own_length) in
            ap (λ n. quarters_from answer after start given from n) n_is ∙ spelled.drives

        all_driven : Drives from (piece_symbols (piece_of own_piece) ++ (run_symbols part.pieces part.rest))
        all_driven = joined from over (piece_symbols (piece_of own_piece)) (run_symbols part.pieces part.rest) next_is piece_driven part.drives

        leaves : LeavesAt answer after start given f (from + 4 * (lead.a + 2))
        leaves = let at : first + 8 ≡ from + 4 * (lead.a + 2) = omega (arith, lead.is) in
            subst (λ u. LeavesAt answer after start given f u) at (leaves_here answer after bounded start given end calm f first b pop stands awake fits lead.budgeted)
