-- A frame that a node hears alone arrives there.
use Rattle.std.proofs.Common.{◌≡◌, refl, ℕ, zero, suc, ◌+◌, ◌-◌, ◌*◌, ◌<◌, ◌≤◌, Bool, true, false, List, [], ◌∷◌, ◌++◌, length, get_or, sym, ap, subst, ◌∙◌, arith, le-ltb, length-append}
use Rattle.std.specs.Prelude.{Option, Some, None, is_some, slice_get}
use Rattle.std.specs.List.{flat_map}
use Rattle.std.proofs.lemmas.List.{append-nil, length-map}
use Rattle.std.proofs.lemmas.List.Elements.{All-append}
use Rattle.std.proofs.lemmas.Option.{slice_get-get_or}
use Rattle.t1s_symbols.specs.declared.Heard.{Heard}
use Rattle.t1s_symbols.specs.declared.Heard.TheVariants.{One}
use Rattle.t1s_symbols.specs.declared.Quarter.{Quarter}
use Rattle.t1s_symbols.specs.declared.Symbol.{Symbol}
use Rattle.t1s_scramble.proofs.Nibbles.{length-scrambled_nibbles}
use Rattle.t1s_frame.specs.Frame.{nibble_list}
use Rattle.t1s_frame.proofs.Nibbles.{length-nibble_list}
use Rattle.t1s_grammar.specs.Burst.{Piece, IsPieceInRange, IsBurst, piece_symbols, pieces_symbols, run}
use Rattle.t1s_grammar.specs.Reading.{StandsForFrame}
use Rattle.t1s_grammar.specs.Sent.{carried_nibbles}
use Rattle.t1s_grammar.proofs.Longer.{more_pieces}
use Rattle.t1s_grammar.proofs.Sent.{length-carried, sent-in_range, sent_pieces_are_read}
use Rattle.t1s_pcs_tx.specs.Runs.{all_quarters}
use Rattle.t1s_pcs_rx.specs.declared.piece.Kind.TheVariants.{Good}
use Rattle.t1s_pcs_rx.specs.declared.reader.Burst.TheVariants.{Outside}
use Rattle.t1s_pcs_rx.specs.Laws.{quarters}
use Rattle.t1s_pcs_rx.specs.Receiver.{Receiver, receive_start}
use Rattle.t1s_pcs_rx.specs.ReceiveTable.{receive_step, receive_event}
use Rattle.t1s_pcs_rx.specs.Tails.{EndsAt, HearsPart, past_after}
use Rattle.t1s_pcs_rx.specs.Views.{View, view_of}
use Rattle.t1s_pcs_rx.proofs.Bursts.{length-piece}
use Rattle.t1s_pcs_rx.proofs.Ended.{nothing_ends_burst}
use Rattle.t1s_pcs_rx.proofs.Frames.{frames_are_shown}
use Rattle.t1s_pcs_rx.proofs.TailTicks.{whole_pieces_give_events}
use Rattle.t1s_world.specs.Events.{events_below}
use Rattle.t1s_world.proofs.SingleSender.{hears_one}
use Rattle.t1s_script.specs.declared.script.NodeLine.{NodeLine}
use Rattle.t1s_script.specs.declared.script.Script.{Script}
use Rattle.t1s_script.specs.Taps.{tap_of, taps_of}
use Rattle.t1s_line.specs.Happenings.{IsArrival}
use Rattle.t1s_line.specs.World.{machine_of, first_tracks, driven_in, start_of, heard_in}
use Rattle.t1s_reception.specs.Receptions.{receiver_after}
use Rattle.t1s_reception.specs.HeardAlone.{Sending, frame_piece, symbols_sent, first_h, way, IsSending, HearsAlone, HeardAloneArrives}
use Rattle.t1s_reception.proofs.NodeReceivers.{node_ticks, next_receiver, piece_told}

-- ---- quarters

-- a quarter of symbols that are driven, and as it is heard
quarter_heard : (symbols : List Symbol) (m : ℕ) → m < 4 * length symbols
    → (q : Quarter) × (get_or (all_quarters symbols) m None ≡ Some q) × (slice_get (flat_map quarters symbols) m ≡ Some (One q))
quarter_heard [] m lt = absurd (omega (arith, lt))
quarter_heard (x ∷ xs) zero lt = (record { sym = x; part = 0 }, refl, refl)
quarter_heard (x ∷ xs) (suc zero) lt = (record { sym = x; part = 1 }, refl, refl)
quarter_heard (x ∷ xs) (suc (suc zero)) lt = (record { sym = x; part = 2 }, refl, refl)
quarter_heard (x ∷ xs) (suc (suc (suc zero))) lt = (record { sym = x; part = 3 }, refl, refl)
quarter_heard (x ∷ xs) (suc (suc (suc (suc m)))) lt = quarter_heard xs m (omega (arith, lt))

module _ (s : Script) (i j : ℕ) (x : Sending) (sent : IsSending s i x) (alone : HearsAlone s i j x.start (4 * length (symbols_sent x)))
    (line : NodeLine) (found : slice_get s.nodes j ≡ Some line) where
  abbrev first : ℕ
  first = x.start + way s j i

  abbrev piece : Piece
  piece = frame_piece x

  abbrev pieces : List Piece
  pieces = x.earlier ++ frame_piece x ∷ []

  abbrev symbols : List Symbol
  symbols = symbols_sent x

  abbrev ticks : ℕ
  ticks = 4 * length (symbols_sent x)

  abbrev receiver : ℕ → Receiver
  receiver t = receiver_after receive_start (node_ticks s j line found t)

  -- ---- the run is heard

  abbrev burst : IsBurst symbols
  burst = run (record {
    pieces = pieces;
    rest = 0;
    least_pieces = omega (arith, length-append x.earlier (piece ∷ []));
    most_pieces = omega (arith, length-append x.earlier (piece ∷ []), sent.few);
    in_range = All-append IsPieceInRange x.earlier (piece ∷ []) sent.in_range
        (λ k d lt. elim k as (λ k. k < 1 → IsPieceInRange (get_or (piece ∷ []) k d)) [
          | zero ↦ λ h. sent-in_range x.lead x.past x.frame true sent.least_lead sent.most_lead sent.is_frame
          | suc k ↦ λ h. absurd (omega (arith, h))
        ] lt);
    most_rest = omega arith;
    spelled = sym (append-nil symbols);
  })

  hears_quarter : (m : ℕ) → m < ticks → (q : Quarter) → driven_in s i (x.start + m) ≡ Some q → heard_in s j (first + m) ≡ One q
  unfolding heard_in
  hears_quarter m lt q driven =
      let only = alone.only m lt in
      let taps : length (taps_of s) ≡ length s.nodes = length-map s.nodes tap_of in
      let back : first + m - way s j i ≡ x.start + m = omega arith in
      let comes = hears_one (machine_of s) (taps_of s) (first_tracks s) (first + m) j i q (omega (arith, taps, alone.there)) alone.other (omega arith)
      (ap (driven_in s i) back ∙ driven)
      (λ k within apart theirs near. only.others k (omega (arith, taps, within)) apart theirs near) in
      rw (le-ltb (first + m) (start_of s j) only.started, only.quiet) comes

  hears : (m : ℕ) → m < ticks → slice_get (flat_map quarters symbols) (0 + m) ≡ Some (heard_in s j (first + m))
  hears m lt =
      let (q, driven, spells) = quarter_heard symbols m lt in
      let same : 0 + m ≡ m = omega arith in
      rw same (spells ∙ ap Some (sym (hears_quarter m lt q (sent.drives m lt ∙ driven))))

  rests : (m : ℕ) → m < ticks → is_some (driven_in s j (first + m)) ≡ false
  rests m lt = ap (λ (o : Option Quarter). is_some o) ((alone.only m lt).rests)

  outside_at : (t : ℕ) → t ≡ first → (receiver t).burst ≡ Outside
  unfolding events_below
  outside_at zero is = refl
  outside_at (suc t) is =
      let ends = (nothing_ends_burst (receiver t) (is_some (driven_in s j t))).1 in
      ap (λ (r : Receiver). r.burst)
      (next_receiver s j line found t
      ∙ ap (λ (h : Heard). receive_step (receiver t) h (is_some (driven_in s j t))) (alone.before t is)
      ∙ ends)

  hears_run : HearsPart (λ m. receiver (first + m)) (λ m. heard_in s j (first + m)) symbols 0 ticks
  hears_run = record {
    outside = outside_at (first + 0) (omega arith);
    hears = hears;
    goes_on = λ m lt. (
        let next : first + (m + 1) ≡ suc (first + m) = omega arith in
        ap (λ (t : ℕ). receiver t) next
        ∙ next_receiver s j line found (first + m)
        ∙ ap (λ (own : Bool). receive_step (receiver (first + m)) (heard_in s j (first + m)) own) (rests m lt));
  }

  -- ---- the piece arrives

  abbrev last : ℕ
  last = 4 * (length (pieces_symbols x.earlier) + length (piece_symbols piece)) - 1

  some_symbols : 2 ≤ length (piece_symbols piece)
  some_symbols = omega (arith, length-piece piece)

  last_below : last < ticks
  last_below =
      let all : length symbols ≡ length (pieces_symbols x.earlier) + length (piece_symbols piece) =
      ap length (more_pieces x.earlier piece) ∙ length-append (pieces_symbols x.earlier) (piece_symbols piece) in
      omega (arith, all, some_symbols)

  last_tick : (v : ℕ) → v ≡ first_h x → v + 4 * length (nibble_list x.frame) - 1 + way s j i ≡ first + last
  last_tick v begins =
      let groups : length piece.nibbles ≡ 12 + 2 * length x.frame =
      length-scrambled_nibbles x.past (carried_nibbles x.frame) ∙ length-carried x.frame in
      omega (arith, begins, length-nibble_list x.frame, length-piece piece, groups)

  arrives : IsArrival s (first + last) j Good x.frame
  arrives =
      let ending : EndsAt pieces last = record {
        before = x.earlier;
        piece = piece;
        after = [];
        among = refl;
        ends = omega (arith, some_symbols);
      } in
      let past : List Bool = past_after (receiver (first + 0)).history x.earlier in
      let told = whole_pieces_give_events (λ m. receiver (first + m)) (λ m. heard_in s j (first + m)) symbols burst ticks hears_run last last_below ending in
      let stands : StandsForFrame past piece x.frame =
      (sent_pieces_are_read x.lead x.past past x.frame true sent.least_lead sent.most_lead sent.is_frame).frame refl in
      let shown = frames_are_shown past piece x.frame sent.is_frame stands in (
        view_of past piece,
        piece_told s j line found (first + last)
            ∙ ap (λ (own : Bool). receive_event (receiver (first + last)) (heard_in s j (first + last)) own) (rests last last_below)
            ∙ told,
        ap (λ (x : View). x.kind) shown,
        ap (λ (x : View). x.frame) shown,
      )

  pub arrives_in_time : (v : ℕ) → v ≡ first_h x → IsArrival s (v + 4 * length (nibble_list x.frame) - 1 + way s j i) j Good x.frame
  arrives_in_time v begins = subst (λ (u : ℕ). IsArrival s u j Good x.frame) (sym (last_tick v begins)) arrives

pub heard_alone_arrives : HeardAloneArrives
heard_alone_arrives s i j x sent alone =
    let none : NodeLine = record { no = 0; ids = []; place = 0; stub = 0; to = 0; start = 0; draws = None } in
    arrives_in_time s i j x sent alone (get_or s.nodes j none) (slice_get-get_or s.nodes j none alone.here)
