-- Each arrival is due from exactly one leaving: what a receiver completes is a piece of the drive that passes it.
use Rattle.std.proofs.Common.{◌≡◌, ℕ, ◌+◌, ◌-◌, ◌*◌, ◌<◌, ◌≤◌, inl, inr, Bool, true, false, List, [], ◌∷◌, ◌++◌, length, get_or, map, Some, None, slice_get, refl, sym, ◌∙◌, ap, subst, arith}
use Rattle.std.proofs.lemmas.Bool.{cases_lt}
use Rattle.std.proofs.lemmas.Option.{slice_get_cases, slice_get_within}
use Rattle.t1s_symbols.specs.declared.Heard.{Heard}
use Rattle.t1s_symbols.specs.declared.Heard.TheVariants.{Nothing}
use Rattle.t1s_symbols.specs.declared.Symbol.{Symbol}
use Rattle.t1s_frame.specs.Frame.{IsFrame, nibble_list}
use Rattle.t1s_frame.proofs.Nibbles.{length-nibble_list}
use Rattle.t1s_grammar.specs.Burst.{Piece, piece_symbols, pieces_symbols, IsBurst, beacon, run}
use Rattle.t1s_grammar.specs.Reading.{StandsForFrame}
use Rattle.t1s_pcs_tx.specs.Runs.{all_quarters}
use Rattle.t1s_pcs_rx.specs.declared.piece.Kind.{Kind}
use Rattle.t1s_pcs_rx.specs.declared.piece.Kind.TheVariants.{Good}
use Rattle.t1s_pcs_rx.specs.Receiver.{Receiver}
use Rattle.t1s_pcs_rx.specs.ReceiveTable.{receive_event}
use Rattle.t1s_pcs_rx.specs.Tails.{pieces_of, ShowsPiece}
use Rattle.t1s_pcs_rx.specs.Views.{View}
use Rattle.t1s_pcs_rx.proofs.Ended.{nothing_ends_burst}
use Rattle.t1s_pcs_rx.proofs.TailTicks.{only_pieces_give_events, pieces_end_apart, tails_show_frames}
use Rattle.t1s_world.specs.Schedule.{Drive}
use Rattle.t1s_script.specs.Fit.{longest_drive}
use Rattle.t1s_script.specs.Script.{IsScript}
use Rattle.t1s_script.specs.declared.script.NodeLine.{NodeLine}
use Rattle.t1s_script.specs.declared.script.Script.{Script}
use Rattle.t1s_line.specs.Happenings.{IsLeaving, IsArrival}
use Rattle.t1s_line.specs.World.{driven_in, piece_at}
use Rattle.t1s_turns.specs.OwnRun.{piece_of}
use Rattle.t1s_turns.proofs.OwnPieces.{own_pieces}
use Rattle.t1s_schedule.specs.DriveContents.{HoldsBeacon, HoldsRun}
use Rattle.t1s_schedule.proofs.NodeRuns.{given}
use Rattle.t1s_schedule.proofs.SharedState.{FitCable, SharedAt}
use Rattle.t1s_delivery.specs.Delivered.{IsOffer, IsDue, ComesFromLeaving}
use Rattle.t1s_delivery.proofs.HeardDrives.{first_tick, missed, hears_part, told}
use Rattle.t1s_delivery.proofs.LeavingDrives.{one_number, holds_at, leaving_drive, leaves_in_run, ends_in_run, is_over}
use Rattle.t1s_delivery.proofs.NodeHappenings.{receiver, drove, no_piece_past, no_piece_before, piece_is}
use Rattle.t1s_delivery.proofs.OfferedOnce.{offer_from, offer_frame}
use Rattle.t1s_delivery.proofs.PassingDrives.{late, Passes, one_passes, Hears, hears_drive}
use Rattle.t1s_delivery.proofs.RunLeavings.{Carried, symbols_of, first_h, end_is, ending_of, carried_from, LeavesPiece, leaves_piece}

no_pieces : (before : List Piece) (piece : Piece) (after : List Piece) → [] ≡ before ++ piece ∷ after → ⊥
no_pieces [] piece after e = absurd (cc)
no_pieces (b ∷ bs) piece after e = absurd (cc)

module _ (s : Script) (script : IsScript s) (z : ℕ) (fit : FitCable s z) (known : (t : ℕ) → (ds : List Drive) × SharedAt s z t ds)
    (few : s.burst ≤ 255) where
  module _ (j : ℕ) (line : NodeLine) (found : slice_get s.nodes j ≡ Some line) (u : ℕ) (view : View)
      (event : piece_at s j (line.start + u) ≡ Some view) where
    -- far enough for each drive that has come to be whole
    abbrev T : ℕ
    T = line.start + u + longest_drive s + 2

    abbrev ds : List Drive
    ds = (known T).0

    abbrev shared : SharedAt s z T ds
    shared = (known T).1

    heard_some : (given s j line found u).heard ≡ Nothing → ⊥
    heard_some silence =
        let none = (nothing_ends_burst (receiver s j line found u) (drove s j line found u)).0 in
        let is = piece_is s j line found u in
        let quiet : piece_at s j (line.start + u) ≡ None =
        is ∙ (ap (λ (h : Heard). receive_event (receiver s j line found u) h (drove s j line found u)) silence ∙ none) in
        absurd (cc)

    module _ (h : Hears s z fit j line found T ds shared (line.start + u)) where
      abbrev d : Drive
      d = h.drive

      abbrev way : ℕ
      way = late s z fit j line found d.node

      abbrev begins : ℕ
      begins = first_tick s z fit j line found T ds shared d h.has h.other

      abbrev skipped : ℕ
      skipped = missed s z fit j line found T ds shared d h.has h.other

      abbrev receivers : ℕ → Receiver
      receivers k = receiver s j line found (begins + k)

      abbrev heard : ℕ → Heard
      heard k = (given s j line found (begins + k)).heard

      abbrev m : ℕ
      m = u - begins

      at : begins + m ≡ u
      at = omega (arith, h.at.from)

      -- the arrival falls in this tick of the drive
      in_drive : line.start + u ≡ d.start + way + (skipped + m)
      in_drive = omega (arith, at)

      shown_of : (symbols : List Symbol) (burst : IsBurst symbols)
          → ((k : ℕ) → d.start + k < d.stop → driven_in s d.node (d.start + k) ≡ get_or (all_quarters symbols) k None)
          → ShowsPiece (receivers 0).history (pieces_of burst) skipped (skipped + m) view
      shown_of symbols burst spelled =
          let till = h.at.till in
          let hears = hears_part s z fit j line found T ds shared d h.has h.other symbols spelled (m + 1) (omega arith) (omega (arith, at, till))
          (omega (arith, at)) in
          let tells = told s z fit j line found T ds shared d h.has h.other symbols spelled m (omega (arith, at, till)) (omega (arith, at)) in
          only_pieces_give_events receivers heard symbols burst skipped (m + 1) hears m view (omega arith)
          (sym tells ∙ (ap (λ (v : ℕ). piece_at s j (line.start + v)) at ∙ event))

      of_no_beacon : HoldsBeacon s T d.node d.start d.stop → ⊥
      of_no_beacon (symbols, is, spelled) =
          let shown = shown_of symbols (beacon is) spelled.drives in
          no_pieces shown.ending.before shown.ending.piece shown.ending.after shown.ending.among

      -- ---- of a run

      module _ (r : HoldsRun s T d.node d.start d.stop) where
        shown : ShowsPiece (receivers 0).history r.run.pieces skipped (skipped + m) view
        shown = shown_of _ (run r.run) r.spelled.drives

        -- the piece that is shown is one that was sent
        record Shown : Type 0 where
          carried : Carried r.pieces
          ends : skipped + m + 1 ≡ 4 * (symbols_of carried.before + length (piece_symbols (piece_of carried.piece)))
          good : view.kind ≡ Good
          frame : view.frame ≡ carried.piece.offer.frame

        shown_piece : Shown
        shown_piece =
            let e = shown.ending in
            let (c, before, is) = carried_from r.pieces e.before e.piece e.after (sym (own_pieces r.pieces r.rest r.run) ∙ e.among) in
            let p = leaves_piece s d.node d.start r.pieces r.leavings c in
            let frame : IsFrame c.piece.offer.frame = offer_frame s z fit d.node (first_h d.start c) c.piece.offer p.offer in
            let (kind, octets) =
            tails_show_frames (receivers 0).history r.run.pieces skipped (skipped + m) view shown c.piece.offer.frame frame
            (λ heard. subst (λ (x : Piece). StandsForFrame heard x c.piece.offer.frame) is (p.stands heard)) in
            let long : symbols_of c.before ≡ length (pieces_symbols e.before) = ap (λ (ps : List Piece). length (pieces_symbols ps)) before in
            let last : length (piece_symbols (piece_of c.piece)) ≡ length (piece_symbols e.piece) =
            ap (λ (x : Piece). length (piece_symbols x)) is in
            record { carried = c; ends = omega (arith, e.ends, long, last); good = kind; frame = octets }

        module _ (sent : Shown) where
          abbrev c : Carried r.pieces
          c = sent.carried

          abbrev v : ℕ
          v = first_h d.start c

          piece : LeavesPiece s d.node v c.piece
          piece = leaves_piece s d.node d.start r.pieces r.leavings c

          due : IsDue s v d.node c.piece.offer.number view.frame (line.start + u) j
          due =
              let end = end_is d.start c in
              let long : length (nibble_list view.frame) ≡ length (nibble_list c.piece.offer.frame) =
              ap (λ (f : List ℕ). length (nibble_list f)) sent.frame in
              record {
                other = h.other;
                there = slice_get_within s.nodes j line found;
                leaves = piece.leaves;
                offer =
                    subst (λ (f : List ℕ). IsOffer s d.node c.piece.offer.number f) (sym sent.frame)
                    (offer_from s script d.node v c.piece.offer piece.offer);
                time = omega (arith, end, long, sent.ends, in_drive);
              }

          -- no other leaving has this arrival due
          module _ (w k n : ℕ) (octets : List ℕ) (other : IsDue s w k n octets (line.start + u) j) where
            long_enough : 64 ≤ 4 * length (nibble_list octets)
            long_enough = let long = length-nibble_list octets in omega (arith, long)

            same_drive : (k ≡ d.node) × (d.start ≤ w) × (w < d.stop)
            same_drive =
                let time = other.time in
                let l = leaving_drive s script z fit known few T ds shared w k n (omega (arith, time, long_enough)) other.leaves in
                let e : Drive = l.drive in
                let theirs = (holds_at s script z fit known few T ds shared e l.has).run l.no_beacon in
                let i = leaves_in_run s script z fit known few T e.node e.start e.stop theirs w n octets l.from l.till
                (subst (λ (x : ℕ). IsLeaving s w x n) (sym l.node) other.leaves)
                (subst (λ (x : ℕ). IsOffer s x n octets) (sym l.node) other.offer) in
                let over = is_over s script z fit known few T e.node e.start e.stop theirs (omega (arith, l.from, time, long_enough)) in
                let end = ends_in_run s script z fit known few T e.node e.start e.stop theirs i.carried over in
                let long : length (nibble_list octets) ≡ length (nibble_list i.carried.piece.offer.frame) =
                ap (λ (f : List ℕ). length (nibble_list f)) i.frame in
                let near : late s z fit j line found e.node ≡ late s z fit j line found k = ap (λ (x : ℕ). late s z fit j line found x) l.node in
                let passes : Passes s z fit j line found e (line.start + u) =
                record { from = omega (arith, l.from, near, time, long_enough); till = omega (arith, end, long, i.first, near, time) } in
                let same = one_passes s z fit j line found T ds shared d e h.has l.has (line.start + u) h.at passes in
                let start = ap (λ (x : Drive). x.start) same in
                let stop = ap (λ (x : Drive). x.stop) same in
                (sym l.node ∙ ap (λ (x : Drive). x.node) (sym same), omega (arith, start, l.from), omega (arith, stop, l.till))

            only : (w ≡ v) × (k ≡ d.node) × (n ≡ c.piece.offer.number)
            only =
                let (node, from, till) = same_drive in
                let time = other.time in
                let near : late s z fit j line found k ≡ way = ap (λ (x : ℕ). late s z fit j line found x) node in
                let i = leaves_in_run s script z fit known few T d.node d.start d.stop r w n octets from till
                (subst (λ (x : ℕ). IsLeaving s w x n) node other.leaves) (subst (λ (x : ℕ). IsOffer s x n octets) node other.offer) in
                let end = end_is d.start i.carried in
                let long : length (nibble_list octets) ≡ length (nibble_list i.carried.piece.offer.frame) =
                ap (λ (f : List ℕ). length (nibble_list f)) i.frame in
                let ends : skipped + m + 1 ≡ 4 * (symbols_of i.carried.before + length (piece_symbols (piece_of i.carried.piece))) =
                omega (arith, end, long, i.first, time, near, in_drive) in
                let apart = pieces_end_apart (map piece_of r.pieces) (skipped + m) (ending_of i.carried (skipped + m) ends)
                (ending_of c (skipped + m) sent.ends) in
                let before : symbols_of i.carried.before ≡ symbols_of c.before = ap (λ (ps : List Piece). length (pieces_symbols ps)) apart.0 in
                let lead : i.carried.piece.lead ≡ c.piece.lead = ap (λ (x : Piece). x.lead) apart.1 in
                let tick : w ≡ v = omega (arith, i.first, before, lead) in
                (tick, node, one_number s script z fit known few v w d.node k c.piece.offer.number n tick node piece.leaves other.leaves)

          comes : ComesFromLeaving s (line.start + u) j view.kind view.frame
          comes = record { good = sent.good; v = v; i = d.node; number = c.piece.offer.number; due = due; only = only }

      by_drive : (b : Bool) → d.beacon ≡ b → ComesFromLeaving s (line.start + u) j view.kind view.frame
      by_drive true flag = absurd (of_no_beacon ((holds_at s script z fit known few T ds shared d h.has).beacon flag))
      by_drive false flag = let r = (holds_at s script z fit known few T ds shared d h.has).run flag in comes r (shown_piece r)

    arrival_at : ComesFromLeaving s (line.start + u) j view.kind view.frame
    arrival_at = elim (hears_drive s z fit j line found T ds shared u (omega arith)) [
      | inl silence ↦ absurd (heard_some silence)
      | inr h ↦ by_drive h h.drive.beacon refl
    ]

  arrival_due : (t j : ℕ) (view : View) → piece_at s j t ≡ Some view → ComesFromLeaving s t j view.kind view.frame
  arrival_due t j view event = elim (slice_get_cases s.nodes j).1 [
    | inr past ↦ let none = no_piece_past s j past.0 t in absurd (cc)
    | inl here ↦ elim (cases_lt t here.0.start) [
      | inl before ↦ let none = no_piece_before s j here.0 here.2 t before in absurd (cc)
      | inr from ↦
          let now : here.0.start + (t - here.0.start) ≡ t = omega (arith, from) in
          subst (λ (x : ℕ). ComesFromLeaving s x j view.kind view.frame) now
          (arrival_at j here.0 here.2 (t - here.0.start) view (ap (λ (x : ℕ). piece_at s j x) now ∙ event))
    ]
  ]

  -- so each arrival does
  pub arrives_as : (t j : ℕ) (kind : Kind) (frame : List ℕ) → IsArrival s t j kind frame → ComesFromLeaving s t j kind frame
  arrives_as t j kind frame (view, event, is_kind, is_frame) =
      subst (λ (k : Kind). ComesFromLeaving s t j k frame) is_kind
      (subst (λ (f : List ℕ). ComesFromLeaving s t j view.kind f) is_frame (arrival_due t j view event))
