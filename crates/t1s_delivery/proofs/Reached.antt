-- What leaves reaches each other node that had started before its drive comes there, and arrives unchanged.
use Rattle.std.proofs.Common.{◌≡◌, ◌≢◌, ℕ, ◌+◌, ◌-◌, ◌*◌, ◌<◌, ◌≤◌, List, length, map, Some, slice_get, ◌∙◌, ap, subst, arith}
use Rattle.t1s_symbols.specs.declared.Heard.{Heard}
use Rattle.t1s_symbols.specs.declared.Symbol.{Symbol}
use Rattle.t1s_frame.specs.Frame.{IsFrame, nibble_list}
use Rattle.t1s_frame.proofs.Nibbles.{length-nibble_list}
use Rattle.t1s_grammar.specs.Burst.{run, piece_symbols}
use Rattle.t1s_pcs_rx.specs.declared.piece.Kind.TheVariants.{Good}
use Rattle.t1s_pcs_rx.specs.Receiver.{Receiver}
use Rattle.t1s_pcs_rx.specs.Tails.{EndsAt, HearsPart, past_after}
use Rattle.t1s_pcs_rx.specs.Views.{View, view_of}
use Rattle.t1s_pcs_rx.proofs.Frames.{frames_are_shown}
use Rattle.t1s_pcs_rx.proofs.TailTicks.{whole_pieces_give_events}
use Rattle.t1s_world.specs.Schedule.{Drive}
use Rattle.t1s_script.specs.Script.{IsScript}
use Rattle.t1s_script.specs.declared.script.NodeLine.{NodeLine}
use Rattle.t1s_script.specs.declared.script.Script.{Script}
use Rattle.t1s_line.specs.Happenings.{IsArrival}
use Rattle.t1s_line.specs.World.{piece_at}
use Rattle.t1s_turns.specs.OwnRun.{piece_of, run_symbols}
use Rattle.t1s_turns.proofs.OwnPieces.{own_pieces}
use Rattle.t1s_schedule.specs.DriveContents.{HoldsRun}
use Rattle.t1s_schedule.proofs.ExactDrives.{Has}
use Rattle.t1s_schedule.proofs.NodeRuns.{given}
use Rattle.t1s_schedule.proofs.SharedState.{FitCable, SharedAt}
use Rattle.t1s_delivery.proofs.HeardDrives.{first_tick, missed, now_is, hears_part, told}
use Rattle.t1s_delivery.proofs.LeavingDrives.{ends_in_run}
use Rattle.t1s_delivery.proofs.NodeHappenings.{receiver}
use Rattle.t1s_delivery.proofs.OfferedOnce.{offer_frame}
use Rattle.t1s_delivery.proofs.PassingDrives.{late}
use Rattle.t1s_delivery.proofs.RunLeavings.{Carried, symbols_of, first_h, end_is, pieces_are, leaves_piece}

module _ (s : Script) (script : IsScript s) (z : ℕ) (fit : FitCable s z) (known : (t : ℕ) → (ds : List Drive) × SharedAt s z t ds)
    (few : s.burst ≤ 255)
    (j : ℕ) (line : NodeLine) (found : slice_get s.nodes j ≡ Some line) (T : ℕ) (ds : List Drive) (shared : SharedAt s z T ds)
    (d : Drive) (has : Has ds d) (other : d.node ≢ j) (started : line.start ≤ d.start + late s z fit j line found d.node)
    (r : HoldsRun s T d.node d.start d.stop) (over : d.stop < T) (c : Carried r.pieces) where
  abbrev way : ℕ
  way = late s z fit j line found d.node

  abbrev symbols : List Symbol
  symbols = run_symbols r.pieces r.rest

  abbrev begins : ℕ
  begins = first_tick s z fit j line found T ds shared d has other

  abbrev receivers : ℕ → Receiver
  receivers k = receiver s j line found (begins + k)

  abbrev heard : ℕ → Heard
  heard k = (given s j line found (begins + k)).heard

  -- the tick of the drive in which the closer of this piece ends
  module _ (m : ℕ) (ends : m + 1 ≡ 4 * (symbols_of c.before + length (piece_symbols (piece_of c.piece))))
      (before : line.start + (begins + m) < T) where
    from_first : missed s z fit j line found T ds shared d has other ≡ 0
    from_first = omega (arith, started)

    in_drive : line.start + (begins + m) < d.stop + way
    in_drive =
        let end = end_is d.start c in
        let within = ends_in_run s script z fit known few T d.node d.start d.stop r c over in
        omega (arith, end, within, ends, started)

    abbrev ending : EndsAt r.run.pieces m
    ending = record {
      before = map piece_of c.before;
      piece = piece_of c.piece;
      after = map piece_of c.after;
      among = own_pieces r.pieces r.rest r.run ∙ pieces_are c;
      ends = ends;
    }

    hears : HearsPart receivers heard symbols 0 (m + 1)
    hears =
        let part = hears_part s z fit j line found T ds shared d has other symbols r.spelled.drives (m + 1) (omega arith)
        (omega (arith, in_drive)) (omega (arith, before)) in
        subst (λ (k : ℕ). HearsPart receivers heard symbols k (m + 1)) from_first part

    abbrev view : View
    view = view_of (past_after (receivers 0).history (map piece_of c.before)) (piece_of c.piece)

    event : piece_at s j (line.start + (begins + m)) ≡ Some view
    event =
        told s z fit j line found T ds shared d has other symbols r.spelled.drives m in_drive before
        ∙ whole_pieces_give_events receivers heard symbols (run r.run) (m + 1) hears m (omega arith) ending

    pub arrives : IsArrival s (line.start + (begins + m)) j Good c.piece.offer.frame
    arrives =
        let p = leaves_piece s d.node d.start r.pieces r.leavings c in
        let frame : IsFrame c.piece.offer.frame = offer_frame s z fit d.node (first_h d.start c) c.piece.offer p.offer in
        let past = past_after (receivers 0).history (map piece_of c.before) in
        let shows = frames_are_shown past (piece_of c.piece) c.piece.offer.frame frame (p.stands past) in
        (view, event, ap (λ (x : View). x.kind) shows, ap (λ (x : View). x.frame) shows)

  -- the arrival that is due from the leaving of this piece
  pub arrives_due : (u : ℕ) → u < T → u + 1 ≡ first_h d.start c + 4 * length (nibble_list c.piece.offer.frame) + way
      → IsArrival s u j Good c.piece.offer.frame
  arrives_due u before time =
      let end = end_is d.start c in
      let long = length-nibble_list c.piece.offer.frame in
      let first = now_is s z fit j line found T ds shared d has other in
      let m : ℕ = u - (line.start + begins) in
      let at : line.start + (begins + m) ≡ u = omega (arith, started, time, long) in
      let ends : m + 1 ≡ 4 * (symbols_of c.before + length (piece_symbols (piece_of c.piece))) = omega (arith, end, time, at, started) in
      subst (λ (v : ℕ). IsArrival s v j Good c.piece.offer.frame) at (arrives m ends (omega (arith, at, before)))
