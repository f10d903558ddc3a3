-- The capture of a node is one of what is cut from its ticks.
use Rattle.std.proofs.Common.{◌≡◌, refl, ℕ, zero, suc, ◌<◌, List, [], ◌∷◌, ◌++◌, get_or, sym, subst, arith}
use Rattle.std.specs.Prelude.{Some, None, ◌==◌, ◌^◌, slice_get}
use Rattle.std.proofs.lemmas.Bool.{eqb-true}
use Rattle.std.proofs.lemmas.List.Quantifiers.{position-Some}
use Rattle.std.proofs.lemmas.Option.{slice_get-get_or}
use Rattle.t1s_base.specs.Limits.{most_nodes}
use Rattle.t1s_symbols.specs.Ranges.{IsHeard}
use Rattle.t1s_world.specs.Events.{events_below}
use Rattle.t1s_script.specs.declared.script.NodeLine.{NodeLine}
use Rattle.t1s_script.specs.declared.script.Script.{Script}
use Rattle.t1s_line.specs.World.{position_of, tick_in}
use Rattle.t1s_capture.specs.Captures.{IsCaptureOf}
use Rattle.t1s_capture.specs.Cut.{Tick, AreHeard, IsCut, cut}
use Rattle.t1s_capture.proofs.CutItems.{cuts_are_captures}
use Rattle.t1s_capture.proofs.Whole.{readings_agree}
use Rattle.t1s_report.specs.HeardText.{ticks_heard, heard_text}
use Rattle.t1s_reception.specs.CaptureOfNode.{HoldsTheCut, CapturesHoldCuts}
use Rattle.t1s_reception.proofs.HeardRanges.{heard_fits}
use Rattle.t1s_reception.proofs.NodeReceivers.{node_ticks, length-node_ticks, ticks_heard_are}

AreHeard-push : (ts : List Tick) (t : Tick) → AreHeard ts → IsHeard t.0 → AreHeard (ts ++ t ∷ [])
AreHeard-push [] t h k = (k, tt)
AreHeard-push (x ∷ xs) t h k = (h.0, AreHeard-push xs t h.1 k)

module _ (s : Script) (node j : ℕ) (line : NodeLine) (found : slice_get s.nodes j ≡ Some line) (is : position_of s node ≡ Some j) where
  ticks_fit : (t : ℕ) → AreHeard (node_ticks s j line found t)
  unfolding events_below
  ticks_fit zero = tt
  ticks_fit (suc t) = AreHeard-push (node_ticks s j line found t) (tick_in s j t) (ticks_fit t) (heard_fits s j t)

  cut_fits : s.end < 2 ^ 32 → IsCut (ticks_heard s node s.end)
  cut_fits few =
      let same = ticks_heard_are s j line found node is s.end in
      subst IsCut (sym same)
      (cuts_are_captures (node_ticks s j line found s.end) (ticks_fit s.end) (omega (arith, few, length-node_ticks s j line found s.end)))

  pub holds_cut : node < most_nodes → s.end < 2 ^ 32 → HoldsTheCut s node
  holds_cut low few =
      let capture : IsCaptureOf (heard_text s node) node (cut (ticks_heard s node s.end))
      = record { node_in_range = low; valid = (cut_fits few).valid; text = refl } in
      record {
        capture = capture;
        only = λ other items k. readings_agree (heard_text s node) other node items (cut (ticks_heard s node s.end)) k capture;
      }

pub captures_hold_cuts : CapturesHoldCuts
captures_hold_cuts s node j script is =
    let none : NodeLine = record { no = 0; ids = []; place = 0; stub = 0; to = 0; start = 0; draws = None } in
    let place = position-Some (λ (n : NodeLine). n.no == node) s.nodes j none is in
    let line : NodeLine = get_or s.nodes j none in
    let no : (get_or s.nodes j none).no ≡ node = eqb-true (get_or s.nodes j none).no node place.1 in
    let ranges = script.nodes j none place.0 in
    holds_cut s node j (get_or s.nodes j none) (slice_get-get_or s.nodes j none place.0) is
    (omega (arith, no, ranges.no_high)) (omega (arith, script.end_high))
