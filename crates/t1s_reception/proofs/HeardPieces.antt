-- The capture of what a node hears shows the pieces that arrive at it.
use Rattle.std.proofs.Common.{◌≡◌, ℕ, ap, ◌∙◌}
use Rattle.std.specs.Prelude.{[], ◌==◌, slice_get, get_or, Some, None}
use Rattle.std.proofs.lemmas.List.Quantifiers.{position-Some}
use Rattle.std.proofs.lemmas.Option.{slice_get-get_or}
use Rattle.t1s_script.specs.declared.script.NodeLine.{NodeLine}
use Rattle.t1s_script.specs.declared.script.Script.{Script}
use Rattle.t1s_line.specs.World.{position_of}
use Rattle.t1s_report.specs.HeardText.{ticks_heard}
use Rattle.t1s_reception.specs.Receptions.{receptions}
use Rattle.t1s_reception.specs.HeardPieces.{ShowsArrivals, CapturesShowArrivals}
use Rattle.t1s_reception.proofs.CutReceptions.{cuts_show_receptions}
use Rattle.t1s_reception.proofs.NodeReceivers.{ticks_heard_are, arrivals_are}

shows_at : (s : Script) (T node j : ℕ) (line : NodeLine) → slice_get s.nodes j ≡ Some line → position_of s node ≡ Some j
    → ShowsArrivals s T node j
shows_at s T node j line found is =
    cuts_show_receptions (ticks_heard s node T)
    ∙ ap receptions (ticks_heard_are s j line found node is T)
    ∙ arrivals_are s j line found T

pub captures_show_arrivals : CapturesShowArrivals
captures_show_arrivals s T node j is =
    let none : NodeLine = record { no = 0; ids = []; place = 0; stub = 0; to = 0; start = 0; draws = None } in
    let there = (position-Some (λ (n : NodeLine). n.no == node) s.nodes j none is).0 in
    shows_at s T node j (get_or s.nodes j none) (slice_get-get_or s.nodes j none there) is
