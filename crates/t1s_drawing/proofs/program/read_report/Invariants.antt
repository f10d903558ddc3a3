use Rattle.std.proofs.Common.{◌≡◌, ◌≤◌, ℕ, List, [], length}
use Rattle.t1s_base.specs.Octets.{Gives}
use Rattle.t1s_drawing.specs.Drawn.{Drawn}
use Rattle.t1s_drawing.specs.DrawSteps.{octets_left}
use Rattle.t1s_drawing.proofs.program.read_report.Given as goal

abbrev pub invariant-loop-drawing : goal.invariant-loop-drawing
invariant-loop-drawing g l = record {
  so_far : (octets : List ℕ)
      × ((first : g.row.K.Denot) → Drawn g.K.Sink.written g.K.Sink.faults l.w [] l.initial.drawing first l.initial.sink → Drawn g.K.Sink.written g.K.Sink.faults l.w octets l.drawing first l.sink)
      × Gives (g.S.Source.left l.initial.source) (g.S.Source.left l.source) octets;
  number : l.drawing.number ≤ 1073741825;
  kept : g.S.Source.faults l.source ≡ g.S.Source.faults l.initial.source;
  room : length l.piece ≡ 4096;
}

abbrev pub decreases-loop-drawing : goal.decreases-loop-drawing
decreases-loop-drawing g l = octets_left l.drawing
