use Rattle.std.proofs.Common.{ℕ, ◌+◌, ◌≤◌, List, ◌++◌, take}
use Rattle.t1s_drawing.specs.Drawn.{Drawn}
use Rattle.t1s_drawing.specs.DrawSteps.{octets_left}
use Rattle.t1s_drawing.proofs.drawing.Drawing.take_piece.Given as goal

abbrev pub invariant-loop-octet : goal.invariant-loop-octet
invariant-loop-octet g l = record {
  so_far : (first : g.row.K.Denot) (octets : List ℕ) → Drawn g.K.Sink.written g.K.Sink.faults l.w octets l.initial.self first l.initial.sink →
      Drawn g.K.Sink.written g.K.Sink.faults l.w (octets ++ take l.octet-index l.piece) l.self first l.sink;
  number : l.self.number ≤ 1073741825;
  further : octets_left l.self + l.octet-index ≤ octets_left l.initial.self;
}
