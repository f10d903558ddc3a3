use Rattle.std.proofs.Common.{Ok}
use Rattle.t1s_base.specs.declared.sources.Failed.{Failed}
use Rattle.t1s_drawing.specs.Calls.{Wrote}
use Rattle.t1s_drawing.specs.Pieces.{each_text, piece_text}
use Rattle.t1s_drawing.proofs.writing.write_each.Given as goal

abbrev pub invariant-loop-row : goal.invariant-loop-row
invariant-loop-row g l = Wrote {T = Unit {0}} {E = Failed} g.K.Sink.written g.K.Sink.faults (each_text (piece_text l.piece l.w l.progress) l.row) l.initial.sink l.sink (Ok tt)
