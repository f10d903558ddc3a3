use Rattle.std.proofs.Common.{ℕ, ◌-◌, ◌≤◌, List, ◌++◌, length, take}
use Rattle.t1s_cli.specs.DecodeProgress.{DecodeProgress}
use Rattle.t1s_cli.proofs.decode_command.decode_piece.Given as goal

abbrev pub decreases-loop-at : goal.decreases-loop-at
decreases-loop-at g l = length l.piece - l.at

abbrev pub invariant-loop-at : goal.invariant-loop-at
invariant-loop-at g l = record {
  within : l.at ≤ length l.piece;
  so_far : (first : g.row.K.Denot) (octets : List ℕ) → DecodeProgress g.K.Sink.written g.K.Sink.faults octets l.initial.decoder first l.initial.sink →
      DecodeProgress g.K.Sink.written g.K.Sink.faults (octets ++ take l.at l.piece) l.decoder first l.sink;
}
