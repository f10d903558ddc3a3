use Rattle.std.proofs.Common.{◌≡◌, ℕ, ◌^◌, ◌-◌, List, length}
use Rattle.t1s_base.specs.Octets.{Gives}
use Rattle.t1s_cli.specs.DecodeProgress.{DecodeProgress}
use Rattle.t1s_cli.proofs.decode_command.decode_command.Given as goal

abbrev pub invariant-loop-decoder : goal.invariant-loop-decoder
invariant-loop-decoder g l = record {
  so_far : (octets : List ℕ) × DecodeProgress g.K.Sink.written g.K.Sink.faults octets l.decoder l.initial.sink l.sink
      × Gives (g.S.Source.left l.initial.source) (g.S.Source.left l.source) octets;
  kept : g.S.Source.faults l.source ≡ g.S.Source.faults l.initial.source;
  room : length l.piece ≡ 4096;
}

abbrev pub decreases-loop-decoder : goal.decreases-loop-decoder
decreases-loop-decoder g l = 2 ^ 30 - l.decoder.taken
