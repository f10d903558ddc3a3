use Rattle.std.proofs.Common.{◌≡◌, ◌+◌}
use Rattle.t1s_capture.specs.declared.stage.Stage.TheVariants.{InBurst}
use Rattle.t1s_capture.specs.Ranges.{Fits}
use Rattle.t1s_capture.specs.StepAnswers.{decoder_at}
use Rattle.t1s_capture.proofs.Feeding.{IsFedTo}
use Rattle.t1s_capture.proofs.progress.Progress.nibbles.Given as goal

abbrev pub invariant-loop-place : goal.invariant-loop-place
invariant-loop-place l = record {
  fits : Fits l.self (InBurst l.burst);
  so_far : IsFedTo (decoder_at l.initial.self (InBurst l.fn.burst)) l.octets l.place l.self (InBurst l.burst);
  taken : l.self.taken ≡ l.initial.self.taken + l.place;
}
