use Rattle.std.proofs.Common.{◌≤◌, ◌-◌, length}
use Rattle.t1s_capture.specs.Ranges.{Fits}
use Rattle.t1s_capture.specs.StepAnswers.{decoder_at}
use Rattle.t1s_capture.proofs.Feeding.{IsFedTo}
use Rattle.t1s_capture.proofs.progress.Progress.run.Given as goal

abbrev pub invariant-loop-at : goal.invariant-loop-at
invariant-loop-at l = record {
  within : l.at ≤ length l.octets;
  fits : Fits l.self l.stage;
  so_far : IsFedTo (decoder_at l.initial.self l.fn.stage) l.octets l.at l.self l.stage;
}

abbrev pub decreases-loop-at : goal.decreases-loop-at
decreases-loop-at l = length l.octets - l.at
