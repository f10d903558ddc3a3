use Rattle.std.proofs.Common.{◌+◌}
use Rattle.t1s_mac.specs.DeferenceTable.{may_start}
use Rattle.t1s_mac.specs.Laws.{run_of}
use Rattle.t1s_mac.proofs.FrameEnds.{sent_row}
use Rattle.t1s_mac.proofs.Runs.{run_stands}
use Rattle.t1s_mac.proofs.laws.sends_whole_frame.Goals as goal

pub returns : goal.returns
returns g c queue draws earlier carrier collision =
    let run = run_of g.D.Draws.answer g.D.Draws.after queue draws earlier in
    sent_row run.mac.phase run.mac.queue run.mac.attempts (may_start run.mac.deference carrier) collision
    (g.D.Draws.answer run.mac.draws (run.mac.attempts + 1)) run.steps
    (run_stands g.D.Draws.answer g.D.Draws.after queue draws earlier)
