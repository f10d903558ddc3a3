use Rattle.std.proofs.Common.{arith, ◌+◌, ℕ}
use Rattle.t1s_turns.specs.NodeOverWaves.{cycle_of}
use Rattle.t1s_turns.specs.OwnRun.{longest_run}
use Rattle.t1s_turns.specs.StartBound.{longest_opportunity, start_bound}
use Rattle.t1s_turns.proofs.LeavingInTime.{leaves_in_time}
use Rattle.t1s_turns.proofs.laws.leaves_in_time.Goals as goal

pub returns : goal.returns
returns c set room draws given begin end ws is_set low_ids own_id owned frames waves hears burst span most f q u active there within =
    let unit : ℕ = longest_opportunity (cycle_of set) (longest_run burst) span + 20 in
    leaves_in_time set is_set low_ids own_id owned room draws given frames begin end ws waves hears (longest_run burst) unit most (omega arith)
    (start_bound (cycle_of set) (longest_run burst) span) (omega arith) q f u active there within
