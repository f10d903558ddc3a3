use Rattle.t1s_pcs_rx.proofs.Ended.{ended_gives_no_event, nothing_ends_burst}
use Rattle.t1s_pcs_rx.proofs.laws.ended_gives_no_event.Goals as goal

pub returns-clause-ended : goal.returns-clause-ended
returns-clause-ended c = ended_gives_no_event

pub returns-clause-nothing : goal.returns-clause-nothing
returns-clause-nothing c = nothing_ends_burst
