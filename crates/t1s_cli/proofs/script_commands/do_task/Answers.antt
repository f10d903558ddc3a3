use Rattle.std.proofs.Common.{sym, ◌∙◌}
use Rattle.t1s_cli.proofs.TaskAnswers.{node_below}
use Rattle.t1s_cli.proofs.script_commands.do_task.Goals as goal

pub capture_script-requires-clause-node : goal.capture_script-requires-clause-node
capture_script-requires-clause-node g c =
    node_below c.args.script.now c.in-Capture.node c.requires (sym c.has_node.ensures ∙ c.if-has_node.true)
