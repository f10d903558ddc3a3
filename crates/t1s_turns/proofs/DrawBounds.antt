-- The draws of either kind are below their bound.
use Rattle.std.proofs.Common.{rules}
use Rattle.t1s_mac.specs.PickedDraws.{picked_answer}
use Rattle.t1s_node.specs.Runs.{DrawsAreBounded}

pub picked_draws : DrawsAreBounded picked_answer
picked_draws draws attempt = search rules
