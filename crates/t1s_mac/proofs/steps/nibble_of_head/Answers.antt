use Rattle.std.proofs.Common.{ap, ◌∙◌, unwrap_or}
use Rattle.t1s_mac.proofs.HeadNibbles.{head_nibble, head_nibbles_some}
use Rattle.t1s_mac.proofs.steps.nibble_of_head.Goals as goal

pub returns-clause-nibble : goal.returns-clause-nibble
returns-clause-nibble c =
    c.unwrap_or.ensures ∙ ap (λ o. unwrap_or o 0) c.nibble_at.ensures.value
    ∙ head_nibble c.args.ring.now c.head.result.now c.args.place c.head.ensures.head

pub returns-clause-some : goal.returns-clause-some
returns-clause-some c = head_nibbles_some c.args.ring.now c.head.result.now c.head.ensures.head
