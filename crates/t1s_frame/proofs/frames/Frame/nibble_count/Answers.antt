use Rattle.std.proofs.Common.{◌+◌, ◌*◌, length, ap, sym, ◌∙◌}
use Rattle.t1s_frame.proofs.Nibbles.{length-nibble_list}
use Rattle.t1s_frame.proofs.frames.Frame.nibble_count.Goals as goal

pub returns-clause-nibbles : goal.returns-clause-nibbles
returns-clause-nibbles c =
    ap (λ xs. 16 + 2 * length xs) c.octets.ensures.value ∙ sym (length-nibble_list c.args.self.now)
