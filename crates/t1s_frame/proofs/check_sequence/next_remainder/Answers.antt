use Rattle.std.proofs.Common.{◌/◌, ◌%◌, replicate, ap, ◌∙◌, sym, arith}
use Rattle.std.specs.Int.Bits.{bit_xor, and_mask}
use Rattle.std.specs.List.{fold}
use Rattle.t1s_frame.specs.FrameCheck.{check_bit}
use Rattle.t1s_frame.proofs.CheckSteps.{fold-octet}
use Rattle.t1s_frame.proofs.check_sequence.next_remainder.Goals as goal

pub returns : goal.returns
returns c =
    ap (λ s. bit_xor s (c.args.remainder / 256))
    (c.table_entry.ensures
    ∙ ap (λ s. fold check_bit s (replicate 8 0))
    (and_mask (bit_xor c.args.remainder c.from.result) 8 ∙ ap (λ x. bit_xor c.args.remainder x % 256) c.from.ensures))
    ∙ sym (fold-octet c.args.remainder c.args.octet (omega arith))
